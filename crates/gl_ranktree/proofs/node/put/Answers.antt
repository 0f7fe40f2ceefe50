use Rattle.gl_ranktree.proofs.Links.{Puts-set}
use Rattle.gl_ranktree.proofs.node.put.Goals as goal

pub returns : goal.returns
returns g c = Puts-set _ _ _ _ c.requires
