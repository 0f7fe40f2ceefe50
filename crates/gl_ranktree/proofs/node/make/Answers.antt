use Rattle.gl_ranktree.proofs.Links.{made}
use Rattle.gl_ranktree.proofs.node.make.Goals as goal

pub returns : goal.returns
returns g c = λ l r s near. made _ _ _ _ _ _ _ _ _ _ _ s near (c.joint-above.ensures l r s) c.set_parent.ensures c.set_parent-2.ensures c.put.ensures
