use Rattle.gl_ranktree.proofs.Vacancies.{set_in_done}
use Rattle.gl_ranktree.proofs.slots.set_in.Goals as goal

pub set_own-requires : goal.set_own-requires
set_own-requires g c = c.requires

pub returns : goal.returns
returns g c = λ t vacant free r within. set_in_done g.S.Summary.sums _ _ _ _ _ _ _ t free r (c.set_own.ensures t r.stands within) c.set_parent.ensures
