use Rattle.gl_ranktree.proofs.Vacancies.{hung}
use Rattle.gl_ranktree.proofs.slots.hang.Goals as goal

pub insert-top-requires : goal.insert-top-requires
insert-top-requires g c = c.requires

pub returns : goal.returns
returns g c = λ t can. hung g.S.Summary.sums _ _ _ _ _ _ _ t can (c.insert-top.ensures t can) c.set_parent.ensures
