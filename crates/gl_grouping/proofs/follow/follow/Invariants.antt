use Rattle.gl_grouping.specs.Following.{groups_of, IsToldTo}
use Rattle.gl_grouping.proofs.follow.follow.Given as goal

abbrev pub invariant-slots : goal.invariant-slots
invariant-slots g l = IsToldTo l.groups.values (groups_of l.classes (g.S.Shelf.items l.input)) l.slots l.slot-index l.at l.plan
