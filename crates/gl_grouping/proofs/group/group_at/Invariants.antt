use Rattle.std.proofs.Common.{◌≡◌, ◌≤◌, ◌++◌, map}
use Rattle.spec_sorting.specs.Source.{element_at}
use Rattle.gl_grouping.proofs.Groups.{between}
use Rattle.gl_grouping.proofs.group.group_at.Given as goal

-- the members so far and those that are left are all of them
abbrev pub invariant-loop-place : goal.invariant-loop-place
invariant-loop-place g l =
    l.members ++ map (element_at (g.S.Shelf.items l.input)) (between l.classes.list.tree.places l.place l.end)
    ≡ map (element_at (g.S.Shelf.items l.input)) (between l.classes.list.tree.places l.start l.end)
