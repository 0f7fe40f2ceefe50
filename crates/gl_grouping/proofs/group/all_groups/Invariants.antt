use Rattle.std.proofs.Common.{◌≡◌, ◌≤◌, length, take}
use Rattle.gl_grouping.specs.Following.{groups_of}
use Rattle.gl_grouping.proofs.group.all_groups.Given as goal

-- the groups so far, and room for all
abbrev pub invariant-loop-class : goal.invariant-loop-class
invariant-loop-class g l = record {
  values : l.groups.values ≡ take l.class (groups_of l.classes (g.S.Shelf.items l.input));
  room : length (groups_of l.classes (g.S.Shelf.items l.input)) ≤ l.groups.room;
}
