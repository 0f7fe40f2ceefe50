use Rattle.std.proofs.Common.{◌≡◌, ◌≤◌, List, length, take}
use Rattle.std.specs.List.{slice_get}
use Rattle.spec_states.specs.Tree.{Tree}
use Rattle.spec_states.specs.Shown.{undone_all}
use Rattle.spec_states.specs.Laws.{LedTo}
use Rattle.gl_held.specs.Levels.{IsShown}
use Rattle.gl_held.proofs.levels.Levels.find.Given as goal

-- the element that is looked for is the one there of what the levels that are left show
abbrev pub invariant-levels : goal.invariant-levels
invariant-levels l = record {
  within : l.left ≤ length l.self.levels;
  shown : IsShown l.at (take l.left l.self.levels);
  same : (ys : List Tree) → LedTo l.self.levels ys
      → slice_get (undone_all (take l.left l.self.levels) ys) l.at ≡ slice_get (undone_all l.self.levels ys) l.position;
}

abbrev pub decreases-levels : goal.decreases-levels
decreases-levels l = l.left
