-- What the steps of an edit of runs need, and what they leave.
use Rattle.std.specs.Prelude.{◌≡◌, ℕ, ◌+◌, ◌<◌, ◌≤◌, ◌^◌, List, ◌∷◌, ◌++◌, length}
use Rattle.gl_fourcolour.specs.Colours.{removed}
use Rattle.gl_fourcolour.specs.Rows.{Row, expanded, Differs, IsMaximal}
use Rattle.gl_fourcolour.specs.declared.run.Run.{Run}

-- a place between two runs, of which the second one has another colour
pub record SomeBetween (runs : List Run) (at position colour : ℕ) : Type 0 where
  pub prefix : List Run
  pub back : List Run
  pub is : runs ≡ prefix ++ back
  pub position_is : position ≡ length prefix
  pub at_is : at ≡ length (expanded prefix)
  pub differs : Differs colour back

-- maximal runs, of which one stands at this place
pub record SomeRun (bound : ℕ) (runs : List Run) (position : ℕ) : Type 0 where
  pub prefix : List Run
  pub run : Run
  pub back : List Run
  pub is : runs ≡ prefix ++ run ∷ back
  pub position_is : position ≡ length prefix
  pub few_colours : bound ≤ 4
  pub maximal : IsMaximal bound runs
  pub small : length (expanded runs) < 2 ^ 32

-- runs that were maximal before one at this place was taken out
pub record SomeGap (bound : ℕ) (runs : List Run) (position : ℕ) : Type 0 where
  pub prefix : List Run
  pub run : Run
  pub back : List Run
  pub is : runs ≡ prefix ++ back
  pub position_is : position ≡ length prefix
  pub few_colours : bound ≤ 4
  pub maximal : IsMaximal bound (prefix ++ run ∷ back)
  pub small : length (expanded runs) < 2 ^ 32

-- the runs stand for the colours before and after the one that was taken out
pub record TakesOut (bound : ℕ) (old new : Row) (prefix back : List Run) : Type 0 where
  pub maximal : IsMaximal bound new.runs
  pub colours : expanded new.runs ≡ expanded prefix ++ expanded back
  pub fewer : length new.runs ≤ length old.runs
  pub room : new.room ≡ old.room

-- some of the places that are to be taken out are left
pub record Clearing (bound : ℕ) (start now : Row) (at n left : ℕ) : Type 0 where
  pub few_colours : bound ≤ 4
  pub maximal : IsMaximal bound now.runs
  pub in_range : at + left ≤ length (expanded now.runs)
  pub small : length (expanded now.runs) < 2 ^ 32
  pub colours : removed (expanded now.runs) at left ≡ removed (expanded start.runs) at n
  pub fewer : length now.runs ≤ length start.runs
  pub room : now.room ≡ start.room
