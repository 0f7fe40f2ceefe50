-- Short words with which the plans of worked rows are written.
use Rattle.std.specs.Prelude.{ℕ, pos, List, [], map, true, false}
use Rattle.spec_value.specs.Tree.{Tree, num}
use Rattle.spec_lang.specs.Sorting.{Key}

-- the most elements of a list where no line says otherwise
abbrev pub usual_limit : ℕ
usual_limit = 16777216

abbrev pub number : ℕ → Tree
number n = num (pos n)

abbrev pub numbers : List ℕ → List Tree
numbers ns = map number ns

-- by the elements themselves, upwards and downwards
abbrev pub whole_up : Key
whole_up = record { path = []; down = false }

abbrev pub whole_down : Key
whole_down = record { path = []; down = true }
