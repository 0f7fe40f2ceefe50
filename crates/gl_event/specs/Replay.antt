-- What cells make of a list.
use Rattle.std.specs.Prelude.{◌+◌, ◌++◌, ℕ, List, [], ◌∷◌, take, drop}
use Rattle.spec_value.specs.Tree.{Tree}
use Rattle.spec_lists.specs.Cells.{Cell, keep, update, delete, insert}

abbrev pub applied_cells : List Cell → List Tree → List Tree
applied_cells [] xs = []
applied_cells (keep n ∷ cs) xs = take n xs ++ applied_cells cs (drop n xs)
applied_cells (update v w ∷ cs) xs = w ∷ applied_cells cs (drop 1 xs)
applied_cells (delete v ∷ cs) xs = applied_cells cs (drop 1 xs)
applied_cells (insert w ∷ cs) xs = w ∷ applied_cells cs xs

-- how many elements of the old list cells have
abbrev pub old_count : List Cell → ℕ
old_count [] = 0
old_count (keep n ∷ cs) = n + old_count cs
old_count (update v w ∷ cs) = 1 + old_count cs
old_count (delete v ∷ cs) = 1 + old_count cs
old_count (insert w ∷ cs) = old_count cs
