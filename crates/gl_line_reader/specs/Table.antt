-- Tables of words, as the code has them.
use Rattle.std.specs.Prelude.{ℕ, List, [], ◌∷◌}
use Rattle.std.proofs.Common.{Bor}

abbrev pub rows_of : {K : Type 0} → List (Bor (List ℕ) × K) → List (List ℕ × K)
rows_of [] = []
rows_of (row ∷ rows) = (row.0.now, row.1) ∷ rows_of rows
