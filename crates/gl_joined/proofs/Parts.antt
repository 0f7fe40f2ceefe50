-- Telling of a part, element by element.
use Rattle.std.specs.Prelude.{◌≡◌, ℕ, ◌+◌, ◌≤◌, List, [], ◌∷◌, ◌++◌, length, map, drop, slice_get, Some}
use Rattle.std.proofs.Common.{ap}
use Rattle.std.proofs.lemmas.List.{drop_all}
use Rattle.spec_value.specs.Tree.{Tree}
use Rattle.spec_lists.specs.Piece.{Piece}
use Rattle.gl_kernel.proofs.ReadValues.{drop_at}

-- what is left to tell, and one element of it
pub part_split : (f : Tree → Piece) (xs : List Tree) (i : ℕ) (x : Tree) → slice_get xs i ≡ Some x
    → map f (drop i xs) ≡ (f x ∷ []) ++ map f (drop (i + 1) xs)
part_split f xs i x e = ap (map f) (drop_at xs i x e)

pub part_none : (f : Tree → Piece) (xs : List Tree) (i : ℕ) → length xs ≤ i → map f (drop i xs) ≡ []
part_none f xs i h = ap (map f) (drop_all i xs h)
