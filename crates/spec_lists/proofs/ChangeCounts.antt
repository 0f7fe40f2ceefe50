-- How many changes compositions have.
use Rattle.std.proofs.Common.{◌≡◌, ◌∙◌, ℕ, zero, suc, ◌+◌, ◌*◌, ◌≤◌, List, [], ◌∷◌, ◌++◌, length, refl, ap, arith}
use Rattle.spec_value.specs.Tree.{Tree}
use Rattle.spec_lists.specs.Piece.{Piece, kept, updated, deleted, inserted, identity, insert_first, normal, old_len, new_len}
use Rattle.spec_lists.specs.Delta.{composed}
use Rattle.spec_lists.specs.Changes.{changed_len}
use Rattle.spec_lists.specs.Cells.{Cell, keep, update, delete, insert, keep_first, cells_of}
use Rattle.spec_lists.proofs.Merge.{Merge, merge_of, composed_merge, done, gone, come, keep_keep, keep_set, keep_drop, set_keep, set_set, set_drop, new_keep, new_set, new_drop}

pub changed_len-append : (ps qs : List Piece) → changed_len (ps ++ qs) ≡ changed_len ps + changed_len qs
changed_len-append [] qs = omega arith
changed_len-append (kept ∷ ps) qs = changed_len-append ps qs
changed_len-append (updated v w ∷ ps) qs = omega (arith, changed_len-append ps qs)
changed_len-append (deleted v ∷ ps) qs = omega (arith, changed_len-append ps qs)
changed_len-append (inserted w ∷ ps) qs = omega (arith, changed_len-append ps qs)

pub changed_len-identity : (n : ℕ) → changed_len (identity n) ≡ 0
changed_len-identity zero = refl
changed_len-identity (suc n) = changed_len-identity n

pub changed_len-normal : (ps : List Piece) → changed_len (normal ps) ≡ changed_len ps
changed_len-normal [] = refl
changed_len-normal (kept ∷ ps) = changed_len-normal ps
changed_len-normal (updated v w ∷ ps) = ap suc (changed_len-normal ps)
changed_len-normal (deleted v ∷ ps) = ap suc (changed_len-normal ps)
changed_len-normal (inserted w ∷ ps) = first w (normal ps) ∙ ap suc (changed_len-normal ps)
  where
    first : (x : Tree) (qs : List Piece) → changed_len (insert_first x qs) ≡ suc (changed_len qs)
    first x [] = refl
    first x (kept ∷ qs) = refl
    first x (updated v y ∷ qs) = refl
    first x (deleted v ∷ qs) = ap suc (first x qs)
    first x (inserted y ∷ qs) = refl

changed_len-merge : {p q m : List Piece} → Merge p q m → changed_len m ≤ changed_len p + changed_len q
changed_len-merge done = omega arith
changed_len-merge (gone h) = omega (arith, changed_len-merge h)
changed_len-merge (come h) = omega (arith, changed_len-merge h)
changed_len-merge (keep_keep h) = changed_len-merge h
changed_len-merge (keep_set h) = omega (arith, changed_len-merge h)
changed_len-merge (keep_drop h) = omega (arith, changed_len-merge h)
changed_len-merge (set_keep h) = omega (arith, changed_len-merge h)
changed_len-merge (set_set h) = omega (arith, changed_len-merge h)
changed_len-merge (set_drop h) = omega (arith, changed_len-merge h)
changed_len-merge (new_keep h) = omega (arith, changed_len-merge h)
changed_len-merge (new_set h) = omega (arith, changed_len-merge h)
changed_len-merge (new_drop h) = omega (arith, changed_len-merge h)

-- a composition has no more changes than both deltas together
pub changed_len-composed : (p q : List Piece) → new_len p ≡ old_len q → changed_len (composed p q) ≤ changed_len p + changed_len q
changed_len-composed p q e =
    let h : (m : List Piece) × Merge p q m = merge_of (length p + length q) p q (omega arith) e in
    let n : changed_len (composed p q) ≡ changed_len h.0 = ap changed_len (composed_merge h.1) ∙ changed_len-normal h.0 in
    omega (arith, n, changed_len-merge h.1)

pub changed_len-one : (n m : ℕ) (x : Piece) → changed_len (x ∷ []) ≡ 1 → changed_len (identity n ++ x ∷ identity m) ≡ 1
changed_len-one n m x e =
    omega (arith, changed_len-append (identity n) (x ∷ identity m), changed_len-append (x ∷ []) (identity m), changed_len-identity n, changed_len-identity m, e)

first_cells : (cs : List Cell) → length (keep_first (keep_first cs)) ≡ length (keep_first cs)
first_cells [] = refl
first_cells (keep n ∷ cs) = refl
first_cells (update v w ∷ cs) = refl
first_cells (delete v ∷ cs) = refl
first_cells (insert w ∷ cs) = refl

-- between two changes there is one cell at most, and one before the first and after the last
pub record IsCellBound (cs : List Cell) (most : ℕ) : Type 0 where
  pub all : length cs ≤ most
  pub more : length (keep_first cs) ≤ most

pub cells_few : (ps : List Piece) → IsCellBound (cells_of ps) (2 * changed_len ps + 1)
cells_few [] = record { all = omega arith; more = omega arith }
cells_few (kept ∷ ps) = let h = cells_few ps in record { all = h.more; more = omega (arith, first_cells (cells_of ps), h.more) }
cells_few (updated v w ∷ ps) = let h = cells_few ps in record { all = omega (arith, h.all); more = omega (arith, h.all) }
cells_few (deleted v ∷ ps) = let h = cells_few ps in record { all = omega (arith, h.all); more = omega (arith, h.all) }
cells_few (inserted w ∷ ps) = let h = cells_few ps in record { all = omega (arith, h.all); more = omega (arith, h.all) }

first_longer : (cs : List Cell) → length cs ≤ length (keep_first cs)
first_longer [] = omega arith
first_longer (keep n ∷ cs) = omega arith
first_longer (update v w ∷ cs) = omega arith
first_longer (delete v ∷ cs) = omega arith
first_longer (insert w ∷ cs) = omega arith

-- each change has a cell
pub changed_cells : (ps : List Piece) → changed_len ps ≤ length (cells_of ps)
changed_cells [] = omega arith
changed_cells (kept ∷ ps) = omega (arith, changed_cells ps, first_longer (cells_of ps))
changed_cells (updated v w ∷ ps) = omega (arith, changed_cells ps)
changed_cells (deleted v ∷ ps) = omega (arith, changed_cells ps)
changed_cells (inserted w ∷ ps) = omega (arith, changed_cells ps)
