-- The value that a delta tells of an old element is its own.
use Rattle.std.proofs.Common.{◌≡◌, ◌⊎◌, ◌∙◌, ℕ, zero, suc, List, [], ◌∷◌, Some, refl, sym, inl, inr}
use Rattle.std.specs.List.{slice_get}
use Rattle.spec_sorting.specs.Tree.{Tree}
use Rattle.spec_sorting.specs.Piece.{Piece, kept, updated, deleted, inserted}
use Rattle.spec_sorting.specs.Sides.{Item, plain, changed, lone, olds}
use Rattle.spec_sorting.specs.Leads.{LeadsFrom}
use Rattle.spec_sorting.specs.Source.{element_at}

old_told_by : (i j : ℕ) (ps : List Piece) (xs : List Tree) (v : Tree) (t : Item) → (t ≡ lone v) ⊎ ((k : ℕ) × (t ≡ changed k v)) → LeadsFrom ps xs → slice_get (olds j ps) i ≡ Some t → v ≡ element_at xs i
old_told_by i j [] xs v t told leads e = absurd cc
old_told_by i j (kept ∷ ps) [] v t told leads e = absurd leads
old_told_by zero j (kept ∷ ps) (x ∷ xs) v t told leads e = absurd (elim told [ inl a ↦ not_lone j v t e a | inr b ↦ not_changed j b.0 v t e b.1 ])
  where
    not_lone : (j : ℕ) (v : Tree) (t : Item) → Some (plain j) ≡ Some t → t ≡ lone v → ⊥
    not_lone j v t e a = absurd cc

    not_changed : (j k : ℕ) (v : Tree) (t : Item) → Some (plain j) ≡ Some t → t ≡ changed k v → ⊥
    not_changed j k v t e a = absurd cc
old_told_by (suc i) j (kept ∷ ps) (x ∷ xs) v t told leads e = old_told_by i (suc j) ps xs v t told leads e
old_told_by i j (updated w u ∷ ps) [] v t told leads e = absurd leads
old_told_by zero j (updated w u ∷ ps) (x ∷ xs) v t told leads e = elim told [ inl a ↦ absurd (not_lone j w v t e a) | inr b ↦ is_changed j b.0 w v t e b.1 ∙ sym leads.0 ]
  where
    not_lone : (j : ℕ) (w v : Tree) (t : Item) → Some (changed j w) ≡ Some t → t ≡ lone v → ⊥
    not_lone j w v t e a = absurd cc

    is_changed : (j k : ℕ) (w v : Tree) (t : Item) → Some (changed j w) ≡ Some t → t ≡ changed k v → v ≡ w
    is_changed j k w v t e a = cc
old_told_by (suc i) j (updated w u ∷ ps) (x ∷ xs) v t told leads e = old_told_by i (suc j) ps xs v t told leads.1 e
old_told_by i j (deleted w ∷ ps) [] v t told leads e = absurd leads
old_told_by zero j (deleted w ∷ ps) (x ∷ xs) v t told leads e = elim told [ inl a ↦ is_lone w v t e a ∙ sym leads.0 | inr b ↦ absurd (not_changed b.0 w v t e b.1) ]
  where
    is_lone : (w v : Tree) (t : Item) → Some (lone w) ≡ Some t → t ≡ lone v → v ≡ w
    is_lone w v t e a = cc

    not_changed : (k : ℕ) (w v : Tree) (t : Item) → Some (lone w) ≡ Some t → t ≡ changed k v → ⊥
    not_changed k w v t e a = absurd cc
old_told_by (suc i) j (deleted w ∷ ps) (x ∷ xs) v t told leads e = old_told_by i j ps xs v t told leads.1 e
old_told_by i j (inserted w ∷ ps) xs v t told leads e = old_told_by i (suc j) ps xs v t told leads e

pub old_told : (ps : List Piece) (xs : List Tree) (i : ℕ) (v : Tree) → LeadsFrom ps xs → (slice_get (olds 0 ps) i ≡ Some (lone v)) ⊎ ((k : ℕ) × (slice_get (olds 0 ps) i ≡ Some (changed k v))) → v ≡ element_at xs i
old_told ps xs i v leads told =
    elim told [
      | inl a ↦ old_told_by i 0 ps xs v (lone v) (inl refl) leads a
      | inr b ↦ old_told_by i 0 ps xs v (changed b.0 v) (inr (b.0, refl)) leads b.1
    ]
