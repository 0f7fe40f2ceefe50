-- Places are those of the order.
use Rattle.std.proofs.Common.{◌≡◌, ◌≢◌, ◌∙◌, ℕ, zero, suc, ◌+◌, ◌<◌, ◌≤◌, Bool, true, false, ltb, List, [], ◌∷◌, length, slice_set, refl, ap, sym, arith}
use Rattle.std.specs.Prelude.{slice_index}
use Rattle.std.proofs.lemmas.Bool.{ltb-true, ltb-false}
use Rattle.gl_graph.specs.Positions.{AreBelow, AreDistinct, ArePositions}

index_here : (xs : List ℕ) (k v : ℕ) → k < length xs → slice_index (slice_set xs k v) k ≡ v
index_here [] k v h = absurd (omega (arith, h))
index_here (x ∷ xs) zero v h = refl
index_here (x ∷ xs) (suc k) v h = index_here xs k v (omega arith)

index_other : (xs : List ℕ) (j k v : ℕ) → k ≢ j → slice_index (slice_set xs j v) k ≡ slice_index xs k
index_other [] j k v h = refl
index_other (x ∷ xs) zero zero v h = absurd (h refl)
index_other (x ∷ xs) zero (suc k) v h = refl
index_other (x ∷ xs) (suc j) zero v h = refl
index_other (x ∷ xs) (suc j) (suc k) v h = index_other xs j k v (λ e. h (ap suc e))

pub positions_more : (positions order : List ℕ) (n m : ℕ) → AreBelow n order → AreDistinct order → length positions ≡ n → m < length order → ArePositions positions order m
    → ArePositions (slice_set positions (slice_index order m) m) order (m + 1)
positions_more positions order n m below distinct long within h p less = by_position (ltb p m) refl
  where
    here : slice_index order m < length positions
    here = let low : slice_index order m < n = below m within in omega (arith, low, long)

    by_position : (t : Bool) → ltb p m ≡ t → slice_index (slice_set positions (slice_index order m) m) (slice_index order p) ≡ p
    by_position true e =
        let lower : p < m = ltb-true p m e in
        index_other positions (slice_index order m) (slice_index order p) m (λ same. let equal : p ≡ m = distinct p m (omega (arith, lower, within)) within same in omega (arith, lower, equal)) ∙ h p lower
    by_position false e =
        let high : m ≤ p = ltb-false p m e in
        let same : p ≡ m = omega (arith, high, less) in
        ap (λ q. slice_index (slice_set positions (slice_index order m) m) (slice_index order q)) same ∙ (index_here positions (slice_index order m) m here ∙ sym same)
