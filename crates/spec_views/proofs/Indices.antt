-- Where numbers stand in a list of them.
use Rattle.std.proofs.Common.{◌≡◌, ◌≢◌, ◌∙◌, ℕ, zero, suc, ◌<◌, List, [], ◌∷◌, length, refl, ap, sym, arith, inl, inr}
use Rattle.std.specs.Prelude.{Some, slice_get}
use Rattle.std.proofs.lemmas.Bool.{cases_eq, eq-eqb, ne_eqb}
use Rattle.spec_views.specs.Sorted.{index_of}
use Rattle.spec_views.proofs.SortedPositions.{In, In_at, Distinct, every_in}

-- where a number stands that is one of a list
pub index_found : (i : ℕ) (js : List ℕ) → In i js → slice_get js (index_of i js) ≡ Some i
index_found i [] found = absurd found
index_found i (j ∷ js) (inl same) = rw (eq-eqb j i (sym same)) (ap Some (sym same))
index_found i (j ∷ js) (inr later) = elim (cases_eq j i) [
  | inl same ↦ rw (eq-eqb j i same) (ap Some same)
  | inr other ↦ rw (ne_eqb j i other) (index_found i js later)
]

-- and of a list of distinct numbers the one at a place stands there
pub index_placed : (js : List ℕ) (k i : ℕ) → Distinct js → slice_get js k ≡ Some i → index_of i js ≡ k
index_placed [] k i d e = absurd cc
index_placed (j ∷ js) zero i d e = let same : j ≡ i = cc in rw (eq-eqb j i same) refl
index_placed (j ∷ js) (suc k) i d e =
    let other : i ≢ j = every_in (λ m. m ≢ j) js i d.0 (In_at js k i e) in
    rw (ne_eqb j i (λ f. other (sym f))) (ap suc (index_placed js k i d.1 e))

-- at each place of a list stands a number
pub get_within : (js : List ℕ) (k : ℕ) → k < length js → (i : ℕ) × (slice_get js k ≡ Some i)
get_within [] k h = absurd (omega (arith, h))
get_within (j ∷ js) zero h = (j, refl)
get_within (j ∷ js) (suc k) h = get_within js k (omega (arith, h))
