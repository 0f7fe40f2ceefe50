-- The elements of a list in order, spread out between the spots of those that changed.
use Rattle.std.proofs.Common.{◌≡◌, ◌≢◌, ◌∙◌, ℕ, zero, suc, ◌+◌, ◌-◌, ◌<◌, ◌≤◌, List, [], ◌∷◌, ◌++◌, length, map, refl, ap, subst, arith, inl, inr}
use Rattle.std.specs.Prelude.{Some, slice_get, replicate}
use Rattle.std.specs.List.{AllByRecursion as Each}
use Rattle.std.proofs.lemmas.Bool.{cases_eq, cases_lt}
use Rattle.spec_lists.specs.Sides.{Item}
use Rattle.spec_sorting.specs.Moves.{IsRising}
use Rattle.spec_sorting.specs.Merged.{Spot, plain_one, item_of, spread, next_position, AreLeft}
use Rattle.spec_sorting.proofs.Partners.{each_weaker, each_both}

-- the next one isn't before place x, nor past the end
pub next_from : (x n : ℕ) (ss : List Spot) → AreLeft x n ss → (x ≤ next_position n ss) × (next_position n ss ≤ n)
next_from x n [] left = (left.onward, omega arith)
next_from x n (s ∷ ss) left = let less = left.low.0 in (left.rise.0, omega (arith, less))

-- before the next spot there are plain ones
pub plain_first : (x n : ℕ) (ss : List Spot) → AreLeft x n ss → x < next_position n ss
    → (spread x n ss ≡ plain_one ∷ spread (suc x) n ss) × AreLeft (suc x) n ss
plain_first x n [] left less =
    let e : n - x ≡ suc (n - suc x) = omega (arith, less) in
    (ap (λ k. replicate k plain_one) e, record { onward = less; rise = tt; low = tt })
plain_first x n (s ∷ ss) left less =
    let e : s.place - x ≡ suc (s.place - suc x) = omega (arith, less) in
    let small = left.low.0 in (
      ap (λ k. replicate k plain_one ++ item_of s ∷ spread (suc s.place) n ss) e,
      record { onward = omega (arith, less, small); rise = (less, left.rise.1); low = left.low },
    )

-- a spot at the place itself
pub spot_first : (x n : ℕ) (s : Spot) (ss : List Spot) → AreLeft x n (s ∷ ss) → s.place ≡ x
    → (spread x n (s ∷ ss) ≡ item_of s ∷ spread (suc x) n ss) × AreLeft (suc x) n ss
spot_first x n s ss left at =
    let e : s.place - x ≡ 0 = omega (arith, at) in
    let next : suc s.place ≡ suc x = ap suc at in
    let small = left.low.0 in (
      ap (λ k. replicate k plain_one ++ item_of s ∷ spread (suc s.place) n ss) e ∙ ap (λ k. item_of s ∷ spread k n ss) next,
      record { onward = omega (arith, small, at); rise = subst (λ k. IsRising k (map (λ t. t.place) ss)) next left.rise.1; low = left.low.1 },
    )

pub none_left : (n : ℕ) → spread n n [] ≡ []
none_left n = let e : n - n ≡ 0 = omega arith in ap (λ k. replicate k plain_one) e

-- how the elements from place x on begin
pub data Begins (x n : ℕ) (ss : List Spot) : Type 0 where
  ended : x ≡ n → ss ≡ [] → Begins x n ss
  with_plain : x < next_position n ss → Begins x n ss
  with_spot : (s : Spot) (rest : List Spot) → ss ≡ s ∷ rest → s.place ≡ x → Begins x n ss

pub begins : (x n : ℕ) (ss : List Spot) → AreLeft x n ss → Begins x n ss
begins x n [] left = elim (cases_lt x n) [
  | inl less ↦ with_plain less
  | inr more ↦ let low = left.onward in ended (omega (arith, more, low)) refl
]
begins x n (s ∷ ss) left = elim (cases_eq s.place x) [
  | inl same ↦ with_spot s ss refl same
  | inr other ↦ let low = left.rise.0 in with_plain (omega (arith, low, other))
]

-- there are as many as are left
pub length_spread : (m x n : ℕ) (ss : List Spot) → AreLeft x n ss → x + m ≡ n → length (spread x n ss) ≡ m
length_spread zero x n ss left is = none (begins x n ss left)
  where
    none : Begins x n ss → length (spread x n ss) ≡ 0
    none (ended end empty) = rw empty (ap length (ap (λ k. spread k n []) end ∙ none_left n))
    none (with_plain less) = let low = (next_from x n ss left).1 in absurd (omega (arith, less, low, is))
    none (with_spot s rest cut at) = let low = (subst (AreLeft x n) cut left).low.0 in absurd (omega (arith, low, at, is))
length_spread (suc m) x n ss left is =
    more (begins x n ss left) (λ us next. length_spread m (suc x) n us next (omega (arith, is)))
  where
    more : Begins x n ss → ((us : List Spot) → AreLeft (suc x) n us → length (spread (suc x) n us) ≡ m) → length (spread x n ss) ≡ suc m
    more (ended end empty) rest = absurd (omega (arith, end, is))
    more (with_plain less) rest = let to = plain_first x n ss left less in ap length to.0 ∙ ap suc (rest ss to.1)
    more (with_spot s us cut at) rest =
        let to = spot_first x n s us (subst (AreLeft x n) cut left) at in
        ap (λ ts. length (spread x n ts)) cut ∙ (ap length to.0 ∙ ap suc (rest us to.1))

run_at : {X : Type 0} (u : X) (m k : ℕ) (us : List X) → k < m → slice_get (replicate m u ++ us) k ≡ Some u
run_at u zero k us less = absurd (omega (arith, less))
run_at u (suc m) zero us less = refl
run_at u (suc m) (suc k) us less = run_at u m k us (omega (arith, less))

only_run_at : {X : Type 0} (u : X) (m k : ℕ) → k < m → slice_get (replicate m u) k ≡ Some u
only_run_at u zero k less = absurd (omega (arith, less))
only_run_at u (suc m) zero less = refl
only_run_at u (suc m) (suc k) less = only_run_at u m k (omega (arith, less))

past_run : {X : Type 0} (u : X) (m k : ℕ) (us : List X) (i : ℕ) → i ≡ m + k → slice_get (replicate m u ++ us) i ≡ slice_get us k
past_run u zero k us i is = let same : i ≡ k = omega (arith, is) in ap (slice_get us) same
past_run u (suc m) k us zero is = absurd (omega (arith, is))
past_run u (suc m) k us (suc i) is = past_run u m k us i (omega (arith, is))

-- each spot stands at its place
abbrev pub ShowsSpot : ℕ → List Item → Spot → Type 0
ShowsSpot x us s = (k : ℕ) → s.place ≡ x + k → slice_get us k ≡ Some (item_of s)

pub spots_shown : (x n : ℕ) (ss : List Spot) → IsRising x (map (λ s. s.place) ss) → Each (ShowsSpot x (spread x n ss)) ss
spots_shown x n [] rise = tt
spots_shown x n (s ∷ ss) rise = (
  λ k at. past_run plain_one (s.place - x) 0 (item_of s ∷ spread (suc s.place) n ss) k (omega (arith, at)),
  each_weaker (λ t. ShowsSpot (suc s.place) (spread (suc s.place) n ss) t × (suc s.place ≤ t.place)) (ShowsSpot x (spread x n (s ∷ ss))) later ss (each_both _ _ _ (λ t a b. (a, b)) ss (spots_shown (suc s.place) n ss rise.1) (from_position (suc s.place) ss rise.1)),
)
  where
    from_position : (low : ℕ) (ts : List Spot) → IsRising low (map (λ t. t.place) ts) → Each (λ t. low ≤ t.place) ts
    from_position low [] up = tt
    from_position low (t ∷ ts) up = (up.0, each_weaker _ _ (λ u h. omega (arith, h, up.0)) ts (from_position (suc t.place) ts up.1))

    later : (t : Spot) → ShowsSpot (suc s.place) (spread (suc s.place) n ss) t × (suc s.place ≤ t.place) → ShowsSpot x (spread x n (s ∷ ss)) t
    later t h k at =
        past_run plain_one (s.place - x) (suc (t.place - suc s.place)) (item_of s ∷ spread (suc s.place) n ss) k (omega (arith, at, h.1, rise.0))
        ∙ h.0 (t.place - suc s.place) (omega (arith, h.1))

-- and all others are plain
pub plain_shown : (x n : ℕ) (ss : List Spot) → IsRising x (map (λ s. s.place) ss) → (k : ℕ) → x + k < n → Each (λ s. s.place ≢ x + k) ss
    → slice_get (spread x n ss) k ≡ Some plain_one
plain_shown x n [] rise k less apart = only_run_at plain_one (n - x) k (omega (arith, less))
plain_shown x n (s ∷ ss) rise k less apart = elim (cases_lt (x + k) s.place) [
  | inl before ↦ run_at plain_one (s.place - x) k (item_of s ∷ spread (suc s.place) n ss) (omega (arith, before))
  | inr remaining ↦
      let other = apart.0 in
      let far : s.place < x + k = omega (arith, remaining, other) in
      let low = rise.0 in
      let at : suc s.place + (x + k - suc s.place) ≡ x + k = omega (arith, far) in
      past_run plain_one (s.place - x) (suc (x + k - suc s.place)) (item_of s ∷ spread (suc s.place) n ss) k (omega (arith, far, low))
      ∙ plain_shown (suc s.place) n ss rise.1 (x + k - suc s.place) (omega (arith, far, less)) (each_weaker _ _ (λ t ne e. ne (e ∙ at)) ss apart.1)
]
