-- Numbers of names.
use Rattle.std.proofs.Common.{◌≡◌, ℕ, zero, suc, ◌+◌, ◌<◌, Bool, true, false, cond, List, [], ◌∷◌, length, Option, Some, None, refl, sym, ap, subst, ◌∙◌, arith, ltb, not, true≢false}
use Rattle.std.specs.Prelude.{option_map, unwrap_or, position, bytes_eq, slice_get, ⊤}
use Rattle.std.specs.Option.{is_some}
use Rattle.std.specs.List.{prefix_len, IsDistinct, AllByRecursion}
use Rattle.std.proofs.lemmas.Slice.Eq.{bytes_eq-Decides}
use Rattle.std.proofs.lemmas.Bool.{lt-ltb}
use Rattle.std.proofs.lemmas.Option.{none-some, same_Some}
use Rattle.std.proofs.lemmas.Bool.Decides.{nat_tests}
use Rattle.spec_plans.specs.Names.{number_of}
use Rattle.spec_plans.specs.PlanNames.{named}
use Rattle.spec_basics.proofs.Numbers.{ltb-suc}

pub number_step : (t : Bool) (k n : ℕ) → cond (ltb (cond (not t) (1 + k) 0) (suc n)) (Some (cond (not t) (1 + k) 0)) None
    ≡ cond t (Some 0) (option_map suc (cond (ltb k n) (Some k) None))
number_step true k n = let h : ltb 0 (suc n) ≡ true = lt-ltb 0 (suc n) (omega arith) in rw h refl
number_step false k n =
    let e : 1 + k ≡ suc k = omega arith in
    rw (e, ltb-suc k n) (inner (ltb k n))
  where
    inner : (t : Bool) → cond t (Some (suc k)) None ≡ option_map suc (cond t (Some k) None)
    inner true = refl
    inner false = refl

module _ {X : Type 0} (p : X → Bool) where
  -- the first place in a list with an item in front
  pub position_in_prefix : (x : X) (xs : List X) → position p (x ∷ xs)
      ≡ cond (p x) (Some 0) (option_map suc (position p xs))
  position_in_prefix x xs = number_step (p x) (prefix_len (λ y. not (p y)) xs) (length xs)

  -- where there is no place, no item is such
  pub none_such : (xs : List X) → is_some (position p xs) ≡ false → AllByRecursion (λ x. p x ≡ false) xs
  none_such [] e = tt
  none_such (x ∷ xs) e = by (p x) refl (position p xs) refl (ap is_some (sym (position_in_prefix x xs))
      ∙ e) (λ g. none_such xs g)
    where
      by : (t : Bool) → p x ≡ t → (o : Option ℕ) → position p xs ≡ o
          → is_some (cond t (Some 0) (option_map suc o)) ≡ false
          → (is_some (position p xs) ≡ false → AllByRecursion (λ y. p y ≡ false) xs)
          → AllByRecursion (λ y. p y ≡ false) (x ∷ xs)
      by true h o g f rest = absurd (true≢false f)
      by false h None g f rest = (h, rest (ap is_some g))
      by false h (Some k) g f rest = absurd (true≢false f)

-- a name that is found stands at its number
pub Found : List (List ℕ) → List ℕ → Option ℕ → Type 0
Found names name None = ⊤
Found names name (Some k) = slice_get names k ≡ Some name

found : (names : List (List ℕ)) (name : List ℕ) → Found names name (number_of names name)
unfolding Found
found [] name = tt
found (x ∷ xs) name =
    subst (Found (x ∷ xs) name) (sym (position_in_prefix (λ other. bytes_eq other name) x xs))
    (by (bytes_eq x name) refl (number_of xs name) (found xs name))
  where
    by : (t : Bool) → bytes_eq x name ≡ t → (o : Option ℕ) → Found xs name o
        → Found (x ∷ xs) name (cond t (Some 0) (option_map suc o))
    by true h o f = ap Some ((bytes_eq-Decides x name).0 h)
    by false h None f = tt
    by false h (Some k) f = f

pub name_at_number : (names : List (List ℕ)) (name : List ℕ) (k : ℕ) → number_of names name ≡ Some k
    → slice_get names k ≡ Some name
unfolding Found
name_at_number names name k e = subst (Found names name) e (found names name)

pub same_bytes : (x : List ℕ) → bytes_eq x x ≡ true
same_bytes x = (bytes_eq-Decides x x).1 refl

-- an item of a list, by its place
pub all_at : {X : Type 0} (P : X → Type 0) (xs : List X) (k : ℕ) (x : X) → AllByRecursion P xs
    → slice_get xs k ≡ Some x → P x
all_at P [] k x h e = absurd (none-some x e)
all_at P (y ∷ ys) zero x h e = subst P (same_Some y x e) h.0
all_at P (y ∷ ys) (suc k) x h e = all_at P ys k x h.1 e

-- where names are distinct, each is found at its place
pub number_at : (names : List (List ℕ)) (k : ℕ) (name : List ℕ) → IsDistinct bytes_eq names
    → slice_get names k ≡ Some name → number_of names name ≡ Some k
unfolding IsDistinct
number_at [] k name d e = absurd (none-some name e)
number_at (x ∷ xs) zero name d e =
    let same : x ≡ name = same_Some x name e in
    position_in_prefix (λ other. bytes_eq other name) x xs
    ∙ ap (λ t. cond t (Some 0) (option_map suc (number_of xs name))) (ap (λ y. bytes_eq y name) same
    ∙ same_bytes name)
number_at (x ∷ xs) (suc k) name d e =
    position_in_prefix (λ other. bytes_eq other name) x xs
    ∙ ap (λ t. cond t (Some 0) (option_map suc (number_of xs name))) (all_at (λ y. bytes_eq x y
    ≡ false) xs k name d.0 e)
    ∙ ap (option_map suc) (number_at xs k name d.1 e)

-- the name of a number, where there is one, stands for that number
pub number_named : (names : List (List ℕ)) (k : ℕ) → IsDistinct bytes_eq names → k < length names
    → number_of names (named names k).name ≡ Some k
number_named names k d l = by (slice_get names k) refl
  where
    there : (xs : List (List ℕ)) (i : ℕ) → i < length xs → slice_get xs i ≡ None → ⊥
    there [] i l e = absurd (omega (arith, l))
    there (x ∷ xs) zero l e = none-some x (sym e)
    there (x ∷ xs) (suc i) l e = there xs i (omega (arith, l)) e

    by : (o : Option (List ℕ)) → slice_get names k ≡ o → number_of names (unwrap_or (slice_get names k) []) ≡ Some k
    by None e = absurd (there names k l e)
    by (Some name) e = ap (λ o. number_of names (unwrap_or o [])) e ∙ number_at names k name d e
