-- Items of which nothing is said.
use Rattle.std.proofs.Common.{◌≡◌, ◌∙◌, Bool, true, false, ◌||◌, List, [], ◌∷◌, ◌++◌, Option, Some, None, refl, sym, ap, subst, append-nil, append_assoc, true≢false}
use Rattle.std.specs.Prelude.{option_map, option_and_then, map, filter_map}
use Rattle.std.specs.Option.{option_or}
use Rattle.std.specs.List.{cons_option, AllByRecursion, IsDistinct}
use Rattle.std.proofs.lemmas.Option.{none-some}
use Rattle.spec_plans.specs.Along.{first_after}
use Rattle.spec_basics.proofs.Booleans.{left_false, right_false}
use Rattle.spec_basics.proofs.Options.{first_none, second_none, unmapped}
use Rattle.spec_basics.proofs.Lists.{all_weaker, all_map, all_append, all_given}

pub none_of_some : {A B : Type 0} (f : A → Option B) (o : Option A) (a : A) → o ≡ Some a → option_and_then f o ≡ None
    → f a ≡ None
none_of_some f o a e n = sym (ap (option_and_then f) e) ∙ n

module _ {A B : Type 0} (say : List A → A → Option B) where
  -- each item of which nothing is said is such
  pub all_said : (P : A → Type 0) → ((before : List A) (x : A) → say before x ≡ None → P x) → (before xs : List A)
      → first_after say before xs ≡ None → AllByRecursion P xs
  all_said P holds before [] e = tt
  all_said P holds before (x ∷ xs) e = (
    holds before x (first_none (say before x) (first_after say (before ++ x ∷ []) xs) e),
    all_said P holds (before ++ x ∷ []) xs (second_none (say before x) (first_after say (before ++ x ∷ []) xs) e),
  )

  -- what holds of no items, and of items with one more where nothing is said of it, holds of all
  pub one_by_one : (P : List A → Type 0) → ((before : List A) (x : A) → say before x ≡ None → P before
      → P (before ++ x ∷ []))
      → (before xs : List A) → first_after say before xs ≡ None → P before → P (before ++ xs)
  one_by_one P holds before [] e p = subst P (sym (append-nil before)) p
  one_by_one P holds before (x ∷ xs) e p =
      subst P (append_assoc before (x ∷ []) xs)
      (one_by_one P holds (before ++ x ∷ []) xs (second_none (say before x)
      (first_after say (before ++ x ∷ []) xs) e)
      (holds before x (first_none (say before x) (first_after say (before ++ x ∷ []) xs) e) p))

pub all_unmap : {X Y : Type 0} (P : Y → Type 0) (f : X → Y) (xs : List X) → AllByRecursion P (map f xs)
    → AllByRecursion (λ x. P (f x)) xs
all_unmap P f [] h = tt
all_unmap P f (x ∷ xs) h = (h.0, all_unmap P f xs h.1)

-- an item more that none of the others is equal to
pub distinct_push : {X : Type 0} (same : X → X → Bool) (xs : List X) (x : X) → IsDistinct same xs
    → AllByRecursion (λ y. same y x ≡ false) xs → IsDistinct same (xs ++ x ∷ [])
unfolding IsDistinct
distinct_push same [] x d h = (tt, tt)
distinct_push same (y ∷ ys) x d h = (apart ys d.0, distinct_push same ys x d.1 h.1)
  where
    apart : (zs : List _) → AllByRecursion (λ z. same y z ≡ false) zs
        → AllByRecursion (λ z. same y z ≡ false) (zs ++ x ∷ [])
    apart [] k = (h.0, tt)
    apart (z ∷ zs) k = (k.0, apart zs k.1)
