-- The listeners of each list, one listener after another.
use Rattle.std.proofs.Common.{◌≡◌, ◌∙◌, ℕ, zero, suc, ◌+◌, ◌<◌, ◌≤◌, ◌==◌, Bool, true, false, cond, List, [], ◌∷◌, ◌++◌, length, get_or, slice_set, take, refl, ap, sym, subst, arith, append-nil, eq-eqb, inl, inr}
use Rattle.std.specs.Prelude.{Contains, Some, slice_get, slice_index_or}
use Rattle.std.specs.List.{AllByRecursion}
use Rattle.std.proofs.lemmas.Bool.{cases_eq, ne_eqb}
use Rattle.spec_plans.proofs.BasicsNumbers.{zero_suc, suc_zero, suc_suc}
use Rattle.spec_plans.proofs.Members.{Contains-cons_cases, Contains-here, Contains-later, Contains-nil}
use Rattle.spec_states.specs.ListenerDecl.{ListenerDecl}
use Rattle.gl_tell.specs.Listeners.{listeners_from, listeners_of}

-- ---- lists of numbers under numbers

-- one empty list more
pub one_empty : (rows : List (List ℕ)) → ((list : ℕ) → slice_index_or rows list [] ≡ []) → (list : ℕ)
    → slice_index_or (rows ++ [] ∷ []) list [] ≡ []
one_empty [] none zero = refl
one_empty [] none (suc list) = refl
one_empty (r ∷ rows) none zero = none 0
one_empty (r ∷ rows) none (suc list) = one_empty rows (λ k. none (suc k)) list

-- a number more in one of them
pub put_at : (rows : List (List ℕ)) (k list : ℕ) (old new : List ℕ) (n : ℕ) → k < length rows
    → old ≡ get_or rows k old → new ≡ old ++ n ∷ []
    → slice_index_or (slice_set rows k new) list [] ≡ slice_index_or rows list [] ++ cond (k == list) (n ∷ []) []
put_at [] k list old new n within is more = absurd (omega (arith, within))
put_at (r ∷ rows) zero zero old new n within is more = more ∙ ap (λ o. o ++ n ∷ []) is
put_at (r ∷ rows) zero (suc list) old new n within is more =
    sym (append-nil (slice_index_or rows list []))
    ∙ ap (λ t. slice_index_or rows list [] ++ cond t (n ∷ []) []) (sym (zero_suc list))
put_at (r ∷ rows) (suc k) zero old new n within is more =
    sym (append-nil r) ∙ ap (λ t. r ++ cond t (n ∷ []) []) (sym (suc_zero k))
put_at (r ∷ rows) (suc k) (suc list) old new n within is more =
    put_at rows k list old new n (omega (arith, within)) is more
    ∙ ap (λ t. slice_index_or rows list [] ++ cond t (n ∷ []) []) (sym (suc_suc k list))

-- ---- one listener more

from_more : (number list : ℕ) (ds : List ListenerDecl) (i : ℕ) (d : ListenerDecl) → i < length ds → d ≡ get_or ds i d
    → listeners_from number list (take (i + 1) ds)
    ≡ listeners_from number list (take i ds) ++ cond (d.list == list) ((number + i) ∷ []) []
from_more number list [] i d within is = absurd (omega (arith, within))
from_more number list (e ∷ ds) zero d within is =
    let here : number + 0 ≡ number = omega arith in
    rw (here, is) (one (e.list == list))
  where
    one : (t : Bool) → cond t (number ∷ []) [] ≡ cond t (number ∷ []) []
    one t = refl
from_more number list (e ∷ ds) (suc i) d within is =
    let next : suc number + i ≡ number + suc i = omega arith in
    let later = from_more (suc number) list ds i d (omega (arith, within)) is in
    let counted : listeners_from (suc number) list (take (i + 1) ds)
    ≡ listeners_from (suc number) list (take i ds) ++ cond (d.list == list) ((number + suc i) ∷ []) [] =
    later ∙ ap (λ n. listeners_from (suc number) list (take i ds) ++ cond (d.list == list) (n ∷ []) []) next in
    let taken : suc i + 1 ≡ suc (i + 1) = omega arith in
    rw taken (by_list (e.list == list) _ _ _ counted)
  where
    by_list : (t : Bool) (xs ys zs : List ℕ) → xs ≡ ys ++ zs
        → cond t (number ∷ xs) xs ≡ cond t (number ∷ ys) ys ++ zs
    by_list true xs ys zs same = ap (λ ks. number ∷ ks) same
    by_list false xs ys zs same = same

pub listeners_more : (ds : List ListenerDecl) (i list : ℕ) (d : ListenerDecl) (old new : List ℕ) → i < length ds
    → d ≡ get_or ds i d → old ≡ listeners_of (take i ds) list
    → new ≡ old ++ cond (d.list == list) (i ∷ []) []
    → new ≡ listeners_of (take (i + 1) ds) list
listeners_more ds i list d old new within is before more =
    let n : 0 + i ≡ i = omega arith in
    more ∙ ap (λ ks. ks ++ cond (d.list == list) (i ∷ []) []) before
    ∙ ap (λ m. listeners_of (take i ds) list ++ cond (d.list == list) (m ∷ []) []) (sym n)
    ∙ sym (from_more 0 list ds i d within is)

-- ---- who is among them

from_above : (number list : ℕ) (ds : List ListenerDecl) (k : ℕ) → Contains (listeners_from number list ds) k → number ≤ k
from_above number list [] k there = absurd (Contains-nil k there)
from_above number list (d ∷ ds) k there =
    by_list (λ c. (let low = from_above (suc number) list ds k c in omega (arith, low))) (d.list == list) there
  where
    by_list : (Contains (listeners_from (suc number) list ds) k → number ≤ k) → (t : Bool)
        → Contains (cond t (number ∷ listeners_from (suc number) list ds) (listeners_from (suc number) list ds)) k
        → number ≤ k
    by_list later true c = elim (Contains-cons_cases number (listeners_from (suc number) list ds) k c) [
      | inl same ↦ omega (arith, same)
      | inr rest ↦ later rest
    ]
    by_list later false c = later c

-- whoever is among the listeners of a list has that list
pub among_has : (number list : ℕ) (ds : List ListenerDecl) (i k : ℕ) (d : ListenerDecl) → k ≡ number + i
    → slice_get ds i ≡ Some d → Contains (listeners_from number list ds) k → d.list ≡ list
among_has number list [] i k d is at there = absurd cc
among_has number list (e ∷ ds) zero k d is at there =
    let same : e ≡ d = cc in
    elim (cases_eq e.list list) [
      | inl here ↦ ap (λ (l : ListenerDecl). l.list) (sym same) ∙ here
      | inr ne ↦
          let P : Bool → Type 0 = λ t. Contains (cond t (number ∷ listeners_from (suc number) list ds)
          (listeners_from (suc number) list ds)) k in
          let low = from_above (suc number) list ds k (subst P (ne_eqb e.list list ne) there) in
          absurd (omega (arith, low, is))
    ]
among_has number list (e ∷ ds) (suc i) k d is at there =
    by_list (λ c. among_has (suc number) list ds i k d (omega (arith, is)) at c) (e.list == list) there
  where
    by_list : (Contains (listeners_from (suc number) list ds) k → d.list ≡ list) → (t : Bool)
        → Contains (cond t (number ∷ listeners_from (suc number) list ds) (listeners_from (suc number) list ds)) k
        → d.list ≡ list
    by_list later true c = elim (Contains-cons_cases number (listeners_from (suc number) list ds) k c) [
      | inl same ↦ absurd (omega (arith, same, is))
      | inr rest ↦ later rest
    ]
    by_list later false c = later c

-- each listener is among those of its list
pub has_among : (number : ℕ) (ds : List ListenerDecl) (i k : ℕ) (d : ListenerDecl) → k ≡ number + i
    → slice_get ds i ≡ Some d → Contains (listeners_from number d.list ds) k
has_among number [] i k d is at = absurd cc
has_among number (e ∷ ds) zero k d is at =
    let same : e ≡ d = cc in
    let P : Bool → Type 0 = λ t. Contains (cond t (number ∷ listeners_from (suc number) d.list ds)
    (listeners_from (suc number) d.list ds)) k in
    subst P (sym (eq-eqb e.list d.list (ap (λ (l : ListenerDecl). l.list) same)))
    (Contains-here number (listeners_from (suc number) d.list ds) k (omega (arith, is)))
has_among number (e ∷ ds) (suc i) k d is at =
    by_list (e.list == d.list) (has_among (suc number) ds i k d (omega (arith, is)) at)
  where
    by_list : (t : Bool) → Contains (listeners_from (suc number) d.list ds) k
        → Contains (cond t (number ∷ listeners_from (suc number) d.list ds) (listeners_from (suc number) d.list ds)) k
    by_list true c = Contains-later number (listeners_from (suc number) d.list ds) k c
    by_list false c = c

-- they are listeners
pub listeners_below : (number n list : ℕ) (ds : List ListenerDecl) → number + length ds ≤ n
    → AllByRecursion (λ k. k < n) (listeners_from number list ds)
listeners_below number n list [] within = tt
listeners_below number n list (d ∷ ds) within =
    by_list (d.list == list) (listeners_below (suc number) n list ds (omega (arith, within)))
  where
    by_list : (t : Bool) → AllByRecursion (λ k. k < n) (listeners_from (suc number) list ds)
        → AllByRecursion (λ k. k < n)
        (cond t (number ∷ listeners_from (suc number) list ds) (listeners_from (suc number) list ds))
    by_list true all = (omega (arith, within), all)
    by_list false all = all

-- the list of a listener is one of the lists
pub list_at : (ds : List ListenerDecl) (n k : ℕ) (d : ListenerDecl) → AllByRecursion (λ l. l.list < n) ds
    → k < length ds → d ≡ get_or ds k d → d.list < n
list_at [] n k d on within is = absurd (omega (arith, within))
list_at (l ∷ ds) n zero d on within is = (let P : ListenerDecl → Type 0 = λ m. m.list < n in subst P (sym is) on.0)
list_at (l ∷ ds) n (suc k) d on within is = list_at ds n k d on.1 (omega (arith, within)) is
