-- The touched classes of the old list that those of the new list have met so far.
use Rattle.std.proofs.Common.{◌≡◌, ◌≢◌, ◌∙◌, ℕ, zero, suc, ◌+◌, ◌<◌, ◌≤◌, ◌&&◌, ◌||◌, ◌++◌, ◌*◌, Bool, true, false, List, [], ◌∷◌, length, get_or, map, take, drop, refl, ap, sym, arith, inl, inr}
use Rattle.std.specs.Prelude.{not, Some, None, slice_get, slice_set}
use Rattle.std.specs.List.{list_any, AllByRecursion as Each}
use Rattle.std.specs.Cmp.{IsTotalOrder, tied_back}
use Rattle.std.specs.Ordering.{is_eq}
use Rattle.std.specs.declared.cmp.Ordering.{Ordering}
use Rattle.std.specs.declared.cmp.Ordering.TheVariants.{Less, Equal, Greater}
use Rattle.std.proofs.lemmas.Bool.{cases_order}
use Rattle.spec_sorting.specs.Tree.{Tree}
use Rattle.spec_sorting.specs.Delta.{Delta}
use Rattle.spec_sorting.specs.Source.{element_at}
use Rattle.spec_sorting.specs.Arrangement.{Comparison}
use Rattle.gl_classes.specs.OldValues.{IsOldValue}
use Rattle.gl_classes.specs.declared.touched.Touched.{Touched}
use Rattle.gl_classes.specs.Finding.{AreOlds, IsMet, meets, stays_if, met_one, met_new, met_olds}

some_same : {X : Type 0} (x y : X) → Some x ≡ Some y → x ≡ y
some_same x y e = cc

-- a class that stays already
pub stays_still : (t : Touched) → stays_if t false ≡ t
stays_still t = by t.stays refl
  where
    by : (s : Bool) → t.stays ≡ s → stays_if t false ≡ t
    by s e = same (none t.stays)
      where
        none : (s : Bool) → (s || false) ≡ s
        none true = refl
        none false = refl

        same : (t.stays || false) ≡ t.stays → stays_if t false ≡ t
        same e = λ i. record { class = t.class; source = t.source; first = t.first; plain = t.plain; stays = e i }

-- some of the classes let this one stay if a test holds
abbrev pub with_test : (Touched → Bool) → List Touched → List Touched
with_test test ts = map (λ t. stays_if t (test t)) ts

pub get_with : (test : Touched → Bool) (ts : List Touched) (k : ℕ) (u : Touched) → slice_get (with_test test ts) k ≡ Some u
    → (t : Touched) × (slice_get ts k ≡ Some t) × (u ≡ stays_if t (test t))
get_with test [] k u at = absurd cc
get_with test (t ∷ ts) zero u at = (t, refl, sym (some_same (stays_if t (test t)) u at))
get_with test (t ∷ ts) (suc k) u at = get_with test ts k u at

pub get_same : (test : Touched → Bool) (ts : List Touched) (k : ℕ) (t : Touched) → slice_get ts k ≡ Some t → slice_get (with_test test ts) k ≡ Some (stays_if t (test t))
get_same test [] k t at = absurd cc
get_same test (u ∷ ts) zero t at = let same : u ≡ t = cc in ap (λ v. Some (stays_if v (test v))) same
get_same test (u ∷ ts) (suc k) t at = get_same test ts k t at

each_with : (d : Delta) (test : Touched → Bool) (ts : List Touched) → Each (λ (t : Touched). IsOldValue d t.source) ts → Each (λ (t : Touched). IsOldValue d t.source) (with_test test ts)
each_with d test [] e = tt
each_with d test (t ∷ ts) e = (e.0, each_with d test ts e.1)

-- they are the touched classes of the old list as before
pub olds_with : (compare : Comparison) (xs : List Tree) (d : Delta) (test : Touched → Bool) (olds : List Touched) → AreOlds compare xs d olds → AreOlds compare xs d (with_test test olds)
olds_with compare xs d test olds h = record {
  values = each_with d test olds h.values;
  rise = λ p q t u less at_p at_q.
      let a = get_with test olds p t at_p in
      let b = get_with test olds q u at_q in
      ap (λ i. compare (element_at xs i) (element_at xs u.source)) (ap (λ (v : Touched). v.source) a.2)
      ∙ (ap (λ i. compare (element_at xs a.0.source) (element_at xs i)) (ap (λ (v : Touched). v.source) b.2) ∙ h.rise p q a.0 b.0 less a.1 b.1);
}

-- tests that agree on all of them
pub with_alike : (one other : Touched → Bool) (ts : List Touched) → ((k : ℕ) (t : Touched) → slice_get ts k ≡ Some t → one t ≡ other t) → with_test one ts ≡ with_test other ts
with_alike one other [] h = refl
with_alike one other (t ∷ ts) h = both (h 0 t refl) (with_alike one other ts (λ k u at. h (suc k) u at))
  where
    both : one t ≡ other t → with_test one ts ≡ with_test other ts → stays_if t (one t) ∷ with_test one ts ≡ stays_if t (other t) ∷ with_test other ts
    both e f = cc

-- one of them more
pub with_set : (one other : Touched → Bool) (ts : List Touched) (k : ℕ) (t : Touched) → slice_get ts k ≡ Some t → other t ≡ true
    → ((l : ℕ) (u : Touched) → slice_get ts l ≡ Some u → l ≢ k → one u ≡ other u)
    → slice_set (with_test one ts) k (stays_if t true) ≡ with_test other ts
with_set one other [] k t at holds same = absurd cc
with_set one other (u ∷ ts) zero t at holds same =
    let is : u ≡ t = cc in
    both (ap (stays_if t) (sym holds) ∙ ap (λ v. stays_if v (other v)) (sym is)) (with_alike one other ts (λ l v here. same (suc l) v here (λ e. absurd (omega (arith, e)))))
  where
    both : stays_if t true ≡ stays_if u (other u) → with_test one ts ≡ with_test other ts → stays_if t true ∷ with_test one ts ≡ stays_if u (other u) ∷ with_test other ts
    both e f = cc
with_set one other (u ∷ ts) (suc k) t at holds same =
    both (same 0 u refl (λ e. absurd (omega (arith, e)))) (with_set one other ts k t at holds (λ l v here ne. same (suc l) v here (λ e. ne (omega (arith, e)))))
  where
    both : one u ≡ other u → slice_set (with_test one ts) k (stays_if t true) ≡ with_test other ts → stays_if u (one u) ∷ slice_set (with_test one ts) k (stays_if t true) ≡ stays_if u (other u) ∷ with_test other ts
    both e f = cc

any_last : {X : Type 0} (test : X → Bool) (xs : List X) (x : X) → list_any test (xs ++ x ∷ []) ≡ (list_any test xs || test x)
any_last test [] x = last (test x)
  where
    last : (t : Bool) → (t || false) ≡ (false || t)
    last true = refl
    last false = refl
any_last test (y ∷ ys) x = ap (λ t. test y || t) (any_last test ys x) ∙ sym (assoc (test y) (list_any test ys) (test x))
  where
    assoc : (t u v : Bool) → ((t || u) || v) ≡ (t || (u || v))
    assoc true u v = refl
    assoc false u v = refl

is_tied : (r : Ordering) → r ≢ Equal → is_eq r ≡ false
is_tied Less ne = refl
is_tied Equal ne = absurd (ne refl)
is_tied Greater ne = refl

none_of : {X : Type 0} (test : X → Bool) (xs : List X) → ((k : ℕ) (x : X) → slice_get xs k ≡ Some x → test x ≡ false) → list_any test xs ≡ false
none_of test [] h = refl
none_of test (x ∷ xs) h = both (test x) (list_any test xs) (h 0 x refl) (none_of test xs (λ k y at. h (suc k) y at))
  where
    both : (t u : Bool) → t ≡ false → u ≡ false → (t || u) ≡ false
    both t u e f = rw (e, f) refl

some_of : {X : Type 0} (test : X → Bool) (xs : List X) (k : ℕ) (x : X) → slice_get xs k ≡ Some x → test x ≡ true → list_any test xs ≡ true
some_of test [] k x at h = absurd cc
some_of test (y ∷ ys) zero x at h = let same : y ≡ x = cc in first (test y) (list_any test ys) (ap test same ∙ h)
  where
    first : (t u : Bool) → t ≡ true → (t || u) ≡ true
    first true u e = refl
    first false u e = absurd cc
some_of test (y ∷ ys) (suc k) x at h = second (test y) (list_any test ys) (some_of test ys k x at h)
  where
    second : (t u : Bool) → u ≡ true → (t || u) ≡ true
    second true u e = refl
    second false u e = e

pub all_still : (ts : List Touched) → map (λ t. stays_if t false) ts ≡ ts
all_still [] = refl
all_still (t ∷ ts) = both (stays_still t) (all_still ts)
  where
    both : stays_if t false ≡ t → map (λ u. stays_if u false) ts ≡ ts → stays_if t false ∷ map (λ u. stays_if u false) ts ≡ t ∷ ts
    both e f = cc

stays_anyway : (u : Touched) (more : Bool) → u.stays ≡ true → u ≡ stays_if u more
stays_anyway u more e = λ i. record { class = u.class; source = u.source; first = u.first; plain = u.plain; stays = (e ∙ sym (first u.stays more e)) i }
  where
    first : (t v : Bool) → t ≡ true → (t || v) ≡ true
    first true v f = refl
    first false v f = absurd cc

module _ (compare : Comparison) (o : IsTotalOrder compare) (xs ys : List Tree) (d : Delta) (olds : List Touched) (are : AreOlds compare xs d olds) (u : Touched) where
  -- one that stays meets nothing
  pub stays_already : u.stays ≡ true → olds ≡ met_one compare xs ys olds u
  stays_already e =
      sym (with_alike (λ t. not u.stays && meets compare xs ys t u) (λ t. false) olds (λ k t at. ap (λ s. not s && meets compare xs ys t u) e) ∙ all_still olds)

  pub new_already : u.stays ≡ true → u ≡ met_new compare xs ys olds u
  new_already e = stays_anyway u (list_any (λ t. meets compare xs ys t u) olds) e

  -- none has its key
  no_key : (n : ℕ) → n ≡ length olds → IsMet compare xs ys olds 0 n u.source None → (k : ℕ) (t : Touched) → slice_get olds k ≡ Some t → meets compare xs ys t u ≡ false
  no_key n is met k t at = is_tied _ (met k t (omega arith) (let less = within olds k t at in omega (arith, less, is)) at)
    where
      within : (ts : List Touched) (k : ℕ) (t : Touched) → slice_get ts k ≡ Some t → k < length ts
      within [] k t at = absurd cc
      within (v ∷ vs) zero t at = omega arith
      within (v ∷ vs) (suc k) t at = let more = within vs k t at in omega (arith, more)

  pub none_met : (n : ℕ) → n ≡ length olds → IsMet compare xs ys olds 0 n u.source None → olds ≡ met_one compare xs ys olds u
  none_met n is met =
      sym (with_alike (λ t. not u.stays && meets compare xs ys t u) (λ t. false) olds (λ k t at. ap (λ s. not u.stays && s) (no_key n is met k t at) ∙ last (not u.stays)) ∙ all_still olds)
    where
      last : (t : Bool) → (t && false) ≡ false
      last true = refl
      last false = refl

  pub new_none : (n : ℕ) → n ≡ length olds → IsMet compare xs ys olds 0 n u.source None → u ≡ met_new compare xs ys olds u
  new_none n is met = sym (ap (stays_if u) (none_of (λ t. meets compare xs ys t u) olds (no_key n is met)) ∙ stays_still u)

  -- one has its key
  pub one_met : (n k : ℕ) (t : Touched) → u.stays ≡ false → IsMet compare xs ys olds 0 n u.source (Some k) → slice_get olds k ≡ Some t
      → slice_set olds k (record { class = t.class; source = t.source; first = t.first; plain = t.plain; stays = true }) ≡ met_one compare xs ys olds u
  one_met n k t fresh met at =
      let same : met.2 ≡ t = some_same met.2 t (sym met.3 ∙ at) in
      let tied : compare (element_at xs t.source) (element_at ys u.source) ≡ Equal = ap (λ (v : Touched). compare (element_at xs v.source) (element_at ys u.source)) (sym same) ∙ met.4 in
      let here : (not u.stays && meets compare xs ys t u) ≡ true = both (not u.stays) (meets compare xs ys t u) (ap not fresh) (ap is_eq tied) in
      let stayed : stays_if t true ≡ record { class = t.class; source = t.source; first = t.first; plain = t.plain; stays = true } =
      λ i. record { class = t.class; source = t.source; first = t.first; plain = t.plain; stays = (any_true t.stays) i } in
      ap (slice_set olds k) (sym stayed)
      ∙ (ap (λ ts. slice_set ts k (stays_if t true)) (sym (all_still olds))
      ∙ with_set (λ v. false) (λ v. not u.stays && meets compare xs ys v u) olds k t at here
      (λ l v at_v ne. sym (ap (λ s. not u.stays && s) (apart l v at_v ne tied) ∙ last (not u.stays))))
    where
      last : (t : Bool) → (t && false) ≡ false
      last true = refl
      last false = refl

      any_true : (s : Bool) → (s || true) ≡ true
      any_true true = refl
      any_true false = refl

      both : (a b : Bool) → a ≡ true → b ≡ true → (a && b) ≡ true
      both a b e f = rw (e, f) refl

      less_other : Less ≢ Equal
      less_other e = absurd cc

      greater_other : Greater ≢ Equal
      greater_other e = absurd cc

      apart : (l : ℕ) (v : Touched) → slice_get olds l ≡ Some v → l ≢ k → compare (element_at xs t.source) (element_at ys u.source) ≡ Equal → meets compare xs ys v u ≡ false
      apart l v at_v ne tied = elim (cases_order l k) [
        | inl same ↦ absurd (ne same)
        | inr (inl lower) ↦ is_tied _ (λ e. less_other (sym (are.rise l k v t lower at_v at) ∙ through v t e tied))
        | inr (inr more) ↦ is_tied _ (λ e. less_other (sym (are.rise k l t v more at at_v) ∙ through t v tied e))
      ]
        where
          through : (a c : Touched) → compare (element_at xs a.source) (element_at ys u.source) ≡ Equal → compare (element_at xs c.source) (element_at ys u.source) ≡ Equal
              → compare (element_at xs a.source) (element_at xs c.source) ≡ Equal
          through a c one other = o.congr _ _ (element_at xs c.source) one ∙ tied_back o _ _ other

  pub new_met : (n k : ℕ) → IsMet compare xs ys olds 0 n u.source (Some k)
      → record { class = u.class; source = u.source; first = u.first; plain = u.plain; stays = true } ≡ met_new compare xs ys olds u
  new_met n k met =
      let any = some_of (λ t. meets compare xs ys t u) olds k met.2 met.3 (ap is_eq met.4) in
      λ i. record { class = u.class; source = u.source; first = u.first; plain = u.plain; stays = (sym (ap (λ s. u.stays || s) any ∙ last u.stays)) i }
    where
      last : (t : Bool) → (t || true) ≡ true
      last true = refl
      last false = refl

-- one more of the new list
with_twice : (one other : Touched → Bool) (ts : List Touched) → map (λ t. stays_if t (other t)) (with_test one ts) ≡ map (λ t. stays_if (stays_if t (one t)) (other (stays_if t (one t)))) ts
with_twice one other [] = refl
with_twice one other (t ∷ ts) = ap (λ us. stays_if (stays_if t (one t)) (other (stays_if t (one t))) ∷ us) (with_twice one other ts)

twice_is : (t : Touched) (a b : Bool) → stays_if (stays_if t a) b ≡ stays_if t (a || b)
twice_is t a b = λ i. record { class = t.class; source = t.source; first = t.first; plain = t.plain; stays = (assoc t.stays a b) i }
  where
    assoc : (s u v : Bool) → ((s || u) || v) ≡ (s || (u || v))
    assoc true u v = refl
    assoc false u v = refl

pub olds_more : (compare : Comparison) (xs ys : List Tree) (olds news : List Touched) (u : Touched)
    → met_one compare xs ys (met_olds compare xs ys olds news) u ≡ met_olds compare xs ys olds (news ++ u ∷ [])
olds_more compare xs ys [] news u = refl
olds_more compare xs ys (t ∷ ts) news u =
    both (twice_is t (list_any (λ v. not v.stays && meets compare xs ys t v) news) (not u.stays && meets compare xs ys t u)
    ∙ ap (stays_if t) (sym (any_last (λ v. not v.stays && meets compare xs ys t v) news u)))
    (olds_more compare xs ys ts news u)
  where
    both : {a b : Touched} {us vs : List Touched} → a ≡ b → us ≡ vs → a ∷ us ≡ b ∷ vs
    both e f = cc

any_with : (compare : Comparison) (xs ys : List Tree) (test : Touched → Bool) (ts : List Touched) (u : Touched)
    → list_any (λ t. meets compare xs ys t u) (with_test test ts) ≡ list_any (λ t. meets compare xs ys t u) ts
any_with compare xs ys test [] u = refl
any_with compare xs ys test (t ∷ ts) u = ap (λ b. meets compare xs ys t u || b) (any_with compare xs ys test ts u)

pub new_more : (compare : Comparison) (xs ys : List Tree) (olds news : List Touched) (u : Touched)
    → met_new compare xs ys (met_olds compare xs ys olds news) u ≡ met_new compare xs ys olds u
new_more compare xs ys olds news u =
    ap (stays_if u) (any_with compare xs ys (λ t. list_any (λ v. not v.stays && meets compare xs ys t v) news) olds u)

pub take_more : (ts : List Touched) (k : ℕ) (t : Touched) → slice_get ts k ≡ Some t → take (suc k) ts ≡ take k ts ++ t ∷ []
take_more [] k t at = absurd cc
take_more (u ∷ us) zero t at = let same : u ≡ t = cc in ap (λ v. v ∷ []) same
take_more (u ∷ us) (suc k) t at = ap (λ vs. u ∷ vs) (take_more us k t at)

-- what is written at the place of the next one
pub set_next : (f : Touched → Touched) (ts : List Touched) (k : ℕ) (t : Touched) → slice_get ts k ≡ Some t
    → slice_set (map f (take k ts) ++ drop k ts) k (f t) ≡ map f (take (suc k) ts) ++ drop (suc k) ts
set_next f [] k t at = absurd cc
set_next f (u ∷ us) zero t at = let same : u ≡ t = cc in ap (λ v. f v ∷ us) (sym same)
set_next f (u ∷ us) (suc k) t at = ap (λ vs. f u ∷ vs) (set_next f us k t at)

-- the next one is as it was
pub get_next : (f : Touched → Touched) (ts : List Touched) (k : ℕ) (t : Touched) → slice_get ts k ≡ Some t → slice_get (map f (take k ts) ++ drop k ts) k ≡ Some t
get_next f [] k t at = absurd cc
get_next f (u ∷ us) zero t at = at
get_next f (u ∷ us) (suc k) t at = get_next f us k t at

-- what is read at an index
pub read_touched : (ts : List Touched) (k : ℕ) (t d : Touched) → slice_get ts k ≡ Some t → get_or ts k d ≡ t
read_touched [] k t d at = absurd cc
read_touched (u ∷ us) zero t d at = some_same u t at
read_touched (u ∷ us) (suc k) t d at = read_touched us k t d at

pub counted_more : (start so_far now index each : ℕ) → so_far ≤ start + index * each → now ≤ so_far + each → now ≤ start + (index + 1) * each
counted_more start so_far now index each less more = let e : (index + 1) * each ≡ index * each + each = grind arith in omega (arith, less, more, e)

pub no_steps : (start each : ℕ) → start ≤ start + 0 * each
no_steps start each = omega arith
