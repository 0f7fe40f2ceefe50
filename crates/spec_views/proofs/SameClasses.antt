-- Where its input doesn't change, neither does a unique list nor a grouping: each class is paired with itself, plainly.
use Rattle.std.proofs.Common.{◌≡◌, ◌∙◌, ◌⊎◌, ℕ, zero, suc, ◌+◌, ◌<◌, ◌≤◌, Bool, true, false, not, List, [], ◌∷◌, ◌++◌, length, refl, ap, sym, arith, inl, inr, append_assoc}
use Rattle.std.specs.List.{list_all}
use Rattle.std.specs.Ordering.{is_eq}
use Rattle.std.specs.declared.cmp.Ordering.{Ordering}
use Rattle.std.specs.declared.cmp.Ordering.TheVariants.{Less, Equal, Greater}
use Rattle.std.specs.Cmp.{IsTotalOrder, tied_itself}
use Rattle.std.specs.Ordering.{ordering_reverse}
use Rattle.std.proofs.lemmas.Bool.{cases_eq, cases_Bool, eq-eqb, ne_eqb}
use Rattle.std.proofs.lemmas.List.{length-map, length-append}
use Rattle.spec_value.specs.Tree.{Tree}
use Rattle.spec_lists.specs.Piece.{identity}
use Rattle.spec_lists.specs.Pairs.{Pair, pairs}
use Rattle.spec_lists.specs.Leads.{applied}
use Rattle.spec_lists.specs.Making.{pieces_by}
use Rattle.spec_lists.proofs.DeltaLeads.{applied_no_change}
use Rattle.spec_lists.proofs.Plains.{plains, pairs_identity, pieces_by_plains}
use Rattle.spec_views.specs.Source.{element_at}
use Rattle.spec_views.specs.Arrangement.{Comparison, is_before, arrangement}
use Rattle.spec_views.specs.Classes.{Class, first_of, has_key_of, with_member, classes_among, classes, pair_of_class, pairs_of_classes, class_pairs, is_kept_old, is_kept_new, is_plain_pair, keeps_members}
use Rattle.spec_views.specs.Unique.{unique_view, unique_follow}
use Rattle.spec_views.specs.Grouping.{grouping_view, grouping_follow}
use Rattle.spec_views.proofs.SortedPositions.{Every, Sorted}
use Rattle.spec_views.proofs.Arrangements.{before_cases, arrangement_is, sorted_arrangement, within_arrangement}

-- something holds of each class
abbrev Each : (Class → Type 0) → List Class → Type 0
Each P [] = Unit {0}
Each P (c ∷ cs) = P c × Each P cs

each_weaker : (P Q : Class → Type 0) → ((c : Class) → P c → Q c) → (cs : List Class) → Each P cs
    → Each Q cs
each_weaker P Q weaker [] e = tt
each_weaker P Q weaker (c ∷ cs) e = (weaker c e.0, each_weaker P Q weaker cs e.1)

each_both : (P Q R : Class → Type 0) → ((c : Class) → P c → Q c → R c) → (cs : List Class)
    → Each P cs → Each Q cs → Each R cs
each_both P Q R both [] e f = tt
each_both P Q R both (c ∷ cs) e f = (both c e.0 f.0, each_both P Q R both cs e.1 f.1)

each_append : (P : Class → Type 0) (bs cs : List Class) → Each P bs → Each P cs → Each P (bs ++ cs)
each_append P [] cs e f = f
each_append P (b ∷ bs) cs e f = (e.0, each_append P bs cs e.1 f)

module _ (compare : Comparison) (o : IsTotalOrder compare) (xs : List Tree) where
  -- a place's element has a lesser key than another's
  abbrev IsLess : ℕ → ℕ → Type 0
  IsLess i j = compare (element_at xs i) (element_at xs j) ≡ Less

  -- the keys of the classes rise
  abbrev Rise : List Class → Type 0
  Rise [] = Unit {0}
  Rise (c ∷ cs) = Each (λ e. IsLess (first_of c) (first_of e)) cs × Rise cs

  -- members are below a number of places, and the first stands after what stood before all of them
  record Good (is : List ℕ) (cs : List Class) : Type 1 where
    rise : Rise cs
    members : (P : ℕ → Type 0) → Every P is → Each (Every P) cs
    firsts : (P : ℕ → Type 0) → Every P is → Each (λ c. P (first_of c)) cs

  less_through : (i j k : ℕ)
      → (IsLess i j ⊎ ((compare (element_at xs i) (element_at xs j) ≡ Equal) × (i < j)))
      → IsLess j k → IsLess i k
  less_through i j k (inl less) more = o.trans _ _ _ less more
  less_through i j k (inr tied) more = o.congr _ _ (element_at xs k) tied.0 ∙ more

  -- one that has no equal key and stands before is less
  less_from : (i j : ℕ) → is_before compare xs i j ≡ true → has_key_of compare xs xs i j ≡ false
      → IsLess i j
  less_from i j before other = elim (before_cases compare xs i j before) [
    | inl less ↦ less
    | inr tied ↦ absurd (tied_not (compare (element_at xs i) (element_at xs j)) tied.0 other)
  ]
    where
      tied_not : (r : Ordering) → r ≡ Equal → is_eq r ≡ false → ⊥
      tied_not Less e f = absurd cc
      tied_not Equal e f = absurd cc
      tied_not Greater e f = absurd cc

  -- an element put before those of the classes
  more_good : (i : ℕ) (is : List ℕ) (cs : List Class)
      → Every (λ j. is_before compare xs i j ≡ true) is → Good is cs
      → Good (i ∷ is) (with_member compare xs i cs)
  more_good i is [] before g = record { rise = (tt, tt); members = λ P e. ((e.0, tt), tt); firsts = λ P e. (e.0, tt) }
  more_good i is (c ∷ cs) before g = elim (cases_Bool (has_key_of compare xs xs i (first_of c))) [
    | inl same ↦ rw same (record {
      rise = (each_weaker (λ e. IsLess (first_of c) (first_of e)) (λ e. IsLess i (first_of e)) (λ e less. less_through i (first_of c) (first_of e) here less) cs g.rise.0, g.rise.1);
      members = λ P e. ((e.0, (g.members P e.1).0), (g.members P e.1).1);
      firsts = λ P e. (e.0, (g.firsts P e.1).1);
    })
    | inr other ↦ rw other (record {
      rise = ((less_from i (first_of c) first other, each_weaker (λ e. IsLess (first_of c) (first_of e)) (λ e. IsLess i (first_of e)) (λ e less. less_through i (first_of c) (first_of e) here less) cs g.rise.0), g.rise);
      members = λ P e. ((e.0, tt), g.members P e.1);
      firsts = λ P e. (e.0, g.firsts P e.1);
    })
  ]
    where
      first : is_before compare xs i (first_of c) ≡ true
      first = (g.firsts (λ j. is_before compare xs i j ≡ true) before).0

      here : IsLess i (first_of c) ⊎ ((compare (element_at xs i) (element_at xs (first_of c)) ≡ Equal) × (i < first_of c))
      here = before_cases compare xs i (first_of c) first

  all_good : (is : List ℕ) → Sorted (is_before compare xs) is
      → Good is (classes_among compare xs is)
  all_good [] s = record { rise = tt; members = λ P e. tt; firsts = λ P e. tt }
  all_good (i ∷ is) s = more_good i is (classes_among compare xs is) s.0 (all_good is s.1)

  classes_good : Good (arrangement compare xs) (classes compare xs)
  classes_good = all_good (arrangement compare xs) (sorted_arrangement compare o xs (arrangement compare xs) (arrangement_is compare o xs))

  has_own_key : (i : ℕ) → has_key_of compare xs xs i i ≡ true
  has_own_key i = rw (tied_itself o (element_at xs i))

  -- a class of greater key doesn't have this one's
  apart : (i j : ℕ) → IsLess i j → has_key_of compare xs xs j i ≡ false
  apart i j less = not_tied (compare (element_at xs j) (element_at xs i)) (o.antisymm (element_at xs j) (element_at xs i) ∙ ap ordering_reverse less)
    where
      not_tied : (r : Ordering) → r ≡ Greater → is_eq r ≡ false
      not_tied Less e = refl
      not_tied Equal e = absurd cc
      not_tied Greater e = refl

  -- the classes that come first don't have the key of one
  abbrev Missed : Class → List Class → Type 0
  Missed c bs = Each (λ b. has_key_of compare xs xs (first_of c) (first_of b) ≡ false) bs

  paired_itself : (is_plain : Class → Class → Bool) (r s : ℕ) (c : Class) (bs cs : List Class)
      → Missed c bs
      → pair_of_class compare xs xs is_plain r c s (bs ++ c ∷ cs)
      ≡ record { old = r; new = s + length bs; updated = not (is_plain c c) } ∷ []
  paired_itself is_plain r s c [] cs h =
      let e : s + 0 ≡ s = omega arith in
      rw (has_own_key (first_of c), e) refl
  paired_itself is_plain r s c (b ∷ bs) cs h =
      let e : s + suc (length bs) ≡ suc s + length bs = omega arith in
      rw (h.0, e) (paired_itself is_plain r (suc s) c bs cs h.1)

  paired_rest : (is_plain : Class → Class → Bool) (bs cs : List Class) → Each (λ c. Missed c bs) cs
      → Rise cs → Each (λ c. is_plain c c ≡ true) cs
      → pairs_of_classes compare xs xs is_plain (length bs) cs (bs ++ cs)
      ≡ plains (length bs) (length cs)
  paired_rest is_plain bs [] missed rise plain = refl
  paired_rest is_plain bs (c ∷ cs) missed rise plain =
      let long : length (bs ++ c ∷ []) ≡ suc (length bs) = length-append bs (c ∷ []) ∙ omega arith in
      let one : pair_of_class compare xs xs is_plain (length bs) c 0 (bs ++ c ∷ cs) ≡ record { old = length bs; new = length bs; updated = false } ∷ [] =
      paired_itself is_plain (length bs) 0 c bs cs missed.0 ∙ plainly (length bs) (0 + length bs) (is_plain c c) (omega arith) plain.0 in
      let more : Each (λ e. Missed e (bs ++ c ∷ [])) cs =
      each_both (λ e. Missed e bs) (λ e. IsLess (first_of c) (first_of e)) (λ e. Missed e (bs ++ c ∷ []))
      (λ e miss less. each_append (λ b. has_key_of compare xs xs (first_of e) (first_of b) ≡ false) bs (c ∷ []) miss (apart (first_of c) (first_of e) less, tt)) cs missed.1 rise.0 in
      ap (λ ps. ps ++ pairs_of_classes compare xs xs is_plain (suc (length bs)) cs (bs ++ c ∷ cs)) one
      ∙ ap (λ ps. record { old = length bs; new = length bs; updated = false } ∷ ps)
      (ap (λ n. pairs_of_classes compare xs xs is_plain n cs (bs ++ c ∷ cs)) (sym long)
      ∙ ap (pairs_of_classes compare xs xs is_plain (length (bs ++ c ∷ [])) cs) (sym (append_assoc bs (c ∷ []) cs))
      ∙ paired_rest is_plain (bs ++ c ∷ []) cs more rise.1 plain.1
      ∙ ap (λ n. plains n (length cs)) long)
    where
      plainly : (m n : ℕ) (t : Bool) → n ≡ m → t ≡ true → let p : Pair = record { old = m; new = n; updated = not t } in let q : Pair = record { old = m; new = m; updated = false } in p ∷ [] ≡ q ∷ []
      plainly m n t e f = rw (e, f) refl

  none_missed : (cs : List Class) → Each (λ c. Missed c []) cs
  none_missed [] = tt
  none_missed (c ∷ cs) = (tt, none_missed cs)

  class_plains : (is_plain : Class → Class → Bool)
      → Each (λ c. is_plain c c ≡ true) (classes compare xs)
      → class_pairs compare xs xs is_plain ≡ plains 0 (length (classes compare xs))
  class_plains is_plain plain = paired_rest is_plain [] (classes compare xs) (none_missed (classes compare xs)) classes_good.rise plain

  below : Every (λ i. i < length xs) (arrangement compare xs)
  below = within_arrangement compare o xs (arrangement compare xs) (arrangement_is compare o xs)

-- each element is of a plain pair, with itself
found_pair : (i a n : ℕ) → a ≤ i → i < a + n → is_plain_pair (plains a n) i i ≡ true
found_pair i a zero le lt = absurd (omega (arith, le, lt))
found_pair i a (suc n) le lt = elim (cases_eq a i) [
  | inl same ↦ rw (eq-eqb a i same) refl
  | inr other ↦ rw (ne_eqb a i other) (found_pair i (suc a) n (omega (arith, le, other)) (omega (arith, lt)))
]

found_old : (i a n : ℕ) → a ≤ i → i < a + n → is_kept_old (plains a n) i ≡ true
found_old i a zero le lt = absurd (omega (arith, le, lt))
found_old i a (suc n) le lt = elim (cases_eq a i) [
  | inl same ↦ rw (eq-eqb a i same) refl
  | inr other ↦ rw (ne_eqb a i other) (found_old i (suc a) n (omega (arith, le, other)) (omega (arith, lt)))
]

found_new : (i a n : ℕ) → a ≤ i → i < a + n → is_kept_new (plains a n) i ≡ true
found_new i a zero le lt = absurd (omega (arith, le, lt))
found_new i a (suc n) le lt = elim (cases_eq a i) [
  | inl same ↦ rw (eq-eqb a i same) refl
  | inr other ↦ rw (ne_eqb a i other) (found_new i (suc a) n (omega (arith, le, other)) (omega (arith, lt)))
]

all_old : (n : ℕ) (c : Class) → Every (λ i. i < n) c → list_all (is_kept_old (plains 0 n)) c ≡ true
all_old n [] h = refl
all_old n (i ∷ is) h = rw (found_old i 0 n (omega arith) (omega (arith, h.0))) (all_old n is h.1)

all_new : (n : ℕ) (c : Class) → Every (λ i. i < n) c → list_all (is_kept_new (plains 0 n)) c ≡ true
all_new n [] h = refl
all_new n (i ∷ is) h = rw (found_new i 0 n (omega arith) (omega (arith, h.0))) (all_new n is h.1)

pub unique_same : (compare : Comparison) → IsTotalOrder compare → (xs : List Tree)
    → unique_follow compare xs (identity (length xs)) ≡ identity (length (unique_view compare xs))
unique_same compare o xs =
    let n : ℕ = length xs in
    let stay : applied (identity n) xs ≡ xs = applied_no_change xs in
    let plain : Each (λ c. is_plain_pair (plains 0 (length xs)) (first_of c) (first_of c) ≡ true) (classes compare xs) =
    each_weaker (λ c. first_of c < length xs) (λ c. is_plain_pair (plains 0 (length xs)) (first_of c) (first_of c) ≡ true) (λ c less. found_pair (first_of c) 0 (length xs) (omega arith) (omega (arith, less)))
    (classes compare xs) ((classes_good compare o xs).firsts (λ i. i < length xs) (below compare o xs)) in
    ap (λ ys. pieces_by (unique_view compare xs) (unique_view compare ys) (class_pairs compare xs ys (λ c e. is_plain_pair (pairs (identity n)) (first_of c) (first_of e)))) stay
    ∙ pieces_by_plains (unique_view compare xs) (class_pairs compare xs xs (λ c e. is_plain_pair (pairs (identity n)) (first_of c) (first_of e)))
    (ap (λ ps. class_pairs compare xs xs (λ c e. is_plain_pair ps (first_of c) (first_of e))) (pairs_identity n)
    ∙ class_plains compare o xs (λ c e. is_plain_pair (plains 0 (length xs)) (first_of c) (first_of e)) plain ∙ ap (plains 0) (sym (length-map (classes compare xs) _)))

pub grouping_same : (compare : Comparison) → IsTotalOrder compare → (xs : List Tree)
    → grouping_follow compare xs (identity (length xs))
    ≡ identity (length (grouping_view compare xs))
grouping_same compare o xs =
    let n : ℕ = length xs in
    let stay : applied (identity n) xs ≡ xs = applied_no_change xs in
    let plain : Each (λ c. keeps_members (plains 0 (length xs)) c c ≡ true) (classes compare xs) =
    each_weaker (Every (λ i. i < length xs)) (λ c. keeps_members (plains 0 (length xs)) c c ≡ true) (λ c small. rw (all_old (length xs) c small) (all_new (length xs) c small))
    (classes compare xs) ((classes_good compare o xs).members (λ i. i < length xs) (below compare o xs)) in
    ap (λ ys. pieces_by (grouping_view compare xs) (grouping_view compare ys) (class_pairs compare xs ys (keeps_members (pairs (identity n))))) stay
    ∙ pieces_by_plains (grouping_view compare xs) (class_pairs compare xs xs (keeps_members (pairs (identity n))))
    (ap (λ ps. class_pairs compare xs xs (keeps_members ps)) (pairs_identity n)
    ∙ class_plains compare o xs (keeps_members (plains 0 (length xs))) plain ∙ ap (plains 0) (sym (length-map (classes compare xs) _)))
