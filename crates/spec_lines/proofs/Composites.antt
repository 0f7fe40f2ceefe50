-- The reader of a composite's members reads its grammar.
use Rattle.std.proofs.Common.{◌≡◌, ◌⊎◌, ℕ, zero, suc, ◌<◌, ◌≤◌, min, Bool, true, false, ◌&&◌, cond, List, [], ◌∷◌, ◌++◌, length, refl, sym, ap, ◌∙◌, subst, inl, inr, arith, append_assoc, length-append, codes}
use Rattle.std.specs.List.{list_all}
use Rattle.std.proofs.lemmas.Bool.{cases_eq, cases_Bool, cases_lt, false≢true}
use Rattle.std.proofs.lemmas.Bool.Decides.{nat_tests}
use Rattle.spec_value.specs.Name.{is_name, is_name_byte}
use Rattle.spec_syntax.specs.Grammar.{Grammar, empty, mapped, both, either, after, optional, many, listed}
use Rattle.spec_syntax.specs.Reader.{Step, found, stopped, first_is, made, seq, all_of, after_word, nearer}
use Rattle.spec_syntax.proofs.Missed.{missed, missed-same, missed-other, missed-prefix, missed_all, missed_all', missed_most}
use Rattle.spec_syntax.proofs.ReadSteps.{Tails, no_more, followed, Finds, Stops, IsStep, Reads, Has, HasTail}
use Rattle.spec_syntax.proofs.Sequences.{rest_le, made_step, seq_step, made_of_step, made_of_reads, seq_reads, after_reads, alike_step}
use Rattle.spec_syntax.proofs.Repetitions.{Begun, Unbegun, first_is-append, first_other, begun_word, many_reads}
use Rattle.spec_syntax.specs.Name.{name, read_name}
use Rattle.spec_syntax.specs.ValueReader.{is}
use Rattle.spec_syntax.proofs.Names.{name_reads, has_name, name_bytes}
use Rattle.spec_syntax.proofs.Ahead.{has_many, unbegun_many_of}
use Rattle.spec_lines.specs.Line.{members, may_part, composite_part}
use Rattle.spec_lines.specs.Reader.{read_names, read_may, member_or_may, read_composite}
use Rattle.spec_basics.proofs.Booleans.{and_parts}
use Rattle.spec_syntax.proofs.Folds.{made_made}

abbrev Names : Type 0
Names = List (List ℕ)

abbrev one_member : Grammar (List ℕ)
one_member = after (codes " ") name

pub ends : (p : ℕ → Bool) → Unbegun p no_more
ends p v e = ap (first_is p) e

pub nothing_follows : HasTail no_more
nothing_follows = ([], refl)

-- a byte that stands in no name
abbrev pub Separates : ℕ → Type 0
Separates c = is_name_byte c ≡ false

other : (c : ℕ) → Separates c → (b : ℕ) → is c b ≡ true → is_name_byte b ≡ false
other c h b e = ap is_name_byte (same b c e) ∙ h
  where
    same : (b c : ℕ) → is c b ≡ true → b ≡ c
    same b c e = grind (arith, nat_tests)

-- names with a word between every two
pub names_reads : (n c : ℕ) (w : List ℕ) (F : Tails) → Separates c → HasTail F → Unbegun (is c) F → Unbegun is_name_byte F → Reads n (listed name (c ∷ w)) F (read_names c (c ∷ w))
names_reads n c w F separates some un nameless =
    let more = many (after (c ∷ w) name) in
    let un_more : Unbegun is_name_byte (followed more F) = unbegun_many_of is_name_byte (is c) (after (c ∷ w) name) F (other c separates) (begun_word (is c) c w name (same c)) nameless in
    made_of_reads n (λ b. b.0 ∷ b.1) (both name more) F (seq read_name (all_of (is c) (after_word (c ∷ w) read_name)))
    (seq_reads n name more F read_name (all_of (is c) (after_word (c ∷ w) read_name))
    (name_reads n (followed more F) (has_many (after (c ∷ w) name) F some) un_more)
    (many_reads n (is c) (after (c ∷ w) name) F (after_word (c ∷ w) read_name) (begun_word (is c) c w name (same c)) un
    (after_reads n n (c ∷ w) name (followed more F) read_name (omega arith) has_name (has_many (after (c ∷ w) name) F some)
    (name_reads n (followed more F) (has_many (after (c ∷ w) name) F some) un_more))))
  where
    same : (c : ℕ) → is c c ≡ true
    same c = grind (arith, nat_tests)

pub has_names : (c : ℕ) (w : List ℕ) → Has (listed name (c ∷ w))
has_names c w = ((97 ∷ []) ∷ [], 97 ∷ [], ((97 ∷ [], []), (97 ∷ [], [], (refl, refl), refl, refl), refl))

may_reads : (n : ℕ) → Reads n may_part no_more read_may
may_reads n =
    after_reads n n (codes " may ") (listed name (codes " ")) no_more (read_names 32 (codes " ")) (omega arith) (has_names 32 []) nothing_follows
    (names_reads n 32 [] no_more refl nothing_follows (ends (is 32)) (ends is_name_byte))

-- either all of what misses more than so many, or a front that bytes share
shared_or : (u : List ℕ) (x y : ℕ) (w z bs : List ℕ) (most : ℕ) → most < missed (u ++ x ∷ w) bs → (most < missed (u ++ y ∷ z) bs) ⊎ ((rest : List ℕ) × (bs ≡ u ++ y ∷ rest))
shared_or [] x y w z [] most h = inl (omega arith)
shared_or [] x y w z (b ∷ bs) most h = elim (cases_eq y b) as (λ _. (most < missed (y ∷ z) (b ∷ bs)) ⊎ ((rest : List ℕ) × ((b ∷ bs) ≡ y ∷ rest))) [
  | inl e ↦ inr (bs, ap (λ c. c ∷ bs) (sym e))
  | inr ne ↦ inl (omega (arith, missed-other y b z bs ne, missed_most (x ∷ w) (b ∷ bs)))
]
shared_or (c ∷ u) x y w z [] most h = inl (omega arith)
shared_or (c ∷ u) x y w z (b ∷ bs) most h = elim (cases_eq c b) as (λ _. (most < missed (c ∷ (u ++ y ∷ z)) (b ∷ bs)) ⊎ ((rest : List ℕ) × ((b ∷ bs) ≡ c ∷ (u ++ y ∷ rest)))) [
  | inl e ↦ elim (shared_or u x y w z bs most (omega (arith, missed-same c b (u ++ x ∷ w) bs e))) as (λ _. (most < missed (c ∷ (u ++ y ∷ z)) (b ∷ bs)) ⊎ ((rest : List ℕ) × ((b ∷ bs) ≡ c ∷ (u ++ y ∷ rest)))) [
    | inl g ↦ inl (omega (arith, g, missed-same c b (u ++ y ∷ z) bs e))
    | inr g ↦ inr (g.0, ap (λ d. d ∷ bs) (sym e) ∙ ap (λ r. c ∷ r) g.1)
  ]
  | inr ne ↦ inl (omega (arith, missed-other c b (u ++ x ∷ w) bs ne, missed-other c b (u ++ y ∷ z) bs ne))
]

-- a name that is three bytes of `may ` and more is none
no_name : (m : List ℕ) (rest y : List ℕ) → is_name m ≡ true → m ++ rest ≡ 109 ∷ 97 ∷ 121 ∷ 32 ∷ y → 3 ≤ length m → ⊥
no_name [] rest y h e l = absurd (omega arith)
no_name (a ∷ []) rest y h e l = absurd (omega arith)
no_name (a ∷ b ∷ []) rest y h e l = absurd (omega arith)
no_name (a ∷ b ∷ c ∷ []) rest y h e l = let same : (a ∷ b ∷ c ∷ []) ≡ codes "may" = first_three a b c rest (32 ∷ y) e in false≢true (sym (ap is_name same) ∙ h)
  where
    first_three : (a b c : ℕ) (r s : List ℕ) → (a ∷ b ∷ c ∷ r) ≡ 109 ∷ 97 ∷ 121 ∷ s → (a ∷ b ∷ c ∷ []) ≡ codes "may"
    first_three a b c r s e = cc
no_name (a ∷ b ∷ c ∷ d ∷ m) rest y h e l = let same : (a ∷ b ∷ c ∷ d ∷ m) ≡ 109 ∷ 97 ∷ 121 ∷ 32 ∷ m = first_four a b c d m (m ++ rest) y e in false≢true (sym (spaced m) ∙ sym (ap is_name same) ∙ h)
  where
    first_four : (a b c d : ℕ) (m r y : List ℕ) → (a ∷ b ∷ c ∷ d ∷ r) ≡ 109 ∷ 97 ∷ 121 ∷ 32 ∷ y → (a ∷ b ∷ c ∷ d ∷ m) ≡ 109 ∷ 97 ∷ 121 ∷ 32 ∷ m
    first_four a b c d m r y e = cc

    spaced : (m : List ℕ) → is_name (109 ∷ 97 ∷ 121 ∷ 32 ∷ m) ≡ false
    spaced m = refl

-- other bytes of names ahead of a space
name_far : (u m v y : List ℕ) → list_all is_name_byte u ≡ true → list_all is_name_byte m ≡ true → first_is is_name_byte v ≡ false → (m ≡ u → ⊥) → length y < missed (m ++ v) (u ++ 32 ∷ y)
name_far [] [] v y hu hm un ne = absurd (ne refl)
name_far [] (x ∷ m) v y hu hm un ne = omega (arith, missed-other x 32 (m ++ v) y (λ e. false≢true (sym (ap is_name_byte e) ∙ (and_parts (is_name_byte x) (list_all is_name_byte m) hm).0)))
name_far (c ∷ u) [] v y hu hm un ne = omega (arith, missed_all' is_name_byte v (c ∷ (u ++ 32 ∷ y)) un (and_parts (is_name_byte c) (list_all is_name_byte u) hu).0, length-append u (32 ∷ y))
name_far (c ∷ u) (x ∷ m) v y hu hm un ne = elim (cases_eq x c) as (λ _. length y < missed (x ∷ (m ++ v)) (c ∷ (u ++ 32 ∷ y))) [
  | inl e ↦ omega (arith, missed-same x c (m ++ v) (u ++ 32 ∷ y) e, name_far u m v y (and_parts (is_name_byte c) (list_all is_name_byte u) hu).1 (and_parts (is_name_byte x) (list_all is_name_byte m) hm).1 un (λ same. ne (ap (λ z. z ∷ m) e ∙ ap (λ z. c ∷ z) same)))
  | inr other ↦ omega (arith, missed-other x c (m ++ v) (u ++ 32 ∷ y) other, length-append u (32 ∷ y))
]

-- a member and its tail miss all that is after ` may `
member_far : (m v y : List ℕ) → is_name m ≡ true → first_is is_name_byte v ≡ false → length y < missed ((32 ∷ m) ++ v) (codes " may " ++ y)
member_far m v y h un = omega (arith, missed-same 32 32 (m ++ v) (codes "may " ++ y) refl, name_far (codes "may") m v y refl (name_bytes m h) un (λ e. false≢true (sym (ap is_name e) ∙ h)))

-- a composite's part begins with a member, or it is the lists after ` may `, or nothing
abbrev with_member : List ℕ × (Names × Names) → Names × Names
with_member ab = (ab.0 ∷ ab.1.0, ab.1.1)

abbrev no_member : Names → Names × Names
no_member lists = ([], lists)

abbrev last : Grammar (Names × Names)
last = either (mapped no_member may_part) (mapped (λ _. ([], [])) empty)

abbrev split : Grammar (Names × Names)
split = either (mapped with_member (both one_member composite_part)) last

split_to : (a : Names × Names) (t : List ℕ) → split a t → composite_part a t
split_to a t s = elim s as (λ _. composite_part a t) [
  | inl g ↦
      let parts = g.1.3 in
      let same : t ≡ (g.1.0 ++ parts.0) ++ parts.1 = g.1.4 ∙ ap (λ x. g.1.0 ++ x) parts.4 ∙ sym (append_assoc g.1.0 parts.0 parts.1) in
      let whole : composite_part (with_member g.0) t = (g.1.0 ++ parts.0, parts.1, (g.1.0, parts.0, g.1.2, parts.2, refl), parts.3, same) in
      subst (λ x. composite_part x t) (sym g.2) whole
  | inr g ↦ elim g as (λ _. composite_part a t) [
    | inl h ↦ let whole : composite_part (no_member h.0) t = ([], t, refl, inl h.1, refl) in subst (λ x. composite_part x t) (sym h.2) whole
    | inr h ↦ let whole : composite_part (no_member []) t = ([], [], refl, inr (tt, refl, refl), h.1) in subst (λ x. composite_part x t) (sym h.2) whole
  ]
]

from_parts : (ms lists : Names) (t u v : List ℕ) → members ms u → optional [] may_part lists v → t ≡ u ++ v → split (ms, lists) t
from_parts [] lists t u v s o e =
    let same : t ≡ v = e ∙ ap (λ x. x ++ v) s in
    elim o as (λ _. split ([], lists) t) [
      | inl g ↦ inr (inl (lists, subst (may_part lists) (sym same) g, refl))
      | inr g ↦ inr (inr (tt, same ∙ g.1, ap no_member g.2))
    ]
from_parts (m ∷ ms) lists t u v s o e =
    inl ((m, (ms, lists)), (s.0, s.1 ++ v, s.2, (s.1, v, s.3, o, refl), e ∙ ap (λ x. x ++ v) s.4 ∙ append_assoc s.0 s.1 v), refl)

split_from : (a : Names × Names) (t : List ℕ) → composite_part a t → split a t
split_from a t s = from_parts a.0 a.1 t s.0 s.1 s.2 s.3 s.4

-- a composite's part is empty or begins with a space
begun_member : Begun (is 32) one_member
begun_member = begun_word (is 32) 32 [] name refl

begun_may : Begun (is 32) may_part
begun_may = begun_word (is 32) 32 (codes "may ") (listed name (codes " ")) refl

spaced_part : (a : Names × Names) (t v : List ℕ) → composite_part a t → no_more v → (t ≡ []) ⊎ (first_is (is 32) (t ++ v) ≡ true)
spaced_part a t v s tail = elim (split_from a t s) as (λ _. (t ≡ []) ⊎ (first_is (is 32) (t ++ v) ≡ true)) [
  | inl g ↦ inr (first_is-append (is 32) t v (ap (first_is (is 32)) g.1.4 ∙ first_is-append (is 32) g.1.0 g.1.1 (begun_member g.0.0 g.1.0 g.1.2)))
  | inr g ↦ elim g as (λ _. (t ≡ []) ⊎ (first_is (is 32) (t ++ v) ≡ true)) [
    | inl h ↦ inr (first_is-append (is 32) t v (begun_may h.0 t h.1))
    | inr h ↦ inl h.1
  ]
]

abbrev pub after_member : Tails
after_member = followed composite_part no_more

pub after_has : HasTail after_member
after_has = ([], (([], []), [], [], ([], [], refl, inr (tt, refl, refl), refl), refl, refl))

pub space_in_none : (b : ℕ) → is 32 b ≡ true → is_name_byte b ≡ false
space_in_none b h = other 32 refl b h

pub after_unnamed : Unbegun is_name_byte after_member
after_unnamed v s = elim (spaced_part s.0 s.1 s.2 s.3 s.4) as (λ _. first_is is_name_byte v ≡ false) [
  | inl e ↦ ap (first_is is_name_byte) (s.5 ∙ ap (λ x. x ++ s.2) e ∙ s.4)
  | inr e ↦ ap (first_is is_name_byte) s.5 ∙ first_other (is 32) is_name_byte (s.1 ++ s.2) space_in_none e
]

pub member_reads : (n : ℕ) → Reads n one_member after_member (after_word (codes " ") read_name)
member_reads n = after_reads n n (codes " ") name after_member read_name (omega arith) has_name after_has (name_reads n after_member after_has after_unnamed)

-- how much a step leaves
abbrev AtMost : {A : Type 0} → Step A → ℕ → Type 0
AtMost (found a rest) n = length rest ≤ n
AtMost (stopped left) n = left ≤ n

at_most : {A : Type 0} (S : Grammar A) (F : Tails) (bs : List ℕ) (st : Step A) → IsStep S F bs st → AtMost st (length bs)
at_most S F bs (found a rest) f = rest_le bs f.prefix rest f.are
at_most S F bs (stopped left) f = omega (arith, f.near, missed_most (f.text ++ f.tail) bs)

at_most_made : {A B : Type 0} (k : A → B) (st : Step A) (n : ℕ) → AtMost st n → AtMost (made k st) n
at_most_made k (found a rest) n h = h
at_most_made k (stopped left) n h = h

-- another grammar, of which each text misses more than a step leaves
beside : {A : Type 0} (P Q : Grammar A) (F : Tails) (bs : List ℕ) (st : Step A) (most : ℕ) → AtMost st most → ((a : A) (t v : List ℕ) → Q a t → F v → most < missed (t ++ v) bs) → IsStep P F bs st → IsStep (either P Q) F bs st
beside P Q F bs (found a rest) most l far f = record {
  prefix = f.prefix;
  spelled = inl f.spelled;
  are = f.are;
  others = λ b t v s tail. elim s as (λ _. ((b ≡ a) × (t ≡ f.prefix)) ⊎ (length rest < missed (t ++ v) bs)) [
    | inl g ↦ f.others b t v g tail
    | inr g ↦ inr (omega (arith, far b t v g tail, l))
  ];
}
beside P Q F bs (stopped left) most l far f = record {
  thing = f.thing;
  text = f.text;
  tail = f.tail;
  spelled = inl f.spelled;
  follows = f.follows;
  near = f.near;
  nearest = λ b t v s tail. elim s as (λ _. left < missed (t ++ v) bs) [
    | inl g ↦ f.nearest b t v g tail
    | inr g ↦ omega (arith, far b t v g tail, l)
  ];
}

reversed : {A : Type 0} (P Q : Grammar A) (a : A) (t : List ℕ) → either P Q a t → either Q P a t
reversed P Q a t s = elim s as (λ _. either Q P a t) [ inl g ↦ inr g | inr g ↦ inl g ]

-- nothing misses all of some bytes
empty_far : (a : Names × Names) (t v bs : List ℕ) → mapped {A = Unit {0}} (λ _. ([], [])) empty a t → no_more v → first_is (is 32) bs ≡ true → length bs < missed (t ++ v) bs
empty_far a t v [] s tail h = absurd (false≢true h)
empty_far a t v (b ∷ bs) s tail h = omega (arith, ap (λ x. missed x (b ∷ bs)) (ap (λ x. x ++ v) s.1 ∙ tail))

-- where a member was found, the lists after ` may ` miss more
may_far : (bs m rest : List ℕ) (lists : Names) (t v : List ℕ) → Finds one_member after_member bs m rest → may_part lists t → length rest < missed (t ++ v) bs
unfolding after_has
may_far bs m rest lists t v f s =
    let z = s.1.1 ++ v in
    let parts : t ++ v ≡ codes " may" ++ 32 ∷ z = ap (λ x. x ++ v) (s.1.4 ∙ ap (λ x. x ++ s.1.1) s.1.2) ∙ append_assoc (codes " may ") s.1.1 v in
    let prefix : f.prefix ≡ 32 ∷ m = f.spelled.1.4 ∙ ap (λ x. x ++ f.spelled.1.1) f.spelled.1.2 ∙ ap (λ x. 32 ∷ x) (f.spelled.1.3.1 ∙ sym f.spelled.2) in
    let whole : bs ≡ 32 ∷ (m ++ rest) = f.are ∙ ap (λ x. x ++ rest) prefix in
    let named : is_name m ≡ true = ap is_name f.spelled.2 ∙ f.spelled.1.3.0 in
    let longer : one_member (codes "maya") (codes " maya") = ((tt, codes "maya"), (codes " ", codes "maya", refl, (refl, refl), refl), refl) in
    let far : length rest < missed (codes " may" ++ 32 ∷ z) bs = elim (f.others (codes "maya") (codes " maya") [] longer after_has.1) as (λ _. length rest < missed (codes " may" ++ 32 ∷ z) bs) [
      | inl e ↦ omega (arith, ap (missed (codes " may" ++ 32 ∷ z)) (f.are ∙ ap (λ x. x ++ rest) (sym e.1)), missed-prefix (codes " may") (32 ∷ z) (97 ∷ rest), missed-other 32 97 z rest (λ g. omega (arith, g)))
      | inr h ↦ elim (shared_or (codes " may") 97 32 [] z bs (length rest) h) as (λ _. length rest < missed (codes " may" ++ 32 ∷ z) bs) [
        | inl g ↦ g
        | inr g ↦
            let both_ways : 32 ∷ (m ++ rest) ≡ 32 ∷ 109 ∷ 97 ∷ 121 ∷ 32 ∷ g.0 = sym whole ∙ g.1 in
            let same : m ++ rest ≡ 109 ∷ 97 ∷ 121 ∷ 32 ∷ g.0 = tails_same (m ++ rest) (109 ∷ 97 ∷ 121 ∷ 32 ∷ g.0) both_ways in
            absurd (no_name m rest g.0 named same
            (omega (arith, ap length same, length-append m rest, h, ap (missed (codes " may" ++ 97 ∷ [])) g.1, missed-prefix (codes " may") (97 ∷ []) (32 ∷ g.0), missed-other 97 32 [] g.0 (λ k. omega (arith, k)))))
      ]
    ] in
    omega (arith, far, ap (λ x. missed x bs) parts)
  where
    tails_same : (x y : List ℕ) → 32 ∷ x ≡ 32 ∷ y → x ≡ y
    tails_same x y e = cc

last_far : (bs m rest : List ℕ) (a : Names × Names) (t v : List ℕ) → first_is (is 32) bs ≡ true → Finds one_member after_member bs m rest → last a t → no_more v → length rest < missed (t ++ v) bs
last_far bs m rest a t v h f s tail = elim s as (λ _. length rest < missed (t ++ v) bs) [
  | inl g ↦ may_far bs m rest g.0 t v f g.1
  | inr g ↦ omega (arith, empty_far a t v bs g tail h, rest_le bs f.prefix rest f.are)
]

-- where the lists after ` may ` were found, members miss more
members_far : (bs : List ℕ) (lists : Names) (rest : List ℕ) (ab : List ℕ × (Names × Names)) (t v : List ℕ) → Finds may_part no_more bs lists rest → both one_member composite_part ab t → no_more v → length rest < missed (t ++ v) bs
members_far bs lists rest ab t v f s tail =
    let m = ab.0 in
    let w = s.1 ++ v in
    let first : s.0 ≡ 32 ∷ m = s.2.1.4 ∙ ap (λ x. x ++ s.2.1.1) s.2.1.2 ∙ ap (λ x. 32 ∷ x) (s.2.1.3.1 ∙ sym s.2.2) in
    let named : is_name m ≡ true = ap is_name s.2.2 ∙ s.2.1.3.0 in
    let parts : t ++ v ≡ (32 ∷ m) ++ w = ap (λ x. x ++ v) (s.4 ∙ ap (λ x. x ++ s.1) first) ∙ append_assoc (32 ∷ m) s.1 v in
    let y = f.spelled.1.1 ++ rest in
    let whole : bs ≡ codes " may " ++ y = f.are ∙ ap (λ x. x ++ rest) (f.spelled.1.4 ∙ ap (λ x. x ++ f.spelled.1.1) f.spelled.1.2) ∙ append_assoc (codes " may ") f.spelled.1.1 rest in
    let unnamed : first_is is_name_byte w ≡ false = after_unnamed w (ab.1, s.1, v, s.3, tail, refl) in
    omega (arith, member_far m w y named unnamed, ap (λ x. missed x bs) parts, ap (missed ((32 ∷ m) ++ w)) whole, length-append f.spelled.1.1 rest)

-- of two grammars that both stop, the nearer one
nearest_of : {A : Type 0} (P Q : Grammar A) (F : Tails) (bs : List ℕ) (least left : ℕ) → Stops Q F bs least → Stops P F bs left → Stops (either P Q) F bs (min least left)
nearest_of P Q F bs least left g f = elim (cases_lt least left) as (λ _. Stops (either P Q) F bs (min least left)) [
  | inl h ↦ record {
    thing = g.thing;
    text = g.text;
    tail = g.tail;
    spelled = inr g.spelled;
    follows = g.follows;
    near = omega (arith, g.near);
    nearest = λ b t v s tail. elim s as (λ _. min least left < missed (t ++ v) bs) [ inl r ↦ omega (arith, f.nearest b t v r tail) | inr r ↦ omega (arith, g.nearest b t v r tail) ];
  }
  | inr h ↦ record {
    thing = f.thing;
    text = f.text;
    tail = f.tail;
    spelled = inl f.spelled;
    follows = f.follows;
    near = omega (arith, f.near);
    nearest = λ b t v s tail. elim s as (λ _. min least left < missed (t ++ v) bs) [ inl r ↦ omega (arith, f.nearest b t v r tail) | inr r ↦ omega (arith, g.nearest b t v r tail) ];
  }
]

-- no member: the lists after ` may `, or the nearer stop
abbrev with_members : Grammar (Names × Names)
with_members = mapped with_member (both one_member composite_part)

may_step : (bs : List ℕ) (left : ℕ) (st : Step Names) → first_is (is 32) bs ≡ true → Stops (both one_member composite_part) no_more bs left → IsStep may_part no_more bs st → IsStep split no_more bs (made no_member (nearer st (stopped left)))
may_step bs left (found lists rest) h f g =
    let found_last : IsStep last no_more bs (found (no_member lists) rest) =
    beside (mapped no_member may_part) (mapped (λ _. ([], [])) empty) no_more bs (found (no_member lists) rest) (length bs) (rest_le bs g.prefix rest g.are)
    (λ a t v s tail. empty_far a t v bs s tail h) (made_of_step no_member may_part no_more bs (found lists rest) g) in
    alike_step (either last with_members) split no_more bs (found (no_member lists) rest) (reversed last with_members) (reversed with_members last)
    (beside last with_members no_more bs (found (no_member lists) rest) (length rest) (omega arith) (λ a t v s tail. members_far bs lists rest s.0 t v g s.1 tail) found_last)
may_step bs left (stopped least) h f g =
    let stops_last : IsStep last no_more bs (stopped least) =
    beside (mapped no_member may_part) (mapped (λ _. ([], [])) empty) no_more bs (stopped least) (length bs) (at_most may_part no_more bs (stopped least) g)
    (λ a t v s tail. empty_far a t v bs s tail h) (made_of_step no_member may_part no_more bs (stopped least) g) in
    nearest_of with_members last no_more bs least left stops_last (made_of_step with_member (both one_member composite_part) no_more bs (stopped left) f)

shorter : (bs rest prefix : List ℕ) → bs ≡ prefix ++ rest → first_is (is 32) prefix ≡ true → length rest < length bs
shorter bs rest [] e b = absurd (false≢true b)
shorter bs rest (c ∷ prefix) e b = omega (arith, ap length e, length-append prefix rest)

-- one member more, or none
member_step : (bs : List ℕ) (k : ℕ) (st : Step (List ℕ)) → first_is (is 32) bs ≡ true → ((rest : List ℕ) → length rest < length bs → IsStep composite_part no_more rest (read_composite k rest)) → IsStep one_member after_member bs st → IsStep split no_more bs (member_or_may st (read_may bs) (read_composite k))
member_step bs k (found m rest) h next f =
    let inner : IsStep composite_part no_more rest (read_composite k rest) = next rest (shorter bs rest f.prefix f.are (begun_member m f.prefix f.spelled)) in
    let one = made_step one_member composite_part no_more bs m rest (read_composite k rest) f inner in
    let made_one = made_of_step with_member (both one_member composite_part) no_more bs (made (λ b. (m, b)) (read_composite k rest)) one in
    let joined = subst (λ st. IsStep with_members no_more bs st) (made_made with_member (λ b. (m, b)) (read_composite k rest)) made_one in
    beside with_members last no_more bs (made (λ ab. (m ∷ ab.0, ab.1)) (read_composite k rest)) (length rest)
    (at_most_made (λ ab. (m ∷ ab.0, ab.1)) (read_composite k rest) (length rest) (at_most composite_part no_more rest (read_composite k rest) inner))
    (λ a t v s tail. last_far bs m rest a t v h f s tail) joined
member_step bs k (stopped left) h next f =
    may_step bs left (read_may bs) h (seq_step one_member composite_part no_more bs (stopped left) (read_composite k) f (λ a rest g. next rest (shorter bs rest g.prefix g.are (begun_member a g.prefix g.spelled)))) (may_reads (length bs) bs (omega arith))

no_part : (bs : List ℕ) → first_is (is 32) bs ≡ false → IsStep composite_part no_more bs (found ([], []) bs)
no_part bs h = record {
  prefix = [];
  spelled = ([], [], refl, inr (tt, refl, refl), refl);
  are = refl;
  others = λ a t v s tail. none_or_far a t v (split_from a t s) tail;
}
  where
    none_or_far : (a : Names × Names) (t v : List ℕ) → split a t → no_more v → ((a ≡ ([], [])) × (t ≡ [])) ⊎ (length bs < missed (t ++ v) bs)
    none_or_far a t v s tail = elim s as (λ _. ((a ≡ ([], [])) × (t ≡ [])) ⊎ (length bs < missed (t ++ v) bs)) [
      | inl g ↦ inr (missed_all (is 32) (t ++ v) bs (first_is-append (is 32) t v (ap (first_is (is 32)) g.1.4 ∙ first_is-append (is 32) g.1.0 g.1.1 (begun_member g.0.0 g.1.0 g.1.2))) h)
      | inr g ↦ elim g as (λ _. ((a ≡ ([], [])) × (t ≡ [])) ⊎ (length bs < missed (t ++ v) bs)) [
        | inl k ↦ inr (missed_all (is 32) (t ++ v) bs (first_is-append (is 32) t v (begun_may k.0 t k.1)) h)
        | inr k ↦ inl (k.2, k.1)
      ]
    ]

pub composite_step : (k : ℕ) (bs : List ℕ) → length bs ≤ k → IsStep composite_part no_more bs (read_composite k bs)
composite_step zero [] l = no_part [] refl
composite_step zero (b ∷ bs) l = absurd (omega arith)
composite_step (suc k) bs l =
    let more = member_or_may (after_word (codes " ") read_name bs) (read_may bs) (read_composite k) in
    elim (cases_Bool (first_is (is 32) bs)) as (λ _. IsStep composite_part no_more bs (read_composite (suc k) bs)) [
      | inl e ↦ subst (λ x. IsStep composite_part no_more bs (cond x more (found ([], []) bs))) (sym e)
          (alike_step split composite_part no_more bs more split_to split_from
          (member_step bs k (after_word (codes " ") read_name bs) e (λ rest r. composite_step k rest (omega arith)) (member_reads (length bs) bs (omega arith))))
      | inr e ↦ subst (λ x. IsStep composite_part no_more bs (cond x more (found ([], []) bs))) (sym e) (no_part bs e)
    ]
