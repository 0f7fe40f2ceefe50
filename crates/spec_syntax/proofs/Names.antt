-- The reader of names reads its grammar.
use Rattle.std.proofs.Common.{◌≡◌, ◌⊎◌, ℕ, zero, suc, ◌+◌, ◌<◌, ◌≤◌, Bool, true, false, ◌&&◌, not, cond, leb, List, [], ◌∷◌, ◌++◌, length, refl, sym, ap, ◌∙◌, subst, inl, inr, arith, codes}
use Rattle.std.specs.Prelude.{bytes_eq}
use Rattle.std.specs.List.{list_all}
use Rattle.std.proofs.lemmas.Bool.{cases_eq, cases_Bool, false≢true}
use Rattle.std.proofs.lemmas.Bool.Decides.{nat_tests}
use Rattle.std.proofs.lemmas.Slice.Eq.{bytes_eq-Decides}
use Rattle.spec_value.specs.Name.{is_lower, is_name_byte, is_name}
use Rattle.spec_syntax.specs.Reader.{found, stopped, first_is}
use Rattle.spec_syntax.proofs.Missed.{missed, missed-same, missed-other, missed-prefix, missed_all, missed_all', missed_most}
use Rattle.spec_syntax.proofs.ReadSteps.{Tails, Stops, IsStep, Has, HasTail}
use Rattle.spec_syntax.proofs.Repetitions.{Begun, Unbegun}
use Rattle.spec_syntax.specs.Name.{name, named, unnamed, read_name}
use Rattle.spec_syntax.proofs.Lists.{ReadsAhead}
use Rattle.spec_basics.proofs.Booleans.{and_parts}

pub unnamed_le : (most : ℕ) (bs : List ℕ) → length (unnamed most bs) ≤ length bs
unnamed_le zero bs = omega arith
unnamed_le (suc most) [] = omega arith
unnamed_le (suc most) (b ∷ bs) = elim (cases_Bool (is_name_byte b)) as (λ _. length (unnamed (suc most) (b ∷ bs)) ≤ length (b ∷ bs)) [
  | inl e ↦ omega (arith, ap (λ x. length (cond x (unnamed most bs) (b ∷ bs))) e, unnamed_le most bs)
  | inr e ↦ omega (arith, ap (λ x. length (cond x (unnamed most bs) (b ∷ bs))) e)
]

-- the bytes at the front, and those after them
pub named_parts : (most : ℕ) (bs : List ℕ) → bs ≡ named most bs ++ unnamed most bs
named_parts zero bs = refl
named_parts (suc most) [] = refl
named_parts (suc most) (b ∷ bs) = elim (cases_Bool (is_name_byte b)) as (λ _. (b ∷ bs) ≡ named (suc most) (b ∷ bs) ++ unnamed (suc most) (b ∷ bs)) [
  | inl e ↦ ap (λ x. b ∷ x) (named_parts most bs) ∙ sym (ap (λ x. cond x (b ∷ named most bs) [] ++ cond x (unnamed most bs) (b ∷ bs)) e)
  | inr e ↦ sym (ap (λ x. cond x (b ∷ named most bs) [] ++ cond x (unnamed most bs) (b ∷ bs)) e)
]

named_bytes : (most : ℕ) (bs : List ℕ) → (list_all is_name_byte (named most bs) ≡ true) × (length (named most bs) ≤ most)
named_bytes zero bs = (refl, omega arith)
named_bytes (suc most) [] = (refl, omega arith)
named_bytes (suc most) (b ∷ bs) = elim (cases_Bool (is_name_byte b)) as (λ _. (list_all is_name_byte (named (suc most) (b ∷ bs)) ≡ true) × (length (named (suc most) (b ∷ bs)) ≤ suc most)) [
  | inl e ↦
      let rest = named_bytes most bs in
      (ap (λ x. list_all is_name_byte (cond x (b ∷ named most bs) [])) e ∙ ap (λ x. x && list_all is_name_byte (named most bs)) e ∙ rest.0, omega (arith, ap (λ x. length (cond x (b ∷ named most bs) [])) e, rest.1))
  | inr e ↦ (ap (λ x. list_all is_name_byte (cond x (b ∷ named most bs) [])) e, omega (arith, ap (λ x. length (cond x (b ∷ named most bs) [])) e))
]

-- other bytes of names miss some of what is before the rest
abbrev Alike : ℕ → List ℕ → List ℕ → List ℕ → Type 0
Alike most bs m v = (m ≡ named most bs) ⊎ (length (unnamed most bs) < missed (m ++ v) bs)

alike : (F : Tails) → Unbegun is_name_byte F → (most : ℕ) (bs m v : List ℕ) → list_all is_name_byte m ≡ true → length m ≤ most → F v → Alike most bs m v
alike F un zero bs [] v all l tail = inl refl
alike F un zero bs (x ∷ m) v all l tail = absurd (omega arith)
alike F un (suc most) [] [] v all l tail = inl refl
alike F un (suc most) [] (x ∷ m) v all l tail = inr (omega arith)
alike F un (suc most) (b ∷ bs) [] v all l tail = elim (cases_Bool (is_name_byte b)) as (λ _. Alike (suc most) (b ∷ bs) [] v) [
  | inl e ↦ inr (omega (arith, ap (λ x. length (cond x (unnamed most bs) (b ∷ bs))) e, unnamed_le most bs, missed_all' is_name_byte v (b ∷ bs) (un v tail) e))
  | inr e ↦ inl (sym (ap (λ x. cond x (b ∷ named most bs) []) e))
]
alike F un (suc most) (b ∷ bs) (x ∷ m) v all l tail = elim (cases_eq x b) as (λ _. Alike (suc most) (b ∷ bs) (x ∷ m) v) [
  | inl q ↦
      let parts = and_parts (is_name_byte x) (list_all is_name_byte m) all in
      let e : is_name_byte b ≡ true = ap is_name_byte (sym q) ∙ parts.0 in
      elim (alike F un most bs m v parts.1 (omega arith) tail) as (λ _. Alike (suc most) (b ∷ bs) (x ∷ m) v) [
        | inl h ↦ inl (ap (λ y. y ∷ m) q ∙ ap (λ y. b ∷ y) h ∙ sym (ap (λ y. cond y (b ∷ named most bs) []) e))
        | inr h ↦ inr (omega (arith, h, missed-same x b (m ++ v) bs q, ap (λ y. length (cond y (unnamed most bs) (b ∷ bs))) e))
      ]
  | inr ne ↦ inr (omega (arith, missed-other x b (m ++ v) bs ne, unnamed_le (suc most) (b ∷ bs)))
]

-- what is_name says
abbrev IsNamed : ℕ → List ℕ → Type 0
IsNamed b m = (is_lower b ≡ true) × (list_all is_name_byte m ≡ true) × (length m ≤ 31) × (bytes_eq (b ∷ m) (codes "may") ≡ false)

not_true : (b : Bool) → not b ≡ true → b ≡ false
not_true true h = absurd (false≢true h)
not_true false h = refl

name_parts : (b : ℕ) (m : List ℕ) → is_name (b ∷ m) ≡ true → IsNamed b m
name_parts b m h =
    let all = and_parts (is_lower b && list_all is_name_byte m && leb (length m) 31) (not (bytes_eq (b ∷ m) (codes "may"))) h in
    let most = and_parts (is_lower b && list_all is_name_byte m) (leb (length m) 31) all.0 in
    let bytes = and_parts (is_lower b) (list_all is_name_byte m) most.0 in
    (bytes.0, bytes.1, up_to most.1, not_true (bytes_eq (b ∷ m) (codes "may")) all.1)
  where
    up_to : leb (length m) 31 ≡ true → length m ≤ 31
    up_to e = grind (arith, nat_tests)

pub lower_byte : (b : ℕ) → is_lower b ≡ true → is_name_byte b ≡ true
lower_byte b h = grind (arith, nat_tests)

-- a name has bytes of names alone
pub name_bytes : (m : List ℕ) → is_name m ≡ true → list_all is_name_byte m ≡ true
name_bytes [] h = refl
name_bytes (b ∷ m) h = let parts = name_parts b m h in ap (λ x. x && list_all is_name_byte m) (lower_byte b parts.0) ∙ parts.1

name_of : (b : ℕ) (m : List ℕ) → IsNamed b m → is_name (b ∷ m) ≡ true
name_of b m p =
    ap (λ x. x && list_all is_name_byte m && leb (length m) 31 && not (bytes_eq (b ∷ m) (codes "may"))) p.0
    ∙ ap (λ x. x && leb (length m) 31 && not (bytes_eq (b ∷ m) (codes "may"))) p.1
    ∙ ap (λ x. x && not (bytes_eq (b ∷ m) (codes "may"))) (up_to p.2)
    ∙ ap not p.3
  where
    up_to : length m ≤ 31 → leb (length m) 31 ≡ true
    up_to l = grind (arith, nat_tests)

pub begun_name : Begun is_lower name
begun_name [] t s = absurd (false≢true s.0)
begun_name (b ∷ m) t s = ap (first_is is_lower) s.1 ∙ (name_parts b m s.0).0

pub has_name : Has name
has_name = (97 ∷ [], 97 ∷ [], (refl, refl))

-- nothing of a name at the front
no_name : (F : Tails) → HasTail F → (bs : List ℕ) → first_is is_lower bs ≡ false → Stops name F bs (length bs)
no_name F some bs e = record {
  thing = 97 ∷ [];
  text = 97 ∷ [];
  tail = some.0;
  spelled = (refl, refl);
  follows = some.1;
  near = omega (arith, missed_most (97 ∷ some.0) bs, missed_all is_lower (97 ∷ some.0) bs refl e);
  nearest = λ m t v s tail. missed_all is_lower (t ++ v) bs (first m t v s) e;
}
  where
    first : (m t v : List ℕ) → name m t → first_is is_lower (t ++ v) ≡ true
    first [] t v s = absurd (false≢true s.0)
    first (b ∷ m) t v s = ap (λ x. first_is is_lower (x ++ v)) s.1 ∙ (name_parts b m s.0).0

-- each name agrees with what is ahead, or misses some of what is before the rest
others_miss : (F : Tails) → Unbegun is_name_byte F → (b : ℕ) (bs m t v : List ℕ) → is_lower b ≡ true → name m t → F v → ((m ≡ b ∷ named 31 bs) × (t ≡ b ∷ named 31 bs)) ⊎ (length (unnamed 31 bs) < missed (t ++ v) (b ∷ bs))
others_miss F un b bs [] t v low s tail = absurd (false≢true s.0)
others_miss F un b bs (x ∷ m) t v low s tail =
    let parts = name_parts x m s.0 in
    elim (cases_eq x b) as (λ _. (((x ∷ m) ≡ b ∷ named 31 bs) × (t ≡ b ∷ named 31 bs)) ⊎ (length (unnamed 31 bs) < missed (t ++ v) (b ∷ bs))) [
      | inl q ↦ elim (alike F un 31 bs m v parts.1 parts.2 tail) as (λ _. (((x ∷ m) ≡ b ∷ named 31 bs) × (t ≡ b ∷ named 31 bs)) ⊎ (length (unnamed 31 bs) < missed (t ++ v) (b ∷ bs))) [
        | inl h ↦ let same : (x ∷ m) ≡ b ∷ named 31 bs = ap (λ y. y ∷ m) q ∙ ap (λ y. b ∷ y) h in inl (same, s.1 ∙ same)
        | inr h ↦ inr (omega (arith, h, ap (λ y. missed (y ++ v) (b ∷ bs)) s.1, missed-same x b (m ++ v) bs q))
      ]
      | inr ne ↦ inr (omega (arith, ap (λ y. missed (y ++ v) (b ∷ bs)) s.1, missed-other x b (m ++ v) bs ne, unnamed_le 31 bs))
    ]

eq_bytes : (n : List ℕ) → bytes_eq n (codes "may") ≡ true → n ≡ codes "may"
eq_bytes n h = (bytes_eq-Decides n (codes "may")).0 h

-- `may` is no name, and the names that begin with it go on
may_stops : (F : Tails) → HasTail F → Unbegun is_name_byte F → (b : ℕ) (bs : List ℕ) → is_lower b ≡ true → (b ∷ named 31 bs) ≡ codes "may" → Stops name F (b ∷ bs) (length (unnamed 31 bs))
may_stops F some un b bs low e =
    let parts : (b ∷ bs) ≡ codes "may" ++ unnamed 31 bs = ap (λ x. b ∷ x) (named_parts 31 bs) ∙ ap (λ x. x ++ unnamed 31 bs) e in
    let longer = elim (others_miss F un b bs (codes "maya") (codes "maya") some.0 low (refl, refl) some.1) as (λ _. length (unnamed 31 bs) < missed (codes "maya" ++ some.0) (b ∷ bs)) [
      | inl h ↦ absurd (let same : codes "maya" ≡ codes "may" = h.0 ∙ e in omega (arith, ap length same))
      | inr h ↦ h
    ] in
    record {
      thing = codes "maya";
      text = codes "maya";
      tail = some.0;
      spelled = (refl, refl);
      follows = some.1;
      near = omega (arith, longer, ap (missed (codes "maya" ++ some.0)) parts, missed-prefix (codes "may") (97 ∷ some.0) (unnamed 31 bs), missed_most (97 ∷ some.0) (unnamed 31 bs));
      nearest = λ m t v s tail. elim (others_miss F un b bs m t v low s tail) as (λ _. length (unnamed 31 bs) < missed (t ++ v) (b ∷ bs)) [
        | inl h ↦ absurd (false≢true (sym (ap is_name (h.0 ∙ e)) ∙ s.0))
        | inr h ↦ h
      ];
    }

name_step : (F : Tails) → HasTail F → Unbegun is_name_byte F → (b : ℕ) (bs : List ℕ) → is_lower b ≡ true → (may : Bool) → bytes_eq (b ∷ named 31 bs) (codes "may") ≡ may → IsStep name F (b ∷ bs) (cond may (stopped (length (unnamed 31 bs))) (found (b ∷ named 31 bs) (unnamed 31 bs)))
name_step F some un b bs low true e = may_stops F some un b bs low (eq_bytes (b ∷ named 31 bs) e)
name_step F some un b bs low false e =
    let all = named_bytes 31 bs in
    record {
      prefix = b ∷ named 31 bs;
      spelled = (name_of b (named 31 bs) (low, all.0, all.1, e), refl);
      are = ap (λ x. b ∷ x) (named_parts 31 bs);
      others = λ m t v s tail. others_miss F un b bs m t v low s tail;
    }

pub name_reads : (n : ℕ) → ReadsAhead n is_name_byte name read_name
name_reads n F some un [] h = no_name F some [] refl
name_reads n F some un (b ∷ bs) h =
    let tested = cond (bytes_eq (b ∷ named 31 bs) (codes "may")) (stopped (length (unnamed 31 bs))) (found (b ∷ named 31 bs) (unnamed 31 bs)) in
    elim (cases_Bool (is_lower b)) as (λ _. IsStep name F (b ∷ bs) (read_name (b ∷ bs))) [
      | inl e ↦ subst (λ x. IsStep name F (b ∷ bs) (cond x tested (stopped (length bs + 1)))) (sym e) (name_step F some un b bs e (bytes_eq (b ∷ named 31 bs) (codes "may")) refl)
      | inr e ↦ subst (λ x. IsStep name F (b ∷ bs) (cond x tested (stopped (length bs + 1)))) (sym e) (let l : length bs + 1 ≡ length (b ∷ bs) = omega arith in subst (Stops name F (b ∷ bs)) (sym l) (no_name F some (b ∷ bs) e))
    ]
