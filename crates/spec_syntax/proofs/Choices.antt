-- A class of bytes, a choice by the first byte, and repetitions.
use Rattle.std.proofs.Common.{◌≡◌, ◌⊎◌, ℕ, ◌+◌, ◌<◌, Bool, true, false, cond, List, [], ◌∷◌, ◌++◌, length, refl, sym, ap, ◌∙◌, subst, inl, inr, arith, IsTrue}
use Rattle.std.proofs.lemmas.Bool.{cases_eq, cases_Bool}
use Rattle.spec_syntax.specs.Grammar.{Grammar, class, either, led}
use Rattle.spec_syntax.specs.Reader.{Step, found, stopped, Reader, first_is, made, byte_of, or_else, lead}
use Rattle.spec_syntax.proofs.Missed.{missed, missed-same, missed-other, missed_all, missed_all', missed_most}
use Rattle.spec_syntax.proofs.ReadSteps.{Tails, Finds, Stops, IsStep, Reads, Has, HasTail}
use Rattle.spec_syntax.proofs.Sequences.{rest_le, alike_step}

-- each text with its tail begins with a byte of the class, or none does
abbrev pub Starts : {A : Type 0} → (ℕ → Bool) → Grammar A → Tails → Type 0
Starts {A = A} p S F = (a : A) (t v : List ℕ) → S a t → F v → first_is p (t ++ v) ≡ true

abbrev pub NoneStarts : {A : Type 0} → (ℕ → Bool) → Grammar A → Tails → Type 0
NoneStarts {A = A} p S F = (a : A) (t v : List ℕ) → S a t → F v → first_is p (t ++ v) ≡ false

-- a second grammar, of which each text misses more
left_step : {A : Type 0} (P Q : Grammar A) (F : Tails) (bs : List ℕ) (st : Step A) → ((a : A) (t v : List ℕ) → Q a t → F v → length bs < missed (t ++ v) bs) → IsStep P F bs st → IsStep (either P Q) F bs st
left_step P Q F bs (found a rest) far f = record {
  prefix = f.prefix;
  spelled = inl f.spelled;
  are = f.are;
  others = λ b t v s tail. elim s as (λ _. ((b ≡ a) × (t ≡ f.prefix)) ⊎ (length rest < missed (t ++ v) bs)) [
    | inl g ↦ f.others b t v g tail
    | inr g ↦ inr (omega (arith, far b t v g tail, rest_le bs f.prefix rest f.are))
  ];
}
left_step P Q F bs (stopped left) far f = record {
  thing = f.thing;
  text = f.text;
  tail = f.tail;
  spelled = inl f.spelled;
  follows = f.follows;
  near = f.near;
  nearest = λ b t v s tail. elim s as (λ _. left < missed (t ++ v) bs) [
    | inl g ↦ f.nearest b t v g tail
    | inr g ↦ omega (arith, far b t v g tail, f.near, missed_most (f.text ++ f.tail) bs)
  ];
}

reversed : {A : Type 0} (P Q : Grammar A) (a : A) (t : List ℕ) → either P Q a t → either Q P a t
reversed P Q a t s = elim s as (λ _. either Q P a t) [ inl g ↦ inr g | inr g ↦ inl g ]

-- the first byte says which of two grammars it is
pub or_else_step : {A : Type 0} (p : ℕ → Bool) (P Q : Grammar A) (F : Tails) (r q : Reader A) (bs : List ℕ) → Starts p P F → NoneStarts p Q F → IsStep P F bs (r bs) → IsStep Q F bs (q bs) → IsStep (either P Q) F bs (or_else p r q bs)
or_else_step p P Q F r q bs starts none f g = elim (cases_Bool (first_is p bs)) as (λ _. IsStep (either P Q) F bs (or_else p r q bs)) [
  | inl e ↦ subst (λ x. IsStep (either P Q) F bs (cond x (r bs) (q bs))) (sym e) (left_step P Q F bs (r bs) (λ a t v s tail. missed_all' p (t ++ v) bs (none a t v s tail) e) f)
  | inr e ↦ subst (λ x. IsStep (either P Q) F bs (cond x (r bs) (q bs))) (sym e)
      (alike_step (either Q P) (either P Q) F bs (q bs) (reversed Q P) (reversed P Q) (left_step Q P F bs (q bs) (λ a t v s tail. missed_all p (t ++ v) bs (starts a t v s tail) e) g))
]

pub or_else_reads : {A : Type 0} (n : ℕ) (p : ℕ → Bool) (P Q : Grammar A) (F : Tails) (r q : Reader A) → Starts p P F → NoneStarts p Q F → Reads n P F r → Reads n Q F q → Reads n (either P Q) F (or_else p r q)
or_else_reads n p P Q F r q starts none f g bs h = or_else_step p P Q F r q bs starts none (f bs h) (g bs h)

-- some byte of the class
abbrev pub HasByte : (ℕ → Bool) → Type 0
HasByte p = (b : ℕ) × IsTrue (p b)

class_found : (p : ℕ → Bool) (F : Tails) (b : ℕ) (bs : List ℕ) → p b ≡ true → Finds (class p) F (b ∷ bs) b bs
class_found p F b bs e = record {
  prefix = b ∷ [];
  spelled = (e, refl);
  are = refl;
  others = λ a t v s tail. elim (cases_eq a b) as (λ _. ((a ≡ b) × (t ≡ b ∷ [])) ⊎ (length bs < missed (t ++ v) (b ∷ bs))) [
    | inl g ↦ inl (g, let h = s.1 in cc)
    | inr ne ↦ inr (omega (arith, ap (λ x. missed (x ++ v) (b ∷ bs)) s.1, missed-other a b v bs ne))
  ];
}

class_stopped : (p : ℕ → Bool) (F : Tails) (some : HasByte p) (tail : HasTail F) (bs : List ℕ) → first_is p bs ≡ false → Stops (class p) F bs (length bs)
class_stopped p F some tail bs e =
    let first : (a : ℕ) (t v : List ℕ) → class p a t → first_is p (t ++ v) ≡ true = λ a t v s. ap (λ x. first_is p (x ++ v)) s.1 ∙ s.0 in
    record {
      thing = some.0;
      text = some.0 ∷ [];
      tail = tail.0;
      spelled = (some.1, refl);
      follows = tail.1;
      near = let far : length bs < missed (some.0 ∷ tail.0) bs = missed_all p (some.0 ∷ tail.0) bs some.1 e in omega (arith, missed_most (some.0 ∷ tail.0) bs);
      nearest = λ a t v s w. missed_all p (t ++ v) bs (first a t v s) e;
    }

-- one byte of a class
pub class_step : (p : ℕ → Bool) (F : Tails) → HasByte p → HasTail F → (bs : List ℕ) → IsStep (class p) F bs (byte_of p bs)
class_step p F some tail [] = class_stopped p F some tail [] refl
class_step p F some tail (b ∷ bs) = elim (cases_Bool (p b)) as (λ _. IsStep (class p) F (b ∷ bs) (byte_of p (b ∷ bs))) [
  | inl e ↦ subst (λ x. IsStep (class p) F (b ∷ bs) (cond x (found b bs) (stopped (length bs + 1)))) (sym e) (class_found p F b bs e)
  | inr e ↦ subst (λ x. IsStep (class p) F (b ∷ bs) (cond x (found b bs) (stopped (length bs + 1)))) (sym e) (let l : length bs + 1 ≡ length (b ∷ bs) = omega arith in subst (Stops (class p) F (b ∷ bs)) (sym l) (class_stopped p F some tail (b ∷ bs) e))
]

pub class_reads : (n : ℕ) (p : ℕ → Bool) (F : Tails) → HasByte p → HasTail F → Reads n (class p) F (byte_of p)
class_reads n p F some tail bs h = class_step p F some tail bs

-- a byte of a class, and what it calls for
led_same : {B : Type 0} (p : ℕ → Bool) (T : ℕ → Grammar B) (F : Tails) (b : ℕ) (bs : List ℕ) (st : Step B) → p b ≡ true → IsStep (T b) F bs st → IsStep (led p T) F (b ∷ bs) (made (λ c. (b, c)) st)
led_same {B = B} p T F b bs (found c rest) e f = record {
  prefix = b ∷ f.prefix;
  spelled = (e, f.prefix, f.spelled, refl);
  are = ap (λ x. b ∷ x) f.are;
  others = λ by t v s tail. same_or_not by.0 by.1 t v s.1 s.2 s.3 tail;
}
  where
    same_or_not : (x : ℕ) (y : B) (t v u : List ℕ) → T x y u → t ≡ x ∷ u → F v → ((let one : ℕ × B = (x, y) in let other : ℕ × B = (b, c) in one ≡ other) × (t ≡ b ∷ f.prefix)) ⊎ (length rest < missed (t ++ v) (b ∷ bs))
    same_or_not x y t v u g k tail = elim (cases_eq x b) as (λ _. ((let one : ℕ × B = (x, y) in let other : ℕ × B = (b, c) in one ≡ other) × (t ≡ b ∷ f.prefix)) ⊎ (length rest < missed (t ++ v) (b ∷ bs))) [
      | inl q ↦ elim (f.others y u v (subst (λ z. T z y u) q g) tail) as (λ _. ((let one : ℕ × B = (x, y) in let other : ℕ × B = (b, c) in one ≡ other) × (t ≡ b ∷ f.prefix)) ⊎ (length rest < missed (t ++ v) (b ∷ bs))) [
        | inl h ↦ let i = h.0 in let j = h.1 in inl (cc, cc)
        | inr h ↦ inr (omega (arith, h, ap (λ z. missed (z ++ v) (b ∷ bs)) k, missed-same x b (u ++ v) bs q))
      ]
      | inr ne ↦ inr (omega (arith, ap (λ z. missed (z ++ v) (b ∷ bs)) k, missed-other x b (u ++ v) bs ne, rest_le bs f.prefix rest f.are))
    ]
led_same {B = B} p T F b bs (stopped left) e f = record {
  thing = (b, f.thing);
  text = b ∷ f.text;
  tail = f.tail;
  spelled = (e, f.text, f.spelled, refl);
  follows = f.follows;
  near = missed-same b b (f.text ++ f.tail) bs refl ∙ f.near;
  nearest = λ by t v s tail. no_nearer by.0 by.1 t v s.1 s.2 s.3 tail;
}
  where
    no_nearer : (x : ℕ) (y : B) (t v u : List ℕ) → T x y u → t ≡ x ∷ u → F v → left < missed (t ++ v) (b ∷ bs)
    no_nearer x y t v u g k tail = elim (cases_eq x b) as (λ _. left < missed (t ++ v) (b ∷ bs)) [
      | inl q ↦ omega (arith, f.nearest y u v (subst (λ z. T z y u) q g) tail, ap (λ z. missed (z ++ v) (b ∷ bs)) k, missed-same x b (u ++ v) bs q)
      | inr ne ↦ omega (arith, ap (λ z. missed (z ++ v) (b ∷ bs)) k, missed-other x b (u ++ v) bs ne, f.near, missed_most (f.text ++ f.tail) bs)
    ]

led_stopped : {B : Type 0} (p : ℕ → Bool) (T : ℕ → Grammar B) (F : Tails) → Has (led p T) → HasTail F → (bs : List ℕ) → first_is p bs ≡ false → Stops (led p T) F bs (length bs)
led_stopped p T F some tail bs e =
    let first : (by : ℕ × _) (t v : List ℕ) → led p T by t → first_is p (t ++ v) ≡ true = λ by t v s. ap (λ x. first_is p (x ++ v)) s.3 ∙ s.0 in
    record {
      thing = some.0;
      text = some.1;
      tail = tail.0;
      spelled = some.2;
      follows = tail.1;
      near = let far : length bs < missed (some.1 ++ tail.0) bs = missed_all p (some.1 ++ tail.0) bs (first some.0 some.1 tail.0 some.2) e in omega (arith, missed_most (some.1 ++ tail.0) bs);
      nearest = λ by t v s w. missed_all p (t ++ v) bs (first by t v s) e;
    }

pub led_reads : {B : Type 0} (n : ℕ) (p : ℕ → Bool) (T : ℕ → Grammar B) (F : Tails) (r : ℕ → Reader B) → Has (led p T) → HasTail F → ((b : ℕ) → IsTrue (p b) → Reads n (T b) F (r b)) → Reads n (led p T) F (lead p r)
led_reads n p T F r some tail f [] h = led_stopped p T F some tail [] refl
led_reads n p T F r some tail f (b ∷ bs) h = elim (cases_Bool (p b)) as (λ _. IsStep (led p T) F (b ∷ bs) (lead p r (b ∷ bs))) [
  | inl e ↦ subst (λ x. IsStep (led p T) F (b ∷ bs) (cond x (made (λ c. (b, c)) (r b bs)) (stopped (length bs + 1)))) (sym e) (led_same p T F b bs (r b bs) e (f b e bs (omega arith)))
  | inr e ↦ subst (λ x. IsStep (led p T) F (b ∷ bs) (cond x (made (λ c. (b, c)) (r b bs)) (stopped (length bs + 1)))) (sym e) (let l : length bs + 1 ≡ length (b ∷ bs) = omega arith in subst (Stops (led p T) F (b ∷ bs)) (sym l) (led_stopped p T F some tail (b ∷ bs) e))
]
