-- Readers one after the other, and what is made of what they find.
use Rattle.std.proofs.Common.{◌≡◌, ◌⊎◌, ℕ, ◌+◌, ◌<◌, ◌≤◌, List, [], ◌∷◌, ◌++◌, length, refl, sym, ap, ◌∙◌, subst, inl, inr, arith, append_assoc, length-append}
use Rattle.std.proofs.lemmas.Bool.{cases_eq, ne_eqb}
use Rattle.std.proofs.Common.{eq-eqb, cond}
use Rattle.spec_syntax.specs.Grammar.{Grammar, both, mapped, word, after, closed, apart, empty}
use Rattle.spec_syntax.specs.Reader.{Step, found, stopped, Reader, made, on, seq, made_of, read_word, after_word, close, sep}
use Rattle.spec_syntax.proofs.Missed.{missed, missed-same, missed-other, missed-prefix, missed_most}
use Rattle.spec_syntax.proofs.ReadSteps.{Tails, followed, Finds, Stops, IsStep, Reads, Has, HasTail}

-- a text in two parts, with a tail
pub missed_text : (t u w v bs : List ℕ) → t ≡ u ++ w → missed (t ++ v) bs ≡ missed (u ++ (w ++ v)) bs
missed_text t u w v bs e = ap (λ x. missed x bs) (ap (λ x. x ++ v) e ∙ append_assoc u w v)

-- a text whose first part stands before the bytes
pub missed_after : (t u w v bs prefix rest : List ℕ) → t ≡ u ++ w → u ≡ prefix → bs ≡ prefix ++ rest → missed (t ++ v) bs ≡ missed (w ++ v) rest
missed_after t u w v bs prefix rest e f g =
    let a = missed_text t u w v bs e in
    let b = missed-prefix prefix (w ++ v) rest in
    cc

pub rest_le : (bs prefix rest : List ℕ) → bs ≡ prefix ++ rest → length rest ≤ length bs
rest_le bs prefix rest e = omega (arith, ap length e, length-append prefix rest)

pairs_same : {A B : Type 0} (x a : A) (y b : B) → x ≡ a → y ≡ b → let p : A × B = (x, y) in let q : A × B = (a, b) in p ≡ q
pairs_same x a y b e f = cc

pair_is : {A B : Type 0} (ab : A × B) (a : A) (b : B) → ab.0 ≡ a → ab.1 ≡ b → ab ≡ (a, b)
pair_is ab a b e f = pairs_same ab.0 a ab.1 b e f

seq_found : {A B : Type 0} (P : Grammar A) (Q : Grammar B) (F : Tails) (bs : List ℕ) (a : A) (rest : List ℕ) (b : B) (left : List ℕ) → Finds P (followed Q F) bs a rest → Finds Q F rest b left → Finds (both P Q) F bs (a, b) left
seq_found P Q F bs a rest b left f g = record {
  prefix = f.prefix ++ g.prefix;
  spelled = (f.prefix, g.prefix, f.spelled, g.spelled, refl);
  are = f.are ∙ ap (λ x. f.prefix ++ x) g.are ∙ sym (append_assoc f.prefix g.prefix left);
  others = λ ab t v s tail.
      elim (f.others ab.0 s.0 (s.1 ++ v) s.2 (ab.1, s.1, v, s.3, tail, refl)) as (λ _. ((ab ≡ (a, b)) × (t ≡ f.prefix ++ g.prefix)) ⊎ (length left < missed (t ++ v) bs)) [
        | inl e ↦ elim (g.others ab.1 s.1 v s.3 tail) as (λ _. ((ab ≡ (a, b)) × (t ≡ f.prefix ++ g.prefix)) ⊎ (length left < missed (t ++ v) bs)) [
          | inl h ↦ inl (pair_is ab a b e.0 h.0, s.4 ∙ ap (λ x. x ++ s.1) e.1 ∙ ap (λ x. f.prefix ++ x) h.1)
          | inr h ↦ inr (omega (arith, missed_after t s.0 s.1 v bs f.prefix rest s.4 e.1 f.are))
        ]
        | inr h ↦ inr (omega (arith, rest_le rest g.prefix left g.are, missed_text t s.0 s.1 v bs s.4))
      ];
}

seq_stopped : {A B : Type 0} (P : Grammar A) (Q : Grammar B) (F : Tails) (bs : List ℕ) (a : A) (rest : List ℕ) (left : ℕ) → Finds P (followed Q F) bs a rest → Stops Q F rest left → Stops (both P Q) F bs left
seq_stopped P Q F bs a rest left f g = record {
  thing = (a, g.thing);
  text = f.prefix ++ g.text;
  tail = g.tail;
  spelled = (f.prefix, g.text, f.spelled, g.spelled, refl);
  follows = g.follows;
  near = missed_after (f.prefix ++ g.text) f.prefix g.text g.tail bs f.prefix rest refl refl f.are ∙ g.near;
  nearest = λ ab t v s tail.
      elim (f.others ab.0 s.0 (s.1 ++ v) s.2 (ab.1, s.1, v, s.3, tail, refl)) as (λ _. left < missed (t ++ v) bs) [
        | inl e ↦ omega (arith, missed_after t s.0 s.1 v bs f.prefix rest s.4 e.1 f.are, g.nearest ab.1 s.1 v s.3 tail)
        | inr h ↦ omega (arith, g.near, missed_most (g.text ++ g.tail) rest, missed_text t s.0 s.1 v bs s.4)
      ];
}

seq_stopped_first : {A B : Type 0} (P : Grammar A) (Q : Grammar B) (F : Tails) (bs : List ℕ) (left : ℕ) → Stops P (followed Q F) bs left → Stops (both P Q) F bs left
seq_stopped_first P Q F bs left f = record {
  thing = (f.thing, f.follows.0);
  text = f.text ++ f.follows.1;
  tail = f.follows.2;
  spelled = (f.text, f.follows.1, f.spelled, f.follows.3, refl);
  follows = f.follows.4;
  near = missed_text (f.text ++ f.follows.1) f.text f.follows.1 f.follows.2 bs refl ∙ ap (λ x. missed (f.text ++ x) bs) (sym f.follows.5) ∙ f.near;
  nearest = λ ab t v s tail. omega (arith, missed_text t s.0 s.1 v bs s.4, f.nearest ab.0 s.0 (s.1 ++ v) s.2 (ab.1, s.1, v, s.3, tail, refl));
}

-- a step on, after what was found
pub made_step : {A B : Type 0} (P : Grammar A) (Q : Grammar B) (F : Tails) (bs : List ℕ) (a : A) (rest : List ℕ) (st : Step B) → Finds P (followed Q F) bs a rest → IsStep Q F rest st → IsStep (both P Q) F bs (made (λ b. (a, b)) st)
made_step P Q F bs a rest (found b left) f g = seq_found P Q F bs a rest b left f g
made_step P Q F bs a rest (stopped left) f g = seq_stopped P Q F bs a rest left f g

pub seq_step : {A B : Type 0} (P : Grammar A) (Q : Grammar B) (F : Tails) (bs : List ℕ) (st : Step A) (q : Reader B) → IsStep P (followed Q F) bs st → ((a : A) (rest : List ℕ) → Finds P (followed Q F) bs a rest → IsStep Q F rest (q rest)) → IsStep (both P Q) F bs (on st (λ a rest. made (λ b. (a, b)) (q rest)))
seq_step P Q F bs (found a rest) q f g = made_step P Q F bs a rest (q rest) f (g a rest f)
seq_step P Q F bs (stopped left) q f g = seq_stopped_first P Q F bs left f

-- one after the other
pub seq_reads : {A B : Type 0} (n : ℕ) (P : Grammar A) (Q : Grammar B) (F : Tails) (r : Reader A) (q : Reader B) → Reads n P (followed Q F) r → Reads n Q F q → Reads n (both P Q) F (seq r q)
seq_reads n P Q F r q f g bs h = seq_step P Q F bs (r bs) q (f bs h) (λ a rest w. g rest (omega (arith, rest_le bs w.prefix rest w.are)))

-- what is made of a thing
pub made_of_step : {A B : Type 0} (k : A → B) (S : Grammar A) (F : Tails) (bs : List ℕ) (st : Step A) → IsStep S F bs st → IsStep (mapped k S) F bs (made k st)
made_of_step k S F bs (found a rest) f = record {
  prefix = f.prefix;
  spelled = (a, f.spelled, refl);
  are = f.are;
  others = λ b t v s tail. elim (f.others s.0 t v s.1 tail) as (λ _. ((b ≡ k a) × (t ≡ f.prefix)) ⊎ (length rest < missed (t ++ v) bs)) [
    | inl e ↦ inl (s.2 ∙ ap k e.0, e.1)
    | inr h ↦ inr h
  ];
}
made_of_step k S F bs (stopped left) f = record {
  thing = k f.thing;
  text = f.text;
  tail = f.tail;
  spelled = (f.thing, f.spelled, refl);
  follows = f.follows;
  near = f.near;
  nearest = λ b t v s tail. f.nearest s.0 t v s.1 tail;
}

pub made_of_reads : {A B : Type 0} (n : ℕ) (k : A → B) (S : Grammar A) (F : Tails) (r : Reader A) → Reads n S F r → Reads n (mapped k S) F (made_of k r)
made_of_reads n k S F r f bs h = made_of_step k S F bs (r bs) (f bs h)

-- grammars that spell alike are read alike
pub alike_step : {A : Type 0} (S T : Grammar A) (F : Tails) (bs : List ℕ) (st : Step A) → ((a : A) (t : List ℕ) → S a t → T a t) → ((a : A) (t : List ℕ) → T a t → S a t) → IsStep S F bs st → IsStep T F bs st
alike_step S T F bs (found a rest) to from f = record {
  prefix = f.prefix;
  spelled = to a f.prefix f.spelled;
  are = f.are;
  others = λ b t v s tail. f.others b t v (from b t s) tail;
}
alike_step S T F bs (stopped left) to from f = record {
  thing = f.thing;
  text = f.text;
  tail = f.tail;
  spelled = to f.thing f.text f.spelled;
  follows = f.follows;
  near = f.near;
  nearest = λ b t v s tail. f.nearest b t v (from b t s) tail;
}

-- tails that are alike
pub tails_step : {A : Type 0} (S : Grammar A) (F G : Tails) (bs : List ℕ) (st : Step A) → ((v : List ℕ) → F v → G v) → ((v : List ℕ) → G v → F v) → IsStep S F bs st → IsStep S G bs st
tails_step S F G bs (found a rest) to from f = record {
  prefix = f.prefix;
  spelled = f.spelled;
  are = f.are;
  others = λ b t v s tail. f.others b t v s (from v tail);
}
tails_step S F G bs (stopped left) to from f = record {
  thing = f.thing;
  text = f.text;
  tail = f.tail;
  spelled = f.spelled;
  follows = to f.tail f.follows;
  near = f.near;
  nearest = λ b t v s tail. f.nearest b t v s (from v tail);
}

-- nothing, and what stands after it
pub nothing_step : (F : Tails) (bs : List ℕ) → IsStep empty F bs (found tt bs)
nothing_step F bs = record {
  prefix = [];
  spelled = refl;
  are = refl;
  others = λ b t v s tail. inl (refl, s);
}

-- a word on the bytes that begin with its first sign
word_more : (c : ℕ) (w : List ℕ) (F : Tails) (b : ℕ) (bs : List ℕ) (st : Step (Unit {0})) → c ≡ b → IsStep (word w) F bs st → IsStep (word (c ∷ w)) F (b ∷ bs) st
word_more c w F b bs (found a rest) e f = record {
  prefix = b ∷ f.prefix;
  spelled = let g = f.spelled in cc;
  are = ap (λ x. b ∷ x) f.are;
  others = λ a t v s tail. inl (refl, let g = f.spelled in cc);
}
word_more c w F b bs (stopped left) e f = record {
  thing = tt;
  text = c ∷ w;
  tail = f.tail;
  spelled = refl;
  follows = f.follows;
  near = missed-same c b (w ++ f.tail) bs e ∙ ap (λ x. missed (x ++ f.tail) bs) (sym f.spelled) ∙ f.near;
  nearest = λ a t v s tail. omega (arith, ap (λ x. missed (x ++ v) (b ∷ bs)) s, missed-same c b (w ++ v) bs e, f.nearest tt w v refl tail);
}

word_other : (c : ℕ) (w : List ℕ) (F : Tails) (some : HasTail F) (b : ℕ) (bs : List ℕ) → (c ≡ b → ⊥) → Stops (word (c ∷ w)) F (b ∷ bs) (length bs + 1)
word_other c w F some b bs ne = record {
  thing = tt;
  text = c ∷ w;
  tail = some.0;
  spelled = refl;
  follows = some.1;
  near = omega (arith, missed-other c b (w ++ some.0) bs ne);
  nearest = λ a t v s tail. omega (arith, ap (λ x. missed (x ++ v) (b ∷ bs)) s, missed-other c b (w ++ v) bs ne);
}

pub word_step : (w : List ℕ) (F : Tails) (some : HasTail F) (bs : List ℕ) → IsStep (word w) F bs (read_word w bs)
word_step [] F some bs = nothing_step F bs
word_step (c ∷ w) F some [] = record {
  thing = tt;
  text = c ∷ w;
  tail = some.0;
  spelled = refl;
  follows = some.1;
  near = refl;
  nearest = λ a t v s tail. omega (arith, ap (λ x. missed (x ++ v) []) s);
}
word_step (c ∷ w) F some (b ∷ bs) = elim (cases_eq c b) as (λ _. IsStep (word (c ∷ w)) F (b ∷ bs) (read_word (c ∷ w) (b ∷ bs))) [
  | inl e ↦ subst (λ x. IsStep (word (c ∷ w)) F (b ∷ bs) (cond x (read_word w bs) (stopped (length bs + 1)))) (sym (eq-eqb c b e)) (word_more c w F b bs (read_word w bs) e (word_step w F some bs))
  | inr ne ↦ subst (λ x. IsStep (word (c ∷ w)) F (b ∷ bs) (cond x (read_word w bs) (stopped (length bs + 1)))) (sym (ne_eqb c b ne)) (word_other c w F some b bs ne)
]

pub word_reads : (n : ℕ) (w : List ℕ) (F : Tails) → HasTail F → Reads n (word w) F (read_word w)
word_reads n w F some bs h = word_step w F some bs

-- some text of a grammar with a tail after it is a tail
pub followed_has : {A : Type 0} (S : Grammar A) (F : Tails) → Has S → HasTail F → HasTail (followed S F)
followed_has S F s v = (s.1 ++ v.0, (s.0, s.1, v.0, s.2, v.1, refl))

-- a thing after a word
pub after_reads : {A : Type 0} (n m : ℕ) (w : List ℕ) (S : Grammar A) (F : Tails) (r : Reader A) → n ≤ length w + m → Has S → HasTail F → Reads m S F r → Reads n (after w S) F (after_word w r)
after_reads n m w S F r l s some f bs h =
    made_of_step (λ ab. ab.1) (both (word w) S) F bs (seq (read_word w) r bs)
    (seq_step (word w) S F bs (read_word w bs) r (word_step w (followed S F) (followed_has S F s some) bs)
    (λ a rest g. f rest (omega (arith, ap length g.are, length-append g.prefix rest, ap length g.spelled))))

-- a thing ahead of a word
pub close_reads : {A : Type 0} (n : ℕ) (S : Grammar A) (w : List ℕ) (F : Tails) (r : Reader A) → HasTail F → Reads n S (followed (word w) F) r → Reads n (closed S w) F (close r w)
close_reads n S w F r some f = made_of_reads n (λ ab. ab.0) (both S (word w)) F (seq r (read_word w)) (seq_reads n S (word w) F r (read_word w) f (word_reads n w F some))

-- a thing, a word and a thing
pub sep_reads : {A B : Type 0} (n : ℕ) (P : Grammar A) (w : List ℕ) (Q : Grammar B) (F : Tails) (r : Reader A) (q : Reader B) → Has Q → HasTail F → Reads n P (followed (after w Q) F) r → Reads n Q F q → Reads n (apart P w Q) F (sep r w q)
sep_reads n P w Q F r q s some f g = seq_reads n P (after w Q) F r (after_word w q) f (after_reads n n w Q F q (omega arith) s some g)
