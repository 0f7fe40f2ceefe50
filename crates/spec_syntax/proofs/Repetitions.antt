-- Optional things, and any number of things.
use Rattle.std.proofs.Common.{◌≡◌, ◌⊎◌, ℕ, zero, suc, ◌<◌, ◌≤◌, Bool, true, false, eqb, List, [], ◌∷◌, ◌++◌, length, refl, sym, ap, ◌∙◌, inl, inr, arith, length-append}
use Rattle.std.proofs.lemmas.Bool.{false≢true, ne_eqb}
use Rattle.spec_syntax.specs.Grammar.{Grammar, empty, word, mapped, both, after, optional, many, more_of, upto}
use Rattle.spec_syntax.specs.Reader.{found, Reader, first_is, made_of, seq, repeated, all_of, maybe}
use Rattle.spec_syntax.proofs.Missed.{missed, missed_all}
use Rattle.spec_syntax.proofs.ReadSteps.{Tails, followed, Finds, IsStep, Reads}
use Rattle.spec_syntax.proofs.Sequences.{rest_le, seq_step, made_of_step, alike_step, nothing_step}
use Rattle.spec_syntax.proofs.Choices.{Starts, NoneStarts, or_else_step}

-- each text begins with a byte of the class
abbrev pub Begun : {A : Type 0} → (ℕ → Bool) → Grammar A → Type 0
Begun {A = A} p S = (a : A) (t : List ℕ) → S a t → first_is p t ≡ true

-- no tail begins with a byte of the class
abbrev pub Unbegun : (ℕ → Bool) → Tails → Type 0
Unbegun p F = (v : List ℕ) → F v → first_is p v ≡ false

pub first_is-append : (p : ℕ → Bool) (t v : List ℕ) → first_is p t ≡ true → first_is p (t ++ v) ≡ true
first_is-append p [] v h = absurd (false≢true h)
first_is-append p (b ∷ t) v h = h

pub starts_begun : {A : Type 0} (p : ℕ → Bool) (S : Grammar A) (F : Tails) → Begun p S → Starts p S F
starts_begun p S F h a t v s tail = first_is-append p t v (h a t s)

-- nothing, where the tails begin with no such byte
pub none_starts : {A : Type 0} (p : ℕ → Bool) (a : A) (F : Tails) → Unbegun p F → NoneStarts p (mapped (λ _. a) empty) F
none_starts p a F h b t v s tail = ap (λ x. first_is p (x ++ v)) s.1 ∙ h v tail

-- an optional thing
pub maybe_reads : {A : Type 0} (n : ℕ) (a : A) (p : ℕ → Bool) (S : Grammar A) (F : Tails) (r : Reader A) → Begun p S → Unbegun p F → Reads n S F r → Reads n (optional a S) F (maybe a p r)
maybe_reads n a p S F r begun unbegun f bs h = or_else_step p S (mapped (λ _. a) empty) F r (found a) bs (starts_begun p S F begun) (none_starts p a F unbegun) (f bs h) (made_of_step (λ _. a) empty F bs (found tt bs) (nothing_step F bs))

begun_more : {A : Type 0} (p : ℕ → Bool) (S : Grammar A) (T : Grammar (List A)) → Begun p S → Begun p (more_of S T)
begun_more p S T h b t s = ap (first_is p) s.1.4 ∙ first_is-append p s.1.0 s.1.1 (h s.0.0 s.1.0 s.1.2)

many_nil : {A : Type 0} (S : Grammar A) (b : List A) (t : List ℕ) → t ≡ [] → b ≡ [] → many S b t
many_nil S [] t e f = e
many_nil S (x ∷ xs) t e f = cc

-- any number of things is one thing and more of them, or nothing
many_to : {A : Type 0} (S : Grammar A) (b : List A) (t : List ℕ) → optional [] (more_of S (many S)) b t → many S b t
many_to S b t s = elim s as (λ _. many S b t) [
  | inl g ↦ rw g.2 g.1
  | inr g ↦ many_nil S b t g.1 g.2
]

many_from : {A : Type 0} (S : Grammar A) (b : List A) (t : List ℕ) → many S b t → optional [] (more_of S (many S)) b t
many_from S [] t s = inr (tt, s, refl)
many_from S (a ∷ others) t s = inl ((a, others), s, refl)

-- nothing, where the bytes begin with no such byte
none_step : {A : Type 0} (p : ℕ → Bool) (S : Grammar A) (F : Tails) (bs : List ℕ) → Begun p S → Unbegun p F → IsStep (mapped (λ _. []) empty) F bs (found (let none : List A = [] in none) bs)
none_step {A = A} p S F bs begun unbegun = made_of_step {B = List A} (λ _. []) empty F bs (found tt bs) (nothing_step F bs)

-- where there are no bytes there are no things
none_left : {A : Type 0} (p : ℕ → Bool) (S : Grammar A) (F : Tails) (r : Reader A) (bs : List ℕ) → length bs ≤ 0 → Begun p S → IsStep (many S) F bs (found [] bs)
none_left {A = A} p S F r [] h begun = record {
  prefix = [];
  spelled = refl;
  are = refl;
  others = λ b t v s tail. empty_or_more b t v s;
}
  where
    empty_or_more : (b : List A) (t v : List ℕ) → many S b t → ((b ≡ []) × (t ≡ [])) ⊎ (length {A = ℕ} [] < missed (t ++ v) [])
    empty_or_more [] t v s = inl (refl, s)
    empty_or_more (a ∷ others) t v s = inr (missed_all p (t ++ v) [] (first_is-append p t v (ap (first_is p) s.4 ∙ first_is-append p s.0 s.1 (begun a s.0 s.2))) refl)
none_left p S F r (c ∷ bs) h begun = absurd (omega arith)

-- what was found has a byte
found_some : {A : Type 0} (p : ℕ → Bool) (S : Grammar A) (F : Tails) (bs : List ℕ) (a : A) (rest : List ℕ) (n : ℕ) → Begun p S → Finds S F bs a rest → length bs ≤ suc n → length rest ≤ n
found_some p S F bs a rest n begun f h = omega (arith, some f.prefix (begun a f.prefix f.spelled), ap length f.are, length-append f.prefix rest)
  where
    some : (t : List ℕ) → first_is p t ≡ true → 0 < length t
    some [] e = absurd (false≢true e)
    some (c ∷ t) e = omega arith

-- any number of things, on no more bytes than the reader may take things
pub many_step : {A : Type 0} (n : ℕ) (p : ℕ → Bool) (S : Grammar A) (F : Tails) (r : Reader A) → Begun p S → Unbegun p F → Reads n S (followed (many S) F) r → (k : ℕ) (bs : List ℕ) → length bs ≤ k → length bs ≤ n → IsStep (many S) F bs (repeated k p r bs)
many_step n p S F r begun unbegun f zero bs l h = none_left p S F r bs l begun
many_step n p S F r begun unbegun f (suc k) bs l h =
    alike_step (optional [] (more_of S (many S))) (many S) F bs (repeated (suc k) p r bs) (many_to S) (many_from S)
    (or_else_step p (more_of S (many S)) (mapped (λ _. []) empty) F (made_of (λ ab. ab.0 ∷ ab.1) (seq r (repeated k p r))) (found []) bs
    (starts_begun p (more_of S (many S)) F (begun_more p S (many S) begun)) (none_starts p [] F unbegun)
    (made_of_step (λ ab. ab.0 ∷ ab.1) (both S (many S)) F bs (seq r (repeated k p r) bs)
    (seq_step S (many S) F bs (r bs) (repeated k p r) (f bs h)
    (λ a rest g. many_step n p S F r begun unbegun f k rest (found_some p S (followed (many S) F) bs a rest k begun g l) (omega (arith, rest_le bs g.prefix rest g.are)))))
    (none_step p S F bs begun unbegun))

pub many_reads : {A : Type 0} (n : ℕ) (p : ℕ → Bool) (S : Grammar A) (F : Tails) (r : Reader A) → Begun p S → Unbegun p F → Reads n S (followed (many S) F) r → Reads n (many S) F (all_of p r)
many_reads n p S F r begun unbegun f bs h = many_step n p S F r begun unbegun f (length bs) bs (omega arith) h

upto_to : {A : Type 0} (n : ℕ) (S : Grammar A) (b : List A) (t : List ℕ) → optional [] (more_of S (upto n S)) b t → upto (suc n) S b t
upto_to n S b t s = elim s as (λ _. upto (suc n) S b t) [
  | inl g ↦ rw g.2 g.1
  | inr g ↦ upto_nil n S b t g.1 g.2
]
  where
    upto_nil : {A : Type 0} (n : ℕ) (S : Grammar A) (b : List A) (t : List ℕ) → t ≡ [] → b ≡ [] → upto (suc n) S b t
    upto_nil n S [] t e f = e
    upto_nil n S (x ∷ xs) t e f = cc

upto_from : {A : Type 0} (n : ℕ) (S : Grammar A) (b : List A) (t : List ℕ) → upto (suc n) S b t → optional [] (more_of S (upto n S)) b t
upto_from n S [] t s = inr (tt, s, refl)
upto_from n S (a ∷ others) t s = inl ((a, others), s, refl)

zero_others : {A : Type 0} (S : Grammar A) (F : Tails) (bs : List ℕ) (b : List A) (t v : List ℕ) → upto 0 S b t → F v → ((b ≡ []) × (t ≡ [])) ⊎ (length bs < missed (t ++ v) bs)
zero_others S F bs [] t v s tail = inl (refl, s)
zero_others S F bs (a ∷ others) t v s tail = absurd s

-- at most so many things
pub upto_reads : {A : Type 0} (m : ℕ) (p : ℕ → Bool) (S : Grammar A) (F : Tails) (r : Reader A) → Begun p S → Unbegun p F → (n : ℕ) → ((k : ℕ) → k < n → Reads m S (followed (upto k S) F) r) → Reads m (upto n S) F (repeated n p r)
upto_reads m p S F r begun unbegun zero f bs h = record { prefix = []; spelled = refl; are = refl; others = zero_others S F bs }
upto_reads m p S F r begun unbegun (suc n) f bs h =
    alike_step (optional [] (more_of S (upto n S))) (upto (suc n) S) F bs (repeated (suc n) p r bs) (upto_to n S) (upto_from n S)
    (or_else_step p (more_of S (upto n S)) (mapped (λ _. []) empty) F (made_of (λ ab. ab.0 ∷ ab.1) (seq r (repeated n p r))) (found []) bs
    (starts_begun p (more_of S (upto n S)) F (begun_more p S (upto n S) begun)) (none_starts p [] F unbegun)
    (made_of_step (λ ab. ab.0 ∷ ab.1) (both S (upto n S)) F bs (seq r (repeated n p r) bs)
    (seq_step S (upto n S) F bs (r bs) (repeated n p r) (f n (omega arith) bs h)
    (λ a rest g. upto_reads m p S F r begun unbegun n (λ k l. f k (omega arith)) rest (omega (arith, rest_le bs g.prefix rest g.are)))))
    (none_step p S F bs begun unbegun))

-- a text or a tail that begins with a word begins with its first byte
pub begun_word : {A : Type 0} (p : ℕ → Bool) (c : ℕ) (w : List ℕ) (S : Grammar A) → p c ≡ true → Begun p (after (c ∷ w) S)
begun_word p c w S h a t s = ap (first_is p) (s.1.4 ∙ ap (λ x. x ++ s.1.1) s.1.2) ∙ h

pub unbegun_word : (p : ℕ → Bool) (c : ℕ) (w : List ℕ) (F : Tails) → p c ≡ false → Unbegun p (followed (word (c ∷ w)) F)
unbegun_word p c w F h v s = ap (first_is p) (s.5 ∙ ap (λ x. x ++ s.2) s.3) ∙ h

-- nor does a tail that begins with any number of things, each after a word
pub unbegun_many : {A : Type 0} (p : ℕ → Bool) (c : ℕ) (w : List ℕ) (S : Grammar A) (F : Tails) → p c ≡ false → Unbegun p F → Unbegun p (followed (many (after (c ∷ w) S)) F)
unbegun_many {A = A} p c w S F h unbegun v s = none_or_more s.0 s.1 s.2 v s.3 s.4 s.5
  where
    none_or_more : (list : List A) (t u v : List ℕ) → many (after (c ∷ w) S) list t → F u → v ≡ t ++ u → first_is p v ≡ false
    none_or_more [] t u v s f e = ap (first_is p) (e ∙ ap (λ x. x ++ u) s) ∙ unbegun u f
    none_or_more (a ∷ others) t u v s f e = ap (first_is p) (e ∙ ap (λ x. x ++ u) s.4 ∙ ap (λ x. (x ++ s.1) ++ u) (s.2.1.4 ∙ ap (λ x. x ++ s.2.1.1) s.2.1.2)) ∙ h

-- a class that has a byte, and one that hasn't
pub other_byte : (p : ℕ → Bool) (c b : ℕ) → p c ≡ false → p b ≡ true → eqb b c ≡ false
other_byte p c b h g = ne_eqb b c (λ e. false≢true (sym h ∙ ap p (sym e) ∙ g))

-- texts of one class of first bytes begin with no byte of another
pub first_other : (p q : ℕ → Bool) (t : List ℕ) → ((b : ℕ) → p b ≡ true → q b ≡ false) → first_is p t ≡ true → first_is q t ≡ false
first_other p q [] other h = refl
first_other p q (b ∷ t) other h = other b h

pub none_begun : {A : Type 0} (p q : ℕ → Bool) (S : Grammar A) (F : Tails) → ((b : ℕ) → p b ≡ true → q b ≡ false) → Begun p S → NoneStarts q S F
none_begun p q S F other begun a t v s tail = first_other p q (t ++ v) other (first_is-append p t v (begun a t s))
