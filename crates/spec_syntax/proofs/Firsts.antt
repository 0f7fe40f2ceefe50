-- What texts begin with.
use Rattle.std.proofs.Common.{◌≡◌, ℕ, Bool, true, false, List, [], ◌∷◌, ◌++◌, ap, ◌∙◌, inl, inr}
use Rattle.std.proofs.lemmas.Bool.{false≢true}
use Rattle.spec_syntax.specs.Grammar.{Grammar, word, mapped, either, after, led}
use Rattle.spec_syntax.specs.Reader.{first_is}
use Rattle.spec_syntax.proofs.ReadSteps.{Tails}
use Rattle.spec_syntax.proofs.Choices.{NoneStarts}
use Rattle.spec_syntax.proofs.Repetitions.{Begun, none_begun, other_byte}
use Rattle.spec_syntax.specs.ValueReader.{is}

pub begun_led : {B : Type 0} (p : ℕ → Bool) (T : ℕ → Grammar B) → Begun p (led p T)
begun_led p T by t s = ap (first_is p) s.3 ∙ s.0

pub begun_mapped : {A B : Type 0} (p : ℕ → Bool) (k : A → B) (S : Grammar A) → Begun p S → Begun p (mapped k S)
begun_mapped p k S h b t s = h s.0 t s.1

pub begun_either : {A : Type 0} (p : ℕ → Bool) (P Q : Grammar A) → Begun p P → Begun p Q → Begun p (either P Q)
begun_either p P Q h g a t s = elim s as (λ _. first_is p t ≡ true) [ inl f ↦ h a t f | inr f ↦ g a t f ]

first_more : (p q : ℕ → Bool) (t : List ℕ) → ((b : ℕ) → p b ≡ true → q b ≡ true) → first_is p t ≡ true → first_is q t ≡ true
first_more p q [] more h = absurd (false≢true h)
first_more p q (b ∷ t) more h = more b h

pub begun_more : {A : Type 0} (p q : ℕ → Bool) (S : Grammar A) → ((b : ℕ) → p b ≡ true → q b ≡ true) → Begun p S → Begun q S
begun_more p q S more h a t s = first_more p q t more (h a t s)

pub none_mapped : {A B : Type 0} (p : ℕ → Bool) (k : A → B) (S : Grammar A) (F : Tails) → NoneStarts p S F → NoneStarts p (mapped k S) F
none_mapped p k S F h b t v s tail = h s.0 t v s.1 tail

pub none_either : {A : Type 0} (p : ℕ → Bool) (P Q : Grammar A) (F : Tails) → NoneStarts p P F → NoneStarts p Q F → NoneStarts p (either P Q) F
none_either p P Q F h g a t v s tail = elim s as (λ _. first_is p (t ++ v) ≡ false) [ inl f ↦ h a t v f tail | inr f ↦ g a t v f tail ]

pub none_word : (p : ℕ → Bool) (c : ℕ) (w : List ℕ) (F : Tails) → p c ≡ false → NoneStarts p (word (c ∷ w)) F
none_word p c w F h a t v s tail = ap (λ x. first_is p (x ++ v)) s ∙ h

pub none_after : {A : Type 0} (p : ℕ → Bool) (c : ℕ) (w : List ℕ) (S : Grammar A) (F : Tails) → p c ≡ false → NoneStarts p (after (c ∷ w) S) F
none_after p c w S F h a t v s tail = ap (λ x. first_is p (x ++ v)) (s.1.4 ∙ ap (λ x. x ++ s.1.1) s.1.2) ∙ h

-- texts that begin with a byte of a class don't begin with a byte outside of it
pub none_outside : {A : Type 0} (p : ℕ → Bool) (c : ℕ) (S : Grammar A) (F : Tails) → p c ≡ false → Begun p S → NoneStarts (is c) S F
none_outside p c S F h begun = none_begun p (is c) S F (λ b g. other_byte p c b h g) begun
