-- What stands after a thing: words of a table, things after a word, repetitions.
use Rattle.std.proofs.Common.{◌≡◌, ℕ, zero, suc, Bool, true, false, List, [], ◌∷◌, ◌++◌, refl, sym, ap, ◌∙◌, inl, inr}
use Rattle.std.specs.List.{AllByRecursion}
use Rattle.std.proofs.lemmas.Bool.{false≢true}
use Rattle.spec_syntax.specs.Grammar.{Grammar, after, many, more_of, upto, words}
use Rattle.spec_syntax.specs.Reader.{first_is}
use Rattle.spec_syntax.proofs.ReadSteps.{Tails, followed, Has, HasTail}
use Rattle.spec_syntax.proofs.Repetitions.{Begun, Unbegun, first_is-append, first_other}

-- a class without some of its bytes
less : (a b : Bool) → (b ≡ true → a ≡ true) → a ≡ false → b ≡ false
less a true h e = absurd (false≢true (sym e ∙ h refl))
less a false h e = refl

pub unbegun_less : (p q : ℕ → Bool) (F : Tails) → ((b : ℕ) → q b ≡ true → p b ≡ true) → Unbegun p F → Unbegun q F
unbegun_less p q F h un [] tail = refl
unbegun_less p q F h un (b ∷ v) tail = less (p b) (q b) (h b) (un (b ∷ v) tail)

-- some things, or none
pub has_many : {A : Type 0} (S : Grammar A) (F : Tails) → HasTail F → HasTail (followed (many S) F)
has_many S F some = (some.0, ([], [], some.0, refl, some.1, refl))

pub has_upto : {A : Type 0} (k : ℕ) (S : Grammar A) (F : Tails) → HasTail F → HasTail (followed (upto k S) F)
has_upto k S F some = (some.0, ([], [], some.0, refl, some.1, refl))

pub has_after : {A : Type 0} (w : List ℕ) (S : Grammar A) → Has S → Has (after w S)
has_after w S some = (some.0, w ++ some.1, ((tt, some.0), (w, some.1, refl, some.2, refl), refl))

pub begun_more_of : {A : Type 0} (p : ℕ → Bool) (S : Grammar A) (T : Grammar (List A)) → Begun p S → Begun p (more_of S T)
begun_more_of p S T h a t s = ap (first_is p) s.1.4 ∙ first_is-append p s.1.0 s.1.1 (h s.0.0 s.1.0 s.1.2)

pub begun_words : {K A : Type 0} (p : ℕ → Bool) (form : K → Grammar A) (rows : List (List ℕ × K)) → AllByRecursion (λ row. first_is p row.0 ≡ true) rows → Begun p (words form rows)
begun_words p form [] h a t s = absurd s
begun_words p form (row ∷ rows) h a t s = elim s as (λ _. first_is p t ≡ true) [
  | inl g ↦ ap (first_is p) (g.1.4 ∙ ap (λ x. x ++ g.1.1) g.1.2) ∙ first_is-append p row.0 g.1.1 h.0
  | inr g ↦ begun_words p form rows h.1 a t g
]

-- tails that begin with a thing of another class
pub unbegun_followed : {A : Type 0} (p q : ℕ → Bool) (S : Grammar A) (F : Tails) → ((b : ℕ) → q b ≡ true → p b ≡ false) → Begun q S → Unbegun p (followed S F)
unbegun_followed p q S F other begun v s = ap (first_is p) s.5 ∙ first_other q p (s.1 ++ s.2) other (first_is-append q s.1 s.2 (begun s.0 s.1 s.3))

pub unbegun_after : {A : Type 0} (p : ℕ → Bool) (c : ℕ) (w : List ℕ) (S : Grammar A) (F : Tails) → p c ≡ false → Unbegun p (followed (after (c ∷ w) S) F)
unbegun_after p c w S F h v s = ap (first_is p) (s.5 ∙ ap (λ x. x ++ s.2) (s.3.1.4 ∙ ap (λ x. x ++ s.3.1.1) s.3.1.2)) ∙ h

pub unbegun_upto : {A : Type 0} (p : ℕ → Bool) (c : ℕ) (w : List ℕ) (S : Grammar A) (k : ℕ) (F : Tails) → p c ≡ false → Unbegun p F → Unbegun p (followed (upto k (after (c ∷ w) S)) F)
unbegun_upto {A = A} p c w S k F h unbegun v s = none_or_more k s.0 s.1 s.2 v s.3 s.4 s.5
  where
    none_or_more : (k : ℕ) (list : List A) (t u v : List ℕ) → upto k (after (c ∷ w) S) list t → F u → v ≡ t ++ u → first_is p v ≡ false
    none_or_more k [] t u v s f e = ap (first_is p) (e ∙ ap (λ x. x ++ u) s) ∙ unbegun u f
    none_or_more zero (a ∷ others) t u v s f e = absurd s
    none_or_more (suc k) (a ∷ others) t u v s f e = ap (first_is p) (e ∙ ap (λ x. x ++ u) s.4 ∙ ap (λ x. (x ++ s.1) ++ u) (s.2.1.4 ∙ ap (λ x. x ++ s.2.1.1) s.2.1.2)) ∙ h

-- any number of things of another class
pub unbegun_many_of : {A : Type 0} (p q : ℕ → Bool) (S : Grammar A) (F : Tails) → ((b : ℕ) → q b ≡ true → p b ≡ false) → Begun q S → Unbegun p F → Unbegun p (followed (many S) F)
unbegun_many_of {A = A} p q S F other begun unbegun v s = none_or_more s.0 s.1 s.2 v s.3 s.4 s.5
  where
    none_or_more : (list : List A) (t u v : List ℕ) → many S list t → F u → v ≡ t ++ u → first_is p v ≡ false
    none_or_more [] t u v s f e = ap (first_is p) (e ∙ ap (λ x. x ++ u) s) ∙ unbegun u f
    none_or_more (a ∷ others) t u v s f e = ap (first_is p) (e ∙ ap (λ x. x ++ u) s.4) ∙ first_other q p ((s.0 ++ s.1) ++ u) other (first_is-append q (s.0 ++ s.1) u (first_is-append q s.0 s.1 (begun a s.0 s.2)))
