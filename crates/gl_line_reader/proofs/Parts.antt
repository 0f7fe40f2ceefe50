-- Things that are read one after another.
use Rattle.std.proofs.Common.{◌≡◌, ℕ, Bool, List, [], ◌∷◌, ◌++◌, refl, sym, ap, ◌∙◌, append_assoc, append-nil}
use Rattle.std.specs.Prelude.{fold}
use Rattle.spec_syntax.specs.Reader.{Step, found, stopped, Reader, made, on, made_of, seq, read_word, after_word, close, repeated, folded}
use Rattle.spec_syntax.proofs.Joints.{made_same, after_on, later_stops, close_on, close_stops, close_ends}
use Rattle.spec_syntax.proofs.Folds.{folded_is}
use Rattle.spec_syntax.specs.ValueReader.{snoc}
use Rattle.spec_syntax.proofs.Enclosed.{fold_snoc, made_pair}

more_are : {A : Type 0} (first : A) (n : ℕ) (p : ℕ → Bool) (q : Reader A) (bs : List ℕ) → folded snoc (first ∷ []) n p q bs ≡ made (λ list. first ∷ list) (repeated n p q bs)
more_are first n p q bs = folded_is snoc (first ∷ []) n p q bs ∙ made_same (fold snoc (first ∷ [])) (λ list. first ∷ list) (repeated n p q bs) (fold_snoc (first ∷ []))

-- a first thing, and those after it put to it one by one
pub first_found : {A : Type 0} (n : ℕ) (p : ℕ → Bool) (r q : Reader A) (bs : List ℕ) (first : A) (list : List A) (rest : List ℕ) → r bs ≡ found first rest → list ≡ first ∷ [] → made_of (λ b. b.0 ∷ b.1) (seq r (repeated n p q)) bs ≡ folded snoc list n p q rest
first_found {A = A} n p r q bs first list rest h e =
    ap (λ st. made {A = A × List A} (λ b. b.0 ∷ b.1) (on st (λ a left. made (λ more. (a, more)) (repeated n p q left)))) h
    ∙ made_pair first (repeated n p q rest)
    ∙ sym (ap (λ l. folded snoc l n p q rest) e ∙ more_are first n p q rest)

pub first_stops : {A : Type 0} (n : ℕ) (p : ℕ → Bool) (r q : Reader A) (bs : List ℕ) (left : ℕ) → r bs ≡ stopped left → made_of (λ b. b.0 ∷ b.1) (seq r (repeated n p q)) bs ≡ stopped left
first_stops {A = A} n p r q bs left h = ap (λ st. made {A = A × List A} (λ b. b.0 ∷ b.1) (on st (λ a rest. made (λ more. (a, more)) (repeated n p q rest)))) h

-- a thing between two words
pub inside_found : {A : Type 0} (w v : List ℕ) (r : Reader A) (bs r1 r2 r3 : List ℕ) (a : A) → read_word w bs ≡ found tt r1 → r r1 ≡ found a r2 → read_word v r2 ≡ found tt r3 → after_word w (close r v) bs ≡ found a r3
inside_found w v r bs r1 r2 r3 a h g k = after_on w (close r v) bs r1 h ∙ close_on r v r1 a r2 r3 g k

pub inside_stops : {A : Type 0} (w v : List ℕ) (r : Reader A) (bs : List ℕ) (left : ℕ) → read_word w bs ≡ stopped left → after_word w (close r v) bs ≡ stopped left
inside_stops w v r bs left h = later_stops w (close r v) bs left h

pub inside_stops_within : {A : Type 0} (w v : List ℕ) (r : Reader A) (bs r1 : List ℕ) (left : ℕ) → read_word w bs ≡ found tt r1 → r r1 ≡ stopped left → after_word w (close r v) bs ≡ stopped left
inside_stops_within w v r bs r1 left h g = after_on w (close r v) bs r1 h ∙ close_stops r v r1 left g

pub inside_stops_last : {A : Type 0} (w v : List ℕ) (r : Reader A) (bs r1 r2 : List ℕ) (a : A) (left : ℕ) → read_word w bs ≡ found tt r1 → r r1 ≡ found a r2 → read_word v r2 ≡ stopped left → after_word w (close r v) bs ≡ stopped left
inside_stops_last w v r bs r1 r2 a left h g k = after_on w (close r v) bs r1 h ∙ close_ends r v r1 a r2 left g k
