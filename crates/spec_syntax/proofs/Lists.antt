-- Lists between brackets, of things that may be followed by no byte of a class.
use Rattle.std.proofs.Common.{◌≡◌, ℕ, suc, Bool, false, List, [], ◌∷◌, ◌++◌, refl, ap, ◌∙◌, inl, inr, arith, append_assoc, codes}
use Rattle.spec_syntax.specs.Grammar.{Grammar, empty, mapped, word, both, either, after, closed, optional, many, listed}
use Rattle.spec_syntax.specs.Reader.{found, Reader, first_is, made_of, seq, after_word, close, all_of}
use Rattle.spec_syntax.proofs.ReadSteps.{Tails, followed, Reads, Has, HasTail}
use Rattle.spec_syntax.proofs.Sequences.{followed_has, made_of_step, made_of_reads, nothing_step, alike_step, seq_reads, after_reads, close_reads}
use Rattle.spec_syntax.proofs.Choices.{Starts, NoneStarts, or_else_step}
use Rattle.spec_syntax.proofs.Repetitions.{Unbegun, begun_word, many_reads, unbegun_word, unbegun_many}
use Rattle.spec_syntax.specs.Value.{bracketed}
use Rattle.spec_syntax.specs.ValueReader.{is, read_elements, read_bracketed}

-- no element begins with a closing bracket
abbrev pub Unclosing : {A : Type 0} → Grammar A → Type 1
Unclosing V = (F : Tails) → NoneStarts (is 93) V F

-- the reader reads them ahead of whatever begins with no byte of the class
abbrev pub ReadsAhead : {A : Type 0} → ℕ → (ℕ → Bool) → Grammar A → Reader A → Type 1
ReadsAhead n p V r = (F : Tails) → HasTail F → Unbegun p F → Reads n V F r

-- one element and more of them
pub listed_reads : {A : Type 0} (n : ℕ) (p : ℕ → Bool) (V : Grammar A) (r : Reader A) (F : Tails) → p 44 ≡ false → Has V → HasTail F → Unbegun (is 44) F → Unbegun p F → ReadsAhead n p V r → Reads n (listed V (codes ",")) F (made_of (λ b. b.0 ∷ b.1) (seq r (all_of (is 44) (after_word (codes ",") r))))
listed_reads {A = A} n p V r F comma has some commaless un reads =
    let others : Grammar (List A) = many (after (codes ",") V) in
    let more : HasTail (followed others F) = followed_has others F ([], [], refl) some in
    let undigit : Unbegun p (followed others F) = unbegun_many p 44 [] V F comma un in
    made_of_reads n (λ b. b.0 ∷ b.1) (both V others) F (seq r (all_of (is 44) (after_word (codes ",") r)))
    (seq_reads n V others F r (all_of (is 44) (after_word (codes ",") r)) (reads (followed others F) more undigit)
    (many_reads n (is 44) (after (codes ",") V) F (after_word (codes ",") r) (begun_word (is 44) 44 [] V refl) commaless
    (after_reads n n (codes ",") V (followed others F) r (omega arith) has more (reads (followed others F) more undigit))))

none_listed : {A : Type 0} (V : Grammar A) (F : Tails) → Unclosing V → NoneStarts (is 93) (listed V (codes ",")) F
none_listed V F h a t v s tail =
    ap (first_is (is 93)) (ap (λ x. x ++ v) s.1.4 ∙ append_assoc s.1.0 s.1.1 v)
    ∙ h (followed (many (after (codes ",") V)) F) s.0.0 s.1.0 (s.1.1 ++ v) s.1.2 (s.0.1, s.1.1, v, s.1.3, tail, refl)

-- nothing ahead of a closing bracket
starts_nothing : {A : Type 0} (F : Tails) → Starts {A = List A} (is 93) (mapped (λ _. []) empty) (followed (word (codes "]")) F)
starts_nothing F a t v s tail = ap (λ x. first_is (is 93) (x ++ v)) s.1 ∙ ap (first_is (is 93)) (tail.5 ∙ ap (λ x. x ++ tail.2) tail.3)

elements_to : {A : Type 0} (V : Grammar A) (a : List A) (t : List ℕ) → either (mapped (λ _. []) empty) (listed V (codes ",")) a t → optional [] (listed V (codes ",")) a t
elements_to V a t s = elim s as (λ _. optional [] (listed V (codes ",")) a t) [ inl f ↦ inr f | inr f ↦ inl f ]

elements_from : {A : Type 0} (V : Grammar A) (a : List A) (t : List ℕ) → optional [] (listed V (codes ",")) a t → either (mapped (λ _. []) empty) (listed V (codes ",")) a t
elements_from V a t s = elim s as (λ _. either (mapped (λ _. []) empty) (listed V (codes ",")) a t) [ inl f ↦ inr f | inr f ↦ inl f ]

elements_reads : {A : Type 0} (n : ℕ) (p : ℕ → Bool) (V : Grammar A) (r : Reader A) (F : Tails) → p 44 ≡ false → p 93 ≡ false → Has V → Unclosing V → HasTail F → ReadsAhead n p V r → Reads n (optional [] (listed V (codes ","))) (followed (word (codes "]")) F) (read_elements r)
elements_reads n p V r F comma bracketless has unclosing some reads bs h =
    let bracket : Tails = followed (word (codes "]")) F in
    let more : HasTail bracket = followed_has (word (codes "]")) F (tt, 93 ∷ [], refl) some in
    alike_step (either (mapped (λ _. []) empty) (listed V (codes ","))) (optional [] (listed V (codes ","))) bracket bs (read_elements r bs) (elements_to V) (elements_from V)
    (or_else_step (is 93) (mapped (λ _. []) empty) (listed V (codes ",")) bracket (found []) (made_of (λ b. b.0 ∷ b.1) (seq r (all_of (is 44) (after_word (codes ",") r)))) bs
    (starts_nothing F) (none_listed V bracket unclosing)
    (made_of_step (λ _. []) empty bracket bs (found tt bs) (nothing_step bracket bs))
    (listed_reads n p V r bracket comma has more (unbegun_word (is 44) 93 [] F refl) (unbegun_word p 93 [] F bracketless) reads bs h))

has_closed : {A : Type 0} (V : Grammar A) → Has (closed (optional [] (listed V (codes ","))) (codes "]"))
has_closed V = ([], 93 ∷ [], (([], tt), ([], 93 ∷ [], inr (tt, refl, refl), refl, refl), refl))

pub has_bracketed : {A : Type 0} (V : Grammar A) → Has (bracketed V)
has_bracketed V = let inside : Has (closed (optional [] (listed V (codes ","))) (codes "]")) = has_closed V in
    (inside.0, 91 ∷ inside.1, ((tt, inside.0), (91 ∷ [], inside.1, refl, inside.2, refl), refl))

pub bracketed_reads : {A : Type 0} (n : ℕ) (p : ℕ → Bool) (V : Grammar A) (r : Reader A) (F : Tails) → p 44 ≡ false → p 93 ≡ false → Has V → Unclosing V → HasTail F → ReadsAhead n p V r → Reads (suc n) (bracketed V) F (read_bracketed r)
bracketed_reads n p V r F comma bracketless has unclosing some reads =
    after_reads (suc n) n (codes "[") (closed (optional [] (listed V (codes ","))) (codes "]")) F (close (read_elements r) (codes "]")) (omega arith) (has_closed V) some
    (close_reads n (optional [] (listed V (codes ","))) (codes "]") F (read_elements r) some (elements_reads n p V r F comma bracketless has unclosing some reads))
