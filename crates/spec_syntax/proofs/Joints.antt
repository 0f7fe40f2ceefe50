-- What readers that are put together come to, by what their parts come to.
use Rattle.std.proofs.Common.{◌≡◌, ℕ, List, refl, ap, ◌∙◌}
use Rattle.spec_syntax.specs.Reader.{Step, found, stopped, Reader, made, on, made_of, read_word, after_word, close}

-- what is made of a thing is made of nothing else
pub made_same : {A B : Type 0} (f g : A → B) (st : Step A) → ((a : A) → f a ≡ g a) → made f st ≡ made g st
made_same f g (found a rest) h = ap (λ b. found b rest) (h a)
made_same f g (stopped left) h = refl

made_second : {A B : Type 0} (a : A) (st : Step B) → made {A = A × B} (λ ab. ab.1) (made (λ b. (a, b)) st) ≡ st
made_second a (found b rest) = refl
made_second a (stopped left) = refl

made_first : {A B C : Type 0} (f : A → C) (a : A) (st : Step B) → made f (made {A = A × B} (λ ab. ab.0) (made (λ b. (a, b)) st)) ≡ made {A = C × B} (λ ab. ab.0) (made (λ b. (f a, b)) st)
made_first f a (found b rest) = refl
made_first f a (stopped left) = refl

pub after_on : {A : Type 0} (w : List ℕ) (r : Reader A) (bs rest : List ℕ) → read_word w bs ≡ found tt rest → after_word w r bs ≡ r rest
after_on {A = A} w r bs rest h = ap (λ st. made {A = Unit {0} × A} (λ ab. ab.1) (on st (λ a left. made (λ b. (a, b)) (r left)))) h ∙ made_second tt (r rest)

pub later_stops : {A : Type 0} (w : List ℕ) (r : Reader A) (bs : List ℕ) (left : ℕ) → read_word w bs ≡ stopped left → after_word w r bs ≡ stopped left
later_stops {A = A} w r bs left h = ap (λ st. made {A = Unit {0} × A} (λ ab. ab.1) (on st (λ a rest. made (λ b. (a, b)) (r rest)))) h

pub close_on : {A : Type 0} (r : Reader A) (w : List ℕ) (bs : List ℕ) (a : A) (rest more : List ℕ) → r bs ≡ found a rest → read_word w rest ≡ found tt more → close r w bs ≡ found a more
close_on {A = A} r w bs a rest more h g =
    ap (λ st. made {A = A × Unit {0}} (λ ab. ab.0) (on st (λ c left. made (λ b. (c, b)) (read_word w left)))) h
    ∙ ap (λ st. made {A = A × Unit {0}} (λ ab. ab.0) (made (λ b. (a, b)) st)) g

pub close_stops : {A : Type 0} (r : Reader A) (w : List ℕ) (bs : List ℕ) (left : ℕ) → r bs ≡ stopped left → close r w bs ≡ stopped left
close_stops {A = A} r w bs left h = ap (λ st. made {A = A × Unit {0}} (λ ab. ab.0) (on st (λ c rest. made (λ b. (c, b)) (read_word w rest)))) h

pub close_ends : {A : Type 0} (r : Reader A) (w : List ℕ) (bs : List ℕ) (a : A) (rest : List ℕ) (left : ℕ) → r bs ≡ found a rest → read_word w rest ≡ stopped left → close r w bs ≡ stopped left
close_ends {A = A} r w bs a rest left h g =
    ap (λ st. made {A = A × Unit {0}} (λ ab. ab.0) (on st (λ c more. made (λ b. (c, b)) (read_word w more)))) h
    ∙ ap (λ st. made {A = A × Unit {0}} (λ ab. ab.0) (made (λ b. (a, b)) st)) g

made_on : {A B C : Type 0} (f : A → C) (st : Step A) (q : Reader B) → made f (made {A = A × B} (λ ab. ab.0) (on st (λ a rest. made (λ b. (a, b)) (q rest)))) ≡ made {A = C × B} (λ ab. ab.0) (on (made f st) (λ a rest. made (λ b. (a, b)) (q rest)))
made_on f (found a rest) q = made_first f a (q rest)
made_on f (stopped left) q = refl

-- what is made after a bracket may be made inside of it
pub made_close : {A B : Type 0} (f : A → B) (r : Reader A) (w : List ℕ) (bs : List ℕ) → made f (close r w bs) ≡ close (made_of f r) w bs
made_close f r w bs = made_on f (r bs) (read_word w)
