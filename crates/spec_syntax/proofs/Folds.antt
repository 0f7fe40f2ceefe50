-- Things that are put one by one to what is made of those before them.
use Rattle.std.proofs.Common.{◌≡◌, ℕ, zero, suc, ◌-◌, ◌<◌, Bool, true, false, cond, List, [], ◌∷◌, refl, sym, ap, ◌∙◌, inl, inr, arith}
use Rattle.std.specs.Prelude.{fold}
use Rattle.std.proofs.lemmas.Bool.{cases_Bool}
use Rattle.spec_syntax.specs.Reader.{Step, found, stopped, Reader, first_is, made, on, made_of, seq, repeated, folded}

-- one thing more, from a count that is left
pub folded_on : {A B : Type 0} (f : B → A → B) (b : B) (n : ℕ) (p : ℕ → Bool) (r : Reader A) (bs : List ℕ) (a : A) (rest : List ℕ) → 0 < n → first_is p bs ≡ true → r bs ≡ found a rest → folded f b n p r bs ≡ folded f (f b a) (n - 1) p r rest
folded_on f b zero p r bs a rest h e g = absurd (omega arith)
folded_on f b (suc n) p r bs a rest h e g =
    ap (λ x. cond x (on (r bs) (λ c left. folded f (f b c) n p r left)) (found b bs)) e
    ∙ ap (λ st. on st (λ c left. folded f (f b c) n p r left)) g
    ∙ ap (λ m. folded f (f b a) m p r rest) (let k : n ≡ suc n - 1 = omega arith in k)

pub folded_stops : {A B : Type 0} (f : B → A → B) (b : B) (n : ℕ) (p : ℕ → Bool) (r : Reader A) (bs : List ℕ) (left : ℕ) → 0 < n → first_is p bs ≡ true → r bs ≡ stopped left → folded f b n p r bs ≡ stopped left
folded_stops f b zero p r bs left h e g = absurd (omega arith)
folded_stops f b (suc n) p r bs left h e g =
    ap (λ x. cond x (on (r bs) (λ c rest. folded f (f b c) n p r rest)) (found b bs)) e
    ∙ ap (λ st. on st (λ c rest. folded f (f b c) n p r rest)) g

-- the end of them
pub folded_ends : {A B : Type 0} (f : B → A → B) (b : B) (n : ℕ) (p : ℕ → Bool) (r : Reader A) (bs : List ℕ) → first_is p bs ≡ false → folded f b n p r bs ≡ found b bs
folded_ends f b zero p r bs e = refl
folded_ends f b (suc n) p r bs e = ap (λ x. cond x (on (r bs) (λ c rest. folded f (f b c) n p r rest)) (found b bs)) e

pub folded_none : {A B : Type 0} (f : B → A → B) (b : B) (n : ℕ) (p : ℕ → Bool) (r : Reader A) (bs : List ℕ) → n ≡ 0 → folded f b n p r bs ≡ found b bs
folded_none f b zero p r bs e = refl
folded_none f b (suc n) p r bs e = absurd (omega arith)

pub made_made : {A B C : Type 0} (f : B → C) (g : A → B) (st : Step A) → made f (made g st) ≡ made (λ a. f (g a)) st
made_made f g (found a rest) = refl
made_made f g (stopped left) = refl

-- what is made of each step alike
on_step : {A B : Type 0} (f : B → A → B) (b : B) (st : Step A) (next : Reader (List A)) (last : B → Reader B) → ((c : B) (bs : List ℕ) → last c bs ≡ made (fold f c) (next bs)) → on st (λ a rest. last (f b a) rest) ≡ made (fold f b) (made {A = A × List A} (λ ab. ab.0 ∷ ab.1) (on st (λ a rest. made (λ list. (a, list)) (next rest))))
on_step {A = A} f b (found a rest) next last h = h (f b a) rest ∙ sym (ap (made (fold f b)) (made_made {B = A × List A} (λ ab. ab.0 ∷ ab.1) (λ list. (a, list)) (next rest)) ∙ made_made (fold f b) (λ list. a ∷ list) (next rest))
on_step f b (stopped left) next last h = refl

-- it is the fold of what is read one by one
pub folded_is : {A B : Type 0} (f : B → A → B) (b : B) (n : ℕ) (p : ℕ → Bool) (r : Reader A) (bs : List ℕ) → folded f b n p r bs ≡ made (fold f b) (repeated n p r bs)
folded_is f b zero p r bs = refl
folded_is f b (suc n) p r bs = elim (cases_Bool (first_is p bs)) as (λ _. folded f b (suc n) p r bs ≡ made (fold f b) (repeated (suc n) p r bs)) [
  | inl e ↦
      ap (λ x. cond x (on (r bs) (λ a rest. folded f (f b a) n p r rest)) (found b bs)) e
      ∙ on_step f b (r bs) (repeated n p r) (λ c rest. folded f c n p r rest) (λ c rest. folded_is f c n p r rest)
      ∙ ap (λ x. made (fold f b) (cond x (made_of (λ ab. ab.0 ∷ ab.1) (seq r (repeated n p r)) bs) (found [] bs))) (sym e)
  | inr e ↦
      ap (λ x. cond x (on (r bs) (λ a rest. folded f (f b a) n p r rest)) (found b bs)) e
      ∙ ap (λ x. made (fold f b) (cond x (made_of (λ ab. ab.0 ∷ ab.1) (seq r (repeated n p r)) bs) (found [] bs))) (sym e)
]

-- one thing more, by what is made of it
on_made : {A B : Type 0} (f : B → A → B) (b c : B) (n : ℕ) (p : ℕ → Bool) (r : Reader A) (st : Step A) (rest : List ℕ) → made (f b) st ≡ found c rest → on st (λ a left. folded f (f b a) n p r left) ≡ folded f c n p r rest
on_made f b c n p r (found a left) rest h = cc
on_made f b c n p r (stopped left) rest h = cc

pub folded_made : {A B : Type 0} (f : B → A → B) (b c : B) (n : ℕ) (p : ℕ → Bool) (r : Reader A) (bs rest : List ℕ) → 0 < n → first_is p bs ≡ true → made (f b) (r bs) ≡ found c rest → folded f b n p r bs ≡ folded f c (n - 1) p r rest
folded_made f b c zero p r bs rest h e g = absurd (omega arith)
folded_made f b c (suc n) p r bs rest h e g =
    ap (λ x. cond x (on (r bs) (λ a left. folded f (f b a) n p r left)) (found b bs)) e
    ∙ on_made f b c n p r (r bs) rest g
    ∙ ap (λ m. folded f c m p r rest) (let k : n ≡ suc n - 1 = omega arith in k)
