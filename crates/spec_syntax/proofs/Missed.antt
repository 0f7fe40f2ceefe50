-- How much of some bytes a text misses, which is what readers keep least.
use Rattle.std.proofs.Common.{◌≡◌, ℕ, suc, ◌+◌, ◌<◌, ◌≤◌, Bool, true, false, cond, eqb, List, [], ◌∷◌, ◌++◌, length, refl, sym, ap, ◌∙◌, inl, inr, arith, eq-eqb}
use Rattle.std.proofs.lemmas.Bool.{cases_eq, ne_eqb, false≢true}
use Rattle.spec_syntax.specs.Reader.{first_is}

-- how many signs of the bytes, their end among them, lie beyond the front that they share with a text
abbrev pub missed : List ℕ → List ℕ → ℕ
missed [] [] = 0
missed (x ∷ t) [] = 1
missed [] (b ∷ bs) = length bs + 2
missed (x ∷ t) (b ∷ bs) = cond (eqb x b) (missed t bs) (length bs + 2)

-- a sign that is the same on both sides
pub missed-same : (x b : ℕ) (t bs : List ℕ) → x ≡ b → missed (x ∷ t) (b ∷ bs) ≡ missed t bs
missed-same x b t bs e = ap (λ c. cond c (missed t bs) (length bs + 2)) (eq-eqb x b e)

pub missed-other : (x b : ℕ) (t bs : List ℕ) → (x ≡ b → ⊥) → missed (x ∷ t) (b ∷ bs) ≡ length bs + 2
missed-other x b t bs ne = ap (λ c. cond c (missed t bs) (length bs + 2)) (ne_eqb x b ne)

-- a front that is the same on both sides
pub missed-prefix : (u v w : List ℕ) → missed (u ++ v) (u ++ w) ≡ missed v w
missed-prefix [] v w = refl
missed-prefix (x ∷ u) v w = missed-same x x (u ++ v) (u ++ w) refl ∙ missed-prefix u v w

pub missed_most : (t bs : List ℕ) → missed t bs ≤ length bs + 1
missed_most [] [] = omega arith
missed_most (x ∷ t) [] = omega arith
missed_most [] (b ∷ bs) = omega arith
missed_most (x ∷ t) (b ∷ bs) = elim (cases_eq x b) as (λ _. missed (x ∷ t) (b ∷ bs) ≤ length (b ∷ bs) + 1) [
  | inl e ↦ omega (arith, missed-same x b t bs e, missed_most t bs)
  | inr ne ↦ omega (arith, missed-other x b t bs ne)
]

pub missed_none : (t : List ℕ) → missed t t ≡ 0
missed_none [] = refl
missed_none (x ∷ t) = missed-same x x t t refl ∙ missed_none t

pub same_from_missed : (t bs : List ℕ) → missed t bs ≡ 0 → t ≡ bs
same_from_missed [] [] h = refl
same_from_missed (x ∷ t) [] h = absurd (omega arith)
same_from_missed [] (b ∷ bs) h = absurd (omega arith)
same_from_missed (x ∷ t) (b ∷ bs) h = elim (cases_eq x b) as (λ _. (x ∷ t) ≡ (b ∷ bs)) [
  | inl e ↦ let m = same_from_missed t bs (sym (missed-same x b t bs e) ∙ h) in cc
  | inr ne ↦ absurd (omega (arith, missed-other x b t bs ne))
]

-- a text that begins otherwise misses all
pub missed_all : (p : ℕ → Bool) (t bs : List ℕ) → first_is p t ≡ true → first_is p bs ≡ false → length bs < missed t bs
missed_all p [] bs h g = absurd (false≢true h)
missed_all p (x ∷ t) [] h g = omega arith
missed_all p (x ∷ t) (b ∷ bs) h g = omega (arith, missed-other x b t bs (λ e. false≢true (sym g ∙ ap p (sym e) ∙ h)))

pub missed_all' : (p : ℕ → Bool) (t bs : List ℕ) → first_is p t ≡ false → first_is p bs ≡ true → length bs < missed t bs
missed_all' p t [] h g = absurd (false≢true g)
missed_all' p [] (b ∷ bs) h g = omega arith
missed_all' p (x ∷ t) (b ∷ bs) h g = omega (arith, missed-other x b t bs (λ e. false≢true (sym h ∙ ap p e ∙ g)))

-- the front that bytes share with a text
pub record Shared (t bs : List ℕ) (left : ℕ) : Type 0 where
  pub prefix : List ℕ
  pub more : List ℕ
  pub rest : List ℕ
  pub text : t ≡ prefix ++ more
  pub bytes : bs ≡ prefix ++ rest
  pub so_many : length rest ≡ left

-- one sign more in front
shared_more : (x b : ℕ) (t bs : List ℕ) (left : ℕ) → x ≡ b → Shared t bs left → Shared (x ∷ t) (b ∷ bs) left
shared_more x b t bs left e s = record {
  prefix = b ∷ s.prefix;
  more = s.more;
  rest = s.rest;
  text = let f = s.text in cc;
  bytes = let f = s.bytes in cc;
  so_many = s.so_many;
}

pub shared : (t bs : List ℕ) (left : ℕ) → missed t bs ≡ suc left → Shared t bs left
shared [] [] left h = absurd (omega arith)
shared (x ∷ t) [] left h = record { prefix = []; more = x ∷ t; rest = []; text = refl; bytes = refl; so_many = omega arith }
shared [] (b ∷ bs) left h = record { prefix = []; more = []; rest = b ∷ bs; text = refl; bytes = refl; so_many = omega arith }
shared (x ∷ t) (b ∷ bs) left h = elim (cases_eq x b) as (λ _. Shared (x ∷ t) (b ∷ bs) left) [
  | inl e ↦ shared_more x b t bs left e (shared t bs left (sym (missed-same x b t bs e) ∙ h))
  | inr ne ↦ record { prefix = []; more = x ∷ t; rest = b ∷ bs; text = refl; bytes = refl; so_many = omega (arith, missed-other x b t bs ne) }
]

-- a text misses no more than what is after a front that it shares
pub missed_shared : (prefix more rest : List ℕ) → missed (prefix ++ more) (prefix ++ rest) ≤ length rest + 1
missed_shared prefix more rest = omega (arith, missed-prefix prefix more rest, missed_most more rest)
