-- A grammar says which bytes spell which thing. Grammars are built from these parts, which read as a grammar is written.
use Rattle.std.specs.Prelude.{◌≡◌, ◌⊎◌, ◌==◌, ℕ, zero, suc, Bool, true, false, IsTrue, if◌then◌else◌, List, [], ◌∷◌, ◌++◌}
use Rattle.std.specs.List.{AllByRecursion}

-- a grammar of things: the thing and the bytes that spell it
abbrev pub Grammar : Type 0 → Type 1
Grammar A = A → List ℕ → Type 0

-- nothing at all
abbrev pub empty : Grammar (Unit {0})
empty a bs = bs ≡ []

-- one byte of a class
abbrev pub class : (ℕ → Bool) → Grammar ℕ
class p b bs = IsTrue (p b) × (bs ≡ b ∷ [])

-- these bytes as they stand
abbrev pub word : List ℕ → Grammar (Unit {0})
word w a bs = bs ≡ w

-- two things, one after the other
abbrev pub both : {A B : Type 0} → Grammar A → Grammar B → Grammar (A × B)
both P Q ab bs = (u : List ℕ) × (v : List ℕ) × P ab.0 u × Q ab.1 v × (bs ≡ u ++ v)

-- the thing is made of what the grammar spells
abbrev pub mapped : {A B : Type 0} → (A → B) → Grammar A → Grammar B
mapped {A = A} k S b bs = (a : A) × S a bs × (b ≡ k a)

-- either of two spellings
abbrev pub either : {A : Type 0} → Grammar A → Grammar A → Grammar A
either P Q a bs = P a bs ⊎ Q a bs

-- a thing after a word
abbrev pub after : {A : Type 0} → List ℕ → Grammar A → Grammar A
after w S = mapped (λ ab. ab.1) (both (word w) S)

-- a thing ahead of a word
abbrev pub closed : {A : Type 0} → Grammar A → List ℕ → Grammar A
closed S w = mapped (λ ab. ab.0) (both S (word w))

-- a thing, a word and a thing
abbrev pub apart : {A B : Type 0} → Grammar A → List ℕ → Grammar B → Grammar (A × B)
apart P w Q = both P (after w Q)

-- a thing, or nothing in place of it
abbrev pub optional : {A : Type 0} → A → Grammar A → Grammar A
optional a S = either S (mapped (λ _. a) empty)

-- any number of things
abbrev pub many : {A : Type 0} → Grammar A → Grammar (List A)
many S [] bs = bs ≡ []
many S (a ∷ others) bs = (u : List ℕ) × (v : List ℕ) × S a u × many S others v × (bs ≡ u ++ v)

-- one thing and more of them
abbrev pub more_of : {A : Type 0} → Grammar A → Grammar (List A) → Grammar (List A)
more_of S T = mapped (λ ab. ab.0 ∷ ab.1) (both S T)

-- one thing at least, with a word between every two
abbrev pub listed : {A : Type 0} → Grammar A → List ℕ → Grammar (List A)
listed S w = more_of S (many (after w S))

-- a byte of a class, and what that byte calls for
abbrev pub led : {B : Type 0} → (ℕ → Bool) → (ℕ → Grammar B) → Grammar (ℕ × B)
led p T by bs = IsTrue (p by.0) × (u : List ℕ) × T by.0 by.1 u × (bs ≡ by.0 ∷ u)

-- at most so many things
abbrev pub upto : {A : Type 0} → ℕ → Grammar A → Grammar (List A)
upto n S [] bs = bs ≡ []
upto zero S (a ∷ others) bs = ⊥
upto (suc n) S (a ∷ others) bs =
    (u : List ℕ) × (v : List ℕ) × S a u × upto n S others v × (bs ≡ u ++ v)

-- a word of a table and, after it, what its row spells
abbrev pub words : {K A : Type 0} → (K → Grammar A) → List (List ℕ × K) → Grammar A
words form [] a bs = ⊥
words form (row ∷ rows) a bs = after row.0 (form row.1) a bs ⊎ words form rows a bs

-- whether two words differ at a place that both have
abbrev pub differ : List ℕ → List ℕ → Bool
differ [] x = false
differ (c ∷ w) [] = false
differ (c ∷ w) (d ∷ x) = if c == d then differ w x else true

-- no word of the table begins another
abbrev pub AreApart : {K : Type 0} → List (List ℕ × K) → Type 0
AreApart [] = Unit {0}
AreApart (row ∷ rows) = AllByRecursion (λ other. IsTrue (differ row.0 other.0)) rows × AreApart rows
