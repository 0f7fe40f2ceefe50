-- What it is that a reader reads a grammar, ahead of certain tails.
use Rattle.std.proofs.Common.{◌≡◌, ◌⊎◌, ℕ, suc, ◌<◌, ◌≤◌, List, [], ◌++◌, length}
use Rattle.spec_syntax.specs.Grammar.{Grammar}
use Rattle.spec_syntax.specs.Reader.{Step, found, stopped, Reader}
use Rattle.spec_syntax.proofs.Missed.{missed}

-- what may stand after a thing
abbrev pub Tails : Type 1
Tails = List ℕ → Type 0

-- nothing more
abbrev pub no_more : Tails
no_more v = v ≡ []

-- a thing of the grammar, and these tails after it
abbrev pub followed : {A : Type 0} → Grammar A → Tails → Tails
followed {A = A} S F v = (a : A) × (t : List ℕ) × (w : List ℕ) × S a t × F w × (v ≡ t ++ w)

-- the thing is spelled by the bytes up to the rest, and every other text misses some of the bytes before the rest
pub record Finds {A : Type 0} (S : Grammar A) (F : Tails) (bs : List ℕ) (a : A) (rest : List ℕ) : Type 0 where
  pub prefix : List ℕ
  pub spelled : S a prefix
  pub are : bs ≡ prefix ++ rest
  pub others : (b : A) (t v : List ℕ) → S b t → F v → ((b ≡ a) × (t ≡ prefix)) ⊎ (length rest < missed (t ++ v) bs)

-- a text comes as near as that many bytes before the end, and none nearer
pub record Stops {A : Type 0} (S : Grammar A) (F : Tails) (bs : List ℕ) (left : ℕ) : Type 0 where
  pub thing : A
  pub text : List ℕ
  pub tail : List ℕ
  pub spelled : S thing text
  pub follows : F tail
  pub near : missed (text ++ tail) bs ≡ suc left
  pub nearest : (b : A) (t v : List ℕ) → S b t → F v → left < missed (t ++ v) bs

abbrev pub IsStep : {A : Type 0} → Grammar A → Tails → List ℕ → Step A → Type 0
IsStep S F bs (found a rest) = Finds S F bs a rest
IsStep S F bs (stopped left) = Stops S F bs left

-- the reader reads the grammar ahead of the tails, on at most n bytes
abbrev pub Reads : {A : Type 0} → ℕ → Grammar A → Tails → Reader A → Type 0
Reads n S F r = (bs : List ℕ) → length bs ≤ n → IsStep S F bs (r bs)

-- some text of the grammar
abbrev pub Has : {A : Type 0} → Grammar A → Type 0
Has {A = A} S = (a : A) × (t : List ℕ) × S a t

-- some tail
abbrev pub HasTail : Tails → Type 0
HasTail F = (v : List ℕ) × F v
