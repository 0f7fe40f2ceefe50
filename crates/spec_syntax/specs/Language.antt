-- The language of a grammar: what it begins with, and how far bytes go along with it.
use Rattle.std.specs.Prelude.{◌≡◌, ◌≤◌, ◌+◌, ℕ, List, ◌++◌, length}
use Rattle.spec_syntax.specs.Grammar.{Grammar}

-- some thing is spelled by these bytes and some more
abbrev pub Begins : {A : Type 0} → Grammar A → List ℕ → Type 0
Begins {A = A} L prefix = (a : A) × (more : List ℕ) × L a (prefix ++ more)

-- the longest beginning of these bytes that begins something in the language
pub record IsLongest {A : Type 0} (L : Grammar A) (bytes prefix : List ℕ) : Type 0 where
  pub rest : List ℕ
  pub is : bytes ≡ prefix ++ rest
  pub begins : Begins L prefix
  pub longest : (other more : List ℕ) → bytes ≡ other ++ more → Begins L other
      → length other ≤ length prefix

-- the column, from 1 on, of the first byte with which the bytes leave the language
abbrev pub IsColumn : {A : Type 0} → Grammar A → List ℕ → ℕ → Type 0
IsColumn L bytes column =
    (prefix : List ℕ) × IsLongest L bytes prefix × (column ≡ length prefix + 1)

-- these bytes spell the thing, and no other
pub record Spell {A : Type 0} (L : Grammar A) (bytes : List ℕ) (a : A) : Type 0 where
  pub spelled : L a bytes
  pub alone : (b : A) → L b bytes → b ≡ a

-- these bytes spell nothing
abbrev pub SpellNone : {A : Type 0} → Grammar A → List ℕ → Type 0
SpellNone {A = A} L bytes = (a : A) → L a bytes → ⊥

-- these bytes spell nothing, and leave the language in that column
pub record Leaves {A : Type 0} (L : Grammar A) (bytes : List ℕ) (column : ℕ) : Type 0 where
  pub none : SpellNone L bytes
  pub at : IsColumn L bytes column
