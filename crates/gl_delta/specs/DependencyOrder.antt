-- The colours of pieces turned round, in normal form: between two pairs d deletions and i insertions become i deletions
-- and d insertions.
use Rattle.std.specs.Prelude.{◌≡◌, ◌+◌, ◌*◌, ◌-◌, ◌≤◌, ◌++◌, ℕ, suc, List, [], ◌∷◌, length, IsTrue, refl}
use Rattle.std.proofs.Common.{zero}
use Rattle.gl_fourcolour.specs.Colours.{Colours, is_among, count_among}

-- an insertion's colour put in front, after the deletions that stand there
abbrev pub put_inserted : List ℕ → List ℕ
put_inserted [] = 3 ∷ []
put_inserted (zero ∷ cs) = 3 ∷ zero ∷ cs
put_inserted (suc zero ∷ cs) = 3 ∷ suc zero ∷ cs
put_inserted (suc (suc zero) ∷ cs) = suc (suc zero) ∷ put_inserted cs
put_inserted (suc (suc (suc n)) ∷ cs) = 3 ∷ suc (suc (suc n)) ∷ cs

abbrev pub inverse_colours : List ℕ → List ℕ
inverse_colours [] = []
inverse_colours (zero ∷ cs) = zero ∷ inverse_colours cs
inverse_colours (suc zero ∷ cs) = suc zero ∷ inverse_colours cs
inverse_colours (suc (suc zero) ∷ cs) = put_inserted (inverse_colours cs)
inverse_colours (suc (suc (suc n)) ∷ cs) = 2 ∷ inverse_colours cs

-- a deletion doesn't follow
abbrev pub NotDeleted : List ℕ → Type 0
NotDeleted [] = Unit {0}
NotDeleted (zero ∷ cs) = Unit {0}
NotDeleted (suc zero ∷ cs) = Unit {0}
NotDeleted (suc (suc zero) ∷ cs) = ⊥
NotDeleted (suc (suc (suc n)) ∷ cs) = Unit {0}

-- no insertion stands right before a deletion
abbrev pub InOrder : List ℕ → Type 0
InOrder [] = Unit {0}
InOrder (zero ∷ cs) = InOrder cs
InOrder (suc zero ∷ cs) = InOrder cs
InOrder (suc (suc zero) ∷ cs) = InOrder cs
InOrder (suc (suc (suc n)) ∷ cs) = NotDeleted cs × InOrder cs

-- the first colour is one of a set, if there is a first one
abbrev pub BeginsAmong : ℕ → List ℕ → Type 0
BeginsAmong mask [] = Unit {0}
BeginsAmong mask (x ∷ xs) = IsTrue (is_among mask x)

-- after the front, a place is the first of the set, or the end
pub record Reached (mask : ℕ) (prefix rest : List ℕ) (position : ℕ) : Type 0 where
  pub before : List ℕ
  pub after : List ℕ
  pub is : rest ≡ before ++ after
  pub position_is : position ≡ length prefix + length before
  pub none : count_among mask before ≡ 0
  pub here : BeginsAmong mask after

-- The colours before a place were turned, the rest weren't; and there is room for every order of them.
pub record Turning (start : List ℕ) (now : Colours) (at : ℕ) : Type 0 where
  pub prefix : List ℕ
  pub rest : List ℕ
  pub is : now.colours ≡ prefix ++ rest
  pub at_is : at ≡ length prefix
  pub whole : inverse_colours start ≡ prefix ++ inverse_colours rest
  pub ordered : InOrder rest
  pub room : 2 * count_among 14 now.colours ≤ now.room - 1

dependency_order : inverse_colours (1 ∷ 2 ∷ 2 ∷ 3 ∷ 0 ∷ []) ≡ 1 ∷ 2 ∷ 3 ∷ 3 ∷ 0 ∷ []
dependency_order = refl

dependency_order_again : inverse_colours (1 ∷ 2 ∷ 3 ∷ 3 ∷ 0 ∷ []) ≡ 1 ∷ 2 ∷ 2 ∷ 3 ∷ 0 ∷ []
dependency_order_again = refl
