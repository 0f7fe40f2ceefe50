-- What a source keeps.
use Rattle.std.specs.Prelude.{◌≤◌, ℕ, List, length, refl}
use Rattle.std.specs.Coded.{Coded, code_by, coded×, coded_ℕ, coded_list}
use Rattle.spec_value.specs.Tree.{Tree}
use Rattle.spec_value.specs.Code.{tree_code}

-- its elements, how many it may have at most, and how many there is room for
pub record Kept : Type 0 where
  pub values : List Tree
  pub limit : ℕ
  pub room : ℕ

abbrev pub kept_code : Coded Kept
kept_code =
    code_by (List Tree × (ℕ × ℕ)) (coded× (coded_list tree_code) (coded× coded_ℕ coded_ℕ))
    (λ k. (k.values, (k.limit, k.room)))
    (λ p. record { values = p.0; limit = p.1.0; room = p.1.1 }) (λ _. refl)

-- the elements are within the limit, and the limit within that of deltas
pub record IsWithin (xs : List Tree) (limit : ℕ) : Type 0 where
  pub within : length xs ≤ limit
  pub few : limit ≤ 2147483647

-- what is kept of a value is the value
abbrev pub itself : Tree → Tree
itself v = v
