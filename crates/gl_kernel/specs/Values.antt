-- What contracts see of a list of values.
use Rattle.std.specs.Prelude.{ℕ, List, map, refl}
use Rattle.std.specs.Coded.{Coded, code_by, coded×, coded_ℕ, coded_list}
use Rattle.spec_value.specs.Tree.{Tree}
use Rattle.spec_value.specs.Code.{tree_code}

-- the values in order, and how many there is room for
pub record Stored : Type 0 where
  pub values : List Tree
  pub room : ℕ

abbrev pub stored_code : Coded Stored
stored_code =
    code_by (List Tree × ℕ) (coded× (coded_list tree_code) coded_ℕ) (λ s. (s.values, s.room))
    (λ p. record { values = p.0; room = p.1 }) (λ _. refl)

-- the items under their handles, without these
abbrev pub unnamed : {T : Type 0} → List (ℕ × T) → List T
unnamed es = map (λ e. e.1) es
