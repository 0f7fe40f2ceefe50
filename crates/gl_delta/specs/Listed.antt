-- What contracts see of values in order.
use Rattle.std.specs.Prelude.{ℕ, List, refl}
use Rattle.std.specs.Coded.{Coded, code_by, coded×, coded_ℕ, coded_list}
use Rattle.spec_value.specs.Tree.{Tree}
use Rattle.spec_value.specs.Code.{tree_code}

-- the values, and for how many there is room
pub record Listed : Type 0 where
  pub values : List Tree
  pub room : ℕ

abbrev pub listed_code : Coded Listed
listed_code =
    code_by (List Tree × ℕ) (coded× (coded_list tree_code) coded_ℕ) (λ t. (t.values, t.room))
    (λ p. record { values = p.0; room = p.1 }) (λ _. refl)
