-- What contracts see of a transaction's levels.
use Rattle.std.specs.Prelude.{ℕ, List, refl}
use Rattle.std.specs.Coded.{Coded, code_by, coded×, coded_ℕ, coded_list}
use Rattle.spec_lists.specs.Piece.{piece_code}
use Rattle.spec_lists.specs.Delta.{Delta}

-- the deltas of the open levels, the innermost first, and for how many there is room
pub record Kept : Type 0 where
  pub levels : List Delta
  pub room : ℕ

abbrev pub kept_code : Coded Kept
kept_code =
    code_by (List Delta × ℕ) (coded× (coded_list (coded_list piece_code)) coded_ℕ)
    (λ k. (k.levels, k.room)) (λ p. record { levels = p.0; room = p.1 }) (λ _. refl)
