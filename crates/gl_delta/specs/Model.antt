-- What contracts see of a delta.
use Rattle.std.specs.Prelude.{ℕ, List, refl}
use Rattle.std.specs.Coded.{Coded, code_by, coded×, coded_ℕ, coded_list}
use Rattle.spec_lists.specs.Piece.{Piece, piece_code}

-- its pieces from left to right, and for how many changed ones its store has room
pub record DeltaModel : Type 0 where
  pub pieces : List Piece
  pub room : ℕ

abbrev pub delta_model_code : Coded DeltaModel
delta_model_code =
    code_by (List Piece × ℕ) (coded× (coded_list piece_code) coded_ℕ) (λ t. (t.pieces, t.room))
    (λ p. record { pieces = p.0; room = p.1 }) (λ _. refl)
