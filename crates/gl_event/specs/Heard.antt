-- What contracts see of an event.
use Rattle.std.specs.Prelude.{◌≡◌, ◌+◌, ◌≤◌, ℕ, List, min, refl}
use Rattle.std.specs.Coded.{Coded, code_by, coded×, coded_ℕ, coded_list}
use Rattle.spec_lists.specs.Piece.{Piece, piece_code, new_len}
use Rattle.spec_lists.specs.Changes.{changed_len, standing}

-- the pieces of its delta, and how many changes were given
pub record Heard : Type 0 where
  pub pieces : List Piece
  pub given : ℕ

abbrev pub heard_code : Coded Heard
heard_code =
    code_by (List Piece × ℕ) (coded× (coded_list piece_code) coded_ℕ) (λ t. (t.pieces, t.given))
    (λ p. record { pieces = p.0; given = p.1 }) (λ _. refl)

-- so many changes were given, and so many elements stand to the left of what is left
pub record IsAt (ps : List Piece) (given at : ℕ) : Type 0 where
  pub within : given ≤ changed_len ps
  pub stands : at ≡ standing given ps
  pub few : new_len ps ≤ 2147483647

-- one more change given, if there is one
abbrev pub further : Heard → Heard
further h = record { pieces = h.pieces; given = min (h.given + 1) (changed_len h.pieces) }
