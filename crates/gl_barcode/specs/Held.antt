-- How a `Barcode` is kept: as two colours, of which the second one is shown.
use Rattle.std.specs.Prelude.{ℕ, Bool, cond, ◌==◌, List, map}

abbrev pub is_shown : ℕ → Bool
is_shown colour = colour == 1

abbrev pub colour_of : Bool → ℕ
colour_of shown = cond shown 1 0

abbrev pub shown_of : List ℕ → List Bool
shown_of colours = map is_shown colours
