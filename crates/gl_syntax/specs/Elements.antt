-- The texts of values and their elements, as they are written piece by piece.
use Rattle.std.specs.Prelude.{ℕ, zero, suc, List, [], ◌∷◌, ◌++◌, flat_map}
use Rattle.spec_value.specs.Tree.{Tree}
use Rattle.spec_syntax.specs.ValueText.{spelled_byte, spelled_value}

-- a comma before each element but the one at place 0
abbrev pub comma_before : ℕ → List ℕ
comma_before zero = []
comma_before (suc offset) = 44 ∷ []

-- elements from a place on
abbrev pub elements_from : ℕ → List Tree → List ℕ
elements_from offset [] = []
elements_from offset (t ∷ ts) =
    comma_before offset ++ spelled_value t ++ elements_from (suc offset) ts

-- a text in quotes
abbrev pub spelled_text : List ℕ → List ℕ
spelled_text bytes = 34 ∷ flat_map spelled_byte bytes ++ 34 ∷ []
