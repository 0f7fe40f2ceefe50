-- Worked rows of the definitions, each by computing.
use Rattle.std.specs.Prelude.{◌≡◌, negsuc, [], ◌∷◌, refl, codes}
use Rattle.std.specs.Fmt.{digits}
use Rattle.spec_value.specs.Tree.{num, text, items_of}
use Rattle.spec_syntax.specs.ValueText.{spelled_value}
use Rattle.spec_syntax.specs.Cuts.{lines_in}

-- values of each form
values : spelled_value (items_of (num (negsuc 4) ∷ text (34 ∷ 10 ∷ 1 ∷ 97 ∷ []) ∷ items_of [] ∷ []))
    ≡ codes "[-5,\"\\\"\\n\\x01a\",[]]"
unfolding digits
values = refl

-- the last line feed may lack, and a line may be empty
lines : lines_in (codes "a\n\nb") ≡ codes "a" ∷ [] ∷ codes "b" ∷ []
lines = refl

ended_lines : lines_in (codes "a\n\nb\n") ≡ codes "a" ∷ [] ∷ codes "b" ∷ []
ended_lines = refl
