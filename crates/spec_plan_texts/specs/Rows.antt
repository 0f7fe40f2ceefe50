-- Worked rows of the definitions.
use Rattle.std.specs.Prelude.{◌≡◌, refl, codes}
use Rattle.spec_plan_texts.specs.Text.{place_behind}

-- after the first line and two bytes of the second
second_line : place_behind (codes "glaze 1\nso") ≡ (2, 3)
second_line = refl

nothing_before : place_behind (codes "") ≡ (1, 1)
nothing_before = refl
