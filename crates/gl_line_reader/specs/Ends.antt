-- The words of bounds, as the code has them.
use Rattle.std.specs.Prelude.{ℕ, List, [], ◌∷◌, codes}
use Rattle.spec_lang.specs.declared.Bounds.{Bounds}
use Rattle.spec_lang.specs.declared.Bounds.TheVariants as bounds
use Rattle.gl_line_reader.specs.declared.bounds.End.{End}
use Rattle.gl_line_reader.specs.declared.bounds.End.TheVariants.{Head, Tail, Middle}

abbrev pub bounds_of : End → ℕ → ℕ → Bounds
bounds_of Head = bounds.Head
bounds_of Tail = bounds.Tail
bounds_of Middle = bounds.Middle

abbrev pub end_words : List (List ℕ × End)
end_words = (codes "head ", Head) ∷ (codes "tail ", Tail) ∷ (codes "middle ", Middle) ∷ []
