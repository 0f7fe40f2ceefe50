-- The grammar of the bounds of a range.
use Rattle.std.specs.Prelude.{ℕ, List, [], ◌∷◌, codes}
use Rattle.spec_syntax.specs.Grammar.{Grammar, mapped, apart, words}
use Rattle.spec_lang.specs.declared.Bounds.{Bounds}
use Rattle.spec_lang.specs.declared.Bounds.TheVariants.{Head, Tail, Middle}
use Rattle.spec_syntax.specs.Number.{natural}

-- a number of 32 bits
abbrev pub short_number : Grammar ℕ
short_number = natural 4294967295

abbrev pub two_numbers : (ℕ → ℕ → Bounds) → Grammar Bounds
two_numbers k = mapped (λ ab. k ab.0 ab.1) (apart short_number (codes " ") short_number)

abbrev pub bounds_words : List (List ℕ × (ℕ → ℕ → Bounds))
bounds_words = (codes "head ", Head) ∷ (codes "tail ", Tail) ∷ (codes "middle ", Middle) ∷ []

-- bounds = ("head" | "tail" | "middle") " " u32 " " u32
abbrev pub bounds : Grammar Bounds
bounds = words two_numbers bounds_words
