-- How bytes are cut: at a byte, and at each line feed.
use Rattle.std.specs.Prelude.{◌≡◌, ◌⊎◌, ◌++◌, ℕ, ◌==◌, if◌then◌else◌, List, [], ◌∷◌, Option, Some, None, option_map}

-- the bytes ahead of the first that is this one, and those after it; none where it doesn't stand
abbrev pub cut : ℕ → List ℕ → Option (List ℕ × List ℕ)
cut c [] = None
cut c (b ∷ bs) =
    if b == c then Some ([], bs) else option_map (λ parts. (b ∷ parts.0, parts.1)) (cut c bs)

-- the lines with a byte more at the beginning of the first
abbrev pub with_prefix : ℕ → List (List ℕ) → List (List ℕ)
with_prefix b [] = (b ∷ []) ∷ []
with_prefix b (line ∷ lines) = (b ∷ line) ∷ lines

-- the lines of a text, without their line feeds; the last line feed may lack
abbrev pub lines_in : List ℕ → List (List ℕ)
lines_in [] = []
lines_in (b ∷ bs) = if b == 10 then [] ∷ lines_in bs else with_prefix b (lines_in bs)

-- the line stands in front, and the rest after its line feed; a last line may lack one
abbrev pub IsFirstLine : List ℕ → List ℕ → List ℕ → Type 0
IsFirstLine bytes line rest = (bytes ≡ line ++ 10 ∷ rest) ⊎ ((bytes ≡ line) × (rest ≡ []))
