-- The first of what is said of items, each with those before it.
use Rattle.std.specs.Prelude.{List, [], ◌∷◌, ◌++◌, Option, None}
use Rattle.std.specs.Option.{option_or}

-- the first thing said of an item of the second list, where those of the first stand before
abbrev pub first_after : {A B : Type 0} → (List A → A → Option B) → List A → List A → Option B
first_after say before [] = None
first_after say before (x ∷ xs) = option_or (say before x) (first_after say (before ++ x ∷ []) xs)

-- the first thing said of an item
abbrev pub first_said : {A B : Type 0} → (List A → A → Option B) → List A → Option B
first_said say xs = first_after say [] xs

-- the first thing that there is
abbrev pub first_some : {B : Type 0} → List (Option B) → Option B
first_some [] = None
first_some (x ∷ xs) = option_or x (first_some xs)
