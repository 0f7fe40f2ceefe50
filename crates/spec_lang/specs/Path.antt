-- Where a path leads: step by step the element of that index. Where there is no list or no such element, the whole
-- path gives the empty list.
use Rattle.std.specs.Prelude.{ℕ, List, [], ◌∷◌, Option, Some, option_and_then, unwrap_or, slice_get}
use Rattle.spec_value.specs.Tree.{Tree, items_of, elements}

-- the value at the end of a path, or none where it leads nowhere
abbrev pub follow : List ℕ → Tree → Option Tree
follow [] v = Some v
follow (i ∷ path) v = option_and_then (λ w. follow path w) (slice_get (elements v) i)

-- what a path gives of a value
abbrev pub at : List ℕ → Tree → Tree
at path v = unwrap_or (follow path v) (items_of [])
