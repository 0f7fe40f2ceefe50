-- Marks by number.
use Rattle.std.specs.Prelude.{ℕ, Bool, false, List, unwrap_or, slice_get}

-- whether a number is marked; none is past the end
abbrev pub is_marked : List Bool → ℕ → Bool
is_marked marks number = unwrap_or (slice_get marks number) false
