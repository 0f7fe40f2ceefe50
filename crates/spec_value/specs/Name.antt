-- Names: a lower-case letter, then at most 31 lower-case letters, digits or underscores; `may` is no name.
use Rattle.std.specs.Prelude.{ℕ, Bool, false, not, ◌&&◌, ◌||◌, ◌==◌, nat_le, List, [], ◌∷◌, length, codes, bytes_eq}
use Rattle.std.specs.List.{list_all}

abbrev pub is_lower : ℕ → Bool
is_lower b = nat_le 97 b && nat_le b 122

abbrev pub is_digit : ℕ → Bool
is_digit b = nat_le 48 b && nat_le b 57

-- what may stand in a name after its first letter
abbrev pub is_name_byte : ℕ → Bool
is_name_byte b = is_lower b || is_digit b || b == 95

abbrev pub is_name : List ℕ → Bool
is_name [] = false
is_name (b ∷ bs) =
    is_lower b && list_all is_name_byte bs && nat_le (length bs) 31
    && not (bytes_eq (b ∷ bs) (codes "may"))
