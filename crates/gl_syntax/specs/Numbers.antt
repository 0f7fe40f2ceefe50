-- How numbers are read: the bytes are those of the number that their digits make.
use Rattle.std.specs.Prelude.{ℕ, ℤ, pos, negsuc, ◌^◌, ◌&&◌, nat_lt, Bool, if◌then◌else◌, List, Option, Some, None, decimal, bytes_eq}
use Rattle.std.specs.Fmt.{signed_decimal}
use Rattle.std.specs.Str.Parse.{digits_value, signed_digits_value, without_leading_plus}

-- the number is from -2^63 on, and below 2^63
abbrev pub fits_64 : ℤ → Bool
fits_64 (pos n) = nat_lt n (2 ^ 63)
fits_64 (negsuc n) = nat_lt n (2 ^ 63)

-- the number, where it is of 64 bits and the bytes are its spelling
abbrev pub if_spelled : List ℕ → ℤ → Option ℤ
if_spelled bytes n = if fits_64 n && bytes_eq (signed_decimal n) bytes then Some n else None

-- the number that the bytes spell
unfoldable pub number_in : List ℕ → Option ℤ
number_in bytes = if_spelled bytes (signed_digits_value 10 bytes)

-- the index, where it is below 2^32 and the bytes are its spelling
abbrev pub if_index : List ℕ → ℕ → Option ℕ
if_index bytes n = if nat_lt n (2 ^ 32) && bytes_eq (decimal n) bytes then Some n else None

-- the index that the bytes spell
unfoldable pub index_in : List ℕ → Option ℕ
index_in bytes = if_index bytes (digits_value 10 (without_leading_plus bytes))
