-- The grammar of names, and their reader on lists of bytes.
use Rattle.std.specs.Prelude.{◌≡◌, ◌+◌, ℕ, zero, suc, List, [], ◌∷◌, length, bytes_eq, if◌then◌else◌, codes, IsTrue}
use Rattle.spec_value.specs.Name.{is_lower, is_name_byte, is_name}
use Rattle.spec_syntax.specs.Grammar.{Grammar}
use Rattle.spec_syntax.specs.Reader.{found, stopped, Reader}

-- a name is spelled as it stands
abbrev pub name : Grammar (List ℕ)
name n bs = IsTrue (is_name n) × (bs ≡ n)

-- the bytes of a name at the front, at most so many, and those after them
abbrev pub named : ℕ → List ℕ → List ℕ
named zero bs = []
named (suc most) [] = []
named (suc most) (b ∷ bs) = if is_name_byte b then b ∷ named most bs else []

abbrev pub unnamed : ℕ → List ℕ → List ℕ
unnamed zero bs = bs
unnamed (suc most) [] = []
unnamed (suc most) (b ∷ bs) = if is_name_byte b then unnamed most bs else b ∷ bs

-- `may` is no name, but a longer one begins with it
abbrev pub read_name : Reader (List ℕ)
read_name [] = stopped 0
read_name (b ∷ bs) =
    if is_lower b then
    (if bytes_eq (b ∷ named 31 bs) (codes "may") then stopped (length (unnamed 31 bs))
    else found (b ∷ named 31 bs) (unnamed 31 bs))
    else stopped (length bs + 1)
