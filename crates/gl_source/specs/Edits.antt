-- What an edit makes of a source, what is told of it, and when it is refused.
use Rattle.std.specs.Prelude.{◌≡◌, ◌<◌, ◌≤◌, ℕ, List, length, Option, Some, None}
use Rattle.spec_value.specs.Tree.{Tree}
use Rattle.spec_lists.specs.Piece.{Piece}
use Rattle.spec_views.specs.Source.{appended, put_in, put_instead, taken_out, cleared, append_told, put_in_told, put_instead_told, taken_out_told, clear_told}
use Rattle.gl_source.specs.declared.edit.Edit.{Edit}
use Rattle.gl_source.specs.declared.edit.Edit.TheVariants.{Append, Insert, Set, Remove, Clear}
use Rattle.gl_source.specs.declared.fault.EditFault.{EditFault}
use Rattle.gl_source.specs.declared.fault.EditFault.TheVariants.{OutOfRange, TooLong, Memory}

abbrev pub edited : Edit → List Tree → List Tree
edited (Append values) xs = appended xs values
edited (Insert index value) xs = put_in xs index value
edited (Set index value) xs = put_instead xs index value
edited (Remove index) xs = taken_out xs index
edited Clear xs = cleared xs

abbrev pub told : Edit → List Tree → List Piece
told (Append values) xs = append_told xs values
told (Insert index value) xs = put_in_told xs index value
told (Set index value) xs = put_instead_told xs index value
told (Remove index) xs = taken_out_told xs index
told Clear xs = clear_told xs

-- the index of the edit isn't one that it can have
abbrev pub IsOutside : Edit → List Tree → Type 0
IsOutside (Append values) xs = ⊥
IsOutside (Insert index value) xs = length xs < index
IsOutside (Set index value) xs = length xs ≤ index
IsOutside (Remove index) xs = length xs ≤ index
IsOutside Clear xs = ⊥

-- this is the index of the edit
abbrev pub IsIndex : Edit → ℕ → Type 0
IsIndex (Append values) at = ⊥
IsIndex (Insert index value) at = at ≡ index
IsIndex (Set index value) at = at ≡ index
IsIndex (Remove index) at = at ≡ index
IsIndex Clear at = ⊥

-- the edit is refused for its index, which is told with the length
pub record IsOutOfRange (e : Edit) (xs : List Tree) (index len : ℕ) : Type 0 where
  pub outside : IsOutside e xs
  pub index_is : IsIndex e index
  pub len_is : len ≡ length xs

-- the edit has its place, and is refused for the length that it would give
pub record IsTooLong (e : Edit) (xs : List Tree) (limit len : ℕ) : Type 0 where
  pub inside : ¬ IsOutside e xs
  pub past : limit < len
  pub len_is : len ≡ length (edited e xs)

-- this is why the edit is refused, or else it has its place and stays within the limit
abbrev pub IsRefusal : Edit → List Tree → ℕ → Option EditFault → Type 0
IsRefusal e xs limit None = (¬ IsOutside e xs) × (length (edited e xs) ≤ limit)
IsRefusal e xs limit (Some (OutOfRange index len)) = IsOutOfRange e xs index len
IsRefusal e xs limit (Some (TooLong len)) = IsTooLong e xs limit len
IsRefusal e xs limit (Some Memory) = ⊥
