-- The elements that a block of CSV records stands for.
use Rattle.std.specs.Prelude.{◌≡◌, ℕ, ℤ, List, [], ◌∷◌, FitsSigned}
use Rattle.std.specs.Int.{w64}
use Rattle.std.specs.Fmt.{signed_decimal}
use Rattle.csv.specs.Reading.{AreRecords, default_config, strip_bom}
use Rattle.csv.specs.declared.parser.State.TheVariants.{StartRecord}
use Rattle.spec_value.specs.Tree.{Tree, num, text, items, items_of}

-- the bytes are the spelling of a number of 64 bits
abbrev pub SpellsNumber : List ℕ → ℤ → Type 0
SpellsNumber bytes n = FitsSigned w64 n × (bytes ≡ signed_decimal n)

-- a field is the number that it spells, whether it stood in quotes or not, and any other field a text
abbrev pub IsField : List ℕ → Tree → Type 0
IsField field (num n) = SpellsNumber field n
IsField field (text bytes) = (bytes ≡ field) × ((n : ℤ) → SpellsNumber field n → ⊥)
IsField field (items values) = ⊥

abbrev pub AreFields : List (List ℕ) → List Tree → Type 0
AreFields [] [] = Unit {0}
AreFields [] (v ∷ vs) = ⊥
AreFields (f ∷ fs) [] = ⊥
AreFields (f ∷ fs) (v ∷ vs) = IsField f v × AreFields fs vs

-- an element is the list of a record's fields
abbrev pub IsRow : List (List ℕ) → Tree → Type 0
IsRow fields row = (values : List Tree) × AreFields fields values × (row ≡ items_of values)

abbrev pub AreRows : List (List (List ℕ)) → List Tree → Type 0
AreRows [] [] = Unit {0}
AreRows [] (v ∷ vs) = ⊥
AreRows (r ∷ rs) [] = ⊥
AreRows (r ∷ rs) (v ∷ vs) = IsRow r v × AreRows rs vs

-- The elements are those of the block's records: of all of them, as `csv` reads them in its default dialect, without a
-- header record; a byte order mark at the start of the block isn't part of them.
abbrev pub BlockHas : List ℕ → List Tree → Type 0
BlockHas block rows =
    (records : List (List (List ℕ)))
    × AreRecords default_config StartRecord (strip_bom block) records × AreRows records rows
