-- What a map from names to numbers holds.
use Rattle.std.specs.Prelude.{◌≡◌, ℕ, List}
use Rattle.std.specs.Ordering.{nat_cmp}
use Rattle.std.specs.Cmp.Lexicographic.{slice_cmp}
use Rattle.std.specs.BTreeMap.{BTreeMap, get}
use Rattle.spec_plans.specs.Names.{number_of}

-- for each name the number of its first place among these
abbrev pub HasNumbers : BTreeMap (List ℕ) ℕ → List (List ℕ) → Type 0
HasNumbers numbers names =
    (name : List ℕ) → get (slice_cmp nat_cmp) numbers name ≡ number_of names name
