-- That no word of a table begins another, by computing.
use Rattle.std.proofs.Common.{◌≡◌, ℕ, Bool, true, false, ◌&&◌, List, [], ◌∷◌, refl}
use Rattle.std.specs.List.{AllByRecursion}
use Rattle.std.proofs.lemmas.Bool.{false≢true}
use Rattle.std.specs.Prelude.{IsTrue}
use Rattle.spec_syntax.specs.Grammar.{differ, AreApart}
use Rattle.spec_basics.proofs.Booleans.{and_parts}

abbrev pub all_differ : {K : Type 0} → List ℕ → List (List ℕ × K) → Bool
all_differ w [] = true
all_differ w (row ∷ rows) = differ w row.0 && all_differ w rows

abbrev pub are_apart : {K : Type 0} → List (List ℕ × K) → Bool
are_apart [] = true
are_apart (row ∷ rows) = all_differ row.0 rows && are_apart rows

all_apart : {K : Type 0} (w : List ℕ) (rows : List (List ℕ × K)) → all_differ w rows ≡ true → AllByRecursion (λ other. IsTrue (differ w other.0)) rows
all_apart w [] h = tt
all_apart w (row ∷ rows) h = let parts = and_parts (differ w row.0) (all_differ w rows) h in (parts.0, all_apart w rows parts.1)

pub apart_from : {K : Type 0} (rows : List (List ℕ × K)) → are_apart rows ≡ true → AreApart rows
apart_from [] h = tt
apart_from (row ∷ rows) h = let parts = and_parts (all_differ row.0 rows) (are_apart rows) h in (all_apart row.0 rows parts.0, apart_from rows parts.1)
