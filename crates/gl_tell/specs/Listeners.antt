-- The listeners of each list.
use Rattle.std.specs.Prelude.{◌≡◌, ◌==◌, ℕ, suc, List, [], ◌∷◌, length, if◌then◌else◌, slice_index_or}
use Rattle.spec_states.specs.ListenerDecl.{ListenerDecl}

-- the numbers of the listeners of a list, where the first of these listeners has this number
abbrev pub listeners_from : ℕ → ℕ → List ListenerDecl → List ℕ
listeners_from number list [] = []
listeners_from number list (d ∷ ds) =
    if d.list == list then number ∷ listeners_from (suc number) list ds
    else listeners_from (suc number) list ds

-- the numbers of the listeners of a list
abbrev pub listeners_of : List ListenerDecl → ℕ → List ℕ
listeners_of ds list = listeners_from 0 list ds

-- under the number of each of so many lists stand those of its listeners
pub record AreByList (lists : ℕ) (ds : List ListenerDecl) (by_list : List (List ℕ)) : Type 0 where
  pub long : length by_list ≡ lists
  pub each : (list : ℕ) → slice_index_or by_list list [] ≡ listeners_of ds list
