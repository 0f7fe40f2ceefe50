-- A composite shows its members one after another.
use Rattle.std.specs.Prelude.{ℕ, ◌-◌, ◌+◌, suc, List, ◌++◌, flat_map, map, take, drop, length, unwrap_or, slice_get}
use Rattle.spec_value.specs.Tree.{Tree}
use Rattle.spec_lists.specs.Piece.{inserted, deleted, normal}
use Rattle.spec_lists.specs.Delta.{Delta, no_change}

-- the members' elements, by what each list shows
abbrev pub composite_view : List ℕ → (ℕ → List Tree) → List Tree
composite_view members shows = flat_map shows members

-- the members' deltas, side by side
abbrev pub composite_follow : List ℕ → (ℕ → Delta) → Delta
composite_follow members delta = normal (flat_map delta members)

-- an attached member is inserted at the end
abbrev pub attach_told : List ℕ → (ℕ → List Tree) → ℕ → Delta
attach_told members shows member =
    no_change (length (composite_view members shows)) ++ map inserted (shows member)

-- how many elements the members show
abbrev pub members_len : List ℕ → (ℕ → List Tree) → ℕ
members_len members shows = length (composite_view members shows)

-- a detached member's part is deleted
abbrev pub detach_told : List ℕ → (ℕ → List Tree) → ℕ → Delta
detach_told members shows index =
    no_change (members_len (take index members) shows)
    ++ map deleted (composite_view (take 1 (drop index members)) shows)
    ++ no_change (members_len (drop (suc index) members) shows)
