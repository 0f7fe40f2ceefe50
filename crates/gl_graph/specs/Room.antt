-- How much lists have room for.
use Rattle.std.specs.Prelude.{◌≤◌, ℕ}

-- of what they keep of each element, member or group; of the members of a composite or the queue of a proxy; of sorted places; and
-- of the marks of the first members of classes
pub record Room : Type 0 where
  pub kept : ℕ
  pub members : ℕ
  pub sorted : ℕ
  pub firsts : ℕ

-- of what is kept alone
abbrev pub room : ℕ → Room
room n = record { kept = n; members = 0; sorted = 0; firsts = 0 }

-- of sorted places alone
abbrev pub sorted_room : ℕ → Room
sorted_room n = record { kept = 0; members = 0; sorted = n; firsts = 0 }

-- of classes, and of what is kept of each
abbrev pub classes_room : ℕ → ℕ → ℕ → Room
classes_room kept sorted firsts =
    record { kept = kept; members = 0; sorted = sorted; firsts = firsts }

-- the one is no more than the other
pub record IsNoMore (less more : Room) : Type 0 where
  pub kept : less.kept ≤ more.kept
  pub members : less.members ≤ more.members
  pub sorted : less.sorted ≤ more.sorted
  pub firsts : less.firsts ≤ more.firsts
