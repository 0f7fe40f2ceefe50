-- Counts of faults.
use Rattle.std.specs.Prelude.{◌≡◌, ℕ, ◌+◌, ◌-◌, ◌^◌, ◌<◌, ◌≤◌, ◌⊎◌, min}

-- the highest number that a count reaches, where it stays
abbrev pub highest : ℕ
highest = 2 ^ 64 - 1

-- one fault more
abbrev pub one_more : ℕ → ℕ
one_more n = min (n + 1) highest

-- there was a fault since old: the count is higher now, or as high as it gets
abbrev pub Rose : ℕ → ℕ → Type 0
Rose old new = (old < new) ⊎ (new ≡ highest)

-- a count never falls, and it stays at the highest number
pub record GoesOn (old new : ℕ) : Type 0 where
  pub never_falls : old ≤ new
  pub stays_highest : old ≡ highest → new ≡ highest
