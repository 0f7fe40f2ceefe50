-- Counts of faults over several calls.
use Rattle.std.proofs.Common.{ℕ, inl, inr, arith}
use Rattle.gl_outside.specs.Faults.{Rose, GoesOn}

pub GoesOn-refl : (a : ℕ) → GoesOn a a
GoesOn-refl a = record { never_falls = omega arith; stays_highest = λ h. h }

pub GoesOn-trans : (a b c : ℕ) → GoesOn a b → GoesOn b c → GoesOn a c
GoesOn-trans a b c p q = record { never_falls = omega arith; stays_highest = λ h. q.stays_highest (p.stays_highest h) }

-- a count that rose in the last of several calls rose in them all
pub Rose-last : (a b c : ℕ) → GoesOn a b → Rose b c → Rose a c
Rose-last a b c p (inl q) = inl (omega arith)
Rose-last a b c p (inr q) = inr q

-- and so did one that rose in the first
pub Rose-first : (a b c : ℕ) → Rose a b → GoesOn b c → Rose a c
Rose-first a b c (inl p) q = inl (omega arith)
Rose-first a b c (inr p) q = inr (q.stays_highest p)
