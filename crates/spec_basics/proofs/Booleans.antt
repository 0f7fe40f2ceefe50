-- Laws of truth values.
use Rattle.std.proofs.Common.{◌≡◌, Bool, true, false, ◌&&◌, ◌||◌, refl, true≢false}
use Rattle.std.proofs.lemmas.Bool.{false≢true}

pub and_parts : (a b : Bool) → (a && b) ≡ true → (a ≡ true) × (b ≡ true)
and_parts true b h = (refl, h)
and_parts false b h = absurd (false≢true h)

pub and_left : (a b : Bool) → (a && b) ≡ true → a ≡ true
and_left true b h = refl
and_left false b h = absurd (false≢true h)

pub or_left : (a b : Bool) → a ≡ true → (a || b) ≡ true
or_left true b h = refl
or_left false b h = absurd (false≢true h)

pub or_true : (s : Bool) → (s || true) ≡ true
or_true true = refl
or_true false = refl

pub left_false : (p q : Bool) → (p || q) ≡ false → p ≡ false
left_false false q e = refl
left_false true q e = absurd (true≢false e)

pub right_false : (p q : Bool) → (p || q) ≡ false → q ≡ false
right_false false q e = e
right_false true q e = absurd (true≢false e)

pub or_false : (b : Bool) → b ≡ (b || false)
or_false true = refl
or_false false = refl
