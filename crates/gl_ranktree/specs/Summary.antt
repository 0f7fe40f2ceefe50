-- How summaries are added up.
use Rattle.std.specs.Prelude.{◌≡◌, Bool, IsTrue}

-- the summary of nothing, how two are added, and which of them the type can hold
pub record Sums (S : Type 0) : Type 0 where
  pub zero : S
  pub plus : S → S → S
  pub fits : S → Bool

-- adding is associative, nothing adds nothing, and each part of a sum that fits does fit
pub record AreSums {S : Type 0} (m : Sums S) : Type 0 where
  pub left_unit : (x : S) → m.plus m.zero x ≡ x
  pub right_unit : (x : S) → m.plus x m.zero ≡ x
  pub assoc : (x y z : S) → m.plus (m.plus x y) z ≡ m.plus x (m.plus y z)
  pub fits_left : (x y : S) → IsTrue (m.fits (m.plus x y)) → IsTrue (m.fits x)
  pub fits_right : (x y : S) → IsTrue (m.fits (m.plus x y)) → IsTrue (m.fits y)
