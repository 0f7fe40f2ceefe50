-- How many classes stand before the next touched one.
use Rattle.std.proofs.Common.{◌≡◌, ◌∙◌, ◌⊎◌, ℕ, ◌-◌, ◌≤◌, List, refl, ap, sym, arith, inl, inr}
use Rattle.std.specs.Prelude.{Option, Some, None, slice_get}
use Rattle.gl_classes.specs.declared.touched.Touched.{Touched}
use Rattle.gl_classes.specs.Sides.{gap_to, gap, IsFewer}

pub some_number : (m n : ℕ) → Some m ≡ Some n → m ≡ n
some_number m n e = cc

pub none_some : {X : Type 0} (x : X) → None ≡ Some x → ⊥
none_some x e = absurd cc

pub fewer_low : (q r : Option ℕ) (n m : ℕ) → IsFewer q r n → q ≡ Some m → n ≤ m
fewer_low None r n m f e = absurd cc
fewer_low (Some k) None n m f e = omega (arith, f, some_number k m e)
fewer_low (Some k) (Some l) n m f e = omega (arith, f.0, some_number k m e)

pub fewer_low_too : (q r : Option ℕ) (n m : ℕ) → IsFewer q r n → r ≡ Some m → n ≤ m
fewer_low_too q None n m f e = absurd cc
fewer_low_too None (Some k) n m f e = omega (arith, f, some_number k m e)
fewer_low_too (Some l) (Some k) n m f e = omega (arith, f.1, some_number k m e)

pub fewer_is : (q r : Option ℕ) (n : ℕ) → IsFewer q r n → (q ≡ None → r ≡ None → ⊥) → (q ≡ Some n) ⊎ (r ≡ Some n)
fewer_is None None n f some = absurd (some refl refl)
fewer_is None (Some k) n f some = inr (ap Some (sym f))
fewer_is (Some k) None n f some = inl (ap Some (sym f))
fewer_is (Some k) (Some l) n f some = elim f.2 [
  | inl e ↦ inl (ap Some (sym e))
  | inr e ↦ inr (ap Some (sym e))
]

-- so many classes before the next touched one
pub record IsGap (ts : List Touched) (index class n : ℕ) : Type 0 where
  pub one : Touched
  pub at : slice_get ts index ≡ Some one
  pub is : one.class - class ≡ n

pub is_gap : (ts : List Touched) (index class n : ℕ) → gap ts index class ≡ Some n → IsGap ts index class n
is_gap ts index class n e = by (slice_get ts index) refl
  where
    by : (q : Option Touched) → slice_get ts index ≡ q → IsGap ts index class n
    by None at = absurd (none_some n (sym (ap (gap_to class) at) ∙ e))
    by (Some t) at = record { one = t; at = at; is = some_number _ _ (sym (ap (gap_to class) at) ∙ e) }
