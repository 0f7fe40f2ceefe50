-- What a range keeps.
use Rattle.std.specs.Prelude.{◌≡◌, ℕ, zero, suc, refl}
use Rattle.std.specs.Coded.{Coded, code_by, coded×, coded_ℕ}
use Rattle.spec_lang.specs.declared.Bounds.{Bounds}
use Rattle.spec_lang.specs.declared.Bounds.TheVariants.{Head, Tail, Middle}

-- its bounds, and how many elements its input has
pub record Kept : Type 0 where
  pub bounds : Bounds
  pub len : ℕ

-- how the logic stores bounds: by their number among the three kinds, and their two ends
abbrev pub numbered : Bounds → ℕ × (ℕ × ℕ)
numbered (Head a b) = (0, (a, b))
numbered (Tail a b) = (1, (a, b))
numbered (Middle a b) = (2, (a, b))

abbrev pub bounds_of : ℕ → ℕ → ℕ → Bounds
bounds_of zero a b = Head a b
bounds_of (suc zero) a b = Tail a b
bounds_of (suc (suc n)) a b = Middle a b

pub bounds_back : (bounds : Bounds)
    → bounds_of (numbered bounds).0 (numbered bounds).1.0 (numbered bounds).1.1 ≡ bounds
bounds_back (Head a b) = refl
bounds_back (Tail a b) = refl
bounds_back (Middle a b) = refl

abbrev pub bounds_code : Coded Bounds
bounds_code =
    code_by (ℕ × (ℕ × ℕ)) (coded× coded_ℕ (coded× coded_ℕ coded_ℕ)) numbered
    (λ p. bounds_of p.0 p.1.0 p.1.1) bounds_back

abbrev pub kept_code : Coded Kept
kept_code =
    code_by (Bounds × ℕ) (coded× bounds_code coded_ℕ) (λ k. (k.bounds, k.len))
    (λ p. record { bounds = p.0; len = p.1 }) (λ _. refl)
