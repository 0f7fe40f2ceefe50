-- The values of a list under handles, by their places.
use Rattle.std.specs.Prelude.{◌≡◌, ℕ, zero, suc, List, [], ◌∷◌, length, insert, remove, slice_get, slice_set, cond, Some, None, Option, Contains, refl}
use Rattle.std.proofs.Common.{ap, sym, ◌∙◌, arith}
use Rattle.std.proofs.lemmas.Bool.{ne_eqb, eq-eqb}
use Rattle.gl_counted.specs.Counted.{handles, with_item, AreDistinct}
use Rattle.gl_counted.proofs.Held.{get_from_Contains}
use Rattle.gl_kernel.specs.Values.{unnamed}

module _ {T : Type 0} where
  pub length-unnamed : (es : List (ℕ × T)) → length (unnamed es) ≡ length es
  length-unnamed [] = refl
  length-unnamed (e ∷ es) = ap suc (length-unnamed es)

  pub unnamed-insert : (es : List (ℕ × T)) (at h : ℕ) (x : T) → unnamed (insert es at (h, x)) ≡ insert (unnamed es) at x
  unnamed-insert es zero h x = refl
  unnamed-insert [] (suc at) h x = refl
  unnamed-insert (e ∷ es) (suc at) h x = ap (λ xs. e.1 ∷ xs) (unnamed-insert es at h x)

  pub unnamed-remove : (es : List (ℕ × T)) (at : ℕ) → unnamed (remove es at) ≡ remove (unnamed es) at
  unnamed-remove [] zero = refl
  unnamed-remove [] (suc at) = refl
  unnamed-remove (e ∷ es) zero = refl
  unnamed-remove (e ∷ es) (suc at) = ap (λ xs. e.1 ∷ xs) (unnamed-remove es at)

  get-unnamed : (es : List (ℕ × T)) (at h : ℕ) (x : T) → slice_get es at ≡ Some (h, x) → slice_get (unnamed es) at ≡ Some x
  get-unnamed [] zero h x e = cc
  get-unnamed [] (suc at) h x e = cc
  get-unnamed (d ∷ es) zero h x e = ap second e
    where
      second : Option (ℕ × T) → Option T
      second None = None
      second (Some p) = Some p.1
  get-unnamed (d ∷ es) (suc at) h x e = get-unnamed es at h x e

  get-handles : (es : List (ℕ × T)) (at h : ℕ) (x : T) → slice_get es at ≡ Some (h, x) → slice_get (handles es) at ≡ Some h
  get-handles [] zero h x e = cc
  get-handles [] (suc at) h x e = cc
  get-handles (d ∷ es) zero h x e = ap first e
    where
      first : Option (ℕ × T) → Option ℕ
      first None = None
      first (Some p) = Some p.0
  get-handles (d ∷ es) (suc at) h x e = get-handles es at h x e

  -- a handle stands at one place alone
  pub one_position : (es : List (ℕ × T)) (position k h : ℕ) (x : T) → AreDistinct es → slice_get (handles es) position ≡ Some h → slice_get es k ≡ Some (h, x) → k ≡ position
  one_position es position k h x distinct at found = distinct h k position (get-handles es k h x found) at

  -- so its item is the value at its place
  pub value_at : (es : List (ℕ × T)) (position k h : ℕ) (x : T) → AreDistinct es → slice_get (handles es) position ≡ Some h → slice_get es k ≡ Some (h, x) → slice_get (unnamed es) position ≡ Some x
  value_at es position k h x distinct at found =
      ap (λ n. slice_get (unnamed es) n) (sym (one_position es position k h x distinct at found)) ∙ get-unnamed es k h x found

  pub value_held : (es : List (ℕ × T)) (position h : ℕ) (x : T) → AreDistinct es → slice_get (handles es) position ≡ Some h → Contains es (h, x) → slice_get (unnamed es) position ≡ Some x
  value_held es position h x distinct at held =
      let k : (n : ℕ) × (slice_get es n ≡ Some (h, x)) = get_from_Contains es (h, x) held in
      value_at es position k.0 h x distinct at k.1

  pub no_value : (es : List (ℕ × T)) (position : ℕ) → slice_get (handles es) position ≡ None → slice_get (unnamed es) position ≡ None
  no_value [] zero e = refl
  no_value [] (suc at) e = refl
  no_value (d ∷ es) zero e = cc
  no_value (d ∷ es) (suc at) e = no_value es at e

  -- another item under a handle that stands at no place changes nothing
  with-none : (es : List (ℕ × T)) (h : ℕ) (x : T) → ((k : ℕ) → slice_get (handles es) k ≡ Some h → ⊥) → unnamed (with_item es h x) ≡ unnamed es
  with-none [] h x none = refl
  with-none (e ∷ es) h x none =
      let differs = ne_eqb e.0 h (λ q. none 0 (ap Some q)) in
      ap (λ b. unnamed (cond b (h, x) e ∷ with_item es h x)) differs ∙ ap (λ ys. e.1 ∷ ys) (with-none es h x (λ k. none (suc k)))

  -- and under one that stands at a place, it changes the value there
  pub unnamed-with : (es : List (ℕ × T)) (at h : ℕ) (x : T) → AreDistinct es → slice_get (handles es) at ≡ Some h → unnamed (with_item es h x) ≡ slice_set (unnamed es) at x
  unnamed-with [] zero h x distinct found = cc
  unnamed-with [] (suc at) h x distinct found = cc
  unnamed-with (e ∷ es) zero h x distinct found =
      let same = eq-eqb e.0 h (here e.0 h found) in
      ap (λ b. unnamed (cond b (h, x) e ∷ with_item es h x)) same
      ∙ ap (λ ys. x ∷ ys) (with-none es h x (λ k later. absurd (omega (arith, distinct h 0 (suc k) found later))))
    where
      here : (a b : ℕ) → Some a ≡ Some b → a ≡ b
      here a b g = cc
  unnamed-with (e ∷ es) (suc at) h x distinct found =
      let differs = ne_eqb e.0 h (λ q. absurd (omega (arith, distinct h 0 (suc at) (ap Some q) found))) in
      ap (λ b. unnamed (cond b (h, x) e ∷ with_item es h x)) differs
      ∙ ap (λ ys. e.1 ∷ ys) (unnamed-with es at h x (λ g j k p q. omega (arith, distinct g (suc j) (suc k) p q)) found)
