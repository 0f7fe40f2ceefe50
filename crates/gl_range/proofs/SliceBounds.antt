-- The elements of a slice.
use Rattle.std.specs.Prelude.{◌≡◌, ℕ, zero, suc, ◌+◌, ◌-◌, ◌<◌, ◌≤◌, List, [], ◌∷◌, length, take, drop, slice_get, None, refl}
use Rattle.std.proofs.Common.{ap, sym, ◌∙◌, arith}
use Rattle.std.proofs.lemmas.List.{length-drop, length-take-le}
use Rattle.std.proofs.lemmas.Option.{slice_get_past}
use Rattle.spec_views.specs.Tree.{Tree}
use Rattle.spec_lang.specs.declared.Bounds.{Bounds}
use Rattle.spec_lang.specs.declared.Bounds.TheVariants.{Head, Tail, Middle}
use Rattle.spec_views.specs.Range.{start_of, end_of, range_view}

end_within : (bounds : Bounds) (n : ℕ) → end_of bounds n ≤ n
end_within (Head a b) n = omega arith
end_within (Tail a b) n = omega arith
end_within (Middle a b) n = omega arith

slice_length : (xs : List Tree) (s e : ℕ) → e ≤ length xs → length (take (e - s) (drop s xs)) ≡ e - s
slice_length xs s e h = length-take-le (e - s) (drop s xs) (omega (arith, h, length-drop s xs))

pub view_length : (bounds : Bounds) (xs : List Tree) → length (range_view bounds xs) ≡ end_of bounds (length xs) - start_of bounds (length xs)
view_length bounds xs = slice_length xs (start_of bounds (length xs)) (end_of bounds (length xs)) (end_within bounds (length xs))

taken_get : (xs : List Tree) (n k : ℕ) → k < n → slice_get (take n xs) k ≡ slice_get xs k
taken_get [] zero k h = absurd (omega (arith, h))
taken_get [] (suc n) k h = refl
taken_get (x ∷ xs) zero k h = absurd (omega (arith, h))
taken_get (x ∷ xs) (suc n) zero h = refl
taken_get (x ∷ xs) (suc n) (suc k) h = taken_get xs n k (omega (arith, h))

dropped_get : (xs : List Tree) (s k : ℕ) → slice_get (drop s xs) k ≡ slice_get xs (s + k)
dropped_get xs zero k = let e : k ≡ 0 + k = omega arith in ap (slice_get xs) e
dropped_get [] (suc s) zero = refl
dropped_get [] (suc s) (suc k) = refl
dropped_get (x ∷ xs) (suc s) k = dropped_get xs s k ∙ ap (slice_get (x ∷ xs)) (next s k)
  where
    next : (a b : ℕ) → suc (a + b) ≡ suc a + b
    next a b = omega arith

-- where the element at a place of the view stands
pub view_at : (bounds : Bounds) (xs : List Tree) (position : ℕ) → position < end_of bounds (length xs) - start_of bounds (length xs) → slice_get xs (start_of bounds (length xs) + position) ≡ slice_get (range_view bounds xs) position
view_at bounds xs position h =
    let s = start_of bounds (length xs) in
    let n = end_of bounds (length xs) - s in
    sym (taken_get (drop s xs) n position h ∙ dropped_get xs s position)

pub view_past : (bounds : Bounds) (xs : List Tree) (position : ℕ) → end_of bounds (length xs) - start_of bounds (length xs) ≤ position → None ≡ slice_get (range_view bounds xs) position
view_past bounds xs position h = sym (slice_get_past (range_view bounds xs) position (omega (arith, h, view_length bounds xs)))
