-- Reading what is kept at a place, and what is after it.
use Rattle.std.specs.Prelude.{◌≡◌, ℕ, zero, suc, ◌+◌, List, [], ◌∷◌, map, drop, slice_get, get_or, Some, option_map, refl}
use Rattle.std.proofs.Common.{ap, sym, ◌∙◌, arith}
use Rattle.std.proofs.lemmas.Option.{slice_get-map}
use Rattle.spec_value.specs.Tree.{Tree}

module _ {T : Type 0} where
  -- the item at a place is the first one of those from there on
  pub drop_at : (xs : List T) (i : ℕ) (x : T) → slice_get xs i ≡ Some x → drop i xs ≡ x ∷ drop (i + 1) xs
  drop_at xs i x e = let next : suc i ≡ i + 1 = omega arith in dropped xs i x e ∙ ap (λ k. x ∷ drop k xs) next
    where
      dropped : (ys : List T) (k : ℕ) (y : T) → slice_get ys k ≡ Some y → drop k ys ≡ y ∷ drop (suc k) ys
      dropped [] zero y f = cc
      dropped [] (suc k) y f = cc
      dropped (z ∷ ys) zero y f = first z y ys f
        where
          first : (a b : T) (zs : List T) → Some a ≡ Some b → a ∷ zs ≡ b ∷ zs
          first a b zs g = cc
      dropped (z ∷ ys) (suc k) y f = dropped ys k y f

  -- and the other way round
  pub drop_first : (d : T) (xs : List T) (i : ℕ) (x : T) (us : List T) → drop i xs ≡ x ∷ us → (get_or xs i d ≡ x) × (drop (suc i) xs ≡ us)
  drop_first d [] zero x us e = absurd (none x us e)
    where
      none : (y : T) (zs : List T) → [] ≡ y ∷ zs → ⊥
      none y zs f = cc
  drop_first d [] (suc i) x us e = absurd (none x us e)
    where
      none : (y : T) (zs : List T) → [] ≡ y ∷ zs → ⊥
      none y zs f = cc
  drop_first d (y ∷ xs) zero x us e = (head y x xs us e, tail y x xs us e)
    where
      head : (a b : T) (ys zs : List T) → a ∷ ys ≡ b ∷ zs → a ≡ b
      head a b ys zs f = cc

      tail : (a b : T) (ys zs : List T) → a ∷ ys ≡ b ∷ zs → ys ≡ zs
      tail a b ys zs f = cc
  drop_first d (y ∷ xs) (suc i) x us e = drop_first d xs i x us e

  -- the result of the element at a place
  pub result_is : (f : Tree → T) (items : List T) (xs : List Tree) (i : ℕ) (x : Tree) (y : T) → items ≡ map f xs → slice_get xs i ≡ Some x → slice_get items i ≡ Some y → y ≡ f x
  result_is f items xs i x y e h k = same y (f x) (sym k ∙ (ap (λ zs. slice_get zs i) e ∙ (slice_get-map f xs i ∙ ap (option_map f) h)))
    where
      same : (a b : T) → Some a ≡ Some b → a ≡ b
      same a b g = cc
