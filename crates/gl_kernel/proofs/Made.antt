-- Building what a function gives of each element, one after another.
use Rattle.std.specs.Prelude.{◌≡◌, ◌+◌, ℕ, zero, suc, List, [], ◌∷◌, ◌++◌, length, insert, take, map, slice_get, Some, refl}
use Rattle.std.proofs.Common.{ap, ◌∙◌, arith}
use Rattle.spec_value.specs.Tree.{Tree}

module _ {T : Type 0} where
  next_made : (f : Tree → T) (xs : List Tree) (i : ℕ) (x : Tree) → slice_get xs i ≡ Some x → insert (map f (take i xs)) i (f x) ≡ map f (take (suc i) xs)
  next_made f [] zero x e = cc
  next_made f [] (suc i) x e = cc
  next_made f (y ∷ xs) zero x e = first x y e
    where
      first : (a b : Tree) → Some b ≡ Some a → f a ∷ [] ≡ f b ∷ []
      first a b g = cc
  next_made f (y ∷ xs) (suc i) x e = ap (λ ys. f y ∷ ys) (next_made f xs i x e)

  -- what there is of the elements before a place, and one more item put in at that place
  pub made_more : (f : Tree → T) (xs : List Tree) (made : List T) (i : ℕ) (x : Tree) (y : T) → made ≡ map f (take i xs) → slice_get xs i ≡ Some x → y ≡ f x → insert made i y ≡ map f (take (suc i) xs)
  made_more f xs made i x y e h g = ap (λ zs. insert zs i y) e ∙ (ap (λ z. insert (map f (take i xs)) i z) g ∙ next_made f xs i x h)

  -- and one more put in at the end
  pub made_last : (f : Tree → T) (xs : List Tree) (made : List T) (i : ℕ) (x : Tree) (y : T) → made ≡ map f (take i xs) → slice_get xs i ≡ Some x → y ≡ f x → made ++ y ∷ [] ≡ map f (take (i + 1) xs)
  made_last f xs made i x y e h g =
      let next : suc i ≡ i + 1 = omega arith in
      ap (λ ys. ys ++ y ∷ []) e ∙ (ap (λ z. map f (take i xs) ++ z ∷ []) g ∙ (last xs i h ∙ ap (λ k. map f (take k xs)) next))
    where
      last : (ys : List Tree) (n : ℕ) → slice_get ys n ≡ Some x → map f (take n ys) ++ f x ∷ [] ≡ map f (take (suc n) ys)
      last [] zero p = cc
      last [] (suc n) p = cc
      last (z ∷ ys) zero p = first z p
        where
          first : (a : Tree) → Some a ≡ Some x → f x ∷ [] ≡ f a ∷ []
          first a q = cc
      last (z ∷ ys) (suc n) p = ap (λ zs. f z ∷ zs) (last ys n p)

  pub length-made : (f : Tree → T) (xs : List Tree) → length (map f xs) ≡ length xs
  length-made f [] = refl
  length-made f (x ∷ xs) = ap suc (length-made f xs)

  pub append_nothing : (xs : List T) → xs ++ [] ≡ xs
  append_nothing [] = refl
  append_nothing (x ∷ xs) = ap (λ ys. x ∷ ys) (append_nothing xs)
