-- The first items of a list, one more at a time.
use Rattle.std.proofs.Common.{◌≡◌, ◌∙◌, ℕ, zero, suc, ◌+◌, ◌++◌, List, [], ◌∷◌, take, ap, arith}
use Rattle.std.specs.List.{slice_get}
use Rattle.std.specs.Prelude.{Some}
use Rattle.std.proofs.lemmas.Option.{same_Some}

taken : {X : Type 0} (xs : List X) (i : ℕ) (x : X) → slice_get xs i ≡ Some x → take (suc i) xs ≡ take i xs ++ x ∷ []
taken [] i x e = absurd cc
taken (y ∷ ys) zero x e = ap (λ z. z ∷ []) (same_Some y x e)
taken (y ∷ ys) (suc i) x e = ap (λ zs. y ∷ zs) (taken ys i x e)

pub taken_more : {X : Type 0} (xs : List X) (i : ℕ) (x : X) → slice_get xs i ≡ Some x → take (i + 1) xs ≡ take i xs ++ x ∷ []
taken_more xs i x e = let next : i + 1 ≡ suc i = omega arith in ap (λ k. take k xs) next ∙ taken xs i x e
