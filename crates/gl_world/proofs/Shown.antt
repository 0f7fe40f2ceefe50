-- What a list shows, value by value.
use Rattle.std.proofs.Common.{◌≡◌, ◌∙◌, ℕ, zero, suc, ◌+◌, List, [], ◌∷◌, ◌++◌, take, ap, arith}
use Rattle.std.specs.Prelude.{Some, slice_get}
use Rattle.spec_states.specs.Tree.{Tree}

taken_more : (xs : List Tree) (place : ℕ) (v : Tree) → Some v ≡ slice_get xs place
    → take place xs ++ v ∷ [] ≡ take (suc place) xs
taken_more [] place v is = absurd cc
taken_more (x ∷ xs) zero v is = (let same : v ≡ x = cc in ap (λ y. y ∷ []) same)
taken_more (x ∷ xs) (suc place) v is = ap (λ ys. x ∷ ys) (taken_more xs place v is)

-- one value more
pub one_more : (xs old new : List Tree) (place : ℕ) (v copy : Tree) → Some v ≡ slice_get xs place → copy ≡ v
    → old ≡ take place xs → new ≡ old ++ copy ∷ [] → new ≡ take (place + 1) xs
one_more xs old new place v copy is same before after =
    let next : suc place ≡ place + 1 = omega arith in
    after ∙ ap (λ w. old ++ w ∷ []) same ∙ ap (λ ys. ys ++ v ∷ []) before ∙ taken_more xs place v is
    ∙ ap (λ k. take k xs) next
