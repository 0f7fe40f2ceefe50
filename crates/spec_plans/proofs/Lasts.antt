-- The last item of a list, changed.
use Rattle.std.proofs.Common.{◌≡◌, List, [], ◌∷◌, ◌++◌, refl, ap}
use Rattle.spec_plans.specs.Making.{with_last}

pub with_last_end : {X : Type 0} (f : X → X) (xs : List X) (x : X) → with_last f (xs ++ x ∷ []) ≡ xs ++ f x ∷ []
with_last_end f [] x = refl
with_last_end f (a ∷ []) x = refl
with_last_end f (a ∷ b ∷ xs) x = ap (λ ys. a ∷ ys) (with_last_end f (b ∷ xs) x)
