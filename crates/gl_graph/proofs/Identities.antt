-- A change that is none leaves a list as it was.
use Rattle.std.proofs.Common.{◌≡◌, ◌∙◌, ℕ, zero, suc, List, [], ◌∷◌, length, refl, ap, arith}
use Rattle.spec_states.specs.Tree.{Tree}
use Rattle.spec_states.specs.Delta.{no_change}
use Rattle.spec_states.specs.Leads.{IsDelta, applied}
use Rattle.spec_states.proofs.DeltaLeads.{length_from}
use Rattle.spec_states.proofs.Lengths.{old_len-identity}

-- what a change that is none leads to is what it starts from
none_applied : (n : ℕ) (xs : List Tree) → length xs ≡ n → applied (no_change n) xs ≡ xs
none_applied zero [] e = refl
none_applied zero (x ∷ xs) e = absurd (omega (arith, e))
none_applied (suc n) [] e = absurd (omega (arith, e))
none_applied (suc n) (x ∷ xs) e = ap (λ ys. x ∷ ys) (none_applied n xs (omega (arith, e)))

pub none_same : (n : ℕ) (xs ys : List Tree) → IsDelta (no_change n) xs ys → ys ≡ xs
none_same n xs ys h = h.ends ∙ none_applied n xs (length_from (no_change n) xs h.starts ∙ old_len-identity n)
