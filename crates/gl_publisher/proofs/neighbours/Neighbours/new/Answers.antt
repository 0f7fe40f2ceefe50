use Rattle.std.proofs.Common.{ℕ, rules}
use Rattle.std.proofs.lemmas.List.Sorted.{IsNonDecreasingBy-from_sort_by_key}
use Rattle.gl_publisher.proofs.neighbours.Neighbours.new.Goals as goal

pub invariant_of-result : goal.invariant_of-result
invariant_of-result c =
    IsNonDecreasingBy-from_sort_by_key (λ (p : ℕ × ℕ). p.0) _ c.sort_unstable_by_key.ensures.sorted (λ a r q k. search rules)
