use Rattle.std.proofs.Common.{◌≡◌, ℕ, ◌&&◌, nat_lt}
use Rattle.std.specs.Ordering.{nat_cmp}
use Rattle.std.specs.BTreeSet.{contains}
use Rattle.gl_publisher.specs.Waiting.{is_free}
use Rattle.gl_publisher.proofs.waiting.free_numbers.Given as goal

abbrev pub invariant-loop-number : goal.invariant-loop-number
invariant-loop-number l =
    (a : ℕ) → contains nat_cmp l.free a ≡ (nat_lt a l.number && is_free l.counts a)
