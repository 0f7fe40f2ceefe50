use Rattle.std.proofs.Common.{◌≡◌, ◌+◌, ◌*◌, drop}
use Rattle.std.specs.Cmp.Lexicographic.{slice_cmp}
use Rattle.spec_value.specs.Tree.{tree_size, trees, trees_size}
use Rattle.spec_value.specs.Order as order
use Rattle.gl_value.proofs.order.+order.Given as goal

abbrev pub decreases-cmp_values : goal.decreases-cmp_values
decreases-cmp_values l = 2 * tree_size l.a.now + 1

abbrev pub decreases-cmp_lists : goal.decreases-cmp_lists
decreases-cmp_lists l = 2 * trees_size (trees l.a.now)

abbrev pub invariant-cmp_lists-loop-i : goal.invariant-cmp_lists-loop-i
invariant-cmp_lists-loop-i l = slice_cmp order.cmp l.a l.b ≡ slice_cmp order.cmp (drop l.i l.a) (drop l.i l.b)
