use Rattle.std.proofs.Common.{◌≡◌, ◌+◌, ◌*◌, ◌++◌, take, drop}
use Rattle.spec_value.specs.Tree.{tree_size, trees, trees_size}
use Rattle.spec_syntax.specs.Proper.{AreProper}
use Rattle.gl_syntax.specs.Elements.{elements_from}
use Rattle.gl_syntax.proofs.spelling.+value.Given as goal

abbrev pub decreases-add_value : goal.decreases-add_value
decreases-add_value l = 2 * tree_size l.value.now + 1

abbrev pub decreases-add_values : goal.decreases-add_values
decreases-add_values l = 2 * trees_size (trees l.values.now)

-- what is written and what is left are the whole, and what is written is proper
abbrev pub invariant-add_values-loop-offset : goal.invariant-add_values-loop-offset
invariant-add_values-loop-offset l =
    (l.out ++ elements_from l.offset (drop l.offset l.values) ≡ l.initial.out ++ elements_from 0 l.values) × AreProper (trees (take l.offset l.values))
