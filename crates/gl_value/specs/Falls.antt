-- Each element of a list is smaller than the list.
use Rattle.std.specs.Prelude.{◌+◌, ◌≤◌, max, List, [], ◌∷◌}
use Rattle.std.proofs.Common.{arith}
use denote.Param.Weighed.{most}
use Rattle.spec_value.specs.Tree.{Tree, tree_size, trees, trees_size}
use Rattle.gl_value.specs.Node.{tree_of}
use Rattle.gl_value.specs.declared.value.Node.{Node}
use Rattle.gl_value.specs.declared.value.Node.TheVariants.{Num, Text, Empty, Items}
use Rattle.gl_value.specs.declared.value.Value.TheDeep.{deep-Node}

pub most_le-trees_size : (ts : List Tree) → most (λ t. tree_size t + 1) ts ≤ trees_size (trees ts)
most_le-trees_size [] = omega arith
most_le-trees_size (t ∷ ts) = omega (arith, most_le-trees_size ts)

pub deep_le-tree_size : (n : Node) → max (deep-Node n) 0 ≤ tree_size (tree_of n)
deep_le-tree_size (Num n) = omega arith
deep_le-tree_size (Text t) = omega arith
deep_le-tree_size Empty = omega arith
deep_le-tree_size (Items vs) = omega (arith, most_le-trees_size vs.value.items)
