-- The value that a node is.
use Rattle.spec_value.specs.Tree.{Tree, num, text, items_of}
use Rattle.std.specs.Prelude.{[]}
use Rattle.gl_value.specs.declared.value.Node.{Node}
use Rattle.gl_value.specs.declared.value.Node.TheVariants.{Num, Text, Empty, Items}

abbrev pub tree_of : Node → Tree
tree_of (Num n) = num n
tree_of (Text t) = text t
tree_of Empty = items_of []
tree_of (Items vs) = items_of vs.value.items
