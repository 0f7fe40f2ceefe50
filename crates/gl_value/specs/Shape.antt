-- The value that a shape shows.
use Rattle.spec_value.specs.Tree.{Tree, num, text, items_of}
use Rattle.gl_value.specs.declared.value.ValueShape.{ValueShape}
use Rattle.gl_value.specs.declared.value.ValueShape.TheVariants.{Num, Text, Items}

abbrev pub shown : ValueShape → Tree
shown (Num n) = num n
shown (Text t) = text t.now
shown (Items vs) = items_of vs.now
