-- The function that a node is.
use Rattle.spec_lang.specs.Func as spec
use Rattle.gl_lang.specs.declared.func.Node.{Node}
use Rattle.gl_lang.specs.declared.func.Node.TheVariants.{At, Num, Text, Count, Sum, Add, Items}

abbrev pub func_of : Node → spec.Func
func_of (At path) = spec.at_path path
func_of (Num n) = spec.number n
func_of (Text t) = spec.bytes t
func_of (Count path) = spec.count path
func_of (Sum path each) = spec.total path each
func_of (Add f g) = spec.sum f.value g.value
func_of (Items fs) = spec.list (spec.funcs fs.items)
