-- Each part of a function is smaller than the function.
use Rattle.std.specs.Prelude.{◌+◌, ◌≤◌, max, List, [], ◌∷◌}
use Rattle.std.proofs.Common.{arith}
use denote.Param.Weighed.{most}
use Rattle.spec_lang.specs.Func as spec
use Rattle.gl_lang.specs.FuncNode.{func_of}
use Rattle.gl_lang.specs.declared.func.Node.{Node}
use Rattle.gl_lang.specs.declared.func.Node.TheVariants.{At, Num, Text, Count, Sum, Add, Items}
use Rattle.gl_lang.specs.declared.func.Func.TheDeep.{deep-Node}

pub most_le-funcs_size : (fs : List spec.Func)
    → most (λ f. spec.func_size f + 1) fs ≤ spec.funcs_size (spec.funcs fs)
most_le-funcs_size [] = omega arith
most_le-funcs_size (f ∷ fs) = omega (arith, most_le-funcs_size fs)

pub deep_le-func_size : (n : Node) → max (deep-Node n) 0 ≤ spec.func_size (func_of n)
deep_le-func_size (At path) = omega arith
deep_le-func_size (Num n) = omega arith
deep_le-func_size (Text t) = omega arith
deep_le-func_size (Count path) = omega arith
deep_le-func_size (Sum path each) = omega arith
deep_le-func_size (Add f g) = omega arith
deep_le-func_size (Items fs) = omega (arith, most_le-funcs_size fs.items)
