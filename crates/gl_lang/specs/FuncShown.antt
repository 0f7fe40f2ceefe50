-- The function that a shape shows.
use Rattle.spec_lang.specs.Func as spec
use Rattle.gl_lang.specs.declared.func.FuncShape.{FuncShape}
use Rattle.gl_lang.specs.declared.func.FuncShape.TheVariants.{At, Num, Text, Count, Sum, Add, Items}

abbrev pub shown : FuncShape → spec.Func
shown (At path) = spec.at_path path.now
shown (Num n) = spec.number n
shown (Text t) = spec.bytes t.now
shown (Count path) = spec.count path.now
shown (Sum path each) = spec.total path.now each.now
shown (Add f g) = spec.sum f.now g.now
shown (Items fs) = spec.list (spec.funcs fs.now)
