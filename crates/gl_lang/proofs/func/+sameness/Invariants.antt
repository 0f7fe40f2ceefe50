use Rattle.std.proofs.Common.{◌≡◌, ◌+◌, ◌*◌, take}
use Rattle.spec_lang.specs.Func as spec
use Rattle.gl_lang.proofs.func.+sameness.Given as goal

abbrev pub decreases-same_func : goal.decreases-same_func
decreases-same_func l = 2 * spec.func_size l.a.now + 1

abbrev pub decreases-same_parts : goal.decreases-same_parts
decreases-same_parts l = 2 * spec.funcs_size (spec.funcs l.a.now)

abbrev pub invariant-same_parts-loop-i : goal.invariant-same_parts-loop-i
invariant-same_parts-loop-i l = take l.i l.a ≡ take l.i l.b
