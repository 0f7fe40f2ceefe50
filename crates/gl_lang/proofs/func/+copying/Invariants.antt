use Rattle.std.proofs.Common.{◌≡◌, ◌+◌, ◌*◌, take}
use Rattle.spec_lang.specs.Func as spec
use Rattle.gl_lang.proofs.func.+copying.Given as goal

abbrev pub decreases-copied : goal.decreases-copied
decreases-copied l = 2 * spec.func_size l.f.now + 1

abbrev pub decreases-copies : goal.decreases-copies
decreases-copies l = 2 * spec.funcs_size (spec.funcs l.parts.now)

abbrev pub invariant-copies-loop-part : goal.invariant-copies-loop-part
invariant-copies-loop-part l = l.own.items ≡ take l.part-index l.parts
