use Rattle.std.proofs.Common.{◌+◌, ◌≤◌, ◌<◌, length, arith}
use Rattle.spec_lang.specs.Func as spec
use Rattle.spec_lang.proofs.Lists.{func_size-at}
use Rattle.gl_lang.proofs.func.+copying.Goals as goal

-- a part is smaller than its list
pub copies-copied-requires : goal.copies-copied-requires
copies-copied-requires t c =
    let within : c.loop-part.part-index < length c.args.parts.now = omega arith in
    let smaller : spec.func_size c.part-item.result + 1 ≤ spec.funcs_size (spec.funcs c.args.parts.now) =
    func_size-at c.args.parts.now c.loop-part.part-index c.part-item.result within c.part-item.is in
    (omega arith, tt)
