use Rattle.std.proofs.Common.{◌+◌, ◌≤◌, ◌<◌, length, arith}
use Rattle.spec_lang.specs.Matcher as spec
use Rattle.spec_lang.proofs.Lists.{matcher_size-at}
use Rattle.gl_lang.proofs.matcher.+copying.Goals as goal

-- a part is smaller than its list
pub copies-copied-requires : goal.copies-copied-requires
copies-copied-requires t c =
    let within : c.loop-part.part-index < length c.args.parts.now = omega arith in
    let smaller : spec.matcher_size c.part-item.result + 1 ≤ spec.matchers_size (spec.matchers c.args.parts.now) =
    matcher_size-at c.args.parts.now c.loop-part.part-index c.part-item.result within c.part-item.is in
    (omega arith, tt)
