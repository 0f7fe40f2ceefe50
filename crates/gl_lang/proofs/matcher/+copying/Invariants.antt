use Rattle.std.proofs.Common.{◌≡◌, ◌+◌, ◌*◌, take}
use Rattle.spec_lang.specs.Matcher as spec
use Rattle.gl_lang.proofs.matcher.+copying.Given as goal

abbrev pub decreases-copied : goal.decreases-copied
decreases-copied l = 2 * spec.matcher_size l.m.now + 1

abbrev pub decreases-copies : goal.decreases-copies
decreases-copies l = 2 * spec.matchers_size (spec.matchers l.parts.now)

abbrev pub invariant-copies-loop-part : goal.invariant-copies-loop-part
invariant-copies-loop-part l = l.own.items ≡ take l.part-index l.parts
