use Rattle.std.proofs.Common.{◌≡◌, ◌+◌, ◌*◌, take}
use Rattle.spec_lang.specs.Matcher as spec
use Rattle.gl_lang.proofs.matcher.+sameness.Given as goal

abbrev pub decreases-same_matcher : goal.decreases-same_matcher
decreases-same_matcher l = 2 * spec.matcher_size l.a.now + 1

abbrev pub decreases-same_parts : goal.decreases-same_parts
decreases-same_parts l = 2 * spec.matchers_size (spec.matchers l.a.now)

abbrev pub invariant-same_parts-loop-i : goal.invariant-same_parts-loop-i
invariant-same_parts-loop-i l = take l.i l.a ≡ take l.i l.b
