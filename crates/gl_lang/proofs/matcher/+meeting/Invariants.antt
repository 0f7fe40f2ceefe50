use Rattle.std.proofs.Common.{◌≡◌, ◌+◌, ◌*◌, drop}
use Rattle.std.specs.List.{list_all, list_any}
use Rattle.spec_lang.specs.Matcher as spec
use Rattle.gl_lang.proofs.matcher.+meeting.Given as goal

abbrev pub decreases-meets : goal.decreases-meets
decreases-meets l = 2 * spec.matcher_size l.m.now + 1

abbrev pub decreases-all_meet : goal.decreases-all_meet
decreases-all_meet l = 2 * spec.matchers_size (spec.matchers l.parts.now)

abbrev pub decreases-some_meets : goal.decreases-some_meets
decreases-some_meets l = 2 * spec.matchers_size (spec.matchers l.parts.now)

-- the parts so far accept
abbrev pub invariant-all_meet-loop-part : goal.invariant-all_meet-loop-part
invariant-all_meet-loop-part l = list_all (λ m. spec.accepts m l.v) l.parts ≡ list_all (λ m. spec.accepts m l.v) (drop l.part-index l.parts)

-- the parts so far don't
abbrev pub invariant-some_meets-loop-part : goal.invariant-some_meets-loop-part
invariant-some_meets-loop-part l = list_any (λ m. spec.accepts m l.v) l.parts ≡ list_any (λ m. spec.accepts m l.v) (drop l.part-index l.parts)
