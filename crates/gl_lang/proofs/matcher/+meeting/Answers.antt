use Rattle.std.proofs.Common.{◌+◌, ◌≤◌, ◌<◌, length, arith, sym, ap, ◌∙◌}
use Rattle.spec_lang.specs.Matcher as spec
use Rattle.spec_lang.proofs.Lists.{matcher_size-at, all_accept-matchers, some_accepts-matchers}
use Rattle.gl_lang.proofs.matcher.+meeting.Goals as goal

-- a part is smaller than its list
pub all_meet-meets-requires : goal.all_meet-meets-requires
all_meet-meets-requires t c =
    let within : c.loop-part.part-index < length c.args.parts.now = omega arith in
    let smaller : spec.matcher_size c.part-item.result + 1 ≤ spec.matchers_size (spec.matchers c.args.parts.now) =
    matcher_size-at c.args.parts.now c.loop-part.part-index c.part-item.result within c.part-item.is in
    (omega arith, tt)

pub some_meets-meets-requires : goal.some_meets-meets-requires
some_meets-meets-requires t c =
    let within : c.loop-part.part-index < length c.args.parts.now = omega arith in
    let smaller : spec.matcher_size c.part-item.result + 1 ≤ spec.matchers_size (spec.matchers c.args.parts.now) =
    matcher_size-at c.args.parts.now c.loop-part.part-index c.part-item.result within c.part-item.is in
    (omega arith, tt)

pub meets-returns-in-And : goal.meets-returns-in-And
meets-returns-in-And t c =
    c.all_meet.ensures ∙ sym (all_accept-matchers c.in-And.parts.now c.args.v.now) ∙ ap (λ m. spec.accepts m c.args.v.now) c.in-And.ensures.value

pub meets-returns-in-Or : goal.meets-returns-in-Or
meets-returns-in-Or t c =
    c.some_meets.ensures ∙ sym (some_accepts-matchers c.in-Or.parts.now c.args.v.now) ∙ ap (λ m. spec.accepts m c.args.v.now) c.in-Or.ensures.value
