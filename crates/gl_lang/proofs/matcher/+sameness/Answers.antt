use Rattle.std.proofs.Common.{◌+◌, ◌≤◌, ◌<◌, length, arith, sym, ap, ◌∙◌}
use Rattle.spec_lang.specs.Matcher as spec
use Rattle.spec_lang.proofs.Lists.{matcher_size-at, both-parts, either-parts}
use Rattle.gl_lang.proofs.matcher.+sameness.Goals as goal

-- a part is smaller than its list
pub same_parts-same_matcher-requires : goal.same_parts-same_matcher-requires
same_parts-same_matcher-requires t c =
    let within : c.loop-i.i < length c.args.a.now = omega arith in
    let smaller : spec.matcher_size c.index-a-i.result + 1 ≤ spec.matchers_size (spec.matchers c.args.a.now) =
    matcher_size-at c.args.a.now c.loop-i.i c.index-a-i.result within c.index-a-i.is in
    (omega arith, tt)

pub same_matcher-returns-in-And-And : goal.same_matcher-returns-in-And-And
same_matcher-returns-in-And-And t c =
    let arm = c.in-And-And in (
      λ yes. sym arm.ensures.value ∙ ap (λ ms. spec.both (spec.matchers ms)) (c.same_parts.ensures.0 yes) ∙ arm.ensures'.value,
      λ e. c.same_parts.ensures.1 (both-parts arm.ms.now arm.ns.now (arm.ensures.value ∙ e ∙ sym arm.ensures'.value)),
    )

pub same_matcher-returns-in-Or-Or : goal.same_matcher-returns-in-Or-Or
same_matcher-returns-in-Or-Or t c =
    let arm = c.in-Or-Or in (
      λ yes. sym arm.ensures.value ∙ ap (λ ms. spec.either (spec.matchers ms)) (c.same_parts-in-Or-Or.ensures.0 yes) ∙ arm.ensures'.value,
      λ e. c.same_parts-in-Or-Or.ensures.1 (either-parts arm.ms.now arm.ns.now (arm.ensures.value ∙ e ∙ sym arm.ensures'.value)),
    )
