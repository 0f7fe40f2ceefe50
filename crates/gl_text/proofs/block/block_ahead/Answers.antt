use Rattle.std.proofs.Common.{rules, ◌≡◌, Some, codes}
use Rattle.spec_plan_texts.specs.Cuts.{cut}
use Rattle.gl_text.proofs.Passes.{passed_ends, passed_more, rest_shorter}
use Rattle.gl_text.proofs.block.block_ahead.Goals as goal

pub returns-then-eq : goal.returns-then-eq
returns-then-eq c =
    let cuts : Some (c.in-Some.raw.now, c.in-Some.others.now) ≡ cut 10 c.lines.rest.now = search rules in
    let is : c.in-Some.raw.now ≡ codes "end csv" = search rules in
    passed_ends c.args.bytes.now c.lines.rest.now c.in-Some.raw.now c.in-Some.others.now c.lines.lines c.lines.invariant.passed cuts is

pub lines-smaller : goal.lines-smaller
lines-smaller c =
    let cuts : Some (c.in-Some.raw.now, c.in-Some.others.now) ≡ cut 10 c.lines.rest.now = search rules in
    rest_shorter c.lines.rest.now c.in-Some.raw.now c.in-Some.others.now cuts

pub lines-preserved : goal.lines-preserved
lines-preserved c =
    let cuts : Some (c.in-Some.raw.now, c.in-Some.others.now) ≡ cut 10 c.lines.rest.now = search rules in
    let other : ¬ (c.in-Some.raw.now ≡ codes "end csv") = search rules in
    record { passed = passed_more c.args.bytes.now c.lines.rest.now c.in-Some.raw.now c.in-Some.others.now c.lines.lines c.lines.invariant.passed cuts other }
