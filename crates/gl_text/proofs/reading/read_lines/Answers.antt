use Rattle.std.proofs.Common.{rules, ◌≡◌, ◌<◌, ◌∷◌, [], length, arith}
use Rattle.spec_plan_texts.specs.Cuts.{lines_in, IsFirstLine}
use Rattle.gl_text.specs.Goes.{GoesOn}
use Rattle.gl_text.proofs.Progress.{rest_text, all_lines, leads_more}
use Rattle.gl_text.proofs.reading.read_lines.Goals as goal

pub with_raw-requires-clause-utf8 : goal.with_raw-requires-clause-utf8
with_raw-requires-clause-utf8 c =
    let first : IsFirstLine c.lines.rest.now c.in-Some.raw.now c.in-Some.others.now = search rules in
    rest_text c.lines.rest.now c.in-Some.raw.now c.in-Some.others.now c.lines.invariant.utf8 first

pub returns : goal.returns
returns c =
    let none : lines_in c.lines.rest.now ≡ [] = search rules in
    all_lines c.lines.reading c.args.bytes.now c.lines.rest.now c.lines.invariant.leads none

pub lines-preserved : goal.lines-preserved
lines-preserved c =
    let goes : GoesOn c.lines.reading c.in-Some.raw.now c.in-Some.others.now c.with_raw.new.reading c.in_ok-rest.rest.now = search rules in
    let lines : lines_in c.lines.rest.now ≡ c.in-Some.raw.now ∷ lines_in c.in-Some.others.now = search rules in
    let shorter : length c.in-Some.others.now < length c.lines.rest.now = search rules in
    record {
      is = goes.is;
      leads = leads_more c.lines.reading c.with_raw.new.reading c.args.bytes.now c.lines.rest.now c.in-Some.raw.now c.in-Some.others.now c.in_ok-rest.rest.now c.lines.invariant.leads lines goes;
      utf8 = goes.utf8;
      few = omega (arith, goes.few, c.lines.invariant.few, shorter);
    }
