use Rattle.std.proofs.Common.{rules, ◌≡◌, codes}
use Rattle.gl_text.proofs.Passes.{passed_last, passed_endless}
use Rattle.gl_text.proofs.block.last_ahead.Goals as goal

pub returns-then-ne : goal.returns-then-ne
returns-then-ne c =
    let other : ¬ (c.args.rest.now ≡ codes "end csv") = search rules in
    passed_endless c.args.bytes.now c.args.rest.now c.args.lines c.requires.passed c.requires.last other

pub returns : goal.returns
returns c =
    let is : c.args.rest.now ≡ codes "end csv" = search rules in
    passed_last c.args.bytes.now c.args.rest.now c.args.lines c.requires.passed is
