use Rattle.std.proofs.Common.{rules, ◌≡◌, ◌∷◌, codes}
use Rattle.spec_plan_texts.specs.Cuts.{lines_in, IsFirstLine}
use Rattle.gl_text.proofs.Whole.{header_is}
use Rattle.gl_text.proofs.plan_reader.after_header.Goals as goal

pub returns-then-eq : goal.returns-then-eq
returns-then-eq c =
    let lines : lines_in c.args.bytes.now ≡ c.in-Some.first.now ∷ lines_in c.in-Some.rest.now = search rules in
    let cut : IsFirstLine c.args.bytes.now c.in-Some.first.now c.in-Some.rest.now = search rules in
    let is : c.in-Some.first.now ≡ codes "glaze 1" = search rules in
    header_is c.args.bytes.now c.in-Some.first.now c.in-Some.rest.now lines cut is
