use Rattle.std.proofs.Common.{◌≡◌, ◌∙◌, ◌++◌, ap}
use Rattle.std.specs.Prelude.{codes, decimal}
use Rattle.gl_report.proofs.Lines.{four_written}
use Rattle.gl_report.proofs.replies.write_out_of_range.Goals as goal

pub returns : goal.returns
returns c =
    let index = c.add_number.new.out in
    let first : index ≡ (c.args.out.now ++ codes "out-of-range ") ++ decimal c.args.index = c.in_ok-add_number.ensures ∙ ap (λ l. l ++ decimal c.args.index) c.in_ok-push_all.ensures.ok in
    c.in_ok-add_number-2.ensures ∙ ap (λ l. l ++ decimal c.args.len) (c.in_ok-push_all-2.ensures.ok ∙ ap (λ l. l ++ codes " ") first)
    ∙ four_written c.args.out.now (codes "out-of-range ") (decimal c.args.index) (codes " ") (decimal c.args.len)
