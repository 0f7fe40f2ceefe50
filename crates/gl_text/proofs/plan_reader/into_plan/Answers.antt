use Rattle.std.proofs.Common.{ℕ, List, subst}
use Rattle.spec_plan_texts.specs.Reading.{all_read}
use Rattle.spec_plan_texts.specs.Text.{ReadsTo}
use Rattle.gl_text.proofs.Whole.{lines_within, text_either}
use Rattle.gl_text.proofs.plan_reader.into_plan.Goals as goal

pub from_lines-requires : goal.from_lines-requires
from_lines-requires c =
    let read = subst (λ (bytes : List ℕ). ReadsTo bytes (all_read c.in-Ok.lines)) c.as_slice.ensures c.in-Ok.ensures in
    lines_within c.args.bytes c.in-Ok.lines read

pub returns-in-Ok : goal.returns-in-Ok
returns-in-Ok c =
    let made = c.from_lines.ensures in
    let read = subst (λ (bytes : List ℕ). ReadsTo bytes (all_read c.in-Ok.lines)) c.as_slice.ensures c.in-Ok.ensures in
    text_either c.args.bytes c.in-Ok.lines c.from_lines.result read made.plan made.sound made.acyclic made.fault
