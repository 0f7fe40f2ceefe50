use Rattle.gl_text.proofs.Whole.{lines_within, text_either}
use Rattle.gl_text.proofs.plan_reader.read_plan.Goals as goal

pub from_lines-requires : goal.from_lines-requires
from_lines-requires c = lines_within c.args.bytes.now c.in-Ok.lines c.in-Ok.ensures

pub returns-in-Ok : goal.returns-in-Ok
returns-in-Ok c =
    let made = c.from_lines.ensures in
    text_either c.args.bytes.now c.in-Ok.lines c.from_lines.result c.in-Ok.ensures made.plan made.sound made.acyclic made.fault
