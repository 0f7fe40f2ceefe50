use Rattle.std.proofs.Common.{rules, ◌+◌, ◌<◌, ◌≤◌, length, refl, subst, ap, ◌∙◌}
use Rattle.spec_plan_texts.specs.Reading.{most_bytes, IsSkipped, LeavesLines, SpellsLine}
use Rattle.gl_syntax.specs.declared.stop.ReadFault.{ReadFault}
use Rattle.gl_lines.specs.declared.fault.PlanKind.TheVariants.{Form}
use Rattle.gl_text.specs.declared.stop.Stop.TheVariants.{Fault}
use Rattle.gl_text.specs.Goes.{IsLineFault}
use Rattle.gl_text.proofs.Progress.{long_stops, formless_stops, skipped_goes, line_either}
use Rattle.gl_text.proofs.reading.with_raw.Goals as goal

pub returns-then-raw-gt-MOST_BYTES : goal.returns-then-raw-gt-MOST_BYTES
returns-then-raw-gt-MOST_BYTES c =
    let far : most_bytes < length c.args.raw.now = search rules in
    long_stops c.args.reading.now c.args.raw.now c.args.others.now c.fault.result far c.fault.ensures

pub returns-then-is_skipped : goal.returns-then-is_skipped
returns-then-is_skipped c =
    let few : length c.args.raw.now ≤ most_bytes = search rules in
    let says : IsSkipped c.args.raw.now = search rules in
    let a = c.args.reading.now in
    skipped_goes a (record { lines = a.lines; before = a.before; number = a.number + 1 }) c.args.raw.now c.args.others.now c.requires.is few says c.requires.utf8 refl refl refl

pub returns-in-Err-Form : goal.returns-in-Err-Form
returns-in-Err-Form c =
    let few : length c.args.raw.now ≤ most_bytes = search rules in
    let says : ¬ IsSkipped c.args.raw.now = search rules in
    let fault : IsLineFault c.args.raw.now c.in-Err-Form.field-0 = search rules in
    let leaves : LeavesLines c.args.raw.now c.in-Err-Form.column = subst (λ (f : ReadFault). IsLineFault c.args.raw.now f) c.in-Err-Form.field-0-is fault in
    formless_stops c.args.reading.now c.args.raw.now c.args.others.now c.in-Err-Form.column c.fault-in-Err-Form.result few says leaves
    (c.fault-in-Err-Form.ensures ∙ ap (λ k. Fault (record { line = c.args.reading.now.number; column = k; kind = Form })) c.in-Err-Form.column-is)

pub returns-in-Ok : goal.returns-in-Ok
returns-in-Ok c =
    let few : length c.args.raw.now ≤ most_bytes = search rules in
    let spells : SpellsLine c.args.raw.now c.in-Ok.line = search rules in
    line_either c.args.reading.now c.with_line.new.reading c.in-Ok.line c.args.raw.now c.args.others.now c.with_line.result few spells c.with_line.ensures
