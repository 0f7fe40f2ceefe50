use Rattle.gl_big.specs.Lines.{section_lines}
use Rattle.gl_big.proofs.Counting.{some_more}
use Rattle.gl_big.proofs.sections.add_sections.Goals as goal

pub loop-j-preserved : goal.loop-j-preserved
loop-j-preserved c = rw c.in_ok-add_section.ensures
    (some_more (section_lines c.args.source.now c.args.count) c.args.lines.now c.loop-j.lines c.loop-j.j
    c.loop-j.invariant)
