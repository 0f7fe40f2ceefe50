use Rattle.std.proofs.Common.{subst}
use Rattle.gl_plan.specs.Tables.{AreTables}
use Rattle.gl_plan.proofs.Sound.{prepared}
use Rattle.gl_plan.proofs.making.sound_plan.Goals as goal

pub acyclic_plan-requires : goal.acyclic_plan-requires
acyclic_plan-requires c =
    prepared c.args.lines c.in_ok-tables.tables c.in_ok-draft.draft c.as_slice-2.result.now c.as_slice-3.result.now
    c.requires.sound c.requires.within (subst (AreTables c.in_ok-tables.tables) c.as_slice.ensures c.in_ok-tables.ensures)
    c.in_ok-draft.ensures c.as_slice-2.ensures c.as_slice-3.ensures
