use Rattle.std.proofs.Common.{◌∙◌, length, ap, arith}
use Rattle.spec_lists.proofs.DeltaLeads.{length_from}
use Rattle.spec_lists.specs.Cells.{cells_of}
use Rattle.gl_event.specs.Replay.{applied_cells, old_count}
use Rattle.gl_event.proofs.Cells.{old_count-cells, replay_is}
use Rattle.gl_event.proofs.replaying.replay.Goals as goal

pub applied-requires : goal.applied-requires
applied-requires c =
    omega (arith, ap old_count c.cells.ensures, old_count-cells c.args.event.now.pieces, length_from c.args.event.now.pieces c.args.list.now c.requires, ap length c.as_slice.ensures)

pub returns-clause-ok : goal.returns-clause-ok
returns-clause-ok c =
    c.in_ok-made.ensures
    ∙ (ap (λ cs. applied_cells cs c.as_slice.result.now) c.cells.ensures
    ∙ (ap (applied_cells (cells_of c.args.event.now.pieces)) c.as_slice.ensures ∙ replay_is c.args.event.now.pieces c.args.list.now c.requires))
