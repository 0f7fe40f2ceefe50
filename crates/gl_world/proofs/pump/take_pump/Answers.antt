use Rattle.spec_states.specs.Wave.{pump}
use Rattle.gl_graph.specs.Graph.{state_of}
use Rattle.gl_world.proofs.Commands.{told_deltas}
use Rattle.gl_world.proofs.pump.take_pump.Goals as goal

pub returns-in-Ok-keep-clause-told : goal.returns-in-Ok-keep-clause-told
returns-in-Ok-keep-clause-told g c =
    told_deltas (state_of c.args.graph.now) (pump c.args.list) c.in-Ok.field-0.deltas c.in-Ok.ensures.told
