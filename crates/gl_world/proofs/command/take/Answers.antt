use Rattle.std.proofs.Common.{ap}
use Rattle.spec_states.specs.Step.{unmoved}
use Rattle.gl_graph.specs.Graph.{state_of}
use Rattle.gl_world.proofs.Commands.{deltas_still}
use Rattle.gl_world.proofs.command.take.Goals as goal

pub returns-in_ok-show-in-Show-clause-told : goal.returns-in_ok-show-in-Show-clause-told
returns-in_ok-show-in-Show-clause-told g c =
    let k = c.args.graph.now in
    deltas_still k.limit (state_of k) c.args.command.now _ c.args.deltas.now
    (ap (unmoved k.limit (state_of k)) c.in-Show.is)
