use Rattle.std.proofs.Common.{sym, subst}
use Rattle.std.specs.Prelude.{IfErr}
use Rattle.gl_graph.specs.Nodes.{state_of}
use Rattle.gl_graph.specs.Causes.{cause_of}
use Rattle.gl_graph.specs.Waves.{IsStopping}
use Rattle.gl_graph.proofs.rollback.rollback_of.Goals as goal

pub returns-in-Command-clause-refused : goal.returns-in-Command-clause-refused
returns-in-Command-clause-refused c =
    let nodes = c.args.nodes.now in
    let positions = c.args.positions.now in
    subst (λ k. IfErr c.of_command.result (IsStopping c.args.limit (state_of nodes positions) (cause_of k))) (sym c.in-Command.is) c.of_command.ensures.refused
