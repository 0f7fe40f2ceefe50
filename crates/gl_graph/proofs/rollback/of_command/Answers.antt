use Rattle.std.proofs.Common.{◌<◌, length, sym, subst}
use Rattle.spec_states.specs.Command.TheVariants as command
use Rattle.spec_states.specs.Plan.{origin as about}
use Rattle.spec_states.specs.Wave.{command as made_by}
use Rattle.spec_states.specs.State.{own_at}
use Rattle.gl_graph.specs.Nodes.{own_of, state_of}
use Rattle.gl_graph.specs.Commands.{Suits}
use Rattle.gl_graph.specs.Rollbacks.{TakesBack}
use Rattle.gl_graph.specs.Waves.{IsStopping}
use Rattle.gl_graph.proofs.Inputs.{long_state}
use Rattle.gl_graph.proofs.Rollbacks.{can_roll_back, node_own, takes_back, refused_back}
use Rattle.gl_graph.proofs.rollback.of_command.Goals as goal

pub node_of-requires : goal.node_of-requires
node_of-requires c =
    let nodes = c.args.nodes.now in
    let positions = c.args.positions.now in
    let list = c.in-Rollback.list in
    let within = subst (λ k. about k < length (state_of nodes positions)) c.in-Rollback.is c.requires.within in
    c.requires.graph.placed list (subst (λ n. list < n) (long_state nodes positions) within)

pub taken_back-requires : goal.taken_back-requires
taken_back-requires c =
    let nodes = c.args.nodes.now in
    let positions = c.args.positions.now in
    let list = c.in-Rollback.list in
    let node = c.node_of.result.now in
    let within = subst (λ k. about k < length (state_of nodes positions)) c.in-Rollback.is c.requires.within in
    let low = subst (λ n. list < n) (long_state nodes positions) within in
    let suits = subst (λ k. Suits k (own_at (state_of nodes positions) (about k))) c.in-Rollback.is c.requires.suits in
    can_roll_back list (own_of node.keeps) (subst (Suits (command.Rollback list)) (node_own nodes positions list node low c.node_of.ensures.node) suits)

pub returns-in-Ok-clause-ok : goal.returns-in-Ok-clause-ok
returns-in-Ok-clause-ok c =
    let nodes = c.args.nodes.now in
    let positions = c.args.positions.now in
    let list = c.in-Rollback.list in
    let within = subst (λ k. about k < length (state_of nodes positions)) c.in-Rollback.is c.requires.within in
    let low = subst (λ n. list < n) (long_state nodes positions) within in
    subst (λ k. TakesBack (state_of nodes positions) (made_by k) c.in-Ok.rollback) (sym c.in-Rollback.is)
    (takes_back c.args.limit nodes positions list c.node_of.result.now c.in-Ok.rollback c.requires.graph low c.node_of.ensures.node c.in-Ok.ensures.ok)

pub returns-in-Err-clause-refused : goal.returns-in-Err-clause-refused
returns-in-Err-clause-refused c =
    let nodes = c.args.nodes.now in
    let positions = c.args.positions.now in
    let list = c.in-Rollback.list in
    let node = c.node_of.result.now in
    let within = subst (λ k. about k < length (state_of nodes positions)) c.in-Rollback.is c.requires.within in
    let low = subst (λ n. list < n) (long_state nodes positions) within in
    subst (λ k. IsStopping c.args.limit (state_of nodes positions) (made_by k) c.in-Err.why) (sym c.in-Rollback.is)
    (refused_back c.args.limit (state_of nodes positions) list (own_of node.keeps) c.in-Err.why (node_own nodes positions list node low c.node_of.ensures.node) c.in-Err.ensures.refused)
