use Rattle.std.proofs.Common.{◌≡◌, sym, subst}
use Rattle.std.specs.Prelude.{None, IfErr, OnOk}
use Rattle.spec_states.specs.Plan.{origin as about}
use Rattle.spec_states.specs.State.{own_at}
use Rattle.gl_graph.specs.Graph.{state_of}
use Rattle.gl_graph.specs.Waves.{IsReply}
use Rattle.gl_graph.proofs.WholeWaves.{unmoved_is}
use Rattle.gl_graph.proofs.graph.Graph.wave.Goals as goal

pub returns-clause-moves : goal.returns-clause-moves
returns-clause-moves g c =
    let s = state_of c.args.self.now in
    let command = c.args.command.now in
    subst (λ r. OnOk c.make_wave.result (r ≡ None)) (sym (unmoved_is c.args.self.now.limit s command (own_at s (about command)) c.requires.suits)) c.make_wave.ensures.moves

pub returns-clause-refused : goal.returns-clause-refused
returns-clause-refused g c =
    let s = state_of c.args.self.now in
    let command = c.args.command.now in
    subst (λ r. IfErr c.make_wave.result (IsReply r)) (sym (unmoved_is c.args.self.now.limit s command (own_at s (about command)) c.requires.suits)) c.make_wave.ensures.refused
