use Rattle.std.proofs.Common.{sym, subst}
use Rattle.gl_graph.specs.Graph.{Kept}
use Rattle.gl_graph.specs.Waves.{IsUndo}
use Rattle.gl_graph.proofs.Progress.{gone_graph}
use Rattle.gl_graph.proofs.graph.Graph.retreat.Goals as goal

pub invariant_of-self : goal.invariant_of-self
invariant_of-self c =
    let now : Kept = record { limit = c.self.inside.limit; nodes = c.self.inside.nodes.items; positions = c.self.inside.positions.items } in
    let is = subst (λ k. IsUndo c.args.undo c.requires.old k) (sym c.self.view_is) c.requires.is in
    gone_graph c.args.undo c.requires.old now c.take_back.new.nodes.items c.requires.graph is c.take_back.ensures.back c.take_back.ensures.numbers
