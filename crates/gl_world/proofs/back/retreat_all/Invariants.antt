use Rattle.std.proofs.Common.{vec_len}
use Rattle.gl_graph.specs.Graph.{Kept}
use Rattle.gl_world.specs.Back.{Leads, CanGoBack}
use Rattle.gl_world.proofs.back.retreat_all.Given as goal

-- wherever all undos led back to, those that are left still do
abbrev pub invariant-undos : goal.invariant-undos
invariant-undos l = record {
  can : CanGoBack l.undos.items l.graph;
  leads : (start : Kept) → Leads l.initial.undos.items start l.initial.graph → Leads l.undos.items start l.graph;
}

abbrev pub decreases-undos : goal.decreases-undos
decreases-undos l = vec_len l.undos
