use Rattle.std.proofs.Common.{◌≤◌, length}
use Rattle.gl_graph.specs.Causes.{cause_of}
use Rattle.gl_graph.specs.Spread.{IsSpread}
use Rattle.gl_graph.proofs.spread.spread_all.Given as goal

abbrev pub invariant-positions : goal.invariant-positions
invariant-positions g l = record {
  within : l.position ≤ length l.initial.nodes.items;
  spread : IsSpread l.limit l.initial.nodes.items l.positions (cause_of l.cause) l.rollback l.position l.nodes.items l.deltas l.made.items;
}
