use Rattle.std.proofs.Common.{◌≡◌, take}
use Rattle.gl_composite.specs.Stands.{StandsFor}
use Rattle.gl_graph.specs.Nodes.{shown_by}
use Rattle.gl_graph.proofs.open.with_members.Given as goal

-- the members so far were attached
abbrev pub invariant-loop-member : goal.invariant-loop-member
invariant-loop-member l = record {
  lists : l.composite.lists ≡ take l.member-index l.members;
  stands : StandsFor l.composite (shown_by l.prefix l.positions);
  limit : l.composite.limit ≡ l.limit;
}
