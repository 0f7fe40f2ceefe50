use Rattle.std.proofs.Common.{◌≡◌, ◌≤◌, ◌*◌, length, take}
use Rattle.spec_states.specs.Composite.{composite_view}
use Rattle.gl_graph.specs.Nodes.{shown_by}
use Rattle.gl_graph.proofs.open.total_len.Given as goal

-- the elements of the members so far were counted
abbrev pub invariant-loop-member : goal.invariant-loop-member
invariant-loop-member l = record {
  counted : l.len ≡ length (composite_view (take l.member-index l.members) (shown_by l.prefix l.positions));
  few : l.len ≤ l.member-index * 2147483647;
}
