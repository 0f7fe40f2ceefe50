-- Rooms, one no more than the other.
use Rattle.std.proofs.Common.{arith}
use Rattle.gl_graph.specs.Room.{Room, IsNoMore}

pub no_more : (r : Room) → IsNoMore r r
no_more r = record {
  kept = omega arith;
  members = omega arith;
  sorted = omega arith;
  firsts = omega arith;
}

pub no_more_on : (a b c : Room) → IsNoMore a b → IsNoMore b c → IsNoMore a c
no_more_on a b c h k = record {
  kept = omega (arith, h.kept, k.kept);
  members = omega (arith, h.members, k.members);
  sorted = omega (arith, h.sorted, k.sorted);
  firsts = omega (arith, h.firsts, k.firsts);
}
