use Rattle.gl_world.proofs.JoinedDeltas.{JoinedTo}
use Rattle.gl_world.proofs.joined.join_all.Given as goal

abbrev pub invariant-loop-list : goal.invariant-loop-list
invariant-loop-list l = JoinedTo l.initial.sofar l.initial.next l.list l.sofar l.next
