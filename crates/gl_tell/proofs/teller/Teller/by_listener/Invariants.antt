use Rattle.gl_tell.proofs.Handings.{AreHandedTo}
use Rattle.gl_tell.proofs.teller.Teller.by_listener.Given as goal

-- the deltas of the lists so far were handed to their listeners
abbrev pub invariant-loop-list : goal.invariant-loop-list
invariant-loop-list l = AreHandedTo l.self.plan l.list l.initial.deltas l.deltas l.heard
