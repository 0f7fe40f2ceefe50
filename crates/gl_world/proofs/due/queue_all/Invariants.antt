use Rattle.gl_world.proofs.Queues.{QueuedTo}
use Rattle.gl_world.proofs.due.queue_all.Given as goal

-- what is left, once it is queued, gives what all would
abbrev pub invariant-loop-list : goal.invariant-loop-list
invariant-loop-list l = QueuedTo l.initial.due l.initial.graph l.list l.due l.graph
