use Rattle.gl_world.specs.Back.{IsLike}
use Rattle.gl_world.specs.Due.{HaveQueueRoom}
use Rattle.gl_world.proofs.Dues.{DueTo}
use Rattle.gl_world.proofs.due.due_of.Given as goal

-- what the lists so far are due
abbrev pub invariant-loop-list : goal.invariant-loop-list
invariant-loop-list l = record {
  like : IsLike l.initial.graph l.graph;
  due : DueTo l.lists l.deltas l.list l.due;
  room : HaveQueueRoom l.due l.graph;
}
