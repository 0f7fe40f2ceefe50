use Rattle.std.proofs.Common.{arith}
use Rattle.gl_world.proofs.Queues.{queued_none_yet, queued_next, queued_all}
use Rattle.gl_world.proofs.due.queue_all.Goals as goal

pub loop-list-init : goal.loop-list-init
loop-list-init c = queued_none_yet c.args.due c.args.graph.now c.requires.can

pub queue_one-requires-clause-within : goal.queue_one-requires-clause-within
queue_one-requires-clause-within c = omega (arith, c.loop-list-test.true, c.loop-list.invariant.long, c.requires.long)

pub queue_one-requires-clause-can : goal.queue_one-requires-clause-can
queue_one-requires-clause-can c = c.loop-list.invariant.can

pub loop-list-preserved : goal.loop-list-preserved
loop-list-preserved c =
    queued_next c.args.due c.args.graph.now c.loop-list.list c.loop-list.due c.queue_one.new.due c.loop-list.graph
    c.queue_one.new.graph c.loop-list.invariant c.queue_one.ensures

pub returns-clause-state : goal.returns-clause-state
returns-clause-state c =
    queued_all c.args.due c.args.graph.now c.loop-list.list c.loop-list.due c.loop-list.graph (omega (arith, c.requires.long))
    c.loop-list.invariant
