use Rattle.gl_world.proofs.Queues.{queued_some}
use Rattle.gl_world.proofs.due.queue_one.Goals as goal

pub returns-in-Some : goal.returns-in-Some
returns-in-Some c =
    queued_some c.args.due.now c.take.new.self c.args.list c.in-Some.delta c.args.graph.now c.queue.new.self c.requires.within
    c.in-Some.ensures.taken c.in-Some.ensures.rest c.requires.can c.queue.ensures.state c.queue.ensures.limit
    c.queue.ensures.others
