use Rattle.std.proofs.Common.{sym, subst}
use Rattle.gl_world.specs.Due.{KeepsQueueRoom}
use Rattle.gl_world.proofs.Dues.{room_copy}
use Rattle.gl_world.proofs.due.copy_due.Goals as goal

pub returns-clause-room : goal.returns-clause-room
returns-clause-room c =
    let before = c.args.graph.now in
    let now = c.reserve_queue.new.self in
    let e = c.in_ok-reserve_queue.ensures in
    subst (λ due. KeepsQueueRoom c.args.due.now before due now) (sym c.put.ensures)
    (room_copy c.args.list c.args.due.now c.in_ok-copy.field-0 before now e.ok c.reserve_queue.ensures.others)
