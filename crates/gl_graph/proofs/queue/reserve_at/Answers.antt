use Rattle.gl_graph.proofs.QueueChanges.{can_there, reserved_there}
use Rattle.gl_graph.proofs.queue.reserve_at.Goals as goal

pub returns-clause-ok : goal.returns-clause-ok
returns-clause-ok c =
    can_there c.args.nodes.now.items c.args.position c.index_mut.result.now c.reserve.new.keeps c.requires c.reserve.result c.reserve.ensures.ok

pub returns-clause-reserved : goal.returns-clause-reserved
returns-clause-reserved c =
    reserved_there _ c.args.nodes.now.items c.args.position c.index_mut.result.now c.reserve.new.keeps c.requires c.index_mut.ensures.value c.reserve.ensures.reserved
