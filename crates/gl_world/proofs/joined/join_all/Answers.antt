use Rattle.std.proofs.Common.{arith}
use Rattle.gl_world.proofs.JoinedDeltas.{joined_none_yet, joined_next, meet_next, joined_all}
use Rattle.gl_world.proofs.joined.join_all.Goals as goal

pub loop-list-init : goal.loop-list-init
loop-list-init c = joined_none_yet c.args.sofar.now c.args.next

pub join-requires-clause-meet : goal.join-requires-clause-meet
join-requires-clause-meet c =
    meet_next c.args.sofar.now c.args.next c.loop-list.sofar c.loop-list.next c.loop-list.list c.requires.meet
    (omega arith) c.loop-list.invariant

pub loop-list-preserved : goal.loop-list-preserved
loop-list-preserved c =
    joined_next c.args.sofar.now c.args.next c.loop-list.sofar c.loop-list.next c.join.new.sofar c.join.new.next
    c.loop-list.list c.loop-list.invariant c.in_ok-join.ensures

pub returns : goal.returns
returns c =
    joined_all c.args.sofar.now c.args.next c.loop-list.sofar c.loop-list.next c.loop-list.list
    (omega arith) c.loop-list.invariant
