use Rattle.std.proofs.Common.{length, take, arith}
use Rattle.gl_tell.proofs.Handings.{given_none, given_more, take_next, below_at}
use Rattle.gl_tell.proofs.handing.give_copies.Goals as goal

pub loop-listener-init : goal.loop-listener-init
loop-listener-init c = given_none c.args.delta.now.pieces c.args.heard.now

pub put-requires : goal.put-requires
put-requires c =
    let i = c.loop-listener.listener-index in
    let low = below_at (length c.args.heard.now) c.args.listeners.now i c.requires.known c.loop-listener-test.true in
    omega (arith, low, c.loop-listener.invariant.long)

pub loop-listener-preserved : goal.loop-listener-preserved
loop-listener-preserved c =
    let i = c.loop-listener.listener-index in
    let ks = c.args.listeners.now in
    let low = below_at (length c.args.heard.now) ks i c.requires.known c.loop-listener-test.true in
    rw (c.put.ensures, take_next ks i c.loop-listener-test.true)
    (given_more c.args.delta.now.pieces (take i ks) _ c.in_ok-copy.field-0 c.args.heard.now c.loop-listener.heard
    c.loop-listener.invariant low c.in_ok-copy.ensures)
