use Rattle.std.proofs.Common.{length, ap, arith}
use Rattle.gl_delta.proofs.Stores.{held_is, old_few, new_few}
use Rattle.gl_delta.proofs.pieces.Pieces.reserve.Goals as goal

pub reserve-requires : goal.reserve-requires
reserve-requires c =
    let i = c.self.inside in
    let ps = c.args.self.now.pieces in
    let h = held_is i.colours i.olds i.news i.room c.args.self.now c.self.invariant c.self.view_is in
    omega (arith, ap length h.stored.olds_are, old_few ps, h.stored.within, h.stored.old_room)

pub reserve-requires-2 : goal.reserve-requires-2
reserve-requires-2 c =
    let i = c.self.inside in
    let ps = c.args.self.now.pieces in
    let h = held_is i.colours i.olds i.news i.room c.args.self.now c.self.invariant c.self.view_is in
    omega (arith, ap length h.stored.news_are, new_few ps, h.stored.within, h.stored.new_room)
