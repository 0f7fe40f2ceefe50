use Rattle.gl_delta.proofs.Stores.{held_is}
use Rattle.gl_delta.proofs.Ranks.{kept_choice}
use Rattle.gl_delta.proofs.pieces.Pieces.kept_at.Goals as goal

pub returns : goal.returns
returns c =
    let i = c.self.inside in
    let ps = c.args.self.now.pieces in
    let h = held_is i.colours i.olds i.news i.room c.args.self.now c.self.invariant c.self.view_is in
    kept_choice c.select.result i.colours.colours ps c.args.k h.stored.colours_are c.select.ensures.some c.select.ensures.position
