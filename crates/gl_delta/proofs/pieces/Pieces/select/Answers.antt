use Rattle.std.proofs.Common.{◌∙◌}
use Rattle.gl_delta.proofs.Stores.{held_is, colours_len}
use Rattle.gl_delta.proofs.Ranks.{selected_by, selected_end, selected_none}
use Rattle.gl_delta.proofs.pieces.Pieces.select.Goals as goal

pub returns-in-Some : goal.returns-in-Some
returns-in-Some c =
    let i = c.self.inside in
    let ps = c.args.self.now.pieces in
    let h = held_is i.colours i.olds i.news i.room c.args.self.now c.self.invariant c.self.view_is in
    selected_by c.args.side i.colours.colours ps c.args.position c.in-Some.found c.mask.result h.stored.colours_are c.mask.ensures c.in-Some.ensures.position

pub returns-in-None : goal.returns-in-None
returns-in-None c =
    let i = c.self.inside in
    let ps = c.args.self.now.pieces in
    let h = held_is i.colours i.olds i.news i.room c.args.self.now c.self.invariant c.self.view_is in
    selected_end c.args.side ps c.args.position c.len.result (c.len.ensures.value ∙ colours_len i.colours.colours ps h.stored.colours_are) (selected_none c.args.side i.colours.colours ps c.args.position c.mask.result h.stored.colours_are c.mask.ensures c.in-None.ensures.some c.requires.within)
