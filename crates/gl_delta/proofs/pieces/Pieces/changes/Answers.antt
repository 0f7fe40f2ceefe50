use Rattle.std.proofs.Common.{◌∙◌}
use Rattle.spec_lists.specs.Changes.{changed_len}
use Rattle.gl_delta.proofs.Stores.{held_is}
use Rattle.gl_delta.proofs.Ranks.{counted, counts_changed}
use Rattle.gl_delta.proofs.pieces.Pieces.changes.Goals as goal

pub returns : goal.returns
returns c =
    let i = c.self.inside in
    let ps = c.args.self.now.pieces in
    let h = held_is i.colours i.olds i.news i.room c.args.self.now c.self.invariant c.self.view_is in
    c.count.ensures ∙ counted 14 changed_len counts_changed i.colours.colours ps h.stored.colours_are
