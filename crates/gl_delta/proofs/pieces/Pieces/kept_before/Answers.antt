use Rattle.std.proofs.Common.{◌∙◌}
use Rattle.gl_delta.specs.Plain.{kept_len}
use Rattle.gl_delta.proofs.Stores.{held_is}
use Rattle.gl_delta.proofs.Ranks.{ranked, counts_kept}
use Rattle.gl_delta.proofs.pieces.Pieces.kept_before.Goals as goal

pub returns : goal.returns
returns c =
    let i = c.self.inside in
    let ps = c.args.self.now.pieces in
    let h = held_is i.colours i.olds i.news i.room c.args.self.now c.self.invariant c.self.view_is in
    c.rank.ensures ∙ ranked 1 kept_len counts_kept i.colours.colours ps c.args.position h.stored.colours_are
