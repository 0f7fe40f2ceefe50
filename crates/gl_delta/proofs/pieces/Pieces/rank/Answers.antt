use Rattle.std.proofs.Common.{◌∙◌, ap, take}
use Rattle.gl_fourcolour.specs.Colours.{count_among}
use Rattle.gl_delta.specs.Marks.{side_len}
use Rattle.gl_delta.proofs.Stores.{held_is}
use Rattle.gl_delta.proofs.Ranks.{ranked_by}
use Rattle.gl_delta.proofs.pieces.Pieces.rank.Goals as goal

pub returns : goal.returns
returns c =
    let i = c.self.inside in
    let ps = c.args.self.now.pieces in
    let h = held_is i.colours i.olds i.news i.room c.args.self.now c.self.invariant c.self.view_is in
    ranked_by c.args.side i.colours.colours ps c.args.position c.rank.result c.mask.result h.stored.colours_are c.mask.ensures c.rank.ensures
