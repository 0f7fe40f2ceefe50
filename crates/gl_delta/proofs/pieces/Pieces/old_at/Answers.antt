use Rattle.std.proofs.Common.{◌∙◌, sym}
use Rattle.gl_delta.proofs.Stores.{held_is}
use Rattle.gl_delta.proofs.OldElements.{old_there, old_kept_there, item_is}
use Rattle.gl_delta.proofs.pieces.Pieces.old_at.Goals as goal

pub returns-then-colour-eq-KEPT : goal.returns-then-colour-eq-KEPT
returns-then-colour-eq-KEPT c =
    let i = c.self.inside in
    let ps = c.args.self.now.pieces in
    let h = held_is i.colours i.olds i.news i.room c.args.self.now c.self.invariant c.self.view_is in
    old_kept_there i.colours i.olds i.news i.room ps c.args.position c.select-found.result c.rank.result c.mask.result h.stored c.select-found.ensures c.requires.within (sym c.colour.ensures ∙ c.if-colour-eq-KEPT.true) c.mask.ensures c.rank.ensures

pub at-requires : goal.at-requires
at-requires c =
    let i = c.self.inside in
    let ps = c.args.self.now.pieces in
    let h = held_is i.colours i.olds i.news i.room c.args.self.now c.self.invariant c.self.view_is in
    let o = old_there i.colours i.olds i.news i.room ps c.args.position c.select-found.result c.rank-2.result h.stored c.select-found.ensures c.requires.within (λ e. c.if-colour-eq-KEPT.false (c.colour.ensures ∙ e)) c.rank-2.ensures in
    o.within

pub returns : goal.returns
returns c =
    let i = c.self.inside in
    let ps = c.args.self.now.pieces in
    let h = held_is i.colours i.olds i.news i.room c.args.self.now c.self.invariant c.self.view_is in
    let o = old_there i.colours i.olds i.news i.room ps c.args.position c.select-found.result c.rank-2.result h.stored c.select-found.ensures c.requires.within (λ e. c.if-colour-eq-KEPT.false (c.colour.ensures ∙ e)) c.rank-2.ensures in
    item_is i.olds.values ps c.args.position c.rank-2.result c.at.result.now o c.at.ensures
