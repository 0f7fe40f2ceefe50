use Rattle.std.proofs.Common.{◌∙◌, arith}
use Rattle.spec_lists.specs.Changes.{changed_len}
use Rattle.gl_delta.proofs.Stores.{held_is, colours_len}
use Rattle.gl_delta.proofs.Ranks.{counted, counts_changed, ranked, none_left}
use Rattle.gl_delta.proofs.CellRuns.{changed_at, next_found, next_none}
use Rattle.gl_delta.proofs.pieces.Pieces.next_changed.Goals as goal

pub returns-in-Some : goal.returns-in-Some
returns-in-Some c =
    let i = c.self.inside in
    let ps = c.args.self.now.pieces in
    let h = held_is i.colours i.olds i.news i.room c.args.self.now c.self.invariant c.self.view_is in
    let before = c.rank-before.ensures ∙ ranked 14 changed_len counts_changed i.colours.colours ps c.args.from h.stored.colours_are in
    next_found ps c.args.from c.in-Some.found c.rank-before.result (changed_at c.rank-before.result i.colours.colours ps c.in-Some.found h.stored.colours_are c.in-Some.ensures.position) before

pub returns-in-None : goal.returns-in-None
returns-in-None c =
    let i = c.self.inside in
    let ps = c.args.self.now.pieces in
    let h = held_is i.colours i.olds i.news i.room c.args.self.now c.self.invariant c.self.view_is in
    let before = c.rank-before.ensures ∙ ranked 14 changed_len counts_changed i.colours.colours ps c.args.from h.stored.colours_are in
    next_none ps c.args.from c.len.result c.requires (c.len.ensures.value ∙ colours_len i.colours.colours ps h.stored.colours_are) (omega (arith, none_left _ _ c.in-None.ensures.some, before, counted 14 changed_len counts_changed i.colours.colours ps h.stored.colours_are))
