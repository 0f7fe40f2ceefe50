use Rattle.std.proofs.Common.{◌++◌}
use Rattle.std.proofs.lemmas.Result.{on_ok_weaker}
use Rattle.spec_lists.specs.Piece.{identity}
use Rattle.gl_delta.proofs.Stores.{held_is, stored_is}
use Rattle.gl_delta.proofs.Puts.{kept_stored, more_kept}
use Rattle.gl_delta.proofs.pieces.Pieces.keep.Goals as goal

pub invariant_of-self : goal.invariant_of-self
invariant_of-self c =
    let i = c.self.inside in
    let ps = c.args.self.now.pieces in
    let h = held_is i.colours i.olds i.news i.room c.args.self.now c.self.invariant c.self.view_is in
    kept_stored i.colours c.insert.new.self i.olds i.news i.room ps c.len-end.result c.args.n c.insert.result h.stored c.len-end.ensures.value c.insert.ensures.ok c.insert.ensures.err c.insert.ensures.room

pub returns-clause-ok : goal.returns-clause-ok
returns-clause-ok c =
    let i = c.self.inside in
    let ps = c.args.self.now.pieces in
    let h = held_is i.colours i.olds i.news i.room c.args.self.now c.self.invariant c.self.view_is in
    on_ok_weaker c.insert.result (λ e. stored_is c.insert.new.self i.olds i.news i.room (ps ++ identity c.args.n) (more_kept i.colours c.insert.new.self i.olds i.news i.room ps c.len-end.result c.args.n h.stored c.len-end.ensures.value e c.insert.ensures.room)) c.insert.ensures.ok
