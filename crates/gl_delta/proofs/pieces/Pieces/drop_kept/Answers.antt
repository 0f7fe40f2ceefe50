use Rattle.std.specs.List.{remove}
use Rattle.gl_delta.proofs.Stores.{held_is, stored_is, stored_again}
use Rattle.gl_delta.proofs.Puts.{kept_cut}
use Rattle.gl_delta.proofs.pieces.Pieces.drop_kept.Goals as goal

pub invariant_of-self : goal.invariant_of-self
invariant_of-self c =
    let i = c.self.inside in
    let ps = c.args.self.now.pieces in
    let h = held_is i.colours i.olds i.news i.room c.args.self.now c.self.invariant c.self.view_is in
    let s = kept_cut i.colours c.remove.new.self i.olds i.news i.room ps c.args.position h.stored c.requires c.remove.ensures.colours c.remove.ensures.room in
    stored_again c.remove.new.self i.olds i.news i.room (remove ps c.args.position) s

pub returns-clause-rest : goal.returns-clause-rest
returns-clause-rest c =
    let i = c.self.inside in
    let ps = c.args.self.now.pieces in
    let h = held_is i.colours i.olds i.news i.room c.args.self.now c.self.invariant c.self.view_is in
    let s = kept_cut i.colours c.remove.new.self i.olds i.news i.room ps c.args.position h.stored c.requires c.remove.ensures.colours c.remove.ensures.room in
    stored_is c.remove.new.self i.olds i.news i.room (remove ps c.args.position) s
