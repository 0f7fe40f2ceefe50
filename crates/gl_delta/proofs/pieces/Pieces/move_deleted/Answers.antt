use Rattle.std.proofs.Common.{◌∙◌, ◌-◌, refl, arith}
use Rattle.gl_delta.specs.Pieces.{brought_forward}
use Rattle.gl_delta.proofs.Stores.{held_is, stored_is, stored_again, colours_len}
use Rattle.gl_delta.proofs.Moves.{later_within, can_move, moved_stored}
use Rattle.gl_delta.proofs.pieces.Pieces.move_deleted.Goals as goal

pub overflow_sub-deleted : goal.overflow_sub-deleted
overflow_sub-deleted c = (later_within c.args.self.now.pieces c.args.to c.args.from c.args.end c.requires.later).0

pub remove-requires : goal.remove-requires
remove-requires c =
    let i = c.self.inside in
    let ps = c.args.self.now.pieces in
    let h = held_is i.colours i.olds i.news i.room c.args.self.now c.self.invariant c.self.view_is in
    let w = later_within ps c.args.to c.args.from c.args.end c.requires.later in
    omega (arith, w.0, w.1, colours_len i.colours.colours ps h.stored.colours_are)

pub insert_reserved-requires : goal.insert_reserved-requires
insert_reserved-requires c =
    let i = c.self.inside in
    let ps = c.args.self.now.pieces in
    let h = held_is i.colours i.olds i.news i.room c.args.self.now c.self.invariant c.self.view_is in
    let m = can_move i.colours c.remove.new.self i.olds i.news i.room ps c.args.to c.args.from c.args.end (c.args.end - c.args.from) h.stored c.requires.later c.requires.some c.requires.few refl c.remove.ensures.colours c.remove.ensures.room in
    (omega arith, (m.in_range, (omega arith, (m.small, m.has_room))))

pub invariant_of-self : goal.invariant_of-self
invariant_of-self c =
    let i = c.self.inside in
    let ps = c.args.self.now.pieces in
    let b = c.requires.later in
    let h = held_is i.colours i.olds i.news i.room c.args.self.now c.self.invariant c.self.view_is in
    let s = moved_stored i.colours c.remove.new.self c.insert_reserved.new.self i.olds i.news i.room ps c.args.to c.args.from c.args.end (c.args.end - c.args.from) h.stored b refl c.remove.ensures.colours c.remove.ensures.room c.insert_reserved.ensures.colours c.insert_reserved.ensures.room in
    stored_again c.insert_reserved.new.self i.olds i.news i.room (brought_forward b) s

pub returns-clause-pieces : goal.returns-clause-pieces
returns-clause-pieces c = λ b.
    let i = c.self.inside in
    let ps = c.args.self.now.pieces in
    let h = held_is i.colours i.olds i.news i.room c.args.self.now c.self.invariant c.self.view_is in
    let s = moved_stored i.colours c.remove.new.self c.insert_reserved.new.self i.olds i.news i.room ps c.args.to c.args.from c.args.end (c.args.end - c.args.from) h.stored b refl c.remove.ensures.colours c.remove.ensures.room c.insert_reserved.ensures.colours c.insert_reserved.ensures.room in
    stored_is c.insert_reserved.new.self i.olds i.news i.room (brought_forward b) s
