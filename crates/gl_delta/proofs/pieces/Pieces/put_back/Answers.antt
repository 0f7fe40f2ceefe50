use Rattle.std.proofs.Common.{◌<◌, arith}
use Rattle.std.specs.List.{insert}
use Rattle.spec_lists.specs.Changes.{changed_len}
use Rattle.gl_delta.specs.Marks.{piece_of}
use Rattle.gl_delta.proofs.Stores.{held_is, stored_is, stored_again}
use Rattle.gl_delta.proofs.Puts.{can_put, put_stored}
use Rattle.gl_delta.proofs.pieces.Pieces.put_back.Goals as goal

pub insert_reserved-requires : goal.insert_reserved-requires
insert_reserved-requires c =
    let i = c.self.inside in
    let ps = c.args.self.now.pieces in
    let x = piece_of c.args.change in
    let h = held_is i.colours i.olds i.news i.room c.args.self.now c.self.invariant c.self.view_is in
    let spare : changed_len ps < i.room = omega (arith, c.requires.spare, h.room_is) in
    let p = can_put i.colours i.olds i.news i.room ps c.args.position c.rank-old.result c.rank-new.result c.colour.result x h.stored c.colour.ensures.value c.rank-old.ensures c.rank-new.ensures c.requires.within c.requires.few spare in
    (omega arith, (p.in_range, (c.colour.ensures.few, (p.small, p.has_room))))

pub put_values-requires-clause-old : goal.put_values-requires-clause-old
put_values-requires-clause-old c =
    let i = c.self.inside in
    let ps = c.args.self.now.pieces in
    let x = piece_of c.args.change in
    let h = held_is i.colours i.olds i.news i.room c.args.self.now c.self.invariant c.self.view_is in
    let spare : changed_len ps < i.room = omega (arith, c.requires.spare, h.room_is) in
    let p = can_put i.colours i.olds i.news i.room ps c.args.position c.rank-old.result c.rank-new.result c.colour.result x h.stored c.colour.ensures.value c.rank-old.ensures c.rank-new.ensures c.requires.within c.requires.few spare in
    p.old

pub put_values-requires-clause-new : goal.put_values-requires-clause-new
put_values-requires-clause-new c =
    let i = c.self.inside in
    let ps = c.args.self.now.pieces in
    let x = piece_of c.args.change in
    let h = held_is i.colours i.olds i.news i.room c.args.self.now c.self.invariant c.self.view_is in
    let spare : changed_len ps < i.room = omega (arith, c.requires.spare, h.room_is) in
    let p = can_put i.colours i.olds i.news i.room ps c.args.position c.rank-old.result c.rank-new.result c.colour.result x h.stored c.colour.ensures.value c.rank-old.ensures c.rank-new.ensures c.requires.within c.requires.few spare in
    p.new

pub put_values-requires-clause-few_old : goal.put_values-requires-clause-few_old
put_values-requires-clause-few_old c =
    let i = c.self.inside in
    let ps = c.args.self.now.pieces in
    let x = piece_of c.args.change in
    let h = held_is i.colours i.olds i.news i.room c.args.self.now c.self.invariant c.self.view_is in
    let spare : changed_len ps < i.room = omega (arith, c.requires.spare, h.room_is) in
    let p = can_put i.colours i.olds i.news i.room ps c.args.position c.rank-old.result c.rank-new.result c.colour.result x h.stored c.colour.ensures.value c.rank-old.ensures c.rank-new.ensures c.requires.within c.requires.few spare in
    p.few_old

pub put_values-requires-clause-few_new : goal.put_values-requires-clause-few_new
put_values-requires-clause-few_new c =
    let i = c.self.inside in
    let ps = c.args.self.now.pieces in
    let x = piece_of c.args.change in
    let h = held_is i.colours i.olds i.news i.room c.args.self.now c.self.invariant c.self.view_is in
    let spare : changed_len ps < i.room = omega (arith, c.requires.spare, h.room_is) in
    let p = can_put i.colours i.olds i.news i.room ps c.args.position c.rank-old.result c.rank-new.result c.colour.result x h.stored c.colour.ensures.value c.rank-old.ensures c.rank-new.ensures c.requires.within c.requires.few spare in
    p.few_new

pub put_values-requires-clause-spare_old : goal.put_values-requires-clause-spare_old
put_values-requires-clause-spare_old c =
    let i = c.self.inside in
    let ps = c.args.self.now.pieces in
    let x = piece_of c.args.change in
    let h = held_is i.colours i.olds i.news i.room c.args.self.now c.self.invariant c.self.view_is in
    let spare : changed_len ps < i.room = omega (arith, c.requires.spare, h.room_is) in
    let p = can_put i.colours i.olds i.news i.room ps c.args.position c.rank-old.result c.rank-new.result c.colour.result x h.stored c.colour.ensures.value c.rank-old.ensures c.rank-new.ensures c.requires.within c.requires.few spare in
    p.spare_old

pub put_values-requires-clause-spare_new : goal.put_values-requires-clause-spare_new
put_values-requires-clause-spare_new c =
    let i = c.self.inside in
    let ps = c.args.self.now.pieces in
    let x = piece_of c.args.change in
    let h = held_is i.colours i.olds i.news i.room c.args.self.now c.self.invariant c.self.view_is in
    let spare : changed_len ps < i.room = omega (arith, c.requires.spare, h.room_is) in
    let p = can_put i.colours i.olds i.news i.room ps c.args.position c.rank-old.result c.rank-new.result c.colour.result x h.stored c.colour.ensures.value c.rank-old.ensures c.rank-new.ensures c.requires.within c.requires.few spare in
    p.spare_new

pub invariant_of-self : goal.invariant_of-self
invariant_of-self c =
    let i = c.self.inside in
    let ps = c.args.self.now.pieces in
    let x = piece_of c.args.change in
    let h = held_is i.colours i.olds i.news i.room c.args.self.now c.self.invariant c.self.view_is in
    let spare : changed_len ps < i.room = omega (arith, c.requires.spare, h.room_is) in
    let s = put_stored i.colours c.insert_reserved.new.self i.olds i.news c.put_values.new.olds c.put_values.new.news i.room ps c.args.position c.rank-old.result c.rank-new.result c.colour.result x h.stored c.colour.ensures.value c.rank-old.ensures c.rank-new.ensures spare c.insert_reserved.ensures.colours c.insert_reserved.ensures.room (record { olds = c.put_values.ensures.olds; old_room = c.put_values.ensures.room_old; news = c.put_values.ensures.news; new_room = c.put_values.ensures.room_new }) in
    stored_again c.insert_reserved.new.self c.put_values.new.olds c.put_values.new.news i.room (insert ps c.args.position x) s

pub returns-clause-pieces : goal.returns-clause-pieces
returns-clause-pieces c =
    let i = c.self.inside in
    let ps = c.args.self.now.pieces in
    let x = piece_of c.args.change in
    let h = held_is i.colours i.olds i.news i.room c.args.self.now c.self.invariant c.self.view_is in
    let spare : changed_len ps < i.room = omega (arith, c.requires.spare, h.room_is) in
    let s = put_stored i.colours c.insert_reserved.new.self i.olds i.news c.put_values.new.olds c.put_values.new.news i.room ps c.args.position c.rank-old.result c.rank-new.result c.colour.result x h.stored c.colour.ensures.value c.rank-old.ensures c.rank-new.ensures spare c.insert_reserved.ensures.colours c.insert_reserved.ensures.room (record { olds = c.put_values.ensures.olds; old_room = c.put_values.ensures.room_old; news = c.put_values.ensures.news; new_room = c.put_values.ensures.room_new }) in
    stored_is c.insert_reserved.new.self c.put_values.new.olds c.put_values.new.news i.room (insert ps c.args.position x) s
