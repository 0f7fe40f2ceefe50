use Rattle.std.proofs.Common.{◌≡◌, ◌∙◌, ◌+◌, ◌≤◌, length, ap, sym, subst, arith}
use Rattle.std.specs.List.{remove}
use Rattle.gl_delta.specs.Marks.{piece_of, kind_of}
use Rattle.gl_delta.specs.Store.{kind_by, told_count}
use Rattle.spec_lists.specs.Changes.{changed_len}
use Rattle.gl_delta.specs.declared.mark.Kind.{Kind}
use Rattle.gl_delta.specs.declared.mark.Side.TheVariants.{Old, New}
use Rattle.gl_delta.proofs.Stores.{held_is, stored_is, stored_again}
use Rattle.gl_delta.proofs.Puts.{there_is, there_changed, cut_stored}
use Rattle.gl_delta.proofs.pieces.Pieces.take.Goals as goal

pub take_values-requires-clause-changed : goal.take_values-requires-clause-changed
take_values-requires-clause-changed c =
    let i = c.self.inside in
    let ps = c.args.self.now.pieces in
    let h = held_is i.colours i.olds i.news i.room c.args.self.now c.self.invariant c.self.view_is in
    let t = there_is i.colours i.olds i.news i.room ps c.args.position c.rank-old.result c.rank-new.result h.stored c.requires.within c.rank-old.ensures c.rank-new.ensures in
    let kind_is : c.of_colour-kind.result ≡ kind_of t.piece = c.of_colour-kind.ensures ∙ (ap kind_by c.colour.ensures ∙ t.kind_is) in
    let changed = there_changed ps c.args.position t.piece t.got c.requires.changed in
    λ e. changed (sym kind_is ∙ e)

pub invariant_of-self : goal.invariant_of-self
invariant_of-self c =
    let i = c.self.inside in
    let ps = c.args.self.now.pieces in
    let h = held_is i.colours i.olds i.news i.room c.args.self.now c.self.invariant c.self.view_is in
    let t = there_is i.colours i.olds i.news i.room ps c.args.position c.rank-old.result c.rank-new.result h.stored c.requires.within c.rank-old.ensures c.rank-new.ensures in
    let kind_is : c.of_colour-kind.result ≡ kind_of t.piece = c.of_colour-kind.ensures ∙ (ap kind_by c.colour.ensures ∙ t.kind_is) in
    let changed = there_changed ps c.args.position t.piece t.got c.requires.changed in
    let s = cut_stored i.colours c.remove.new.self i.olds i.news c.take_values.new.olds c.take_values.new.news i.room ps c.args.position c.rank-old.result c.rank-new.result (piece_of c.take_values.result) h.stored t changed (c.take_values.ensures.kind ∙ kind_is) c.remove.ensures.colours c.remove.ensures.room (record { olds = c.take_values.ensures.olds; old_room = sym c.take_values.ensures.room_old; news = c.take_values.ensures.news; new_room = sym c.take_values.ensures.room_new }) in
    stored_again c.remove.new.self c.take_values.new.olds c.take_values.new.news i.room (remove ps c.args.position) s.stored

pub returns-clause-taken : goal.returns-clause-taken
returns-clause-taken c =
    let i = c.self.inside in
    let ps = c.args.self.now.pieces in
    let h = held_is i.colours i.olds i.news i.room c.args.self.now c.self.invariant c.self.view_is in
    let t = there_is i.colours i.olds i.news i.room ps c.args.position c.rank-old.result c.rank-new.result h.stored c.requires.within c.rank-old.ensures c.rank-new.ensures in
    let kind_is : c.of_colour-kind.result ≡ kind_of t.piece = c.of_colour-kind.ensures ∙ (ap kind_by c.colour.ensures ∙ t.kind_is) in
    let changed = there_changed ps c.args.position t.piece t.got c.requires.changed in
    let s = cut_stored i.colours c.remove.new.self i.olds i.news c.take_values.new.olds c.take_values.new.news i.room ps c.args.position c.rank-old.result c.rank-new.result (piece_of c.take_values.result) h.stored t changed (c.take_values.ensures.kind ∙ kind_is) c.remove.ensures.colours c.remove.ensures.room (record { olds = c.take_values.ensures.olds; old_room = sym c.take_values.ensures.room_old; news = c.take_values.ensures.news; new_room = sym c.take_values.ensures.room_new }) in
    s.piece

pub returns-clause-rest : goal.returns-clause-rest
returns-clause-rest c =
    let i = c.self.inside in
    let ps = c.args.self.now.pieces in
    let h = held_is i.colours i.olds i.news i.room c.args.self.now c.self.invariant c.self.view_is in
    let t = there_is i.colours i.olds i.news i.room ps c.args.position c.rank-old.result c.rank-new.result h.stored c.requires.within c.rank-old.ensures c.rank-new.ensures in
    let kind_is : c.of_colour-kind.result ≡ kind_of t.piece = c.of_colour-kind.ensures ∙ (ap kind_by c.colour.ensures ∙ t.kind_is) in
    let changed = there_changed ps c.args.position t.piece t.got c.requires.changed in
    let s = cut_stored i.colours c.remove.new.self i.olds i.news c.take_values.new.olds c.take_values.new.news i.room ps c.args.position c.rank-old.result c.rank-new.result (piece_of c.take_values.result) h.stored t changed (c.take_values.ensures.kind ∙ kind_is) c.remove.ensures.colours c.remove.ensures.room (record { olds = c.take_values.ensures.olds; old_room = sym c.take_values.ensures.room_old; news = c.take_values.ensures.news; new_room = sym c.take_values.ensures.room_new }) in
    stored_is c.remove.new.self c.take_values.new.olds c.take_values.new.news i.room (remove ps c.args.position) s.stored

pub take_values-requires-clause-old : goal.take_values-requires-clause-old
take_values-requires-clause-old c =
    let i = c.self.inside in
    let ps = c.args.self.now.pieces in
    let h = held_is i.colours i.olds i.news i.room c.args.self.now c.self.invariant c.self.view_is in
    let t = there_is i.colours i.olds i.news i.room ps c.args.position c.rank-old.result c.rank-new.result h.stored c.requires.within c.rank-old.ensures c.rank-new.ensures in
    let kind_is : c.of_colour-kind.result ≡ kind_of t.piece = c.of_colour-kind.ensures ∙ (ap kind_by c.colour.ensures ∙ t.kind_is) in
    let changed = there_changed ps c.args.position t.piece t.got c.requires.changed in
    let K : Kind → Type 0 = λ k. c.rank-old.result + told_count Old k ≤ length i.olds.values in
    subst K (sym kind_is) t.old

pub take_values-requires-clause-new : goal.take_values-requires-clause-new
take_values-requires-clause-new c =
    let i = c.self.inside in
    let ps = c.args.self.now.pieces in
    let h = held_is i.colours i.olds i.news i.room c.args.self.now c.self.invariant c.self.view_is in
    let t = there_is i.colours i.olds i.news i.room ps c.args.position c.rank-old.result c.rank-new.result h.stored c.requires.within c.rank-old.ensures c.rank-new.ensures in
    let kind_is : c.of_colour-kind.result ≡ kind_of t.piece = c.of_colour-kind.ensures ∙ (ap kind_by c.colour.ensures ∙ t.kind_is) in
    let changed = there_changed ps c.args.position t.piece t.got c.requires.changed in
    let K : Kind → Type 0 = λ k. c.rank-new.result + told_count New k ≤ length i.news.values in
    subst K (sym kind_is) t.new

pub returns-clause-spare : goal.returns-clause-spare
returns-clause-spare c =
    let i = c.self.inside in
    let ps = c.args.self.now.pieces in
    let h = held_is i.colours i.olds i.news i.room c.args.self.now c.self.invariant c.self.view_is in
    let t = there_is i.colours i.olds i.news i.room ps c.args.position c.rank-old.result c.rank-new.result h.stored c.requires.within c.rank-old.ensures c.rank-new.ensures in
    let kind_is : c.of_colour-kind.result ≡ kind_of t.piece = c.of_colour-kind.ensures ∙ (ap kind_by c.colour.ensures ∙ t.kind_is) in
    let changed = there_changed ps c.args.position t.piece t.got c.requires.changed in
    let s = cut_stored i.colours c.remove.new.self i.olds i.news c.take_values.new.olds c.take_values.new.news i.room ps c.args.position c.rank-old.result c.rank-new.result (piece_of c.take_values.result) h.stored t changed (c.take_values.ensures.kind ∙ kind_is) c.remove.ensures.colours c.remove.ensures.room (record { olds = c.take_values.ensures.olds; old_room = sym c.take_values.ensures.room_old; news = c.take_values.ensures.news; new_room = sym c.take_values.ensures.room_new }) in
    omega (arith, ap changed_len (stored_is c.remove.new.self c.take_values.new.olds c.take_values.new.news i.room (remove ps c.args.position) s.stored), s.fewer)
