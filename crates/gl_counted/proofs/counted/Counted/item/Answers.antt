use Rattle.std.proofs.Common.{◌≡◌, Some, None, Contains, sym, ap, subst, ◌∙◌, arith}
use Rattle.std.proofs.lemmas.List.{get_or_read}
use Rattle.gl_counted.specs.Held.{item_at}
use Rattle.gl_counted.specs.Counted.{Counted, handles}
use Rattle.gl_ranktree.specs.Ranked.{slots_of}
use Rattle.gl_counted.proofs.Held.{handles-held, live_filled, slot_within, no_item, item_found}
use Rattle.gl_counted.proofs.counted.Counted.item.Goals as goal

pub index-requires : goal.index-requires
index-requires g c =
    let h = c.self.invariant in
    let tree = c.self.inside.tree in
    let items = c.self.inside.items.items in
    let shown = ap (λ (x : Counted g.row.T.Denot). x.entries) (sym c.self.view_is) in
    let names = ap handles shown ∙ handles-held tree.entries items h.filled in
    let live : Contains (slots_of tree.entries) c.slot.result = rw c.slot.ensures (subst (λ xs. Contains xs c.args.handle) names c.requires) in
    let some = live_filled tree items c.slot.result h live in
    let within = slot_within items c.slot.result some in
    omega (arith, within, c.self.inside.items.ok.0)

pub unreachable-requires : goal.unreachable-requires
unreachable-requires g c =
    let h = c.self.invariant in
    let tree = c.self.inside.tree in
    let items = c.self.inside.items.items in
    let shown = ap (λ (x : Counted g.row.T.Denot). x.entries) (sym c.self.view_is) in
    let names = ap handles shown ∙ handles-held tree.entries items h.filled in
    let live : Contains (slots_of tree.entries) c.slot.result = rw c.slot.ensures (subst (λ xs. Contains xs c.args.handle) names c.requires) in
    let some = live_filled tree items c.slot.result h live in
    let within = slot_within items c.slot.result some in
    let none : item_at items c.slot.result ≡ None = sym (get_or_read items c.slot.result c.index.result.now within c.index.ensures None) ∙ c.in-None.is in
    no_item (item_at items c.slot.result) some none

pub returns : goal.returns
returns g c =
    let h = c.self.invariant in
    let tree = c.self.inside.tree in
    let items = c.self.inside.items.items in
    let shown = ap (λ (x : Counted g.row.T.Denot). x.entries) (sym c.self.view_is) in
    let names = ap handles shown ∙ handles-held tree.entries items h.filled in
    let live : Contains (slots_of tree.entries) c.slot.result = rw c.slot.ensures (subst (λ xs. Contains xs c.args.handle) names c.requires) in
    let some = live_filled tree items c.slot.result h live in
    let within = slot_within items c.slot.result some in
    let at : item_at items c.slot.result ≡ Some c.in-Some.item = sym (get_or_read items c.slot.result c.index.result.now within c.index.ensures None) ∙ c.in-Some.is in
    item_found tree items c.args.self.now.entries c.args.handle c.slot.result c.in-Some.item h shown (subst (λ xs. Contains xs c.args.handle) names c.requires) c.slot.ensures at
