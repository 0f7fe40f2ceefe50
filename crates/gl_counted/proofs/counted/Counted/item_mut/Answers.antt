use Rattle.std.proofs.Common.{◌≡◌, None, IsSome, Contains, min, refl, sym, ap, subst, ◌∙◌, arith}
use Rattle.std.proofs.lemmas.List.{get_or_read}
use Rattle.gl_ranktree.specs.Ranked.{slots_of}
use Rattle.gl_counted.specs.Counted.{Counted, handles, with_item}
use Rattle.gl_counted.specs.Held.{item_at, held}
use Rattle.gl_counted.specs.Lends.{with_item_under}
use Rattle.gl_counted.proofs.Held.{handles-held, live_filled, slot_within, item_found, held-set, IsHeld-set}
use Rattle.gl_counted.proofs.counted.Counted.item_mut.Goals as goal

pub index_mut-requires : goal.index_mut-requires
index_mut-requires g c =
    let h = c.self.invariant in
    let tree = c.self.inside.tree in
    let items = c.self.inside.items.items in
    let slot = c.slot-index.result in
    let shown = ap (λ (x : Counted g.row.T.Denot). x.entries) (sym c.self.view_is) in
    let names = ap handles shown ∙ handles-held tree.entries items h.filled in
    let lives : Contains (slots_of tree.entries) c.args.handle = subst (λ xs. Contains xs c.args.handle) names c.requires in
    let live : Contains (slots_of tree.entries) slot = rw c.slot-index.ensures lives in
    let some = live_filled tree items slot h live in
    let within = slot_within items slot some in
    omega (arith, within, c.self.inside.items.ok.0)

pub item_mut-requires : goal.item_mut-requires
item_mut-requires g c =
    let h = c.self.invariant in
    let tree = c.self.inside.tree in
    let items = c.self.inside.items.items in
    let slot = c.slot-index.result in
    let shown = ap (λ (x : Counted g.row.T.Denot). x.entries) (sym c.self.view_is) in
    let names = ap handles shown ∙ handles-held tree.entries items h.filled in
    let lives : Contains (slots_of tree.entries) c.args.handle = subst (λ xs. Contains xs c.args.handle) names c.requires in
    let live : Contains (slots_of tree.entries) slot = rw c.slot-index.ensures lives in
    let some = live_filled tree items slot h live in
    let within = slot_within items slot some in
    let at : item_at items slot ≡ c.index_mut.result.now = sym (get_or_read items slot c.index_mut.result.now within c.index_mut.ensures.value None) in
    subst IsSome at some

pub invariant_of-self-lent : goal.invariant_of-self-lent
invariant_of-self-lent g c w =
    let h = c.self.invariant in
    let tree = c.self.inside.tree in
    let items = c.self.inside.items.items in
    let slot = c.slot-index.result in
    let shown = ap (λ (x : Counted g.row.T.Denot). x.entries) (sym c.self.view_is) in
    let names = ap handles shown ∙ handles-held tree.entries items h.filled in
    let lives : Contains (slots_of tree.entries) c.args.handle = subst (λ xs. Contains xs c.args.handle) names c.requires in
    let live : Contains (slots_of tree.entries) slot = rw c.slot-index.ensures lives in
    let some = live_filled tree items slot h live in
    let within = slot_within items slot some in
    IsHeld-set tree items slot w h live

pub returns : goal.returns
returns g c =
    let h = c.self.invariant in
    let tree = c.self.inside.tree in
    let items = c.self.inside.items.items in
    let slot = c.slot-index.result in
    let shown = ap (λ (x : Counted g.row.T.Denot). x.entries) (sym c.self.view_is) in
    let names = ap handles shown ∙ handles-held tree.entries items h.filled in
    let lives : Contains (slots_of tree.entries) c.args.handle = subst (λ xs. Contains xs c.args.handle) names c.requires in
    let live : Contains (slots_of tree.entries) slot = rw c.slot-index.ensures lives in
    let some = live_filled tree items slot h live in
    let within = slot_within items slot some in
    let at : item_at items slot ≡ c.index_mut.result.now = sym (get_or_read items slot c.index_mut.result.now within c.index_mut.ensures.value None) in
    let room = min tree.room c.self.inside.items.cap in
    let changed = λ (w : g.row.T.Denot). held-set tree.entries items slot w h.filled within ∙ ap (λ s. with_item (held tree.entries items) s w) c.slot-index.ensures in
    let found = item_found tree items c.args.self.now.entries c.args.handle slot c.item_mut.result.now h shown lives c.slot-index.ensures (at ∙ c.item_mut.ensures.value) in (
      (refl, λ w. ap (λ es. record { entries = es; room = room }) (changed w) ∙ ap (λ x. with_item_under x c.args.handle w) c.self.view_is),
      record { writes_back = tt; value = found },
    )
