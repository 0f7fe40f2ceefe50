use Rattle.std.proofs.Common.{Contains, remove, sym, ap, subst, ◌∙◌, arith}
use Rattle.std.specs.List.{slice_get}
use Rattle.std.proofs.lemmas.Option.{slice_get_within}
use Rattle.gl_counted.specs.Counted.{Counted, handles}
use Rattle.gl_ranktree.specs.Ranked.{slots_of}
use Rattle.gl_counted.proofs.Held.{handles-held, live_filled, slot_within, get-held, removed, length-slots}
use Rattle.gl_counted.proofs.counted.Counted.take.Goals as goal

pub place-position-requires : goal.place-position-requires
place-position-requires g c =
    let h = c.self.invariant in
    let tree = c.self.inside.tree in
    let items = c.self.inside.items.items in
    let shown = ap (λ (x : Counted g.row.T.Denot). x.entries) (sym c.self.view_is) in
    let names = ap handles shown ∙ handles-held tree.entries items h.filled in
    rw c.slot-slot.ensures (subst (λ xs. Contains xs c.args.handle) names c.requires)

pub remove_at-requires : goal.remove_at-requires
remove_at-requires g c =
    let es = c.self.inside.tree.entries in
    omega (arith, slice_get_within (slots_of es) _ _ c.place-position.ensures.at, length-slots es)

pub take-requires : goal.take-requires
take-requires g c =
    let h = c.self.invariant in
    let tree = c.self.inside.tree in
    let items = c.self.inside.items.items in
    let shown = ap (λ (x : Counted g.row.T.Denot). x.entries) (sym c.self.view_is) in
    let names = ap handles shown ∙ handles-held tree.entries items h.filled in
    let live : Contains (slots_of tree.entries) c.slot-slot.result = rw c.slot-slot.ensures (subst (λ xs. Contains xs c.args.handle) names c.requires) in
    let some = live_filled tree items c.slot-slot.result h live in
    let within = slot_within items c.slot-slot.result some in
    some

pub invariant_of-self : goal.invariant_of-self
invariant_of-self g c =
    let h = c.self.invariant in
    let tree = c.self.inside.tree in
    let items = c.self.inside.items.items in
    let shown = ap (λ (x : Counted g.row.T.Denot). x.entries) (sym c.self.view_is) in
    let names = ap handles shown ∙ handles-held tree.entries items h.filled in
    let live : Contains (slots_of tree.entries) c.slot-slot.result = rw c.slot-slot.ensures (subst (λ xs. Contains xs c.args.handle) names c.requires) in
    let some = live_filled tree items c.slot-slot.result h live in
    let within = slot_within items c.slot-slot.result some in
    let rm = removed tree c.remove_at.new.self items c.take.new.items.items c.place-position.result c.slot-slot.result h c.place-position.ensures.at c.remove_at.ensures.entries c.remove_at.ensures.slots within c.take.ensures.stores in
    rm.keeps

pub returns-clause-taken : goal.returns-clause-taken
returns-clause-taken g c =
    let h = c.self.invariant in
    let tree = c.self.inside.tree in
    let items = c.self.inside.items.items in
    let shown = ap (λ (x : Counted g.row.T.Denot). x.entries) (sym c.self.view_is) in
    let names = ap handles shown ∙ handles-held tree.entries items h.filled in
    let live : Contains (slots_of tree.entries) c.slot-slot.result = rw c.slot-slot.ensures (subst (λ xs. Contains xs c.args.handle) names c.requires) in
    let some = live_filled tree items c.slot-slot.result h live in
    let within = slot_within items c.slot-slot.result some in
    let rm = removed tree c.remove_at.new.self items c.take.new.items.items c.place-position.result c.slot-slot.result h c.place-position.ensures.at c.remove_at.ensures.entries c.remove_at.ensures.slots within c.take.ensures.stores in
    let found = get-held tree.entries items c.place-position.result c.slot-slot.result c.take.result h.filled c.place-position.ensures.at c.take.ensures.value in (
      c.place-position.result,
      ap (λ xs. slice_get xs c.place-position.result) shown ∙ rw c.slot-slot.ensures at found,
      rm.entries ∙ ap (λ xs. remove xs c.place-position.result) (sym shown),
    )

pub returns-clause-room : goal.returns-clause-room
returns-clause-room g c =
    let h = c.self.invariant in
    let tree = c.self.inside.tree in
    let items = c.self.inside.items.items in
    let shown = ap (λ (x : Counted g.row.T.Denot). x.entries) (sym c.self.view_is) in
    let room_is = ap (λ (x : Counted g.row.T.Denot). x.room) c.self.view_is in
    rw (c.remove_at.ensures.room, c.take.ensures.capacity) room_is
