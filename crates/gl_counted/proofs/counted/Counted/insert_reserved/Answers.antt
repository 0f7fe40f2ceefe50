use Rattle.std.proofs.Common.{length, insert, Contains, sym, ap, subst, ◌∙◌, arith}
use Rattle.gl_counted.specs.Counted.{Counted, handles}
use Rattle.gl_counted.proofs.Held.{length-held, handles-held, fresh_vacant, inserted}
use Rattle.gl_counted.proofs.counted.Counted.insert_reserved.Goals as goal

pub insert_reserved-slot-requires-clause-in_range : goal.insert_reserved-slot-requires-clause-in_range
insert_reserved-slot-requires-clause-in_range g c =
    let h = c.self.invariant in
    let tree = c.self.inside.tree in
    let items = c.self.inside.items.items in
    let shown = ap (λ (x : Counted g.row.T.Denot). x.entries) (sym c.self.view_is) in
    let len_is = ap length shown ∙ length-held tree.entries items h.filled in
    omega (arith, c.requires.in_range, len_is)

pub insert_reserved-slot-requires-clause-few : goal.insert_reserved-slot-requires-clause-few
insert_reserved-slot-requires-clause-few g c =
    let h = c.self.invariant in
    let tree = c.self.inside.tree in
    let items = c.self.inside.items.items in
    let shown = ap (λ (x : Counted g.row.T.Denot). x.entries) (sym c.self.view_is) in
    let len_is = ap length shown ∙ length-held tree.entries items h.filled in
    omega (arith, c.requires.few, len_is)

pub insert_reserved-slot-requires-clause-spare : goal.insert_reserved-slot-requires-clause-spare
insert_reserved-slot-requires-clause-spare g c =
    let h = c.self.invariant in
    let tree = c.self.inside.tree in
    let items = c.self.inside.items.items in
    let shown = ap (λ (x : Counted g.row.T.Denot). x.entries) (sym c.self.view_is) in
    let len_is = ap length shown ∙ length-held tree.entries items h.filled in
    let room_is = ap (λ (x : Counted g.row.T.Denot). x.room) c.self.view_is in
    omega (arith, c.requires.has_spare, len_is, room_is)

pub store-requires-clause-next : goal.store-requires-clause-next
store-requires-clause-next g c =
    let h = c.self.invariant in
    let tree = c.self.inside.tree in
    let items = c.self.inside.items.items in
    let shown = ap (λ (x : Counted g.row.T.Denot). x.entries) (sym c.self.view_is) in
    omega (arith, c.insert_reserved-slot.ensures.next, h.slots, c.self.inside.items.ok.0)

pub store-requires-clause-room : goal.store-requires-clause-room
store-requires-clause-room g c =
    let h = c.self.invariant in
    let tree = c.self.inside.tree in
    let items = c.self.inside.items.items in
    let shown = ap (λ (x : Counted g.row.T.Denot). x.entries) (sym c.self.view_is) in
    let len_is = ap length shown ∙ length-held tree.entries items h.filled in
    let room_is = ap (λ (x : Counted g.row.T.Denot). x.room) c.self.view_is in
    λ last. omega (arith, c.insert_reserved-slot.ensures.new_if_full (omega (arith, last, h.slots, c.self.inside.items.ok.0)), c.requires.has_spare, len_is, room_is, h.slots, c.self.inside.items.ok.0)

pub store-requires-clause-vacant : goal.store-requires-clause-vacant
store-requires-clause-vacant g c = fresh_vacant c.self.inside.tree c.self.inside.items.items c.insert_reserved-slot.result c.self.invariant c.insert_reserved-slot.ensures.fresh

pub invariant_of-self : goal.invariant_of-self
invariant_of-self g c =
    let h = c.self.invariant in
    let tree = c.self.inside.tree in
    let items = c.self.inside.items.items in
    let shown = ap (λ (x : Counted g.row.T.Denot). x.entries) (sym c.self.view_is) in
    let ins = inserted tree c.insert_reserved-slot.new.self items c.store.new.items.items c.args.position c.insert_reserved-slot.result c.args.item h c.insert_reserved-slot.ensures.fresh c.insert_reserved-slot.ensures.entries c.insert_reserved-slot.ensures.slots c.store.ensures.stores in
    ins.keeps

pub returns-clause-entries : goal.returns-clause-entries
returns-clause-entries g c =
    let h = c.self.invariant in
    let tree = c.self.inside.tree in
    let items = c.self.inside.items.items in
    let shown = ap (λ (x : Counted g.row.T.Denot). x.entries) (sym c.self.view_is) in
    let ins = inserted tree c.insert_reserved-slot.new.self items c.store.new.items.items c.args.position c.insert_reserved-slot.result c.args.item h c.insert_reserved-slot.ensures.fresh c.insert_reserved-slot.ensures.entries c.insert_reserved-slot.ensures.slots c.store.ensures.stores in
    rw c.new.ensures (ins.entries ∙ ap (λ xs. insert xs c.args.position (c.insert_reserved-slot.result, c.args.item)) (sym shown))

pub returns-clause-fresh : goal.returns-clause-fresh
returns-clause-fresh g c =
    λ found.
    let h = c.self.invariant in
    let tree = c.self.inside.tree in
    let items = c.self.inside.items.items in
    let shown = ap (λ (x : Counted g.row.T.Denot). x.entries) (sym c.self.view_is) in
    let names = ap handles shown ∙ handles-held tree.entries items h.filled in
    c.insert_reserved-slot.ensures.fresh (rw c.new.ensures at (subst (λ xs. Contains xs c.new.result) names found))

pub returns-clause-room : goal.returns-clause-room
returns-clause-room g c =
    let h = c.self.invariant in
    let tree = c.self.inside.tree in
    let items = c.self.inside.items.items in
    let shown = ap (λ (x : Counted g.row.T.Denot). x.entries) (sym c.self.view_is) in
    let room_is = ap (λ (x : Counted g.row.T.Denot). x.room) c.self.view_is in
    rw (c.insert_reserved-slot.ensures.room, c.store.ensures.capacity) room_is
