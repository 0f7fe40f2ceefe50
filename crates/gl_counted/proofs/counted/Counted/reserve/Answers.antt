use Rattle.std.proofs.Common.{sym, ap, ◌∙◌, refl, arith}
use Rattle.std.proofs.lemmas.Result.{on_ok_weaker}
use Rattle.gl_counted.specs.Held.{held}
use Rattle.gl_counted.specs.Counted.{Counted}
use Rattle.gl_counted.proofs.Held.{length-held, held_same}
use Rattle.gl_counted.proofs.counted.Counted.reserve.Goals as goal

pub invariant_of-self : goal.invariant_of-self
invariant_of-self g c = held_same c.self.inside.tree c.reserve.new.self _ _ c.reserve.ensures.entries c.reserve.ensures.slots refl c.self.invariant

pub returns-in_err-reserve-clause-entries : goal.returns-in_err-reserve-clause-entries
returns-in_err-reserve-clause-entries g c =
    let h = c.self.invariant in
    let tree = c.self.inside.tree in
    let items = c.self.inside.items.items in
    let shown = ap (λ (x : Counted g.row.T.Denot). x.entries) (sym c.self.view_is) in
    ap (λ es. held es items) c.reserve.ensures.entries ∙ sym shown

pub returns-in_err-reserve-clause-room : goal.returns-in_err-reserve-clause-room
returns-in_err-reserve-clause-room g c =
    let h = c.self.invariant in
    let tree = c.self.inside.tree in
    let items = c.self.inside.items.items in
    let shown = ap (λ (x : Counted g.row.T.Denot). x.entries) (sym c.self.view_is) in
    let room_is = ap (λ (x : Counted g.row.T.Denot). x.room) c.self.view_is in
    omega (arith, room_is, c.reserve.ensures.room)

pub overflow_sub-capacity : goal.overflow_sub-capacity
overflow_sub-capacity g c =
    let h = c.self.invariant in
    let tree = c.self.inside.tree in
    let items = c.self.inside.items.items in
    let shown = ap (λ (x : Counted g.row.T.Denot). x.entries) (sym c.self.view_is) in
    omega (arith, c.len-len.ensures.in_slots, c.reserve.ensures.slots, h.slots, c.capacity.ensures, c.self.inside.items.ok.0, c.self.inside.items.ok.1)

pub invariant_of-self-then-capacity-len : goal.invariant_of-self-then-capacity-len
invariant_of-self-then-capacity-len g c = held_same c.self.inside.tree c.reserve.new.self _ _ c.reserve.ensures.entries c.reserve.ensures.slots refl c.self.invariant

pub returns-then-capacity-len-clause-ok : goal.returns-then-capacity-len-clause-ok
returns-then-capacity-len-clause-ok g c =
    let h = c.self.invariant in
    let tree = c.self.inside.tree in
    let items = c.self.inside.items.items in
    let shown = ap (λ (x : Counted g.row.T.Denot). x.entries) (sym c.self.view_is) in
    let now = held_same tree c.reserve.new.self items items c.reserve.ensures.entries c.reserve.ensures.slots refl h in
    omega (arith, length-held c.reserve.new.self.entries items now.filled, c.in_ok-reserve.ensures.spare, c.len-len.ensures.value, c.capacity.ensures, c.if-capacity-len.true)

pub returns-then-capacity-len-clause-entries : goal.returns-then-capacity-len-clause-entries
returns-then-capacity-len-clause-entries g c =
    let h = c.self.invariant in
    let tree = c.self.inside.tree in
    let items = c.self.inside.items.items in
    let shown = ap (λ (x : Counted g.row.T.Denot). x.entries) (sym c.self.view_is) in
    ap (λ es. held es items) c.reserve.ensures.entries ∙ sym shown

pub returns-then-capacity-len-clause-room : goal.returns-then-capacity-len-clause-room
returns-then-capacity-len-clause-room g c =
    let h = c.self.invariant in
    let tree = c.self.inside.tree in
    let items = c.self.inside.items.items in
    let shown = ap (λ (x : Counted g.row.T.Denot). x.entries) (sym c.self.view_is) in
    let room_is = ap (λ (x : Counted g.row.T.Denot). x.room) c.self.view_is in
    omega (arith, room_is, c.reserve.ensures.room)

pub overflow_sub-vacant : goal.overflow_sub-vacant
overflow_sub-vacant g c =
    let h = c.self.invariant in
    let tree = c.self.inside.tree in
    let items = c.self.inside.items.items in
    let shown = ap (λ (x : Counted g.row.T.Denot). x.entries) (sym c.self.view_is) in
    omega (arith, c.len-len.ensures.in_slots, c.reserve.ensures.slots, h.slots, c.len.ensures, c.self.inside.items.ok.0)

pub overflow_sub-n : goal.overflow_sub-n
overflow_sub-n g c =
    let h = c.self.invariant in
    let tree = c.self.inside.tree in
    let items = c.self.inside.items.items in
    let shown = ap (λ (x : Counted g.row.T.Denot). x.entries) (sym c.self.view_is) in
    omega (arith, c.if-capacity-len.false, c.capacity.ensures, c.len.ensures, c.self.inside.items.ok.1)

pub invariant_of-self-2 : goal.invariant_of-self-2
invariant_of-self-2 g c = held_same c.self.inside.tree c.reserve.new.self _ _ c.reserve.ensures.entries c.reserve.ensures.slots c.reserve-2.ensures.items c.self.invariant

pub returns-clause-ok : goal.returns-clause-ok
returns-clause-ok g c =
    let h = c.self.invariant in
    let tree = c.self.inside.tree in
    let items = c.self.inside.items.items in
    let shown = ap (λ (x : Counted g.row.T.Denot). x.entries) (sym c.self.view_is) in
    let now = held_same tree c.reserve.new.self items c.reserve-2.new.self.items c.reserve.ensures.entries c.reserve.ensures.slots c.reserve-2.ensures.items h in
    on_ok_weaker c.reserve-2.result
    (λ enough. omega (arith, enough, length-held c.reserve.new.self.entries c.reserve-2.new.self.items now.filled, c.in_ok-reserve.ensures.spare, c.len-len.ensures.value, c.len-len.ensures.in_slots, c.reserve.ensures.slots, h.slots, c.len.ensures, c.capacity.ensures, c.if-capacity-len.false, c.reserve-2.ensures.len, c.self.inside.items.ok.0, c.self.inside.items.ok.1))
    c.reserve-2.ensures.ok

pub returns-clause-entries : goal.returns-clause-entries
returns-clause-entries g c =
    let h = c.self.invariant in
    let tree = c.self.inside.tree in
    let items = c.self.inside.items.items in
    let shown = ap (λ (x : Counted g.row.T.Denot). x.entries) (sym c.self.view_is) in
    rw c.reserve-2.ensures.items (ap (λ es. held es items) c.reserve.ensures.entries ∙ sym shown)

pub returns-clause-room : goal.returns-clause-room
returns-clause-room g c =
    let h = c.self.invariant in
    let tree = c.self.inside.tree in
    let items = c.self.inside.items.items in
    let shown = ap (λ (x : Counted g.row.T.Denot). x.entries) (sym c.self.view_is) in
    let room_is = ap (λ (x : Counted g.row.T.Denot). x.room) c.self.view_is in
    omega (arith, room_is, c.reserve.ensures.room, c.reserve-2.ensures.capacity)
