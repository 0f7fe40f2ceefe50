use Rattle.std.proofs.Common.{◌≡◌, ◌∙◌, ◌++◌, ◌∷◌, ℕ, List, [], length, ap, sym, subst, arith}
use Rattle.std.specs.Prelude.{Err}
use Rattle.gl_outside.specs.declared.gate.Actor.{Actor}
use Rattle.gl_outside.specs.declared.gate.Actor.TheVariants.{Proxy}
use Rattle.gl_world.specs.Entry.{IsEntry}
use Rattle.gl_world.specs.History.{History, with_entry}
use Rattle.gl_world.specs.Idle.{IdleAt}
use Rattle.gl_world.specs.Pumped.{queue_after}
use Rattle.gl_world.proofs.Entries.{Inside, IsNth, entered, world_more, world_back, pump_proxy, pump_short, pump_fits, pump_entry, pump_counts, some_pumped, queue_is}
use Rattle.gl_world.proofs.world.World.pump.Goals as goal

pub take_pump-requires-clause-proxy : goal.take_pump-requires-clause-proxy
take_pump-requires-clause-proxy g c =
    let w = c.self.inside in
    let i : Inside = record { plan = w.plan; order = w.log.order.items; graph = w.graph; replies = w.log.replies.items; teller = w.teller; taken = w.taken.items } in
    let n = c.args.proxy in
    let list = c.list_of-list.result in
    let nth : IsNth i n list = c.list_of-list.ensures in
    pump_proxy i n list c.self.invariant nth

pub take_pump-requires-clause-short : goal.take_pump-requires-clause-short
take_pump-requires-clause-short g c =
    let w = c.self.inside in
    let i : Inside = record { plan = w.plan; order = w.log.order.items; graph = w.graph; replies = w.log.replies.items; teller = w.teller; taken = w.taken.items } in
    let n = c.args.proxy in
    let list = c.list_of-list.result in
    let nth : IsNth i n list = c.list_of-list.ensures in
    pump_short i n list c.self.invariant nth

pub enter-requires-clause-entry : goal.enter-requires-clause-entry
enter-requires-clause-entry g c =
    let w = c.self.inside in
    let i : Inside = record { plan = w.plan; order = w.log.order.items; graph = w.graph; replies = w.log.replies.items; teller = w.teller; taken = w.taken.items } in
    let n = c.args.proxy in
    let list = c.list_of-list.result in
    let nth : IsNth i n list = c.list_of-list.ensures in
    let t = c.in-Ok.ensures in
    let P : List Actor → Type 0 = λ order. IsEntry w.plan order (Proxy n) c.take_pump.new.graph c.in-Ok.taken in
    subst P (sym c.reserve-2.ensures.order) (pump_entry i n list c.take_pump.new.graph c.in-Ok.taken c.self.invariant nth t.state t.replies t.told t.back)

pub enter-requires-clause-listeners : goal.enter-requires-clause-listeners
enter-requires-clause-listeners g c = c.reserve.ensures.plan ∙ c.self.invariant.listeners

pub invariant_of-self-in_err-place-in-Ok : goal.invariant_of-self-in_err-place-in-Ok
invariant_of-self-in_err-place-in-Ok g c =
    let w = c.self.inside in
    let i : Inside = record { plan = w.plan; order = w.log.order.items; graph = w.graph; replies = w.log.replies.items; teller = w.teller; taken = w.taken.items } in
    let e = c.in_err-place-in-Ok.ensures in
    world_back i c.enter.new.graph c.enter.new.log.order.items c.enter.new.log.replies.items c.enter.new.teller c.self.invariant
    (e.back w.graph c.in-Ok.ensures.back) (e.order_stays ∙ c.reserve-2.ensures.order)
    (e.replies_stay ∙ c.reserve-2.ensures.replies) (c.enter.ensures.listeners ∙ c.reserve.ensures.plan)
    (e.told_stays ∙ c.reserve.ensures.told)

pub invariant_of-self-in-Ok : goal.invariant_of-self-in-Ok
invariant_of-self-in-Ok g c =
    let w = c.self.inside in
    let i : Inside = record { plan = w.plan; order = w.log.order.items; graph = w.graph; replies = w.log.replies.items; teller = w.teller; taken = w.taken.items } in
    let n = c.args.proxy in
    let list = c.list_of-list.result in
    let nth : IsNth i n list = c.list_of-list.ensures in
    let e = c.in_ok-place-in-Ok.ensures in
    let t = c.in-Ok.ensures in
    let some : ¬ (queue_after w.plan w.log.order.items n ≡ []) = λ none.
    some_pumped c.in-Ok.taken (sym c.in-Ok.is ∙ c.take_pump.ensures.nothing.1 (queue_is i n list c.self.invariant nth ∙ none)) in
    world_more i (Proxy n) c.enter.new.graph c.enter.new.log.order.items c.enter.new.log.replies.items
    c.enter.new.teller w.taken.items c.self.invariant
    (entered i (Proxy n) c.take_pump.new.graph c.enter.new.graph c.in-Ok.taken c.reserve-2.new.self.order.items
    c.enter.new.log.order.items c.reserve-2.new.self.replies.items c.enter.new.log.replies.items c.reserve.new.self c.enter.new.teller
    (pump_entry i n list c.take_pump.new.graph c.in-Ok.taken c.self.invariant nth t.state t.replies t.told t.back)
    (pump_fits i n list nth some) c.reserve-2.ensures.order c.reserve-2.ensures.replies c.reserve.ensures.plan
    c.reserve.ensures.told t.limit e.order e.replies e.limit e.state c.enter.ensures.listeners e.told)
    c.self.invariant.writers (pump_counts i n c.self.invariant)

pub invariant_of-self-in-Err-Nothing : goal.invariant_of-self-in-Err-Nothing
invariant_of-self-in-Err-Nothing g c =
    let w = c.self.inside in
    let i : Inside = record { plan = w.plan; order = w.log.order.items; graph = w.graph; replies = w.log.replies.items; teller = w.teller; taken = w.taken.items } in
    world_back i c.take_pump.new.graph c.reserve-2.new.self.order.items c.reserve-2.new.self.replies.items c.reserve.new.self
    c.self.invariant c.in-Err-Nothing.ensures.err c.reserve-2.ensures.order c.reserve-2.ensures.replies c.reserve.ensures.plan
    c.reserve.ensures.told

pub invariant_of-self-in-Err-Memory : goal.invariant_of-self-in-Err-Memory
invariant_of-self-in-Err-Memory g c =
    let w = c.self.inside in
    let i : Inside = record { plan = w.plan; order = w.log.order.items; graph = w.graph; replies = w.log.replies.items; teller = w.teller; taken = w.taken.items } in
    world_back i c.take_pump.new.graph c.reserve-2.new.self.order.items c.reserve-2.new.self.replies.items c.reserve.new.self
    c.self.invariant c.in-Err-Memory.ensures.err c.reserve-2.ensures.order c.reserve-2.ensures.replies c.reserve.ensures.plan
    c.reserve.ensures.told

pub returns-in_ok-place-in-Ok-clause-taken : goal.returns-in_ok-place-in-Ok-clause-taken
returns-in_ok-place-in-Ok-clause-taken g c =
    let w = c.self.inside in
    let i : Inside = record { plan = w.plan; order = w.log.order.items; graph = w.graph; replies = w.log.replies.items; teller = w.teller; taken = w.taken.items } in
    let n = c.args.proxy in
    let list = c.list_of-list.result in
    let nth : IsNth i n list = c.list_of-list.ensures in
    let e = c.in_ok-place-in-Ok.ensures in
    let some : ¬ (queue_after w.plan w.log.order.items n ≡ []) = λ none.
    some_pumped c.in-Ok.taken (sym c.in-Ok.is ∙ c.take_pump.ensures.nothing.1 (queue_is i n list c.self.invariant nth ∙ none)) in
    let new : List Actor = c.enter.new.log.order.items in
    let P : History → Type 0 = λ h. ¬ (queue_after h.plan h.order n ≡ []) × (c.in_ok-place-in-Ok.place ≡ length h.order)
    × (record { plan = w.plan; order = new } ≡ with_entry h (Proxy n)) in
    let at : List Actor → History = λ o. record { plan = w.plan; order = o } in
    subst P c.self.view_is (
      some,
      e.place ∙ ap length c.reserve-2.ensures.order,
      ap at (e.order ∙ ap (λ o. o ++ Proxy n ∷ []) c.reserve-2.ensures.order),
    )

pub returns-in-Err-Nothing-clause-taken : goal.returns-in-Err-Nothing-clause-taken
returns-in-Err-Nothing-clause-taken g c =
    let w = c.self.inside in
    let i : Inside = record { plan = w.plan; order = w.log.order.items; graph = w.graph; replies = w.log.replies.items; teller = w.teller; taken = w.taken.items } in
    let n = c.args.proxy in
    let list = c.list_of-list.result in
    let nth : IsNth i n list = c.list_of-list.ensures in
    let none : queue_after w.plan w.log.order.items n ≡ [] =
    sym (queue_is i n list c.self.invariant nth)
    ∙ c.take_pump.ensures.nothing.0 (c.in-Err-Nothing.is ∙ ap Err c.in-Err-Nothing.field-0-is) in
    let entries : c.len.result ≡ length w.log.order.items =
    omega (arith, c.len.ensures, c.reserve-2.new.self.order.ok.0, ap length c.reserve-2.ensures.order) in
    let idle : ℕ → IdleAt = λ m. record { proxy = n; entries = m } in
    let at : List Actor → History = λ o. record { plan = w.plan; order = o } in
    let P : History → Type 0 = λ h. (queue_after h.plan h.order n ≡ []) × (idle c.len.result ≡ idle (length h.order))
    × (at c.reserve-2.new.self.order.items ≡ h) in
    subst P c.self.view_is (none, ap idle entries, ap at c.reserve-2.ensures.order)
