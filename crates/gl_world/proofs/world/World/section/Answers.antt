use Rattle.std.proofs.Common.{◌≡◌, ◌∙◌, ◌<◌, ◌+◌, List, length, slice_set, length-set, ap, sym, subst, arith}
use Rattle.std.specs.List.{AllByRecursion}
use Rattle.std.proofs.lemmas.List.{get_or_default}
use Rattle.gl_outside.specs.declared.gate.Actor.{Actor}
use Rattle.gl_outside.specs.declared.gate.Actor.TheVariants.{Writer}
use Rattle.spec_states.specs.Command.{Command}
use Rattle.spec_runs.specs.Kinds.{IsFor}
use Rattle.spec_runs.specs.Entry.{taken_by}
use Rattle.gl_graph.specs.Graph.{state_of}
use Rattle.gl_world.specs.Entry.{IsEntry}
use Rattle.gl_world.proofs.Entries.{Inside, IsNext, entered, world_more, world_back, world_lists, world_sound, world_suits, section_fits, section_entry, section_counts}
use Rattle.gl_world.proofs.world.World.section.Goals as goal

pub take_all-requires-clause-lists : goal.take_all-requires-clause-lists
take_all-requires-clause-lists g c =
    let w = c.self.inside in
    let i : Inside = record { plan = w.plan; order = w.log.order.items; graph = w.graph; replies = w.log.replies.items; teller = w.teller; taken = w.taken.items } in
    ap length c.lists.ensures.lists ∙ sym (world_lists i c.self.invariant)

pub take_all-requires-clause-sound : goal.take_all-requires-clause-sound
take_all-requires-clause-sound g c =
    let w = c.self.inside in
    let i : Inside = record { plan = w.plan; order = w.log.order.items; graph = w.graph; replies = w.log.replies.items; teller = w.teller; taken = w.taken.items } in
    world_sound i c.self.invariant

pub take_all-requires-clause-suits : goal.take_all-requires-clause-suits
take_all-requires-clause-suits g c =
    let w = c.self.inside in
    let i : Inside = record { plan = w.plan; order = w.log.order.items; graph = w.graph; replies = w.log.replies.items; teller = w.teller; taken = w.taken.items } in
    let P : List Command → Type 0 = λ cs. AllByRecursion (λ d. IsFor d (state_of w.graph)) cs in
    subst P (sym c.commands.ensures)
    (world_suits i c.args.writer c.index-section.result.now c.self.invariant)

pub invariant_of-self-in_err-taken : goal.invariant_of-self-in_err-taken
invariant_of-self-in_err-taken g c =
    let w = c.self.inside in
    let i : Inside = record { plan = w.plan; order = w.log.order.items; graph = w.graph; replies = w.log.replies.items; teller = w.teller; taken = w.taken.items } in
    world_back i c.take_all.new.graph c.reserve-2.new.self.order.items c.reserve-2.new.self.replies.items c.reserve.new.self
    c.self.invariant c.in_err-taken.ensures.err c.reserve-2.ensures.order c.reserve-2.ensures.replies c.reserve.ensures.plan
    c.reserve.ensures.told

pub enter-requires-clause-entry : goal.enter-requires-clause-entry
enter-requires-clause-entry g c =
    let w = c.self.inside in
    let i : Inside = record { plan = w.plan; order = w.log.order.items; graph = w.graph; replies = w.log.replies.items; teller = w.teller; taken = w.taken.items } in
    let section = c.index-section.result.now in
    let here : w.plan ≡ c.args.self.now.plan = ap (λ h. h.plan) c.self.view_is in
    let there : c.args.writer < length w.plan.writers = rw here c.requires in
    let section_is : section ≡ taken_by c.args.writer w.log.order.items = c.index-section.ensures
    ∙ get_or_default w.taken.items c.args.writer _ 0 (omega (arith, there, c.self.invariant.writers))
    ∙ c.self.invariant.sections c.args.writer there in
    let next : IsNext i c.args.writer section =
    record { there = there; section_is = section_is; left = omega (arith, c.if-section-sections.false) } in
    let e = c.in_ok-taken.ensures in
    let P : List Actor → Type 0 = λ order. IsEntry w.plan order (Writer c.args.writer) c.take_all.new.graph c.in_ok-taken.taken in
    subst P (sym c.reserve-2.ensures.order)
    (section_entry i c.args.writer section c.commands.result.now c.take_all.new.graph c.in_ok-taken.taken c.self.invariant next
    c.commands.ensures e.state e.replies e.told e.back)

pub enter-requires-clause-listeners : goal.enter-requires-clause-listeners
enter-requires-clause-listeners g c = c.reserve.ensures.plan ∙ c.self.invariant.listeners

pub invariant_of-self-2 : goal.invariant_of-self-2
invariant_of-self-2 g c =
    let w = c.self.inside in
    let i : Inside = record { plan = w.plan; order = w.log.order.items; graph = w.graph; replies = w.log.replies.items; teller = w.teller; taken = w.taken.items } in
    let section = c.index-section.result.now in
    let here : w.plan ≡ c.args.self.now.plan = ap (λ h. h.plan) c.self.view_is in
    let there : c.args.writer < length w.plan.writers = rw here c.requires in
    let section_is : section ≡ taken_by c.args.writer w.log.order.items = c.index-section.ensures
    ∙ get_or_default w.taken.items c.args.writer _ 0 (omega (arith, there, c.self.invariant.writers))
    ∙ c.self.invariant.sections c.args.writer there in
    let next : IsNext i c.args.writer section =
    record { there = there; section_is = section_is; left = omega (arith, c.if-section-sections.false) } in
    let e = c.in_ok-place.ensures in
    let t = c.in_ok-taken.ensures in
    world_more i (Writer c.args.writer) c.enter.new.graph c.enter.new.log.order.items c.enter.new.log.replies.items
    c.enter.new.teller (slice_set w.taken.items c.args.writer (section + 1)) c.self.invariant
    (entered i (Writer c.args.writer) c.take_all.new.graph c.enter.new.graph c.in_ok-taken.taken c.reserve-2.new.self.order.items
    c.enter.new.log.order.items c.reserve-2.new.self.replies.items c.enter.new.log.replies.items c.reserve.new.self c.enter.new.teller
    (section_entry i c.args.writer section c.commands.result.now c.take_all.new.graph c.in_ok-taken.taken c.self.invariant next
    c.commands.ensures t.state t.replies t.told t.back)
    (section_fits i c.args.writer section next) c.reserve-2.ensures.order c.reserve-2.ensures.replies c.reserve.ensures.plan
    c.reserve.ensures.told t.limit e.order e.replies e.limit e.state c.enter.ensures.listeners e.told)
    (length-set w.taken.items c.args.writer (section + 1) ∙ c.self.invariant.writers)
    (section_counts i c.args.writer section c.self.invariant next)

pub invariant_of-self-in_err-place : goal.invariant_of-self-in_err-place
invariant_of-self-in_err-place g c =
    let w = c.self.inside in
    let i : Inside = record { plan = w.plan; order = w.log.order.items; graph = w.graph; replies = w.log.replies.items; teller = w.teller; taken = w.taken.items } in
    let e = c.in_err-place.ensures in
    world_back i c.enter.new.graph c.enter.new.log.order.items c.enter.new.log.replies.items c.enter.new.teller c.self.invariant
    (e.back w.graph c.in_ok-taken.ensures.back) (e.order_stays ∙ c.reserve-2.ensures.order)
    (e.replies_stay ∙ c.reserve-2.ensures.replies) (c.enter.ensures.listeners ∙ c.reserve.ensures.plan)
    (e.told_stays ∙ c.reserve.ensures.told)
