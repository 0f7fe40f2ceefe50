use Rattle.std.proofs.Common.{◌≡◌, ◌∙◌, ◌<◌, ◌++◌, length, ap, sym, subst, arith, vec_capacity}
use Rattle.std.proofs.lemmas.List.{length-map}
use Rattle.std.specs.List.{AllByRecursion}
use Rattle.spec_plans.proofs.Prefixes.{prefix_once}
use Rattle.spec_states.specs.Plan.{Plan, listener_edges}
use Rattle.spec_runs.specs.Telling.{tellings, listener_dependency_order}
use Rattle.spec_runs.proofs.Ordered.{well_formed_listeners, listener_order_below, length-listener_dependency_order}
use Rattle.gl_tell.specs.Told.{telling_data, tellings_of}
use Rattle.gl_tell.specs.Heard.{heard_all, AreOnce}
use Rattle.gl_tell.proofs.Turns.{once_of, told_in_turn}
use Rattle.gl_tell.proofs.teller.Teller.tell.Goals as goal

pub tell_all-requires-clause-known : goal.tell_all-requires-clause-known
tell_all-requires-clause-known c =
    let p = c.self.inside.plan in
    let whole = c.self.invariant.whole in
    rw (c.listeners-listeners.ensures.listeners, c.listener_order-turn.ensures)
    (listener_order_below p (well_formed_listeners p whole.formed whole.acyclic))

pub tell_all-requires-clause-once : goal.tell_all-requires-clause-once
tell_all-requires-clause-once c =
    let p = c.self.inside.plan in
    let whole = c.self.invariant.whole in
    let order = well_formed_listeners p whole.formed whole.acyclic in
    subst AreOnce (sym c.listener_order-turn.ensures)
    (once_of (listener_dependency_order p)
    (prefix_once (length p.listeners) (listener_edges p) (listener_dependency_order p) order.prefix))

pub tell_all-requires-clause-long : goal.tell_all-requires-clause-long
tell_all-requires-clause-long c =
    let plan : c.self.inside.plan ≡ c.args.self.now.plan = ap (λ t. t.plan) c.self.view_is in
    c.requires.deltas.1.long
    ∙ sym (ap length c.listeners-listeners.ensures.listeners ∙ ap (λ p. length p.listeners) plan)

pub tell_all-requires-clause-room : goal.tell_all-requires-clause-room
tell_all-requires-clause-room c =
    let w = c.self.inside in
    let whole = c.self.invariant.whole in
    let plan : w.plan ≡ c.args.self.now.plan = ap (λ t. t.plan) c.self.view_is in
    let told : tellings_of w.told.items ≡ c.args.self.now.told = ap (λ t. t.told) c.self.view_is in
    let room : vec_capacity w.told ≡ c.args.self.now.room = ap (λ t. t.room) c.self.view_is in
    let turn : length c.listener_order-turn.result.now ≡ length w.plan.listeners =
    ap length c.listener_order-turn.ensures
    ∙ length-listener_dependency_order w.plan (well_formed_listeners w.plan whole.formed whole.acyclic) in
    omega (
      arith,
      c.requires.reserved,
      turn,
      room,
      ap (λ p. length p.listeners) plan,
      ap length told,
      length-map w.told.items telling_data,
    )

pub invariant_of-self : goal.invariant_of-self
invariant_of-self c = record {
  whole = c.self.invariant.whole;
  listeners = c.self.invariant.listeners;
  fresh = c.tell_all.ensures.fresh c.self.invariant.fresh;
}

pub returns-clause-told : goal.returns-clause-told
returns-clause-told c lists are =
    let w = c.self.inside in
    let whole = c.self.invariant.whole in
    let place = c.args.place in
    let deltas = c.args.deltas in
    let sofar = tellings_of w.told.items in
    let q = c.args.self.now.plan in
    let plan : w.plan ≡ q = ap (λ t. t.plan) c.self.view_is in
    let told : sofar ≡ c.args.self.now.told = ap (λ t. t.told) c.self.view_is in
    let ls : c.listeners-listeners.result.now ≡ q.listeners =
    c.listeners-listeners.ensures.listeners ∙ ap (λ p. p.listeners) plan in
    let turn : c.listener_order-turn.result.now ≡ listener_dependency_order q =
    c.listener_order-turn.ensures ∙ ap listener_dependency_order plan in
    let Known : Plan → Type 0 =
    λ p. AllByRecursion (λ k. k < length p.listeners) (listener_dependency_order p) in
    let known : Known q =
    subst Known plan (listener_order_below w.plan (well_formed_listeners w.plan whole.formed whole.acyclic)) in
    c.tell_all.ensures.told
    ∙ ap (λ js. sofar ++ heard_all js place deltas c.listener_order-turn.result.now) ls
    ∙ ap (λ ks. sofar ++ heard_all q.listeners place deltas ks) turn
    ∙ ap (λ ts. sofar ++ ts) (told_in_turn q place lists deltas are known)
    ∙ ap (λ ts. ts ++ tellings q place lists) told
