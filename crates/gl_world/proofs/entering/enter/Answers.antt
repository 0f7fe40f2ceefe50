use Rattle.std.proofs.Common.{◌∙◌, ◌++◌, length, ap, sym, subst}
use Rattle.spec_states.specs.Plan.{Plan}
use Rattle.spec_runs.specs.Telling.{tellings}
use Rattle.gl_graph.specs.Graph.{state_of}
use Rattle.gl_tell.specs.Heard.{AreHeard}
use Rattle.gl_world.specs.Entry.{outcome_of}
use Rattle.gl_world.proofs.Backs.{leads_like}
use Rattle.gl_world.proofs.Ends.{may_queue, can_queue, queued_state}
use Rattle.gl_world.proofs.Entries.{entry_long, entry_told}
use Rattle.gl_world.proofs.entering.enter.Goals as goal

pub hand_out-requires-clause-long : goal.hand_out-requires-clause-long
hand_out-requires-clause-long c =
    entry_long c.args.plan.now c.args.log.now.order.items c.args.actor c.args.graph.now c.args.taken c.requires.entry

pub hand_out-requires-clause-may : goal.hand_out-requires-clause-may
hand_out-requires-clause-may c =
    may_queue c.args.plan.now c.args.log.now.order.items c.args.actor c.args.graph.now c.args.taken c.requires.entry

pub write_down-requires-clause-can : goal.write_down-requires-clause-can
write_down-requires-clause-can c =
    let e = c.in-Ok.ensures in
    can_queue c.args.plan.now c.args.log.now.order.items c.args.actor c.args.graph.now c.hand_out.new.graph c.args.taken
    c.in-Ok.handed.due c.requires.entry e.like e.due e.room

pub write_down-requires-clause-heard : goal.write_down-requires-clause-heard
write_down-requires-clause-heard c =
    let order = c.args.log.now.order.items in
    let all = (outcome_of c.args.plan.now order c.args.actor).deltas in
    let P : Plan → Type 0 = λ p. AreHeard p all c.in-Ok.handed.heard in (
      all,
      subst P (sym c.requires.listeners)
          (entry_told c.args.plan.now order c.args.actor c.args.graph.now c.args.taken c.in-Ok.handed.heard c.requires.entry
          c.in-Ok.ensures.heard),
    )

pub retreat_all-requires : goal.retreat_all-requires
retreat_all-requires c =
    let back = c.requires.entry.back in
    (back.0, leads_like c.args.taken.undos.items back.0 c.args.graph.now c.hand_out.new.graph back.1 c.hand_out.ensures.like)

pub returns-in-Ok-clause-told : goal.returns-in-Ok-clause-told
returns-in-Ok-clause-told c =
    let order = c.args.log.now.order.items in
    let all = (outcome_of c.args.plan.now order c.args.actor).deltas in
    let P : Plan → Type 0 = λ p. AreHeard p all c.in-Ok.handed.heard in
    let are : AreHeard c.args.teller.now.plan all c.in-Ok.handed.heard = subst P (sym c.requires.listeners)
    (entry_told c.args.plan.now order c.args.actor c.args.graph.now c.args.taken c.in-Ok.handed.heard c.requires.entry
    c.in-Ok.ensures.heard) in
    c.write_down.ensures.told all are
    ∙ ap (λ p. c.args.teller.now.told ++ tellings p (length order) all) c.requires.listeners

pub returns-in-Ok-clause-state : goal.returns-in-Ok-clause-state
returns-in-Ok-clause-state c =
    let e = c.in-Ok.ensures in
    queued_state c.args.plan.now c.args.log.now.order.items c.args.actor c.args.graph.now c.hand_out.new.graph c.args.taken
    c.in-Ok.handed.due (state_of c.write_down.new.graph) c.requires.entry e.like e.due c.write_down.ensures.state

pub returns-in-Err-clause-back : goal.returns-in-Err-clause-back
returns-in-Err-clause-back c = λ start h.
    c.retreat_all.ensures start
    (leads_like c.args.taken.undos.items start c.args.graph.now c.hand_out.new.graph h c.hand_out.ensures.like)
