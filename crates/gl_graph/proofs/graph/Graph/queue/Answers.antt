use Rattle.std.proofs.Common.{◌∙◌, ap, sym, subst}
use Rattle.std.specs.Prelude.{slice_set, slice_index}
use Rattle.std.proofs.lemmas.Grind.{get_or_default_zero}
use Rattle.spec_states.specs.State.{own_at}
use Rattle.gl_graph.specs.Graph.{Kept, state_of}
use Rattle.gl_graph.specs.Queues.{LeadsOn, LeadsOnAt, CanQueueAt, CanQueueIn, IsQueuedAt, HasQueueRoom, with_one_queued}
use Rattle.gl_graph.proofs.QueueChanges.{leads_within, leads_at, room_in, longer}
use Rattle.gl_graph.proofs.graph.Graph.queue.Goals as goal

pub queue_at-requires-clause-leads : goal.queue_at-requires-clause-leads
queue_at-requires-clause-leads c =
    let k = c.self.inside in
    let d = c.args.d.pieces in
    let leads = subst (λ (m : Kept). LeadsOn d (own_at (state_of m) c.args.list)) (sym c.self.view_is) c.requires.leads in
    let within = leads_within k.nodes.items k.positions.items c.args.list d leads in
    subst (λ p. LeadsOnAt d p k.nodes.items) (sym (c.index.ensures ∙ get_or_default_zero k.positions.items c.args.list c.index.result.now within))
    (leads_at k.limit k.nodes.items k.positions.items c.args.list d c.self.invariant leads)

pub queue_at-requires-clause-reserved : goal.queue_at-requires-clause-reserved
queue_at-requires-clause-reserved c =
    let k = c.self.inside in
    let room = subst (HasQueueRoom c.args.list) (sym c.self.view_is) c.requires.reserved in
    subst (λ p. CanQueueIn p k.nodes.items) (sym (c.index.ensures ∙ get_or_default_zero k.positions.items c.args.list c.index.result.now room.0))
    (room_in (slice_index k.positions.items c.args.list) k.nodes.items room.1)

pub invariant_of-self : goal.invariant_of-self
invariant_of-self c =
    let k = c.self.inside in
    let d = c.args.d.pieces in
    let leads = subst (λ (m : Kept). LeadsOn d (own_at (state_of m) c.args.list)) (sym c.self.view_is) c.requires.leads in
    let within = leads_within k.nodes.items k.positions.items c.args.list d leads in
    let queued = subst (λ p. IsQueuedAt d p k.nodes.items c.queue_at.new.nodes.items) (c.index.ensures ∙ get_or_default_zero k.positions.items c.args.list c.index.result.now within) c.queue_at.ensures in
    (longer k.limit k.positions.items c.args.list d k.nodes.items c.queue_at.new.nodes.items c.self.invariant leads queued).graph

pub returns-clause-state : goal.returns-clause-state
returns-clause-state c =
    let k = c.self.inside in
    let d = c.args.d.pieces in
    let leads = subst (λ (m : Kept). LeadsOn d (own_at (state_of m) c.args.list)) (sym c.self.view_is) c.requires.leads in
    let within = leads_within k.nodes.items k.positions.items c.args.list d leads in
    let queued = subst (λ p. IsQueuedAt d p k.nodes.items c.queue_at.new.nodes.items) (c.index.ensures ∙ get_or_default_zero k.positions.items c.args.list c.index.result.now within) c.queue_at.ensures in
    (longer k.limit k.positions.items c.args.list d k.nodes.items c.queue_at.new.nodes.items c.self.invariant leads queued).state
    ∙ ap (λ (m : Kept). slice_set (state_of m) c.args.list (with_one_queued d (own_at (state_of m) c.args.list))) c.self.view_is

pub returns-clause-others : goal.returns-clause-others
returns-clause-others c = λ other apart room.
    let k = c.self.inside in
    let d = c.args.d.pieces in
    let leads = subst (λ (m : Kept). LeadsOn d (own_at (state_of m) c.args.list)) (sym c.self.view_is) c.requires.leads in
    let within = leads_within k.nodes.items k.positions.items c.args.list d leads in
    let queued = subst (λ p. IsQueuedAt d p k.nodes.items c.queue_at.new.nodes.items) (c.index.ensures ∙ get_or_default_zero k.positions.items c.args.list c.index.result.now within) c.queue_at.ensures in
    let had = subst (HasQueueRoom other) (sym c.self.view_is) room in
    (had.0, subst CanQueueAt (sym ((longer k.limit k.positions.items c.args.list d k.nodes.items c.queue_at.new.nodes.items c.self.invariant leads queued).others other had.0 apart)) had.1)
