use Rattle.std.proofs.Common.{◌∙◌, ap, sym, subst, arith}
use Rattle.std.specs.Prelude.{slice_index}
use Rattle.std.proofs.lemmas.Grind.{get_or_default_zero}
use Rattle.spec_states.specs.State.{own_at}
use Rattle.gl_graph.specs.Graph.{Kept, state_of}
use Rattle.gl_graph.specs.Waves.{contents, HaveRoomOf}
use Rattle.gl_graph.specs.Queues.{IsProxy, IsProxyAt, CanQueueIn, HasQueueRoom}
use Rattle.gl_graph.proofs.QueueChanges.{proxy_within, proxy_at, room_at, roomier, roomy_contents}
use Rattle.gl_graph.proofs.Alike.{graph_same}
use Rattle.gl_graph.proofs.graph.Graph.reserve_queue.Goals as goal

pub index-requires : goal.index-requires
index-requires c =
    let k = c.self.inside in
    let proxy = subst (λ (m : Kept). IsProxy (own_at (state_of m) c.args.list)) (sym c.self.view_is) c.requires.proxy in
    let within = proxy_within k.nodes.items k.positions.items c.args.list proxy in
    omega (arith, within, k.positions.ok.0)

pub reserve_at-requires : goal.reserve_at-requires
reserve_at-requires c =
    let k = c.self.inside in
    let proxy = subst (λ (m : Kept). IsProxy (own_at (state_of m) c.args.list)) (sym c.self.view_is) c.requires.proxy in
    let within = proxy_within k.nodes.items k.positions.items c.args.list proxy in
    subst (λ p. IsProxyAt p k.nodes.items) (sym (c.index.ensures ∙ get_or_default_zero k.positions.items c.args.list c.index.result.now within))
    (proxy_at k.limit k.nodes.items k.positions.items c.args.list c.self.invariant proxy)

pub invariant_of-self : goal.invariant_of-self
invariant_of-self c =
    let k = c.self.inside in
    let more = roomier c.index.result.now k.nodes.items c.reserve_at.new.nodes.items c.reserve_at.ensures.reserved in
    graph_same k.limit k.nodes.items c.reserve_at.new.nodes.items k.positions.items (sym more.numbers_are) (sym more.contents_are) c.self.invariant

pub returns-in_err-reserve_at-clause-contents : goal.returns-in_err-reserve_at-clause-contents
returns-in_err-reserve_at-clause-contents c =
    let k = c.self.inside in
    roomy_contents k.limit k.positions.items k.nodes.items c.reserve_at.new.nodes.items (roomier c.index.result.now k.nodes.items c.reserve_at.new.nodes.items c.reserve_at.ensures.reserved)
    ∙ ap contents c.self.view_is

pub returns-in_err-reserve_at-clause-room : goal.returns-in_err-reserve_at-clause-room
returns-in_err-reserve_at-clause-room c =
    let k = c.self.inside in
    subst (λ (m : Kept). HaveRoomOf m.nodes c.reserve_at.new.nodes.items) c.self.view_is
    (roomier c.index.result.now k.nodes.items c.reserve_at.new.nodes.items c.reserve_at.ensures.reserved).room

pub returns-in_err-reserve_at-clause-others : goal.returns-in_err-reserve_at-clause-others
returns-in_err-reserve_at-clause-others c = λ other room.
    let k = c.self.inside in
    let had = subst (HasQueueRoom other) (sym c.self.view_is) room in
    (had.0, (roomier c.index.result.now k.nodes.items c.reserve_at.new.nodes.items c.reserve_at.ensures.reserved).others (slice_index k.positions.items other) had.1)

pub invariant_of-self-2 : goal.invariant_of-self-2
invariant_of-self-2 c =
    let k = c.self.inside in
    let more = roomier c.index.result.now k.nodes.items c.reserve_at.new.nodes.items c.reserve_at.ensures.reserved in
    graph_same k.limit k.nodes.items c.reserve_at.new.nodes.items k.positions.items (sym more.numbers_are) (sym more.contents_are) c.self.invariant

pub returns-clause-ok : goal.returns-clause-ok
returns-clause-ok c =
    let k = c.self.inside in
    let proxy = subst (λ (m : Kept). IsProxy (own_at (state_of m) c.args.list)) (sym c.self.view_is) c.requires.proxy in
    let within = proxy_within k.nodes.items k.positions.items c.args.list proxy in
    let here = subst (λ p. CanQueueIn p c.reserve_at.new.nodes.items) (c.index.ensures ∙ get_or_default_zero k.positions.items c.args.list c.index.result.now within) c.in_ok-reserve_at.ensures.ok in
    (within, room_at (slice_index k.positions.items c.args.list) c.reserve_at.new.nodes.items here)

pub returns-clause-contents : goal.returns-clause-contents
returns-clause-contents c =
    let k = c.self.inside in
    roomy_contents k.limit k.positions.items k.nodes.items c.reserve_at.new.nodes.items (roomier c.index.result.now k.nodes.items c.reserve_at.new.nodes.items c.reserve_at.ensures.reserved)
    ∙ ap contents c.self.view_is

pub returns-clause-room : goal.returns-clause-room
returns-clause-room c =
    let k = c.self.inside in
    subst (λ (m : Kept). HaveRoomOf m.nodes c.reserve_at.new.nodes.items) c.self.view_is
    (roomier c.index.result.now k.nodes.items c.reserve_at.new.nodes.items c.reserve_at.ensures.reserved).room

pub returns-clause-others : goal.returns-clause-others
returns-clause-others c = λ other room.
    let k = c.self.inside in
    let had = subst (HasQueueRoom other) (sym c.self.view_is) room in
    (had.0, (roomier c.index.result.now k.nodes.items c.reserve_at.new.nodes.items c.reserve_at.ensures.reserved).others (slice_index k.positions.items other) had.1)
