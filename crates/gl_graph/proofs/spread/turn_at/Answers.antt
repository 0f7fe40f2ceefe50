use Rattle.std.proofs.Common.{◌≡◌, ◌∙◌, ◌++◌, take, ap, sym, subst}
use Rattle.std.specs.Prelude.{slice_index_or}
use Rattle.gl_graph.specs.Causes.{cause_of}
use Rattle.gl_graph.specs.declared.node.Node.{Node}
use Rattle.gl_graph.specs.Nodes.{shown_by, OnInput, AreAmong, IsPlaced, AreSettled}
use Rattle.gl_graph.specs.Spread.{CanTurn}
use Rattle.gl_graph.proofs.Splits.{first_back, tried_at}
use Rattle.gl_graph.proofs.spread.turn_at.Goals as goal

pub turn-requires-clause-settled : goal.turn-requires-clause-settled
turn-requires-clause-settled g c =
    let prefix = c.split_at_mut-prefix.result.0.now in
    let prefix_is : prefix ≡ take c.args.position c.args.nodes.now.items = c.split_at_mut-prefix.ensures.front ∙ ap (take c.args.position) c.deref_mut.ensures.value in
    subst (λ ns. AreSettled ns c.args.positions.now) (sym prefix_is) c.requires.settled

pub turn-requires-clause-later : goal.turn-requires-clause-later
turn-requires-clause-later g c =
    let nodes = c.args.nodes.now.items in
    let prefix = c.split_at_mut-prefix.result.0.now in
    let back = c.split_at_mut-prefix.result.1.now in
    let prefix_is : prefix ≡ take c.args.position nodes = c.split_at_mut-prefix.ensures.front ∙ ap (take c.args.position) c.deref_mut.ensures.value in
    let whole : nodes ≡ prefix ++ back = sym c.deref_mut.ensures.value ∙ c.split_at_mut-prefix.ensures.value in
    let first = first_back nodes prefix back c.args.position c.requires.node c.index-back-0.result whole c.split_at_mut-prefix.ensures.front_len c.requires.there in
    subst (λ (n : Node). OnInput (IsPlaced prefix c.args.positions.now) n.keeps) (sym first)
    (subst (λ ns. OnInput (IsPlaced ns c.args.positions.now) c.requires.node.keeps) (sym prefix_is) c.requires.later)

pub turn-requires-clause-among : goal.turn-requires-clause-among
turn-requires-clause-among g c =
    let nodes = c.args.nodes.now.items in
    let prefix = c.split_at_mut-prefix.result.0.now in
    let back = c.split_at_mut-prefix.result.1.now in
    let whole : nodes ≡ prefix ++ back = sym c.deref_mut.ensures.value ∙ c.split_at_mut-prefix.ensures.value in
    let first = first_back nodes prefix back c.args.position c.requires.node c.index-back-0.result whole c.split_at_mut-prefix.ensures.front_len c.requires.there in
    subst (λ (n : Node). AreAmong n.keeps) (sym first) c.requires.among

pub turn-requires-clause-can : goal.turn-requires-clause-can
turn-requires-clause-can g c =
    let nodes = c.args.nodes.now.items in
    let prefix = c.split_at_mut-prefix.result.0.now in
    let back = c.split_at_mut-prefix.result.1.now in
    let prefix_is : prefix ≡ take c.args.position nodes = c.split_at_mut-prefix.ensures.front ∙ ap (take c.args.position) c.deref_mut.ensures.value in
    let whole : nodes ≡ prefix ++ back = sym c.deref_mut.ensures.value ∙ c.split_at_mut-prefix.ensures.value in
    let first = first_back nodes prefix back c.args.position c.requires.node c.index-back-0.result whole c.split_at_mut-prefix.ensures.front_len c.requires.there in
    subst (λ (n : Node). CanTurn c.args.rollback.now (shown_by prefix c.args.positions.now) (cause_of c.args.cause.now) c.args.deltas.now n.list n.keeps) (sym first)
    (subst (λ ns. CanTurn c.args.rollback.now (shown_by ns c.args.positions.now) (cause_of c.args.cause.now) c.args.deltas.now c.requires.node.list c.requires.node.keeps) (sym prefix_is) c.requires.can)

pub returns : goal.returns
returns g c =
    let nodes = c.args.nodes.now.items in
    let prefix = c.split_at_mut-prefix.result.0.now in
    let back = c.split_at_mut-prefix.result.1.now in
    let prefix_is : prefix ≡ take c.args.position nodes = c.split_at_mut-prefix.ensures.front ∙ ap (take c.args.position) c.deref_mut.ensures.value in
    let whole : nodes ≡ prefix ++ back = sym c.deref_mut.ensures.value ∙ c.split_at_mut-prefix.ensures.value in
    let first = first_back nodes prefix back c.args.position c.requires.node c.index-back-0.result whole c.split_at_mut-prefix.ensures.front_len c.requires.there in
    let e = c.turn.ensures in
    tried_at c.args.rollback.now c.args.positions.now (cause_of c.args.cause.now) c.args.deltas.now c.args.position c.args.nodes.now.len nodes prefix back c.requires.node (slice_index_or back 0 c.index-back-0.result) c.turn.new.self c.turn.result
    whole prefix_is c.split_at_mut-prefix.ensures.front_len c.args.nodes.now.ok.0 c.requires.there first
    (record { ok = e.ok; err = e.err; stopped = e.stopped; room = e.room })
