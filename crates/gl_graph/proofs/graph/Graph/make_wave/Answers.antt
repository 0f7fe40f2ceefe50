use Rattle.std.proofs.Common.{◌≡◌, ◌<◌, ◌∙◌, [], length, replicate, ap, sym, subst, arith}
use Rattle.std.specs.Prelude.{None, slice_index}
use Rattle.spec_states.specs.State.{own_at}
use Rattle.spec_states.specs.Wave.{subject, wave}
use Rattle.gl_graph.specs.Nodes.{state_of as state_in}
use Rattle.gl_graph.specs.Causes.{SuitsCause, cause_of, unmoved_of}
use Rattle.gl_graph.specs.Rollbacks.{start_at}
use Rattle.gl_graph.specs.Graph.{Kept, state_of, IsGraph}
use Rattle.gl_graph.specs.Waves.{AreTold, IsStopping, by_position, HaveRoomOf}
use Rattle.gl_graph.specs.Spread.{IsSpread}
use Rattle.gl_graph.proofs.Alike.{graph_same}
use Rattle.gl_graph.proofs.Ends.{begun_of, start_low, spread_ends}
use Rattle.gl_graph.proofs.Rollbacks.{start_within}
use Rattle.gl_graph.proofs.Steps.{begins}
use Rattle.gl_graph.proofs.Progress.{room_on}
use Rattle.gl_graph.proofs.graph.Graph.make_wave.Goals as goal

pub rollback_of-requires-clause-graph : goal.rollback_of-requires-clause-graph
rollback_of-requires-clause-graph g c =
    let k = c.self.inside in
    subst (λ ns. IsGraph k.limit ns c.as_slice-2.result.now) (sym c.as_slice.ensures.value)
    (subst (IsGraph k.limit k.nodes.items) (sym c.as_slice-2.ensures.value) c.self.invariant)

pub rollback_of-requires-clause-within : goal.rollback_of-requires-clause-within
rollback_of-requires-clause-within g c =
    let k = c.self.inside in
    let cause = cause_of c.args.cause.now in
    let here = subst (λ (m : Kept). subject cause < length (state_of m)) (sym c.self.view_is) c.requires.within in
    subst (λ ns. subject cause < length (state_in ns c.as_slice-2.result.now)) (sym c.as_slice.ensures.value)
    (subst (λ ps. subject cause < length (state_in k.nodes.items ps)) (sym c.as_slice-2.ensures.value) here)

pub rollback_of-requires-clause-suits : goal.rollback_of-requires-clause-suits
rollback_of-requires-clause-suits g c =
    let k = c.self.inside in
    let cause = cause_of c.args.cause.now in
    let here = subst (λ (m : Kept). SuitsCause cause (own_at (state_of m) (subject cause))) (sym c.self.view_is) c.requires.suits in
    subst (λ ns. SuitsCause cause (own_at (state_in ns c.as_slice-2.result.now) (subject cause))) (sym c.as_slice.ensures.value)
    (subst (λ ps. SuitsCause cause (own_at (state_in k.nodes.items ps) (subject cause))) (sym c.as_slice-2.ensures.value) here)

pub spread_all-requires-clause-within : goal.spread_all-requires-clause-within
spread_all-requires-clause-within g c =
    let k = c.self.inside in
    let cause = cause_of c.args.cause.now in
    let rollback = c.in-Ok.rollback in
    let begun = begun_of k.limit k.nodes.items k.positions.items cause rollback c.as_slice.result.now c.as_slice-2.result.now c.self.invariant
    (subst (λ (m : Kept). subject cause < length (state_of m)) (sym c.self.view_is) c.requires.within)
    (subst (λ (m : Kept). SuitsCause cause (own_at (state_of m) (subject cause))) (sym c.self.view_is) c.requires.suits)
    c.as_slice.ensures.value c.as_slice-2.ensures.value c.in-Ok.ensures.ok in
    subst (λ ps. start_at rollback cause < length ps) (sym c.as_slice-3.ensures.value) (start_within k.limit k.nodes.items k.positions.items cause rollback begun)

pub spread_all-requires-clause-low : goal.spread_all-requires-clause-low
spread_all-requires-clause-low g c =
    let k = c.self.inside in
    let cause = cause_of c.args.cause.now in
    let rollback = c.in-Ok.rollback in
    let begun = begun_of k.limit k.nodes.items k.positions.items cause rollback c.as_slice.result.now c.as_slice-2.result.now c.self.invariant
    (subst (λ (m : Kept). subject cause < length (state_of m)) (sym c.self.view_is) c.requires.within)
    (subst (λ (m : Kept). SuitsCause cause (own_at (state_of m) (subject cause))) (sym c.self.view_is) c.requires.suits)
    c.as_slice.ensures.value c.as_slice-2.ensures.value c.in-Ok.ensures.ok in
    let low : slice_index k.positions.items (start_at rollback cause) < length k.nodes.items =
    start_low k.limit k.nodes.items k.positions.items (start_at rollback cause) c.self.invariant (start_within k.limit k.nodes.items k.positions.items cause rollback begun) in
    let here : slice_index c.as_slice-3.result.now (start_at rollback cause) < length k.nodes.items =
    subst (λ ps. slice_index ps (start_at rollback cause) < length k.nodes.items) (sym c.as_slice-3.ensures.value) low in
    omega (arith, here)

pub spread_all-requires-clause-begins : goal.spread_all-requires-clause-begins
spread_all-requires-clause-begins g c =
    let k = c.self.inside in
    let nodes = k.nodes.items in
    let positions = k.positions.items in
    let cause = cause_of c.args.cause.now in
    let rollback = c.in-Ok.rollback in
    let begun = begun_of k.limit nodes positions cause rollback c.as_slice.result.now c.as_slice-2.result.now c.self.invariant
    (subst (λ (m : Kept). subject cause < length (state_of m)) (sym c.self.view_is) c.requires.within)
    (subst (λ (m : Kept). SuitsCause cause (own_at (state_of m) (subject cause))) (sym c.self.view_is) c.requires.suits)
    c.as_slice.ensures.value c.as_slice-2.ensures.value c.in-Ok.ensures.ok in
    let lists : c.len.result ≡ length positions = omega (arith, c.len.ensures) in
    let told = subst (λ n. c.in_ok-deltas.deltas ≡ replicate n None) lists c.in_ok-deltas.ensures in
    subst (λ ps. IsSpread k.limit nodes ps cause rollback (slice_index ps (start_at rollback cause)) nodes c.in_ok-deltas.deltas c.new-made.result.items) (sym c.as_slice-3.ensures.value)
    (begins k.limit nodes positions cause rollback c.in_ok-deltas.deltas c.new-made.result.items begun told c.new-made.ensures.items)

pub invariant_of-self : goal.invariant_of-self
invariant_of-self g c =
    let k = c.self.inside in
    let nodes = k.nodes.items in
    let cause = cause_of c.args.cause.now in
    let new = c.spread_all.new in
    let rollback = c.in-Ok.rollback in
    let spread = subst (λ ps. IsSpread k.limit nodes ps cause rollback (length nodes) new.nodes.items new.deltas new.made.items) c.as_slice-3.ensures.value c.in-Ok-spread_all.ensures.spread in
    let done = spread_ends k.limit nodes k.positions.items cause rollback new.nodes.items new.deltas new.made.items spread in
    done.graph

pub returns-in-Ok-spread_all-clause-moves : goal.returns-in-Ok-spread_all-clause-moves
returns-in-Ok-spread_all-clause-moves g c =
    let k = c.self.inside in
    let nodes = k.nodes.items in
    let cause = cause_of c.args.cause.now in
    let new = c.spread_all.new in
    let rollback = c.in-Ok.rollback in
    let spread = subst (λ ps. IsSpread k.limit nodes ps cause rollback (length nodes) new.nodes.items new.deltas new.made.items) c.as_slice-3.ensures.value c.in-Ok-spread_all.ensures.spread in
    let done = spread_ends k.limit nodes k.positions.items cause rollback new.nodes.items new.deltas new.made.items spread in
    subst (λ (m : Kept). unmoved_of m.limit (state_of m) cause ≡ None) c.self.view_is done.moves

pub returns-in-Ok-spread_all-clause-state : goal.returns-in-Ok-spread_all-clause-state
returns-in-Ok-spread_all-clause-state g c =
    let k = c.self.inside in
    let nodes = k.nodes.items in
    let cause = cause_of c.args.cause.now in
    let new = c.spread_all.new in
    let rollback = c.in-Ok.rollback in
    let spread = subst (λ ps. IsSpread k.limit nodes ps cause rollback (length nodes) new.nodes.items new.deltas new.made.items) c.as_slice-3.ensures.value c.in-Ok-spread_all.ensures.spread in
    let done = spread_ends k.limit nodes k.positions.items cause rollback new.nodes.items new.deltas new.made.items spread in
    done.state ∙ ap (λ (m : Kept). wave (state_of m) cause) c.self.view_is

pub returns-in-Ok-spread_all-clause-told : goal.returns-in-Ok-spread_all-clause-told
returns-in-Ok-spread_all-clause-told g c =
    let k = c.self.inside in
    let nodes = k.nodes.items in
    let cause = cause_of c.args.cause.now in
    let new = c.spread_all.new in
    let rollback = c.in-Ok.rollback in
    let spread = subst (λ ps. IsSpread k.limit nodes ps cause rollback (length nodes) new.nodes.items new.deltas new.made.items) c.as_slice-3.ensures.value c.in-Ok-spread_all.ensures.spread in
    let done = spread_ends k.limit nodes k.positions.items cause rollback new.nodes.items new.deltas new.made.items spread in
    subst (λ (m : Kept). AreTold (state_of m) cause new.deltas) c.self.view_is done.told_is

pub invariant_of-self-in-Err-spread_all : goal.invariant_of-self-in-Err-spread_all
invariant_of-self-in-Err-spread_all g c =
    let k = c.self.inside in
    let lead = c.in-Err-spread_all.ensures.back.lead in
    let e = c.take_back.ensures in
    graph_same k.limit k.nodes.items c.take_back.new.nodes.items k.positions.items (sym (e.numbers ∙ lead.numbers_are)) (sym (e.back ∙ lead.back)) c.self.invariant

pub returns-clause-room : goal.returns-clause-room
returns-clause-room g c =
    let k = c.self.inside in
    let mid = c.spread_all.new.nodes.items in
    let now = c.take_back.new.nodes.items in
    let lead = c.in-Err-spread_all.ensures.back.lead in
    let undos = by_position (length mid) c.spread_all.new.made.items in
    subst (λ (m : Kept). HaveRoomOf m.nodes now) c.self.view_is (room_on [] undos [] k.nodes.items mid now (sym lead.numbers_are) lead.room c.take_back.ensures.room)

pub returns-clause-refused : goal.returns-clause-refused
returns-clause-refused g c =
    let k = c.self.inside in
    let cause = cause_of c.args.cause.now in
    subst (λ (m : Kept). IsStopping m.limit (state_of m) cause c.in-Err-spread_all.why) c.self.view_is
    (subst (λ ps. IsStopping k.limit (state_in k.nodes.items ps) cause c.in-Err-spread_all.why) c.as_slice-3.ensures.value c.in-Err-spread_all.ensures.refused)

pub returns-in-Err-clause-refused : goal.returns-in-Err-clause-refused
returns-in-Err-clause-refused g c =
    let k = c.self.inside in
    let cause = cause_of c.args.cause.now in
    let why = c.in-Err.why in
    subst (λ (m : Kept). IsStopping m.limit (state_of m) cause why) c.self.view_is
    (subst (λ ps. IsStopping k.limit (state_in k.nodes.items ps) cause why) c.as_slice-2.ensures.value
    (subst (λ ns. IsStopping k.limit (state_in ns c.as_slice-2.result.now) cause why) c.as_slice.ensures.value c.in-Err.ensures.refused))
