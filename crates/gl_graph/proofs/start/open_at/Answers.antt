use Rattle.std.proofs.Common.{ℕ, List, ◌≡◌, ◌<◌, length, slice_index_or, refl, sym, rules, add-one, subst}
use Rattle.std.specs.Prelude.{Some, slice_get}
use Rattle.std.proofs.lemmas.Option.{slice_get-get_or}
use Rattle.spec_states.specs.State.{opening_of}
use Rattle.spec_states.specs.Shown.{shown_of}
use Rattle.gl_graph.specs.Nodes.{shown_by, IsPlaced, AreSettled}
use Rattle.gl_graph.specs.Opening.{OnInputs}
use Rattle.gl_graph.specs.Build.{IsOneMore, IsFault, AreOpenTo, IsReasonOf}
use Rattle.gl_graph.proofs.Starts.{next_within, inputs_placed, next_opened, next_reason}
use Rattle.gl_graph.proofs.start.open_at.Goals as goal

-- the list at a place
get_at : (xs ys : List ℕ) (k : ℕ) → xs ≡ ys → k < length ys → slice_get ys k ≡ Some (slice_index_or xs k 0)
get_at xs ys k same within =
    subst (λ zs. slice_get zs k ≡ Some (slice_index_or xs k 0)) same (slice_get-get_or xs k 0 (subst (λ zs. k < length zs) (sym same) within))

pub bounds-dependency_order-list : goal.bounds-dependency_order-list
bounds-dependency_order-list g c =
    let t = c.args.dependency_order.now in
    let here = get_at t.order.now t.order.now c.args.position refl c.requires.within in
    next_within t.limit t.lists.now t.positions.items t.order.now c.args.position (slice_index_or t.order.now c.args.position 0) c.requires.ready here

pub open_next-requires-clause-settled : goal.open_next-requires-clause-settled
open_next-requires-clause-settled g c =
    subst (λ ps. AreSettled c.args.nodes.now.items ps) (sym c.as_slice.ensures.value) c.requires.opened.settled

pub open_next-requires-clause-inputs : goal.open_next-requires-clause-inputs
open_next-requires-clause-inputs g c =
    let t = c.args.dependency_order.now in
    let list = slice_index_or t.order.now c.args.position 0 in
    let d = slice_index_or t.lists.now list c.index-dependency_order-list.result in
    let here = get_at t.order.now t.order.now c.args.position refl c.requires.within in
    let within = next_within t.limit t.lists.now t.positions.items t.order.now c.args.position list c.requires.ready here in
    let there = slice_get-get_or t.lists.now list c.index-dependency_order-list.result within in
    subst (λ ps. OnInputs (IsPlaced c.args.nodes.now.items ps) d.kind) (sym c.as_slice.ensures.value)
    (inputs_placed t.limit t.lists.now t.positions.items t.order.now c.args.nodes.now.items c.args.position list d c.requires.ready c.requires.opened here there)

pub returns-in_err-open_next-clause-fault : goal.returns-in_err-open_next-clause-fault
returns-in_err-open_next-clause-fault g c =
    let t = c.args.dependency_order.now in
    let nodes = c.args.nodes.now.items in
    let list = slice_index_or t.order.now c.args.position 0 in
    let d = slice_index_or t.lists.now list c.index-dependency_order-list.result in
    let fault = c.in_err-open_next.field-0.0 in
    let here = get_at t.order.now t.order.now c.args.position refl c.requires.within in
    let within = next_within t.limit t.lists.now t.positions.items t.order.now c.args.position list c.requires.ready here in
    let there = slice_get-get_or t.lists.now list c.index-dependency_order-list.result within in
    let is : IsFault t.limit list (length (shown_of (opening_of (shown_by nodes t.positions.items) d.kind) (shown_by nodes t.positions.items))) fault =
    subst (λ ps. IsFault t.limit list (length (shown_of (opening_of (shown_by nodes ps) d.kind) (shown_by nodes ps))) fault) c.as_slice.ensures.value c.in_err-open_next.ensures.fault in
    let reason : IsReasonOf t fault =
    next_reason t.limit t.lists.now t.positions.items t.order.now nodes c.args.position list d fault c.requires.ready c.requires.opened here there is in
    search rules

pub returns-clause-opened : goal.returns-clause-opened
returns-clause-opened g c =
    let t = c.args.dependency_order.now in
    let nodes = c.args.nodes.now.items in
    let after = c.open_next.new.nodes.items in
    let list = slice_index_or t.order.now c.args.position 0 in
    let d = slice_index_or t.lists.now list c.index-dependency_order-list.result in
    let here = get_at t.order.now t.order.now c.args.position refl c.requires.within in
    let within = next_within t.limit t.lists.now t.positions.items t.order.now c.args.position list c.requires.ready here in
    let there = slice_get-get_or t.lists.now list c.index-dependency_order-list.result within in
    let more : IsOneMore t.limit t.positions.items list (opening_of (shown_by nodes t.positions.items) d.kind) nodes after =
    subst (λ ps. IsOneMore t.limit ps list (opening_of (shown_by nodes ps) d.kind) nodes after) c.as_slice.ensures.value c.in_ok-open_next.ensures.more in
    subst (λ k. AreOpenTo t k after) (sym (add-one c.args.position))
    (next_opened t.limit t.lists.now t.positions.items t.order.now nodes after c.args.position list d c.requires.ready c.requires.opened here there more)
