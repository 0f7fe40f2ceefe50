use Rattle.std.proofs.Common.{◌≡◌, ◌∙◌, ◌<◌, ap, sym, subst}
use Rattle.std.specs.Prelude.{Some, None, slice_get, slice_index}
use Rattle.std.specs.List.{Contains}
use Rattle.std.specs.Option.{option_copied}
use Rattle.spec_states.specs.State.{inputs}
use Rattle.gl_graph.specs.Nodes.{own_of, shown_by}
use Rattle.gl_graph.specs.Spots.{spotted, OnSpot}
use Rattle.gl_graph.proofs.Shown.{find_shows, spot_before, no_children, children_of}
use Rattle.gl_graph.proofs.seen.+element.Goals as goal

pub element-requires : goal.element-requires
element-requires t c =
    let node = c.node_of.result.now in
    let settled = c.requires.settled (slice_index c.args.positions.now c.args.list) node c.node_of.ensures.node in
    let on = subst (OnSpot (Contains (inputs (own_of node.keeps)))) (c.in-Some-Of.is ∙ ap Some c.in-Some-Of.field-0-is)
    (c.find.ensures.on (shown_by c.args.prefix.now c.args.positions.now) settled.turn.among settled.stands) in
    let known = spot_before c.args.prefix.now c.args.positions.now c.args.list c.in-Some-Of.other node c.requires.settled c.node_of.ensures.node on in
    (subst (λ m. slice_index c.args.positions.now c.in-Some-Of.other < m) c.decreases known.1, (c.requires.settled, known.0))

pub element-requires-in-Some-Child : goal.element-requires-in-Some-Child
element-requires-in-Some-Child t c =
    let node = c.node_of.result.now in
    let settled = c.requires.settled (slice_index c.args.positions.now c.args.list) node c.node_of.ensures.node in
    let on = subst (OnSpot (Contains (inputs (own_of node.keeps)))) (c.in-Some-Child.is ∙ ap Some c.in-Some-Child.field-0-is)
    (c.find.ensures.on (shown_by c.args.prefix.now c.args.positions.now) settled.turn.among settled.stands) in
    let known = spot_before c.args.prefix.now c.args.positions.now c.args.list c.in-Some-Child.other node c.requires.settled c.node_of.ensures.node on in
    (subst (λ m. slice_index c.args.positions.now c.in-Some-Child.other < m) c.decreases known.1, (c.requires.settled, known.0))

pub returns-in-None : goal.returns-in-None
returns-in-None t c =
    let shows = shown_by c.args.prefix.now c.args.positions.now in
    let fact = find_shows c.args.prefix.now c.args.positions.now c.args.list c.args.position c.node_of.result.now c.find.result c.requires.settled c.node_of.ensures.node c.node_of.ensures.list c.find.ensures.spotted in
    ap (λ o. spotted o shows) (sym c.in-None.is) ∙ fact

pub returns-in-Some-Own : goal.returns-in-Some-Own
returns-in-Some-Own t c =
    let shows = shown_by c.args.prefix.now c.args.positions.now in
    let fact = find_shows c.args.prefix.now c.args.positions.now c.args.list c.args.position c.node_of.result.now c.find.result c.requires.settled c.node_of.ensures.node c.node_of.ensures.list c.find.ensures.spotted in
    ap (λ o. spotted o shows) (sym (c.in-Some-Own.is ∙ ap Some c.in-Some-Own.field-0-is)) ∙ fact

pub returns-in-Some-Of : goal.returns-in-Some-Of
returns-in-Some-Of t c =
    let shows = shown_by c.args.prefix.now c.args.positions.now in
    let fact = find_shows c.args.prefix.now c.args.positions.now c.args.list c.args.position c.node_of.result.now c.find.result c.requires.settled c.node_of.ensures.node c.node_of.ensures.list c.find.ensures.spotted in
    c.element.ensures ∙ (ap (λ o. spotted o shows) (sym (c.in-Some-Of.is ∙ ap Some c.in-Some-Of.field-0-is)) ∙ fact)

pub returns-in-None-element : goal.returns-in-None-element
returns-in-None-element t c =
    let shows = shown_by c.args.prefix.now c.args.positions.now in
    let child = c.in-Some-Child in
    let fact = find_shows c.args.prefix.now c.args.positions.now c.args.list c.args.position c.node_of.result.now c.find.result c.requires.settled c.node_of.ensures.node c.node_of.ensures.list c.find.ensures.spotted in
    let none : slice_get (shows child.other) child.at ≡ None = sym c.element-in-Some-Child.ensures ∙ ap option_copied c.in-None-element.is in
    ap (λ xs. slice_get xs child.index) (sym (no_children child.model.now (shows child.other) child.at none))
    ∙ (ap (λ o. spotted o shows) (sym (child.is ∙ ap Some child.field-0-is)) ∙ fact)

pub returns-in-Some : goal.returns-in-Some
returns-in-Some t c =
    let shows = shown_by c.args.prefix.now c.args.positions.now in
    let child = c.in-Some-Child in
    let fact = find_shows c.args.prefix.now c.args.positions.now c.args.list c.args.position c.node_of.result.now c.find.result c.requires.settled c.node_of.ensures.node c.node_of.ensures.list c.find.ensures.spotted in
    let some : slice_get (shows child.other) child.at ≡ Some c.in-Some.parent.now = sym c.element-in-Some-Child.ensures ∙ ap option_copied c.in-Some.is in
    c.child.ensures
    ∙ (ap (λ xs. slice_get xs child.index) (sym (children_of child.model.now (shows child.other) child.at c.in-Some.parent.now some))
    ∙ (ap (λ o. spotted o shows) (sym (child.is ∙ ap Some child.field-0-is)) ∙ fact))
