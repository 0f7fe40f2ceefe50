use Rattle.std.proofs.Common.{◌∙◌, ◌<◌, ap, sym, subst}
use Rattle.std.specs.Prelude.{slice_index}
use Rattle.std.specs.List.{Contains}
use Rattle.spec_states.specs.State.{inputs}
use Rattle.gl_graph.specs.Nodes.{own_of, shown_by}
use Rattle.gl_graph.specs.Lens.{measured, OnLen}
use Rattle.gl_graph.proofs.Shown.{measured_shows, spot_before}
use Rattle.gl_graph.proofs.seen.+shown_len.Goals as goal

pub shown_len-requires : goal.shown_len-requires
shown_len-requires t c =
    let node = c.node_of.result.now in
    let on = subst (OnLen (Contains (inputs (own_of node.keeps)))) c.in-As.is c.len.ensures.on in
    let known = spot_before c.args.prefix.now c.args.positions.now c.args.list c.in-As.other node c.requires.settled c.node_of.ensures.node on in
    (subst (λ m. slice_index c.args.positions.now c.in-As.other < m) c.decreases known.1, (c.requires.settled, known.0))

pub returns-in-Is : goal.returns-in-Is
returns-in-Is t c =
    let shows = shown_by c.args.prefix.now c.args.positions.now in
    ap (λ o. measured o shows) (sym c.in-Is.is)
    ∙ measured_shows c.args.prefix.now c.args.positions.now c.args.list c.node_of.result.now c.len.result c.requires.settled c.node_of.ensures.node c.node_of.ensures.list c.len.ensures.measured

pub returns-in-As : goal.returns-in-As
returns-in-As t c =
    let shows = shown_by c.args.prefix.now c.args.positions.now in
    c.shown_len.ensures
    ∙ (ap (λ o. measured o shows) (sym c.in-As.is)
    ∙ measured_shows c.args.prefix.now c.args.positions.now c.args.list c.node_of.result.now c.len.result c.requires.settled c.node_of.ensures.node c.node_of.ensures.list c.len.ensures.measured)
