use Rattle.std.proofs.Common.{◌∙◌, ap, sym, subst}
use Rattle.std.specs.List.{Contains}
use Rattle.spec_states.specs.State.{inputs}
use Rattle.gl_graph.specs.Nodes.{own_of, shown_by, IsPlaced}
use Rattle.gl_graph.specs.Lens.{measured, OnLen}
use Rattle.gl_graph.proofs.Inputs.{each_input}
use Rattle.gl_graph.proofs.seen.len_of.Goals as goal

pub shown_len-requires-clause-placed : goal.shown_len-requires-clause-placed
shown_len-requires-clause-placed c =
    each_input (IsPlaced c.args.prefix.now c.args.positions.now) c.args.keeps.now c.in-As.other c.requires.later
    (subst (OnLen (Contains (inputs (own_of c.args.keeps.now)))) c.in-As.is c.len.ensures.on)

pub returns-in-Is : goal.returns-in-Is
returns-in-Is c = λ stands.
    let shows = shown_by c.args.prefix.now c.args.positions.now in
    ap (λ o. measured o shows) (sym c.in-Is.is) ∙ c.len.ensures.measured shows stands

pub returns-in-As : goal.returns-in-As
returns-in-As c = λ stands.
    let shows = shown_by c.args.prefix.now c.args.positions.now in
    c.shown_len.ensures ∙ (ap (λ o. measured o shows) (sym c.in-As.is) ∙ c.len.ensures.measured shows stands)
