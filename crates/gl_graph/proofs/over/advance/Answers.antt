use Rattle.std.proofs.Common.{◌≡◌, subst}
use Rattle.std.specs.Prelude.{IfOk, IfErr, OnOk}
use Rattle.gl_source.specs.Model.{DeltaModel}
use Rattle.spec_states.specs.Leads.{undone}
use Rattle.spec_states.specs.View.{follow_of}
use Rattle.gl_graph.specs.declared.derived.DerivedUndo.{DerivedUndo}
use Rattle.gl_graph.specs.Derived.{view_of_derived, StandsFor, IsOver}
use Rattle.gl_graph.specs.Nodes.{shown_by}
use Rattle.gl_graph.specs.Kept.{Kept}
use Rattle.gl_graph.proofs.over.advance.Goals as goal

pub returns-clause-delta : goal.returns-clause-delta
returns-clause-delta g c =
    subst (λ (k : Kept). IfOk c.advance.result (λ (told : DeltaModel × DerivedUndo). told.0.pieces
    ≡ follow_of (view_of_derived c.args.derived.now) (undone c.args.d.now.pieces (shown_by k.prefix k.positions k.list)) c.args.d.now.pieces)) c.see-shelf.ensures.seen c.advance.ensures.delta

pub returns-clause-stands : goal.returns-clause-stands
returns-clause-stands g c =
    subst (λ (k : Kept). OnOk c.advance.result (StandsFor c.advance.new.self (shown_by k.prefix k.positions k.list))) c.see-shelf.ensures.seen c.advance.ensures.stands

pub returns-clause-over : goal.returns-clause-over
returns-clause-over g c =
    subst (λ (k : Kept). IfErr c.advance.result (IsOver c.args.derived.now (shown_by k.prefix k.positions k.list))) c.see-shelf.ensures.seen c.advance.ensures.over
