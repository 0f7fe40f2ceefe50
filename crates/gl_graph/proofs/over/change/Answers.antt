use Rattle.std.proofs.Common.{◌≡◌, subst}
use Rattle.std.specs.Prelude.{IfOk, OnOk}
use Rattle.gl_source.specs.Model.{DeltaModel}
use Rattle.spec_states.specs.Wave.{parameter_of, parameter_change}
use Rattle.gl_graph.specs.declared.derived.DerivedUndo.{DerivedUndo}
use Rattle.gl_graph.specs.Derived.{view_of_derived, StandsFor}
use Rattle.gl_graph.specs.Nodes.{shown_by}
use Rattle.gl_graph.specs.Kept.{Kept}
use Rattle.gl_graph.proofs.over.change.Goals as goal

pub returns-clause-delta : goal.returns-clause-delta
returns-clause-delta g c =
    subst (λ (k : Kept). IfOk c.change.result (λ (told : DeltaModel × DerivedUndo). told.0.pieces
    ≡ parameter_change (parameter_of c.args.command.now) (view_of_derived c.args.derived.now) (shown_by k.prefix k.positions k.list))) c.see-shelf.ensures.seen c.change.ensures.delta

pub returns-clause-stands : goal.returns-clause-stands
returns-clause-stands g c =
    subst (λ (k : Kept). OnOk c.change.result (StandsFor c.change.new.self (shown_by k.prefix k.positions k.list))) c.see-shelf.ensures.seen c.change.ensures.stands
