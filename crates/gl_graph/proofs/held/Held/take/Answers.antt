use Rattle.std.proofs.Common.{sym, subst}
use Rattle.std.specs.Prelude.{IfErr}
use Rattle.spec_states.specs.Wave.{command as made_by}
use Rattle.gl_graph.specs.Held.{own_of_held}
use Rattle.gl_graph.specs.Spread.{IsRefusalOf}
use Rattle.gl_graph.proofs.held.Held.take.Goals as goal

pub returns-in-Transaction-clause-refused : goal.returns-in-Transaction-clause-refused
returns-in-Transaction-clause-refused c = λ input.
    subst (λ k. IfErr c.level.result (IsRefusalOf (own_of_held input k) (made_by c.args.command.now))) (sym c.in-Transaction.is) (c.level.ensures.refused input)

pub returns-in-Freezable-clause-refused : goal.returns-in-Freezable-clause-refused
returns-in-Freezable-clause-refused c = λ input.
    subst (λ k. IfErr c.freeze.result (IsRefusalOf (own_of_held input k) (made_by c.args.command.now))) (sym c.in-Freezable.is) (c.freeze.ensures.refused input)
