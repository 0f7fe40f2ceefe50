use Rattle.std.proofs.Common.{sym, subst}
use Rattle.std.specs.Prelude.{IfOk, IfErr}
use Rattle.gl_graph.specs.Nodes.{own_of, shown_by}
use Rattle.gl_graph.specs.Causes.{cause_of}
use Rattle.gl_graph.specs.Spread.{IsOwnStep, IsOwnStopped}
use Rattle.gl_graph.proofs.keeps.Keeps.begin.Goals as goal

pub returns-in-Command-clause-stopped : goal.returns-in-Command-clause-stopped
returns-in-Command-clause-stopped g c = λ limit limited.
    let shows = shown_by c.args.prefix.now c.args.positions.now in
    subst (λ k. IfErr c.take.result (IsOwnStopped limit shows (cause_of k) c.args.list (own_of c.args.self.now))) (sym c.in-Command.is) (c.take.ensures.stopped limit limited)

pub returns-in-Pump-clause-ok : goal.returns-in-Pump-clause-ok
returns-in-Pump-clause-ok g c =
    let shows = shown_by c.args.prefix.now c.args.positions.now in
    subst (λ k. IfOk c.pump.result (IsOwnStep shows (cause_of k) c.args.list c.args.self.now c.pump.new.self)) (sym c.in-Pump.is) (c.pump.ensures.ok shows c.args.list c.in-Pump.field-0)
