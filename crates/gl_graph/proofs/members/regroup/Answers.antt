use Rattle.std.proofs.Common.{sym, subst}
use Rattle.std.specs.Prelude.{IfErr}
use Rattle.gl_graph.specs.Nodes.{shown_by}
use Rattle.gl_graph.specs.Members.{IsRegroupStopped}
use Rattle.gl_graph.proofs.members.regroup.Goals as goal

pub returns-in-Attach-clause-stopped : goal.returns-in-Attach-clause-stopped
returns-in-Attach-clause-stopped c =
    let shows = shown_by c.args.prefix.now c.args.positions.now in
    subst (λ of. IfErr c.attach.result (IsRegroupStopped shows of c.args.list c.args.composite.now)) (sym c.in-Attach.is)
    (c.attach.ensures.stopped c.in-Attach.list)

pub returns-in-Detach-clause-stopped : goal.returns-in-Detach-clause-stopped
returns-in-Detach-clause-stopped c =
    let shows = shown_by c.args.prefix.now c.args.positions.now in
    subst (λ of. IfErr c.detach.result (IsRegroupStopped shows of c.args.list c.args.composite.now)) (sym c.in-Detach.is)
    (c.detach.ensures.stopped c.in-Detach.list)
