use Rattle.std.proofs.Common.{length, subst}
use Rattle.std.specs.Prelude.{IfErr}
use Rattle.gl_graph.specs.Opening.{IsOver}
use Rattle.gl_graph.proofs.Openings.{over_is}
use Rattle.gl_graph.proofs.open.source_of.Goals as goal

pub returns-in-Err-clause-over : goal.returns-in-Err-clause-over
returns-in-Err-clause-over c =
    subst (λ r. IfErr r (IsOver c.args.limit (length c.args.rows.now))) c.in-Err.is (over_is c.make.result c.args.limit (length c.args.rows.now) c.make.ensures.too_long)
