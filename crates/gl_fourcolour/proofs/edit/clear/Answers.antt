use Rattle.std.proofs.Common.{arith}
use Rattle.gl_fourcolour.proofs.Removals.{clearing_more, cleared}
use Rattle.gl_fourcolour.proofs.edit.clear.Goals as goal

pub loop-left-preserved : goal.loop-left-preserved
loop-left-preserved g c = clearing_more g.row.C c.args.at c.args.n c.loop-left.left c.cut-left.result _ _ _ c.loop-left.invariant c.cut-left.ensures.few c.cut-left.ensures.cuts

pub returns : goal.returns
returns g c = cleared g.row.C c.args.at c.args.n c.loop-left.left _ _ c.loop-left.invariant (omega arith)
