use Rattle.std.proofs.Common.{arith}
use Rattle.gl_fourcolour.proofs.Weights.{total-sum}
use Rattle.gl_fourcolour.proofs.Spots.{spot}
use Rattle.gl_fourcolour.proofs.edit.locate.Goals as goal

pub find-found-requires : goal.find-found-requires
find-found-requires g c = omega (arith, total-sum g.row.C c.args.row.now.runs c.requires.few_colours c.requires.maximal, c.requires.small)

pub returns : goal.returns
returns g c = spot g.row.C c.all.result.bits c.args.at c.find-found.result.position c.total.result c.args.row.now.runs c.find-found.result.before c.find-found.result.run c.requires.few_colours c.requires.maximal (rw c.all.ensures) c.find-found.ensures c.total.ensures
