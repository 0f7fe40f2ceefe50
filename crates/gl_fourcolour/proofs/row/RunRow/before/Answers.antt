use Rattle.gl_fourcolour.proofs.Weights.{before_is}
use Rattle.gl_fourcolour.proofs.row.RunRow.before.Goals as goal

pub returns : goal.returns
returns c = λ prefix back is position_is. before_is c.args.self.now.runs prefix back c.args.position c.get.result is position_is c.if-position-eq0.false c.get.ensures
