use Rattle.gl_arranged.proofs.OldValues.{old_told}
use Rattle.gl_arranged.proofs.values.old_value.Goals as goal

pub returns : goal.returns
returns c = λ xs leads. old_told c.args.d.now.pieces xs c.args.source c.in-Value.value.now leads c.in-Value.ensures
