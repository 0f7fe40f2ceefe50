use Rattle.spec_lang.proofs.Sortings.{same_key_equivalence}
use Rattle.gl_lang.proofs.order.key_classes.Goals as goal

pub returns : goal.returns
returns c = same_key_equivalence c.args.order.now
