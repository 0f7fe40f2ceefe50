use Rattle.spec_lists.proofs.Pairs.{sides_tell_pairs as law}
use Rattle.gl_delta.proofs.laws.sides_tell_pairs.Goals as goal

pub returns : goal.returns
returns c = law
