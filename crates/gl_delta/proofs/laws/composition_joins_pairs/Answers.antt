use Rattle.spec_lists.proofs.Joins.{composition_joins_pairs as law}
use Rattle.gl_delta.proofs.laws.composition_joins_pairs.Goals as goal

pub returns : goal.returns
returns c = law
