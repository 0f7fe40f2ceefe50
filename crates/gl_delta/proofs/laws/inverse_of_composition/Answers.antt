use Rattle.spec_lists.proofs.Composition.{inverse_of_composition as law}
use Rattle.gl_delta.proofs.laws.inverse_of_composition.Goals as goal

pub returns : goal.returns
returns c = law
