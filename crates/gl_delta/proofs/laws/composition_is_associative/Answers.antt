use Rattle.spec_lists.proofs.Composition.{composition_is_associative as law}
use Rattle.gl_delta.proofs.laws.composition_is_associative.Goals as goal

pub returns : goal.returns
returns c = law
