use Rattle.spec_lists.proofs.Composition.{identity_is_neutral as law}
use Rattle.gl_delta.proofs.laws.identity_is_neutral.Goals as goal

pub returns : goal.returns
returns c = law
