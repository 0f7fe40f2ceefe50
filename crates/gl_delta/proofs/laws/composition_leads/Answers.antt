use Rattle.spec_lists.proofs.DeltaLeads.{composition_leads as law}
use Rattle.gl_delta.proofs.laws.composition_leads.Goals as goal

pub returns : goal.returns
returns c = law
