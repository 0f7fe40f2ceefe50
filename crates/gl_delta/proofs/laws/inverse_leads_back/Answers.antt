use Rattle.spec_lists.proofs.DeltaLeads.{inverse_leads_back as law}
use Rattle.gl_delta.proofs.laws.inverse_leads_back.Goals as goal

pub returns : goal.returns
returns c = law
