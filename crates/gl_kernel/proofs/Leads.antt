-- The old list of a delta, made of the new one.
use Rattle.std.specs.Prelude.{List, map, refl}
use Rattle.std.proofs.Common.{ap, ◌∙◌, subst}
use Rattle.spec_value.specs.Tree.{Tree}
use Rattle.spec_lists.specs.Piece.{Piece, inverted, normal, IsNormal}
use Rattle.spec_lists.specs.Delta.{inverse}
use Rattle.spec_lists.specs.Leads.{LeadsFrom, applied, IsDelta}
use Rattle.spec_lists.proofs.Normal.{inverted-inverted, normal_is}
use Rattle.spec_lists.proofs.Composition.{inverse_is}
use Rattle.spec_lists.proofs.DeltaLeads.{inverse_leads_back}

-- a delta that ends at a list leads to it from the list that it makes of it when it is turned round
pub from_new : (ps : List Piece) (ys : List Tree) → IsNormal ps → LeadsFrom (map inverted ps) ys → IsDelta ps (applied (map inverted ps) ys) ys
from_new ps ys n h =
    let xs = applied (map inverted ps) ys in
    let back : IsDelta (inverse (map inverted ps)) xs ys = inverse_leads_back (map inverted ps) ys xs (record { starts = h; ends = refl }) in
    let P : List Piece → Type 0 = λ qs. IsDelta qs xs ys in
    subst P (inverse_is (map inverted ps) ∙ (ap normal (inverted-inverted ps) ∙ normal_is ps n)) back
