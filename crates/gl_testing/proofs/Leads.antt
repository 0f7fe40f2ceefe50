-- Deltas that are built at their right end, and the old list made of the new one.
use Rattle.std.specs.Prelude.{◌≡◌, List, [], ◌∷◌, ◌++◌, map, refl}
use Rattle.std.proofs.Common.{ap, sym, ◌∙◌, subst}
use Rattle.spec_value.specs.Tree.{Tree}
use Rattle.spec_lists.specs.Piece.{Piece, kept, updated, deleted, inserted, inverted, normal}
use Rattle.spec_lists.specs.Leads.{LeadsFrom, applied, IsDelta}
use Rattle.spec_lists.proofs.DeltaLeads.{leads_back, leads_normal}
use Rattle.spec_lists.proofs.Made.{append_from}

pub row_more : (ps qs more : List Piece) (xs us xs2 ys ys2 : List Tree) → IsDelta ps xs ys → LeadsFrom qs us → more ≡ normal (ps ++ qs) → xs2 ≡ xs ++ us → ys2 ≡ ys ++ applied qs us → IsDelta more xs2 ys2
row_more ps qs more xs us xs2 ys ys2 h k e f g =
    let both = append_from ps qs xs us h.starts k in
    let plain = leads_normal (ps ++ qs) (xs ++ us) both.0 in
    let to : ys2 ≡ applied (normal (ps ++ qs)) (xs ++ us) = g ∙ (ap (λ zs. zs ++ applied qs us) h.ends ∙ (sym both.1 ∙ sym plain.1)) in
    let ByPieces : List Piece → Type 0 = λ rs. IsDelta rs xs2 ys2 in
    let ByOld : List Tree → Type 0 = λ zs. IsDelta (normal (ps ++ qs)) zs ys2 in
    subst ByPieces (sym e) (subst ByOld (sym f) (record { starts = plain.0; ends = to }))

-- a delta leads back from the list that it ends at
pub to_new : (ps : List Piece) (xs ys : List Tree) → IsDelta ps xs ys → LeadsFrom (map inverted ps) ys × (applied (map inverted ps) ys ≡ xs)
to_new ps xs ys h =
    let P : List Tree → Type 0 = λ zs. LeadsFrom (map inverted ps) zs × (applied (map inverted ps) zs ≡ xs) in
    subst P (sym h.ends) (leads_back ps xs h.starts)
