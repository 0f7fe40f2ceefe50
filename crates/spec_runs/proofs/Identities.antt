-- A delta that changes nothing leaves the list.
use Rattle.std.proofs.Common.{◌≡◌, ◌∙◌, true, List, [], ◌∷◌, refl, ap, arith}
use Rattle.std.proofs.lemmas.Bool.{eqb-true}
use Rattle.spec_value.specs.Tree.{Tree}
use Rattle.spec_lists.specs.Piece.{Piece, kept, updated, deleted, inserted}
use Rattle.spec_lists.specs.Changes.{changed_len}
use Rattle.spec_lists.specs.Delta.{Delta, is_identity}
use Rattle.spec_lists.specs.Leads.{LeadsFrom, IsDelta, applied}

pub applied_same : (ps : List Piece) (xs : List Tree) → LeadsFrom ps xs → changed_len ps ≡ 0
    → applied ps xs ≡ xs
applied_same [] [] h e = refl
applied_same [] (x ∷ xs) h e = absurd h
applied_same (kept ∷ ps) [] h e = absurd h
applied_same (kept ∷ ps) (x ∷ xs) h e = ap (λ ys. x ∷ ys) (applied_same ps xs h e)
applied_same (updated v w ∷ ps) xs h e = absurd (omega (arith, e))
applied_same (deleted v ∷ ps) xs h e = absurd (omega (arith, e))
applied_same (inserted w ∷ ps) xs h e = absurd (omega (arith, e))

pub identity_stays : (d : Delta) (xs ys : List Tree) → IsDelta d xs ys → is_identity d ≡ true
    → ys ≡ xs
identity_stays d xs ys h e = h.ends ∙ applied_same d xs h.starts (eqb-true (changed_len d) 0 e)
