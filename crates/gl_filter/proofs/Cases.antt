-- The two lists of a delta, each made of the other.
use Rattle.std.specs.Prelude.{◌≡◌, List, map}
use Rattle.spec_views.specs.Tree.{Tree}
use Rattle.spec_views.specs.Piece.{Piece, inverted}
use Rattle.spec_views.specs.Leads.{LeadsTo, applied, IsDelta}
use Rattle.gl_testing.proofs.Leads.{to_new}

-- a delta ends at its new list, and gives the old one when it is turned round
pub leads_to : (ps : List Piece) (xs ys : List Tree) → IsDelta ps xs ys → LeadsTo ps ys
leads_to ps xs ys h = (to_new ps xs ys h).0

pub old_again : (ps : List Piece) (xs ys : List Tree) → IsDelta ps xs ys → applied (map inverted ps) ys ≡ xs
old_again ps xs ys h = (to_new ps xs ys h).1
