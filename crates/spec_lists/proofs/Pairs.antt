-- Both sides of a delta tell its pairs.
use Rattle.std.proofs.Common.{◌≡◌, ℕ, suc, ◌≤◌, List, [], ◌∷◌, refl, ap, arith}
use Rattle.spec_lists.specs.Piece.{Piece, kept, updated, deleted, inserted}
use Rattle.spec_lists.specs.Sides.{olds, news}
use Rattle.spec_lists.specs.Pairs.{Pair, pairs_from, pairs_of_old, pairs_of_new, IsIncreasing}
use Rattle.spec_lists.specs.Laws.{SidesTellPairs}

pushed : (u : Pair) (us vs : List Pair) → us ≡ vs → u ∷ us ≡ u ∷ vs
pushed u us vs e = ap (λ ws. u ∷ ws) e

by_olds : (ps : List Piece) (i j : ℕ) → pairs_of_old i (olds j ps) ≡ pairs_from i j ps
by_olds [] i j = refl
by_olds (kept ∷ ps) i j = pushed _ _ _ (by_olds ps (suc i) (suc j))
by_olds (updated v w ∷ ps) i j = pushed _ _ _ (by_olds ps (suc i) (suc j))
by_olds (deleted v ∷ ps) i j = by_olds ps (suc i) j
by_olds (inserted w ∷ ps) i j = by_olds ps i (suc j)

by_news : (ps : List Piece) (i j : ℕ) → pairs_of_new j (news i ps) ≡ pairs_from i j ps
by_news [] i j = refl
by_news (kept ∷ ps) i j = pushed _ _ _ (by_news ps (suc i) (suc j))
by_news (updated v w ∷ ps) i j = pushed _ _ _ (by_news ps (suc i) (suc j))
by_news (deleted v ∷ ps) i j = by_news ps (suc i) j
by_news (inserted w ∷ ps) i j = by_news ps i (suc j)

from_lower : (us : List Pair) (i j k l : ℕ) → k ≤ i → l ≤ j → IsIncreasing i j us → IsIncreasing k l us
from_lower [] i j k l a b h = tt
from_lower (u ∷ us) i j k l a b h = (omega (arith, h.0), omega (arith, h.1), h.2)

-- the pairs of pieces rise from the places where these begin
pub rising : (ps : List Piece) (i j : ℕ) → IsIncreasing i j (pairs_from i j ps)
rising [] i j = tt
rising (kept ∷ ps) i j = (omega arith, omega arith, rising ps (suc i) (suc j))
rising (updated v w ∷ ps) i j = (omega arith, omega arith, rising ps (suc i) (suc j))
rising (deleted v ∷ ps) i j = from_lower (pairs_from (suc i) j ps) (suc i) j i j (omega arith) (omega arith) (rising ps (suc i) j)
rising (inserted w ∷ ps) i j = from_lower (pairs_from i (suc j) ps) i (suc j) i j (omega arith) (omega arith) (rising ps i (suc j))

pub sides_tell_pairs : SidesTellPairs
sides_tell_pairs ps = record { by_old = by_olds ps 0 0; by_new = by_news ps 0 0; increasing = rising ps 0 0 }
