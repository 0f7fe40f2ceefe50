-- Laws over all deltas.
use Rattle.std.specs.Prelude.{◌≡◌, ◌↔◌, List}
use Rattle.std.specs.List.{Contains}
use Rattle.spec_value.specs.Tree.{Tree}
use Rattle.spec_lists.specs.Piece.{Piece, IsNormal, old_len, new_len, identity}
use Rattle.spec_lists.specs.Delta.{composed, inverse}
use Rattle.spec_lists.specs.Leads.{IsDelta}
use Rattle.spec_lists.specs.Sides.{sides}
use Rattle.spec_lists.specs.Pairs.{Pair, pairs, pairs_of_old, pairs_of_new, IsIncreasing, IsJoined}
use Rattle.spec_lists.specs.Changes.{changes, replay}

-- the changes of a delta from one list to another, replayed on the first, give the second
abbrev pub ReplayGivesNewList : Type 0
ReplayGivesNewList =
    (ps : List Piece) (xs ys : List Tree) → IsDelta ps xs ys → replay (changes ps) xs ≡ ys

-- composition leads on: from the first list to the last
abbrev pub CompositionLeads : Type 0
CompositionLeads =
    (p q : List Piece) (xs ys zs : List Tree) → IsDelta p xs ys → IsDelta q ys zs
    → IsDelta (composed p q) xs zs

-- the inverse leads back
abbrev pub InverseLeadsBack : Type 0
InverseLeadsBack =
    (p : List Piece) (xs ys : List Tree) → IsDelta p xs ys → IsDelta (inverse p) ys xs

-- A pair (i, k) is one of a composition exactly where some (i, j) is one of the first delta and (j, k) of the second;
-- it is updated where either is.
abbrev pub CompositionJoinsPairs : Type 0
CompositionJoinsPairs =
    (p q : List Piece) → new_len p ≡ old_len q → (both : Pair)
    → Contains (pairs (composed p q)) both
    ↔ ((first second : Pair) × Contains (pairs p) first × Contains (pairs q) second
    × IsJoined first second both)

-- composition is associative
abbrev pub CompositionIsAssociative : Type 0
CompositionIsAssociative =
    (p q r : List Piece) → new_len p ≡ old_len q → new_len q ≡ old_len r
    → composed (composed p q) r ≡ composed p (composed q r)

-- the identity is neutral on both sides
abbrev pub IdentityIsNeutral : Type 0
IdentityIsNeutral =
    (p : List Piece) → IsNormal p
    → (composed (identity (old_len p)) p ≡ p) × (composed p (identity (new_len p)) ≡ p)

-- the inverse of a composition is the composition of the inverses in turn
abbrev pub InverseOfComposition : Type 0
InverseOfComposition =
    (p q : List Piece) → new_len p ≡ old_len q
    → inverse (composed p q) ≡ composed (inverse q) (inverse p)

-- both sides of a delta tell its pairs, and these are strictly increasing on both sides
pub record TellsPairs (ps : List Piece) : Type 0 where
  pub by_old : pairs_of_old 0 (sides ps).old ≡ pairs ps
  pub by_new : pairs_of_new 0 (sides ps).new ≡ pairs ps
  pub increasing : IsIncreasing 0 0 (pairs ps)

abbrev pub SidesTellPairs : Type 0
SidesTellPairs = (ps : List Piece) → TellsPairs ps
