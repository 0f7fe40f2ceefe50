-- The deltas of open levels, the innermost first. What a frozen list keeps is one such delta.
use Rattle.std.specs.Prelude.{◌≡◌, ◌<◌, ⊤, ℕ, List, [], ◌∷◌, Option, Some, None, option_map}
use Rattle.spec_lists.specs.Piece.{old_len, new_len}
use Rattle.spec_lists.specs.Delta.{Delta, composed, inverse}
use Rattle.gl_held.specs.declared.transaction.Closed.{Closed}
use Rattle.gl_held.specs.declared.transaction.Closed.TheVariants.{Inner, Outer}

-- a level may begin with so many elements: as many as the innermost one has led to
abbrev pub BeginsWith : ℕ → List Delta → Type 0
BeginsWith len [] = ⊤
BeginsWith len (level ∷ levels) = len ≡ new_len level

-- each level begins where the next outer one has led to
abbrev pub AreJoined : List Delta → Type 0
AreJoined [] = ⊤
AreJoined (level ∷ levels) = BeginsWith (old_len level) levels × AreJoined levels

-- the levels once the innermost one has composed a delta
abbrev pub followed : List Delta → Delta → List Delta
followed [] d = []
followed (level ∷ levels) d = composed level d ∷ levels

-- what a frozen list keeps once it has
abbrev pub followed_since : Option Delta → Delta → Option Delta
followed_since None d = None
followed_since (Some since) d = Some (composed since d)

-- what a commit tells: the delta of the outermost level, if that is the one that it ends
abbrev pub told_at_commit : List Delta → Option Delta
told_at_commit [] = None
told_at_commit (level ∷ []) = Some level
told_at_commit (level ∷ outer ∷ levels) = None

abbrev pub told_by : Closed → Option Delta
told_by Inner = None
told_by (Outer d) = Some d.pieces

-- the delta that takes back what became of the source in the innermost level
abbrev pub taken_back : List Delta → Delta
taken_back [] = []
taken_back (level ∷ levels) = inverse level

-- how many elements the outermost level began with; these are shown
abbrev pub held_len : List Delta → Option ℕ
held_len [] = None
held_len (level ∷ []) = Some (old_len level)
held_len (level ∷ outer ∷ levels) = held_len (outer ∷ levels)

-- a position is that of a shown element, as far as levels tell
abbrev pub IsShown : ℕ → List Delta → Type 0
IsShown position levels = (len : ℕ) → held_len levels ≡ Some len → position < len
