-- Bytes that may stand in one line of a text: they are UTF-8, and none is a line feed.
use Rattle.std.proofs.Common.{◌≡◌, ℕ, ◌==◌, false, List, [], ◌∷◌, ◌++◌}
use Rattle.std.specs.Str.{IsUtf8}
use Rattle.std.specs.List.{AllByRecursion}
use Rattle.std.proofs.lemmas.Str.{IsUtf8-append, IsUtf8-nil}

-- not a line feed
abbrev pub IsNoFeed : ℕ → Type 0
IsNoFeed b = (b == 10) ≡ false

abbrev pub HasNoFeed : List ℕ → Type 0
HasNoFeed bs = AllByRecursion IsNoFeed bs

pub record IsFine (bs : List ℕ) : Type 0 where
  pub utf8 : IsUtf8 bs
  pub no_feed : HasNoFeed bs

pub no_feed_append : (u v : List ℕ) → HasNoFeed u → HasNoFeed v → HasNoFeed (u ++ v)
no_feed_append [] v h k = k
no_feed_append (b ∷ u) v h k = (h.0, no_feed_append u v h.1 k)

pub fine_nil : IsFine []
fine_nil = record { utf8 = IsUtf8-nil; no_feed = tt }

pub fine_append : (u v : List ℕ) → IsFine u → IsFine v → IsFine (u ++ v)
fine_append u v h k =
    record { utf8 = IsUtf8-append u v h.utf8 k.utf8; no_feed = no_feed_append u v h.no_feed k.no_feed }
