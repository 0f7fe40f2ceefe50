-- What the lists of a state show, each computed from what its inputs show.
use Rattle.std.specs.Prelude.{◌≡◌, ◌<◌, ⊤, ℕ, Bool, true, false, List, [], ◌∷◌, length, map, unwrap_or, slice_get, slice_set, fold, Option, Some, None}
use Rattle.spec_value.specs.Tree.{Tree}
use Rattle.spec_lists.specs.Delta.{Delta}
use Rattle.spec_lists.specs.Leads.{undone}
use Rattle.spec_views.specs.View.{view_of}
use Rattle.spec_views.specs.Composite.{composite_view}
use Rattle.spec_states.specs.State.{Own, State, source, over, composite, transaction, freezable, proxy, own_at, dependency_order}

-- the view of a list that isn't held, over what each number's list shows
abbrev pub view : Own → (ℕ → List Tree) → List Tree
view (source contents) shows = contents
view (over input v) shows = view_of v (shows input)
view (composite needed members) shows = composite_view members shows
view (transaction input levels) shows = shows input
view (freezable input since) shows = shows input
view (proxy input kept queue) shows = shows input

-- whether a list is held: an open transaction list, a frozen list, or a proxy
abbrev pub is_held : Own → Bool
is_held (transaction input (level ∷ levels)) = true
is_held (freezable input (Some since)) = true
is_held (proxy input kept queue) = true
is_held other = false

abbrev pub IsHeld : Own → Type 0
IsHeld own = is_held own ≡ true

-- the list from which deltas led to this one, the last of them first
abbrev pub undone_all : List Delta → List Tree → List Tree
undone_all [] xs = xs
undone_all (d ∷ ds) xs = undone_all ds (undone d xs)

-- What a list shows: a held one what it showed when it began to be held, and any other its view. What a frozen list or an open
-- transaction list showed isn't kept, but follows from what its input shows now and from what became of that since.
abbrev pub shown_of : Own → (ℕ → List Tree) → List Tree
shown_of (source contents) shows = contents
shown_of (over input v) shows = view_of v (shows input)
shown_of (composite needed members) shows = composite_view members shows
shown_of (transaction input levels) shows = undone_all levels (shows input)
shown_of (freezable input None) shows = shows input
shown_of (freezable input (Some since)) shows = undone since (shows input)
shown_of (proxy input kept queue) shows = kept

-- a table says what each list shows, by number; past its end nothing is shown
abbrev pub Table : Type 0
Table = List (List Tree)

abbrev pub shows_in : Table → ℕ → List Tree
shows_in t list = unwrap_or (slice_get t list) []

-- the table once this list shows what it does
abbrev pub settle_one : State → Table → ℕ → Table
settle_one s t list = slice_set t list (shown_of (own_at s list) (shows_in t))

-- the table once these lists do, one after another
abbrev pub settled : State → Table → List ℕ → Table
settled s t lists = fold (settle_one s) t lists

-- nothing is shown yet
abbrev pub nothing_shown : State → Table
nothing_shown s = map (λ own. []) s

-- what every list of the state shows
abbrev pub table_of : State → Table
table_of s = settled s (nothing_shown s) (dependency_order s)

-- what one list of the state shows
abbrev pub shown : State → ℕ → List Tree
shown s list = shows_in (table_of s) list

-- each list that isn't held shows its view of what its inputs show
abbrev pub EachShowsItsView : State → Type 0
EachShowsItsView s =
    (list : ℕ) → list < length s → ¬ IsHeld (own_at s list)
    → shown s list ≡ view (own_at s list) (shown s)
