-- A wave: a delta begins at a list, and every list that depends on it follows, in the dependency order.
use Rattle.std.specs.Prelude.{◌==◌, ◌++◌, ℕ, List, [], ◌∷◌, length, map, insert, remove, drop, slice_set, slice_get, unwrap_or, fold, Bool, true, false, if◌then◌else◌, Option, Some, None}
use Rattle.std.specs.List.{range_with_len}
use Rattle.spec_value.specs.Tree.{Tree}
use Rattle.spec_lists.specs.Piece.{inserted, deleted}
use Rattle.spec_lists.specs.Delta.{Delta, no_change, composed, inverse, one_insert, one_set, one_remove}
use Rattle.spec_lists.specs.Leads.{applied}
use Rattle.spec_views.specs.Source.{element_at}
use Rattle.spec_views.specs.View.{View, view_of, Parameter, matcher, order, bounds, func, with_parameter, follow_of, change_of}
use Rattle.spec_views.specs.Composite.{composite_view, composite_follow, attach_told, detach_told}
use Rattle.gl_lines.specs.declared.plan.Command.{Command}
use Rattle.gl_lines.specs.declared.plan.Command.TheVariants as c
use Rattle.spec_plans.specs.Plan.{origin as about}
use Rattle.spec_states.specs.State.{Own, State, source, over, composite, transaction, freezable, proxy, own_at, dependency_order}
use Rattle.spec_states.specs.Shown.{Table, shows_in, is_held, table_of, shown}

-- what makes a wave: a command, or the pump of a proxy, by its number among the lists
pub data Cause : Type 0 where
  command : Command → Cause
  pump : ℕ → Cause

-- the list that a cause is about
abbrev pub subject : Cause → ℕ
subject (command c) = about c
subject (pump list) = list

-- ---- what the list keeps that the wave is about

-- a source's contents once they are edited
abbrev pub edited : Command → List Tree → List Tree
edited (c.Add list value) xs = xs ++ value ∷ []
edited (c.AddAll list values) xs = xs ++ values
edited (c.Insert list index value) xs = insert xs index value
edited (c.Set list index value) xs = slice_set xs index value
edited (c.Remove list index) xs = remove xs index
edited (c.Clear list) xs = []
edited other xs = xs

-- the parameter that a command gives
abbrev pub parameter_of : Command → Option Parameter
parameter_of (c.Match list m) = Some (matcher m)
parameter_of (c.Order list keys) = Some (order keys)
parameter_of (c.Bounds list b) = Some (bounds b)
parameter_of (c.Apply list f) = Some (func f)
parameter_of other = None

abbrev pub view_after : Option Parameter → View → View
view_after None view = view
view_after (Some given) view = with_parameter given view

-- the members of a composite
abbrev pub members_after : Command → List ℕ → List ℕ
members_after (c.Attach list member) members = members ++ member ∷ []
members_after (c.Detach list index) members = remove members index
members_after other members = members

-- the levels once the innermost is composed into the next outer one; the outermost one ends
abbrev pub committed : List Delta → List Delta
committed [] = []
committed (level ∷ []) = []
committed (level ∷ outer ∷ levels) = composed outer level ∷ levels

-- the open levels of a transaction list whose source has n elements
abbrev pub levels_after : Command → ℕ → List Delta → List Delta
levels_after (c.Begin list) n levels = no_change n ∷ levels
levels_after (c.Commit list) n levels = committed levels
levels_after (c.Rollback list) n levels = drop 1 levels
levels_after other n levels = levels

-- what a freezable list keeps whose input has n elements
abbrev pub since_after : Command → ℕ → Option Delta → Option Delta
since_after (c.Freeze list) n since = Some (no_change n)
since_after (c.Thaw list) n since = None
since_after other n since = since

-- what a list keeps after a command that is about it, over what each number's list shows
abbrev pub kept_after : Command → (ℕ → List Tree) → Own → Own
kept_after c shows (source contents) = source (edited c contents)
kept_after c shows (over input view) = over input (view_after (parameter_of c) view)
kept_after c shows (composite needed members) = composite needed (members_after c members)
kept_after c shows (transaction input levels) =
    transaction input (levels_after c (length (shows input)) levels)
kept_after c shows (freezable input since) =
    freezable input (since_after c (length (shows input)) since)
kept_after c shows (proxy input kept queue) = proxy input kept queue

-- the first delta that a proxy is yet to take; without one nothing changes
abbrev pub next_of_queue : List Tree → List Delta → Delta
next_of_queue kept [] = no_change (length kept)
next_of_queue kept (d ∷ queue) = d

-- what a list keeps after its pump
abbrev pub pumped : Own → Own
pumped (proxy input kept queue) =
    proxy input (applied (next_of_queue kept queue) kept) (drop 1 queue)
pumped other = other

-- what the list keeps that a wave is about
abbrev pub kept_by : Cause → (ℕ → List Tree) → Own → Own
kept_by (command c) shows own = kept_after c shows own
kept_by (pump list) shows own = pumped own

-- ---- where a wave begins, and with which delta

-- the delta of a source's contents that are edited: old places are paired plainly but for the one that is set, which is
-- updated, and those that are removed
abbrev pub edit : Command → List Tree → Delta
edit (c.Add list value) xs = one_insert (length xs) (length xs) value
edit (c.AddAll list values) xs = no_change (length xs) ++ map inserted values
edit (c.Insert list index value) xs = one_insert (length xs) index value
edit (c.Set list index value) xs = one_set (length xs) index (element_at xs index) value
edit (c.Remove list index) xs = one_remove (length xs) index (element_at xs index)
edit (c.Clear list) xs = map deleted xs
edit other xs = no_change (length xs)

-- the delta of a list over one input that is given a parameter, and of a composite that gets or loses a member
abbrev pub parameter_change : Option Parameter → View → List Tree → Delta
parameter_change None view xs = no_change (length (view_of view xs))
parameter_change (Some given) view xs = change_of given view xs

abbrev pub members_change : Command → List ℕ → (ℕ → List Tree) → Delta
members_change (c.Attach list member) members shows = attach_told members shows member
members_change (c.Detach list index) members shows = detach_told members shows index
members_change other members shows = no_change (length (composite_view members shows))

-- where a command begins a wave that is about a list, by what that list keeps
abbrev pub beginning : Command → ℕ → Own → Option ℕ
beginning (c.Begin list) number own = None
beginning (c.Freeze list) number own = None
beginning (c.Show list) number own = None
beginning (c.Commit list) number (transaction input (level ∷ [])) = Some number
beginning (c.Commit list) number own = None
beginning (c.Rollback list) number (transaction input levels) = Some input
beginning (c.Rollback list) number own = None
beginning other number own = Some number

-- the delta with which it begins
abbrev pub first_delta : Command → Own → (ℕ → List Tree) → Delta
first_delta c (source contents) shows = edit c contents
first_delta c (over input view) shows = parameter_change (parameter_of c) view (shows input)
first_delta c (composite needed members) shows = members_change c members shows
first_delta (c.Rollback list) (transaction input (level ∷ levels)) shows = inverse level
first_delta c (transaction input (level ∷ levels)) shows = level
first_delta c (transaction input []) shows = no_change (length (shows input))
first_delta c (freezable input (Some since)) shows = since
first_delta c (freezable input None) shows = no_change (length (shows input))
first_delta c (proxy input kept queue) shows = no_change (length kept)

-- the list whose delta begins a wave, if one does
abbrev pub begins : Cause → Own → Option ℕ
begins (command c) own = beginning c (about c) own
begins (pump list) own = Some list

-- that delta, by what the list keeps that the wave is about
abbrev pub begun_with : Cause → Own → (ℕ → List Tree) → Delta
begun_with (command c) own shows = first_delta c own shows
begun_with (pump list) (proxy input kept queue) shows = next_of_queue kept queue
begun_with (pump list) own shows = no_change (length (shows list))

-- ---- the deltas of all lists

-- the delta of a list that isn't held, over what each number's list showed and its delta
abbrev pub follow : Own → (ℕ → List Tree) → (ℕ → Delta) → Delta
follow (source contents) shows delta = no_change (length contents)
follow (over input view) shows delta = follow_of view (shows input) (delta input)
follow (composite needed members) shows delta = composite_follow members delta
follow (transaction input levels) shows delta = delta input
follow (freezable input since) shows delta = delta input
follow (proxy input kept queue) shows delta = no_change (length kept)

-- a delta for each list, by number
abbrev pub Deltas : Type 0
Deltas = List Delta

abbrev pub delta_in : Deltas → ℕ → Delta
delta_in deltas list = unwrap_or (slice_get deltas list) []

-- whether a list is the one of that number
abbrev pub is_at : Option ℕ → ℕ → Bool
is_at None list = false
is_at (Some number) list = list == number

-- the delta of a list: the one with which the wave begins; a list that is held stays; any other follows
abbrev pub delta_by : Bool → Bool → Delta → Delta → Delta → Delta
delta_by true held first stay followed = first
delta_by false true first stay followed = stay
delta_by false false first stay followed = followed

-- the delta of a list in a wave
abbrev pub wave_delta : Cause → State → (ℕ → List Tree) → ℕ → (ℕ → Delta) → Delta
wave_delta cause s shows list delta =
    delta_by (is_at (begins cause (own_at s (subject cause))) list) (is_held (own_at s list))
    (begun_with cause (own_at s (subject cause)) shows) (no_change (length (shows list)))
    (follow (own_at s list) shows delta)

-- the deltas once this list has its own
abbrev pub settle_delta : State → Cause → Table → Deltas → ℕ → Deltas
settle_delta s cause t deltas list =
    slice_set deltas list (wave_delta cause s (shows_in t) list (delta_in deltas))

-- nothing changes
abbrev pub unchanged : Table → Deltas
unchanged t = map (λ xs. no_change (length xs)) t

-- the delta of every list in a wave, in the dependency order
abbrev pub wave_deltas : State → Cause → Deltas
wave_deltas s cause =
    fold (settle_delta s cause (table_of s)) (unchanged (table_of s)) (dependency_order s)

-- ---- what the lists keep after it

-- What a list keeps that a wave isn't about: a source what its delta makes of its contents; an open transaction list composes the
-- delta of its source into the innermost level, and a frozen list that of its input into the delta since then.
abbrev pub kept_later : ℕ → Own → (ℕ → Delta) → Own
kept_later list (source contents) delta = source (applied (delta list) contents)
kept_later list (transaction input (level ∷ levels)) delta =
    transaction input (composed level (delta input) ∷ levels)
kept_later list (freezable input (Some since)) delta =
    freezable input (Some (composed since (delta input)))
kept_later list other delta = other

abbrev pub own_after : Cause → State → (ℕ → List Tree) → (ℕ → Delta) → ℕ → Own
own_after cause s shows delta list =
    if list == subject cause then kept_by cause shows (own_at s list)
    else kept_later list (own_at s list) delta

-- the state after a wave
abbrev pub wave : State → Cause → State
wave s cause =
    map (own_after cause s (shown s) (delta_in (wave_deltas s cause))) (range_with_len 0 (length s))
