-- Laws over all runs: what entries do to the lists, what listeners hear of it, and what proxies show.
use Rattle.std.specs.Prelude.{◌≡◌, ◌<◌, ◌==◌, ◌++◌, ℕ, if◌then◌else◌, List, [], ◌∷◌, length, Some, slice_get}
use Rattle.spec_value.specs.Tree.{Tree}
use Rattle.spec_lists.specs.Delta.{Delta, is_identity}
use Rattle.spec_lists.specs.Leads.{IsDelta, applied}
use Rattle.spec_lists.specs.Changes.{changes, replay}
use Rattle.spec_plans.specs.Edges.{DependsOn}
use Rattle.gl_outside.specs.declared.gate.Actor.{Actor}
use Rattle.gl_lines.specs.declared.plan.ListKind.TheVariants as kinds
use Rattle.gl_lines.specs.declared.plan.ListDecl.{ListDecl}
use Rattle.gl_lines.specs.declared.plan.ListenerDecl.{ListenerDecl}
use Rattle.gl_lines.specs.declared.plan.Command.{Command}
use Rattle.spec_plans.specs.Plan.{Plan, commands_of, listener_edges, proxies_of}
use Rattle.spec_states.specs.State.{State, own_at}
use Rattle.spec_states.specs.Shown.{IsHeld, shown}
use Rattle.spec_states.specs.Step.{step}
use Rattle.spec_runs.specs.Section.{state_after}
use Rattle.spec_runs.specs.Entry.{taken_by}
use Rattle.spec_runs.specs.Telling.{Telling}
use Rattle.spec_runs.specs.Run.{run, shown_after}
use Rattle.spec_runs.specs.Fits.{Fits, queue_of}
use Rattle.spec_runs.specs.Prefix.{entry_delta, prefix}

-- A list that is held after a command shows what it showed before it. So a frozen list shows what it showed at its freeze, and an
-- open transaction list what it showed at its outermost begin.
abbrev pub HeldStay : ℕ → State → Command → Type 0
HeldStay limit s c = (list : ℕ) → list < length s → IsHeld (own_at (step limit s c).state list)
    → shown (step limit s c).state list ≡ shown s list

-- so it is at each command of each section that a writer takes after an order
abbrev pub EachHeldStays : Plan → Type 0
EachHeldStays p = (order : List Actor) (writer : ℕ) (before later : List Command) (c : Command)
    → commands_of p writer (taken_by writer order) ≡ before ++ c ∷ later
    → HeldStay p.limit (state_after p.limit (run p order).state before) c

-- what was told to a listener, of these tellings: the deltas in the order told
abbrev pub told_to : ℕ → List Telling → List Delta
told_to listener [] = []
told_to listener (t ∷ ts) =
    if t.listener == listener then t.delta ∷ told_to listener ts else told_to listener ts

-- the tellings of the entry at a place, of these tellings
abbrev pub told_at : ℕ → List Telling → List Telling
told_at place [] = []
told_at place (t ∷ ts) = if t.place == place then t ∷ told_at place ts else told_at place ts

-- the changes of the deltas made to a list, one delta after another
abbrev pub replay_all : List Delta → List Tree → List Tree
replay_all [] xs = xs
replay_all (d ∷ ds) xs = replay_all ds (replay (changes d) xs)

-- a listener is told the delta of its list, unless that is the identity
abbrev pub heard : Delta → List Delta
heard delta = if is_identity delta then [] else delta ∷ []

-- What a listener hears of its list in an entry after others: the entry's delta leads from what the list showed before
-- to what it shows after; it is told once where it isn't the identity, and else nothing is told, and the list is as it
-- was.
pub record HearsEntry (p : Plan) (order : List Actor) (a : Actor) (listener list : ℕ) : Type 0 where
  pub leads : IsDelta (entry_delta p order a list) (shown_after p order list)
      (shown_after p (order ++ a ∷ []) list)
  pub once : told_to listener (told_at (length order) (run p (order ++ a ∷ [])).told)
      ≡ heard (entry_delta p order a list)
  pub else_same : told_to listener (told_at (length order) (run p (order ++ a ∷ [])).told) ≡ []
      → shown_after p (order ++ a ∷ []) list ≡ shown_after p order list

-- Each listener hears each entry, and all that it was told in a run, replayed on what its list showed at the opening,
-- gives what the list shows.
pub record Hears (p : Plan) (listener list : ℕ) : Type 0 where
  pub entries : (order : List Actor) (a : Actor) → HearsEntry p order a listener list
  pub replays : (order : List Actor)
      → replay_all (told_to listener (run p order).told) (shown_after p [] list)
      ≡ shown_after p order list

-- each listener of a plan hears of its list
abbrev pub EachHears : Plan → Type 0
EachHears p =
    (listener : ℕ) (d : ListenerDecl) → slice_get p.listeners listener ≡ Some d
    → Hears p listener d.list

-- of the tellings of an entry, one to a listener comes after one to a listener that it is told after
abbrev pub EachToldAfterNeeded : Plan → Type 0
EachToldAfterNeeded p = (order : List Actor) (place i j : ℕ) (later earlier : Telling)
    → slice_get (told_at place (run p order).told) i ≡ Some later
    → slice_get (told_at place (run p order).told) j ≡ Some earlier
    → DependsOn (listener_edges p) later.listener earlier.listener → j < i

-- what a proxy shows once it has taken all that it is yet to take
abbrev pub applied_all : List Delta → List Tree → List Tree
applied_all [] xs = xs
applied_all (d ∷ ds) xs = applied_all ds (applied d xs)

-- A proxy, the n-th, over an input: it shows what the input showed after the beginning of the order to which the proxy has come, and
-- what it is yet to take leads from there to what the input shows now.
pub record FollowsLater (p : Plan) (order : List Actor) (n list input : ℕ) : Type 0 where
  pub shows : shown_after p order list ≡ shown_after p (prefix p n input order) input
  pub reaches : applied_all (queue_of (own_at (run p order).state list)) (shown_after p order list)
      ≡ shown_after p order input

-- each proxy of a plan does, after each order that fits
abbrev pub EachProxyFollows : Plan → Type 0
EachProxyFollows p = (order : List Actor) (n list input : ℕ) (d : ListDecl)
    → Fits p order → slice_get (proxies_of p) n ≡ Some list → slice_get p.lists list ≡ Some d
    → d.kind ≡ kinds.Proxy input → FollowsLater p order n list input
