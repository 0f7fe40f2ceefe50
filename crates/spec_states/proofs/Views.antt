-- What each list of a state shows follows from what its inputs show, and a wave leaves what depends on what.
use Rattle.std.proofs.Common.{◌≡◌, ◌∙◌, ℕ, zero, suc, ◌+◌, ◌<◌, ◌≤◌, ◌==◌, Bool, true, false, List, [], ◌∷◌, length, map, take, drop, refl, ap, sym, subst, arith, inl, inr}
use Rattle.std.specs.Prelude.{⊤, Option, Some, None, All, unwrap_or, slice_get, if◌then◌else◌}
use Rattle.std.specs.List.{Contains, range_with_len}
use Rattle.std.proofs.lemmas.Bool.{cases_lt, eqb-true}
use Rattle.std.proofs.lemmas.List.{length-map}
use Rattle.std.proofs.lemmas.List.Elements.{All-contains, All-append, All-take, All-drop, All-from_recursion}
use Rattle.std.proofs.lemmas.List.FromFn.{get_or-map-range_with_len, length-map-range_with_len}
use Rattle.std.proofs.lemmas.Option.{unwrap_or-slice_get, slice_get_past}
use Rattle.std.proofs.lemmas.Simd.{map-map}
use Rattle.spec_order.proofs.Members.{Contains-here}
use Rattle.spec_order.specs.DependencyOrder.{dependency_order as dependency_order_of}
use Rattle.spec_value.specs.Tree.{Tree}
use Rattle.spec_lists.specs.Delta.{Delta}
use Rattle.spec_lists.specs.Leads.{undone}
use Rattle.spec_views.specs.View.{view_of}
use Rattle.spec_views.proofs.Composites.{composite_local}
use Rattle.gl_lines.specs.declared.plan.Command.{Command}
use Rattle.gl_lines.specs.declared.plan.Command.TheVariants as c
use Rattle.gl_lines.specs.declared.plan.ListDecl.{ListDecl}
use Rattle.gl_lines.specs.declared.plan.ListKind.{ListKind}
use Rattle.gl_lines.specs.declared.plan.ListKind.TheVariants.{Source, Filter, Sorted, Unique, Grouping, Range, Function, Collection, Composite, Transaction, Freezable, Proxy}
use Rattle.gl_lines.specs.declared.reply.Reply.{Reply}
use Rattle.spec_plans.specs.Plan.{Plan, edges_from, inputs_of, list_edges}
use Rattle.spec_states.specs.State.{Own, State, source, over, composite, transaction, freezable, proxy, inputs, opening_of, own_at, edges_of, dependency_order}
use Rattle.spec_states.specs.Shown.{view, IsHeld, undone_all, shown_of, nothing_shown, table_of, shown, EachShowsItsView}
use Rattle.spec_states.specs.Opening.{seen_through, opening, shown_first}
use Rattle.spec_states.specs.Wave.{Cause, command, pump, subject, members_after, kept_after, kept_by, kept_later, own_after, delta_in, wave_deltas, wave}
use Rattle.spec_states.specs.Step.{step, step_by, unmoved}
use Rattle.spec_states.specs.Laws.{IsOrdered, Fits, IsSound, MayAttach}
use Rattle.spec_states.proofs.DependencyOrder.{order_follow, listed, inputs_at}
use Rattle.spec_states.proofs.Settled.{settled_is, length-settled}

-- the members of a composite are among the lists that it depends on
abbrev pub Inward : Own → Type 0
Inward (composite needed members) = All (λ member. Contains needed member) members
Inward other = ⊤

abbrev pub IsInward : State → Type 0
IsInward s = (list : ℕ) → Inward (own_at s list)

pub fits_inward : (s : State) (own : Own) → Fits s own → Inward own
fits_inward s (source contents) h = tt
fits_inward s (over input view) h = tt
fits_inward s (composite needed members) h = h
fits_inward s (transaction input levels) h = tt
fits_inward s (freezable input since) h = tt
fits_inward s (proxy input kept queue) h = tt

pub own_past : (s : State) (list : ℕ) → length s ≤ list → own_at s list ≡ source []
own_past s list h = ap (λ o. unwrap_or o (source [])) (slice_get_past s list h)

inward_from : (s : State) → ((list : ℕ) → list < length s → Inward (own_at s list)) → IsInward s
inward_from s h list = elim (cases_lt list (length s)) [
  | inl within ↦ h list within
  | inr past ↦ subst Inward (sym (own_past s list (omega (arith, past)))) tt
]

pub sound_inward : (s : State) → IsSound s → IsInward s
sound_inward s h = inward_from s (λ list within. fits_inward s (own_at s list) (h.fits list within))

-- what a list shows depends on the lists that it names alone
pub shown_local : (own : Own) → Inward own → (f g : ℕ → List Tree)
    → ((i : ℕ) → Contains (inputs own) i → f i ≡ g i) → shown_of own f ≡ shown_of own g
shown_local (source contents) h f g same = refl
shown_local (over input view) h f g same = ap (view_of view) (same input (Contains-here input [] input refl))
shown_local (composite needed members) h f g same =
    composite_local members f g (λ i d. same i (All-contains (λ member. Contains needed member) members i h d))
shown_local (transaction input levels) h f g same = ap (undone_all levels) (same input (Contains-here input [] input refl))
shown_local (freezable input None) h f g same = same input (Contains-here input [] input refl)
shown_local (freezable input (Some since)) h f g same = ap (undone since) (same input (Contains-here input [] input refl))
shown_local (proxy input kept queue) h f g same = refl

-- so does its view
pub view_local : (own : Own) → Inward own → (f g : ℕ → List Tree)
    → ((i : ℕ) → Contains (inputs own) i → f i ≡ g i) → view own f ≡ view own g
view_local (source contents) h f g same = refl
view_local (over input v) h f g same = ap (view_of v) (same input (Contains-here input [] input refl))
view_local (composite needed members) h f g same =
    composite_local members f g (λ i d. same i (All-contains (λ member. Contains needed member) members i h d))
view_local (transaction input levels) h f g same = same input (Contains-here input [] input refl)
view_local (freezable input since) h f g same = same input (Contains-here input [] input refl)
view_local (proxy input kept queue) h f g same = same input (Contains-here input [] input refl)

-- a table has a row for each list of the state
pub length-table_of : (s : State) → length (table_of s) ≡ length s
length-table_of s = length-settled [] (λ list shows. shown_of (own_at s list) shows) (nothing_shown s) (dependency_order s) ∙ length-map s (λ own. [])

-- each list of an ordered state shows what follows from what its inputs show
pub shown_in : (s : State) → IsOrdered s → IsInward s → (list : ℕ) → list < length s
    → shown s list ≡ shown_of (own_at s list) (shown s)
shown_in s h inward list within =
    settled_is [] (λ k. inputs (own_at s k)) (λ k shows. shown_of (own_at s k) shows) (λ k f g same. shown_local (own_at s k) (inward k) f g same)
    (nothing_shown s) [] (dependency_order s) list (order_follow s h) (listed s h list within) (rw (length-map {B = List Tree} s (λ own. [])) within)

pub shown_is : (s : State) → IsSound s → (list : ℕ) → list < length s
    → shown s list ≡ shown_of (own_at s list) (shown s)
shown_is s h list within = shown_in s h.ordered (sound_inward s h) list within

-- one that isn't held shows its view
pub unheld_view : (own : Own) → ¬ IsHeld own → (shows : ℕ → List Tree)
    → shown_of own shows ≡ view own shows
unheld_view (source contents) h shows = refl
unheld_view (over input v) h shows = refl
unheld_view (composite needed members) h shows = refl
unheld_view (transaction input []) h shows = refl
unheld_view (transaction input (level ∷ levels)) h shows = absurd (h refl)
unheld_view (freezable input None) h shows = refl
unheld_view (freezable input (Some since)) h shows = absurd (h refl)
unheld_view (proxy input kept queue) h shows = absurd (h refl)

pub views_of_state : (s : State) → IsSound s → EachShowsItsView s
views_of_state s h list within free = shown_is s h list within ∙ unheld_view (own_at s list) free (shown s)

-- ---- what a wave leaves

pub length-wave : (s : State) (cause : Cause) → length (wave s cause) ≡ length s
length-wave s cause = length-map-range_with_len (own_after cause s (shown s) (delta_in (wave_deltas s cause))) 0 (length s)

-- what each list keeps after it
pub own_at_wave : (s : State) (cause : Cause) (list : ℕ) → list < length s
    → own_at (wave s cause) list ≡ own_after cause s (shown s) (delta_in (wave_deltas s cause)) list
own_at_wave s cause list within =
    unwrap_or-slice_get (wave s cause) list (source [])
    ∙ get_or-map-range_with_len (own_after cause s (shown s) (delta_in (wave_deltas s cause))) 0 (length s) list list (source []) within (omega arith)

pub kept_after_inputs : (given : Command) (shows : ℕ → List Tree) (own : Own)
    → inputs (kept_after given shows own) ≡ inputs own
kept_after_inputs given shows (source contents) = refl
kept_after_inputs given shows (over input view) = refl
kept_after_inputs given shows (composite needed members) = refl
kept_after_inputs given shows (transaction input levels) = refl
kept_after_inputs given shows (freezable input since) = refl
kept_after_inputs given shows (proxy input kept queue) = refl

pub kept_by_inputs : (cause : Cause) (shows : ℕ → List Tree) (own : Own)
    → inputs (kept_by cause shows own) ≡ inputs own
kept_by_inputs (command given) shows own = kept_after_inputs given shows own
kept_by_inputs (pump list) shows (source contents) = refl
kept_by_inputs (pump list) shows (over input view) = refl
kept_by_inputs (pump list) shows (composite needed members) = refl
kept_by_inputs (pump list) shows (transaction input levels) = refl
kept_by_inputs (pump list) shows (freezable input since) = refl
kept_by_inputs (pump list) shows (proxy input kept queue) = refl

pub kept_later_inputs : (list : ℕ) (own : Own) (delta : ℕ → Delta)
    → inputs (kept_later list own delta) ≡ inputs own
kept_later_inputs list (source contents) delta = refl
kept_later_inputs list (over input view) delta = refl
kept_later_inputs list (composite needed members) delta = refl
kept_later_inputs list (transaction input []) delta = refl
kept_later_inputs list (transaction input (level ∷ levels)) delta = refl
kept_later_inputs list (freezable input None) delta = refl
kept_later_inputs list (freezable input (Some since)) delta = refl
kept_later_inputs list (proxy input kept queue) delta = refl

pub own_after_inputs : (cause : Cause) (s : State) (shows : ℕ → List Tree) (delta : ℕ → Delta) (list : ℕ)
    → inputs (own_after cause s shows delta list) ≡ inputs (own_at s list)
own_after_inputs cause s shows delta list = by_subject (list == subject cause)
  where
    by_subject : (t : Bool)
        → inputs (if t then kept_by cause shows (own_at s list) else kept_later list (own_at s list) delta)
        ≡ inputs (own_at s list)
    by_subject true = kept_by_inputs cause shows (own_at s list)
    by_subject false = kept_later_inputs list (own_at s list) delta

-- the inputs of every list stay
pub wave_inputs_at : (s : State) (cause : Cause) (list : ℕ) → list < length s
    → inputs (own_at (wave s cause) list) ≡ inputs (own_at s list)
wave_inputs_at s cause list within = ap inputs (own_at_wave s cause list within) ∙ own_after_inputs cause s (shown s) (delta_in (wave_deltas s cause)) list

-- a list from what stands at each of its places
from_range : {X : Type 0} (x : X) (xs : List X) (f : ℕ → X) (a : ℕ)
    → ((k : ℕ) → k < length xs → f (a + k) ≡ unwrap_or (slice_get xs k) x)
    → map f (range_with_len a (length xs)) ≡ xs
from_range x [] f a h = refl
from_range x (y ∷ ys) f a h =
    let first : a + 0 ≡ a = omega arith in
    both _ _ _ _ (ap f (sym first) ∙ h 0 (omega arith)) (from_range x ys f (a + 1) (λ k within. next k ∙ h (suc k) (omega (arith, within))))
  where
    both : {X : Type 0} (u v : X) (us vs : List X) → u ≡ v → us ≡ vs → u ∷ us ≡ v ∷ vs
    both u v us vs e g = cc

    next : (k : ℕ) → f (a + 1 + k) ≡ f (a + suc k)
    next k = let e : a + 1 + k ≡ a + suc k = omega arith in ap f e

wave_inputs : (s : State) (cause : Cause) → map inputs (wave s cause) ≡ map inputs s
wave_inputs s cause =
    let after = own_after cause s (shown s) (delta_in (wave_deltas s cause)) in
    map-map inputs after (range_with_len 0 (length s))
    ∙ ap (λ n. map (λ k. inputs (after k)) (range_with_len 0 n)) (sym (length-map s inputs))
    ∙ from_range [] (map inputs s) (λ k. inputs (after k)) 0 (λ k within. ap (λ j. inputs (after j)) (none_before k) ∙ own_after_inputs cause s (shown s) (delta_in (wave_deltas s cause)) k ∙ sym (inputs_at s k))
  where
    none_before : (k : ℕ) → 0 + k ≡ k
    none_before k = omega arith

pub wave_edges : (s : State) (cause : Cause) → edges_of (wave s cause) ≡ edges_of s
wave_edges s cause = ap (edges_from 0) (wave_inputs s cause)

pub wave_order : (s : State) (cause : Cause) → dependency_order (wave s cause) ≡ dependency_order s
wave_order s cause = ap (λ n. dependency_order_of n (edges_of (wave s cause))) (length-wave s cause) ∙ ap (dependency_order_of (length s)) (wave_edges s cause)

pub wave_ordered : (s : State) (cause : Cause) → IsOrdered s → IsOrdered (wave s cause)
wave_ordered s cause h = record { within = rw (wave_edges s cause, length-wave s cause) h.within; acyclic = rw (wave_edges s cause) h.acyclic }

pub step_ordered : (limit : ℕ) (s : State) (given : Command) → IsOrdered s
    → IsOrdered (step limit s given).state
step_ordered limit s given h = by_reply (unmoved limit s given)
  where
    by_reply : (r : Option Reply) → IsOrdered (step_by r s given).state
    by_reply (Some reply) = h
    by_reply None = wave_ordered s (command given) h

-- the members of composites stay among what these depend on
abbrev pub MayAttachBy : Cause → Own → Type 0
MayAttachBy (command given) own = MayAttach given own
MayAttachBy (pump list) own = ⊤

pub members_inward : (given : Command) (needed members : List ℕ)
    → MayAttach given (composite needed members) → Inward (composite needed members)
    → Inward (composite needed (members_after given members))
members_inward (c.Add list value) needed members may h = h
members_inward (c.AddAll list values) needed members may h = h
members_inward (c.Insert list index value) needed members may h = h
members_inward (c.Set list index value) needed members may h = h
members_inward (c.Remove list index) needed members may h = h
members_inward (c.Clear list) needed members may h = h
members_inward (c.Match list matcher) needed members may h = h
members_inward (c.Order list order) needed members may h = h
members_inward (c.Bounds list bounds) needed members may h = h
members_inward (c.Apply list func) needed members may h = h
members_inward (c.Attach list member) needed members may h = All-append (λ m. Contains needed m) members (member ∷ []) h (All-from_recursion (λ m. Contains needed m) (member ∷ []) (may, tt))
members_inward (c.Detach list index) needed members may h = All-append (λ m. Contains needed m) (take index members) (drop (suc index) members) (All-take (λ m. Contains needed m) index members h) (All-drop (λ m. Contains needed m) (suc index) members h)
members_inward (c.Begin list) needed members may h = h
members_inward (c.Commit list) needed members may h = h
members_inward (c.Rollback list) needed members may h = h
members_inward (c.Freeze list) needed members may h = h
members_inward (c.Thaw list) needed members may h = h
members_inward (c.Show list) needed members may h = h

pub kept_by_inward : (cause : Cause) (shows : ℕ → List Tree) (own : Own) → MayAttachBy cause own
    → Inward own → Inward (kept_by cause shows own)
kept_by_inward (command given) shows (source contents) may h = tt
kept_by_inward (command given) shows (over input view) may h = tt
kept_by_inward (command given) shows (composite needed members) may h = members_inward given needed members may h
kept_by_inward (command given) shows (transaction input levels) may h = tt
kept_by_inward (command given) shows (freezable input since) may h = tt
kept_by_inward (command given) shows (proxy input kept queue) may h = tt
kept_by_inward (pump list) shows (source contents) may h = tt
kept_by_inward (pump list) shows (over input view) may h = tt
kept_by_inward (pump list) shows (composite needed members) may h = h
kept_by_inward (pump list) shows (transaction input levels) may h = tt
kept_by_inward (pump list) shows (freezable input since) may h = tt
kept_by_inward (pump list) shows (proxy input kept queue) may h = tt

pub kept_after_inward : (list : ℕ) (own : Own) (delta : ℕ → Delta) → Inward own
    → Inward (kept_later list own delta)
kept_after_inward list (source contents) delta h = tt
kept_after_inward list (over input view) delta h = tt
kept_after_inward list (composite needed members) delta h = h
kept_after_inward list (transaction input []) delta h = tt
kept_after_inward list (transaction input (level ∷ levels)) delta h = tt
kept_after_inward list (freezable input None) delta h = tt
kept_after_inward list (freezable input (Some since)) delta h = tt
kept_after_inward list (proxy input kept queue) delta h = tt

pub wave_inward : (s : State) (cause : Cause) → MayAttachBy cause (own_at s (subject cause))
    → IsInward s → IsInward (wave s cause)
wave_inward s cause may h = inward_from (wave s cause) each
  where
    by_subject : (list : ℕ) (t : Bool) → (list == subject cause) ≡ t
        → Inward (if t then kept_by cause (shown s) (own_at s list) else kept_later list (own_at s list) (delta_in (wave_deltas s cause)))
    by_subject list true e = kept_by_inward cause (shown s) (own_at s list) (subst (λ k. MayAttachBy cause (own_at s k)) (sym (eqb-true list (subject cause) e)) may) (h list)
    by_subject list false e = kept_after_inward list (own_at s list) (delta_in (wave_deltas s cause)) (h list)

    each : (list : ℕ) → list < length (wave s cause) → Inward (own_at (wave s cause) list)
    each list within =
        let there : list < length s = subst (λ n. list < n) (length-wave s cause) within in
        subst Inward (sym (own_at_wave s cause list there)) (by_subject list (list == subject cause) refl)

-- ---- the opening state depends as its plan does

pub opening_of_inputs : (shows : ℕ → List Tree) (kind : ListKind)
    → inputs (opening_of shows kind) ≡ inputs_of kind
opening_of_inputs shows (Source rows) = refl
opening_of_inputs shows (Filter input matcher) = refl
opening_of_inputs shows (Sorted input order) = refl
opening_of_inputs shows (Unique input order) = refl
opening_of_inputs shows (Grouping input order) = refl
opening_of_inputs shows (Range input bounds) = refl
opening_of_inputs shows (Function input func) = refl
opening_of_inputs shows (Collection input kids) = refl
opening_of_inputs shows (Composite members may) = refl
opening_of_inputs shows (Transaction input) = refl
opening_of_inputs shows (Freezable input) = refl
opening_of_inputs shows (Proxy input) = refl

-- lists that are each over the inputs that they are declared over
pub inputs_as_declared : (f : ListKind → Own)
    → ((kind : ListKind) → inputs (f kind) ≡ inputs_of kind) → (ds : List ListDecl)
    → map inputs (map (λ d. f d.kind) ds) ≡ map (λ d. inputs_of d.kind) ds
inputs_as_declared f same [] = refl
inputs_as_declared f same (d ∷ ds) = ap (λ xs. xs ∷ map inputs (map (λ e. f e.kind) ds)) (same d.kind) ∙ ap (λ xss. inputs_of d.kind ∷ xss) (inputs_as_declared f same ds)

pub opening_edges : (p : Plan) → edges_of (opening p) ≡ list_edges p
opening_edges p = ap (edges_from 0) (inputs_as_declared (opening_of (shown_first p)) (opening_of_inputs (shown_first p)) p.lists)

pub seen_through_inputs : (kind : ListKind) → inputs (seen_through kind) ≡ inputs_of kind
seen_through_inputs (Source rows) = refl
seen_through_inputs (Filter input matcher) = refl
seen_through_inputs (Sorted input order) = refl
seen_through_inputs (Unique input order) = refl
seen_through_inputs (Grouping input order) = refl
seen_through_inputs (Range input bounds) = refl
seen_through_inputs (Function input func) = refl
seen_through_inputs (Collection input kids) = refl
seen_through_inputs (Composite members may) = refl
seen_through_inputs (Transaction input) = refl
seen_through_inputs (Freezable input) = refl
seen_through_inputs (Proxy input) = refl

pub seen_edges : (p : Plan) → edges_of (map (λ d. seen_through d.kind) p.lists) ≡ list_edges p
seen_edges p = ap (edges_from 0) (inputs_as_declared seen_through seen_through_inputs p.lists)
