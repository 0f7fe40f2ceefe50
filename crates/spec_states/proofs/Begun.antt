-- What the list keeps, shows and is told of that a wave is about.
use Rattle.std.proofs.Common.{◌≡◌, ◌∙◌, ℕ, Bool, true, false, List, [], ◌∷◌, length, refl, ap, sym, subst}
use Rattle.std.specs.Prelude.{⊤, Option, Some, None}
use Rattle.std.specs.List.{Contains}
use Rattle.std.proofs.lemmas.List.Elements.{All-contains}
use Rattle.spec_order.proofs.Members.{Contains-here}
use Rattle.spec_value.specs.Tree.{Tree}
use Rattle.spec_lists.specs.Delta.{Delta, no_change, composed, inverse}
use Rattle.spec_lists.specs.Leads.{LeadsTo, undone}
use Rattle.spec_lists.proofs.DeltaEdits.{identity_normal, identity_leads}
use Rattle.spec_lists.proofs.DeltaLeads.{delta_to, undone_composed, composed_ends, composed_ends_normal, inverse_leads_back, inverse_normal, undone_no_change, no_change_ends}
use Rattle.spec_views.specs.View.{View, view_of, Parameter}
use Rattle.spec_views.specs.Composite.{composite_view}
use Rattle.spec_views.proofs.Views.{change_of_leads, change_of_normal}
use Rattle.spec_views.proofs.Composites.{composite_local, attach_leads, attach_normal, detach_leads, detach_normal}
use Rattle.gl_lines.specs.declared.plan.Command.{Command}
use Rattle.gl_lines.specs.declared.plan.Command.TheVariants as c
use Rattle.spec_plans.specs.Plan.{origin as about}
use Rattle.spec_states.specs.State.{Own, source, over, composite, transaction, freezable, proxy, inputs}
use Rattle.spec_states.specs.Shown.{is_held, undone_all, shown_of}
use Rattle.spec_states.specs.Wave.{Cause, command, pump, subject, parameter_of, view_after, parameter_change, members_after, members_change, kept_after, kept_by, pumped, beginning, begins, first_delta, begun_with, follow, delta_by}
use Rattle.spec_states.specs.Step.{refused_by}
use Rattle.spec_states.specs.Laws.{LedTo, since_frozen, MayAttach, MayTake}
use Rattle.spec_states.proofs.Views.{Inward, members_inward, shown_local}
use Rattle.spec_states.proofs.Edits.{edit_leads, edit_normal}
use Rattle.spec_states.proofs.Kept.{Goes, goes_as, stays, FitsOver, follow_goes}
use Rattle.spec_basics.proofs.Options.{same_some}

-- a command isn't refused by what the list keeps that it is about, and is for such a list; a pump always may be
pub record MayTakeNow (given : Command) (own : Own) : Type 0 where
  pub granted : refused_by own given ≡ None
  pub attaches : MayAttach given own
  pub suits : MayTake given own

abbrev pub IsTakenBy : Cause → Own → Type 0
IsTakenBy (command given) own = MayTakeNow given own
IsTakenBy (pump list) own = ⊤

-- its inputs show what they did
abbrev pub InputsStay : Own → (ℕ → List Tree) → (ℕ → List Tree) → Type 0
InputsStay own before after = (i : ℕ) → Contains (inputs own) i → after i ≡ before i

-- ---- a wave begins at it

parameter_goes : (given : Option Parameter) (view : View) (xs : List Tree)
    → Goes (parameter_change given view xs) (view_of view xs) (view_of (view_after given view) xs)
parameter_goes None view xs = stays (view_of view xs) (view_of view xs) refl
parameter_goes (Some given) view xs = record { leads = change_of_leads given view xs; normal = change_of_normal given view xs }

members_go : (given : Command) (members : List ℕ) (shows : ℕ → List Tree)
    → Goes (members_change given members shows) (composite_view members shows) (composite_view (members_after given members) shows)
members_go (c.Add list value) members shows = stays (composite_view members shows) (composite_view members shows) refl
members_go (c.AddAll list values) members shows = stays (composite_view members shows) (composite_view members shows) refl
members_go (c.Insert list index value) members shows = stays (composite_view members shows) (composite_view members shows) refl
members_go (c.Set list index value) members shows = stays (composite_view members shows) (composite_view members shows) refl
members_go (c.Remove list index) members shows = stays (composite_view members shows) (composite_view members shows) refl
members_go (c.Clear list) members shows = stays (composite_view members shows) (composite_view members shows) refl
members_go (c.Match list matcher) members shows = stays (composite_view members shows) (composite_view members shows) refl
members_go (c.Order list order) members shows = stays (composite_view members shows) (composite_view members shows) refl
members_go (c.Bounds list bounds) members shows = stays (composite_view members shows) (composite_view members shows) refl
members_go (c.Apply list func) members shows = stays (composite_view members shows) (composite_view members shows) refl
members_go (c.Attach list member) members shows = record { leads = attach_leads members shows member; normal = attach_normal members shows member }
members_go (c.Detach list index) members shows = record { leads = detach_leads members shows index; normal = detach_normal members shows index }
members_go (c.Begin list) members shows = stays (composite_view members shows) (composite_view members shows) refl
members_go (c.Commit list) members shows = stays (composite_view members shows) (composite_view members shows) refl
members_go (c.Rollback list) members shows = stays (composite_view members shows) (composite_view members shows) refl
members_go (c.Freeze list) members shows = stays (composite_view members shows) (composite_view members shows) refl
members_go (c.Thaw list) members shows = stays (composite_view members shows) (composite_view members shows) refl
members_go (c.Show list) members shows = stays (composite_view members shows) (composite_view members shows) refl

-- the first of the deltas that led to a list, and those before it
last_level : (level : Delta) (levels : List Delta) (xs : List Tree) → LedTo (level ∷ levels) xs
    → Goes level (undone level xs) xs
last_level level levels xs h = record { leads = delta_to level xs h.0; normal = h.1 }

levels_before : (level : Delta) (levels : List Delta) (xs : List Tree) → LedTo (level ∷ levels) xs
    → LedTo levels (undone level xs)
levels_before level levels xs h = h.2

transaction_begun : (given : Command) (input : ℕ) (levels : List Delta) (before after : ℕ → List Tree)
    → MayTakeNow given (transaction input levels) → LedTo levels (before input)
    → beginning given (about given) (transaction input levels) ≡ Some (about given)
    → ¬ Contains (input ∷ []) (about given) → after input ≡ before input
    → Goes (first_delta given (transaction input levels) before) (undone_all levels (before input)) (shown_of (kept_after given before (transaction input levels)) after)
transaction_begun (c.Add list value) input levels before after may fits here apart same = absurd may.suits
transaction_begun (c.AddAll list values) input levels before after may fits here apart same = absurd may.suits
transaction_begun (c.Insert list index value) input levels before after may fits here apart same = absurd may.suits
transaction_begun (c.Set list index value) input levels before after may fits here apart same = absurd may.suits
transaction_begun (c.Remove list index) input levels before after may fits here apart same = absurd may.suits
transaction_begun (c.Clear list) input levels before after may fits here apart same = absurd may.suits
transaction_begun (c.Match list matcher) input levels before after may fits here apart same = absurd may.suits
transaction_begun (c.Order list order) input levels before after may fits here apart same = absurd may.suits
transaction_begun (c.Bounds list bounds) input levels before after may fits here apart same = absurd may.suits
transaction_begun (c.Apply list func) input levels before after may fits here apart same = absurd may.suits
transaction_begun (c.Attach list member) input levels before after may fits here apart same = absurd may.suits
transaction_begun (c.Detach list index) input levels before after may fits here apart same = absurd may.suits
transaction_begun (c.Begin list) input levels before after may fits here apart same = absurd cc
transaction_begun (c.Commit list) input [] before after may fits here apart same = absurd (let e = may.granted in cc)
transaction_begun (c.Commit list) input (level ∷ []) before after may fits here apart same = goes_as (last_level level [] (before input) fits) refl refl same
transaction_begun (c.Commit list) input (level ∷ outer ∷ levels) before after may fits here apart same = absurd cc
transaction_begun (c.Rollback list) input levels before after may fits here apart same = absurd (apart (Contains-here input [] list (same_some input list here)))
transaction_begun (c.Freeze list) input levels before after may fits here apart same = absurd may.suits
transaction_begun (c.Thaw list) input levels before after may fits here apart same = absurd may.suits
transaction_begun (c.Show list) input levels before after may fits here apart same = absurd cc

freezable_begun : (given : Command) (input : ℕ) (since : Option Delta) (before after : ℕ → List Tree)
    → MayTakeNow given (freezable input since) → LedTo (since_frozen since) (before input)
    → beginning given (about given) (freezable input since) ≡ Some (about given)
    → after input ≡ before input
    → Goes (first_delta given (freezable input since) before) (shown_of (freezable input since) before) (shown_of (kept_after given before (freezable input since)) after)
freezable_begun (c.Add list value) input since before after may fits here same = absurd may.suits
freezable_begun (c.AddAll list values) input since before after may fits here same = absurd may.suits
freezable_begun (c.Insert list index value) input since before after may fits here same = absurd may.suits
freezable_begun (c.Set list index value) input since before after may fits here same = absurd may.suits
freezable_begun (c.Remove list index) input since before after may fits here same = absurd may.suits
freezable_begun (c.Clear list) input since before after may fits here same = absurd may.suits
freezable_begun (c.Match list matcher) input since before after may fits here same = absurd may.suits
freezable_begun (c.Order list order) input since before after may fits here same = absurd may.suits
freezable_begun (c.Bounds list bounds) input since before after may fits here same = absurd may.suits
freezable_begun (c.Apply list func) input since before after may fits here same = absurd may.suits
freezable_begun (c.Attach list member) input since before after may fits here same = absurd may.suits
freezable_begun (c.Detach list index) input since before after may fits here same = absurd may.suits
freezable_begun (c.Begin list) input since before after may fits here same = absurd may.suits
freezable_begun (c.Commit list) input since before after may fits here same = absurd may.suits
freezable_begun (c.Rollback list) input since before after may fits here same = absurd may.suits
freezable_begun (c.Freeze list) input since before after may fits here same = absurd cc
freezable_begun (c.Thaw list) input None before after may fits here same = absurd (let e = may.granted in cc)
freezable_begun (c.Thaw list) input (Some since) before after may fits here same = goes_as (last_level since [] (before input) fits) refl refl same
freezable_begun (c.Show list) input since before after may fits here same = absurd cc

command_begun : (given : Command) (own : Own) (before after : ℕ → List Tree) → MayTakeNow given own
    → FitsOver before own → Inward own
    → beginning given (about given) own ≡ Some (about given) → ¬ Contains (inputs own) (about given)
    → InputsStay own before after
    → Goes (first_delta given own before) (shown_of own before) (shown_of (kept_after given before own) after)
command_begun given (source contents) before after may fits inward here apart same = record { leads = edit_leads given contents may.granted; normal = edit_normal given contents }
command_begun given (over input view) before after may fits inward here apart same =
    goes_as (parameter_goes (parameter_of given) view (before input)) refl refl (ap (view_of (view_after (parameter_of given) view)) (same input (Contains-here input [] input refl)))
command_begun given (composite needed members) before after may fits inward here apart same =
    goes_as (members_go given members before) refl refl
    (composite_local (members_after given members) after before (λ i d. same i (All-contains (λ m. Contains needed m) (members_after given members) i (members_inward given needed members may.attaches inward) d)))
command_begun given (transaction input levels) before after may fits inward here apart same = transaction_begun given input levels before after may fits here apart (same input (Contains-here input [] input refl))
command_begun given (freezable input since) before after may fits inward here apart same = freezable_begun given input since before after may fits here (same input (Contains-here input [] input refl))
command_begun given (proxy input kept queue) before after may fits inward here apart same = stays kept kept refl

pump_begun : (list : ℕ) (own : Own) (before after : ℕ → List Tree) → FitsOver before own
    → Inward own → before list ≡ shown_of own before → InputsStay own before after
    → Goes (begun_with (pump list) own before) (shown_of own before) (shown_of (pumped own) after)
pump_begun list (source contents) before after fits inward is same = goes_as (stays contents contents refl) (ap (λ xs. no_change (length xs)) is) refl refl
pump_begun list (over input view) before after fits inward is same =
    goes_as (stays _ _ (shown_local (over input view) inward after before same)) (ap (λ xs. no_change (length xs)) is) refl refl
pump_begun list (composite needed members) before after fits inward is same =
    goes_as (stays _ _ (shown_local (composite needed members) inward after before same)) (ap (λ xs. no_change (length xs)) is) refl refl
pump_begun list (transaction input levels) before after fits inward is same =
    goes_as (stays _ _ (shown_local (transaction input levels) inward after before same)) (ap (λ xs. no_change (length xs)) is) refl refl
pump_begun list (freezable input since) before after fits inward is same =
    goes_as (stays _ _ (shown_local (freezable input since) inward after before same)) (ap (λ xs. no_change (length xs)) is) refl refl
pump_begun list (proxy input kept []) before after fits inward is same = stays kept _ (sym (identity_leads kept).ends)
pump_begun list (proxy input kept (d ∷ queue)) before after fits inward is same = record { leads = record { starts = fits.0; ends = refl }; normal = fits.1 }

pub begun_goes : (cause : Cause) (own : Own) (before after : ℕ → List Tree) → IsTakenBy cause own
    → FitsOver before own → Inward own
    → begins cause own ≡ Some (subject cause) → ¬ Contains (inputs own) (subject cause)
    → before (subject cause) ≡ shown_of own before → InputsStay own before after
    → Goes (begun_with cause own before) (shown_of own before) (shown_of (kept_by cause before own) after)
begun_goes (command given) own before after may fits inward here apart is same = command_begun given own before after may fits inward here apart same
begun_goes (pump list) own before after may fits inward here apart is same = pump_begun list own before after fits inward is same

-- ---- a wave begins nowhere

undone_inner : (outer level : Delta) (levels : List Delta) (xs : List Tree)
    → LedTo (level ∷ outer ∷ levels) xs
    → undone_all (composed outer level ∷ levels) xs ≡ undone_all (level ∷ outer ∷ levels) xs
undone_inner outer level levels xs h =
    ap (undone_all levels) (undone_composed outer level xs (last_of level (outer ∷ levels) xs h) (last_of outer levels (undone level xs) (levels_before level (outer ∷ levels) xs h)))
  where
    last_of : (l : Delta) (ls : List Delta) (zs : List Tree) → LedTo (l ∷ ls) zs → LeadsTo l zs
    last_of l ls zs g = g.0

-- the list that a command is about shows what it did
pub nowhere_stays : (given : Command) (own : Own) (before after : ℕ → List Tree)
    → MayTakeNow given own → FitsOver before own → Inward own
    → beginning given (about given) own ≡ None → InputsStay own before after
    → shown_of (kept_after given before own) after ≡ shown_of own before
nowhere_stays (c.Add list value) own before after may fits inward none same = absurd cc
nowhere_stays (c.AddAll list values) own before after may fits inward none same = absurd cc
nowhere_stays (c.Insert list index value) own before after may fits inward none same = absurd cc
nowhere_stays (c.Set list index value) own before after may fits inward none same = absurd cc
nowhere_stays (c.Remove list index) own before after may fits inward none same = absurd cc
nowhere_stays (c.Clear list) own before after may fits inward none same = absurd cc
nowhere_stays (c.Match list matcher) own before after may fits inward none same = absurd cc
nowhere_stays (c.Order list order) own before after may fits inward none same = absurd cc
nowhere_stays (c.Bounds list bounds) own before after may fits inward none same = absurd cc
nowhere_stays (c.Apply list func) own before after may fits inward none same = absurd cc
nowhere_stays (c.Attach list member) own before after may fits inward none same = absurd cc
nowhere_stays (c.Detach list index) own before after may fits inward none same = absurd cc
nowhere_stays (c.Begin list) (source contents) before after may fits inward none same = shown_local (source contents) inward after before same
nowhere_stays (c.Begin list) (over input view) before after may fits inward none same = shown_local (over input view) inward after before same
nowhere_stays (c.Begin list) (composite needed members) before after may fits inward none same = shown_local (composite needed members) inward after before same
nowhere_stays (c.Begin list) (transaction input levels) before after may fits inward none same =
    ap (λ zs. undone_all levels (undone (no_change (length (before input))) zs)) (same input (Contains-here input [] input refl)) ∙ ap (undone_all levels) (undone_no_change (before input))
nowhere_stays (c.Begin list) (freezable input since) before after may fits inward none same = absurd may.suits
nowhere_stays (c.Begin list) (proxy input kept queue) before after may fits inward none same = shown_local (proxy input kept queue) inward after before same
nowhere_stays (c.Commit list) (source contents) before after may fits inward none same = absurd (let e = may.granted in cc)
nowhere_stays (c.Commit list) (over input view) before after may fits inward none same = absurd (let e = may.granted in cc)
nowhere_stays (c.Commit list) (composite needed members) before after may fits inward none same = absurd (let e = may.granted in cc)
nowhere_stays (c.Commit list) (transaction input []) before after may fits inward none same = absurd (let e = may.granted in cc)
nowhere_stays (c.Commit list) (transaction input (level ∷ [])) before after may fits inward none same = absurd cc
nowhere_stays (c.Commit list) (transaction input (level ∷ outer ∷ levels)) before after may fits inward none same =
    ap (undone_all (composed outer level ∷ levels)) (same input (Contains-here input [] input refl)) ∙ undone_inner outer level levels (before input) fits
nowhere_stays (c.Commit list) (freezable input since) before after may fits inward none same = absurd (let e = may.granted in cc)
nowhere_stays (c.Commit list) (proxy input kept queue) before after may fits inward none same = absurd (let e = may.granted in cc)
nowhere_stays (c.Rollback list) (source contents) before after may fits inward none same = absurd (let e = may.granted in cc)
nowhere_stays (c.Rollback list) (over input view) before after may fits inward none same = absurd (let e = may.granted in cc)
nowhere_stays (c.Rollback list) (composite needed members) before after may fits inward none same = absurd (let e = may.granted in cc)
nowhere_stays (c.Rollback list) (transaction input levels) before after may fits inward none same = absurd cc
nowhere_stays (c.Rollback list) (freezable input since) before after may fits inward none same = absurd (let e = may.granted in cc)
nowhere_stays (c.Rollback list) (proxy input kept queue) before after may fits inward none same = absurd (let e = may.granted in cc)
nowhere_stays (c.Freeze list) (source contents) before after may fits inward none same = shown_local (source contents) inward after before same
nowhere_stays (c.Freeze list) (over input view) before after may fits inward none same = shown_local (over input view) inward after before same
nowhere_stays (c.Freeze list) (composite needed members) before after may fits inward none same = shown_local (composite needed members) inward after before same
nowhere_stays (c.Freeze list) (transaction input levels) before after may fits inward none same = absurd may.suits
nowhere_stays (c.Freeze list) (freezable input None) before after may fits inward none same =
    ap (λ zs. undone (no_change (length (before input))) zs) (same input (Contains-here input [] input refl)) ∙ undone_no_change (before input)
nowhere_stays (c.Freeze list) (freezable input (Some since)) before after may fits inward none same = absurd (let e = may.granted in cc)
nowhere_stays (c.Freeze list) (proxy input kept queue) before after may fits inward none same = shown_local (proxy input kept queue) inward after before same
nowhere_stays (c.Thaw list) own before after may fits inward none same = absurd cc
nowhere_stays (c.Show list) (source contents) before after may fits inward none same = shown_local (source contents) inward after before same
nowhere_stays (c.Show list) (over input view) before after may fits inward none same = shown_local (over input view) inward after before same
nowhere_stays (c.Show list) (composite needed members) before after may fits inward none same = shown_local (composite needed members) inward after before same
nowhere_stays (c.Show list) (transaction input levels) before after may fits inward none same = shown_local (transaction input levels) inward after before same
nowhere_stays (c.Show list) (freezable input since) before after may fits inward none same = shown_local (freezable input since) inward after before same
nowhere_stays (c.Show list) (proxy input kept queue) before after may fits inward none same = shown_local (proxy input kept queue) inward after before same

-- so its delta leads, whether it is held or not
pub nowhere_goes : (given : Command) (own : Own) (before after : ℕ → List Tree) (delta : ℕ → Delta) (first : Delta)
    → MayTakeNow given own → FitsOver before own → Inward own
    → beginning given (about given) own ≡ None
    → ((i : ℕ) → Contains (inputs own) i → Goes (delta i) (before i) (after i))
    → InputsStay own before after
    → Goes (delta_by false (is_held own) first (no_change (length (shown_of own before))) (follow own before delta)) (shown_of own before) (shown_of (kept_after given before own) after)
nowhere_goes given own before after delta first may fits inward none lead same = by_held (is_held own) refl
  where
    by_held : (t : Bool) → is_held own ≡ t
        → Goes (delta_by false t first (no_change (length (shown_of own before))) (follow own before delta)) (shown_of own before) (shown_of (kept_after given before own) after)
    by_held true held = stays _ _ (nowhere_stays given own before after may fits inward none same)
    by_held false free =
        goes_as (follow_goes own before after delta inward free lead) refl refl
        (nowhere_stays given own before after may fits inward none same ∙ sym (shown_local own inward after before same))

-- ---- a rollback, which begins at the source

pub rolled_back : (input : ℕ) (level : Delta) (levels : List Delta) (before after : ℕ → List Tree)
    → after input ≡ undone level (before input)
    → undone_all levels (after input) ≡ undone_all (level ∷ levels) (before input)
rolled_back input level levels before after e = ap (undone_all levels) e

-- the delta of the source leads back to where the level began
pub rollback_goes : (level : Delta) (levels : List Delta) (xs : List Tree)
    → LedTo (level ∷ levels) xs → Goes (inverse level) xs (undone level xs)
rollback_goes level levels xs h = record { leads = inverse_leads_back level (undone level xs) xs (last_level level levels xs h).leads; normal = inverse_normal level }

-- ---- what it keeps fits what its inputs show

led_as : (levels : List Delta) (xs ys : List Tree) → ys ≡ xs → LedTo levels xs → LedTo levels ys
led_as levels xs ys e h = let P : List Tree → Type 0 = λ zs. LedTo levels zs in subst P (sym e) h

begun_level : (levels : List Delta) (xs : List Tree) → LedTo levels xs
    → LedTo (no_change (length xs) ∷ levels) xs
begun_level levels xs h = (no_change_ends xs, identity_normal (length xs), led_as levels xs (undone (no_change (length xs)) xs) (undone_no_change xs) h)

committed_levels : (outer level : Delta) (levels : List Delta) (xs : List Tree)
    → LedTo (level ∷ outer ∷ levels) xs → LedTo (composed outer level ∷ levels) xs
committed_levels outer level levels xs h =
    inner (last_of level (outer ∷ levels) xs h) (last_of outer levels (undone level xs) (levels_before level (outer ∷ levels) xs h)) (levels_before outer levels (undone level xs) (levels_before level (outer ∷ levels) xs h))
  where
    last_of : (l : Delta) (ls : List Delta) (zs : List Tree) → LedTo (l ∷ ls) zs → LeadsTo l zs
    last_of l ls zs g = g.0

    inner : LeadsTo level xs → LeadsTo outer (undone level xs)
        → LedTo levels (undone outer (undone level xs)) → LedTo (composed outer level ∷ levels) xs
    inner a b d = (composed_ends outer level xs a b, composed_ends_normal outer level xs a b, led_as levels _ _ (undone_composed outer level xs a b) d)

transaction_fits : (given : Command) (input : ℕ) (levels : List Delta) (before after : ℕ → List Tree)
    → MayTakeNow given (transaction input levels) → LedTo levels (before input)
    → (beginning given (about given) (transaction input levels) ≡ Some input → ⊥)
    → after input ≡ before input
    → FitsOver after (kept_after given before (transaction input levels))
transaction_fits (c.Add list value) input levels before after may fits elsewhere same = absurd may.suits
transaction_fits (c.AddAll list values) input levels before after may fits elsewhere same = absurd may.suits
transaction_fits (c.Insert list index value) input levels before after may fits elsewhere same = absurd may.suits
transaction_fits (c.Set list index value) input levels before after may fits elsewhere same = absurd may.suits
transaction_fits (c.Remove list index) input levels before after may fits elsewhere same = absurd may.suits
transaction_fits (c.Clear list) input levels before after may fits elsewhere same = absurd may.suits
transaction_fits (c.Match list matcher) input levels before after may fits elsewhere same = absurd may.suits
transaction_fits (c.Order list order) input levels before after may fits elsewhere same = absurd may.suits
transaction_fits (c.Bounds list bounds) input levels before after may fits elsewhere same = absurd may.suits
transaction_fits (c.Apply list func) input levels before after may fits elsewhere same = absurd may.suits
transaction_fits (c.Attach list member) input levels before after may fits elsewhere same = absurd may.suits
transaction_fits (c.Detach list index) input levels before after may fits elsewhere same = absurd may.suits
transaction_fits (c.Begin list) input levels before after may fits elsewhere same =
    led_as (no_change (length (before input)) ∷ levels) (before input) (after input) same (begun_level levels (before input) fits)
transaction_fits (c.Commit list) input [] before after may fits elsewhere same = tt
transaction_fits (c.Commit list) input (level ∷ []) before after may fits elsewhere same = tt
transaction_fits (c.Commit list) input (level ∷ outer ∷ levels) before after may fits elsewhere same =
    led_as (composed outer level ∷ levels) (before input) (after input) same (committed_levels outer level levels (before input) fits)
transaction_fits (c.Rollback list) input levels before after may fits elsewhere same = absurd (elsewhere refl)
transaction_fits (c.Freeze list) input levels before after may fits elsewhere same = absurd may.suits
transaction_fits (c.Thaw list) input levels before after may fits elsewhere same = absurd may.suits
transaction_fits (c.Show list) input levels before after may fits elsewhere same = led_as levels (before input) (after input) same fits

freezable_fits : (given : Command) (input : ℕ) (since : Option Delta) (before after : ℕ → List Tree)
    → MayTakeNow given (freezable input since) → LedTo (since_frozen since) (before input)
    → after input ≡ before input → FitsOver after (kept_after given before (freezable input since))
freezable_fits (c.Add list value) input since before after may fits same = absurd may.suits
freezable_fits (c.AddAll list values) input since before after may fits same = absurd may.suits
freezable_fits (c.Insert list index value) input since before after may fits same = absurd may.suits
freezable_fits (c.Set list index value) input since before after may fits same = absurd may.suits
freezable_fits (c.Remove list index) input since before after may fits same = absurd may.suits
freezable_fits (c.Clear list) input since before after may fits same = absurd may.suits
freezable_fits (c.Match list matcher) input since before after may fits same = absurd may.suits
freezable_fits (c.Order list order) input since before after may fits same = absurd may.suits
freezable_fits (c.Bounds list bounds) input since before after may fits same = absurd may.suits
freezable_fits (c.Apply list func) input since before after may fits same = absurd may.suits
freezable_fits (c.Attach list member) input since before after may fits same = absurd may.suits
freezable_fits (c.Detach list index) input since before after may fits same = absurd may.suits
freezable_fits (c.Begin list) input since before after may fits same = absurd may.suits
freezable_fits (c.Commit list) input since before after may fits same = absurd may.suits
freezable_fits (c.Rollback list) input since before after may fits same = absurd may.suits
freezable_fits (c.Freeze list) input since before after may fits same =
    led_as (no_change (length (before input)) ∷ []) (before input) (after input) same (begun_level [] (before input) tt)
freezable_fits (c.Thaw list) input since before after may fits same = tt
freezable_fits (c.Show list) input since before after may fits same = led_as (since_frozen since) (before input) (after input) same fits

pub command_fits : (given : Command) (own : Own) (before after : ℕ → List Tree)
    → MayTakeNow given own → FitsOver before own
    → ((i : ℕ) → Contains (inputs own) i → beginning given (about given) own ≡ Some i → ⊥)
    → InputsStay own before after → FitsOver after (kept_after given before own)
command_fits given (source contents) before after may fits elsewhere same = tt
command_fits given (over input view) before after may fits elsewhere same = tt
command_fits given (composite needed members) before after may fits elsewhere same = tt
command_fits given (transaction input levels) before after may fits elsewhere same =
    transaction_fits given input levels before after may fits (elsewhere input (Contains-here input [] input refl)) (same input (Contains-here input [] input refl))
command_fits given (freezable input since) before after may fits elsewhere same = freezable_fits given input since before after may fits (same input (Contains-here input [] input refl))
command_fits given (proxy input kept queue) before after may fits elsewhere same = fits

pub pump_fits : (own : Own) (before after : ℕ → List Tree) → FitsOver before own
    → InputsStay own before after → FitsOver after (pumped own)
pump_fits (source contents) before after fits same = tt
pump_fits (over input view) before after fits same = tt
pump_fits (composite needed members) before after fits same = tt
pump_fits (transaction input levels) before after fits same = led_as levels (before input) (after input) (same input (Contains-here input [] input refl)) fits
pump_fits (freezable input since) before after fits same = led_as (since_frozen since) (before input) (after input) (same input (Contains-here input [] input refl)) fits
pump_fits (proxy input kept []) before after fits same = tt
pump_fits (proxy input kept (d ∷ queue)) before after fits same = fits.2

pub rollback_fits : (input : ℕ) (level : Delta) (levels : List Delta) (before after : ℕ → List Tree)
    → LedTo (level ∷ levels) (before input) → after input ≡ undone level (before input)
    → LedTo levels (after input)
rollback_fits input level levels before after fits e = led_as levels (undone level (before input)) (after input) e (levels_before level levels (before input) fits)
