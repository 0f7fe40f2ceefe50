-- What one list keeps in a wave, shows after it, and is told of it, where its inputs lead from what they showed to what they show.
use Rattle.std.proofs.Common.{◌≡◌, ◌∙◌, ℕ, Bool, true, false, List, [], ◌∷◌, length, refl, ap, sym, subst}
use Rattle.std.specs.Prelude.{⊤, Some, None}
use Rattle.std.specs.List.{Contains}
use Rattle.std.proofs.lemmas.List.Elements.{All-contains}
use Rattle.spec_order.proofs.Members.{Contains-here}
use Rattle.spec_value.specs.Tree.{Tree}
use Rattle.spec_lists.specs.Piece.{IsNormal}
use Rattle.spec_lists.specs.Delta.{Delta, no_change, composed}
use Rattle.spec_lists.specs.Leads.{LeadsTo, IsDelta, applied, undone}
use Rattle.spec_lists.proofs.DeltaEdits.{identity_normal, identity_leads}
use Rattle.spec_lists.proofs.DeltaLeads.{ends_at, undone_is, undone_composed, composed_ends, composed_ends_normal}
use Rattle.spec_views.proofs.Views.{follow_of_leads, follow_of_normal}
use Rattle.spec_views.proofs.Composites.{composite_leads, composite_normal}
use Rattle.spec_states.specs.State.{Own, State, source, over, composite, transaction, freezable, proxy, inputs}
use Rattle.spec_states.specs.Shown.{is_held, undone_all, shown_of, shown}
use Rattle.spec_states.specs.Wave.{kept_later, follow, delta_by}
use Rattle.spec_states.specs.Laws.{Fits, LedTo, LeadOnFrom, since_frozen}
use Rattle.spec_states.proofs.Views.{Inward, shown_local}

-- a delta leads from one list to another, and is in normal form
pub record Goes (d : Delta) (xs ys : List Tree) : Type 0 where
  pub leads : IsDelta d xs ys
  pub normal : IsNormal d

-- the same, written in another way
pub goes_as : {d e : Delta} {xs ys us vs : List Tree} → Goes d xs ys → e ≡ d → us ≡ xs → vs ≡ ys
    → Goes e us vs
goes_as {d = d} {e = e} {xs = xs} {ys = ys} {us = us} h a b f =
    let O : Delta → Type 0 = λ p. Goes p xs ys in
    let P : List Tree → Type 0 = λ zs. Goes e zs ys in
    let Q : List Tree → Type 0 = λ zs. Goes e us zs in
    subst Q (sym f) (subst P (sym b) (subst O (sym a) h))

-- a list that stays
pub stays : (xs ys : List Tree) → ys ≡ xs → Goes (no_change (length xs)) xs ys
stays xs ys e = goes_as (record { leads = identity_leads xs; normal = identity_normal (length xs) }) refl refl e

-- what a list keeps fits what its inputs show
abbrev pub FitsOver : (ℕ → List Tree) → Own → Type 0
FitsOver shows (source contents) = ⊤
FitsOver shows (over input view) = ⊤
FitsOver shows (composite needed members) = ⊤
FitsOver shows (transaction input levels) = LedTo levels (shows input)
FitsOver shows (freezable input since) = LedTo (since_frozen since) (shows input)
FitsOver shows (proxy input kept queue) = LeadOnFrom queue kept

pub fits_over : (s : State) (own : Own) → Fits s own → FitsOver (shown s) own
fits_over s (source contents) h = tt
fits_over s (over input view) h = tt
fits_over s (composite needed members) h = tt
fits_over s (transaction input levels) h = h.1
fits_over s (freezable input since) h = h
fits_over s (proxy input kept queue) h = h

-- ---- a list that the wave isn't about, and that follows or stays

-- the first of the deltas that led to a list, once its list went on, and those before it
led_on : (level d : Delta) (levels : List Delta) (xs ys : List Tree) → LedTo (level ∷ levels) xs
    → Goes d xs ys → LedTo (composed level d ∷ levels) ys
led_on level d levels xs ys h g =
    let back : undone d ys ≡ xs = undone_is d xs ys g.leads in
    let to : LeadsTo d ys = ends_at d xs ys g.leads in
    let P : List Tree → Type 0 = λ zs. LeadsTo level zs in
    let before : LeadsTo level (undone d ys) = subst P (sym back) h.0 in
    let Q : List Tree → Type 0 = λ zs. LedTo levels zs in
    (composed_ends level d ys to before, composed_ends_normal level d ys to before, subst Q (sym (undone_composed level d ys to before ∙ ap (undone level) back)) h.2)

undone_on : (level d : Delta) (xs ys : List Tree) → LeadsTo level xs → Goes d xs ys
    → undone (composed level d) ys ≡ undone level xs
undone_on level d xs ys h g =
    let back : undone d ys ≡ xs = undone_is d xs ys g.leads in
    let P : List Tree → Type 0 = λ zs. LeadsTo level zs in
    undone_composed level d ys (ends_at d xs ys g.leads) (subst P (sym back) h) ∙ ap (undone level) back

-- what it keeps fits
pub after_fits : (list : ℕ) (own : Own) (before after : ℕ → List Tree) (delta : ℕ → Delta)
    → FitsOver before own
    → ((i : ℕ) → Contains (inputs own) i → Goes (delta i) (before i) (after i))
    → FitsOver after (kept_later list own delta)
after_fits list (source contents) before after delta fits lead = tt
after_fits list (over input view) before after delta fits lead = tt
after_fits list (composite needed members) before after delta fits lead = tt
after_fits list (transaction input []) before after delta fits lead = tt
after_fits list (transaction input (level ∷ levels)) before after delta fits lead =
    led_on level (delta input) levels (before input) (after input) fits (lead input (Contains-here input [] input refl))
after_fits list (freezable input None) before after delta fits lead = tt
after_fits list (freezable input (Some since)) before after delta fits lead =
    led_on since (delta input) [] (before input) (after input) fits (lead input (Contains-here input [] input refl))
after_fits list (proxy input kept queue) before after delta fits lead = fits

-- one that is held goes on to show what it did
pub after_held : (list : ℕ) (own : Own) (before after : ℕ → List Tree) (delta : ℕ → Delta)
    → is_held own ≡ true → FitsOver before own
    → ((i : ℕ) → Contains (inputs own) i → Goes (delta i) (before i) (after i))
    → shown_of (kept_later list own delta) after ≡ shown_of own before
after_held list (source contents) before after delta held fits lead = absurd cc
after_held list (over input view) before after delta held fits lead = absurd cc
after_held list (composite needed members) before after delta held fits lead = absurd cc
after_held list (transaction input []) before after delta held fits lead = absurd cc
after_held list (transaction input (level ∷ levels)) before after delta held fits lead =
    ap (undone_all levels) (undone_on level (delta input) (before input) (after input) fits.0 (lead input (Contains-here input [] input refl)))
after_held list (freezable input None) before after delta held fits lead = absurd cc
after_held list (freezable input (Some since)) before after delta held fits lead =
    undone_on since (delta input) (before input) (after input) fits.0 (lead input (Contains-here input [] input refl))
after_held list (proxy input kept queue) before after delta held fits lead = refl

-- one that isn't follows its inputs
pub follow_goes : (own : Own) (before after : ℕ → List Tree) (delta : ℕ → Delta) → Inward own
    → is_held own ≡ false
    → ((i : ℕ) → Contains (inputs own) i → Goes (delta i) (before i) (after i))
    → Goes (follow own before delta) (shown_of own before) (shown_of own after)
follow_goes (source contents) before after delta inward free lead = stays contents contents refl
follow_goes (over input view) before after delta inward free lead =
    let g = lead input (Contains-here input [] input refl) in
    record { leads = follow_of_leads view (before input) (after input) (delta input) g.leads; normal = follow_of_normal view (before input) (delta input) g.normal }
follow_goes (composite needed members) before after delta inward free lead = record {
  leads = composite_leads members before after delta (λ i d. (lead i (All-contains (λ member. Contains needed member) members i inward d)).leads);
  normal = composite_normal members delta;
}
follow_goes (transaction input []) before after delta inward free lead = lead input (Contains-here input [] input refl)
follow_goes (transaction input (level ∷ levels)) before after delta inward free lead = absurd cc
follow_goes (freezable input None) before after delta inward free lead = lead input (Contains-here input [] input refl)
follow_goes (freezable input (Some since)) before after delta inward free lead = absurd cc
follow_goes (proxy input kept queue) before after delta inward free lead = absurd cc

-- what a list that isn't held keeps, where a source has the delta that changes nothing
pub kept_free : (list : ℕ) (own : Own) (shows : ℕ → List Tree) (delta : ℕ → Delta)
    → is_held own ≡ false → delta list ≡ follow own shows delta → kept_later list own delta ≡ own
kept_free list (source contents) shows delta free is = ap (λ d. source (applied d contents)) is ∙ ap source (sym (identity_leads contents).ends)
kept_free list (over input view) shows delta free is = refl
kept_free list (composite needed members) shows delta free is = refl
kept_free list (transaction input []) shows delta free is = refl
kept_free list (transaction input (level ∷ levels)) shows delta free is = absurd cc
kept_free list (freezable input None) shows delta free is = refl
kept_free list (freezable input (Some since)) shows delta free is = absurd cc
kept_free list (proxy input kept queue) shows delta free is = absurd cc

-- so does its delta lead, whether it is held or not
pub after_goes : (list : ℕ) (own : Own) (before after : ℕ → List Tree) (delta : ℕ → Delta) (first : Delta)
    → FitsOver before own → Inward own
    → ((i : ℕ) → Contains (inputs own) i → Goes (delta i) (before i) (after i))
    → delta list
    ≡ delta_by false (is_held own) first (no_change (length (shown_of own before))) (follow own before delta)
    → Goes (delta list) (shown_of own before) (shown_of (kept_later list own delta) after)
after_goes list own before after delta first fits inward lead is = by_held (is_held own) refl
  where
    by_held : (t : Bool) → is_held own ≡ t
        → Goes (delta list) (shown_of own before) (shown_of (kept_later list own delta) after)
    by_held true held =
        goes_as (stays (shown_of own before) _ (after_held list own before after delta held fits lead))
        (is ∙ ap (λ t. delta_by false t first (no_change (length (shown_of own before))) (follow own before delta)) held) refl refl
    by_held false free =
        let follows : delta list ≡ follow own before delta = is ∙ ap (λ t. delta_by false t first (no_change (length (shown_of own before))) (follow own before delta)) free in
        goes_as (follow_goes own before after delta inward free lead) follows refl (ap (λ o. shown_of o after) (kept_free list own before delta free follows))

-- and where its inputs show what they did, so does it
pub after_stays : (list : ℕ) (own : Own) (before after : ℕ → List Tree) (delta : ℕ → Delta) (first : Delta)
    → FitsOver before own → Inward own
    → ((i : ℕ) → Contains (inputs own) i → Goes (delta i) (before i) (after i))
    → delta list
    ≡ delta_by false (is_held own) first (no_change (length (shown_of own before))) (follow own before delta)
    → ((i : ℕ) → Contains (inputs own) i → after i ≡ before i)
    → shown_of (kept_later list own delta) after ≡ shown_of own before
after_stays list own before after delta first fits inward lead is same = by_held (is_held own) refl
  where
    by_held : (t : Bool) → is_held own ≡ t
        → shown_of (kept_later list own delta) after ≡ shown_of own before
    by_held true held = after_held list own before after delta held fits lead
    by_held false free =
        let follows : delta list ≡ follow own before delta = is ∙ ap (λ t. delta_by false t first (no_change (length (shown_of own before))) (follow own before delta)) free in
        ap (λ o. shown_of o after) (kept_free list own before delta free follows) ∙ shown_local own inward after before same
