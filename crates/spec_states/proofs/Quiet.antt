-- Identity in, identity out: a list whose inputs don't change doesn't either, but where a wave begins.
use Rattle.std.proofs.Common.{◌≡◌, ◌∙◌, ◌==◌, ℕ, ◌<◌, Bool, true, false, List, [], ◌∷◌, length, map, refl, ap, sym}
use Rattle.std.specs.Prelude.{Some, None}
use Rattle.std.specs.List.{Contains}
use Rattle.std.proofs.lemmas.List.Elements.{All-contains}
use Rattle.spec_order.proofs.Members.{Contains-here}
use Rattle.spec_value.specs.Tree.{Tree}
use Rattle.spec_lists.specs.Delta.{Delta, no_change, composed}
use Rattle.spec_lists.specs.Piece.{inverted}
use Rattle.spec_lists.specs.Leads.{applied}
use Rattle.spec_lists.proofs.DeltaLeads.{length_from, applied_no_change}
use Rattle.spec_lists.proofs.Composition.{identity_is_neutral}
use Rattle.spec_views.specs.View.{follow_of}
use Rattle.spec_views.proofs.Views.{follow_of_same}
use Rattle.spec_views.proofs.Same.{composite_same}
use Rattle.spec_states.specs.State.{Own, State, source, over, composite, transaction, freezable, proxy, inputs, own_at}
use Rattle.spec_states.specs.Shown.{is_held, shown_of, shown}
use Rattle.spec_states.specs.Wave.{Cause, subject, kept_later, follow, delta_in, is_at, wave_deltas, wave}
use Rattle.spec_states.specs.Laws.{LedTo, IsSound}
use Rattle.spec_states.proofs.Views.{Inward, sound_inward, shown_is}
use Rattle.spec_states.proofs.Kept.{FitsOver}
use Rattle.spec_states.proofs.Waves.{begin_of, IsTaken, fits_of, told_as, own_now, delta_now, stands}

-- nothing is told of the inputs of a list
abbrev pub InputsUntold : Own → (ℕ → List Tree) → (ℕ → Delta) → Type 0
InputsUntold own shows delta = (i : ℕ) → Contains (inputs own) i → delta i ≡ no_change (length (shows i))

pub follow_same : (own : Own) (shows : ℕ → List Tree) (delta : ℕ → Delta) → Inward own
    → is_held own ≡ false → InputsUntold own shows delta
    → follow own shows delta ≡ no_change (length (shown_of own shows))
follow_same (source contents) shows delta inward free untold = refl
follow_same (over input view) shows delta inward free untold = ap (follow_of view (shows input)) (untold input (Contains-here input [] input refl)) ∙ follow_of_same view (shows input)
follow_same (composite needed members) shows delta inward free untold =
    composite_same members shows delta (λ i d. untold i (All-contains (λ member. Contains needed member) members i inward d))
follow_same (transaction input []) shows delta inward free untold = untold input (Contains-here input [] input refl)
follow_same (transaction input (level ∷ levels)) shows delta inward free untold = absurd cc
follow_same (freezable input None) shows delta inward free untold = untold input (Contains-here input [] input refl)
follow_same (freezable input (Some since)) shows delta inward free untold = absurd cc
follow_same (proxy input kept queue) shows delta inward free untold = absurd cc

-- then nothing is told of it, unless the wave begins there
pub quiet_told : (s : State) (cause : Cause) (k : ℕ) → IsSound s → k < length s
    → is_at (begin_of s cause) k ≡ false
    → InputsUntold (own_at s k) (shown s) (delta_in (wave_deltas s cause))
    → delta_in (wave_deltas s cause) k ≡ no_change (length (shown s k))
quiet_told s cause k h within at untold =
    delta_now s cause h k within false at
    ∙ by_held (is_held (own_at s k)) refl ∙ ap (λ xs. no_change (length xs)) (sym (shown_is s h k within))
  where
    by_held : (t : Bool) → is_held (own_at s k) ≡ t
        → told_as s cause k false t ≡ no_change (length (shown_of (own_at s k) (shown s)))
    by_held true held = refl
    by_held false free = follow_same (own_at s k) (shown s) (delta_in (wave_deltas s cause)) (sound_inward s h k) free untold

-- a delta that led to a list, and then nothing
composed_nothing : (level : Delta) (levels : List Delta) (xs : List Tree)
    → LedTo (level ∷ levels) xs → composed level (no_change (length xs)) ≡ level
composed_nothing level levels xs h =
    ap (λ n. composed level (no_change n)) (length_from (map inverted level) xs h.0) ∙ (identity_is_neutral level h.1).1

quiet_after : (list : ℕ) (own : Own) (shows : ℕ → List Tree) (delta : ℕ → Delta)
    → FitsOver shows own → InputsUntold own shows delta
    → delta list ≡ no_change (length (shown_of own shows))
    → kept_later list own delta ≡ own
quiet_after list (source contents) shows delta fits untold is = ap (λ d. source (applied d contents)) is ∙ ap source (applied_no_change contents)
quiet_after list (over input view) shows delta fits untold is = refl
quiet_after list (composite needed members) shows delta fits untold is = refl
quiet_after list (transaction input []) shows delta fits untold is = refl
quiet_after list (transaction input (level ∷ levels)) shows delta fits untold is =
    ap (λ d. transaction input (composed level d ∷ levels)) (untold input (Contains-here input [] input refl)) ∙ ap (λ l. transaction input (l ∷ levels)) (composed_nothing level levels (shows input) fits)
quiet_after list (freezable input None) shows delta fits untold is = refl
quiet_after list (freezable input (Some since)) shows delta fits untold is =
    ap (λ d. freezable input (Some (composed since d))) (untold input (Contains-here input [] input refl)) ∙ ap (λ l. freezable input (Some l)) (composed_nothing since [] (shows input) fits)
quiet_after list (proxy input kept queue) shows delta fits untold is = refl

-- it keeps what it does, unless the wave is about it,
pub quiet_kept : (s : State) (cause : Cause) (k : ℕ) → IsSound s → k < length s
    → (k == subject cause) ≡ false → is_at (begin_of s cause) k ≡ false
    → InputsUntold (own_at s k) (shown s) (delta_in (wave_deltas s cause))
    → own_at (wave s cause) k ≡ own_at s k
quiet_kept s cause k h within other at untold =
    own_now s cause k within false other
    ∙ quiet_after k (own_at s k) (shown s) (delta_in (wave_deltas s cause)) (fits_of s h k) untold
    (quiet_told s cause k h within at untold ∙ ap (λ xs. no_change (length xs)) (shown_is s h k within))

-- and shows what it did
pub untold_shown : (s : State) (cause : Cause) (k : ℕ) → IsSound s → IsTaken s cause → k < length s
    → delta_in (wave_deltas s cause) k ≡ no_change (length (shown s k))
    → shown (wave s cause) k ≡ shown s k
untold_shown s cause k h taken within untold =
    (stands s cause h taken k within).goes.leads.ends ∙ ap (λ d. applied d (shown s k)) untold ∙ applied_no_change (shown s k)
