-- A wave keeps a state sound.
use Rattle.std.proofs.Common.{◌≡◌, ◌∙◌, ◌==◌, ℕ, ◌<◌, Bool, true, false, List, [], ◌∷◌, length, refl, sym, subst, arith, inl, inr}
use Rattle.std.specs.Prelude.{⊤, Option, Some, None, if◌then◌else◌}
use Rattle.std.specs.List.{Contains}
use Rattle.std.proofs.lemmas.Bool.{cases_lt, eqb-true, eqb-false}
use Rattle.spec_order.proofs.Members.{Contains-here}
use Rattle.spec_value.specs.Tree.{Tree}
use Rattle.spec_lists.specs.Delta.{Delta}
use Rattle.gl_lines.specs.declared.plan.Command.{Command}
use Rattle.spec_plans.specs.Plan.{origin as about}
use Rattle.spec_states.specs.State.{Own, State, source, over, composite, transaction, freezable, proxy, inputs, own_at}
use Rattle.spec_states.specs.Shown.{shown}
use Rattle.spec_states.specs.Wave.{Cause, command, pump, subject, kept_after, kept_by, kept_later, beginning, delta_in, wave_deltas, wave}
use Rattle.spec_states.specs.Step.{refusal}
use Rattle.spec_states.specs.Laws.{IsSource, Fits, IsSound, MayAttach, MayTake}
use Rattle.spec_states.proofs.DependencyOrder.{input_within}
use Rattle.spec_states.proofs.Views.{Inward, own_past, sound_inward, length-wave, own_at_wave, wave_ordered, wave_inward}
use Rattle.spec_states.proofs.Kept.{FitsOver, after_fits}
use Rattle.spec_states.proofs.Begun.{command_fits, pump_fits, rollback_fits}
use Rattle.spec_states.proofs.Told.{elsewhere, of_some}
use Rattle.spec_states.proofs.Stands.{IsTaken, taken_attaches, begin_of, fits_at, fits_of, source_below, taken_back, taken_back_shown, stands}

-- the source below a transaction list is one
abbrev pub OverSource : State → Own → Type 0
OverSource s (transaction input levels) = IsSource (own_at s input)
OverSource s other = ⊤

over_source : (s : State) (own : Own) → Fits s own → OverSource s own
over_source s (source contents) h = tt
over_source s (over input view) h = tt
over_source s (composite needed members) h = tt
over_source s (transaction input levels) h = source_below s input levels h
over_source s (freezable input since) h = tt
over_source s (proxy input kept queue) h = tt

pub fits_from : (s : State) (own : Own) → FitsOver (shown s) own → Inward own → OverSource s own
    → Fits s own
fits_from s (source contents) fits inward below = tt
fits_from s (over input view) fits inward below = tt
fits_from s (composite needed members) fits inward below = inward
fits_from s (transaction input levels) fits inward below = (below, fits)
fits_from s (freezable input since) fits inward below = fits
fits_from s (proxy input kept queue) fits inward below = fits

kept_after_below : (s : State) (given : Command) (shows : ℕ → List Tree) (own : Own)
    → OverSource s own → OverSource s (kept_after given shows own)
kept_after_below s given shows (source contents) h = tt
kept_after_below s given shows (over input view) h = tt
kept_after_below s given shows (composite needed members) h = tt
kept_after_below s given shows (transaction input levels) h = h
kept_after_below s given shows (freezable input since) h = tt
kept_after_below s given shows (proxy input kept queue) h = tt

kept_by_below : (s : State) (cause : Cause) (shows : ℕ → List Tree) (own : Own) → OverSource s own
    → OverSource s (kept_by cause shows own)
kept_by_below s (command given) shows own h = kept_after_below s given shows own h
kept_by_below s (pump list) shows (source contents) h = tt
kept_by_below s (pump list) shows (over input view) h = tt
kept_by_below s (pump list) shows (composite needed members) h = tt
kept_by_below s (pump list) shows (transaction input levels) h = h
kept_by_below s (pump list) shows (freezable input since) h = tt
kept_by_below s (pump list) shows (proxy input kept queue) h = tt

kept_later_below : (s : State) (list : ℕ) (own : Own) (delta : ℕ → Delta) → OverSource s own
    → OverSource s (kept_later list own delta)
kept_later_below s list (source contents) delta h = tt
kept_later_below s list (over input view) delta h = tt
kept_later_below s list (composite needed members) delta h = tt
kept_later_below s list (transaction input []) delta h = h
kept_later_below s list (transaction input (level ∷ levels)) delta h = h
kept_later_below s list (freezable input None) delta h = tt
kept_later_below s list (freezable input (Some since)) delta h = tt
kept_later_below s list (proxy input kept queue) delta h = tt

-- a source stays one
kept_by_source : (cause : Cause) (shows : ℕ → List Tree) (own : Own) → IsSource own
    → IsSource (kept_by cause shows own)
kept_by_source (command given) shows (source contents) h = tt
kept_by_source (command given) shows (over input view) h = absurd h
kept_by_source (command given) shows (composite needed members) h = absurd h
kept_by_source (command given) shows (transaction input levels) h = absurd h
kept_by_source (command given) shows (freezable input since) h = absurd h
kept_by_source (command given) shows (proxy input kept queue) h = absurd h
kept_by_source (pump list) shows (source contents) h = tt
kept_by_source (pump list) shows (over input view) h = absurd h
kept_by_source (pump list) shows (composite needed members) h = absurd h
kept_by_source (pump list) shows (transaction input levels) h = absurd h
kept_by_source (pump list) shows (freezable input since) h = absurd h
kept_by_source (pump list) shows (proxy input kept queue) h = absurd h

kept_after_source : (list : ℕ) (own : Own) (delta : ℕ → Delta) → IsSource own
    → IsSource (kept_later list own delta)
kept_after_source list (source contents) delta h = tt
kept_after_source list (over input view) delta h = absurd h
kept_after_source list (composite needed members) delta h = absurd h
kept_after_source list (transaction input levels) delta h = absurd h
kept_after_source list (freezable input since) delta h = absurd h
kept_after_source list (proxy input kept queue) delta h = absurd h

-- what every list keeps after a wave is what its own list or any other keeps of it
pub after_wave : (P : Own → Type 0) (s : State) (cause : Cause) (list : ℕ) → list < length s
    → ((list == subject cause) ≡ true → P (kept_by cause (shown s) (own_at s list)))
    → ((list == subject cause) ≡ false → P (kept_later list (own_at s list) (delta_in (wave_deltas s cause))))
    → P (own_at (wave s cause) list)
after_wave P s cause list within own rest = subst P (sym (own_at_wave s cause list within)) (by_subject (list == subject cause) refl)
  where
    by_subject : (t : Bool) → (list == subject cause) ≡ t
        → P (if t then kept_by cause (shown s) (own_at s list) else kept_later list (own_at s list) (delta_in (wave_deltas s cause)))
    by_subject true e = own e
    by_subject false e = rest e

pub wave_source : (s : State) (cause : Cause) (list : ℕ) → IsSource (own_at s list)
    → IsSource (own_at (wave s cause) list)
wave_source s cause list h = elim (cases_lt list (length s)) [
  | inl within ↦ after_wave IsSource s cause list within (λ e. kept_by_source cause (shown s) (own_at s list) h) (λ e. kept_after_source list (own_at s list) (delta_in (wave_deltas s cause)) h)
  | inr past ↦
      let e : length (wave s cause) ≡ length s = length-wave s cause in
      subst IsSource (sym (own_past (wave s cause) list (omega (arith, past, e)))) tt
]

below_after : (s : State) (cause : Cause) (own : Own) → OverSource s own
    → OverSource (wave s cause) own
below_after s cause (source contents) h = tt
below_after s cause (over input view) h = tt
below_after s cause (composite needed members) h = tt
below_after s cause (transaction input levels) h = wave_source s cause input h
below_after s cause (freezable input since) h = tt
below_after s cause (proxy input kept queue) h = tt

-- what the list keeps that the wave is about fits what its inputs show
subject_fits : (s : State) (cause : Cause) → IsSound s → IsTaken s cause → subject cause < length s
    → FitsOver (shown (wave s cause)) (kept_by cause (shown s) (own_at s (subject cause)))
subject_fits s (pump list) h taken within =
    pump_fits (own_at s list) (shown s) (shown (wave s (pump list))) (fits_of s h list) ((stands s (pump list) h taken list within).quiet (λ b e. of_some list b e))
subject_fits s (command given) h taken within = by_begin (beginning given (about given) (own_at s (about given))) refl
  where
    not_some : (i : ℕ) → None ≡ Some i → ⊥
    not_some i e = absurd cc

    by_position : (i : ℕ) → beginning given (about given) (own_at s (about given)) ≡ Some i
        → (t : Bool) → (i == about given) ≡ t
        → FitsOver (shown (wave s (command given))) (kept_after given (shown s) (own_at s (about given)))
    by_position i e true f =
        let same : i ≡ about given = eqb-true i (about given) f in
        let only : (b : ℕ) → begin_of s (command given) ≡ Some b → b ≡ about given = λ b g. of_some i b (sym e ∙ g) ∙ same in
        command_fits given (own_at s (about given)) (shown s) (shown (wave s (command given))) taken (fits_of s h (about given))
        (λ j d g. (stands s (command given) h taken (about given) within).apart (subst (λ k. Contains (inputs (own_at s (about given))) k) (only j g) d))
        ((stands s (command given) h taken (about given) within).quiet only)
    by_position i e false f =
        let r = elsewhere given (own_at s (about given)) i (shown s) taken e (eqb-false i (about given) f) in
        let input : Contains (inputs (own_at s (about given))) i = subst (λ o. Contains (inputs o) i) (sym r.is) (Contains-here i [] i refl) in
        let there : i < length s = input_within s h.ordered (about given) i input in
        let back = taken_back s given i h there r e in
        let after = taken_back_shown s given i r.level r.levels back (stands s (command given) h taken i there).goes in
        subst (FitsOver (shown (wave s (command given)))) (sym r.kept) (rollback_fits i r.level r.levels (shown s) (shown (wave s (command given))) back.led after)

    by_begin : (o : Option ℕ) → beginning given (about given) (own_at s (about given)) ≡ o
        → FitsOver (shown (wave s (command given))) (kept_after given (shown s) (own_at s (about given)))
    by_begin None e =
        command_fits given (own_at s (about given)) (shown s) (shown (wave s (command given))) taken (fits_of s h (about given))
        (λ j d g. not_some j (sym e ∙ g)) ((stands s (command given) h taken (about given) within).quiet (λ b g. absurd (not_some b (sym e ∙ g))))
    by_begin (Some i) e = by_position i e (i == about given) refl

after_fits_at : (s : State) (cause : Cause) → IsSound s → IsTaken s cause → (k : ℕ) → k < length s
    → FitsOver (shown (wave s cause)) (kept_later k (own_at s k) (delta_in (wave_deltas s cause)))
after_fits_at s cause h taken k within =
    after_fits k (own_at s k) (shown s) (shown (wave s cause)) (delta_in (wave_deltas s cause)) (fits_of s h k) (λ i d. (stands s cause h taken i (input_within s h.ordered k i d)).goes)

-- a wave keeps a state sound
pub wave_sound_by : (s : State) (cause : Cause) → IsSound s → IsTaken s cause
    → IsSound (wave s cause)
wave_sound_by s cause h taken = record { ordered = wave_ordered s cause h.ordered; fits = λ list within. each list (subst (λ n. list < n) (length-wave s cause) within) }
  where
    own_fits : (list : ℕ) → list < length s → list ≡ subject cause
        → FitsOver (shown (wave s cause)) (kept_by cause (shown s) (own_at s list))
    own_fits list within e =
        subst (λ k. FitsOver (shown (wave s cause)) (kept_by cause (shown s) (own_at s k))) (sym e) (subject_fits s cause h taken (subst (λ k. k < length s) e within))

    each : (list : ℕ) → list < length s → Fits (wave s cause) (own_at (wave s cause) list)
    each list within =
        let below : OverSource s (own_at s list) = over_source s (own_at s list) (fits_at s h list) in
        fits_from (wave s cause) (own_at (wave s cause) list)
        (after_wave (FitsOver (shown (wave s cause))) s cause list within (λ e. own_fits list within (eqb-true list (subject cause) e)) (λ e. after_fits_at s cause h taken list within))
        (wave_inward s cause (taken_attaches cause (own_at s (subject cause)) taken) (sound_inward s h) list)
        (below_after s cause (own_at (wave s cause) list)
        (after_wave (OverSource s) s cause list within (λ e. kept_by_below s cause (shown s) (own_at s list) below) (λ e. kept_later_below s list (own_at s list) (delta_in (wave_deltas s cause)) below)))

pub wave_sound : (s : State) (given : Command) → IsSound s → refusal s given ≡ None
    → MayAttach given (own_at s (about given)) → MayTake given (own_at s (about given))
    → IsSound (wave s (command given))
wave_sound s given h none may suits = wave_sound_by s (command given) h (record { granted = none; attaches = may; suits = suits })

pub pump_sound : (s : State) (list : ℕ) → IsSound s → IsSound (wave s (pump list))
pump_sound s list h = wave_sound_by s (pump list) h tt
