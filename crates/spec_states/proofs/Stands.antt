-- List by list in the dependency order: the delta of each in a wave leads from what it showed to what it shows.
use Rattle.std.proofs.Common.{◌≡◌, ◌∙◌, ◌==◌, ℕ, ◌<◌, Bool, true, false, List, [], ◌∷◌, ◌++◌, length, refl, ap, sym, subst, arith, inl, inr}
use Rattle.std.specs.Prelude.{Option, Some, None, if◌then◌else◌}
use Rattle.std.specs.List.{Contains}
use Rattle.std.proofs.lemmas.Bool.{cases_lt, eqb-true, eqb-false}
use Rattle.std.proofs.Common.{eq-eqb}
use Rattle.std.proofs.lemmas.List.Elements.{Contains-append_left, Contains-append_right}
use Rattle.spec_order.proofs.Members.{Contains-here}
use Rattle.spec_lists.specs.Delta.{Delta, no_change, inverse}
use Rattle.spec_lists.specs.Leads.{applied, undone}
use Rattle.gl_lines.specs.declared.plan.Command.{Command}
use Rattle.spec_plans.specs.Plan.{origin as about}
use Rattle.spec_states.specs.State.{Own, State, source, over, composite, transaction, freezable, proxy, inputs, own_at, dependency_order}
use Rattle.spec_states.specs.Shown.{is_held, undone_all, shown_of, shown}
use Rattle.spec_states.specs.Wave.{Cause, command, pump, subject, kept_by, kept_later, beginning, begins, first_delta, begun_with, follow, delta_in, is_at, delta_by, wave_deltas, wave}
use Rattle.spec_states.specs.Laws.{LedTo, IsSource, Fits, IsSound}
use Rattle.spec_states.proofs.DependencyOrder.{in_turn, input_within}
use Rattle.spec_states.proofs.Views.{IsInward, own_past, sound_inward, shown_in, shown_is, length-wave, own_at_wave, wave_ordered, wave_inward, MayAttachBy}
use Rattle.spec_states.proofs.Kept.{Goes, goes_as, stays, FitsOver, fits_over, after_goes, after_stays}
use Rattle.spec_states.proofs.Begun.{IsTakenBy, InputsStay, begun_goes, nowhere_stays, nowhere_goes, rolled_back, rollback_goes}
use Rattle.spec_states.proofs.Told.{each_follows, at_true, RollsBack, elsewhere, of_some}

-- what makes a wave isn't refused, and is for the list that it is about
abbrev pub IsTaken : State → Cause → Type 0
IsTaken s cause = IsTakenBy cause (own_at s (subject cause))

pub taken_attaches : (cause : Cause) (own : Own) → IsTakenBy cause own → MayAttachBy cause own
taken_attaches (command given) own h = h.attaches
taken_attaches (pump list) own h = tt

abbrev pub begin_of : State → Cause → Option ℕ
begin_of s cause = begins cause (own_at s (subject cause))

-- the list where the wave begins isn't among these
abbrev pub Unbegun : State → Cause → List ℕ → Type 0
Unbegun s cause placed = (b : ℕ) → begin_of s cause ≡ Some b → ¬ Contains placed b

-- What stands of the lists that were placed: the delta of each leads on, in normal form; while the list where the wave begins isn't
-- placed they show what they did; and so do the inputs of a list where the wave begins, or of any if it begins nowhere.
pub record Stands (s : State) (cause : Cause) (placed : List ℕ) (i : ℕ) : Type 0 where
  pub goes : Goes (delta_in (wave_deltas s cause) i) (shown s i) (shown (wave s cause) i)
  pub stay : Unbegun s cause placed → shown (wave s cause) i ≡ shown s i
  pub quiet : ((b : ℕ) → begin_of s cause ≡ Some b → b ≡ i)
      → InputsStay (own_at s i) (shown s) (shown (wave s cause))
  pub apart : ¬ Contains (inputs (own_at s i)) i

-- what there is when a list comes next
record Next (s : State) (cause : Cause) (placed : List ℕ) (k : ℕ) : Type 0 where
  pub sound : IsSound s
  pub taken : IsTaken s cause
  pub within : k < length s
  pub needed : (i : ℕ) → Contains (inputs (own_at s k)) i → Contains placed i
  pub new : ¬ Contains placed k
  pub stand : (i : ℕ) → Contains placed i → Stands s cause placed i

pub fits_at : (s : State) → IsSound s → (list : ℕ) → Fits s (own_at s list)
fits_at s h list = elim (cases_lt list (length s)) [
  | inl within ↦ h.fits list within
  | inr past ↦ subst (Fits s) (sym (own_past s list (omega (arith, past)))) tt
]

pub fits_of : (s : State) → IsSound s → (list : ℕ) → FitsOver (shown s) (own_at s list)
fits_of s h list = fits_over s (own_at s list) (fits_at s h list)

-- the inputs of the next list: their deltas lead, and before the wave begins they show what they did
inputs_lead : (s : State) (cause : Cause) (placed : List ℕ) (k : ℕ) → Next s cause placed k
    → (i : ℕ) → Contains (inputs (own_at s k)) i
    → Goes (delta_in (wave_deltas s cause) i) (shown s i) (shown (wave s cause) i)
inputs_lead s cause placed k h i d = (h.stand i (h.needed i d)).goes

inputs_stay : (s : State) (cause : Cause) (placed : List ℕ) (k : ℕ) → Next s cause placed k
    → Unbegun s cause placed → InputsStay (own_at s k) (shown s) (shown (wave s cause))
inputs_stay s cause placed k h unbegun i d = (h.stand i (h.needed i d)).stay unbegun

inputs_quiet : (s : State) (cause : Cause) (placed : List ℕ) (k : ℕ) → Next s cause placed k
    → ((b : ℕ) → begin_of s cause ≡ Some b → b ≡ k)
    → InputsStay (own_at s k) (shown s) (shown (wave s cause))
inputs_quiet s cause placed k h only = inputs_stay s cause placed k h (λ b e d. h.new (subst (λ j. Contains placed j) (only b e) d))

not_own_input : (s : State) (cause : Cause) (placed : List ℕ) (k : ℕ) → Next s cause placed k
    → ¬ Contains (inputs (own_at s k)) k
not_own_input s cause placed k h d = h.new (h.needed k d)

-- what a list keeps after a wave, by whether the wave is about it
abbrev pub kept_as : State → Cause → ℕ → Bool → Own
kept_as s cause k own =
    if own then kept_by cause (shown s) (own_at s k)
    else kept_later k (own_at s k) (delta_in (wave_deltas s cause))

-- and its delta, by whether the wave begins at it and whether it is held
abbrev pub told_as : State → Cause → ℕ → Bool → Bool → Delta
told_as s cause k begun held =
    delta_by begun held (begun_with cause (own_at s (subject cause)) (shown s))
    (no_change (length (shown_of (own_at s k) (shown s))))
    (follow (own_at s k) (shown s) (delta_in (wave_deltas s cause)))

pub own_now : (s : State) (cause : Cause) (k : ℕ) → k < length s → (t : Bool)
    → (k == subject cause) ≡ t → own_at (wave s cause) k ≡ kept_as s cause k t
own_now s cause k within t e = own_at_wave s cause k within ∙ ap (kept_as s cause k) e

pub shown_now : (s : State) (cause : Cause) → IsSound s → IsTaken s cause → (k : ℕ) → k < length s
    → (t : Bool) → (k == subject cause) ≡ t
    → shown (wave s cause) k ≡ shown_of (kept_as s cause k t) (shown (wave s cause))
shown_now s cause h taken k within t e =
    let there : k < length (wave s cause) = subst (λ n. k < n) (sym (length-wave s cause)) within in
    let attaches = taken_attaches cause (own_at s (subject cause)) taken in
    let inward : IsInward (wave s cause) = wave_inward s cause attaches (sound_inward s h) in
    shown_in (wave s cause) (wave_ordered s cause h.ordered) inward k there
    ∙ ap (λ o. shown_of o (shown (wave s cause))) (own_now s cause k within t e)

pub delta_now : (s : State) (cause : Cause) → IsSound s → (k : ℕ) → k < length s → (t : Bool)
    → is_at (begin_of s cause) k ≡ t
    → delta_in (wave_deltas s cause) k ≡ told_as s cause k t (is_held (own_at s k))
delta_now s cause h k within t e =
    each_follows s cause k h within
    ∙ ap (λ xs. delta_by (is_at (begin_of s cause) k) (is_held (own_at s k)) (begun_with cause (own_at s (subject cause)) (shown s)) (no_change (length xs)) (follow (own_at s k) (shown s) (delta_in (wave_deltas s cause)))) (shown_is s h k within)
    ∙ ap (λ b. told_as s cause k b (is_held (own_at s k))) e

-- the wave begins at the last one
begun_last : (s : State) (cause : Cause) (placed : List ℕ) (k : ℕ) → begin_of s cause ≡ Some k
    → ¬ Unbegun s cause (placed ++ k ∷ [])
begun_last s cause placed k e unbegun = unbegun k e (Contains-append_right placed (k ∷ []) k (Contains-here k [] k refl))

-- a source that a rollback takes back
pub record IsTakenBack (s : State) (given : Command) (i : ℕ) (level : Delta) (levels : List Delta) : Type 0 where
  pub told : delta_in (wave_deltas s (command given)) i ≡ inverse level
  pub goes : Goes (inverse level) (shown s i) (undone level (shown s i))
  pub led : LedTo (level ∷ levels) (shown s i)
  pub is_source : IsSource (own_at s i)

pub source_below : (s : State) (i : ℕ) (levels : List Delta) → Fits s (transaction i levels)
    → IsSource (own_at s i)
source_below s i levels h = h.0

led_below : (s : State) (i : ℕ) (levels : List Delta) → Fits s (transaction i levels)
    → LedTo levels (shown s i)
led_below s i levels h = h.1

pub taken_back : (s : State) (given : Command) (i : ℕ) → IsSound s → i < length s
    → (r : RollsBack given (own_at s (about given)) i (shown s))
    → beginning given (about given) (own_at s (about given)) ≡ Some i
    → IsTakenBack s given i r.level r.levels
taken_back s given i h within r e =
    let fits : Fits s (transaction i (r.level ∷ r.levels)) = subst (Fits s) r.is (fits_at s h (about given)) in
    let led : LedTo (r.level ∷ r.levels) (shown s i) = led_below s i (r.level ∷ r.levels) fits in
    let here : is_at (beginning given (about given) (own_at s (about given))) i ≡ true = ap (λ o. is_at o i) e ∙ eq-eqb i i refl in
    record { told = delta_now s (command given) h i within true here ∙ r.first; goes = rollback_goes r.level r.levels (shown s i) led; led = led; is_source = source_below s i (r.level ∷ r.levels) fits }

pub taken_back_shown : (s : State) (given : Command) (i : ℕ) (level : Delta) (levels : List Delta)
    → IsTakenBack s given i level levels
    → Goes (delta_in (wave_deltas s (command given)) i) (shown s i) (shown (wave s (command given)) i)
    → shown (wave s (command given)) i ≡ undone level (shown s i)
taken_back_shown s given i level levels back goes =
    goes.leads.ends ∙ ap (λ d. applied d (shown s i)) back.told ∙ sym back.goes.leads.ends

-- the list that the wave is about, where it begins at it
subject_begun : (s : State) (cause : Cause) (placed : List ℕ) → Next s cause placed (subject cause)
    → is_at (begin_of s cause) (subject cause) ≡ true
    → Stands s cause (placed ++ subject cause ∷ []) (subject cause)
subject_begun s cause placed h e =
    let here : begin_of s cause ≡ Some (subject cause) = at_true (begin_of s cause) (subject cause) e in
    let quiet = inputs_quiet s cause placed (subject cause) h in
    let was = shown_is s h.sound (subject cause) h.within in
    record {
      goes = goes_as
          (begun_goes cause (own_at s (subject cause)) (shown s) (shown (wave s cause)) h.taken (fits_of s h.sound (subject cause)) (sound_inward s h.sound (subject cause)) here
          (not_own_input s cause placed (subject cause) h) was (quiet (λ b f. of_some (subject cause) b (sym here ∙ f))))
          (delta_now s cause h.sound (subject cause) h.within true e) was (shown_now s cause h.sound h.taken (subject cause) h.within true (eq-eqb (subject cause) (subject cause) refl));
      stay = λ unbegun. absurd (begun_last s cause placed (subject cause) here unbegun);
      quiet = quiet;
      apart = not_own_input s cause placed (subject cause) h;
    }

-- where it begins nowhere
subject_nowhere : (s : State) (given : Command) (placed : List ℕ)
    → Next s (command given) placed (about given)
    → beginning given (about given) (own_at s (about given)) ≡ None
    → Stands s (command given) (placed ++ about given ∷ []) (about given)
subject_nowhere s given placed h none =
    let k : ℕ = about given in
    let own : Own = own_at s k in
    let quiet = inputs_quiet s (command given) placed k h in
    let never : (b : ℕ) → begin_of s (command given) ≡ Some b → b ≡ k = λ b f. absurd (none_some b (sym none ∙ f)) in
    let was = shown_is s h.sound k h.within in
    let now = shown_now s (command given) h.sound h.taken k h.within true (eq-eqb k k refl) in
    let at : is_at (begin_of s (command given)) k ≡ false = ap (λ o. is_at o k) none in
    record {
      goes = goes_as
          (nowhere_goes given own (shown s) (shown (wave s (command given))) (delta_in (wave_deltas s (command given))) (first_delta given own (shown s)) h.taken (fits_of s h.sound k) (sound_inward s h.sound k) none
          (inputs_lead s (command given) placed k h) (quiet never))
          (delta_now s (command given) h.sound k h.within false at) was now;
      stay = λ unbegun. now ∙ nowhere_stays given own (shown s) (shown (wave s (command given))) h.taken (fits_of s h.sound k) (sound_inward s h.sound k) none (quiet never) ∙ sym was;
      quiet = quiet;
      apart = not_own_input s (command given) placed k h;
    }
  where
    none_some : (b : ℕ) → None ≡ Some b → ⊥
    none_some b e = absurd cc

-- and where it begins at the source of its transaction
subject_rolls : (s : State) (given : Command) (placed : List ℕ) (i : ℕ)
    → Next s (command given) placed (about given)
    → beginning given (about given) (own_at s (about given)) ≡ Some i → (i ≡ about given → ⊥)
    → Stands s (command given) (placed ++ about given ∷ []) (about given)
subject_rolls s given placed i h begun apart =
    let k : ℕ = about given in
    let r = elsewhere given (own_at s k) i (shown s) h.taken begun apart in
    let input : Contains (inputs (own_at s k)) i = subst (λ o. Contains (inputs o) i) (sym r.is) (Contains-here i [] i refl) in
    let goes = inputs_lead s (command given) placed k h i input in
    let back = taken_back s given i h.sound (input_within s h.sound.ordered k i input) r begun in
    let after : shown (wave s (command given)) i ≡ undone r.level (shown s i) = taken_back_shown s given i r.level r.levels back goes in
    let was : shown s k ≡ undone_all (r.level ∷ r.levels) (shown s i) = shown_is s h.sound k h.within ∙ ap (λ o. shown_of o (shown s)) r.is in
    let now : shown (wave s (command given)) k ≡ undone_all r.levels (shown (wave s (command given)) i) =
    shown_now s (command given) h.sound h.taken k h.within true (eq-eqb k k refl) ∙ ap (λ o. shown_of o (shown (wave s (command given)))) r.kept in
    let same : shown (wave s (command given)) k ≡ shown s k = now ∙ rolled_back i r.level r.levels (shown s) (shown (wave s (command given))) after ∙ sym was in
    let at : is_at (begin_of s (command given)) k ≡ false = ap (λ o. is_at o k) begun ∙ eqb_other k i (λ e. apart (sym e)) in
    let held : is_held (own_at s k) ≡ true = ap is_held r.is in
    let told : delta_in (wave_deltas s (command given)) k ≡ no_change (length (shown_of (own_at s k) (shown s))) =
    delta_now s (command given) h.sound k h.within false at
    ∙ ap (told_as s (command given) k false) held in
    record {
      goes = goes_as (stays (shown s k) (shown (wave s (command given)) k) same) (told ∙ ap (λ xs. no_change (length xs)) (sym (shown_is s h.sound k h.within))) refl refl;
      stay = λ unbegun. same;
      quiet = inputs_quiet s (command given) placed k h;
      apart = not_own_input s (command given) placed k h;
    }
  where
    eqb_other : (m n : ℕ) → (m ≡ n → ⊥) → (m == n) ≡ false
    eqb_other m n e = by_test (m == n) refl
      where
        by_test : (t : Bool) → (m == n) ≡ t → t ≡ false
        by_test true f = absurd (e (eqb-true m n f))
        by_test false f = refl

subject_stands : (s : State) (cause : Cause) (placed : List ℕ) → Next s cause placed (subject cause)
    → Stands s cause (placed ++ subject cause ∷ []) (subject cause)
subject_stands s (pump list) placed h = subject_begun s (pump list) placed h (eq-eqb list list refl)
subject_stands s (command given) placed h = by_begin (beginning given (about given) (own_at s (about given))) refl
  where
    by_position : (i : ℕ) → beginning given (about given) (own_at s (about given)) ≡ Some i
        → (t : Bool) → (i == about given) ≡ t
        → Stands s (command given) (placed ++ about given ∷ []) (about given)
    by_position i e true same =
        subject_begun s (command given) placed h (ap (λ o. is_at o (about given)) e ∙ eq-eqb (about given) i (sym (eqb-true i (about given) same)))
    by_position i e false other = subject_rolls s given placed i h e (eqb-false i (about given) other)

    by_begin : (o : Option ℕ) → beginning given (about given) (own_at s (about given)) ≡ o
        → Stands s (command given) (placed ++ about given ∷ []) (about given)
    by_begin None e = subject_nowhere s given placed h e
    by_begin (Some i) e = by_position i e (i == about given) refl

-- a source at which a rollback begins
source_stands : (s : State) (given : Command) (placed : List ℕ) (k : ℕ)
    → Next s (command given) placed k
    → beginning given (about given) (own_at s (about given)) ≡ Some k → (k == about given) ≡ false
    → Stands s (command given) (placed ++ k ∷ []) k
source_stands s given placed k h begun other =
    let r = elsewhere given (own_at s (about given)) k (shown s) h.taken begun (eqb-false k (about given) other) in
    let back = taken_back s given k h.sound h.within r begun in
    record {
      goes = by_own (own_at s k) refl back.is_source r.level back.told back.goes;
      stay = λ unbegun. absurd (begun_last s (command given) placed k begun unbegun);
      quiet = inputs_quiet s (command given) placed k h;
      apart = not_own_input s (command given) placed k h;
    }
  where
    by_own : (own : Own) → own_at s k ≡ own → IsSource own → (level : Delta)
        → delta_in (wave_deltas s (command given)) k ≡ inverse level
        → Goes (inverse level) (shown s k) (undone level (shown s k))
        → Goes (delta_in (wave_deltas s (command given)) k) (shown s k) (shown (wave s (command given)) k)
    by_own (source contents) e is level told goes =
        let was : shown s k ≡ contents = shown_is s h.sound k h.within ∙ ap (λ o. shown_of o (shown s)) e in
        let now : shown (wave s (command given)) k ≡ applied (delta_in (wave_deltas s (command given)) k) contents =
        shown_now s (command given) h.sound h.taken k h.within false other ∙ ap (λ o. shown_of (kept_later k o (delta_in (wave_deltas s (command given)))) (shown (wave s (command given)))) e in
        goes_as goes told refl (now ∙ ap (λ p. applied p contents) told ∙ ap (applied (inverse level)) (sym was) ∙ sym goes.leads.ends)
    by_own (over input view) e is level told goes = absurd is
    by_own (composite needed members) e is level told goes = absurd is
    by_own (transaction input levels) e is level told goes = absurd is
    by_own (freezable input since) e is level told goes = absurd is
    by_own (proxy input kept queue) e is level told goes = absurd is

-- any other list
after_stands : (s : State) (cause : Cause) (placed : List ℕ) (k : ℕ) → Next s cause placed k
    → is_at (begin_of s cause) k ≡ false → (k == subject cause) ≡ false
    → Stands s cause (placed ++ k ∷ []) k
after_stands s cause placed k h at other =
    let first : Delta = begun_with cause (own_at s (subject cause)) (shown s) in
    let deltas : ℕ → Delta = delta_in (wave_deltas s cause) in
    let is = delta_now s cause h.sound k h.within false at in
    let was = shown_is s h.sound k h.within in
    let now = shown_now s cause h.sound h.taken k h.within false other in
    let fits = fits_of s h.sound k in
    let inward = sound_inward s h.sound k in
    let lead = inputs_lead s cause placed k h in
    record {
      goes = goes_as (after_goes k (own_at s k) (shown s) (shown (wave s cause)) deltas first fits inward lead is) refl was now;
      stay = λ unbegun.
          now ∙ after_stays k (own_at s k) (shown s) (shown (wave s cause)) deltas first fits inward lead is
          (inputs_stay s cause placed k h (λ b e d. unbegun b e (Contains-append_left placed (k ∷ []) b d))) ∙ sym was;
      quiet = inputs_quiet s cause placed k h;
      apart = not_own_input s cause placed k h;
    }

next_stands : (s : State) (cause : Cause) (placed : List ℕ) (k : ℕ) → Next s cause placed k
    → Stands s cause (placed ++ k ∷ []) k
next_stands s cause placed k h = by_subject (k == subject cause) refl
  where
    by_cause : (cause : Cause) → Next s cause placed k → (k == subject cause) ≡ false
        → begin_of s cause ≡ Some k → Stands s cause (placed ++ k ∷ []) k
    by_cause (pump list) g other e = absurd (eqb-false k list other (of_some list k e))
    by_cause (command given) g other e = source_stands s given placed k g e other

    by_begin : (t : Bool) → is_at (begin_of s cause) k ≡ t → (k == subject cause) ≡ false
        → Stands s cause (placed ++ k ∷ []) k
    by_begin true at other = by_cause cause h other (at_true (begin_of s cause) k at)
    by_begin false at other = after_stands s cause placed k h at other

    by_subject : (t : Bool) → (k == subject cause) ≡ t → Stands s cause (placed ++ k ∷ []) k
    by_subject true e =
        let same : k ≡ subject cause = eqb-true k (subject cause) e in
        subst (λ j. Stands s cause (placed ++ j ∷ []) j) (sym same) (subject_stands s cause placed (subst (λ j. Next s cause placed j) same h))
    by_subject false e = by_begin (is_at (begin_of s cause) k) refl e

-- all of them
pub stands : (s : State) (cause : Cause) → IsSound s → IsTaken s cause → (k : ℕ) → k < length s
    → Stands s cause (dependency_order s) k
stands s cause h taken k within =
    in_turn s h.ordered (Stands s cause)
    (λ placed j i old. record { goes = old.goes; stay = λ unbegun. old.stay (λ b e d. unbegun b e (Contains-append_left placed (j ∷ []) b d)); quiet = old.quiet; apart = old.apart })
    (λ placed j there needed new stand. next_stands s cause placed j (record { sound = h; taken = taken; within = there; needed = needed; new = new; stand = stand })) k within
