-- A list that is held after a command shows what it showed before it.
use Rattle.std.proofs.Common.{◌≡◌, ◌≢◌, ◌∙◌, ◌++◌, ℕ, ◌<◌, true, false, List, [], ◌∷◌, length, refl, ap, sym, subst, inl, inr, eq-eqb}
use Rattle.std.specs.Prelude.{Option, Some, None}
use Rattle.std.specs.List.{AllByRecursion, Contains}
use Rattle.std.proofs.lemmas.Bool.{cases_eq, ne_eqb}
use Rattle.spec_plans.proofs.Members.{Contains-here}
use Rattle.spec_value.specs.Tree.{Tree}
use Rattle.spec_lists.specs.Delta.{Delta}
use Rattle.spec_lists.specs.Leads.{undone}
use Rattle.gl_lines.specs.declared.plan.Command.{Command}
use Rattle.gl_lines.specs.declared.plan.Command.TheVariants as c
use Rattle.gl_lines.specs.declared.reply.Reply.{Reply}
use Rattle.spec_plans.specs.Plan.{Plan, origin as about}
use Rattle.spec_plans.specs.Cycles.{IsAcyclic}
use Rattle.spec_plans.specs.WellFormed.{IsWellFormed}
use Rattle.spec_states.specs.State.{Own, State, source, over, composite, transaction, freezable, proxy, inputs, own_at}
use Rattle.spec_states.specs.Shown.{is_held, undone_all, shown_of, shown}
use Rattle.spec_states.specs.Wave.{command, kept_after, kept_later, beginning, delta_in, wave_deltas, wave}
use Rattle.spec_states.specs.Step.{step_by, unmoved}
use Rattle.spec_states.specs.Laws.{IsSound}
use Rattle.spec_states.proofs.Begun.{MayTakeNow}
use Rattle.spec_states.proofs.DependencyOrder.{input_within}
use Rattle.spec_states.proofs.Views.{shown_is}
use Rattle.spec_states.proofs.Held.{held_stays, nowhere_shown}
use Rattle.spec_states.proofs.Waves.{RollsBack, elsewhere, taken_back, taken_back_shown, stands, shown_now, own_now, moved}
use Rattle.spec_runs.specs.Kinds.{IsFor}
use Rattle.spec_runs.specs.Section.{state_after}
use Rattle.spec_runs.specs.Entry.{taken_by}
use Rattle.spec_runs.specs.Run.{run}
use Rattle.spec_runs.specs.Laws.{HeldStay, EachHeldStays}
use Rattle.spec_runs.proofs.KeptKinds.{Suits}
use Rattle.spec_runs.proofs.Suits.{suits_list, commands_suit}
use Rattle.spec_runs.proofs.Ordered.{within_entry_sound}

-- what a wave isn't about is held after it exactly where it was
later_held : (list : ℕ) (own : Own) (delta : ℕ → Delta) → is_held (kept_later list own delta) ≡ is_held own
later_held list (source contents) delta = refl
later_held list (over input view) delta = refl
later_held list (composite needed members) delta = refl
later_held list (transaction input []) delta = refl
later_held list (transaction input (level ∷ levels)) delta = refl
later_held list (freezable input None) delta = refl
later_held list (freezable input (Some since)) delta = refl
later_held list (proxy input kept queue) delta = refl

-- what shows the same whatever others show
abbrev ShowsOwn : Own → (ℕ → List Tree) → (ℕ → List Tree) → Own → Type 0
ShowsOwn own before after kept = shown_of kept after ≡ shown_of own before

-- a list at which a wave of a command begins is let go, unless it is a proxy
begun_free : (given : Command) (own : Own) (before after : ℕ → List Tree) → MayTakeNow given own
    → beginning given (about given) own ≡ Some (about given) → is_held (kept_after given before own) ≡ true
    → ((input : ℕ) (levels : List Delta) → own ≡ transaction input levels → input ≢ about given)
    → ShowsOwn own before after (kept_after given before own)
begun_free given (source contents) before after may e held apart = absurd cc
begun_free given (over input view) before after may e held apart = absurd cc
begun_free given (composite needed members) before after may e held apart = absurd cc
begun_free (c.Begin list) (transaction input levels) before after may e held apart = absurd cc
begun_free (c.Commit list) (transaction input []) before after may e held apart = absurd cc
begun_free (c.Commit list) (transaction input (level ∷ [])) before after may e held apart = absurd cc
begun_free (c.Commit list) (transaction input (level ∷ outer ∷ levels)) before after may e held apart = absurd cc
begun_free (c.Rollback list) (transaction input levels) before after may e held apart =
    let same : input ≡ list = cc in absurd (apart input levels refl same)
begun_free (c.Show list) (transaction input levels) before after may e held apart = absurd cc
begun_free other (transaction input levels) before after may e held apart = absurd may.suits
begun_free (c.Freeze list) (freezable input since) before after may e held apart = absurd cc
begun_free (c.Thaw list) (freezable input since) before after may e held apart = absurd cc
begun_free (c.Show list) (freezable input since) before after may e held apart = absurd cc
begun_free other (freezable input since) before after may e held apart = absurd may.suits
begun_free given (proxy input kept queue) before after may e held apart = refl

-- the list that the command is about
subject_stays : (s : State) (given : Command) → IsSound s → MayTakeNow given (own_at s (about given))
    → about given < length s → is_held (own_at (wave s (command given)) (about given)) ≡ true
    → shown (wave s (command given)) (about given) ≡ shown s (about given)
subject_stays s given h may within held = by_begin (beginning given (about given) (own_at s (about given))) refl
  where
    k : ℕ
    k = about given

    own : Own
    own = own_at s k

    next : State
    next = wave s (command given)

    kept : own_at next k ≡ kept_after given (shown s) own
    kept = own_now s (command given) k within true (eq-eqb k k refl)

    now : shown next k ≡ shown_of (kept_after given (shown s) own) (shown next)
    now = shown_now s (command given) h may k within true (eq-eqb k k refl)

    apart : (input : ℕ) (levels : List Delta) → own ≡ transaction input levels → input ≢ k
    apart input levels is e =
        (stands s (command given) h may k within).apart (subst (λ o. Contains (inputs o) k) (sym is)
        (subst (λ i. Contains (input ∷ []) i) e (Contains-here input [] input refl)))

    back : (b : ℕ) → RollsBack given own b (shown s) → beginning given k own ≡ Some b
        → shown next k ≡ shown s k
    back b r e =
        let there : b < length s = input_within s h.ordered k b (subst (λ o. Contains (inputs o) b) (sym r.is) (Contains-here b [] b refl)) in
        let source_is : shown next b ≡ undone r.level (shown s b) =
        taken_back_shown s given b r.level r.levels (taken_back s given b h there r e)
        (stands s (command given) h may b there).goes in
        now ∙ ap (λ o. shown_of o (shown next)) r.kept ∙ ap (undone_all r.levels) source_is
        ∙ sym (shown_is s h k within ∙ ap (λ o. shown_of o (shown s)) r.is)

    by_place : (b : ℕ) → beginning given k own ≡ Some b → shown next k ≡ shown s k
    by_place b e = elim (cases_eq b k) [
      | inl same ↦
          now ∙ begun_free given own (shown s) (shown next) may (e ∙ ap Some same) (sym (ap is_held kept) ∙ held) apart
          ∙ sym (shown_is s h k within)
      | inr other ↦ back b (elsewhere given own b (shown s) may e other) e
    ]

    by_begin : (o : Option ℕ) → beginning given k own ≡ o → shown next k ≡ shown s k
    by_begin None e = nowhere_shown s (command given) h may e k within
    by_begin (Some b) e = by_place b e

wave_stays : (s : State) (given : Command) → IsSound s → MayTakeNow given (own_at s (about given))
    → (list : ℕ) → list < length s → is_held (own_at (wave s (command given)) list) ≡ true
    → shown (wave s (command given)) list ≡ shown s list
wave_stays s given h may list within held = elim (cases_eq list (about given)) [
  | inl same ↦
      let P : ℕ → Type 0 = λ k. k < length s → is_held (own_at (wave s (command given)) k) ≡ true
      → shown (wave s (command given)) k ≡ shown s k in
      subst P (sym same) (λ low is. subject_stays s given h may low is) within held
  | inr other ↦
      let kept : own_at (wave s (command given)) list ≡ kept_later list (own_at s list) (delta_in (wave_deltas s (command given))) =
      own_now s (command given) list within false (ne_eqb list (about given) other) in
      held_stays s (command given) h may list within
      (sym (later_held list (own_at s list) (delta_in (wave_deltas s (command given)))) ∙ sym (ap is_held kept) ∙ held) other
]

-- a command
pub step_stays : (limit : ℕ) (s : State) (given : Command) → IsSound s → Suits given (own_at s (about given))
    → HeldStay limit s given
step_stays limit s given h suits = by_reply (unmoved limit s given) refl
  where
    by_reply : (r : Option Reply) → unmoved limit s given ≡ r
        → (list : ℕ) → list < length s → is_held (own_at (step_by r s given).state list) ≡ true
        → shown (step_by r s given).state list ≡ shown s list
    by_reply (Some reply) e list within held = refl
    by_reply None e list within held =
        wave_stays s given h (record { granted = (moved limit s given e).0; attaches = suits.attaches; suits = suits.takes }) list within held

-- ---- the commands of sections

first_all : {X : Type 0} (P : X → Type 0) (xs ys : List X) → AllByRecursion P (xs ++ ys) → AllByRecursion P xs
first_all P [] ys h = tt
first_all P (x ∷ xs) ys h = (h.0, first_all P xs ys h.1)

at_cut : {X : Type 0} (P : X → Type 0) (xs ys : List X) (y : X) → AllByRecursion P (xs ++ y ∷ ys) → P y
at_cut P [] ys y h = h.0
at_cut P (x ∷ xs) ys y h = at_cut P xs ys y h.1

pub each_held_stays : (p : Plan) → IsWellFormed p → IsAcyclic p → EachHeldStays p
each_held_stays p formed free order writer before later given is =
    let s : State = (run p order).state in
    let now : State = state_after p.limit s before in
    let all : List Command = before ++ given ∷ later in
    let first : AllByRecursion (λ d. IsFor d s) all =
    subst (AllByRecursion (λ d. IsFor d s)) is (commands_suit p order [] writer (taken_by writer order) formed) in
    let here : AllByRecursion (λ d. IsFor d now) all =
    subst (AllByRecursion (λ d. IsFor d now)) is (commands_suit p order before writer (taken_by writer order) formed) in
    step_stays p.limit now given
    (within_entry_sound p order before formed free (first_all (λ d. IsFor d s) before (given ∷ later) first))
    (suits_list now given (at_cut (λ d. IsFor d now) before later given here))
