-- The list whose turn it is where nothing is told of it: it keeps something else in silence, or is as it was.
use Rattle.std.proofs.Common.{◌≡◌, ◌≢◌, ◌∙◌, ℕ, suc, ◌<◌, true, false, List, length, take, refl, ap, sym, subst, arith, inl, inr}
use Rattle.std.specs.Prelude.{Option, Some, None, slice_index, slice_index_or}
use Rattle.std.specs.List.{Contains}
use Rattle.spec_basics.proofs.Numbers.{not_equal}
use Rattle.spec_states.specs.Tree.{Tree}
use Rattle.spec_states.specs.Delta.{no_change}
use Rattle.gl_source.specs.Model.{DeltaModel}
use Rattle.spec_states.specs.State.{State, inputs, own_at}
use Rattle.spec_states.specs.Shown.{is_held, shown_of, shown}
use Rattle.spec_states.specs.Wave.{is_at, kept_later, wave, wave_deltas, delta_in, Cause, begins, kept_by, subject}
use Rattle.spec_states.proofs.Views.{shown_local, shown_in, shown_is, wave_ordered, kept_by_inputs, kept_later_inputs}
use Rattle.spec_states.proofs.Waves.{begin_of, told_as, delta_now}
use Rattle.spec_states.proofs.Quiet.{InputsUntold, quiet_told, quiet_kept, untold_shown}
use Rattle.gl_graph.specs.declared.node.Node.{Node}
use Rattle.gl_graph.specs.declared.keeps.KeepsUndo.{KeepsUndo}
use Rattle.gl_graph.specs.declared.turned.Turned.TheVariants.{Stays, Silent}
use Rattle.gl_graph.specs.declared.rollback.Rollback.{Rollback}
use Rattle.gl_graph.specs.Nodes.{own_of, state_of, shown_by, OnInput, StandsFor}
use Rattle.gl_graph.specs.Rollbacks.{TakesBack, IsRollback, IsSourceOf, start_at}
use Rattle.gl_graph.specs.Graph.{limit_of}
use Rattle.gl_graph.specs.Spread.{delta_told, HasBegun, IsStep, IsQuietOwn, IsKeeping, IsCopy}
use Rattle.gl_graph.proofs.Inputs.{inward, long_state, each_input, stands_local, later_local}
use Rattle.gl_graph.proofs.WholeWaves.{taken_of, graph_inward}
use Rattle.gl_graph.proofs.Rollbacks.{begins_as, not_begun, IsRolled, back_of, level_held, level_input}
use Rattle.gl_graph.proofs.Copies.{copy_held, copy_later, copy_shows, copy_stands}
use Rattle.gl_graph.proofs.Next.{IsTurn, long_wave, begun_or, begun_later, begins_next, still_told, told_late, input_told}
use Rattle.gl_graph.proofs.Turns.{IsOn, IsStill, IsOnBy, turned, own_early, own_late, own_rest, own_keeps}
use Rattle.gl_graph.specs.Causes.{begin_at, refusal_of, refused_of}

-- ---- it keeps something else

pub record IsQuiet (old : List Node) (positions : List ℕ) (cause : Cause) (rollback : Option Rollback) (q : ℕ) (nodes : List Node) (was now : Node) (undo : KeepsUndo) : Type 0 where
  pub by : IsOnBy old positions cause rollback q nodes was now undo
  pub still : IsStill old positions cause was

-- a list of which nothing is told in a wave shows what it did
untold : {limit : ℕ} {old : List Node} {positions : List ℕ} {cause : Cause} {rollback : Option Rollback} {q : ℕ} {nodes : List Node} {told : List (Option DeltaModel)} {was : Node}
    → IsTurn limit old positions cause rollback q nodes told was → refusal_of (state_of old positions) cause ≡ None
    → delta_in (wave_deltas (state_of old positions) cause) was.list ≡ no_change (length (shown (state_of old positions) was.list)) → IsStill old positions cause was
untold {old = old} {positions = positions} {cause = cause} {was = was} t none delta =
    let s : State = state_of old positions in
    record { told = delta; same = untold_shown s cause was.list t.begun.graph.sound (taken_of s cause t.begun.suits none) t.next.within delta }

-- one that is held, and where no wave begins, tells nothing
held_delta : {limit : ℕ} {old : List Node} {positions : List ℕ} {cause : Cause} {rollback : Option Rollback} {q : ℕ} {nodes : List Node} {told : List (Option DeltaModel)} {was : Node}
    → IsTurn limit old positions cause rollback q nodes told was → is_at (begin_of (state_of old positions) cause) was.list ≡ false → is_held (own_at (state_of old positions) was.list) ≡ true
    → delta_in (wave_deltas (state_of old positions) cause) was.list ≡ no_change (length (shown (state_of old positions) was.list))
held_delta {old = old} {positions = positions} {cause = cause} {was = was} t at held =
    let s : State = state_of old positions in
    delta_now s cause t.begun.graph.sound was.list t.next.within false at
    ∙ (ap (told_as s cause was.list false) held ∙ ap (λ xs. no_change (length xs)) (sym (shown_is s t.begun.graph.sound was.list t.next.within)))

-- no wave begins at it
not_here : {limit : ℕ} {old : List Node} {positions : List ℕ} {cause : Cause} {rollback : Option Rollback} {q : ℕ} {nodes : List Node} {told : List (Option DeltaModel)} {was : Node}
    → IsTurn limit old positions cause rollback q nodes told was → was.list ≡ subject cause → begin_at cause was.list (own_of was.keeps) ≢ Some was.list
    → is_at (begin_of (state_of old positions) cause) was.list ≡ false
not_here {old = old} {positions = positions} {cause = cause} {was = was} t same elsewhere = by_begin (begin_of s cause) refl
  where
    s : State
    s = state_of old positions

    here : begins cause (own_at s (subject cause)) ≡ begin_at cause was.list (own_of was.keeps)
    here = begins_as cause (own_at s (subject cause))
        ∙ (ap (begin_at cause (subject cause)) (ap (own_at s) (sym same) ∙ t.next.own) ∙ ap (λ l. begin_at cause l (own_of was.keeps)) (sym same))

    by_begin : (o : Option ℕ) → begin_of s cause ≡ o → is_at (begin_of s cause) was.list ≡ false
    by_begin None e = ap (λ o. is_at o was.list) e
    by_begin (Some i) e = ap (λ o. is_at o was.list) e ∙ not_equal was.list i (λ f. elsewhere (sym here ∙ (e ∙ ap (λ (n : ℕ). Some n) (sym f))))

-- the list that a cause is about, where its wave begins at none
own_quiet : {limit : ℕ} {old : List Node} {positions : List ℕ} {cause : Cause} {rollback : Option Rollback} {q : ℕ} {nodes : List Node} {told : List (Option DeltaModel)} {was now : Node} {undo : KeepsUndo}
    → IsTurn limit old positions cause rollback q nodes told was → was.list ≡ subject cause → IsQuietOwn (shown_by (take q nodes) positions) cause was.list was.keeps now.keeps undo
    → rollback ≡ None → IsQuiet old positions cause rollback q nodes was now undo
own_quiet {old = old} {positions = positions} {cause = cause} {rollback = rollback} {q = q} {nodes = nodes} {was = was} {undo = undo} t same h plain = record {
  by = turned undo (kept_by cause shows (own_of was.keeps)) t h.turned (own_keeps t same)
      (kept_by_inputs cause shows (own_of was.keeps)) none (own_late t same plain);
  still = untold t none (quiet_told s cause was.list t.begun.graph.sound t.next.within (not_here t same h.elsewhere)
      (λ i d. let e = subst (λ o. Contains (inputs o) i) t.next.own d in still_told t i e (t.to.quiet (own_early t same plain) i)));
}
  where
    s : State
    s = state_of old positions

    shows : ℕ → List Tree
    shows = shown_by (take q nodes) positions

    none : refusal_of s cause ≡ None
    none = ap (λ o. refused_of o cause) (ap (own_at s) (sym same) ∙ t.next.own) ∙ h.inside

-- the list that is rolled back, after its source
rolled_quiet : {limit : ℕ} {old : List Node} {positions : List ℕ} {cause : Cause} {rollback : Option Rollback} {q : ℕ} {nodes : List Node} {told : List (Option DeltaModel)} {was now : Node} {undo : KeepsUndo} (back : Rollback)
    → IsTurn limit old positions cause rollback q nodes told was → was.list ≡ subject cause → IsQuietOwn (shown_by (take q nodes) positions) cause was.list was.keeps now.keeps undo
    → rollback ≡ Some back → IsQuiet old positions cause rollback q nodes was now undo
rolled_quiet {old = old} {positions = positions} {cause = cause} {rollback = rollback} {q = q} {nodes = nodes} {was = was} {undo = undo} back t same h is = record {
  by = turned undo (kept_by cause shows (own_of was.keeps)) t h.turned (own_keeps t same)
      (kept_by_inputs cause shows (own_of was.keeps)) takes.granted late;
  still = untold t takes.granted (held_delta t (not_here t same h.elsewhere) (ap is_held (ap (own_at s) same) ∙ level_held (own_at s (subject cause)) back.source r.level r.levels r.is));
}
  where
    s : State
    s = state_of old positions

    shows : ℕ → List Tree
    shows = shown_by (take q nodes) positions

    takes : TakesBack s cause back
    takes = subst (IsRollback s cause) is t.begun.is_rollback

    r : IsRolled (own_at s (subject cause)) back.source
    r = back_of s cause back t.begun.suits takes

    low : slice_index positions back.source < q
    low = t.next.low back.source (subst (λ o. Contains (inputs o) back.source) (ap (own_at s) (sym same) ∙ t.next.own) (level_input (own_at s (subject cause)) back.source r.level r.levels r.is))

    late : HasBegun positions rollback cause (suc q)
    late = subst (λ o. HasBegun positions o cause (suc q)) (sym is) (omega (arith, low))

-- another one that is held
other_quiet : {limit : ℕ} {old : List Node} {positions : List ℕ} {cause : Cause} {rollback : Option Rollback} {q : ℕ} {nodes : List Node} {told : List (Option DeltaModel)} {was now : Node} {undo : KeepsUndo}
    → IsTurn limit old positions cause rollback q nodes told was → was.list ≢ subject cause → ¬ IsSourceOf was.list rollback
    → IsKeeping (shown_by (take q nodes) positions) told was.list was.keeps now.keeps undo → IsQuiet old positions cause rollback q nodes was now undo
other_quiet {old = old} {positions = positions} {cause = cause} {rollback = rollback} {q = q} {nodes = nodes} {told = told} {was = was} {undo = undo} t other apart h = record {
  by = turned undo (kept_later k (own_of was.keeps) (delta_told told shows)) t h.turned
      (later_local k (own_of was.keeps) (delta_told told shows) (delta_in (wave_deltas s cause)) h.held (λ i d. input_told t i d)
      ∙ (ap (λ o. kept_later k o (delta_in (wave_deltas s cause))) (sym t.next.own) ∙ sym (own_rest s cause k t.next.within other)))
      (kept_later_inputs k (own_of was.keeps) (delta_told told shows)) none (begun_later positions rollback cause q late);
  still = untold t none (held_delta t (not_begun s cause rollback k t.begun.is_rollback other apart) (ap is_held t.next.own ∙ h.held));
}
  where
    s : State
    s = state_of old positions

    k : ℕ
    k = was.list

    shows : ℕ → List Tree
    shows = shown_by (take q nodes) positions

    late : HasBegun positions rollback cause q
    late = told_late t h.reached.input h.reached.d h.reached.told

    none : refusal_of s cause ≡ None
    none = t.are.inside late

by_rollback : {limit : ℕ} {old : List Node} {positions : List ℕ} {cause : Cause} {rollback : Option Rollback} {q : ℕ} {nodes : List Node} {told : List (Option DeltaModel)} {was now : Node} {undo : KeepsUndo} (o : Option Rollback)
    → IsTurn limit old positions cause rollback q nodes told was → was.list ≡ subject cause → IsQuietOwn (shown_by (take q nodes) positions) cause was.list was.keeps now.keeps undo
    → rollback ≡ o → IsQuiet old positions cause rollback q nodes was now undo
by_rollback None t same h e = own_quiet t same h e
by_rollback (Some back) t same h e = rolled_quiet back t same h e

pub quiet_by : {limit : ℕ} {old : List Node} {positions : List ℕ} {cause : Cause} {rollback : Option Rollback} {q : ℕ} {nodes : List Node} {told : List (Option DeltaModel)} {was now : Node} {undo : KeepsUndo}
    → IsTurn limit old positions cause rollback q nodes told was → IsStep rollback (shown_by (take q nodes) positions) cause told was.list was.keeps now.keeps (Silent undo)
    → IsQuiet old positions cause rollback q nodes was now undo
quiet_by t (IsStep.at_source back is same h) = absurd h
quiet_by {rollback = rollback} t (IsStep.at_own same h) = by_rollback rollback t same h refl
quiet_by t (IsStep.at_other other apart h) = other_quiet t other apart h

-- ---- it is as it was

pub record IsAsItWas (old : List Node) (positions : List ℕ) (cause : Cause) (rollback : Option Rollback) (q : ℕ) (nodes : List Node) (was now : Node) : Type 0 where
  pub on : IsOn old positions cause rollback q nodes was now
  pub still : IsStill old positions cause was
  pub keeps_is : now.keeps ≡ was.keeps

-- the wave doesn't begin at it
starts_elsewhere : (o : Option Rollback) (cause : Cause) (list : ℕ) → list ≢ subject cause → ¬ IsSourceOf list o → list ≢ start_at o cause
starts_elsewhere None cause list other free e = other e
starts_elsewhere (Some back) cause list other free e = free e

-- what has begun once it has had its turn had begun before
stays_inside : {limit : ℕ} {old : List Node} {positions : List ℕ} {cause : Cause} {rollback : Option Rollback} {q : ℕ} {nodes : List Node} {told : List (Option DeltaModel)} {was : Node}
    → IsTurn limit old positions cause rollback q nodes told was → was.list ≢ subject cause → ¬ IsSourceOf was.list rollback → HasBegun positions rollback cause (suc q) → refusal_of (state_of old positions) cause ≡ None
stays_inside {positions = positions} {cause = cause} {rollback = rollback} {q = q} {was = was} t other apart later = elim (begun_or positions rollback cause q) [
  | inl begun ↦ t.are.inside begun
  | inr early ↦ absurd (starts_elsewhere rollback cause was.list other apart (sym (begins_next t later early)))
]

left : {limit : ℕ} {old : List Node} {positions : List ℕ} {cause : Cause} {rollback : Option Rollback} {q : ℕ} {nodes : List Node} {told : List (Option DeltaModel)} {was now : Node}
    → IsTurn limit old positions cause rollback q nodes told was → was.list ≢ subject cause → ¬ IsSourceOf was.list rollback → now.keeps ≡ was.keeps
    → OnInput (λ i. slice_index_or told i None ≡ None) was.keeps
    → IsAsItWas old positions cause rollback q nodes was now
left {limit = limit} {old = old} {positions = positions} {cause = cause} {rollback = rollback} {q = q} {nodes = nodes} {told = told} {was = was} {now = now} t other apart same silent = record {
  on = record {
    inputs_are = ap (λ k. inputs (own_of k)) same;
    limit = ap limit_of same;
    own = ap own_of same ∙ (sym t.next.own ∙ sym own);
    stands = subst (λ k. StandsFor k (shown_by (take q nodes) positions)) (sym same)
        (stands_local was.keeps (shown s) (shown_by (take q nodes) positions) t.next.turn.among (λ i d. sym (t.next.shows i d ∙ stays i d)) t.next.stands);
    inside = λ later. stays_inside t other apart later;
  };
  still = record {
    told = quiet_told s cause was.list t.begun.graph.sound t.next.within at quiet;
    same = shown_in w (wave_ordered s cause t.begun.graph.sound.ordered) (graph_inward limit old positions cause t.begun.graph t.begun.suits) was.list after
        ∙ (ap (λ o. shown_of o (shown w)) (own ∙ t.next.own)
        ∙ (shown_local (own_of was.keeps) (inward was.keeps t.next.turn.among) (shown w) (shown s) stays
        ∙ (ap (λ o. shown_of o (shown s)) (sym t.next.own) ∙ sym (shown_is s t.begun.graph.sound was.list t.next.within))));
  };
  keeps_is = same;
}
  where
    s : State
    s = state_of old positions

    w : State
    w = wave s cause

    after : was.list < length w
    after = omega (arith, t.next.within, long_wave old positions cause, long_state old positions)

    none : (i : ℕ) → Contains (inputs (own_of was.keeps)) i → slice_index_or told i None ≡ None
    none i d = each_input (λ j. slice_index_or told j None ≡ None) was.keeps i silent d

    stays : (i : ℕ) → Contains (inputs (own_of was.keeps)) i → shown w i ≡ shown s i
    stays i d = t.to.same i (t.next.below i d) (t.next.low i d) (none i d)

    quiet : InputsUntold (own_at s was.list) (shown s) (delta_in (wave_deltas s cause))
    quiet i d = let e = subst (λ o. Contains (inputs o) i) t.next.own d in still_told t i e (none i e)

    at : is_at (begin_of s cause) was.list ≡ false
    at = not_begun s cause rollback was.list t.begun.is_rollback other apart

    own : own_at w was.list ≡ own_at s was.list
    own = quiet_kept s cause was.list t.begun.graph.sound t.next.within (not_equal was.list (subject cause) other) at quiet

-- a proxy stays, whatever its input tells
copied : {limit : ℕ} {old : List Node} {positions : List ℕ} {cause : Cause} {rollback : Option Rollback} {q : ℕ} {nodes : List Node} {told : List (Option DeltaModel)} {was now : Node}
    → IsTurn limit old positions cause rollback q nodes told was → was.list ≢ subject cause → ¬ IsSourceOf was.list rollback → now.keeps ≡ was.keeps → IsCopy was.keeps
    → IsAsItWas old positions cause rollback q nodes was now
copied {limit = limit} {old = old} {positions = positions} {cause = cause} {rollback = rollback} {q = q} {nodes = nodes} {told = told} {was = was} {now = now} t other apart same copy = record {
  on = record {
    inputs_are = ap (λ k. inputs (own_of k)) same;
    limit = ap limit_of same;
    own = ap own_of same ∙ (sym t.next.own ∙ sym own);
    stands = subst (λ k. StandsFor k (shown_by (take q nodes) positions)) (sym same) (copy_stands was.keeps (shown_by (take q nodes) positions) copy);
    inside = λ later. stays_inside t other apart later;
  };
  still = record {
    told = held_delta t (not_begun s cause rollback was.list t.begun.is_rollback other apart) (ap is_held t.next.own ∙ copy_held was.keeps copy);
    same = shown_in w (wave_ordered s cause t.begun.graph.sound.ordered) (graph_inward limit old positions cause t.begun.graph t.begun.suits) was.list after
        ∙ (ap (λ o. shown_of o (shown w)) (own ∙ t.next.own)
        ∙ (copy_shows was.keeps (shown w) (shown s) copy
        ∙ (ap (λ o. shown_of o (shown s)) (sym t.next.own) ∙ sym (shown_is s t.begun.graph.sound was.list t.next.within))));
  };
  keeps_is = same;
}
  where
    s : State
    s = state_of old positions

    w : State
    w = wave s cause

    after : was.list < length w
    after = omega (arith, t.next.within, long_wave old positions cause, long_state old positions)

    own : own_at w was.list ≡ own_at s was.list
    own = own_rest s cause was.list t.next.within other
        ∙ (ap (λ o. kept_later was.list o (delta_in (wave_deltas s cause))) t.next.own
        ∙ (copy_later was.list was.keeps (delta_in (wave_deltas s cause)) copy ∙ sym t.next.own))

pub as_it_was : {limit : ℕ} {old : List Node} {positions : List ℕ} {cause : Cause} {rollback : Option Rollback} {q : ℕ} {nodes : List Node} {told : List (Option DeltaModel)} {was now : Node}
    → IsTurn limit old positions cause rollback q nodes told was → IsStep rollback (shown_by (take q nodes) positions) cause told was.list was.keeps now.keeps Stays
    → IsAsItWas old positions cause rollback q nodes was now
as_it_was t (IsStep.at_source back is same h) = absurd h
as_it_was t (IsStep.at_own same h) = absurd h
as_it_was t (IsStep.at_other other apart h) = elim h.untold [
  | inl untold ↦ left t other apart h.same untold
  | inr copy ↦ copied t other apart h.same copy
]
