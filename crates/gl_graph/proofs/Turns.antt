-- What becomes of the list whose turn it is, as the wave has it: it stays, or keeps something else in silence, or tells its delta.
use Rattle.std.proofs.Common.{◌≡◌, ◌≢◌, ◌∙◌, ℕ, suc, ◌<◌, true, false, List, length, take, refl, ap, sym, subst, arith, eq-eqb}
use Rattle.std.specs.Prelude.{Option, Some, None, slice_index}
use Rattle.std.specs.List.{Contains}
use Rattle.spec_basics.proofs.Numbers.{not_equal}
use Rattle.spec_states.specs.Tree.{Tree}
use Rattle.spec_states.specs.Delta.{no_change}
use Rattle.gl_source.specs.Model.{DeltaModel}
use Rattle.spec_states.specs.State.{Own, State, inputs, own_at}
use Rattle.spec_states.specs.Laws.{IsSource}
use Rattle.spec_states.specs.Shown.{is_held, shown}
use Rattle.spec_states.specs.Wave.{is_at, kept_later, wave, wave_deltas, delta_in, follow, Cause, begins, begun_with, kept_by, subject}
use Rattle.spec_states.proofs.Views.{kept_by_inputs, kept_later_inputs}
use Rattle.spec_states.proofs.Kept.{FitsOver, kept_free}
use Rattle.spec_states.proofs.Waves.{fits_of, told_as, own_now, delta_now}
use Rattle.gl_graph.specs.declared.node.Node.{Node}
use Rattle.gl_graph.specs.declared.keeps.KeepsUndo.{KeepsUndo}
use Rattle.gl_graph.specs.declared.turned.Turned.TheVariants.{Told}
use Rattle.gl_graph.specs.declared.rollback.Rollback.{Rollback}
use Rattle.gl_graph.specs.Nodes.{own_of, state_of, shown_by, StandsFor}
use Rattle.gl_graph.specs.Rollbacks.{TakesBack, IsRollback, IsSourceOf, start_at}
use Rattle.gl_graph.specs.Graph.{limit_of}
use Rattle.gl_graph.specs.Undos.{IsUndo}
use Rattle.gl_graph.specs.Spread.{delta_told, shown_before, HasTurned, put_back, HasBegun, IsStep, IsToldOwn, IsFollowing, HasTold}
use Rattle.gl_graph.proofs.Inputs.{follow_local, begun_local, stands_whole, fits_local, kept_local}
use Rattle.gl_graph.proofs.WholeWaves.{graph_sound, kept_rolled}
use Rattle.gl_graph.proofs.Rollbacks.{begins_as, is_rollback, not_begun, no_rollback, IsBack, is_back, source_later}
use Rattle.gl_graph.proofs.Next.{IsTurn, begun_later, still_shows, told_late, input_told, input_before}
use Rattle.gl_graph.specs.Causes.{SuitsCause, begin_at, refusal_of, refused_of}

-- the list once its turn is over
pub record IsOn (old : List Node) (positions : List ℕ) (cause : Cause) (rollback : Option Rollback) (q : ℕ) (nodes : List Node) (was now : Node) : Type 0 where
  pub inputs_are : inputs (own_of now.keeps) ≡ inputs (own_of was.keeps)
  pub limit : limit_of now.keeps ≡ limit_of was.keeps
  pub own : own_of now.keeps ≡ own_at (wave (state_of old positions) cause) was.list
  pub stands : StandsFor now.keeps (shown_by (take q nodes) positions)
  pub inside : HasBegun positions rollback cause (suc q) → refusal_of (state_of old positions) cause ≡ None

-- nothing is told of it, and it shows what it did
pub record IsStill (old : List Node) (positions : List ℕ) (cause : Cause) (was : Node) : Type 0 where
  pub told : delta_in (wave_deltas (state_of old positions) cause) was.list ≡ no_change (length (shown (state_of old positions) was.list))
  pub same : shown (wave (state_of old positions) cause) was.list ≡ shown (state_of old positions) was.list

-- it changed
pub record IsOnBy (old : List Node) (positions : List ℕ) (cause : Cause) (rollback : Option Rollback) (q : ℕ) (nodes : List Node) (was now : Node) (undo : KeepsUndo) : Type 0 where
  pub on : IsOn old positions cause rollback q nodes was now
  pub undo_is : IsUndo undo was.keeps now.keeps
  pub none : refusal_of (state_of old positions) cause ≡ None
  pub late : HasBegun positions rollback cause (suc q)

-- ---- what it keeps

-- a list that has turned keeps what the wave says, and stands for it
pub turned : {limit : ℕ} {old : List Node} {positions : List ℕ} {cause : Cause} {rollback : Option Rollback} {q : ℕ} {nodes : List Node} {told : List (Option DeltaModel)} {was now : Node} (undo : KeepsUndo) (own : Own)
    → IsTurn limit old positions cause rollback q nodes told was → HasTurned (shown_by (take q nodes) positions) own was.keeps now.keeps undo
    → own ≡ own_at (wave (state_of old positions) cause) was.list → inputs own ≡ inputs (own_of was.keeps)
    → refusal_of (state_of old positions) cause ≡ None → HasBegun positions rollback cause (suc q) → IsOnBy old positions cause rollback q nodes was now undo
turned {limit = limit} {old = old} {positions = positions} {cause = cause} {q = q} {nodes = nodes} {was = was} {now = now} undo own t h own_is inputs_are none late = record {
  on = record {
    inputs_are = ap inputs h.own_is ∙ inputs_are;
    limit = h.limit;
    own = h.own_is ∙ own_is;
    stands = stands_whole now.keeps (shown_by (take q nodes) positions) h.stands (subst (FitsOver (shown_by (take q nodes) positions)) (sym h.own_is)
        (fits_local own (shown w) (shown_by (take q nodes) positions) (λ i d. sym (t.next.shows i (subst (λ is. Contains is i) inputs_are d)))
        (subst (FitsOver (shown w)) (sym own_is) (fits_of w (graph_sound limit old positions cause t.begun.graph t.begun.suits none) was.list))));
    inside = λ later. none;
  };
  undo_is = h.is_undo;
  none = none;
  late = late;
}
  where
    w : State
    w = wave (state_of old positions) cause

-- ---- by where it stands in the wave

-- the list whose turn it is isn't past the one where the wave begins
here_late : (positions : List ℕ) (q list : ℕ) → slice_index positions list ≡ q → slice_index positions list < suc q
here_late positions q list at = omega (arith, at)

here_early : (positions : List ℕ) (q list : ℕ) → slice_index positions list ≡ q → slice_index positions list < q → ⊥
here_early positions q list at low = omega (arith, at, low)

-- where the list is the one that a cause is about, and the cause no rollback, the wave hasn't begun before it
pub own_early : {limit : ℕ} {old : List Node} {positions : List ℕ} {cause : Cause} {rollback : Option Rollback} {q : ℕ} {nodes : List Node} {told : List (Option DeltaModel)} {was : Node}
    → IsTurn limit old positions cause rollback q nodes told was → was.list ≡ subject cause → rollback ≡ None → HasBegun positions rollback cause q → ⊥
own_early {positions = positions} {cause = cause} {rollback = rollback} {q = q} {was = was} t same none begun =
    here_early positions q was.list t.next.turn.placed (subst (λ l. slice_index positions l < q) (ap (λ o. start_at o cause) none ∙ sym same) begun)

pub own_late : {limit : ℕ} {old : List Node} {positions : List ℕ} {cause : Cause} {rollback : Option Rollback} {q : ℕ} {nodes : List Node} {told : List (Option DeltaModel)} {was : Node}
    → IsTurn limit old positions cause rollback q nodes told was → was.list ≡ subject cause → rollback ≡ None → HasBegun positions rollback cause (suc q)
own_late {positions = positions} {cause = cause} {rollback = rollback} {q = q} {was = was} t same none =
    subst (λ l. slice_index positions l < suc q) (same ∙ ap (λ o. start_at o cause) (sym none)) (here_late positions q was.list t.next.turn.placed)

-- what a list that isn't the one of the command keeps is by its delta
pub own_rest : (s : State) (cause : Cause) (k : ℕ) → k < length s → k ≢ subject cause → own_at (wave s cause) k ≡ kept_later k (own_at s k) (delta_in (wave_deltas s cause))
own_rest s cause k within other = own_now s cause k within false (not_equal k (subject cause) other)

-- the source of a rollback
source_of : {limit : ℕ} {old : List Node} {positions : List ℕ} {cause : Cause} {rollback : Option Rollback} {q : ℕ} {nodes : List Node} {told : List (Option DeltaModel)} {was : Node} (back : Rollback)
    → IsTurn limit old positions cause rollback q nodes told was → rollback ≡ Some back → was.list ≡ back.source → IsBack (state_of old positions) back
source_of {limit = limit} {old = old} {positions = positions} {cause = cause} back t is same =
    is_back limit old positions cause back t.begun.graph t.begun.suits (subst (IsRollback (state_of old positions) cause) is t.begun.is_rollback)
    (subst (λ l. l < length (state_of old positions)) same t.next.within)

source_delta : {limit : ℕ} {old : List Node} {positions : List ℕ} {cause : Cause} {rollback : Option Rollback} {q : ℕ} {nodes : List Node} {told : List (Option DeltaModel)} {was : Node} (back : Rollback)
    → IsTurn limit old positions cause rollback q nodes told was → rollback ≡ Some back → was.list ≡ back.source
    → delta_in (wave_deltas (state_of old positions) cause) was.list ≡ back.delta.pieces
source_delta {old = old} {positions = positions} {cause = cause} {was = was} back t is same =
    let s : State = state_of old positions in
    let takes : TakesBack s cause back = subst (IsRollback s cause) is t.begun.is_rollback in
    delta_now s cause t.begun.graph.sound was.list t.next.within true (ap (λ o. is_at o was.list) takes.begins ∙ eq-eqb was.list back.source same) ∙ sym takes.delta

pub source_keeps : {limit : ℕ} {old : List Node} {positions : List ℕ} {cause : Cause} {rollback : Option Rollback} {q : ℕ} {nodes : List Node} {told : List (Option DeltaModel)} {was : Node} (back : Rollback)
    → IsTurn limit old positions cause rollback q nodes told was → rollback ≡ Some back → was.list ≡ back.source
    → put_back was.list (own_of was.keeps) back.delta.pieces ≡ own_at (wave (state_of old positions) cause) was.list
source_keeps {old = old} {positions = positions} {cause = cause} {was = was} back t is same =
    let s : State = state_of old positions in
    let takes : TakesBack s cause back = subst (IsRollback s cause) is t.begun.is_rollback in
    ap (λ o. put_back was.list o back.delta.pieces) (sym t.next.own)
    ∙ (source_later was.list (own_at s was.list) (λ i. back.delta.pieces) (delta_in (wave_deltas s cause)) (subst (λ l. IsSource (own_at s l)) (sym same) (source_of back t is same).is_source)
    (sym (source_delta back t is same))
    ∙ sym (own_rest s cause was.list t.next.within (λ e. takes.apart (sym same ∙ e))))

-- the list that a cause is about
pub own_keeps : {limit : ℕ} {old : List Node} {positions : List ℕ} {cause : Cause} {rollback : Option Rollback} {q : ℕ} {nodes : List Node} {told : List (Option DeltaModel)} {was : Node}
    → IsTurn limit old positions cause rollback q nodes told was → was.list ≡ subject cause
    → kept_by cause (shown_by (take q nodes) positions) (own_of was.keeps) ≡ own_at (wave (state_of old positions) cause) was.list
own_keeps {old = old} {positions = positions} {cause = cause} {rollback = rollback} {q = q} {nodes = nodes} {was = was} t same =
    by_rollback rollback refl ∙ (ap (kept_by cause (shown s)) (sym t.next.own) ∙ sym (own_now s cause was.list t.next.within true (eq-eqb was.list (subject cause) same)))
  where
    s : State
    s = state_of old positions

    by_rollback : (o : Option Rollback) → rollback ≡ o → kept_by cause (shown_by (take q nodes) positions) (own_of was.keeps) ≡ kept_by cause (shown s) (own_of was.keeps)
    by_rollback None e = kept_local cause (own_of was.keeps) (shown_by (take q nodes) positions) (shown s) (λ i d. still_shows t (own_early t same e) i d)
    by_rollback (Some back) e = kept_rolled cause (own_of was.keeps) (shown_by (take q nodes) positions) (shown s) (is_rollback s cause back (subst (IsRollback s cause) e t.begun.is_rollback))

-- another one that isn't held
free_delta : {limit : ℕ} {old : List Node} {positions : List ℕ} {cause : Cause} {rollback : Option Rollback} {q : ℕ} {nodes : List Node} {told : List (Option DeltaModel)} {was : Node}
    → IsTurn limit old positions cause rollback q nodes told was → was.list ≢ subject cause → ¬ IsSourceOf was.list rollback → is_held (own_of was.keeps) ≡ false
    → delta_in (wave_deltas (state_of old positions) cause) was.list
    ≡ follow (own_at (state_of old positions) was.list) (shown (state_of old positions)) (delta_in (wave_deltas (state_of old positions) cause))
free_delta {old = old} {positions = positions} {cause = cause} {rollback = rollback} {was = was} t other apart free =
    let s : State = state_of old positions in
    delta_now s cause t.begun.graph.sound was.list t.next.within false (not_begun s cause rollback was.list t.begun.is_rollback other apart)
    ∙ ap (told_as s cause was.list false) (ap is_held t.next.own ∙ free)

pub free_keeps : {limit : ℕ} {old : List Node} {positions : List ℕ} {cause : Cause} {rollback : Option Rollback} {q : ℕ} {nodes : List Node} {told : List (Option DeltaModel)} {was : Node}
    → IsTurn limit old positions cause rollback q nodes told was → was.list ≢ subject cause → ¬ IsSourceOf was.list rollback → is_held (own_of was.keeps) ≡ false
    → own_of was.keeps ≡ own_at (wave (state_of old positions) cause) was.list
free_keeps {old = old} {positions = positions} {cause = cause} {was = was} t other apart free =
    let s : State = state_of old positions in
    sym t.next.own
    ∙ (sym (kept_free was.list (own_at s was.list) (shown s) (delta_in (wave_deltas s cause)) (ap is_held t.next.own ∙ free) (free_delta t other apart free))
    ∙ sym (own_rest s cause was.list t.next.within other))

-- ---- it tells its delta

pub record IsTold (old : List Node) (positions : List ℕ) (cause : Cause) (rollback : Option Rollback) (q : ℕ) (nodes : List Node) (was now : Node) (d : DeltaModel) (undo : KeepsUndo) : Type 0 where
  pub by : IsOnBy old positions cause rollback q nodes was now undo
  pub told : d.pieces ≡ delta_in (wave_deltas (state_of old positions) cause) was.list

source_told : {limit : ℕ} {old : List Node} {positions : List ℕ} {cause : Cause} {rollback : Option Rollback} {q : ℕ} {nodes : List Node} {told : List (Option DeltaModel)} {was now : Node} {d : DeltaModel} {undo : KeepsUndo} (back : Rollback)
    → IsTurn limit old positions cause rollback q nodes told was → rollback ≡ Some back → was.list ≡ back.source
    → HasTold (shown_by (take q nodes) positions) (put_back was.list (own_of was.keeps) back.delta.pieces) back.delta.pieces was.keeps now.keeps d undo
    → IsTold old positions cause rollback q nodes was now d undo
source_told {old = old} {positions = positions} {cause = cause} {q = q} {was = was} {undo = undo} back t is same h =
    let takes : TakesBack (state_of old positions) cause back = subst (IsRollback (state_of old positions) cause) is t.begun.is_rollback in
    record {
      by = turned undo (put_back was.list (own_of was.keeps) back.delta.pieces) t h.turned (source_keeps back t is same)
          (kept_later_inputs was.list (own_of was.keeps) (λ i. back.delta.pieces)) takes.granted
          (subst (λ o. HasBegun positions o cause (suc q)) (sym is) (subst (λ l. slice_index positions l < suc q) same (here_late positions q was.list t.next.turn.placed)));
      told = h.told ∙ sym (source_delta back t is same);
    }

own_told : {limit : ℕ} {old : List Node} {positions : List ℕ} {cause : Cause} {rollback : Option Rollback} {q : ℕ} {nodes : List Node} {told : List (Option DeltaModel)} {was now : Node} {d : DeltaModel} {undo : KeepsUndo}
    → IsTurn limit old positions cause rollback q nodes told was → was.list ≡ subject cause → IsToldOwn (shown_by (take q nodes) positions) cause was.list was.keeps now.keeps d undo
    → IsTold old positions cause rollback q nodes was now d undo
own_told {old = old} {positions = positions} {cause = cause} {rollback = rollback} {q = q} {nodes = nodes} {was = was} {undo = undo} t same h = record {
  by = turned undo (kept_by cause shows (own_of was.keeps)) t h.told.turned (own_keeps t same) (kept_by_inputs cause shows (own_of was.keeps)) none (own_late t same plain);
  told = h.told.told
      ∙ (begun_local cause was.keeps shows (shown s) t.next.turn.among (subst (SuitsCause cause) mine t.begun.suits) still
      ∙ (ap (λ o. begun_with cause o (shown s)) (sym mine)
      ∙ sym (delta_now s cause t.begun.graph.sound was.list t.next.within true (ap (λ o. is_at o was.list) here ∙ eq-eqb was.list was.list refl))));
}
  where
    s : State
    s = state_of old positions

    shows : ℕ → List Tree
    shows = shown_by (take q nodes) positions

    mine : own_at s (subject cause) ≡ own_of was.keeps
    mine = ap (own_at s) (sym same) ∙ t.next.own

    none : refusal_of s cause ≡ None
    none = ap (λ o. refused_of o cause) mine ∙ h.inside

    here : begins cause (own_at s (subject cause)) ≡ Some was.list
    here = begins_as cause (own_at s (subject cause)) ∙ (ap (begin_at cause (subject cause)) mine ∙ (ap (λ l. begin_at cause l (own_of was.keeps)) (sym same) ∙ h.here))

    plain : rollback ≡ None
    plain = no_rollback s cause rollback was.list t.begun.is_rollback same here

    still : (i : ℕ) → Contains (inputs (own_of was.keeps)) i → shows i ≡ shown s i
    still i d = still_shows t (own_early t same plain) i d

other_told : {limit : ℕ} {old : List Node} {positions : List ℕ} {cause : Cause} {rollback : Option Rollback} {q : ℕ} {nodes : List Node} {told : List (Option DeltaModel)} {was now : Node} {d : DeltaModel} {undo : KeepsUndo}
    → IsTurn limit old positions cause rollback q nodes told was → was.list ≢ subject cause → ¬ IsSourceOf was.list rollback
    → IsFollowing (shown_by (take q nodes) positions) told was.keeps now.keeps d undo → IsTold old positions cause rollback q nodes was now d undo
other_told {old = old} {positions = positions} {cause = cause} {rollback = rollback} {q = q} {nodes = nodes} {told = told} {was = was} {undo = undo} t other apart h = record {
  by = turned undo (own_of was.keeps) t h.told.turned (free_keeps t other apart h.free) refl (t.are.inside late) (begun_later positions rollback cause q late);
  told = h.told.told
      ∙ (follow_local was.keeps (shown_before told shows) (shown s) (delta_told told shows) (delta_in (wave_deltas s cause)) t.next.turn.among
      (λ i e. input_before t i e) (λ i e. input_told t i e)
      ∙ (ap (λ o. follow o (shown s) (delta_in (wave_deltas s cause))) (sym t.next.own) ∙ sym (free_delta t other apart h.free)));
}
  where
    s : State
    s = state_of old positions

    shows : ℕ → List Tree
    shows = shown_by (take q nodes) positions

    late : HasBegun positions rollback cause q
    late = told_late t h.reached.input h.reached.d h.reached.told

pub told_by : {limit : ℕ} {old : List Node} {positions : List ℕ} {cause : Cause} {rollback : Option Rollback} {q : ℕ} {nodes : List Node} {told : List (Option DeltaModel)} {was now : Node} {d : DeltaModel} {undo : KeepsUndo}
    → IsTurn limit old positions cause rollback q nodes told was → IsStep rollback (shown_by (take q nodes) positions) cause told was.list was.keeps now.keeps (Told d undo)
    → IsTold old positions cause rollback q nodes was now d undo
told_by t (IsStep.at_source back is same h) = source_told back t is same h
told_by t (IsStep.at_own same h) = own_told t same h
told_by t (IsStep.at_other other apart h) = other_told t other apart h
