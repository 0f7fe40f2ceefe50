-- Why a command makes no wave.
use Rattle.std.proofs.Common.{◌≡◌, ◌≢◌, ◌∙◌, ℕ, zero, suc, ◌<◌, ◌≤◌, List, [], ◌∷◌, length, take, refl, ap, sym, subst, arith}
use Rattle.std.specs.Prelude.{Option, Some, None, slice_get}
use Rattle.std.specs.Option.{option_or}
use Rattle.std.specs.List.{Contains}
use Rattle.spec_states.specs.Reply.{Reply}
use Rattle.spec_states.specs.Reply.TheVariants as reply
use Rattle.spec_states.specs.State.{Own, State, inputs, own_at, dependency_order}
use Rattle.spec_states.specs.Shown.{shown_of, shown, table_of}
use Rattle.spec_states.specs.Wave.{wave, Cause, kept_by, subject}
use Rattle.spec_states.specs.Step.{first_longer, too_long}
use Rattle.spec_states.proofs.Views.{Inward, IsInward, shown_local, shown_in, wave_order, wave_ordered, kept_by_inputs, kept_later_inputs}
use Rattle.gl_graph.specs.declared.node.Node.{Node}
use Rattle.gl_source.specs.Model.{DeltaModel}
use Rattle.gl_graph.specs.declared.keeps.KeepsUndo.{KeepsUndo}
use Rattle.gl_graph.specs.declared.rollback.Rollback.{Rollback}
use Rattle.gl_graph.specs.declared.graph.Refused.{Refused}
use Rattle.gl_graph.specs.declared.graph.Refused.TheVariants.{OutOfRange, TooLong, AlreadyFrozen, NotFrozen, NotOpen, Memory}
use Rattle.gl_graph.specs.Nodes.{own_of, numbers, state_of, shown_by}
use Rattle.gl_graph.specs.Rollbacks.{TakesBack, IsRollback, IsSourceOf}
use Rattle.gl_graph.specs.Waves.{IsStopping}
use Rattle.gl_graph.specs.Spread.{put_back, IsBegun, AreInverse, IsLong, IsSourceStopped, IsOwnStopped, IsOtherStopped, IsStopped, IsOver}
use Rattle.gl_graph.proofs.Inputs.{long_state}
use Rattle.gl_graph.proofs.Shown.{order_of_settled}
use Rattle.gl_graph.proofs.Prefixes.{node_of, number_at}
use Rattle.gl_graph.proofs.Starts.{longer_at}
use Rattle.gl_graph.proofs.Dispatch.{at_of}
use Rattle.gl_graph.proofs.WholeWaves.{graph_inward}
use Rattle.gl_graph.proofs.Next.{IsTurn, long_wave, told_late}
use Rattle.gl_graph.proofs.Turns.{IsOnBy, source_keeps, own_keeps, free_keeps}
use Rattle.gl_graph.proofs.Spreads.{on_shows}
use Rattle.gl_graph.specs.Causes.{refusal_of, refused_of, unmoved_of}

-- none of the first lists in dependency order is too long
pub prefix_few : (limit : ℕ) (old : List Node) (positions : List ℕ) (cause : Cause) (rollback : Option Rollback) (q : ℕ) (nodes : List Node) → IsBegun limit old positions cause rollback → AreInverse limit old positions cause rollback q nodes
    → (list : ℕ) → Contains (take q (numbers old)) list → length (shown (wave (state_of old positions) cause) list) ≤ limit
prefix_few limit old positions cause rollback q nodes begun are list among =
    let at = at_of (take q (numbers old)) list among in
    let found = prefix_at (numbers old) q at.position list at.is in
    let h = node_of old at.position list found.0 in
    let turn = order_of_settled old positions begun.graph.settled at.position h.node h.is in
    let within : h.node.list < length positions = turn.within in
    let low : at.position < q = found.1 in
    subst (λ l. length (shown (wave (state_of old positions) cause) l) ≤ limit) h.same (are.few h.node.list within (omega (arith, low, turn.placed)))
  where
    prefix_at : (xs : List ℕ) (n k x : ℕ) → slice_get (take n xs) k ≡ Some x → (slice_get xs k ≡ Some x) × (k < n)
    prefix_at xs zero k x e = absurd cc
    prefix_at [] (suc n) k x e = absurd cc
    prefix_at (y ∷ ys) (suc n) zero x e = (e, omega arith)
    prefix_at (y ∷ ys) (suc n) (suc k) x e = let h = prefix_at ys n k x e in (h.0, (let lower : k < n = h.1 in omega (arith, lower)))

-- the first list that is too long
long_refused : {limit : ℕ} {old : List Node} {positions : List ℕ} {cause : Cause} {rollback : Option Rollback} {q : ℕ} {nodes : List Node} {told : List (Option DeltaModel)} {was : Node}
    → IsTurn limit old positions cause rollback q nodes told was → refusal_of (state_of old positions) cause ≡ None → limit < length (shown (wave (state_of old positions) cause) was.list)
    → unmoved_of limit (state_of old positions) cause ≡ Some (reply.TooLong was.list (length (shown (wave (state_of old positions) cause) was.list)))
long_refused {limit = limit} {old = old} {positions = positions} {cause = cause} {rollback = rollback} {q = q} {nodes = nodes} {was = was} t inside more =
    let s : State = state_of old positions in
    let w : State = wave s cause in
    let order : dependency_order w ≡ numbers old = wave_order s cause ∙ t.begun.graph.order in
    ap (λ r. option_or r (too_long limit w)) inside
    ∙ (ap (first_longer limit (table_of w)) order
    ∙ longer_at limit (table_of w) (numbers old) q was.list (number_at old q was t.next.in_old) (prefix_few limit old positions cause rollback q nodes t.begun t.are) more)

-- a list that keeps what the wave says would be too long
kept_long : {limit : ℕ} {old : List Node} {positions : List ℕ} {cause : Cause} {rollback : Option Rollback} {q : ℕ} {nodes : List Node} {told : List (Option DeltaModel)} {was : Node} (number len : ℕ) (own : Own)
    → IsTurn limit old positions cause rollback q nodes told was → own ≡ own_at (wave (state_of old positions) cause) was.list → inputs own ≡ inputs (own_of was.keeps)
    → refusal_of (state_of old positions) cause ≡ None → number ≡ was.list → IsLong limit (shown_by (take q nodes) positions) own len
    → unmoved_of limit (state_of old positions) cause ≡ Some (reply.TooLong number len)
kept_long {limit = limit} {old = old} {positions = positions} {cause = cause} {q = q} {nodes = nodes} {was = was} number len own t keeps same inside is_number is =
    let s : State = state_of old positions in
    let w : State = wave s cause in
    let after : was.list < length w = omega (arith, t.next.within, long_wave old positions cause, long_state old positions) in
    let plain : IsInward w = graph_inward limit old positions cause t.begun.graph t.begun.suits in
    let now : shown_of own (shown_by (take q nodes) positions) ≡ shown w was.list =
    shown_local own (subst Inward (sym keeps) (plain was.list)) (shown_by (take q nodes) positions) (shown w) (λ i d. t.next.shows i (subst (λ is. Contains is i) same d))
    ∙ (ap (λ o. shown_of o (shown w)) keeps ∙ sym (shown_in w (wave_ordered s cause t.begun.graph.sound.ordered) plain was.list after)) in
    let len_is : len ≡ length (shown w was.list) = is.len_is ∙ ap length now in
    long_refused t inside (omega (arith, is.past, len_is))
    ∙ (ap (λ n. Some (reply.TooLong was.list n)) (sym len_is) ∙ ap (λ l. Some (reply.TooLong l len)) (sym is_number))

-- what the list that a cause is about answers is the answer
answered : {limit : ℕ} {old : List Node} {positions : List ℕ} {cause : Cause} {rollback : Option Rollback} {q : ℕ} {nodes : List Node} {told : List (Option DeltaModel)} {was : Node} (answer : Reply)
    → IsTurn limit old positions cause rollback q nodes told was → was.list ≡ subject cause → refused_of (own_of was.keeps) cause ≡ Some answer
    → unmoved_of limit (state_of old positions) cause ≡ Some answer
answered {limit = limit} {old = old} {positions = positions} {cause = cause} {rollback = rollback} answer t same is =
    let s : State = state_of old positions in
    ap (λ r. option_or r (too_long limit (wave s cause))) (ap (λ o. refused_of o cause) (ap (own_at s) (sym same) ∙ t.next.own) ∙ is)

-- the source of a rollback would be too long
source_refused : {limit : ℕ} {old : List Node} {positions : List ℕ} {cause : Cause} {rollback : Option Rollback} {q : ℕ} {nodes : List Node} {told : List (Option DeltaModel)} {was : Node} (back : Rollback) (why : Refused)
    → IsTurn limit old positions cause rollback q nodes told was → rollback ≡ Some back → was.list ≡ back.source
    → IsSourceStopped limit (shown_by (take q nodes) positions) back.delta.pieces was.list (own_of was.keeps) why → IsStopping limit (state_of old positions) cause why
source_refused back Memory t is same h = tt
source_refused {old = old} {positions = positions} {cause = cause} {was = was} back (TooLong number len) t is same h =
    kept_long number len (put_back was.list (own_of was.keeps) back.delta.pieces) t (source_keeps back t is same) (kept_later_inputs was.list (own_of was.keeps) (λ i. back.delta.pieces))
    (granted_of back (subst (IsRollback (state_of old positions) cause) is t.begun.is_rollback)) h.0 h.1
  where
    granted_of : (back : Rollback) → TakesBack (state_of old positions) cause back → refusal_of (state_of old positions) cause ≡ None
    granted_of back takes = takes.granted
source_refused back (OutOfRange index len) t is same h = absurd h
source_refused back AlreadyFrozen t is same h = absurd h
source_refused back NotFrozen t is same h = absurd h
source_refused back NotOpen t is same h = absurd h

-- the list that a cause is about refuses it, or would be too long
own_refused : {limit : ℕ} {old : List Node} {positions : List ℕ} {cause : Cause} {rollback : Option Rollback} {q : ℕ} {nodes : List Node} {told : List (Option DeltaModel)} {was : Node} (why : Refused)
    → IsTurn limit old positions cause rollback q nodes told was → was.list ≡ subject cause
    → IsOwnStopped limit (shown_by (take q nodes) positions) cause was.list (own_of was.keeps) why → IsStopping limit (state_of old positions) cause why
own_refused Memory t same h = tt
own_refused {old = old} {positions = positions} {cause = cause} {q = q} {nodes = nodes} {was = was} (TooLong number len) t same h =
    kept_long number len (kept_by cause (shown_by (take q nodes) positions) (own_of was.keeps)) t (own_keeps t same)
    (kept_by_inputs cause (shown_by (take q nodes) positions) (own_of was.keeps)) (ap (λ o. refused_of o cause) (ap (own_at (state_of old positions)) (sym same) ∙ t.next.own) ∙ h.1.0) h.0 h.1.1
own_refused (OutOfRange index len) t same h = answered (reply.OutOfRange index len) t same h
own_refused AlreadyFrozen t same h = answered reply.AlreadyFrozen t same h
own_refused NotFrozen t same h = answered reply.NotFrozen t same h
own_refused NotOpen t same h = answered reply.NotOpen t same h

-- another one would be too long
other_refused : {limit : ℕ} {old : List Node} {positions : List ℕ} {cause : Cause} {rollback : Option Rollback} {q : ℕ} {nodes : List Node} {told : List (Option DeltaModel)} {was : Node} (why : Refused)
    → IsTurn limit old positions cause rollback q nodes told was → was.list ≢ subject cause → ¬ IsSourceOf was.list rollback
    → IsOtherStopped limit (shown_by (take q nodes) positions) told was.list (own_of was.keeps) why → IsStopping limit (state_of old positions) cause why
other_refused Memory t other apart h = tt
other_refused {was = was} (TooLong number len) t other apart h =
    let r = h.1.0.0 in
    kept_long number len (own_of was.keeps) t (free_keeps t other apart h.1.0.1) refl (t.are.inside (told_late t r.input r.d r.told)) h.0 h.1.1
other_refused (OutOfRange index len) t other apart h = absurd h
other_refused AlreadyFrozen t other apart h = absurd h
other_refused NotFrozen t other apart h = absurd h
other_refused NotOpen t other apart h = absurd h

pub stop_refused : {limit : ℕ} {old : List Node} {positions : List ℕ} {cause : Cause} {rollback : Option Rollback} {q : ℕ} {nodes : List Node} {told : List (Option DeltaModel)} {was : Node} (why : Refused)
    → IsTurn limit old positions cause rollback q nodes told was → IsStopped limit rollback (shown_by (take q nodes) positions) cause told was.list (own_of was.keeps) why
    → IsStopping limit (state_of old positions) cause why
stop_refused why t (IsStopped.source_stops back is same h) = source_refused back why t is same h
stop_refused why t (IsStopped.own_stops same h) = own_refused why t same h
stop_refused why t (IsStopped.other_stops other apart h) = other_refused why t other apart h

-- the list has become too long
pub over_refused : {limit : ℕ} {old : List Node} {positions : List ℕ} {cause : Cause} {rollback : Option Rollback} {q : ℕ} {nodes : List Node} {told : List (Option DeltaModel)} {was now : Node} (undo : KeepsUndo) (why : Refused)
    → IsTurn limit old positions cause rollback q nodes told was → IsOnBy old positions cause rollback q nodes was now undo
    → IsOver limit was.list (length (shown_of (own_of now.keeps) (shown_by (take q nodes) positions))) why → IsStopping limit (state_of old positions) cause why
over_refused {limit = limit} {old = old} {positions = positions} {cause = cause} {was = was} undo (TooLong number len) t by h =
    let w : State = wave (state_of old positions) cause in
    let shows = on_shows t by.on in
    let more : limit < length (shown w was.list) = subst (λ xs. limit < length xs) shows h.1.1 in
    long_refused t by.none more
    ∙ (ap (λ n. Some (reply.TooLong was.list n)) (sym (h.1.0 ∙ ap length shows)) ∙ ap (λ l. Some (reply.TooLong l len)) (sym h.0))
over_refused undo (OutOfRange index len) t by h = absurd h
over_refused undo AlreadyFrozen t by h = absurd h
over_refused undo NotFrozen t by h = absurd h
over_refused undo NotOpen t by h = absurd h
over_refused undo Memory t by h = absurd h
