-- The list whose turn it is can be turned.
use Rattle.std.proofs.Common.{◌≡◌, ◌∙◌, ℕ, ◌<◌, List, length, take, ap, sym, subst, arith}
use Rattle.std.specs.Prelude.{Option, Some, None, slice_get}
use Rattle.spec_states.specs.Tree.{Tree}
use Rattle.spec_states.specs.Leads.{LeadsFrom, LeadsTo}
use Rattle.spec_states.proofs.DeltaLeads.{ends_at}
use Rattle.gl_source.specs.Model.{DeltaModel}
use Rattle.spec_states.specs.State.{State, own_at}
use Rattle.spec_states.specs.Laws.{IsSource}
use Rattle.spec_states.specs.Shown.{shown_of, shown}
use Rattle.spec_states.specs.Wave.{Cause, subject}
use Rattle.spec_states.proofs.Views.{shown_is}
use Rattle.gl_graph.specs.declared.node.Node.{Node}
use Rattle.gl_graph.specs.declared.rollback.Rollback.{Rollback}
use Rattle.gl_graph.specs.Nodes.{own_of, state_of, shown_by}
use Rattle.gl_graph.specs.Rollbacks.{TakesBack, IsRollback}
use Rattle.gl_graph.specs.Spread.{delta_told, shown_before, CanTakeBack, CanRoll, CanTake, CanFollow, CanTurnAt}
use Rattle.gl_graph.proofs.Inputs.{on_inputs, stands_local}
use Rattle.gl_graph.proofs.Rollbacks.{begins_as, is_rollback, back_of, is_back, can_take_back, has_level}
use Rattle.gl_graph.proofs.Next.{IsTurn, still_shows, input_leads, input_before}
use Rattle.gl_graph.proofs.Turns.{own_early}
use Rattle.gl_graph.specs.Causes.{SuitsCause, begin_at, refused_of}

takes_of : {limit : ℕ} {old : List Node} {positions : List ℕ} {cause : Cause} {rollback : Option Rollback} {q : ℕ} {nodes : List Node} {told : List (Option DeltaModel)} {was : Node} (back : Rollback)
    → IsTurn limit old positions cause rollback q nodes told was → rollback ≡ Some back → TakesBack (state_of old positions) cause back
takes_of {old = old} {positions = positions} {cause = cause} back t is = subst (IsRollback (state_of old positions) cause) is t.begun.is_rollback

mine : {limit : ℕ} {old : List Node} {positions : List ℕ} {cause : Cause} {rollback : Option Rollback} {q : ℕ} {nodes : List Node} {told : List (Option DeltaModel)} {was : Node}
    → IsTurn limit old positions cause rollback q nodes told was → was.list ≡ subject cause → own_at (state_of old positions) (subject cause) ≡ own_of was.keeps
mine {old = old} {positions = positions} t same = ap (own_at (state_of old positions)) (sym same) ∙ t.next.own

-- the source of a rollback
source_ready : {limit : ℕ} {old : List Node} {positions : List ℕ} {cause : Cause} {rollback : Option Rollback} {q : ℕ} {nodes : List Node} {told : List (Option DeltaModel)} {was : Node} (back : Rollback)
    → IsTurn limit old positions cause rollback q nodes told was → rollback ≡ Some back → was.list ≡ back.source → CanTakeBack back.delta.pieces was.keeps
source_ready {limit = limit} {old = old} {positions = positions} {cause = cause} {was = was} back t is same =
    let s : State = state_of old positions in
    let b = is_back limit old positions cause back t.begun.graph t.begun.suits (takes_of back t is) (subst (λ l. l < length s) same t.next.within) in
    let own = ap (own_at s) (sym same) ∙ t.next.own in
    can_take_back back.delta.pieces was.keeps (shown s) (subst IsSource own b.is_source)
    (subst (LeadsFrom back.delta.pieces) (ap (shown s) (sym same) ∙ (shown_is s t.begun.graph.sound was.list t.next.within ∙ ap (λ o. shown_of o (shown s)) t.next.own)) b.leads)

-- the list that is rolled back
rolled_ready : {limit : ℕ} {old : List Node} {positions : List ℕ} {cause : Cause} {rollback : Option Rollback} {q : ℕ} {nodes : List Node} {told : List (Option DeltaModel)} {was : Node} (back : Rollback)
    → IsTurn limit old positions cause rollback q nodes told was → rollback ≡ Some back → was.list ≡ subject cause → CanRoll cause was.list was.keeps
rolled_ready {old = old} {positions = positions} {cause = cause} {was = was} back t is same =
    let s : State = state_of old positions in
    let takes = takes_of back t is in
    let r = back_of s cause back t.begun.suits takes in
    record {
      suits = subst (SuitsCause cause) (mine t same) t.begun.suits;
      rollback = is_rollback s cause back takes;
      inside = ap (λ o. refused_of o cause) (sym (mine t same)) ∙ takes.granted;
      elsewhere = λ e. takes.apart (one back.source was.list (sym takes.begins ∙ (begins_as cause (own_at s (subject cause)) ∙ (ap (begin_at cause (subject cause)) (mine t same) ∙ (ap (λ l. begin_at cause l (own_of was.keeps)) (sym same) ∙ e)))) ∙ same);
      level = has_level was.keeps back.source r.level r.levels (sym (mine t same) ∙ r.is);
    }
  where
    one : (i j : ℕ) → Some i ≡ Some j → i ≡ j
    one i j e = cc

-- the list that takes the command
own_ready : {limit : ℕ} {old : List Node} {positions : List ℕ} {cause : Cause} {rollback : Option Rollback} {q : ℕ} {nodes : List Node} {told : List (Option DeltaModel)} {was : Node}
    → IsTurn limit old positions cause rollback q nodes told was → rollback ≡ None → was.list ≡ subject cause → CanTake (shown_by (take q nodes) positions) cause was.keeps
own_ready {old = old} {positions = positions} {cause = cause} {q = q} {nodes = nodes} {was = was} t none same = record {
  suits = subst (SuitsCause cause) (mine t same) t.begun.suits;
  plain = subst (IsRollback (state_of old positions) cause) none t.begun.is_rollback;
  stands = stands_local was.keeps (shown (state_of old positions)) (shown_by (take q nodes) positions) t.next.turn.among
      (λ i d. sym (still_shows t (own_early t same none) i d)) t.next.stands;
}

-- any other
other_ready : {limit : ℕ} {old : List Node} {positions : List ℕ} {cause : Cause} {rollback : Option Rollback} {q : ℕ} {nodes : List Node} {told : List (Option DeltaModel)} {was : Node}
    → IsTurn limit old positions cause rollback q nodes told was → CanFollow (shown_by (take q nodes) positions) told was.keeps
other_ready {old = old} {positions = positions} {q = q} {nodes = nodes} {told = told} {was = was} t =
    let s : State = state_of old positions in
    let shows : ℕ → List Tree = shown_by (take q nodes) positions in
    record {
      leads = on_inputs (λ i. LeadsTo (delta_told told shows i) (shows i)) was.keeps (λ i d. ends_at (delta_told told shows i) (shown s i) (shows i) (input_leads t i d));
      stood = stands_local was.keeps (shown s) (shown_before told shows) t.next.turn.among (λ i d. sym (input_before t i d)) t.next.stands;
    }

pub can_turn : {limit : ℕ} {old : List Node} {positions : List ℕ} {cause : Cause} {rollback : Option Rollback} {q : ℕ} {nodes : List Node} {told : List (Option DeltaModel)} {was : Node}
    → IsTurn limit old positions cause rollback q nodes told was → slice_get nodes q ≡ Some was → CanTurnAt rollback positions cause told q nodes
can_turn {positions = positions} {told = told} {was = was} t at = record {
  node = was;
  there = at;
  settled = t.are.settled;
  later = t.next.turn.later;
  among = t.next.turn.among;
  can = record {
    within = on_inputs (λ i. i < length told) was.keeps (λ i d. let low : i < length positions = t.next.below i d in omega (arith, low, t.to.long));
    source = λ back is same. source_ready back t is same;
    rolled = λ back is same. rolled_ready back t is same;
    own = λ none same. own_ready t none same;
    other = λ other apart. other_ready t;
  };
}
