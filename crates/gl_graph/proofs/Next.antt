-- The list whose turn it is while a command spreads.
use Rattle.std.proofs.Common.{◌≡◌, ◌∙◌, ◌⊎◌, ℕ, suc, ◌<◌, List, length, take, refl, ap, sym, subst, arith, inl, inr}
use Rattle.std.specs.Prelude.{Option, Some, None, slice_get, slice_index, slice_index_or}
use Rattle.std.specs.List.{Contains}
use Rattle.std.proofs.lemmas.Bool.{cases_lt}
use Rattle.spec_states.specs.Delta.{no_change}
use Rattle.spec_states.specs.Tree.{Tree}
use Rattle.spec_states.specs.Leads.{IsDelta}
use Rattle.spec_states.proofs.DeltaLeads.{undone_is}
use Rattle.spec_states.proofs.DeltaEdits.{identity_leads}
use Rattle.gl_source.specs.Model.{DeltaModel}
use Rattle.spec_states.specs.State.{State, inputs, own_at}
use Rattle.spec_states.specs.Shown.{shown}
use Rattle.spec_states.specs.Wave.{wave, wave_deltas, delta_in, Cause}
use Rattle.spec_states.proofs.Views.{length-table_of, length-wave, wave_ordered}
use Rattle.gl_graph.specs.declared.node.Node.{Node}
use Rattle.gl_graph.specs.declared.rollback.Rollback.{Rollback}
use Rattle.gl_graph.specs.Nodes.{own_of, numbers, state_of, shown_by, IsPlaced, IsInTurn, StandsFor}
use Rattle.gl_graph.specs.Rollbacks.{start_at}
use Rattle.gl_graph.specs.Graph.{IsGraph}
use Rattle.gl_graph.specs.Waves.{IsTold}
use Rattle.gl_graph.specs.Spread.{delta_of, delta_told, shown_before, HasBegun, IsBegun, AreInverse, AreToldTo}
use Rattle.gl_graph.proofs.Inputs.{long_state, each_input, stands_local}
use Rattle.gl_graph.proofs.Shown.{own_of_turn, order_of_settled, placed_before}
use Rattle.gl_graph.proofs.Prefixes.{agrees, graph_shows, get_node_prefix, number_at}
use Rattle.gl_graph.proofs.Rollbacks.{start_within}
use Rattle.gl_graph.proofs.WholeWaves.{graph_leads, graph_inward}

pub long_wave : (old : List Node) (positions : List ℕ) (cause : Cause) → length (wave (state_of old positions) cause) ≡ length positions
long_wave old positions cause = length-wave (state_of old positions) cause ∙ long_state old positions

-- the wave has begun before a place, or not
pub begun_or : (positions : List ℕ) (rollback : Option Rollback) (cause : Cause) (q : ℕ) → HasBegun positions rollback cause q ⊎ (HasBegun positions rollback cause q → ⊥)
begun_or positions rollback cause q = elim (cases_lt (slice_index positions (start_at rollback cause)) q) [
  | inl low ↦ inl low
  | inr high ↦ inr (λ low. omega (arith, low, high))
]

pub begun_later : (positions : List ℕ) (rollback : Option Rollback) (cause : Cause) (q : ℕ) → HasBegun positions rollback cause q → HasBegun positions rollback cause (suc q)
begun_later positions rollback cause q h = let low : slice_index positions (start_at rollback cause) < q = h in omega (arith, low)

-- the list whose turn it is: what it keeps, and what its inputs show
pub record IsNext (old : List Node) (positions : List ℕ) (cause : Cause) (q : ℕ) (nodes : List Node) (was : Node) : Type 0 where
  pub in_old : slice_get old q ≡ Some was
  pub turn : IsInTurn nodes positions q was
  pub own : own_at (state_of old positions) was.list ≡ own_of was.keeps
  pub within : was.list < length (state_of old positions)
  pub stands : StandsFor was.keeps (shown (state_of old positions))
  pub low : (i : ℕ) → Contains (inputs (own_of was.keeps)) i → slice_index positions i < q
  pub below : (i : ℕ) → Contains (inputs (own_of was.keeps)) i → i < length positions
  pub shows : (i : ℕ) → Contains (inputs (own_of was.keeps)) i → shown_by (take q nodes) positions i ≡ shown (wave (state_of old positions) cause) i

-- the command has come to its place
pub record IsTurn (limit : ℕ) (old : List Node) (positions : List ℕ) (cause : Cause) (rollback : Option Rollback) (q : ℕ) (nodes : List Node) (told : List (Option DeltaModel)) (was : Node) : Type 0 where
  pub begun : IsBegun limit old positions cause rollback
  pub are : AreInverse limit old positions cause rollback q nodes
  pub to : AreToldTo (state_of old positions) positions cause rollback q told
  pub next : IsNext old positions cause q nodes was

next_of : (limit : ℕ) (old : List Node) (positions : List ℕ) (cause : Cause) (rollback : Option Rollback) (q : ℕ) (nodes : List Node) (was : Node) → IsBegun limit old positions cause rollback
    → AreInverse limit old positions cause rollback q nodes → slice_get nodes q ≡ Some was → IsNext old positions cause q nodes was
next_of limit old positions cause rollback q nodes was begun are at = record {
  in_old = in_old;
  turn = turn;
  own = own_of_turn old positions q was in_old (order_of_settled old positions g.settled q was in_old);
  within = (let low : was.list < length positions = turn.within in omega (arith, low, long_state old positions));
  stands = stands_local was.keeps (shown_by old positions) (shown s) turn.among (λ i d. graph_shows limit old positions i g) (g.settled q was in_old).stands;
  low = λ i d. (placed_before nodes positions q i (placed i d)).1;
  below = λ i d. (placed i d).within;
  shows = λ i d. agrees (take q nodes) positions (wave s cause) (order_of_settled (take q nodes) positions are.settled) (wave_ordered s cause g.sound.ordered)
      (graph_inward limit old positions cause g begun.suits) (long_wave old positions cause)
      (λ p n found. let h = get_node_prefix nodes q p n found in are.own p n h.1 h.0) i (placed i d);
}
  where
    s : State
    s = state_of old positions

    g : IsGraph limit old positions
    g = begun.graph

    in_old : slice_get old q ≡ Some was
    in_old = sym (are.rest q (omega arith)) ∙ at

    turn : IsInTurn nodes positions q was
    turn = are.dependency_order q was at

    placed : (i : ℕ) → Contains (inputs (own_of was.keeps)) i → IsPlaced (take q nodes) positions i
    placed i d = each_input (IsPlaced (take q nodes) positions) was.keeps i turn.later d

pub turn_of : {limit : ℕ} {old : List Node} {positions : List ℕ} {cause : Cause} {rollback : Option Rollback} {q : ℕ} {nodes : List Node} {told : List (Option DeltaModel)} (was : Node)
    → IsBegun limit old positions cause rollback → AreInverse limit old positions cause rollback q nodes → AreToldTo (state_of old positions) positions cause rollback q told
    → slice_get nodes q ≡ Some was → IsTurn limit old positions cause rollback q nodes told was
turn_of {limit = limit} {old = old} {positions = positions} {cause = cause} {rollback = rollback} {q = q} {nodes = nodes} was begun are to at =
    record { begun = begun; are = are; to = to; next = next_of limit old positions cause rollback q nodes was begun are at }

-- a list at that place is that list
pub the_next : {limit : ℕ} {old : List Node} {positions : List ℕ} {cause : Cause} {rollback : Option Rollback} {q : ℕ} {nodes : List Node} {told : List (Option DeltaModel)} {was : Node}
    → IsTurn limit old positions cause rollback q nodes told was → (list : ℕ) → list < length positions → slice_index positions list ≡ q → list ≡ was.list
the_next {old = old} {q = q} {was = was} t list within at =
    let there : slice_get (numbers old) q ≡ Some list = subst (λ p. slice_get (numbers old) p ≡ Some list) at (t.begun.graph.placed list within).there in
    let both : Some list ≡ Some was.list = sym there ∙ number_at old q was t.next.in_old in
    cc

-- the wave begins there where it has begun after it and not before
pub begins_next : {limit : ℕ} {old : List Node} {positions : List ℕ} {cause : Cause} {rollback : Option Rollback} {q : ℕ} {nodes : List Node} {told : List (Option DeltaModel)} {was : Node}
    → IsTurn limit old positions cause rollback q nodes told was → HasBegun positions rollback cause (suc q) → (HasBegun positions rollback cause q → ⊥) → start_at rollback cause ≡ was.list
begins_next {limit = limit} {old = old} {positions = positions} {cause = cause} {rollback = rollback} {q = q} t later early =
    the_next t (start_at rollback cause) (start_within limit old positions cause rollback t.begun) at
  where
    low : slice_index positions (start_at rollback cause) < suc q
    low = later

    at : slice_index positions (start_at rollback cause) ≡ q
    at = elim (cases_lt (slice_index positions (start_at rollback cause)) q) [
      | inl less ↦ absurd (early less)
      | inr most ↦ omega (arith, low, most)
    ]

-- before the wave begins, nothing is told and nothing changes
pub still_shows : {limit : ℕ} {old : List Node} {positions : List ℕ} {cause : Cause} {rollback : Option Rollback} {q : ℕ} {nodes : List Node} {told : List (Option DeltaModel)} {was : Node}
    → IsTurn limit old positions cause rollback q nodes told was → (HasBegun positions rollback cause q → ⊥) → (i : ℕ) → Contains (inputs (own_of was.keeps)) i
    → shown_by (take q nodes) positions i ≡ shown (state_of old positions) i
still_shows t early i d = t.next.shows i d ∙ t.to.same i (t.next.below i d) (t.next.low i d) (t.to.quiet early i)

pub still_told : {limit : ℕ} {old : List Node} {positions : List ℕ} {cause : Cause} {rollback : Option Rollback} {q : ℕ} {nodes : List Node} {told : List (Option DeltaModel)} {was : Node}
    → IsTurn limit old positions cause rollback q nodes told was → (i : ℕ) → Contains (inputs (own_of was.keeps)) i → slice_index_or told i None ≡ None
    → delta_in (wave_deltas (state_of old positions) cause) i ≡ no_change (length (shown (state_of old positions) i))
still_told {old = old} {positions = positions} {cause = cause} t i d none =
    let s : State = state_of old positions in
    subst (IsTold (length (shown s i)) (delta_in (wave_deltas s cause) i)) none (t.to.each i (t.next.below i d) (t.next.low i d))

-- something is told once the wave has begun
pub told_late : {limit : ℕ} {old : List Node} {positions : List ℕ} {cause : Cause} {rollback : Option Rollback} {q : ℕ} {nodes : List Node} {told : List (Option DeltaModel)} {was : Node}
    → IsTurn limit old positions cause rollback q nodes told was → (i : ℕ) (d : DeltaModel) → slice_index_or told i None ≡ Some d → HasBegun positions rollback cause q
told_late {positions = positions} {cause = cause} {rollback = rollback} {q = q} t i d is = elim (begun_or positions rollback cause q) [
  | inl h ↦ h
  | inr h ↦ absurd (let both : None ≡ Some d = sym (t.to.quiet h i) ∙ is in cc)
]

-- what is told of an input is its delta, and leads from what it showed to what it shows
pub input_told : {limit : ℕ} {old : List Node} {positions : List ℕ} {cause : Cause} {rollback : Option Rollback} {q : ℕ} {nodes : List Node} {told : List (Option DeltaModel)} {was : Node}
    → IsTurn limit old positions cause rollback q nodes told was → (i : ℕ) → Contains (inputs (own_of was.keeps)) i
    → delta_told told (shown_by (take q nodes) positions) i ≡ delta_in (wave_deltas (state_of old positions) cause) i
input_told {old = old} {positions = positions} {cause = cause} {q = q} {nodes = nodes} {told = told} t i d =
    by_told (slice_index_or told i None) refl (t.to.each i (t.next.below i d) (t.next.low i d))
  where
    s : State
    s = state_of old positions

    by_told : (o : Option DeltaModel) → slice_index_or told i None ≡ o → IsTold (length (shown s i)) (delta_in (wave_deltas s cause) i) (slice_index_or told i None)
        → delta_of (slice_index_or told i None) (length (shown_by (take q nodes) positions i)) ≡ delta_in (wave_deltas s cause) i
    by_told None e is =
        let none : delta_in (wave_deltas s cause) i ≡ no_change (length (shown s i)) = subst (IsTold (length (shown s i)) (delta_in (wave_deltas s cause) i)) e is in
        let stays = t.next.shows i d ∙ t.to.same i (t.next.below i d) (t.next.low i d) e in
        ap (λ o. delta_of o (length (shown_by (take q nodes) positions i))) e ∙ (ap (λ xs. no_change (length xs)) stays ∙ sym none)
    by_told (Some m) e is =
        let here : IsTold (length (shown s i)) (delta_in (wave_deltas s cause) i) (Some m) = subst (IsTold (length (shown s i)) (delta_in (wave_deltas s cause) i)) e is in
        ap (λ o. delta_of o (length (shown_by (take q nodes) positions i))) e ∙ here.0

pub input_leads : {limit : ℕ} {old : List Node} {positions : List ℕ} {cause : Cause} {rollback : Option Rollback} {q : ℕ} {nodes : List Node} {told : List (Option DeltaModel)} {was : Node}
    → IsTurn limit old positions cause rollback q nodes told was → (i : ℕ) → Contains (inputs (own_of was.keeps)) i
    → IsDelta (delta_told told (shown_by (take q nodes) positions) i) (shown (state_of old positions) i) (shown_by (take q nodes) positions i)
input_leads {limit = limit} {old = old} {positions = positions} {cause = cause} {q = q} {nodes = nodes} {told = told} t i d = by_told (slice_index_or told i None) refl
  where
    s : State
    s = state_of old positions

    shows : ℕ → List Tree
    shows = shown_by (take q nodes) positions

    by_told : (o : Option DeltaModel) → slice_index_or told i None ≡ o → IsDelta (delta_told told shows i) (shown s i) (shows i)
    by_told None e =
        let stays : shows i ≡ shown s i = t.next.shows i d ∙ t.to.same i (t.next.below i d) (t.next.low i d) e in
        subst (λ ps. IsDelta ps (shown s i) (shows i)) (sym (ap (λ o. delta_of o (length (shows i))) e))
        (subst (λ xs. IsDelta (no_change (length (shows i))) xs (shows i)) stays (identity_leads (shows i)))
    by_told (Some m) e =
        let lead = graph_leads limit old positions cause t.begun.graph t.begun.suits (t.are.inside (told_late t i m e)) in
        let within : i < length positions = t.next.below i d in
        subst (λ ps. IsDelta ps (shown s i) (shows i)) (sym (input_told t i d))
        (subst (λ ys. IsDelta (delta_in (wave_deltas s cause) i) (shown s i) ys) (sym (t.next.shows i d)) (lead.each i (omega (arith, within, length-table_of s, long_state old positions))))

-- what it showed is known of that
pub input_before : {limit : ℕ} {old : List Node} {positions : List ℕ} {cause : Cause} {rollback : Option Rollback} {q : ℕ} {nodes : List Node} {told : List (Option DeltaModel)} {was : Node}
    → IsTurn limit old positions cause rollback q nodes told was → (i : ℕ) → Contains (inputs (own_of was.keeps)) i
    → shown_before told (shown_by (take q nodes) positions) i ≡ shown (state_of old positions) i
input_before {old = old} {positions = positions} {q = q} {nodes = nodes} {told = told} t i d =
    undone_is (delta_told told (shown_by (take q nodes) positions) i) (shown (state_of old positions) i) (shown_by (take q nodes) positions i) (input_leads t i d)
