-- How a command begins to spread, and what holds once it came to the last place.
use Rattle.std.proofs.Common.{◌≡◌, ◌∙◌, ℕ, zero, suc, ◌<◌, ◌≤◌, List, [], ◌∷◌, length, take, replicate, refl, ap, sym, subst, arith}
use Rattle.std.specs.Prelude.{Option, Some, None, slice_get, slice_index, slice_index_or}
use Rattle.std.specs.Option.{option_or}
use Rattle.std.specs.List.{Contains}
use Rattle.std.proofs.lemmas.List.{length-map}
use Rattle.std.proofs.lemmas.Option.{slice_get_within}
use Rattle.gl_source.specs.Model.{DeltaModel}
use Rattle.spec_states.specs.State.{State, own_at, dependency_order}
use Rattle.spec_states.specs.Laws.{IsSound}
use Rattle.spec_states.specs.Shown.{shown, table_of}
use Rattle.spec_states.specs.Wave.{wave, Cause, subject}
use Rattle.spec_states.specs.Step.{too_long}
use Rattle.spec_states.proofs.DependencyOrder.{ordered as order_of}
use Rattle.spec_states.proofs.Views.{wave_order}
use Rattle.gl_graph.specs.declared.node.Node.{Node}
use Rattle.gl_graph.specs.Nodes.{own_of_node, numbers, state_of, IsPlaced, AreSettled}
use Rattle.gl_graph.specs.Graph.{IsGraph}
use Rattle.gl_graph.specs.Room.{IsNoMore}
use Rattle.gl_graph.specs.Undos.{room_of}
use Rattle.gl_graph.proofs.NoMore.{no_more}
use Rattle.gl_graph.specs.Waves.{Made, by_position, undo_at, room_one, AreTold, CanAllGoBack, HaveRoomBack}
use Rattle.gl_graph.specs.Spread.{HasBegun, IsBegun, AreInverse, HaveBack, IsSpread}
use Rattle.gl_graph.proofs.Inputs.{own_at_state, long_state}
use Rattle.gl_graph.proofs.Taken.{none_back, no_undo}
use Rattle.gl_graph.proofs.Shown.{order_of_settled, member_at}
use Rattle.gl_graph.proofs.Prefixes.{node_of}
use Rattle.gl_graph.proofs.Starts.{same_state}
use Rattle.gl_graph.proofs.Dispatch.{take_all}
use Rattle.gl_graph.proofs.Next.{long_wave}
use Rattle.gl_graph.specs.declared.rollback.Rollback.{Rollback}
use Rattle.gl_graph.specs.Rollbacks.{IsRollback, start_at}
use Rattle.gl_graph.proofs.WholeWaves.{graph_sound}
use Rattle.gl_graph.proofs.Rollbacks.{start_within}
use Rattle.gl_graph.proofs.Refusals.{prefix_few}
use Rattle.spec_states.proofs.Lists.{replicate_at}
use Rattle.spec_states.proofs.Longer.{none_longer, few_shown}
use Rattle.gl_graph.specs.Causes.{SuitsCause, refusal_of, unmoved_of}

pub shown_few : (limit : ℕ) (old : List Node) (positions : List ℕ) → IsGraph limit old positions → (list : ℕ) → list < length positions → length (shown (state_of old positions) list) ≤ limit
shown_few limit old positions g list within =
    let s : State = state_of old positions in
    none_longer limit (table_of s) (dependency_order s) list g.within (subst (λ xs. Contains xs list) (sym g.order) (member_at (numbers old) (slice_index positions list) list (g.placed list within).there))

-- a list has its place below the number of nodes
pub start_low : (limit : ℕ) (old : List Node) (positions : List ℕ) (list : ℕ) → IsGraph limit old positions → list < length positions → slice_index positions list < length old
start_low limit old positions list g within =
    let low : slice_index positions list < length (numbers old) = slice_get_within (numbers old) (slice_index positions list) list (g.placed list within).there in
    omega (arith, low, length-map old (λ (n : Node). n.list))

-- a command for a graph that is seen by slices has begun
pub begun_of : (limit : ℕ) (old : List Node) (positions : List ℕ) (cause : Cause) (rollback : Option Rollback) (seen : List Node) (places : List ℕ) → IsGraph limit old positions
    → subject cause < length (state_of old positions) → SuitsCause cause (own_at (state_of old positions) (subject cause)) → seen ≡ old → places ≡ positions
    → IsRollback (state_of seen places) cause rollback → IsBegun limit old positions cause rollback
begun_of limit old positions cause rollback seen places graph within suits same placed is = record {
  graph = graph;
  within = within;
  suits = suits;
  is_rollback = subst (λ ns. IsRollback (state_of ns positions) cause rollback) same (subst (λ ps. IsRollback (state_of seen ps) cause rollback) placed is);
}

-- there are few nodes
pub nodes_few : (limit : ℕ) (old : List Node) (positions : List ℕ) → IsGraph limit old positions → length old ≤ 256
nodes_few limit old positions g =
    let s : State = state_of old positions in
    let whole : length (dependency_order s) ≡ length s = (order_of s g.sound.ordered).whole in
    omega (arith, whole, ap length g.order, length-map old (λ (n : Node). n.list), long_state old positions, g.few_lists)

all_long : {X : Type 0} (x : X) (n : ℕ) → length (replicate n x) ≡ n
all_long x zero = refl
all_long x (suc n) = ap suc (all_long x n)

all_get : {X : Type 0} (x : X) (n k : ℕ) → k < n → slice_get (replicate n x) k ≡ Some x
all_get x zero k h = absurd (omega (arith, h))
all_get x (suc n) zero h = refl
all_get x (suc n) (suc k) h = all_get x n k (omega (arith, h))

none_can : (n : ℕ) (nodes : List Node) → CanAllGoBack (replicate n None) nodes
none_can n [] = tt
none_can zero (m ∷ nodes) = tt
none_can (suc n) (m ∷ nodes) = (tt, none_can n nodes)

-- without undos the nodes have the room that they have
same_room : (n : ℕ) (nodes : List Node) → HaveRoomBack [] nodes (replicate n None) nodes
same_room n nodes p a b at_a at_b =
    let both : Some a ≡ Some b = sym at_a ∙ at_b in
    let one : a ≡ b = cc in
    subst (λ (m : Node). IsNoMore (room_of a.keeps) (room_one (undo_at (replicate n None) p) m.keeps)) one
    (subst (λ u. IsNoMore (room_of a.keeps) (room_one u a.keeps)) (sym (no_undo n p)) (no_more (room_of a.keeps)))

pub spread_begins : (limit : ℕ) (old : List Node) (positions : List ℕ) (cause : Cause) (rollback : Option Rollback) (told : List (Option DeltaModel)) (made : Made) → IsBegun limit old positions cause rollback
    → told ≡ replicate (length positions) None → made ≡ [] → IsSpread limit old positions cause rollback 0 old told made
spread_begins limit old positions cause rollback told made begun told_is made_is = record {
  begun = begun;
  inverted = record {
    numbers_are = refl;
    dependency_order = order_of_settled old positions begun.graph.settled;
    settled = λ p n at. absurd (nothing p n at);
    own = λ p n low at. absurd (omega (arith, low));
    rest = λ p high. refl;
    limited = begun.graph.limited;
    few = λ list within low. absurd (omega (arith, low));
    inside = λ begun_already. absurd (not_yet begun_already);
  };
  told_to = record {
    long = ap length told_is ∙ all_long None (length positions);
    each = λ list within low. absurd (omega (arith, low));
    same = λ list within low none. absurd (omega (arith, low));
    others = λ list within high. none list;
    quiet = λ no list. none list;
  };
  back = subst (HaveBack old old) (sym made_is) (record {
    lead = record {
      numbers_are = refl;
      back = none_back (length old) old;
      can = none_can (length old) old;
      room = same_room (length old) old;
    };
    apart = tt;
  });
  waiting = λ p high within. ap (λ ms. slice_get (by_position (length old) ms) p) made_is ∙ all_get None (length old) p within;
}
  where
    not_yet : HasBegun positions rollback cause 0 → ⊥
    not_yet h = let low : slice_index positions (start_at rollback cause) < 0 = h in omega (arith, low)

    none : (list : ℕ) → slice_index_or told list None ≡ None
    none list = ap (λ ts. slice_index_or ts list None) told_is ∙ replicate_at None (length positions) list

    nothing : (p : ℕ) (n : Node) → slice_get [] p ≡ Some n → ⊥
    nothing p n e = absurd cc

-- the command came to the last place
pub record IsDone (limit : ℕ) (old : List Node) (positions : List ℕ) (cause : Cause) (nodes : List Node) (told : List (Option DeltaModel)) (made : Made) : Type 0 where
  pub moves : unmoved_of limit (state_of old positions) cause ≡ None
  pub state : state_of nodes positions ≡ wave (state_of old positions) cause
  pub told_is : AreTold (state_of old positions) cause told
  pub graph : IsGraph limit nodes positions
  pub back : HaveBack old nodes made

take_nodes : (nodes : List Node) (n : ℕ) → length nodes ≡ n → take n nodes ≡ nodes
take_nodes [] zero e = refl
take_nodes [] (suc n) e = refl
take_nodes (m ∷ nodes) zero e = absurd (omega (arith, e))
take_nodes (m ∷ nodes) (suc n) e = ap (λ xs. m ∷ xs) (take_nodes nodes n (omega (arith, e)))

pub spread_ends : (limit : ℕ) (old : List Node) (positions : List ℕ) (cause : Cause) (rollback : Option Rollback) (nodes : List Node) (told : List (Option DeltaModel)) (made : Made)
    → IsSpread limit old positions cause rollback (length old) nodes told made → IsDone limit old positions cause nodes told made
spread_ends limit old positions cause rollback nodes told made h = record {
  moves = ap (λ r. option_or r (too_long limit w)) inside ∙ few;
  state = state;
  told_is = record {
    long = h.told_to.long ∙ sym (long_state old positions);
    each = λ list within. let low : list < length positions = omega (arith, within, long_state old positions) in h.told_to.each list low (position_low list low);
  };
  graph = record {
    few_lists = g.few_lists;
    few = g.few;
    placed = placed;
    sound = subst IsSound (sym state) (graph_sound limit old positions cause g h.begun.suits inside);
    order = ap dependency_order state ∙ (wave_order s cause ∙ (g.order ∙ sym t.numbers_are));
    settled = subst (λ xs. AreSettled xs positions) (take_nodes nodes (length old) long_nodes) t.settled;
    limited = t.limited;
    within = ap (too_long limit) state ∙ few;
  };
  back = h.back;
}
  where
    s : State
    s = state_of old positions

    w : State
    w = wave s cause

    g : IsGraph limit old positions
    g = h.begun.graph

    t : AreInverse limit old positions cause rollback (length old) nodes
    t = h.inverted

    long_numbers : (ns : List Node) → length (numbers ns) ≡ length ns
    long_numbers ns = length-map ns (λ (n : Node). n.list)

    long_nodes : length nodes ≡ length old
    long_nodes = sym (long_numbers nodes) ∙ (ap length t.numbers_are ∙ long_numbers old)

    position_low : (list : ℕ) → list < length positions → slice_index positions list < length old
    position_low list within =
        let low : slice_index positions list < length (numbers old) = slice_get_within (numbers old) (slice_index positions list) list (g.placed list within).there in
        omega (arith, low, long_numbers old)

    placed : (list : ℕ) → list < length positions → IsPlaced nodes positions list
    placed list within = record { within = within; there = subst (λ xs. slice_get xs (slice_index positions list) ≡ Some list) (sym t.numbers_are) (g.placed list within).there }

    inside : refusal_of s cause ≡ None
    inside = t.inside (position_low (start_at rollback cause) (start_within limit old positions cause rollback h.begun))

    few : too_long limit w ≡ None
    few = few_shown limit (table_of w) (dependency_order w) (λ y among. prefix_few limit old positions cause rollback (length old) nodes h.begun t y
        (subst (λ xs. Contains xs y) (sym (ap (λ n. take n (numbers old)) (sym (long_numbers old)) ∙ take_all (numbers old))) (subst (λ xs. Contains xs y) (wave_order s cause ∙ g.order) among)))

    same : (list : ℕ) → list < length w → own_at (state_of nodes positions) list ≡ own_at w list
    same list within =
        let low : list < length positions = omega (arith, within, long_wave old positions cause) in
        let n = node_of nodes (slice_index positions list) list (placed list low).there in
        own_at_state nodes positions list low ∙ (ap own_of_node n.is ∙ (t.own (slice_index positions list) n.node (position_low list low) n.is ∙ ap (own_at w) n.same))

    state : state_of nodes positions ≡ w
    state = same_state (state_of nodes positions) w (long_state nodes positions ∙ sym (long_wave old positions cause)) same
