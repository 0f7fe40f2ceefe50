-- The lists of a plan open in their order, or one is too long.
use Rattle.std.proofs.Common.{◌≡◌, ◌∙◌, ℕ, zero, suc, ◌<◌, ◌≤◌, Bool, true, false, List, [], ◌∷◌, ◌++◌, length, map, take, refl, ap, sym, subst, arith, nat_le, if◌then◌else◌}
use Rattle.spec_states.specs.Tree.{Tree}
use Rattle.std.specs.Prelude.{Option, Some, None, slice_get, slice_index}
use Rattle.std.specs.List.{Contains}
use Rattle.std.proofs.lemmas.Bool.{le-leb, lt-leb}
use Rattle.std.proofs.lemmas.Option.{slice_get_within}
use Rattle.std.proofs.lemmas.List.{length-map}
use Rattle.std.proofs.lemmas.List.FromFn.{length-map-range_with_len}
use Rattle.spec_states.specs.Order.{IsOrder}
use Rattle.spec_states.proofs.Acyclic.{Contains-order}
use Rattle.spec_states.proofs.Members.{Contains-here, Contains-later}
use Rattle.spec_states.specs.ListDecl.{ListDecl}
use Rattle.spec_states.specs.ListKind.{ListKind}
use Rattle.spec_states.specs.ListKind.TheVariants as kinds
use Rattle.spec_states.specs.Reply.{Reply}
use Rattle.spec_states.specs.Reply.TheVariants as reply
use Rattle.spec_states.specs.DependencyOrder.{dependency_order as order_by}
use Rattle.spec_states.specs.Plan.{Plan, inputs_of, list_edges}
use Rattle.gl_plan.specs.Whole.{IsWhole}
use Rattle.spec_states.specs.State.{State, proxy, inputs, opening_of, own_at, edges_of, dependency_order}
use Rattle.spec_states.specs.Shown.{Table, shown_of, shown, shows_in, table_of}
use Rattle.spec_states.specs.Step.{first_longer, too_long}
use Rattle.spec_states.specs.Laws.{IsOrdered, IsSound}
use Rattle.spec_states.proofs.DependencyOrder.{ordered, order_follow}
use Rattle.spec_states.proofs.Views.{Inward, sound_inward, shown_local, shown_in, opening_of_inputs, opening_edges}
use Rattle.spec_states.proofs.Openings.{length-opening, opening_ordered, opening_shows}
use Rattle.gl_graph.specs.declared.node.Node.{Node}
use Rattle.gl_graph.specs.declared.fault.BuildFault.{BuildFault}
use Rattle.gl_graph.specs.declared.fault.BuildFault.TheVariants.{TooLong, Memory}
use Rattle.gl_graph.specs.Nodes.{own_of_node, own_in, state_of, numbers, shown_by, IsPlaced}
use Rattle.gl_graph.specs.Opening.{OnInputs}
use Rattle.gl_graph.specs.Positions.{ArePositions}
use Rattle.gl_graph.specs.Build.{IsOneMore, IsFault, AreOpened, AreReady, AreOpen, IsReason, shown_before, opened_lists}
use Rattle.gl_graph.proofs.Inputs.{own_at_state, on_inputs, all_of}
use Rattle.gl_graph.proofs.Shown.{order_of_settled}
use Rattle.gl_graph.proofs.Prefixes.{node_of, agrees}
use Rattle.gl_graph.proofs.Sources.{whole_sound}
use Rattle.gl_graph.proofs.Built.{opened_more}
use Rattle.gl_graph.proofs.Dispatch.{order_below, placed_in, follow_at, take_next, take_all, take_long, index_of_get}
use Rattle.spec_states.proofs.Longer.{few_shown}

-- said of each list that a list of a plan depends on
inputs_all : (P : ℕ → Type 0) (kind : ListKind) → ((i : ℕ) → Contains (inputs_of kind) i → P i) → OnInputs P kind
inputs_all P (kinds.Source rows) f = tt
inputs_all P (kinds.Filter input matcher) f = f input (Contains-here input [] input refl)
inputs_all P (kinds.Sorted input order) f = f input (Contains-here input [] input refl)
inputs_all P (kinds.Unique input order) f = f input (Contains-here input [] input refl)
inputs_all P (kinds.Grouping input order) f = f input (Contains-here input [] input refl)
inputs_all P (kinds.Range input bounds) f = f input (Contains-here input [] input refl)
inputs_all P (kinds.Function input func) f = f input (Contains-here input [] input refl)
inputs_all P (kinds.Collection input kids) f = f input (Contains-here input [] input refl)
inputs_all P (kinds.Composite members may) f = all_of P (members ++ may) f
inputs_all P (kinds.Transaction input) f = f input (Contains-here input [] input refl)
inputs_all P (kinds.Freezable input) f = f input (Contains-here input [] input refl)
inputs_all P (kinds.Proxy input) f = f input (Contains-here input [] input refl)

-- what a list opens with goes by what the lists show that it depends on
opening_local : (f g : ℕ → List Tree) (kind : ListKind) → ((i : ℕ) → Contains (inputs_of kind) i → f i ≡ g i) → opening_of f kind ≡ opening_of g kind
opening_local f g (kinds.Source rows) same = refl
opening_local f g (kinds.Filter input matcher) same = refl
opening_local f g (kinds.Sorted input order) same = refl
opening_local f g (kinds.Unique input order) same = refl
opening_local f g (kinds.Grouping input order) same = refl
opening_local f g (kinds.Range input bounds) same = refl
opening_local f g (kinds.Function input func) same = refl
opening_local f g (kinds.Collection input kids) same = refl
opening_local f g (kinds.Composite members may) same = refl
opening_local f g (kinds.Transaction input) same = refl
opening_local f g (kinds.Freezable input) same = refl
opening_local f g (kinds.Proxy input) same = ap (λ xs. proxy input xs []) (same input (Contains-here input [] input refl))

-- lists as the lists of a plan
abbrev plan_of : List ListDecl → Plan
plan_of lists = record { limit = 0; lists = lists; listeners = []; writers = [] }

-- what a list of these opens with
own_opened : (lists : List ListDecl) (list : ℕ) (d : ListDecl) → slice_get lists list ≡ Some d → own_at (opened_lists lists) list ≡ opening_of (shown_before lists) d.kind
own_opened lists list d e = own_in_map (shown_before lists) lists list e
  where
    own_in_map : (shows : ℕ → List Tree) (ds : List ListDecl) (k : ℕ) → slice_get ds k ≡ Some d
        → own_at (map (λ (x : ListDecl). opening_of shows x.kind) ds) k ≡ opening_of shows d.kind
    own_in_map shows [] k e = absurd cc
    own_in_map shows (c ∷ ds) zero e = let same : c ≡ d = cc in ap (λ (x : ListDecl). opening_of shows x.kind) same
    own_in_map shows (c ∷ ds) (suc k) e = own_in_map shows ds k e

-- and what it depends on
inputs_opened : (lists : List ListDecl) (list : ℕ) (d : ListDecl) → slice_get lists list ≡ Some d → inputs (own_at (opened_lists lists) list) ≡ inputs_of d.kind
inputs_opened lists list d e = ap inputs (own_opened lists list d e) ∙ opening_of_inputs (shown_before lists) d.kind

long_opened : (lists : List ListDecl) → length (opened_lists lists) ≡ length lists
long_opened lists = length-opening (plan_of lists)

-- the order of a plan's lists
whole_ordered : (p : Plan) → IsWhole p → IsOrdered (opened_lists p.lists)
whole_ordered p h = opening_ordered p h.lists_within h.acyclic.lists

plan_order : (p : Plan) (order : List ℕ) → order ≡ order_by (length p.lists) (list_edges p) → order ≡ dependency_order (opened_lists p.lists)
plan_order p order is =
    is ∙ (ap (λ n. order_by n (list_edges p)) (sym (long_opened p.lists)) ∙ ap (order_by (length (opened_lists p.lists))) (sym (opening_edges p)))

pub plan_is_order : (p : Plan) (order : List ℕ) → IsWhole p → order ≡ order_by (length p.lists) (list_edges p) → IsOrder (length p.lists) (edges_of (opened_lists p.lists)) order
plan_is_order p order h is =
    let s : State = opened_lists p.lists in
    subst (λ n. IsOrder n (edges_of s) order) (long_opened p.lists)
    (subst (IsOrder (length s) (edges_of s)) (sym (plan_order p order is)) (ordered s (whole_ordered p h)))

-- lists in their dependency order, with their places there
pub ready_of : (p : Plan) (positions order : List ℕ) → IsWhole p → order ≡ order_by (length p.lists) (list_edges p)
    → length positions ≡ length p.lists → ArePositions positions order (length p.lists) → AreReady p.limit p.lists positions order
ready_of p positions order h is long are = record {
  few_lists = h.few_lists;
  few = omega (arith, h.limit.few);
  sound = whole_sound p h (whole_ordered p h);
  order_is = plan_order p order is;
  long = long;
  positions_are = are;
}

order_of : (limit : ℕ) (lists : List ListDecl) (positions order : List ℕ) → AreReady limit lists positions order → IsOrder (length lists) (edges_of (opened_lists lists)) order
order_of limit lists positions order ready =
    let s : State = opened_lists lists in
    subst (λ n. IsOrder n (edges_of s) order) (long_opened lists) (subst (IsOrder (length s) (edges_of s)) (sym ready.order_is) (ordered s ready.sound.ordered))

-- the lists that are open so far have their places
prefix_placed : (limit : ℕ) (lists : List ListDecl) (positions order : List ℕ) (nodes : List Node) (k list : ℕ) → AreReady limit lists positions order
    → numbers nodes ≡ take k order → Contains (take k order) list → IsPlaced nodes positions list
prefix_placed limit lists positions order nodes k list ready numbers_are c =
    let is = order_of limit lists positions order ready in
    placed_in positions order nodes (length lists) k list ready.positions_are is.whole ready.long (order_below (length lists) (edges_of (opened_lists lists)) order is.prefix) numbers_are c

-- what the next list follows is open
next_inputs : (limit : ℕ) (lists : List ListDecl) (positions order : List ℕ) (nodes : List Node) (k list : ℕ) (d : ListDecl) → AreReady limit lists positions order
    → numbers nodes ≡ take k order → slice_get order k ≡ Some list → slice_get lists list ≡ Some d → (i : ℕ) → Contains (inputs_of d.kind) i → IsPlaced nodes positions i
next_inputs limit lists positions order nodes k list d ready numbers_are here there i c =
    let s : State = opened_lists lists in
    let turn : slice_get (dependency_order s) k ≡ Some list = subst (λ xs. slice_get xs k ≡ Some list) ready.order_is here in
    let need : Contains (inputs (own_at s list)) i = subst (λ xs. Contains xs i) (sym (inputs_opened lists list d there)) c in
    let before : Contains (take k (dependency_order s)) i = follow_at (λ l. inputs (own_at s l)) [] (dependency_order s) k list (order_follow s ready.sound.ordered) turn i need in
    prefix_placed limit lists positions order nodes k i ready numbers_are (subst (λ xs. Contains (take k xs) i) (sym ready.order_is) before)

pub next_within : (limit : ℕ) (lists : List ListDecl) (positions order : List ℕ) (k list : ℕ) → AreReady limit lists positions order → slice_get order k ≡ Some list → list < length lists
next_within limit lists positions order k list ready here =
    let is = order_of limit lists positions order ready in
    let index : slice_index order k ≡ list = index_of_get order k list here in
    let below : slice_index order k < length lists = order_below (length lists) (edges_of (opened_lists lists)) order is.prefix k (slice_get_within order k list here) in
    omega (arith, below, index)

pub inputs_placed : (limit : ℕ) (lists : List ListDecl) (positions order : List ℕ) (nodes : List Node) (k list : ℕ) (d : ListDecl) → AreReady limit lists positions order
    → AreOpened limit (opened_lists lists) positions order k nodes → slice_get order k ≡ Some list → slice_get lists list ≡ Some d → OnInputs (IsPlaced nodes positions) d.kind
inputs_placed limit lists positions order nodes k list d ready opened here there =
    inputs_all (IsPlaced nodes positions) d.kind (next_inputs limit lists positions order nodes k list d ready opened.order_is here there)

-- what is open shows what it shows in the end
opened_shows : (limit : ℕ) (lists : List ListDecl) (positions order : List ℕ) (nodes : List Node) (k list : ℕ) → AreReady limit lists positions order
    → AreOpened limit (opened_lists lists) positions order k nodes → IsPlaced nodes positions list → shown_by nodes positions list ≡ shown (opened_lists lists) list
opened_shows limit lists positions order nodes k list ready opened placed =
    agrees nodes positions (opened_lists lists) (order_of_settled nodes positions opened.settled) ready.sound.ordered (sound_inward (opened_lists lists) ready.sound) (long_opened lists ∙ sym ready.long) opened.own list placed

-- so the next list opens with what the state says
next_own : (limit : ℕ) (lists : List ListDecl) (positions order : List ℕ) (nodes : List Node) (k list : ℕ) (d : ListDecl) → AreReady limit lists positions order
    → AreOpened limit (opened_lists lists) positions order k nodes → slice_get order k ≡ Some list → slice_get lists list ≡ Some d
    → opening_of (shown_by nodes positions) d.kind ≡ own_at (opened_lists lists) list
next_own limit lists positions order nodes k list d ready opened here there =
    opening_local (shown_by nodes positions) (shown_before lists) d.kind (λ i c.
    let placed = next_inputs limit lists positions order nodes k list d ready opened.order_is here there i c in
    let within : i < length lists = subst (λ n. i < n) ready.long placed.within in
    opened_shows limit lists positions order nodes k i ready opened placed ∙ opening_shows (plan_of lists) ready.sound.ordered i within)
    ∙ sym (own_opened lists list d there)

pub next_opened : (limit : ℕ) (lists : List ListDecl) (positions order : List ℕ) (nodes after : List Node) (k list : ℕ) (d : ListDecl) → AreReady limit lists positions order
    → AreOpened limit (opened_lists lists) positions order k nodes → slice_get order k ≡ Some list → slice_get lists list ≡ Some d
    → IsOneMore limit positions list (opening_of (shown_by nodes positions) d.kind) nodes after → AreOpened limit (opened_lists lists) positions order (suc k) after
next_opened limit lists positions order nodes after k list d ready opened here there more =
    let s : State = opened_lists lists in
    let shows : ℕ → List Tree = shown_by nodes positions in
    let is = order_of limit lists positions order ready in
    let within : k < length order = slice_get_within order k list here in
    let number_len : length nodes ≡ length (numbers nodes) = sym (length-map nodes (λ (n : Node). n.list)) in
    let long : length nodes ≡ k = number_len ∙ (ap length opened.order_is ∙ take_long order k (omega (arith, within))) in
    let index : slice_index order k ≡ list = index_of_get order k list here in
    let below : slice_index order k < length lists = order_below (length lists) (edges_of s) order is.prefix k within in
    let placed : slice_index positions list ≡ k = subst (λ l. slice_index positions l ≡ k) index (ready.positions_are k (omega (arith, within, is.whole))) in
    let own : opening_of shows d.kind ≡ own_at s list = next_own limit lists positions order nodes k list d ready opened here there in
    let needs : inputs (opening_of shows d.kind) ≡ inputs_of d.kind = opening_of_inputs shows d.kind in
    let result = opened_more limit s positions order nodes after list (opening_of shows d.kind) ready.few
    (subst (λ m. AreOpened limit s positions order m nodes) (sym long) opened) more
    (omega (arith, below, index, ready.long)) (placed ∙ sym long) own
    (λ node kept. on_inputs (IsPlaced nodes positions) node.keeps (λ i c. next_inputs limit lists positions order nodes k list d ready opened.order_is here there i (subst (λ xs. Contains xs i) (ap inputs kept ∙ needs) c)))
    (subst Inward (sym own) (sound_inward s ready.sound list))
    (subst (λ m. take (suc m) order ≡ take m order ++ list ∷ []) (sym long) (take_next order k list here)) in
    subst (λ m. AreOpened limit s positions order (suc m) after) long result

le_yes : (x y : ℕ) → x ≤ y → nat_le x y ≡ true
le_yes x y h = le-leb x y h

le_no : (x y : ℕ) → y < x → nat_le x y ≡ false
le_no x y h = lt-leb x y h

-- the first list that is too long
abbrev choose : Table → ℕ → List ℕ → ℕ → Bool → Option Reply
choose t limit ys y b = if b then first_longer limit t ys else Some (reply.TooLong y (length (shows_in t y)))

pub longer_at : (limit : ℕ) (t : Table) (xs : List ℕ) (k x : ℕ) → slice_get xs k ≡ Some x → ((y : ℕ) → Contains (take k xs) y → length (shows_in t y) ≤ limit)
    → limit < length (shows_in t x) → first_longer limit t xs ≡ Some (reply.TooLong x (length (shows_in t x)))
longer_at limit t [] k x e few more = absurd cc
longer_at limit t (y ∷ ys) zero x e few more =
    let same : y ≡ x = cc in
    subst (λ z. first_longer limit t (y ∷ ys) ≡ Some (reply.TooLong z (length (shows_in t z)))) same
    (ap (choose t limit ys y) (le_no (length (shows_in t y)) limit (subst (λ z. limit < length (shows_in t z)) (sym same) more)))
longer_at limit t (y ∷ ys) (suc k) x e few more =
    ap (choose t limit ys y) (le_yes (length (shows_in t y)) limit (few y (Contains-here y (take k ys) y refl)))
    ∙ longer_at limit t ys k x e (λ z c. few z (Contains-later y (take k ys) z c)) more

opened_few : (limit : ℕ) (lists : List ListDecl) (positions order : List ℕ) (nodes : List Node) (k : ℕ) → AreReady limit lists positions order
    → AreOpened limit (opened_lists lists) positions order k nodes → (list : ℕ) → Contains (take k order) list → length (shown (opened_lists lists) list) ≤ limit
opened_few limit lists positions order nodes k ready opened list c =
    let placed = prefix_placed limit lists positions order nodes k list ready opened.order_is c in
    let h = node_of nodes (slice_index positions list) list placed.there in
    let few : length (shown_by nodes positions list) ≤ limit = subst (λ l. length (shown_by nodes positions l) ≤ limit) h.same (opened.within (slice_index positions list) h.node h.is) in
    subst (λ xs. length xs ≤ limit) (opened_shows limit lists positions order nodes k list ready opened placed) few

pub next_reason : (limit : ℕ) (lists : List ListDecl) (positions order : List ℕ) (nodes : List Node) (k list : ℕ) (d : ListDecl) (fault : BuildFault) → AreReady limit lists positions order
    → AreOpened limit (opened_lists lists) positions order k nodes → slice_get order k ≡ Some list → slice_get lists list ≡ Some d
    → IsFault limit list (length (shown_of (opening_of (shown_by nodes positions) d.kind) (shown_by nodes positions))) fault → IsReason limit (opened_lists lists) fault
next_reason limit lists positions order nodes k list d Memory ready opened here there fault = tt
next_reason limit lists positions order nodes k list d (TooLong number n) ready opened here there fault =
    let s : State = opened_lists lists in
    let shows : ℕ → List Tree = shown_by nodes positions in
    let inward = sound_inward s ready.sound in
    let within : list < length lists = next_within limit lists positions order k list ready here in
    let own : opening_of shows d.kind ≡ own_at s list = next_own limit lists positions order nodes k list d ready opened here there in
    let through : shown_of (own_at s list) shows ≡ shown_of (own_at s list) (shown s) =
    shown_local (own_at s list) (inward list) shows (shown s) (λ i c. opened_shows limit lists positions order nodes k i ready opened
    (next_inputs limit lists positions order nodes k list d ready opened.order_is here there i (subst (λ xs. Contains xs i) (inputs_opened lists list d there) c))) in
    let same : shown_of (opening_of shows d.kind) shows ≡ shown s list =
    ap (λ o. shown_of o shows) own ∙ (through ∙ sym (shown_in s ready.sound.ordered inward list (omega (arith, within, long_opened lists)))) in
    let more : limit < length (shown s list) = subst (λ xs. limit < length xs) same fault.2 in
    let long : n ≡ length (shown s list) = fault.1 ∙ ap length same in
    ap (first_longer limit (table_of s)) (sym ready.order_is)
    ∙ (longer_at limit (table_of s) order k list here (opened_few limit lists positions order nodes k ready opened) more
    ∙ (ap (λ m. Some (reply.TooLong list m)) (sym long) ∙ ap (λ l. Some (reply.TooLong l n)) (sym fault.0)))

pub same_state : (s t : State) → length s ≡ length t → ((k : ℕ) → k < length t → own_at s k ≡ own_at t k) → s ≡ t
same_state [] [] e f = refl
same_state [] (u ∷ t) e f = absurd (omega (arith, e))
same_state (o ∷ s) [] e f = absurd (omega (arith, e))
same_state (o ∷ s) (u ∷ t) e f =
    let head : o ≡ u = f 0 (omega arith) in
    let tail : s ≡ t = same_state s t (omega (arith, e)) (λ k h. f (suc k) (omega (arith, h))) in
    ap (λ x. x ∷ s) head ∙ ap (λ xs. u ∷ xs) tail

-- once all are open they are a graph
pub all_open : (limit : ℕ) (lists : List ListDecl) (positions order : List ℕ) (nodes : List Node) → AreReady limit lists positions order
    → AreOpened limit (opened_lists lists) positions order (length order) nodes → AreOpen limit lists nodes positions
all_open limit lists positions order nodes ready opened = record {
  state_is = state_is;
  few = few;
  graph = record {
    few_lists = omega (arith, ready.long, ready.few_lists);
    few = ready.few;
    placed = λ list within. placed list (omega (arith, within, ready.long));
    sound = subst IsSound (sym state_is) ready.sound;
    order = ap dependency_order state_is ∙ (sym ready.order_is ∙ sym numbers_are);
    settled = opened.settled;
    limited = opened.limited;
    within = ap (too_long limit) state_is ∙ few;
  };
}
  where
    s : State
    s = opened_lists lists

    numbers_are : numbers nodes ≡ order
    numbers_are = opened.order_is ∙ take_all order

    member : (list : ℕ) → list < length lists → Contains (take (length order) order) list
    member list within =
        subst (λ xs. Contains xs list) (sym (take_all order)) (Contains-order (length lists) (edges_of s) order (order_of limit lists positions order ready) list within)

    placed : (list : ℕ) → list < length lists → IsPlaced nodes positions list
    placed list within = prefix_placed limit lists positions order nodes (length order) list ready opened.order_is (member list within)

    long : length (state_of nodes positions) ≡ length s
    long = length-map-range_with_len (own_in nodes positions) 0 (length positions) ∙ (ready.long ∙ sym (long_opened lists))

    same : (list : ℕ) → list < length s → own_at (state_of nodes positions) list ≡ own_at s list
    same list within =
        let low : list < length lists = omega (arith, within, long_opened lists) in
        let h = node_of nodes (slice_index positions list) list (placed list low).there in
        own_at_state nodes positions list (omega (arith, low, ready.long))
        ∙ (ap own_of_node h.is ∙ (opened.own (slice_index positions list) h.node h.is ∙ ap (own_at s) h.same))

    state_is : state_of nodes positions ≡ s
    state_is = same_state (state_of nodes positions) s long same

    few : too_long limit s ≡ None
    few = few_shown limit (table_of s) (dependency_order s) (λ y c. opened_few limit lists positions order nodes (length order) ready opened y
        (subst (λ xs. Contains xs y) (sym (take_all order)) (subst (λ xs. Contains xs y) (sym ready.order_is) c)))
