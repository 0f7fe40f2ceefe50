-- A graph in which one proxy has more room in its queue, or one delta more: it shows what it did.
use Rattle.std.proofs.Common.{◌≡◌, ◌≢◌, ◌∙◌, ◌⊎◌, ℕ, zero, suc, ◌<◌, ◌≤◌, Bool, true, false, List, [], ◌∷◌, length, refl, ap, sym, subst, arith, inl, inr, eqb}
use Rattle.std.specs.Prelude.{Option, Some, None, Result, Ok, Err, OnOk, unwrap_or, slice_get, slice_set, slice_index, slice_index_or}
use Rattle.std.proofs.lemmas.Bool.{eqb-true, eqb-false, cases_lt}
use Rattle.std.proofs.lemmas.Option.{get_or_from_slice_get}
use Rattle.spec_states.specs.Tree.{Tree}
use Rattle.spec_states.specs.Delta.{Delta}
use Rattle.spec_states.specs.State.{Own, State, source, over, composite, transaction, freezable, proxy, inputs, own_at, edges_of, dependency_order}
use Rattle.spec_states.specs.Shown.{shown_of, shows_in, settled, nothing_shown, table_of, shown}
use Rattle.spec_states.specs.Step.{first_longer}
use Rattle.spec_states.specs.Laws.{LedTo, since_frozen, IsSource, Fits}
use Rattle.spec_states.proofs.Views.{own_past}
use Rattle.gl_graph.specs.declared.node.Node.{Node}
use Rattle.gl_graph.specs.declared.keeps.Keeps.{Keeps}
use Rattle.gl_graph.specs.declared.keeps.Keeps.TheVariants.{Source, Over, Composite, Held, Proxy}
use Rattle.gl_graph.specs.Nodes.{own_of, own_of_node, numbers, state_of, shown_by, IsPlaced, AreInTurn, StandsFor}
use Rattle.gl_graph.specs.Graph.{IsLimited, IsGraph}
use Rattle.gl_graph.specs.Room.{IsNoMore}
use Rattle.gl_graph.specs.Undos as keeps
use Rattle.gl_graph.specs.Waves.{Contents, contents, contents_of, HaveRoomOf}
use Rattle.gl_graph.specs.Spread.{IsCopy, IsSetAt}
use Rattle.gl_graph.specs.Queues.{IsProxy, LeadsOn, with_one_queued, CanQueue, CanQueueAt, CanQueueIn, IsProxyAt, LeadsOnAt, IsReserved, IsReservedAt, IsQueuedAt}
use Rattle.gl_graph.proofs.NoMore.{no_more}
use Rattle.gl_graph.proofs.AlikeStates.{AreAlike, same_nothing, same_edges, same_order, same_settled, same_table}
use Rattle.gl_graph.proofs.Copies.{is_copy, copy_among, copy_stands, copy_limited}
use Rattle.gl_graph.proofs.Starts.{same_state}
use Rattle.gl_graph.proofs.Inputs.{own_at_state, long_state, stands_local}
use Rattle.gl_graph.proofs.Shown.{order_of_settled}
use Rattle.gl_graph.proofs.Prefixes.{node_of}
use Rattle.gl_graph.proofs.Sets.{set_here, set_there, set_long, set_numbers, set_order}

-- ---- proxies

none_own : (list : ℕ) (s : State) → length s ≤ list → IsProxy (own_at s list) → ⊥
none_own list s past h = subst IsProxy (own_past s list past) h

-- a proxy of the state is one of its lists
pub proxy_within : (nodes : List Node) (positions : List ℕ) (list : ℕ) → IsProxy (own_at (state_of nodes positions) list) → list < length positions
proxy_within nodes positions list h = elim (cases_lt list (length positions)) [
  | inl within ↦ within
  | inr past ↦ absurd (none_own list (state_of nodes positions) (omega (arith, past, long_state nodes positions)) h)
]

leads_proxy : (d : Delta) (own : Own) → LeadsOn d own → IsProxy own
leads_proxy d (proxy input kept queue) h = tt
leads_proxy d (source contents) h = absurd h
leads_proxy d (over input view) h = absurd h
leads_proxy d (composite needed members) h = absurd h
leads_proxy d (transaction input levels) h = absurd h
leads_proxy d (freezable input since) h = absurd h

pub leads_within : (nodes : List Node) (positions : List ℕ) (list : ℕ) (d : Delta) → LeadsOn d (own_at (state_of nodes positions) list) → list < length positions
leads_within nodes positions list d h = proxy_within nodes positions list (leads_proxy d (own_at (state_of nodes positions) list) h)

-- the node of a list
pub record IsNodeFor (nodes : List Node) (positions : List ℕ) (list : ℕ) : Type 0 where
  pub node : Node
  pub there : slice_get nodes (slice_index positions list) ≡ Some node
  pub own : own_at (state_of nodes positions) list ≡ own_of node.keeps

pub node_for : (limit : ℕ) (nodes : List Node) (positions : List ℕ) (list : ℕ) → IsGraph limit nodes positions → list < length positions → IsNodeFor nodes positions list
node_for limit nodes positions list graph within =
    let n = node_of nodes (slice_index positions list) list (graph.placed list within).there in
    record { node = n.node; there = n.is; own = own_at_state nodes positions list within ∙ ap own_of_node n.is }

pub proxy_at : (limit : ℕ) (nodes : List Node) (positions : List ℕ) (list : ℕ) → IsGraph limit nodes positions → IsProxy (own_at (state_of nodes positions) list) → IsProxyAt (slice_index positions list) nodes
proxy_at limit nodes positions list graph h =
    let n = node_for limit nodes positions list graph (proxy_within nodes positions list h) in
    record { node = n.node; there = n.there; proxy = subst IsProxy n.own h }

pub leads_at : (limit : ℕ) (nodes : List Node) (positions : List ℕ) (list : ℕ) (d : Delta) → IsGraph limit nodes positions → LeadsOn d (own_at (state_of nodes positions) list)
    → LeadsOnAt d (slice_index positions list) nodes
leads_at limit nodes positions list d graph h =
    let n = node_for limit nodes positions list graph (leads_within nodes positions list d h) in
    record { node = n.node; there = n.there; leads = subst (LeadsOn d) n.own h }

pub room_in : (position : ℕ) (nodes : List Node) → CanQueueAt (slice_get nodes position) → CanQueueIn position nodes
room_in position nodes h = by_node (slice_get nodes position) refl h
  where
    by_node : (o : Option Node) → slice_get nodes position ≡ o → CanQueueAt o → CanQueueIn position nodes
    by_node None e h = absurd h
    by_node (Some node) e h = record { node = node; there = e; can = h }

pub room_at : (position : ℕ) (nodes : List Node) → CanQueueIn position nodes → CanQueueAt (slice_get nodes position)
room_at position nodes h = subst CanQueueAt (sym h.there) h.can

-- ---- the node that is changed

pub can_there : {X E : Type 0} (nodes : List Node) (position : ℕ) (first : Node) (new : Keeps) (h : IsProxyAt position nodes) (r : Result X E) → OnOk r (CanQueue new)
    → OnOk r (CanQueueIn position (slice_set nodes position (record { list = first.list; keeps = new })))
can_there nodes position first new h (Ok x) can =
    record { node = record { list = first.list; keeps = new }; there = set_here nodes position h.node (record { list = first.list; keeps = new }) h.there; can = can }
can_there nodes position first new h (Err e) can = tt

first_is : (d : Node) (nodes : List Node) (position : ℕ) (first was : Node) → slice_get nodes position ≡ Some was → first ≡ slice_index_or nodes position d → first ≡ was
first_is d nodes position first was there value = value ∙ get_or_from_slice_get nodes position was d there

pub reserved_there : (d : Node) (nodes : List Node) (position : ℕ) (first : Node) (new : Keeps) (h : IsProxyAt position nodes) → first ≡ slice_index_or nodes position d → IsReserved first.keeps new
    → IsReservedAt position nodes (slice_set nodes position (record { list = first.list; keeps = new }))
reserved_there d nodes position first new h value reserved =
    let same : first ≡ h.node = first_is d nodes position first h.node h.there value in
    record {
      was = h.node;
      now = record { list = first.list; keeps = new };
      set = record { there = h.there; is = refl; list = ap (λ (n : Node). n.list) same };
      reserved = subst (λ (n : Node). IsReserved n.keeps new) same reserved;
    }

-- ---- more room

queue_more : (old new : Keeps) → IsReserved old new → CanQueue old → CanQueue new
queue_more (Proxy input p) (Proxy other q) h can =
    let same : p.queue ≡ q.queue = cc_queue h.same in
    let most : p.queue_room ≤ q.queue_room = h.room.members in
    omega (arith, can, ap length same, most)
  where
    cc_queue : keeps.contents (Proxy other q) ≡ keeps.contents (Proxy input p) → p.queue ≡ q.queue
    cc_queue e = let back : q.queue ≡ p.queue = cc in sym back
queue_more (Proxy input p) (Source k) h can = absurd (let e = h.same in cc)
queue_more (Proxy input p) (Over other d) h can = absurd (let e = h.same in cc)
queue_more (Proxy input p) (Composite needed k) h can = absurd (let e = h.same in cc)
queue_more (Proxy input p) (Held other held) h can = absurd (let e = h.same in cc)
queue_more (Source k) new h can = absurd can
queue_more (Over input d) new h can = absurd can
queue_more (Composite needed k) new h can = absurd can
queue_more (Held input held) new h can = absurd can

reserved_contents : (nodes : List Node) (q : ℕ) (was now : Node) → slice_get nodes q ≡ Some was → keeps.contents now.keeps ≡ keeps.contents was.keeps → contents_of (slice_set nodes q now) ≡ contents_of nodes
reserved_contents [] q was now e same = refl
reserved_contents (n ∷ nodes) zero was now e same =
    let is : n ≡ was = cc in
    ap (λ c. c ∷ contents_of nodes) (same ∙ ap (λ (m : Node). keeps.contents m.keeps) (sym is))
reserved_contents (n ∷ nodes) (suc q) was now e same = ap (λ cs. keeps.contents n.keeps ∷ cs) (reserved_contents nodes q was now e same)

-- the node at a place is the one that was put there, or what it was
at_place : (old new : List Node) (q p : ℕ) (was now : Node) → IsSetAt q old new was now
    → ((p ≡ q) × (slice_get new p ≡ Some now)) ⊎ ((p ≢ q) × (slice_get new p ≡ slice_get old p))
at_place old new q p was now set = by_place (eqb p q) refl
  where
    by_place : (t : Bool) → eqb p q ≡ t → ((p ≡ q) × (slice_get new p ≡ Some now)) ⊎ ((p ≢ q) × (slice_get new p ≡ slice_get old p))
    by_place true e =
        let same : p ≡ q = eqb-true p q e in
        inl (same, ap (λ ns. slice_get ns p) set.is ∙ (ap (slice_get (slice_set old q now)) same ∙ set_here old q was now set.there))
    by_place false e =
        let other : p ≢ q = eqb-false p q e in
        inr (other, ap (λ ns. slice_get ns p) set.is ∙ set_there old q p now other)

same_node : {x y : Node} {o : Option Node} → o ≡ Some x → o ≡ Some y → x ≡ y
same_node {x} {y} e f = let both : Some x ≡ Some y = sym e ∙ f in cc

was_here : (old : List Node) (q p : ℕ) (was : Node) → slice_get old q ≡ Some was → p ≡ q → slice_get old p ≡ Some was
was_here old q p was e same = ap (slice_get old) same ∙ e

pub record IsRoomier (old new : List Node) : Type 0 where
  pub numbers_are : numbers new ≡ numbers old
  pub contents_are : contents_of new ≡ contents_of old
  pub room : HaveRoomOf old new
  pub others : (p : ℕ) → CanQueueAt (slice_get old p) → CanQueueAt (slice_get new p)

pub roomier : (position : ℕ) (old new : List Node) → IsReservedAt position old new → IsRoomier old new
roomier position old new h = record {
  numbers_are = ap numbers h.set.is ∙ set_numbers old position h.was h.now h.set.there h.set.list;
  contents_are = ap contents_of h.set.is ∙ reserved_contents old position h.was h.now h.set.there h.reserved.same;
  room = λ p a b at_old at_new. elim (at_place old new position p h.was h.now h.set) [
    | inl here ↦
        let first : h.was ≡ a = same_node (was_here old position p h.was h.set.there here.0) at_old in
        let last : h.now ≡ b = same_node here.1 at_new in
        subst (λ (n : Node). IsNoMore (keeps.room_of a.keeps) (keeps.room_of n.keeps)) last
        (subst (λ (n : Node). IsNoMore (keeps.room_of n.keeps) (keeps.room_of h.now.keeps)) first h.reserved.room)
    | inr there ↦
        subst (λ (n : Node). IsNoMore (keeps.room_of a.keeps) (keeps.room_of n.keeps)) (same_node (there.1 ∙ at_old) at_new) (no_more (keeps.room_of a.keeps))
  ];
  others = λ p can. elim (at_place old new position p h.was h.now h.set) [
    | inl here ↦
        let at : CanQueueAt (Some h.was) = subst CanQueueAt (was_here old position p h.was h.set.there here.0) can in
        subst CanQueueAt (sym here.1) (queue_more h.was.keeps h.now.keeps h.reserved at)
    | inr there ↦ subst CanQueueAt (sym there.1) can
  ];
}

-- the graph with it has the same contents
pub roomy_contents : (limit : ℕ) (positions : List ℕ) (old new : List Node) → IsRoomier old new
    → contents (record { limit = limit; nodes = new; positions = positions }) ≡ contents (record { limit = limit; nodes = old; positions = positions })
roomy_contents limit positions old new h =
    ap (λ ns. made_of ns (contents_of new)) h.numbers_are ∙ ap (made_of (numbers old)) h.contents_are
  where
    made_of : List ℕ → List keeps.Contents → Contents
    made_of ns ks = record { limit = limit; numbers = ns; lists = ks; positions = positions }

-- ---- one delta more

queued_inputs : (d : Delta) (own : Own) → inputs (with_one_queued d own) ≡ inputs own
queued_inputs d (proxy input kept queue) = refl
queued_inputs d (source contents) = refl
queued_inputs d (over input view) = refl
queued_inputs d (composite needed members) = refl
queued_inputs d (transaction input levels) = refl
queued_inputs d (freezable input since) = refl

queued_shown : (d : Delta) (own : Own) (f : ℕ → List Tree) → shown_of (with_one_queued d own) f ≡ shown_of own f
queued_shown d (proxy input kept queue) f = refl
queued_shown d (source contents) f = refl
queued_shown d (over input view) f = refl
queued_shown d (composite needed members) f = refl
queued_shown d (transaction input levels) f = refl
queued_shown d (freezable input since) f = refl

queued_fits : (t : State) (d : Delta) (own : Own) → LeadsOn d own → Fits t (with_one_queued d own)
queued_fits t d (proxy input kept queue) h = h
queued_fits t d (source contents) h = absurd h
queued_fits t d (over input view) h = absurd h
queued_fits t d (composite needed members) h = absurd h
queued_fits t d (transaction input levels) h = absurd h
queued_fits t d (freezable input since) h = absurd h

queued_proxy : (d : Delta) (own : Own) → IsProxy own → IsProxy (with_one_queued d own)
queued_proxy d (proxy input kept queue) h = tt
queued_proxy d (source contents) h = absurd h
queued_proxy d (over input view) h = absurd h
queued_proxy d (composite needed members) h = absurd h
queued_proxy d (transaction input levels) h = absurd h
queued_proxy d (freezable input since) h = absurd h

no_source : (own : Own) → IsProxy own → IsSource own → ⊥
no_source (proxy input kept queue) h is = is
no_source (source contents) h is = h
no_source (over input view) h is = h
no_source (composite needed members) h is = h
no_source (transaction input levels) h is = h
no_source (freezable input since) h is = h

fits_still : (s t : State) (own : Own) → ((i : ℕ) → shown t i ≡ shown s i) → ((i : ℕ) → IsSource (own_at s i) → IsSource (own_at t i)) → Fits s own → Fits t own
fits_still s t (source contents) same sources h = tt
fits_still s t (over input view) same sources h = tt
fits_still s t (composite needed members) same sources h = h
fits_still s t (transaction input levels) same sources h = (sources input h.0, subst (LedTo levels) (sym (same input)) h.1)
fits_still s t (freezable input since) same sources h = subst (LedTo (since_frozen since)) (sym (same input)) h
fits_still s t (proxy input kept queue) same sources h = h

-- the graph with it
pub record IsLonger (limit : ℕ) (positions : List ℕ) (list : ℕ) (d : Delta) (old new : List Node) : Type 0 where
  pub graph : IsGraph limit new positions
  pub state : state_of new positions ≡ slice_set (state_of old positions) list (with_one_queued d (own_at (state_of old positions) list))
  pub others : (other : ℕ) → other < length positions → other ≢ list → slice_get new (slice_index positions other) ≡ slice_get old (slice_index positions other)

pub longer : (limit : ℕ) (positions : List ℕ) (list : ℕ) (d : Delta) (old new : List Node) → IsGraph limit old positions → LeadsOn d (own_at (state_of old positions) list)
    → IsQueuedAt d (slice_index positions list) old new → IsLonger limit positions list d old new
longer limit positions list d old new graph leads h = record {
  graph = record {
    few_lists = graph.few_lists;
    few = graph.few;
    placed = placed;
    sound = record {
      ordered = record { within = rw (alike.long, edges) graph.sound.ordered.within; acyclic = rw edges graph.sound.ordered.acyclic };
      fits = fits;
    };
    order = same_order s t alike ∙ (graph.order ∙ sym numbers_are);
    settled = λ p n at. record {
      turn = dependency_order_new p n at;
      stands = stands p n at;
      few = few p n at;
    };
    limited = λ p n at. elim (at_place old new position p h.was h.now h.set) [
      | inl here ↦ subst (λ (m : Node). IsLimited limit m.keeps) (same_node here.1 at) (copy_limited limit h.now.keeps copy)
      | inr there ↦ graph.limited p n (sym there.1 ∙ at)
    ];
    within = ap (λ u. first_longer limit u (dependency_order t)) (same_table s t alike) ∙ (ap (first_longer limit (table_of s)) (same_order s t alike) ∙ graph.within);
  };
  state = same_state t (slice_set s list (with_one_queued d (own_at s list))) (alike.long ∙ sym (set_long s list (with_one_queued d (own_at s list)))) (λ k within. elim (own_cases k) [
    | inl here ↦ here.1 ∙ sym (set_own_here k here.0)
    | inr there ↦ there.1 ∙ sym (ap (λ o. unwrap_or o (source [])) (set_there s list k (with_one_queued d (own_at s list)) there.0))
  ]);
  others = λ other within apart. elim (at_place old new position (slice_index positions other) h.was h.now h.set) [
    | inl here ↦ absurd (apart (same_place other within here.0))
    | inr there ↦ there.1
  ];
}
  where
    position : ℕ
    position = slice_index positions list

    s : State
    s = state_of old positions

    t : State
    t = state_of new positions

    list_within : list < length positions
    list_within = leads_within old positions list d leads

    at_list : IsNodeFor old positions list
    at_list = node_for limit old positions list graph list_within

    was_own : own_at s list ≡ own_of h.was.keeps
    was_own = at_list.own ∙ ap (λ (n : Node). own_of n.keeps) (same_node at_list.there h.set.there)

    now_own : own_of h.now.keeps ≡ with_one_queued d (own_at s list)
    now_own = h.own ∙ ap (with_one_queued d) (sym was_own)

    copy : IsCopy h.now.keeps
    copy = is_copy h.now.keeps (subst IsProxy (sym now_own) (queued_proxy d (own_at s list) (leads_proxy d (own_at s list) leads)))

    numbers_are : numbers new ≡ numbers old
    numbers_are = ap numbers h.set.is ∙ set_numbers old position h.was h.now h.set.there h.set.list

    placed : (k : ℕ) → k < length positions → IsPlaced new positions k
    placed k within = record { within = within; there = subst (λ ns. slice_get ns (slice_index positions k) ≡ Some k) (sym numbers_are) (graph.placed k within).there }

    same_place : (k : ℕ) → k < length positions → slice_index positions k ≡ position → k ≡ list
    same_place k within e =
        let here : slice_get (numbers old) position ≡ Some k = ap (slice_get (numbers old)) (sym e) ∙ (graph.placed k within).there in
        let both : Some k ≡ Some list = sym here ∙ (graph.placed list list_within).there in
        cc

    own_cases : (k : ℕ) → ((k ≡ list) × (own_at t k ≡ with_one_queued d (own_at s list))) ⊎ ((k ≢ list) × (own_at t k ≡ own_at s k))
    own_cases k = elim (cases_lt k (length positions)) [
      | inl within ↦ elim (at_place old new position (slice_index positions k) h.was h.now h.set) [
        | inl here ↦ inl (same_place k within here.0, own_at_state new positions k within ∙ (ap own_of_node here.1 ∙ now_own))
        | inr there ↦ inr ((λ e. there.0 (ap (slice_index positions) e)), own_at_state new positions k within ∙ (ap own_of_node there.1 ∙ sym (own_at_state old positions k within)))
      ]
      | inr past ↦ inr ((λ e. omega (arith, past, e, list_within)), own_past t k (omega (arith, past, long_state new positions)) ∙ sym (own_past s k (omega (arith, past, long_state old positions))))
    ]

    alike : AreAlike s t
    alike = record {
      long = long_state new positions ∙ sym (long_state old positions);
      inputs_are = λ k. elim (own_cases k) [
        | inl here ↦ ap inputs here.1 ∙ (queued_inputs d (own_at s list) ∙ ap (λ i. inputs (own_at s i)) (sym here.0))
        | inr there ↦ ap inputs there.1
      ];
      shows = λ k f. elim (own_cases k) [
        | inl here ↦ ap (λ o. shown_of o f) here.1 ∙ (queued_shown d (own_at s list) f ∙ ap (λ i. shown_of (own_at s i) f) (sym here.0))
        | inr there ↦ ap (λ o. shown_of o f) there.1
      ];
    }

    edges : edges_of t ≡ edges_of s
    edges = same_edges s t alike

    shows : (k : ℕ) → shown t k ≡ shown s k
    shows k = ap (λ u. shows_in u k) (same_table s t alike)

    shows_by : (k : ℕ) → shown_by new positions k ≡ shown_by old positions k
    shows_by k =
        ap (λ u. shows_in (settled t u (numbers new)) k) (same_nothing s t alike.long)
        ∙ (ap (λ ns. shows_in (settled t (nothing_shown s) ns) k) numbers_are
        ∙ ap (λ u. shows_in u k) (same_settled s t (nothing_shown s) (numbers old) alike))

    sources : (i : ℕ) → IsSource (own_at s i) → IsSource (own_at t i)
    sources i is = elim (own_cases i) [
      | inl here ↦ absurd (no_source (own_at s list) (leads_proxy d (own_at s list) leads) (subst (λ k. IsSource (own_at s k)) here.0 is))
      | inr there ↦ subst IsSource (sym there.1) is
    ]

    fits : (k : ℕ) → k < length t → Fits t (own_at t k)
    fits k within = elim (own_cases k) [
      | inl here ↦ subst (Fits t) (sym here.1) (queued_fits t d (own_at s list) leads)
      | inr there ↦ subst (Fits t) (sym there.1) (fits_still s t (own_at s k) shows sources (graph.sound.fits k (omega (arith, within, alike.long))))
    ]

    set_own_here : (k : ℕ) → k ≡ list → own_at (slice_set s list (with_one_queued d (own_at s list))) k ≡ with_one_queued d (own_at s list)
    set_own_here k e =
        ap (own_at (slice_set s list (with_one_queued d (own_at s list)))) e
        ∙ set_own s list (with_one_queued d (own_at s list)) (let low : list < length positions = list_within in omega (arith, low, long_state old positions))
      where
        set_own : (u : State) (i : ℕ) (own : Own) → i < length u → own_at (slice_set u i own) i ≡ own
        set_own [] i own low = absurd (omega (arith, low))
        set_own (o ∷ u) zero own low = refl
        set_own (o ∷ u) (suc i) own low = set_own u i own (omega (arith, low))

    dependency_order_new : AreInTurn new positions
    dependency_order_new =
        set_order old new positions position h.was h.now h.set
        (ap inputs now_own ∙ (queued_inputs d (own_at s list) ∙ ap inputs was_own)) (copy_among h.now.keeps copy) (order_of_settled old positions graph.settled)

    stands : (p : ℕ) (n : Node) → slice_get new p ≡ Some n → StandsFor n.keeps (shown_by new positions)
    stands p n at = elim (at_place old new position p h.was h.now h.set) [
      | inl here ↦ subst (λ (m : Node). StandsFor m.keeps (shown_by new positions)) (same_node here.1 at) (copy_stands h.now.keeps (shown_by new positions) copy)
      | inr there ↦
          stands_local n.keeps (shown_by old positions) (shown_by new positions) (graph.settled p n (sym there.1 ∙ at)).turn.among
          (λ i c. sym (shows_by i)) (graph.settled p n (sym there.1 ∙ at)).stands
    ]

    few : (p : ℕ) (n : Node) → slice_get new p ≡ Some n → length (shown_by new positions n.list) ≤ 2147483647
    few p n at = elim (at_place old new position p h.was h.now h.set) [
      | inl here ↦
          subst (λ (m : Node). length (shown_by new positions m.list) ≤ 2147483647) (same_node here.1 at)
          (subst (λ xs. length xs ≤ 2147483647) (ap (shown_by old positions) (sym h.set.list) ∙ sym (shows_by h.now.list))
          (graph.settled p h.was (was_here old position p h.was h.set.there here.0)).few)
      | inr there ↦ subst (λ xs. length xs ≤ 2147483647) (sym (shows_by n.list)) (graph.settled p n (sym there.1 ∙ at)).few
    ]
