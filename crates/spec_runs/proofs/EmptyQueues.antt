-- Each proxy is pumped until it has nothing left to take, each after those that it depends on; then no proxy has.
use Rattle.std.proofs.Common.{◌≡◌, ◌≢◌, ◌⊎◌, ◌∙◌, ◌<◌, ◌+◌, ◌-◌, ◌==◌, ◌++◌, ℕ, zero, suc, Bool, true, false, cond, List, [], ◌∷◌, length, fold, replicate, refl, ap, sym, subst, arith, inl, inr, eq-eqb}
use Rattle.std.specs.Prelude.{Some, None, option_map, slice_get}
use Rattle.std.specs.List.{Contains}
use Rattle.std.proofs.lemmas.Bool.{eqb-true, eqb-false, ne_eqb, cases_lt}
use Rattle.std.proofs.lemmas.List.{append_assoc, append-nil}
use Rattle.std.proofs.lemmas.List.Elements.{Contains-append_left, Contains-append_cases}
use Rattle.spec_plans.specs.Order.{IsNext, IsPrefix, IsOrder}
use Rattle.spec_plans.specs.DependencyOrder.{dependency_order}
use Rattle.spec_plans.proofs.Exists.{order_or_cycle}
use Rattle.spec_plans.proofs.Acyclic.{Contains-order}
use Rattle.spec_plans.proofs.Members.{Contains-nil, Contains-cons_cases, Contains-here, Contains-later}
use Rattle.spec_value.specs.Tree.{Tree}
use Rattle.spec_lists.specs.Piece.{identity}
use Rattle.spec_lists.specs.Changes.{changed_len}
use Rattle.spec_lists.specs.Delta.{Delta, no_change}
use Rattle.spec_lists.specs.Leads.{applied}
use Rattle.gl_outside.specs.declared.gate.Actor.{Actor}
use Rattle.gl_outside.specs.declared.gate.Actor.TheVariants.{Proxy}
use Rattle.gl_lines.specs.declared.plan.ListDecl.{ListDecl}
use Rattle.gl_lines.specs.declared.plan.ListKind.{ListKind}
use Rattle.gl_lines.specs.declared.plan.ListKind.TheVariants as kinds
use Rattle.spec_plans.specs.declared.class.ListClass.TheVariants.{Pumped}
use Rattle.spec_plans.specs.Plan.{Plan, sections_of, list_edges, proxies_from, proxies_of}
use Rattle.spec_plans.specs.Cycles.{IsAcyclic}
use Rattle.spec_plans.specs.WellFormed.{class_of_kind, class_at, inputs_at, IsWellFormed}
use Rattle.spec_plans.proofs.Within.{lists_within}
use Rattle.spec_states.specs.State.{Own, State, source, proxy, inputs, own_at}
use Rattle.spec_states.specs.Shown.{shown}
use Rattle.spec_states.specs.Opening.{opening}
use Rattle.spec_states.specs.Wave.{delta_in, pump, wave, wave_deltas}
use Rattle.spec_states.specs.Laws.{IsSound}
use Rattle.spec_states.proofs.DependencyOrder.{by_inputs, input_within}
use Rattle.spec_states.proofs.Views.{own_past}
use Rattle.spec_states.proofs.Quiet.{quiet_told}
use Rattle.spec_runs.specs.Entry.{pumping_of, outcome, with_queued, queued_own}
use Rattle.spec_runs.specs.Run.{run, left_to}
use Rattle.spec_runs.specs.Fits.{Fits, reason_at, reason_of_queue, reason_of_proxy, queue_of}
use Rattle.spec_runs.specs.Kinds.{class_of_own, KeepsKinds}
use Rattle.spec_runs.specs.Closing.{places_of, actors_of, pumped_empty, pumped_list, sections_left, close, ClosingIsWhole}
use Rattle.spec_runs.proofs.Runs.{outcome_after, state_more, taken_more}
use Rattle.spec_runs.proofs.KeptKinds.{inputs_kept, own_at_queued, run_kinds, proxy_kept}
use Rattle.spec_runs.proofs.Suits.{inputs_opening}
use Rattle.spec_runs.proofs.Ordered.{run_sound}
use Rattle.spec_runs.proofs.ToldAfter.{next_at}
use Rattle.spec_runs.proofs.Pumps.{edge, class_in}
use Rattle.spec_runs.proofs.Proxies.{pump_other, pump_self}
use Rattle.spec_runs.proofs.Finish.{fits_first, fits_append, sections_finish}
use Rattle.spec_lists.proofs.ChangeCounts.{changed_len-identity}

-- ---- what a pump leaves

nothing_queued : (n : ℕ) (queue : List Delta) → with_queued (no_change n) queue ≡ queue
nothing_queued n queue =
    ap (λ b. cond b queue (queue ++ no_change n ∷ [])) (eq-eqb (changed_len (identity n)) 0 (changed_len-identity n))

-- lists of a plan with all that they depend on
abbrev pub AreClosed : Plan → List ℕ → Type 0
AreClosed p placed = (j i : ℕ) → Contains placed j → Contains (inputs_at p j) i → Contains placed i

-- such lists aren't told of a pump of none of them
placed_untold : (p : Plan) (s : State) (number : ℕ) (placed : List ℕ) → KeepsKinds (opening p) s
    → IsSound s → AreClosed p placed → ¬ Contains placed number → (k : ℕ) → k < length s
    → Contains placed k → delta_in (wave_deltas s (pump number)) k ≡ no_change (length (shown s k))
placed_untold p s number placed keeps sound closed apart k within there =
    by_inputs s sound.ordered (λ j. Contains placed j → Untold j) (λ j low others c.
    quiet_told s (pump number) j sound low (ne_eqb j number (λ same. apart (subst (Contains placed) same c)))
    (λ i d. others i d (closed j i c (subst (λ xs. Contains xs i)
    (inputs_kept (opening p) s keeps j ∙ inputs_opening p j) d)))) k within there
  where
    Untold : ℕ → Type 0
    Untold j = delta_in (wave_deltas s (pump number)) j ≡ no_change (length (shown s j))

-- ---- one pump after an order

-- the kinds of lists are the same after any two orders
same_kinds : (p : Plan) (o u : List Actor) → KeepsKinds (run p o).state (run p u).state
same_kinds p o u =
    let was = run_kinds p o in
    let now = run_kinds p u in
    record { long = now.long ∙ sym was.long; kinds = λ list. now.kinds list ∙ sym (was.kinds list) }

-- what a list keeps once a proxy was pumped
after_pump : (p : Plan) (o : List Actor) (n k i : ℕ) → slice_get (proxies_of p) n ≡ Some k
    → own_at (run p (o ++ Proxy n ∷ [])).state i
    ≡ queued_own (delta_in (wave_deltas (run p o).state (pump k))) (own_at (wave (run p o).state (pump k)) i)
after_pump p o n k i at_n =
    let s : State = (run p o).state in
    ap (λ u. own_at u i) (state_more p o (Proxy n))
    ∙ own_at_queued (outcome_after p o (Proxy n)).deltas (outcome_after p o (Proxy n)).state i
    ∙ ap (λ q. queued_own (delta_in (outcome p.limit s (pumping_of q)).deltas)
    (own_at (outcome p.limit s (pumping_of q)).state i)) at_n

-- a list either is a proxy or has nothing to take
record IsQueue (own : Own) : Type 0 where
  input : ℕ
  kept : List Tree
  queue : List Delta
  is : own ≡ proxy input kept queue

queue_or_none : (own : Own) → (queue_of own ≡ []) ⊎ IsQueue own
queue_or_none (proxy input kept queue) = inr (record { input = input; kept = kept; queue = queue; is = refl })
queue_or_none other = inl refl

proxy_within : (s : State) (list input : ℕ) (kept : List Tree) (queue : List Delta)
    → own_at s list ≡ proxy input kept queue → list < length s
proxy_within s list input kept queue e = elim (cases_lt list (length s)) [
  | inl low ↦ low
  | inr high ↦ let past : own_at s list ≡ source [] = own_past s list (omega (arith, high)) in absurd cc
]

-- the place of a list among the proxies, with what was placed before it
record Turn (p : Plan) (placed : List ℕ) (n k : ℕ) : Type 0 where
  at : slice_get (proxies_of p) n ≡ Some k
  closed : AreClosed p placed
  apart : ¬ Contains placed k
  needed : (i : ℕ) → Contains (inputs_at p k) i → Contains placed i

-- an input of a list that is placed, or of the next one, isn't told of the pump
pump_untold : (p : Plan) (o : List Actor) (placed : List ℕ) (n k j input : ℕ) (kept : List Tree) (queue : List Delta)
    → IsWellFormed p → IsAcyclic p → Turn p placed n k
    → ((i : ℕ) → Contains (inputs_at p j) i → Contains placed i)
    → own_at (run p o).state j ≡ proxy input kept queue
    → delta_in (wave_deltas (run p o).state (pump k)) input
    ≡ no_change (length (shown (run p o).state input))
pump_untold p o placed n k j input kept queue formed free turn below own =
    let s : State = (run p o).state in
    let sound : IsSound s = run_sound p o formed free in
    let among : Contains (inputs (own_at s j)) input =
    subst (λ w. Contains (inputs w) input) (sym own) (Contains-here input [] input refl) in
    let there : Contains placed input =
    below input (subst (λ xs. Contains xs input)
    (inputs_kept (opening p) s (run_kinds p o) j ∙ inputs_opening p j) among) in
    placed_untold p s k placed (run_kinds p o) sound turn.closed turn.apart input
    (input_within s sound.ordered j input among) there

-- what is placed still has nothing to take
placed_stays : (p : Plan) (o : List Actor) (placed : List ℕ) (n k i : ℕ) → IsWellFormed p
    → IsAcyclic p → Turn p placed n k → Contains placed i → queue_of (own_at (run p o).state i) ≡ []
    → queue_of (own_at (run p (o ++ Proxy n ∷ [])).state i) ≡ []
placed_stays p o placed n k i formed free turn there empty =
    by_own (queue_or_none (own_at (run p (o ++ Proxy n ∷ [])).state i))
  where
    s : State
    s = (run p o).state

    by_own : (queue_of (own_at (run p (o ++ Proxy n ∷ [])).state i) ≡ [])
        ⊎ IsQueue (own_at (run p (o ++ Proxy n ∷ [])).state i)
        → queue_of (own_at (run p (o ++ Proxy n ∷ [])).state i) ≡ []
    by_own (inl e) = e
    by_own (inr q) =
        let back = proxy_kept (run p (o ++ Proxy n ∷ [])).state s i q.input q.kept q.queue
        (same_kinds p (o ++ Proxy n ∷ []) o) q.is in
        let none : back.1 ≡ [] = ap queue_of (sym back.2) ∙ empty in
        let own : own_at s i ≡ proxy q.input back.0 [] = back.2 ∙ ap (proxy q.input back.0) none in
        let ne : i ≢ k = λ same. turn.apart (subst (Contains placed) same there) in
        let quiet = pump_untold p o placed n k i q.input back.0 [] formed free turn
        (λ j c. turn.closed i j there c) own in
        ap queue_of (after_pump p o n k i turn.at)
        ∙ ap (λ w. queue_of (queued_own (delta_in (wave_deltas s (pump k))) w))
        (pump_other s i k q.input back.0 [] (proxy_within s i q.input back.0 [] own) ne own)
        ∙ ap (λ d. with_queued d []) quiet ∙ nothing_queued (length (shown s q.input)) []

-- the pumped proxy has one delta less to take
pumped_takes : (p : Plan) (o : List Actor) (placed : List ℕ) (n k input : ℕ) (kept : List Tree) (d : Delta) (queue : List Delta)
    → IsWellFormed p → IsAcyclic p → Turn p placed n k
    → own_at (run p o).state k ≡ proxy input kept (d ∷ queue)
    → own_at (run p (o ++ Proxy n ∷ [])).state k ≡ proxy input (applied d kept) queue
pumped_takes p o placed n k input kept d queue formed free turn own =
    let s : State = (run p o).state in
    after_pump p o n k k turn.at
    ∙ ap (queued_own (delta_in (wave_deltas s (pump k))))
    (pump_self s k input kept d queue (proxy_within s k input kept (d ∷ queue) own) own)
    ∙ ap (λ c. proxy input (applied d kept) (with_queued c queue))
    (pump_untold p o placed n k k input kept (d ∷ queue) formed free turn turn.needed own)
    ∙ ap (proxy input (applied d kept)) (nothing_queued (length (shown s input)) queue)

-- ---- all pumps of a proxy

-- an order that fits, and leaves no section and, of these lists, nothing to take
record Emptied (p : Plan) (o : List Actor) (placed : List ℕ) : Type 0 where
  fits : Fits p o
  sections : (w : ℕ) → w < length p.writers → left_to p w o ≡ 0
  empty : (list : ℕ) → Contains placed list → queue_of (own_at (run p o).state list) ≡ []

one_pump : (p : Plan) (o : List Actor) (placed : List ℕ) (n k input : ℕ) (kept : List Tree) (d : Delta) (queue : List Delta)
    → IsWellFormed p → IsAcyclic p → Turn p placed n k
    → own_at (run p o).state k ≡ proxy input kept (d ∷ queue) → Emptied p o placed
    → Emptied p (o ++ Proxy n ∷ []) placed
one_pump p o placed n k input kept d queue formed free turn own h =
    let may : reason_at p o (Proxy n) ≡ None =
    ap (reason_of_proxy (run p o).state) turn.at ∙ ap (λ w. reason_of_queue (queue_of w)) own in
    record {
      fits = fits_append p [] o (Proxy n ∷ []) h.fits (fits_first p o (Proxy n) [] may refl);
      sections = λ w low.
          ap (λ m. length (sections_of p w) - m) (taken_more w o (Proxy n) ∙ omega arith) ∙ h.sections w low;
      empty = λ list c. placed_stays p o placed n k list formed free turn c (h.empty list c);
    }

all_pumps : (p : Plan) (o : List Actor) (placed : List ℕ) (n k input : ℕ) (kept : List Tree) (queue : List Delta)
    → IsWellFormed p → IsAcyclic p → Turn p placed n k
    → own_at (run p o).state k ≡ proxy input kept queue → Emptied p o placed
    → Emptied p (o ++ replicate (length queue) (Proxy n)) placed
    × (queue_of (own_at (run p (o ++ replicate (length queue) (Proxy n))).state k) ≡ [])
all_pumps p o placed n k input kept [] formed free turn own h =
    let same : o ++ [] ≡ o = append-nil o in (
      subst (λ u. Emptied p u placed) (sym same) h,
      subst (λ u. queue_of (own_at (run p u).state k) ≡ []) (sym same) (ap queue_of own),
    )
all_pumps p o placed n k input kept (d ∷ queue) formed free turn own h =
    let then : List Actor = o ++ Proxy n ∷ [] in
    let rest = all_pumps p then placed n k input (applied d kept) queue formed free turn
    (pumped_takes p o placed n k input kept d queue formed free turn own)
    (one_pump p o placed n k input kept d queue formed free turn own h) in
    let same : then ++ replicate (length queue) (Proxy n) ≡ o ++ Proxy n ∷ replicate (length queue) (Proxy n) =
    append_assoc o (Proxy n ∷ []) (replicate (length queue) (Proxy n)) in (
      subst (λ u. Emptied p u placed) same rest.0,
      subst (λ u. queue_of (own_at (run p u).state k) ≡ []) same rest.1,
    )

-- ---- all lists in turn

-- where a number stands, if it does
place_or_none : (at list : ℕ) (ks : List ℕ)
    → ((places_of at list ks ≡ []) × (¬ Contains ks list))
    ⊎ ((j : ℕ) × (places_of at list ks ≡ (at + j) ∷ []) × (slice_get ks j ≡ Some list))
place_or_none at list [] = inl (refl, Contains-nil list)
place_or_none at list (k ∷ ks) = by_test (k == list) refl (place_or_none (suc at) list ks)
  where
    Found : List ℕ → List ℕ → Type 0
    Found places all = ((places ≡ []) × (¬ Contains all list))
        ⊎ ((j : ℕ) × (places ≡ (at + j) ∷ []) × (slice_get all j ≡ Some list))

    later : (k == list) ≡ false
        → ((places_of (suc at) list ks ≡ []) × (¬ Contains ks list)) ⊎ ((j : ℕ) × (places_of (suc at) list ks ≡ (suc at + j) ∷ []) × (slice_get ks j ≡ Some list))
        → Found (places_of (suc at) list ks) (k ∷ ks)
    later e (inl none) = inl (
      none.0,
      λ c. elim (Contains-cons_cases k ks list c) [
        | inl same ↦ eqb-false k list e same
        | inr there ↦ none.1 there
      ],
    )
    later e (inr found) =
        let more : suc at + found.0 ≡ at + suc found.0 = omega arith in
        inr (suc found.0, found.1 ∙ ap (λ m. m ∷ []) more, found.2)

    by_test : (b : Bool) → (k == list) ≡ b
        → ((places_of (suc at) list ks ≡ []) × (¬ Contains ks list)) ⊎ ((j : ℕ) × (places_of (suc at) list ks ≡ (suc at + j) ∷ []) × (slice_get ks j ≡ Some list))
        → Found (cond b (at ∷ []) (places_of (suc at) list ks)) (k ∷ ks)
    by_test true e others =
        let here : at ≡ at + 0 = omega arith in inr (0, ap (λ m. m ∷ []) here, ap Some (eqb-true k list e))
    by_test false e others = later e others

-- every proxy is among them
proxies_whole : (number : ℕ) (ds : List ListDecl) (k : ℕ)
    → option_map (λ d. class_of_kind d.kind) (slice_get ds k) ≡ Some Pumped
    → Contains (proxies_from number ds) (number + k)
proxies_whole number [] k e = absurd cc
proxies_whole number (d ∷ ds) k e = by_kind d.kind k (λ j there. proxies_whole (suc number) ds j there) e
  where
    by_kind : (kind : ListKind) (k : ℕ)
        → ((j : ℕ) → option_map (λ e. class_of_kind e.kind) (slice_get ds j) ≡ Some Pumped
        → Contains (proxies_from (suc number) ds) (suc number + j))
        → option_map (λ e. class_of_kind e.kind) (slice_get (record { name = d.name; kind = kind } ∷ ds) k) ≡ Some Pumped
        → Contains (proxies_from number (record { name = d.name; kind = kind } ∷ ds)) (number + k)
    by_kind (kinds.Proxy input) zero later e =
        Contains-here number (proxies_from (suc number) ds) (number + 0) (omega arith)
    by_kind (kinds.Proxy input) (suc k) later e =
        let more : suc number + k ≡ number + suc k = omega arith in
        Contains-later number (proxies_from (suc number) ds) (number + suc k)
        (subst (Contains (proxies_from (suc number) ds)) more (later k e))
    by_kind other zero later e = absurd cc
    by_kind other (suc k) later e =
        let more : suc number + k ≡ number + suc k = omega arith in
        subst (Contains (proxies_from (suc number) ds)) more (later k e)

-- a list of a state that is no proxy of the plan has nothing to take
no_queue : (p : Plan) (s : State) (k : ℕ) → KeepsKinds (opening p) s → k < length p.lists
    → ¬ Contains (proxies_of p) k → queue_of (own_at s k) ≡ []
no_queue p s k keeps low none = by_own (own_at s k) refl
  where
    by_own : (own : Own) → own_at s k ≡ own → queue_of own ≡ []
    by_own (proxy input kept queue) e =
        let class : class_at p k ≡ Some Pumped = class_in p s keeps k low ∙ ap (λ o. Some (class_of_own o)) e in
        let zero_first : 0 + k ≡ k = omega arith in
        absurd (none (subst (Contains (proxies_of p)) zero_first (proxies_whole 0 p.lists k class)))
    by_own other e = refl

-- one list more
list_emptied : (p : Plan) (o : List Actor) (placed : List ℕ) (k : ℕ) → IsWellFormed p → IsAcyclic p
    → k < length p.lists → AreClosed p placed → ¬ Contains placed k
    → ((i : ℕ) → Contains (inputs_at p k) i → Contains placed i) → Emptied p o placed
    → Emptied p (pumped_list p o k) (placed ++ k ∷ [])
list_emptied p o placed k formed free low closed apart needed h = by_position (place_or_none 0 k (proxies_of p))
  where
    -- the list has nothing to take either
    with_one : (u : List Actor) → Emptied p u placed → queue_of (own_at (run p u).state k) ≡ []
        → Emptied p u (placed ++ k ∷ [])
    with_one u g none = record {
      fits = g.fits;
      sections = g.sections;
      empty = λ list c. elim (Contains-append_cases placed (k ∷ []) list c) [
        | inl there ↦ g.empty list there
        | inr last ↦ elim (Contains-cons_cases k [] list last) [
          | inl same ↦ subst (λ i. queue_of (own_at (run p u).state i) ≡ []) same none
          | inr nothing ↦ absurd (Contains-nil list nothing)
        ]
      ];
    }

    s : State
    s = (run p o).state

    as_proxy : (n : ℕ) → actors_of p k ≡ n ∷ [] → slice_get (proxies_of p) n ≡ Some k
        → (queue_of (own_at s k) ≡ []) ⊎ IsQueue (own_at s k)
        → Emptied p (fold (pumped_empty p k) o (n ∷ [])) (placed ++ k ∷ [])
    as_proxy n alone at (inl none) =
        let same : o ++ replicate (length (queue_of (own_at s k))) (Proxy n) ≡ o =
        ap (λ q. o ++ replicate (length q) (Proxy n)) none ∙ append-nil o in
        subst (λ u. Emptied p u (placed ++ k ∷ [])) (sym same) (with_one o h none)
    as_proxy n alone at (inr q) =
        let turn : Turn p placed n k = record { at = at; closed = closed; apart = apart; needed = needed } in
        let done = all_pumps p o placed n k q.input q.kept q.queue formed free turn q.is h in
        let many : o ++ replicate (length (queue_of (own_at s k))) (Proxy n)
        ≡ o ++ replicate (length q.queue) (Proxy n) =
        ap (λ own. o ++ replicate (length (queue_of own)) (Proxy n)) q.is in
        subst (λ u. Emptied p u (placed ++ k ∷ [])) (sym many)
        (with_one (o ++ replicate (length q.queue) (Proxy n)) done.0 done.1)

    by_position : ((actors_of p k ≡ []) × (¬ Contains (proxies_of p) k))
        ⊎ ((j : ℕ) × (actors_of p k ≡ (0 + j) ∷ []) × (slice_get (proxies_of p) j ≡ Some k))
        → Emptied p (pumped_list p o k) (placed ++ k ∷ [])
    by_position (inl none) =
        subst (λ ns. Emptied p (fold (pumped_empty p k) o ns) (placed ++ k ∷ [])) (sym none.0)
        (with_one o h (no_queue p s k (run_kinds p o) low none.1))
    by_position (inr found) =
        let first : 0 + found.0 ≡ found.0 = omega arith in
        let alone : actors_of p k ≡ found.0 ∷ [] = found.1 ∙ ap (λ m. m ∷ []) first in
        subst (λ ns. Emptied p (fold (pumped_empty p k) o ns) (placed ++ k ∷ [])) (sym alone)
        (as_proxy found.0 alone found.2 (queue_or_none (own_at s k)))

-- the lists of a plan have an order
lists_ordered : (p : Plan) → IsWellFormed p → IsAcyclic p
    → IsOrder (length p.lists) (list_edges p) (dependency_order (length p.lists) (list_edges p))
lists_ordered p h free = elim (order_or_cycle (length p.lists) (list_edges p) (lists_within p h)) [
  | inl order ↦ order
  | inr cycle ↦ absurd (free.lists cycle)
]

emptied_from : (p : Plan) (o : List Actor) (placed ks : List ℕ) → IsWellFormed p → IsAcyclic p
    → IsPrefix (length p.lists) (list_edges p) (placed ++ ks) → AreClosed p placed
    → Emptied p o placed → Emptied p (fold (pumped_list p) o ks) (placed ++ ks)
emptied_from p o placed [] formed free prefix closed h =
    subst (Emptied p o) (sym (append-nil placed)) h
emptied_from p o placed (k ∷ ks) formed free prefix closed h =
    let next : IsNext (length p.lists) (list_edges p) placed k =
    next_at (length p.lists) (list_edges p) placed ks k prefix in
    let ready = next.ready in
    let needed : (i : ℕ) → Contains (inputs_at p k) i → Contains placed i = λ i c. ready.free i (edge p k i c) in
    let then : IsPrefix (length p.lists) (list_edges p) ((placed ++ k ∷ []) ++ ks) =
    subst (IsPrefix (length p.lists) (list_edges p)) (sym (append_assoc placed (k ∷ []) ks)) prefix in
    subst (Emptied p (fold (pumped_list p) o (k ∷ ks))) (append_assoc placed (k ∷ []) ks)
    (emptied_from p (pumped_list p o k) (placed ++ k ∷ []) ks formed free then (more needed)
    (list_emptied p o placed k formed free next.below closed ready.waits needed h))
  where
    more : ((i : ℕ) → Contains (inputs_at p k) i → Contains placed i)
        → AreClosed p (placed ++ k ∷ [])
    more needed j i c d = elim (Contains-append_cases placed (k ∷ []) j c) [
      | inl there ↦ Contains-append_left placed (k ∷ []) i (closed j i there d)
      | inr last ↦ elim (Contains-cons_cases k [] j last) [
        | inl same ↦
            Contains-append_left placed (k ∷ []) i
            (needed i (subst (λ m. Contains (inputs_at p m) i) (sym same) d))
        | inr nothing ↦ absurd (Contains-nil j nothing)
      ]
    ]

-- where an order of a well-formed plan without cycles fits, what it is brought to is whole
pub closing_is_whole : (p : Plan) → IsWellFormed p → IsAcyclic p → ClosingIsWhole p
closing_is_whole p formed free order fits =
    let sections = sections_finish p order in
    let start : List Actor = order ++ sections_left p order in
    let whole = lists_ordered p formed free in
    let first : Emptied p start [] = record {
      fits = fits_append p [] order (sections_left p order) fits sections.0;
      sections = sections.1;
      empty = λ list c. absurd (Contains-nil list c);
    } in
    let done : Emptied p (close p order) (dependency_order (length p.lists) (list_edges p)) =
    emptied_from p start [] (dependency_order (length p.lists) (list_edges p)) formed free whole.prefix
    (λ j i c d. absurd (Contains-nil j c)) first in
    record {
      fits = done.fits;
      sections = done.sections;
      queues = λ list low.
          done.empty list (Contains-order (length p.lists) (list_edges p) (dependency_order (length p.lists) (list_edges p)) whole
          list low);
    }
