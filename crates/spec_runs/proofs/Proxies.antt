-- Each proxy of a plan follows its input, later.
use Rattle.std.proofs.Common.{◌≡◌, ◌≢◌, ◌∙◌, ◌<◌, ◌≤◌, ◌+◌, ◌==◌, ◌++◌, ℕ, zero, suc, Bool, true, false, cond, List, [], ◌∷◌, length, drop, refl, ap, sym, subst, arith, eq-eqb}
use Rattle.std.specs.Prelude.{Option, Some, None, slice_get}
use Rattle.std.specs.List.{Contains}
use Rattle.std.proofs.lemmas.Bool.{eqb-true, eqb-false, ne_eqb}
use Rattle.std.proofs.lemmas.Option.{slice_get_within}
use Rattle.std.proofs.lemmas.List.{append_assoc, append-nil, drop-append-le, length-append}
use Rattle.spec_plans.proofs.Members.{Contains-here}
use Rattle.spec_value.specs.Tree.{Tree}
use Rattle.spec_lists.specs.Delta.{Delta, is_identity}
use Rattle.spec_lists.specs.Leads.{applied}
use Rattle.gl_outside.specs.declared.gate.Actor.{Actor}
use Rattle.gl_outside.specs.declared.gate.Actor.TheVariants.{Writer, Proxy}
use Rattle.gl_lines.specs.declared.plan.ListDecl.{ListDecl}
use Rattle.gl_lines.specs.declared.plan.ListKind.{ListKind}
use Rattle.gl_lines.specs.declared.plan.ListKind.TheVariants as kinds
use Rattle.gl_lines.specs.declared.plan.Command.{Command}
use Rattle.spec_plans.specs.Plan.{Plan, commands_of, proxies_from, proxies_of}
use Rattle.spec_plans.specs.Cycles.{IsAcyclic}
use Rattle.spec_plans.specs.WellFormed.{IsWellFormed}
use Rattle.spec_states.specs.State.{Own, State, proxy, inputs, own_at, opening_of}
use Rattle.spec_states.specs.Shown.{shown_of, shown}
use Rattle.spec_states.specs.Opening.{opening, shown_first}
use Rattle.spec_states.specs.Wave.{delta_in, wave_deltas, wave, pump, pumped, kept_later}
use Rattle.spec_states.specs.Laws.{IsOrdered}
use Rattle.spec_states.proofs.DependencyOrder.{input_within}
use Rattle.spec_states.proofs.Views.{own_at_wave, shown_is}
use Rattle.spec_runs.specs.Section.{state_after}
use Rattle.spec_runs.specs.Entry.{taken_by, pumping_of, outcome, with_queued, queued_own}
use Rattle.spec_runs.specs.Run.{run, shown_after}
use Rattle.spec_runs.specs.Fits.{Reason, reason_at, reason_of_queue, reason_of_proxy, queue_of, bad_place_from}
use Rattle.spec_runs.specs.Prefix.{entry_delta, is_proxy, pumps_of}
use Rattle.spec_runs.specs.Laws.{heard, applied_all, EachProxyFollows}
use Rattle.spec_runs.proofs.Runs.{outcome_after, state_more}
use Rattle.spec_runs.proofs.KeptKinds.{own_at_queued, length-state, proxy_kept, after_keeps}
use Rattle.spec_runs.proofs.Queues.{Reaches, IsAtRest, OfProxy, after_said}
use Rattle.spec_runs.proofs.Suits.{opening_at}
use Rattle.spec_runs.proofs.Ordered.{opening_rests, run_rests}
use Rattle.spec_runs.proofs.Heard.{delta_leads}
use Rattle.spec_runs.proofs.Follows.{changed_from, shown_before, EachLeads, shown_next_before, shown_push, changed_push}
use Rattle.spec_states.proofs.Openings.{length-opening, opening_shows}

-- ---- the numbers of proxies

proxies_above : (number : ℕ) (ds : List ListDecl) (n list : ℕ)
    → slice_get (proxies_from number ds) n ≡ Some list → number ≤ list
proxies_above number [] n list e = absurd cc
proxies_above number (d ∷ ds) n list e = by_kind d.kind n (λ m later. proxies_above (suc number) ds m list later) e
  where
    by_kind : (kind : ListKind) (n : ℕ)
        → ((m : ℕ) → slice_get (proxies_from (suc number) ds) m ≡ Some list → suc number ≤ list)
        → slice_get (proxies_from number (record { name = d.name; kind = kind } ∷ ds)) n ≡ Some list → number ≤ list
    by_kind (kinds.Proxy input) zero later e = let same : number ≡ list = cc in omega (arith, same)
    by_kind (kinds.Proxy input) (suc n) later e = let high = later n e in omega (arith, high)
    by_kind other n later e = let high = later n e in omega (arith, high)

-- a list is one proxy alone
proxies_apart : (number : ℕ) (ds : List ListDecl) (m n list : ℕ)
    → slice_get (proxies_from number ds) m ≡ Some list
    → slice_get (proxies_from number ds) n ≡ Some list → m ≡ n
proxies_apart number [] m n list e f = absurd cc
proxies_apart number (d ∷ ds) m n list e f =
    by_kind d.kind m n (λ i j at_i at_j. proxies_apart (suc number) ds i j list at_i at_j) e f
  where
    Among : ListKind → ℕ → Type 0
    Among kind n = slice_get (proxies_from number (record { name = d.name; kind = kind } ∷ ds)) n ≡ Some list

    by_kind : (kind : ListKind) (m n : ℕ)
        → ((i j : ℕ) → slice_get (proxies_from (suc number) ds) i ≡ Some list
        → slice_get (proxies_from (suc number) ds) j ≡ Some list → i ≡ j)
        → Among kind m → Among kind n → m ≡ n
    by_kind (kinds.Proxy input) zero zero later e f = refl
    by_kind (kinds.Proxy input) zero (suc n) later e f =
        let same : number ≡ list = cc in
        absurd (omega (arith, same, proxies_above (suc number) ds n list f))
    by_kind (kinds.Proxy input) (suc m) zero later e f =
        let same : number ≡ list = cc in
        absurd (omega (arith, same, proxies_above (suc number) ds m list e))
    by_kind (kinds.Proxy input) (suc m) (suc n) later e f = ap suc (later m n e f)
    by_kind other m n later e f = later m n e f

-- one actor more counts for itself alone
pumps_more : (n : ℕ) (order : List Actor) (a : Actor)
    → pumps_of n (order ++ a ∷ []) ≡ pumps_of n order + pumps_of n (a ∷ [])
pumps_more n [] a = omega arith
pumps_more n (b ∷ order) a = elim (is_proxy n b) as (λ v.
    cond v (suc (pumps_of n (order ++ a ∷ []))) (pumps_of n (order ++ a ∷ []))
    ≡ cond v (suc (pumps_of n order)) (pumps_of n order) + pumps_of n (a ∷ [])) [
      | true ↦ omega (arith, pumps_more n order a)
      | false ↦ pumps_more n order a
    ]

-- ---- how far a proxy has come

-- A proxy, the n-th, after an order: it has taken as many changes of its input as it has had pumps, and is yet to take the others;
-- it shows what its input showed before the first of these.
record Comes (p : Plan) (n list input : ℕ) (order : List Actor) : Type 0 where
  kept : List Tree
  queue : List Delta
  own : own_at (run p order).state list ≡ proxy input kept queue
  taken : pumps_of n order ≤ length (changed_from p input [] order)
  left : queue ≡ drop (pumps_of n order) (changed_from p input [] order)
  shows : kept ≡ shown_before p input [] (pumps_of n order) order

heard_queued : (d : Delta) (queue : List Delta) → with_queued d queue ≡ queue ++ heard d
heard_queued d queue = elim (is_identity d) as (λ b. cond b queue (queue ++ d ∷ []) ≡ queue ++ cond b [] (d ∷ [])) [
  | true ↦ sym (append-nil queue)
  | false ↦ refl
]

-- what a proxy keeps within an entry, of which it has taken so many changes
record Within (p : Plan) (list input : ℕ) (order : List Actor) (a : Actor) (k : ℕ) : Type 0 where
  kept : List Tree
  queue : List Delta
  own : own_at (outcome_after p order a).state list ≡ proxy input kept queue
  taken : k ≤ length (changed_from p input [] order)
  left : queue ≡ drop k (changed_from p input [] order)
  shows : kept ≡ shown_before p input [] k order

comes_on : (p : Plan) (n list input : ℕ) (order : List Actor) (a : Actor) (k : ℕ)
    → EachLeads p input → pumps_of n (order ++ a ∷ []) ≡ k → Within p list input order a k
    → Comes p n list input (order ++ a ∷ [])
comes_on p n list input order a k leads many h =
    let d : Delta = entry_delta p order a input in
    let changes : List Delta = changed_from p input [] order in
    let later : List Delta = changed_from p input [] (order ++ a ∷ []) in
    let more : later ≡ changes ++ heard d = changed_push p input [] order a in
    let low : k ≤ length changes = h.taken in
    record {
      kept = h.kept;
      queue = with_queued d h.queue;
      own =
          ap (λ s. own_at s list) (state_more p order a)
          ∙ own_at_queued (outcome_after p order a).deltas (outcome_after p order a).state list
          ∙ ap (queued_own (delta_in (outcome_after p order a).deltas)) h.own;
      taken = omega (arith, many, low, ap length more, length-append changes (heard d));
      left =
          heard_queued d h.queue ∙ ap (λ q. q ++ heard d) h.left
          ∙ sym (drop-append-le k changes (heard d) h.taken) ∙ ap (drop k) (sym more)
          ∙ ap (λ j. drop j later) (sym many);
      shows =
          h.shows ∙ sym (shown_push p input leads [] order a k h.taken)
          ∙ ap (λ j. shown_before p input [] j (order ++ a ∷ [])) (sym many);
    }

-- what stays of a proxy that isn't pumped
within_same : (p : Plan) (n list input : ℕ) (order : List Actor) (a : Actor)
    → (c : Comes p n list input order)
    → own_at (outcome_after p order a).state list ≡ proxy input c.kept c.queue
    → Within p list input order a (pumps_of n order)
within_same p n list input order a c e =
    record { kept = c.kept; queue = c.queue; own = e; taken = c.taken; left = c.left; shows = c.shows }

-- a section leaves a proxy as it is
pub after_proxy : (limit : ℕ) (s : State) (cs : List Command) (list input : ℕ) (kept : List Tree) (queue : List Delta)
    → list < length s → own_at s list ≡ proxy input kept queue
    → own_at (state_after limit s cs) list ≡ proxy input kept queue
after_proxy limit s cs list input kept queue within own =
    let now : State = state_after limit s cs in
    let still = proxy_kept s now list input kept queue (after_keeps limit s cs) own in
    let said : OfProxy (λ i xs q. (xs ≡ kept) × (q ≡ queue)) (own_at now list) =
    after_said (λ i xs q. (xs ≡ kept) × (q ≡ queue)) limit s cs list within
    (subst (OfProxy (λ i xs q. (xs ≡ kept) × (q ≡ queue))) (sym own) (refl, refl)) in
    let same : (still.0 ≡ kept) × (still.1 ≡ queue) =
    subst (OfProxy (λ i xs q. (xs ≡ kept) × (q ≡ queue))) still.2 said in
    still.2 ∙ ap (λ xs. proxy input xs still.1) same.0 ∙ ap (proxy input kept) same.1

-- so does the pump of another
pub pump_other : (s : State) (list other input : ℕ) (kept : List Tree) (queue : List Delta)
    → list < length s → list ≢ other → own_at s list ≡ proxy input kept queue
    → own_at (wave s (pump other)) list ≡ proxy input kept queue
pump_other s list other input kept queue within ne own =
    own_at_wave s (pump other) list within ∙ by_test (list == other) (ne_eqb list other ne)
  where
    by_test : (b : Bool) → b ≡ false
        → cond b (pumped (own_at s list)) (kept_later list (own_at s list) (delta_in (wave_deltas s (pump other)))) ≡ proxy input kept queue
    by_test true e = absurd cc
    by_test false e = ap (λ o. kept_later list o (delta_in (wave_deltas s (pump other)))) own

-- its own pump takes the first delta of its queue
pub pump_self : (s : State) (list input : ℕ) (kept : List Tree) (d : Delta) (queue : List Delta)
    → list < length s → own_at s list ≡ proxy input kept (d ∷ queue)
    → own_at (wave s (pump list)) list ≡ proxy input (applied d kept) queue
pump_self s list input kept d queue within own =
    own_at_wave s (pump list) list within ∙ by_test (list == list) (eq-eqb list list refl)
  where
    by_test : (b : Bool) → b ≡ true
        → cond b (pumped (own_at s list)) (kept_later list (own_at s list) (delta_in (wave_deltas s (pump list)))) ≡ proxy input (applied d kept) queue
    by_test true e = ap pumped own
    by_test false e = absurd cc

-- the first of what is left of a list
first_left : (ds : List Delta) (k : ℕ) (d : Delta) (rest : List Delta) → d ∷ rest ≡ drop k ds
    → (slice_get ds k ≡ Some d) × (rest ≡ drop (suc k) ds) × (k < length ds)
first_left [] zero d rest e = absurd cc
first_left [] (suc k) d rest e = absurd cc
first_left (x ∷ ds) zero d rest e =
    let first : x ≡ d = cc in let later : rest ≡ ds = cc in (ap Some first, later, omega arith)
first_left (x ∷ ds) (suc k) d rest e =
    let h = first_left ds k d rest e in let low = h.2 in (h.0, h.1, omega (arith, low))

-- a proxy that may be pumped, with what it is yet to take
queue_there : (queue : List Delta) → reason_of_queue queue ≡ None
    → (d : Delta) × (rest : List Delta) × (queue ≡ d ∷ rest)
queue_there [] e = absurd cc
queue_there (d ∷ rest) e = (d, rest, refl)

-- one entry more of a proxy's plan
comes_step : (p : Plan) (n list input : ℕ) (order : List Actor) (a : Actor) → EachLeads p input
    → slice_get (proxies_of p) n ≡ Some list → list < length p.lists → reason_at p order a ≡ None
    → Comes p n list input order → Comes p n list input (order ++ a ∷ [])
comes_step p n list input order (Writer w) leads at_n within none c =
    comes_on p n list input order (Writer w) (pumps_of n order) leads (pumps_more n order (Writer w) ∙ omega arith)
    (within_same p n list input order (Writer w) c
    (after_proxy p.limit (run p order).state (commands_of p w (taken_by w order)) list input c.kept c.queue
    (omega (arith, length-state p order, within)) c.own))
comes_step p n list input order (Proxy m) leads at_n within none c = by_number (m == n) refl
  where
    s : State
    s = (run p order).state

    there : list < length s
    there = omega (arith, length-state p order, within)

    counted : (b : Bool) → (m == n) ≡ b
        → pumps_of n (order ++ Proxy m ∷ []) ≡ pumps_of n order + cond b 1 0
    counted b e = pumps_more n order (Proxy m) ∙ ap (λ t. pumps_of n order + cond t 1 0) e

    state_of : (o : Option ℕ) → slice_get (proxies_of p) m ≡ o
        → own_at (outcome_after p order (Proxy m)).state list
        ≡ own_at (outcome p.limit s (pumping_of o)).state list
    state_of o e = ap (λ q. own_at (outcome p.limit s (pumping_of q)).state list) e

    other_deed : (o : Option ℕ) → slice_get (proxies_of p) m ≡ o → m ≢ n
        → own_at (outcome p.limit s (pumping_of o)).state list ≡ proxy input c.kept c.queue
    other_deed None e ne = c.own
    other_deed (Some other) e ne =
        pump_other s list other input c.kept c.queue there (λ same.
        ne (proxies_apart 0 p.lists m n list (e ∙ ap Some (sym same)) at_n)) c.own

    by_number : (b : Bool) → (m == n) ≡ b → Comes p n list input (order ++ Proxy m ∷ [])
    by_number false e =
        comes_on p n list input order (Proxy m) (pumps_of n order) leads (counted false e ∙ omega arith)
        (within_same p n list input order (Proxy m) c (state_of (slice_get (proxies_of p) m) refl
        ∙ other_deed (slice_get (proxies_of p) m) refl (eqb-false m n e)))
    by_number true e =
        let at_m : slice_get (proxies_of p) m ≡ Some list =
        ap (slice_get (proxies_of p)) (eqb-true m n e) ∙ at_n in
        let may : reason_of_queue (queue_of (own_at s list)) ≡ None =
        ap (reason_of_proxy s) (sym at_m) ∙ none in
        let found : (d : Delta) × (rest : List Delta) × (c.queue ≡ d ∷ rest) =
        queue_there c.queue (ap (λ o. reason_of_queue (queue_of o)) (sym c.own) ∙ may) in
        let own : own_at s list ≡ proxy input c.kept (found.0 ∷ found.1) =
        c.own ∙ ap (proxy input c.kept) found.2 in
        let left = first_left (changed_from p input [] order) (pumps_of n order) found.0 found.1 (sym found.2 ∙ c.left) in
        comes_on p n list input order (Proxy m) (suc (pumps_of n order)) leads (counted true e ∙ omega arith)
        (record {
          kept = applied found.0 c.kept;
          queue = found.1;
          own = state_of (Some list) at_m ∙ pump_self s list input c.kept found.0 found.1 there own;
          taken = let low = left.2 in omega (arith, low);
          left = left.1;
          shows =
              ap (applied found.0) c.shows
              ∙ sym (shown_next_before p input leads [] order (pumps_of n order) found.0 left.0);
        })

-- of the first place of what is left of an order, and of the places after it
pub places_apart : (p : Plan) (before : List Actor) (a : Actor) (rest : List Actor)
    → bad_place_from p before (a ∷ rest) ≡ None
    → (reason_at p before a ≡ None) × (bad_place_from p (before ++ a ∷ []) rest ≡ None)
places_apart p before a rest h = by_reason (reason_at p before a) refl
  where
    by_reason : (o : Option Reason) → reason_at p before a ≡ o
        → (reason_at p before a ≡ None) × (bad_place_from p (before ++ a ∷ []) rest ≡ None)
    by_reason None e = (e, rw e at h)
    by_reason (Some reason) e = let g = rw e at h in absurd cc

comes_from : (p : Plan) (n list input : ℕ) (before rest : List Actor) → EachLeads p input
    → slice_get (proxies_of p) n ≡ Some list → list < length p.lists
    → bad_place_from p before rest ≡ None → Comes p n list input before
    → Comes p n list input (before ++ rest)
comes_from p n list input before [] leads at_n within fits c =
    subst (λ order. Comes p n list input order) (sym (append-nil before)) c
comes_from p n list input before (a ∷ rest) leads at_n within fits c =
    let places = places_apart p before a rest fits in
    subst (λ order. Comes p n list input order) (append_assoc before (a ∷ []) rest)
    (comes_from p n list input (before ++ a ∷ []) rest leads at_n within places.1
    (comes_step p n list input before a leads at_n within places.0 c))

-- each proxy of a well-formed plan without cycles follows its input
pub each_proxy_follows : (p : Plan) → IsWellFormed p → IsAcyclic p → EachProxyFollows p
each_proxy_follows p formed free order n list input d fits at_n at_d is = record {
  shows = shows ∙ c.shows;
  reaches = subst Done (sym c.own) (ap (applied_all c.queue) shows ∙ reaches);
}
  where
    rests : IsAtRest (opening p)
    rests = opening_rests p formed free

    order_first : IsOrdered (opening p)
    order_first = let sound = rests.sound in sound.ordered

    within : list < length p.lists
    within = slice_get_within p.lists list d at_d

    opens : own_at (opening p) list ≡ proxy input (shown_first p input) []
    opens = opening_at (shown_first p) p.lists list d at_d ∙ ap (opening_of (shown_first p)) is

    there : input < length p.lists
    there =
        omega (
          arith,
          length-opening p,
          input_within (opening p) order_first list input
              (subst (λ own. Contains (inputs own) input) (sym opens) (Contains-here input [] input refl)),
        )

    leads : EachLeads p input
    leads order a = delta_leads p order a input formed free there

    first : Comes p n list input []
    first = record {
      kept = shown_first p input;
      queue = [];
      own = opens;
      taken = omega arith;
      left = refl;
      shows = sym (opening_shows p order_first input there);
    }

    c : Comes p n list input order
    c = comes_from p n list input [] order leads at_n within fits first

    s : State
    s = (run p order).state

    now : IsAtRest s
    now = run_rests p order formed free

    low : list < length s
    low = omega (arith, length-state p order, within)

    shows : shown_after p order list ≡ c.kept
    shows = shown_is s now.sound list low ∙ ap (λ own. shown_of own (shown s)) c.own

    reaches : applied_all c.queue c.kept ≡ shown_after p order input
    reaches = subst (Reaches (shown s)) c.own (now.reaches list low)

    Done : Own → Type 0
    Done own = applied_all (queue_of own) (shown_after p order list) ≡ shown_after p order input
