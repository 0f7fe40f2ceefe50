-- In every state of every run no list shows more elements than the limit, where none does at the opening.
use Rattle.std.proofs.Common.{◌≡◌, ◌∙◌, ◌<◌, ◌≤◌, ◌++◌, ℕ, Bool, true, false, cond, List, [], ◌∷◌, length, fold, refl, ap, sym, subst, arith}
use Rattle.std.specs.Prelude.{Option, Some, None, slice_get}
use Rattle.std.specs.List.{Contains}
use Rattle.spec_plans.proofs.Members.{Contains-here}
use Rattle.spec_value.specs.Tree.{Tree}
use Rattle.spec_lists.specs.Delta.{Delta, is_identity}
use Rattle.spec_lists.specs.Leads.{applied}
use Rattle.gl_outside.specs.declared.gate.Actor.{Actor}
use Rattle.gl_outside.specs.declared.gate.Actor.TheVariants.{Writer, Proxy}
use Rattle.gl_lines.specs.declared.plan.ListDecl.{ListDecl}
use Rattle.gl_lines.specs.declared.plan.ListKind.{ListKind}
use Rattle.gl_lines.specs.declared.plan.ListKind.TheVariants as kinds
use Rattle.spec_plans.specs.Plan.{Plan, commands_of, proxies_of}
use Rattle.spec_plans.specs.Cycles.{IsAcyclic}
use Rattle.spec_plans.specs.WellFormed.{IsWellFormed}
use Rattle.spec_states.specs.State.{Own, State, source, over, composite, transaction, freezable, proxy, inputs, own_at, opening_of}
use Rattle.spec_states.specs.Shown.{shown, table_of}
use Rattle.spec_states.specs.Opening.{opening, shown_first}
use Rattle.spec_states.specs.Wave.{Deltas, delta_in}
use Rattle.spec_states.specs.Step.{too_long}
use Rattle.spec_states.specs.Laws.{IsSound, Lead}
use Rattle.spec_states.proofs.DependencyOrder.{input_within}
use Rattle.spec_states.proofs.Views.{length-table_of}
use Rattle.spec_runs.specs.Entry.{Deed, outcome, pumping_of, next_deed, taken_by, with_queued, queued_own, queued}
use Rattle.spec_runs.specs.Run.{Run, run, start, entry, shown_after}
use Rattle.spec_runs.specs.Kinds.{KeepsKinds}
use Rattle.spec_runs.specs.Laws.{applied_all}
use Rattle.spec_runs.proofs.KeptKinds.{keeps_same, keeps_on, outcome_keeps, entry_keeps, own_at_queued, length-state, queued_keeps}
use Rattle.spec_runs.proofs.Queues.{reaches, OfProxy, IsAtRest, outcome_said, queued_within}
use Rattle.spec_runs.proofs.Entries.{DeedSuits, outcome_sound, outcome_leads, entry_rests}
use Rattle.spec_runs.proofs.Suits.{opening_at, deed_suits}
use Rattle.spec_runs.proofs.Ordered.{decl_at, opening_rests, run_ordered}
use Rattle.spec_runs.proofs.Within.{after_within, shown_few}
use Rattle.spec_runs.proofs.Pumps.{NeverLong, short, short_pumped, IsFew, proxy_at, pump_within}
use Rattle.spec_states.proofs.Openings.{length-opening, opening_shows}

-- ---- an entry

-- what an actor does next leaves no list too long
pub deed_within : (p : Plan) (s : State) (before : List Actor) (a : Actor) → IsWellFormed p
    → KeepsKinds (opening p) s → IsSound s → IsFew p.limit s
    → too_long p.limit (outcome p.limit s (next_deed p before a)).state ≡ None
deed_within p s before (Writer w) formed keeps sound few =
    after_within p.limit s (commands_of p w (taken_by w before)) few.lists
deed_within p s before (Proxy n) formed keeps sound few = by_list (slice_get (proxies_of p) n) refl
  where
    by_list : (o : Option ℕ) → slice_get (proxies_of p) n ≡ o
        → too_long p.limit (outcome p.limit s (pumping_of o)).state ≡ None
    by_list None e = few.lists
    by_list (Some list) e = pump_within p s list formed keeps sound few (proxy_at p n list e)

push_short : (limit : ℕ) (queue : List Delta) (d : Delta) (xs : List Tree)
    → NeverLong limit queue xs → length (applied d (applied_all queue xs)) ≤ limit
    → NeverLong limit (queue ++ d ∷ []) xs
push_short limit [] d xs h low = (h, low)
push_short limit (q ∷ queue) d xs h low = (h.0, push_short limit queue d (applied q xs) h.1 low)

queued_short : (limit : ℕ) (queue : List Delta) (d : Delta) (xs : List Tree)
    → NeverLong limit queue xs → length (applied d (applied_all queue xs)) ≤ limit
    → NeverLong limit (with_queued d queue) xs
queued_short limit queue d xs h low = by_case (is_identity d)
  where
    by_case : (b : Bool) → NeverLong limit (cond b queue (queue ++ d ∷ [])) xs
    by_case true = h
    by_case false = push_short limit queue d xs h low

-- what a proxy comes to by what it queues isn't too long either
queued_few : (limit : ℕ) (before now : State) (deltas : Deltas) (list : ℕ) → IsSound now
    → Lead deltas (table_of before) (table_of now) → too_long limit now ≡ None → (own : Own)
    → ((i : ℕ) → Contains (inputs own) i → i < length now) → OfProxy (short limit) own
    → OfProxy (reaches (shown before)) own
    → OfProxy (short limit) (queued_own (delta_in deltas) own)
queued_few limit before now deltas list sound lead none (proxy input kept queue) within q r =
    let there : input < length now = within input (Contains-here input [] input refl) in
    let row : input < length (table_of before) = omega (arith, lead.same, length-table_of now, there) in
    let leads = lead.each input row in
    let is : shown now input ≡ applied (delta_in deltas input) (applied_all queue kept) =
    leads.ends ∙ ap (applied (delta_in deltas input)) (sym r) in
    queued_short limit queue (delta_in deltas input) kept q
    (subst (λ xs. length xs ≤ limit) is (shown_few limit now input sound.ordered none there))
queued_few limit before now deltas list sound lead none (source contents) within q r = tt
queued_few limit before now deltas list sound lead none (over input view) within q r = tt
queued_few limit before now deltas list sound lead none (composite needed members) within q r = tt
queued_few limit before now deltas list sound lead none (transaction input levels) within q r = tt
queued_few limit before now deltas list sound lead none (freezable input since) within q r = tt

-- a state of a run in which no list is too long
pub record Holds (p : Plan) (s : State) : Type 0 where
  pub rests : IsAtRest s
  pub keeps : KeepsKinds (opening p) s
  pub few : IsFew p.limit s

entry_holds : (p : Plan) (r : Run) (a : Actor) → IsWellFormed p → Holds p r.state
    → Holds p (entry p r a).state
entry_holds p r a formed h = record {
  rests = entry_rests p.limit r.state deed h.rests suits;
  keeps = keeps_on (opening p) r.state (entry p r a).state h.keeps (entry_keeps p r a);
  few = record {
    lists = queued_within p.limit deltas now ∙ none;
    queues = λ list within.
        let there : list < length now = omega (arith, still.long, within) in
        let was : list < length r.state = omega (arith, there, kept.long) in
        subst (OfProxy (short p.limit)) (sym (own_at_queued deltas now list))
        (queued_few p.limit r.state now deltas list sound (outcome_leads p.limit r.state deed rests.sound suits) none
        (own_at now list) (λ i c. input_within now sound.ordered list i c)
        (outcome_said (short p.limit) p.limit r.state deed (short_pumped p.limit) list was (few.queues list was))
        (outcome_said (reaches (shown r.state)) p.limit r.state deed (λ input kept d queue r. r) list was
        (rests.reaches list was)));
  };
}
  where
    deed : Deed
    deed = next_deed p r.order a

    rests : IsAtRest r.state
    rests = h.rests

    few : IsFew p.limit r.state
    few = h.few

    suits : DeedSuits r.state deed
    suits = deed_suits p r.state r.order a formed h.keeps

    now : State
    now = (outcome p.limit r.state deed).state

    deltas : Deltas
    deltas = (outcome p.limit r.state deed).deltas

    kept : KeepsKinds r.state now
    kept = outcome_keeps p.limit r.state deed

    still : KeepsKinds now (queued deltas now)
    still = queued_keeps deltas now

    sound : IsSound now
    sound = outcome_sound p.limit r.state deed rests.sound suits

    none : too_long p.limit now ≡ None
    none = deed_within p r.state r.order a formed h.keeps rests.sound few

-- ---- a run

opening_few : (p : Plan) → IsWellFormed p → IsAcyclic p → too_long p.limit (opening p) ≡ None
    → IsFew p.limit (opening p)
opening_few p formed free none = record { lists = none; queues = queues }
  where
    rests : IsAtRest (opening p)
    rests = opening_rests p formed free

    sound : IsSound (opening p)
    sound = rests.sound

    by_kind : (kind : ListKind)
        → ((i : ℕ) → Contains (inputs (opening_of (shown_first p) kind)) i → i < length (opening p))
        → OfProxy (short p.limit) (opening_of (shown_first p) kind)
    by_kind (kinds.Proxy input) within =
        let there : input < length (opening p) = within input (Contains-here input [] input refl) in
        subst (λ xs. length xs ≤ p.limit) (opening_shows p sound.ordered input (omega (arith, length-opening p, there)))
        (shown_few p.limit (opening p) input sound.ordered none there)
    by_kind other within = tt

    queues : (list : ℕ) → list < length (opening p)
        → OfProxy (short p.limit) (own_at (opening p) list)
    queues list within =
        let found : (d : ListDecl) × (slice_get p.lists list ≡ Some d) =
        decl_at p.lists list (omega (arith, length-opening p, within)) in
        let is : own_at (opening p) list ≡ opening_of (shown_first p) found.0.kind =
        opening_at (shown_first p) p.lists list found.0 found.1 in
        subst (OfProxy (short p.limit)) (sym is)
        (by_kind found.0.kind (λ i c.
        input_within (opening p) sound.ordered list i (subst (λ own. Contains (inputs own) i) (sym is) c)))

run_from_holds : (p : Plan) (r : Run) (order : List Actor) → IsWellFormed p → Holds p r.state
    → Holds p (fold (entry p) r order).state
run_from_holds p r [] formed h = h
run_from_holds p r (a ∷ order) formed h = run_from_holds p (entry p r a) order formed (entry_holds p r a formed h)

-- where no list of a plan opens too long, each state of its runs holds
pub run_holds : (p : Plan) (order : List Actor) → IsWellFormed p → IsAcyclic p
    → too_long p.limit (opening p) ≡ None → Holds p (run p order).state
run_holds p order formed free none =
    let opens : Holds p (opening p) =
    record { rests = opening_rests p formed free; keeps = keeps_same (opening p); few = opening_few p formed free none } in
    run_from_holds p (start p) order formed opens

-- and no list is too long in it
pub run_within : (p : Plan) (order : List Actor) → IsWellFormed p → IsAcyclic p
    → too_long p.limit (opening p) ≡ None → too_long p.limit (run p order).state ≡ None
run_within p order formed free none =
    let ends : Holds p (run p order).state = run_holds p order formed free none in
    let few : IsFew p.limit (run p order).state = ends.few in
    few.lists

-- and so each list shows no more elements than the limit after any run
pub shown_within : (p : Plan) (order : List Actor) (list : ℕ) → IsWellFormed p → IsAcyclic p
    → too_long p.limit (opening p) ≡ None → list < length p.lists
    → length (shown_after p order list) ≤ p.limit
shown_within p order list formed free none within =
    shown_few p.limit (run p order).state list (run_ordered p order formed free) (run_within p order formed free none)
    (let low : list < length p.lists = within in omega (arith, low, length-state p order))
