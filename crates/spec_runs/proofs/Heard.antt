-- Each listener is told of each entry that changes its list, once, and what it was told gives the list.
use Rattle.std.proofs.Common.{◌≡◌, ◌∙◌, ℕ, zero, suc, ◌<◌, ◌++◌, List, [], ◌∷◌, length, fold, refl, ap, sym, arith, subst}
use Rattle.std.specs.Prelude.{Some, slice_get}
use Rattle.std.specs.List.{AllByRecursion}
use Rattle.std.proofs.lemmas.List.Elements.{recursion_from_All}
use Rattle.spec_value.specs.Tree.{Tree}
use Rattle.spec_lists.specs.Leads.{IsDelta}
use Rattle.gl_outside.specs.declared.gate.Actor.{Actor}
use Rattle.gl_lines.specs.declared.plan.ListenerDecl.{ListenerDecl}
use Rattle.spec_plans.specs.Plan.{Plan}
use Rattle.spec_plans.specs.Cycles.{IsAcyclic}
use Rattle.spec_plans.specs.WellFormed.{HasHeard, IsWellFormed}
use Rattle.spec_states.specs.State.{State}
use Rattle.spec_states.specs.Shown.{shown, table_of}
use Rattle.spec_states.specs.Opening.{opening}
use Rattle.spec_states.specs.Wave.{Deltas, delta_in}
use Rattle.spec_states.proofs.Openings.{length-opening}
use Rattle.spec_runs.specs.Entry.{Deed, outcome, next_deed}
use Rattle.spec_runs.specs.Telling.{Telling, tellings}
use Rattle.spec_runs.specs.Run.{Run, run, start, entry, shown_after}
use Rattle.spec_runs.specs.Kinds.{KeepsKinds}
use Rattle.spec_runs.specs.Prefix.{entry_delta}
use Rattle.spec_runs.specs.Laws.{told_to, told_at, replay_all, heard, EachHears}
use Rattle.spec_runs.proofs.Runs.{outcome_after, order_of_run, state_more, told_more}
use Rattle.spec_runs.proofs.KeptKinds.{keeps_same, keeps_on, entry_keeps, length-state}
use Rattle.spec_runs.proofs.Queues.{IsAtRest}
use Rattle.spec_runs.proofs.Entries.{DeedSuits, entry_leads, entry_rests}
use Rattle.spec_runs.proofs.Suits.{deed_suits}
use Rattle.spec_runs.proofs.Ordered.{opening_rests, run_sound, next_suits, well_formed_listeners}
use Rattle.spec_runs.proofs.Told.{AreHeard, told_to_append, told_at_append, replay_append, told_at_others, told_at_all, all_place, placed_from, told_in_entry, heard_leads}
use Rattle.spec_states.proofs.Views.{length-table_of}

-- the delta of a list in an entry leads from what it showed before to what it shows after
pub delta_leads : (p : Plan) (order : List Actor) (a : Actor) (list : ℕ) → IsWellFormed p
    → IsAcyclic p → list < length p.lists
    → IsDelta (entry_delta p order a list) (shown_after p order list) (shown_after p (order ++ a ∷ []) list)
delta_leads p order a list h free within =
    let s : State = (run p order).state in
    let there : list < length (table_of s) = omega (arith, length-table_of s, length-state p order, within) in
    let P : State → Type 0 = λ t. IsDelta (entry_delta p order a list) (shown s list) (shown t list) in
    let leads = entry_leads p.limit s (next_deed p order a) (run_sound p order h free) (next_suits p order a h) in
    subst P (sym (state_more p order a)) (leads.each list there)

told_once : (p : Plan) (order : List Actor) (a : Actor) (k : ℕ) (d : ListenerDecl) → AreHeard p
    → slice_get p.listeners k ≡ Some d
    → told_to k (told_at (length order) (run p (order ++ a ∷ [])).told)
    ≡ heard (entry_delta p order a d.list)
told_once p order a k d are e =
    let n : ℕ = length order in
    let ds : Deltas = (outcome_after p order a).deltas in
    let P : List Actor → Type 0 = λ o. AllByRecursion (λ t. t.place < length o) (run p order).told in
    let placed : AllByRecursion (λ t. t.place < n) (run p order).told =
    subst P (order_of_run p order) (placed_from p (start p) order tt) in
    ap (λ ts. told_to k (told_at n ts)) (told_more p order a)
    ∙ ap (told_to k) (told_at_append n (run p order).told (tellings p n ds))
    ∙ ap (λ ts. told_to k (ts ++ told_at n (tellings p n ds))) (told_at_others n (run p order).told placed)
    ∙ ap (told_to k) (told_at_all n (tellings p n ds) (all_place p.listeners n ds _))
    ∙ told_in_entry p n ds k d are e

-- so far what the listener was told gives what the list shows
record Follows (p : Plan) (k list : ℕ) (r : Run) : Type 0 where
  rests : IsAtRest r.state
  keeps : KeepsKinds (opening p) r.state
  gives : replay_all (told_to k r.told) (shown (opening p) list) ≡ shown r.state list

replays_all : (p : Plan) (k : ℕ) (d : ListenerDecl) (order : List Actor) → IsWellFormed p
    → IsAcyclic p → AreHeard p → slice_get p.listeners k ≡ Some d
    → replay_all (told_to k (run p order).told) (shown_after p [] d.list)
    ≡ shown_after p order d.list
replays_all p k d order h free are e =
    replays_from (start p) order
    (record { rests = opening_rests p h free; keeps = keeps_same (opening p); gives = refl })
  where
    step : (r : Run) (a : Actor) → Follows p k d.list r → Follows p k d.list (entry p r a)
    step r a f =
        let deed : Deed = next_deed p r.order a in
        let may : DeedSuits r.state deed = deed_suits p r.state r.order a h f.keeps in
        let leads = entry_leads p.limit r.state deed f.rests.sound may in
        let next : State = (entry p r a).state in
        let ds : Deltas = (outcome p.limit r.state deed).deltas in
        let here : List Telling = tellings p (length r.order) ds in
        let keeps = f.keeps in
        let within : d.list < length (table_of r.state) =
        omega (arith, length-table_of r.state, keeps.long, length-opening p, are.lists k d e) in
        record {
          rests = entry_rests p.limit r.state deed f.rests may;
          keeps = keeps_on (opening p) r.state next f.keeps (entry_keeps p r a);
          gives =
              ap (λ ts. replay_all ts (shown (opening p) d.list)) (told_to_append k r.told here)
              ∙ replay_append (told_to k r.told) (told_to k here) (shown (opening p) d.list)
              ∙ ap (replay_all (told_to k here)) f.gives
              ∙ ap (λ es. replay_all es (shown r.state d.list)) (told_in_entry p (length r.order) ds k d are e)
              ∙ heard_leads (delta_in ds d.list) (shown r.state d.list) (shown next d.list) (leads.each d.list within);
        }

    replays_from : (r : Run) (order : List Actor) → Follows p k d.list r
        → replay_all (told_to k (fold (entry p) r order).told) (shown (opening p) d.list)
        ≡ shown (fold (entry p) r order).state d.list
    replays_from r [] f = f.gives
    replays_from r (a ∷ order) f = replays_from (entry p r a) order (step r a f)

-- every listener of a plan hears of its list
pub each_hears : (p : Plan) → IsWellFormed p → IsAcyclic p → AreHeard p → EachHears p
each_hears p h free are k d e = record {
  entries = λ order a.
      let leads = delta_leads p order a d.list h free (are.lists k d e) in
      let once = told_once p order a k d are e in
      record {
        leads = leads;
        once = once;
        else_same = λ nothing.
            let before : List Tree = shown_after p order d.list in
            sym (ap (λ es. replay_all es before) (sym nothing ∙ once)
            ∙ heard_leads (entry_delta p order a d.list) before (shown_after p (order ++ a ∷ []) d.list) leads);
      };
  replays = λ order. replays_all p k d order h free are e;
}

-- ---- well formed plans

heard_lists : (p : Plan) (ds : List ListenerDecl) (k : ℕ) (d : ListenerDecl)
    → AllByRecursion (HasHeard p) ds → slice_get ds k ≡ Some d → d.list < length p.lists
heard_lists p [] k d h e = absurd cc
heard_lists p (l ∷ ds) zero d h e =
    let same : l ≡ d = cc in subst (λ (m : ListenerDecl). m.list < length p.lists) same h.0.list
heard_lists p (l ∷ ds) (suc k) d h e = heard_lists p ds k d h.1 e

pub well_formed_heard : (p : Plan) → IsWellFormed p → IsAcyclic p → AreHeard p
well_formed_heard p h free = record {
  dependency_order = well_formed_listeners p h free;
  lists = λ k d e. heard_lists p p.listeners k d (recursion_from_All (HasHeard p) p.listeners h.heard) e;
}

-- every listener of a well formed plan without cycles hears of its list
pub hears_well_formed : (p : Plan) → IsWellFormed p → IsAcyclic p → EachHears p
hears_well_formed p h free = each_hears p h free (well_formed_heard p h free)
