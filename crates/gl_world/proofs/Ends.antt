-- What proxies are due at the end of an entry is what they queue by the definitions.
use Rattle.std.proofs.Common.{◌≡◌, ◌∙◌, ℕ, zero, suc, ◌<◌, ◌++◌, Bool, true, false, cond, List, [], ◌∷◌, length, refl, ap, sym, subst, arith, eq-eqb}
use Rattle.std.specs.Prelude.{Option, Some, None, option_map, slice_get, slice_index_or}
use Rattle.std.specs.List.{Contains}
use Rattle.spec_states.proofs.Members.{Contains-here}
use Rattle.spec_states.specs.Tree.{Tree}
use Rattle.spec_states.specs.Delta.{Delta, is_identity}
use Rattle.spec_states.specs.Changes.{changed_len}
use Rattle.spec_states.proofs.ChangeCounts.{changed_len-identity}
use Rattle.spec_states.specs.ListDecl.{ListDecl}
use Rattle.spec_states.specs.ListKind.{ListKind}
use Rattle.spec_states.specs.ListKind.TheVariants as kinds
use Rattle.spec_states.specs.ListClass.TheVariants.{Pumped}
use Rattle.spec_states.specs.Plan.{Plan}
use Rattle.spec_states.specs.WellFormed.{class_of_kind}
use Rattle.spec_states.specs.State.{Own, State, source, over, composite, transaction, freezable, proxy, inputs, own_at, opening_of}
use Rattle.spec_states.specs.Shown.{shows_in, table_of, shown}
use Rattle.spec_states.specs.Opening.{opening, shown_first}
use Rattle.spec_states.specs.Wave.{Deltas, delta_in}
use Rattle.spec_states.specs.Laws.{LeadOnFrom, Fits, IsSound, Lead}
use Rattle.spec_states.proofs.DependencyOrder.{input_within}
use Rattle.spec_states.proofs.Views.{length-table_of}
use Rattle.gl_outside.specs.declared.gate.Actor.{Actor}
use Rattle.gl_delta.specs.Model.{DeltaModel}
use Rattle.gl_plan.specs.Whole.{IsWhole}
use Rattle.spec_runs.specs.Entry.{Deed, outcome, next_deed, with_queued, queued_own, queued}
use Rattle.spec_runs.specs.Run.{run}
use Rattle.spec_runs.specs.Kinds.{class_of_own, KeepsKinds}
use Rattle.spec_runs.specs.Laws.{applied_all}
use Rattle.spec_runs.proofs.KeptKinds.{keeps_on, outcome_keeps, run_kinds, length-state, own_at_queued, queued_keeps, class_kept, proxy_kept}
use Rattle.spec_runs.proofs.Queues.{reaches, Reaches, IsAtRest, Queued, queued_on, outcome_said}
use Rattle.spec_runs.proofs.Entries.{DeedSuits, outcome_sound, outcome_leads}
use Rattle.spec_runs.proofs.Suits.{opening_at, opening_class}
use Rattle.spec_runs.proofs.Ordered.{decl_at, run_rests, next_suits}
use Rattle.gl_graph.specs.Graph.{Kept, state_of}
use Rattle.gl_graph.specs.Queues.{IsProxy, LeadsOn}
use Rattle.gl_graph.proofs.Progress.{contents_same_state}
use Rattle.gl_world.specs.declared.section.Taken.{Taken}
use Rattle.gl_world.specs.Back.{IsLike}
use Rattle.gl_world.specs.Section.{IsDeltaSofar, AreDeltas}
use Rattle.gl_world.specs.Due.{MayQueue, due_delta, due_from, AreDue, HaveQueueRoom, CanQueue, with_due, AreQueued}
use Rattle.gl_world.specs.Entry.{outcome_of, IsEntry}

-- ---- one proxy

-- a proxy over a list with this delta is due this
abbrev IsDueOf : Delta → Option DeltaModel → Type 0
IsDueOf delta None = is_identity delta ≡ true
IsDueOf delta (Some d) = (d.pieces ≡ delta) × (is_identity delta ≡ false)

due_of_some : (t : DeltaModel) (due : Option DeltaModel) (b : Bool) → is_identity t.pieces ≡ b
    → option_map (λ (d : DeltaModel). d.pieces) due ≡ cond b None (Some t.pieces) → IsDueOf t.pieces due
due_of_some t None true e is = e
due_of_some t None false e is = absurd cc
due_of_some t (Some d) true e is = absurd cc
due_of_some t (Some d) false e is = (let same : d.pieces ≡ t.pieces = cc in (same, e))

due_is : (n : ℕ) (delta : Delta) (told due : Option DeltaModel) → IsDeltaSofar n delta told
    → option_map (λ (d : DeltaModel). d.pieces) due ≡ due_delta told → IsDueOf delta due
due_is n delta None None sofar is = eq-eqb (changed_len delta) 0 (ap changed_len sofar ∙ changed_len-identity n)
due_is n delta None (Some d) sofar is = absurd cc
due_is n delta (Some t) due sofar is =
    subst (λ x. IsDueOf x due) sofar (due_of_some t due (is_identity t.pieces) refl is)

-- it queues what it is due
queues : (delta : Delta) (input : ℕ) (kept : List Tree) (queue : List Delta) (due : Option DeltaModel) → IsDueOf delta due
    → with_due due (proxy input kept queue) ≡ proxy input kept (with_queued delta queue)
queues delta input kept queue None e = ap (λ b. proxy input kept (cond b queue (queue ++ delta ∷ []))) (sym e)
queues delta input kept queue (Some d) h =
    ap (λ x. proxy input kept (queue ++ x ∷ [])) h.0
    ∙ ap (λ b. proxy input kept (cond b queue (queue ++ delta ∷ []))) (sym h.1)

-- which leads on
leads_on : (delta : Delta) (queue : List Delta) (kept ys : List Tree) (d : DeltaModel) → IsDueOf delta (Some d)
    → Queued (with_queued delta queue) kept ys → LeadOnFrom (queue ++ d.pieces ∷ []) kept
leads_on delta queue kept ys d h q =
    subst (λ x. LeadOnFrom (queue ++ x ∷ []) kept) (sym h.0)
    (subst (λ b. LeadOnFrom (cond b queue (queue ++ delta ∷ [])) kept) h.1 q.leads)

-- ---- lists that are no proxies

unqueued : (delta : ℕ → Delta) (own : Own) → (class_of_own own ≡ Pumped → ⊥) → queued_own delta own ≡ own
unqueued delta (proxy input kept queue) other = absurd (other refl)
unqueued delta (source contents) other = refl
unqueued delta (over input view) other = refl
unqueued delta (composite needed members) other = refl
unqueued delta (transaction input levels) other = refl
unqueued delta (freezable input since) other = refl

-- a list of such a kind is due this
abbrev IsUndue : ListKind → Option Delta → Type 0
IsUndue (kinds.Proxy input) due = ⊥
IsUndue other due = due ≡ None

other_class : (kind : ListKind) (due : Option Delta) → IsUndue kind due → class_of_kind kind ≡ Pumped → ⊥
other_class (kinds.Proxy input) due other e = absurd other
other_class (kinds.Source rows) due other e = absurd cc
other_class (kinds.Filter input matcher) due other e = absurd cc
other_class (kinds.Sorted input order) due other e = absurd cc
other_class (kinds.Unique input order) due other e = absurd cc
other_class (kinds.Grouping input order) due other e = absurd cc
other_class (kinds.Range input bounds) due other e = absurd cc
other_class (kinds.Function input func) due other e = absurd cc
other_class (kinds.Collection input kids) due other e = absurd cc
other_class (kinds.Composite members may) due other e = absurd cc
other_class (kinds.Transaction input) due other e = absurd cc
other_class (kinds.Freezable input) due other e = absurd cc

none_of : (kind : ListKind) (due : Option Delta) → IsUndue kind due → due ≡ None
none_of (kinds.Proxy input) due other = absurd other
none_of (kinds.Source rows) due other = other
none_of (kinds.Filter input matcher) due other = other
none_of (kinds.Sorted input order) due other = other
none_of (kinds.Unique input order) due other = other
none_of (kinds.Grouping input order) due other = other
none_of (kinds.Range input bounds) due other = other
none_of (kinds.Function input func) due other = other
none_of (kinds.Collection input kids) due other = other
none_of (kinds.Composite members may) due other = other
none_of (kinds.Transaction input) due other = other
none_of (kinds.Freezable input) due other = other

-- ---- each list at the end of an entry

-- it keeps what the definitions say once it has queued what it is due, and that leads on
record HasDue (delta : ℕ → Delta) (own : Own) (due : Option DeltaModel) : Type 0 where
  pub queued_is : with_due due own ≡ queued_own delta own
  pub leads : (d : DeltaModel) → due ≡ Some d → LeadsOn d.pieces own

no_due : (delta : ℕ → Delta) (own : Own) (due : Option DeltaModel) → (class_of_own own ≡ Pumped → ⊥)
    → option_map (λ (d : DeltaModel). d.pieces) due ≡ None → HasDue delta own due
no_due delta own None other none = record {
  queued_is = sym (unqueued delta own other);
  leads = λ d e. absurd (none_some e);
}
  where
    none_some : {x : DeltaModel} → None ≡ Some x → ⊥
    none_some e = absurd cc
no_due delta own (Some d) other none = absurd cc

-- in the state that an entry led to
record Ending (p : Plan) (order : List Actor) (a : Actor) : Type 0 where
  pub keeps : KeepsKinds (opening p) (outcome_of p order a).state
  pub long : length (outcome_of p order a).state ≡ length p.lists
  pub sound : IsSound (outcome_of p order a).state
  pub lead : Lead (outcome_of p order a).deltas (table_of (run p order).state) (table_of (outcome_of p order a).state)
  pub reach : (list : ℕ) → list < length (outcome_of p order a).state
      → Reaches (shown (run p order).state) (own_at (outcome_of p order a).state list)

ending : (p : Plan) (order : List Actor) (a : Actor) → IsWhole p → Ending p order a
ending p order a whole = record {
  keeps = keeps_on (opening p) s now (run_kinds p order) kept;
  long = kept.long ∙ length-state p order;
  sound = outcome_sound p.limit s deed rests.sound suits;
  lead = outcome_leads p.limit s deed rests.sound suits;
  reach = λ list within.
      let there : list < length s = omega (arith, kept.long, within) in
      outcome_said (reaches (shown s)) p.limit s deed (λ input kept d queue r. r) list there (rests.reaches list there);
}
  where
    s : State
    s = (run p order).state

    deed : Deed
    deed = next_deed p order a

    now : State
    now = (outcome p.limit s deed).state

    kept : KeepsKinds s now
    kept = outcome_keeps p.limit s deed

    rests : IsAtRest s
    rests = run_rests p order whole.formed whole.acyclic

    suits : DeedSuits s deed
    suits = next_suits p order a whole.formed

-- what a proxy over an input keeps
record Keeps (p : Plan) (now : State) (list input : ℕ) : Type 0 where
  pub kept : List Tree
  pub queue : List Delta
  pub is : own_at now list ≡ proxy input kept queue
  pub within : input < length now

proxy_keeps : (p : Plan) (now : State) (list input : ℕ) (d : ListDecl) → KeepsKinds (opening p) now → IsSound now
    → slice_get p.lists list ≡ Some d → d.kind ≡ kinds.Proxy input → Keeps p now list input
proxy_keeps p now list input d keeps sound at is =
    let opens : own_at (opening p) list ≡ proxy input (shown_first p input) [] =
    opening_at (shown_first p) p.lists list d at ∙ ap (opening_of (shown_first p)) is in
    let found = proxy_kept (opening p) now list input (shown_first p input) [] keeps opens in
    record {
      kept = found.0;
      queue = found.1;
      is = found.2;
      within = input_within now sound.ordered list input
          (subst (λ own. Contains (inputs own) input) (sym found.2) (Contains-here input [] input refl));
    }

class_at_end : (p : Plan) (now : State) (list : ℕ) (d : ListDecl) → KeepsKinds (opening p) now
    → slice_get p.lists list ≡ Some d → class_of_own (own_at now list) ≡ class_of_kind d.kind
class_at_end p now list d keeps at =
    class_kept (opening p) now keeps list
    ∙ ap class_of_own (opening_at (shown_first p) p.lists list d at) ∙ opening_class (shown_first p) d.kind

each_due : (p : Plan) (order : List Actor) (a : Actor) (told : List (Option DeltaModel)) (due : Option DeltaModel) (list : ℕ)
    (d : ListDecl) → Ending p order a
    → AreDeltas (table_of (run p order).state) (outcome_of p order a).deltas told → slice_get p.lists list ≡ Some d
    → list < length p.lists → option_map (λ (m : DeltaModel). m.pieces) due ≡ due_from told d.kind
    → HasDue (delta_in (outcome_of p order a).deltas) (own_at (outcome_of p order a).state list) due
each_due p order a told due list d end are at low is = by_kind d.kind refl is
  where
    now : State
    now = (outcome_of p order a).state

    deltas : Deltas
    deltas = (outcome_of p order a).deltas

    before : State
    before = (run p order).state

    Has : Own → Type 0
    Has own = HasDue (delta_in deltas) own due

    of_proxy : (input : ℕ) → d.kind ≡ kinds.Proxy input
        → option_map (λ (m : DeltaModel). m.pieces) due ≡ due_delta (slice_index_or told input None)
        → Has (own_at now list)
    of_proxy input e is =
        let k : Keeps p now list input = proxy_keeps p now list input d end.keeps end.sound at e in
        let within : list < length now = omega (arith, low, end.long) in
        let there : input < length now = k.within in
        let row : input < length (table_of before) = omega (arith, end.lead.same, length-table_of now, there) in
        let fits : LeadOnFrom k.queue k.kept = subst (Fits now) k.is (end.sound.fits list within) in
        let reach : applied_all k.queue k.kept ≡ shown before input =
        subst (Reaches (shown before)) k.is (end.reach list within) in
        let mine : IsDueOf (delta_in deltas input) due =
        due_is (length (shows_in (table_of before) input)) (delta_in deltas input) (slice_index_or told input None) due
        (are.each input row) is in
        let q : Queued (with_queued (delta_in deltas input) k.queue) k.kept (shown now input) =
        queued_on k.queue (delta_in deltas input) k.kept (shown before input) (shown now input)
        (record { leads = fits; reaches = reach }) (end.lead.each input row) (end.lead.normal input row) in
        subst Has (sym k.is) (record {
          queued_is = queues (delta_in deltas input) input k.kept k.queue due mine;
          leads = λ m some.
              leads_on (delta_in deltas input) k.queue k.kept (shown now input) m
              (subst (IsDueOf (delta_in deltas input)) some mine) q;
        })

    of_other : IsUndue d.kind (option_map (λ (m : DeltaModel). m.pieces) due) → Has (own_at now list)
    of_other other =
        no_due (delta_in deltas) (own_at now list) due
        (λ e. other_class d.kind _ other (sym (class_at_end p now list d end.keeps at) ∙ e)) (none_of d.kind _ other)

    by_kind : (kind : ListKind) → d.kind ≡ kind → option_map (λ (m : DeltaModel). m.pieces) due ≡ due_from told kind
        → Has (own_at now list)
    by_kind (kinds.Proxy input) e is = of_proxy input e is
    by_kind other e is = of_other (subst (λ k. IsUndue k (option_map (λ (m : DeltaModel). m.pieces) due)) (sym e) is)

-- ---- all lists

-- what may be queued for each list
pub may_queue : (p : Plan) (order : List Actor) (a : Actor) (graph : Kept) (taken : Taken) → IsEntry p order a graph taken
    → (list : ℕ) (d : ListDecl) → slice_get p.lists list ≡ Some d
    → MayQueue (length taken.deltas) d.kind (own_at (state_of graph) list)
may_queue p order a graph taken entry list d at = by_kind d.kind refl
  where
    end : Ending p order a
    end = ending p order a entry.whole

    now : State
    now = (outcome_of p order a).state

    by_kind : (kind : ListKind) → d.kind ≡ kind → MayQueue (length taken.deltas) kind (own_at (state_of graph) list)
    by_kind (kinds.Proxy input) e =
        let k : Keeps p now list input = proxy_keeps p now list input d end.keeps end.sound at e in
        let there : input < length now = k.within in (
          omega (arith, there, entry.deltas.long, end.lead.same, length-table_of now),
          subst IsProxy (sym (ap (λ s. own_at s list) entry.state ∙ k.is)) tt,
        )
    by_kind other e = tt

-- a delta stands under a number that there is
under : (due : List (Option DeltaModel)) (list : ℕ) (d : DeltaModel) → slice_index_or due list None ≡ Some d
    → list < length due
under [] list d is = absurd cc
under (o ∷ due) zero d is = omega arith
under (o ∷ due) (suc list) d is = (let low = under due list d is in omega (arith, low))

-- what the lists are due can be queued
pub can_queue : (p : Plan) (order : List Actor) (a : Actor) (graph next : Kept) (taken : Taken) (due : List (Option DeltaModel))
    → IsEntry p order a graph taken → IsLike graph next → AreDue p.lists taken.deltas due → HaveQueueRoom due next
    → CanQueue due next
can_queue p order a graph next taken due entry like are room = record {
  leads = λ list d is.
      let low : list < length p.lists = (let there = under due list d is in omega (arith, there, are.long)) in
      let found : (e : ListDecl) × (slice_get p.lists list ≡ Some e) = decl_at p.lists list low in
      let has : HasDue (delta_in (outcome_of p order a).deltas) (own_at (outcome_of p order a).state list) (slice_index_or due list None) =
      each_due p order a taken.deltas (slice_index_or due list None) list found.0 (ending p order a entry.whole) entry.deltas
      found.1 low (are.each list found.0 found.1) in
      let state : state_of next ≡ (outcome_of p order a).state = contents_same_state next graph like.same ∙ entry.state in
      subst (λ s. LeadsOn d.pieces (own_at s list)) (sym state) (has.leads d is);
  room = room;
}

-- states whose lists keep the same are the same
same_state : (s t : State) → length s ≡ length t → ((k : ℕ) → k < length s → own_at s k ≡ own_at t k) → s ≡ t
same_state [] [] long each = refl
same_state [] (b ∷ t) long each = absurd cc
same_state (a ∷ s) [] long each = absurd cc
same_state (a ∷ s) (b ∷ t) long each =
    let first : a ≡ b = each 0 (omega arith) in
    let rest : s ≡ t =
    same_state s t (omega (arith, long)) (λ k low. each (suc k) (omega (arith, low))) in
    ap (λ o. o ∷ s) first ∙ ap (λ os. b ∷ os) rest

-- once they have, the state is that of the definitions
pub queued_state : (p : Plan) (order : List Actor) (a : Actor) (graph next : Kept) (taken : Taken)
    (due : List (Option DeltaModel)) (t : State) → IsEntry p order a graph taken → IsLike graph next
    → AreDue p.lists taken.deltas due → AreQueued due (state_of next) t
    → t ≡ queued (outcome_of p order a).deltas (state_of graph)
queued_state p order a graph next taken due t entry like are done =
    same_state t (queued deltas now) (omega (arith, done.long, ap length state, (queued_keeps deltas now).long)) each
    ∙ ap (queued deltas) (sym entry.state)
  where
    now : State
    now = (outcome_of p order a).state

    deltas : Deltas
    deltas = (outcome_of p order a).deltas

    state : state_of next ≡ now
    state = contents_same_state next graph like.same ∙ entry.state

    end : Ending p order a
    end = ending p order a entry.whole

    each : (list : ℕ) → list < length t → own_at t list ≡ own_at (queued deltas now) list
    each list within =
        let low : list < length p.lists = omega (arith, within, done.long, ap length state, end.long) in
        let found : (e : ListDecl) × (slice_get p.lists list ≡ Some e) = decl_at p.lists list low in
        let has : HasDue (delta_in deltas) (own_at now list) (slice_index_or due list None) =
        each_due p order a taken.deltas (slice_index_or due list None) list found.0 end entry.deltas found.1 low
        (are.each list found.0 found.1) in
        done.each list (omega (arith, low, are.long)) ∙ ap (λ s. with_due (slice_index_or due list None) (own_at s list)) state
        ∙ has.queued_is ∙ sym (own_at_queued deltas now list)
