-- A world with one entry more.
use Rattle.std.proofs.Common.{◌≡◌, ◌≢◌, ◌∙◌, ℕ, zero, suc, ◌+◌, ◌<◌, ◌++◌, List, [], ◌∷◌, length, refl, ap, sym, arith, inl, inr, subst, slice_set, get_or-set_same, get_or-set_other, eq-eqb, append_assoc, append-nil}
use Rattle.std.specs.Prelude.{Option, Some, None, Ok, Err, slice_get, slice_index}
use Rattle.std.specs.List.{AllByRecursion}
use Rattle.std.proofs.lemmas.Bool.{cases_eq, ne_eqb}
use Rattle.gl_outside.specs.declared.gate.Actor.{Actor}
use Rattle.gl_outside.specs.declared.gate.Actor.TheVariants.{Writer, Proxy}
use Rattle.spec_states.specs.Command.{Command}
use Rattle.spec_states.specs.Reply.{Reply}
use Rattle.gl_delta.specs.Model.{DeltaModel}
use Rattle.spec_states.specs.Delta.{Delta}
use Rattle.spec_states.specs.ListClass.TheVariants.{Pumped}
use Rattle.spec_states.specs.Plan.{Plan, commands_of, sections_of, proxies_of}
use Rattle.spec_states.specs.View.{filter, sorted, unique, grouping, range, function, collection}
use Rattle.spec_states.specs.Opening.{opening}
use Rattle.spec_states.specs.Wave.{pump, wave, wave_deltas}
use Rattle.spec_states.specs.Step.{too_long}
use Rattle.spec_states.specs.State.{Own, State, source, over, composite, transaction, freezable, proxy, own_at}
use Rattle.spec_states.specs.Shown.{table_of}
use Rattle.spec_states.specs.Laws.{IsSound}
use Rattle.spec_states.proofs.Views.{length-table_of}
use Rattle.spec_runs.specs.Kinds.{IsFor, class_of_own}
use Rattle.spec_runs.specs.Run.{run}
use Rattle.spec_runs.specs.Section.{state_after, replies_to, section_deltas}
use Rattle.spec_runs.specs.Telling.{tellings}
use Rattle.spec_runs.specs.Entry.{Outcome, outcome, pumping, pumping_of, taken_by, queued}
use Rattle.spec_runs.specs.Fits.{Fits, Reason, queue_of, reason_of_queue, reason_of_proxy, reason_at, bad_place_from}
use Rattle.spec_runs.proofs.Runs.{state_more, replies_more, told_more, taken_more}
use Rattle.spec_runs.proofs.KeptKinds.{length-state, run_kinds, class_kept}
use Rattle.spec_runs.proofs.Ordered.{run_sound, heard_within}
use Rattle.spec_runs.proofs.Suits.{commands_suit, opening_has}
use Rattle.spec_runs.proofs.Pumps.{proxy_at}
use Rattle.spec_runs.proofs.Limits.{Holds, run_holds, deed_within}
use Rattle.gl_graph.specs.Graph.{Kept, state_of}
use Rattle.gl_graph.specs.Queues.{IsProxy, queue_of as graph_queue}
use Rattle.gl_graph.specs.Waves.{Contents, contents}
use Rattle.gl_graph.proofs.Progress.{contents_same_state}
use Rattle.gl_tell.specs.Teller.{TellerModel}
use Rattle.gl_tell.specs.Heard.{AreHeard}
use Rattle.gl_tell.specs.Handed.{AreHanded}
use Rattle.gl_world.specs.Section.{AreDeltas}
use Rattle.gl_world.specs.declared.section.Taken.{Taken}
use Rattle.gl_world.specs.Back.{Leads}
use Rattle.gl_world.specs.Entry.{outcome_of, IsEntry}
use Rattle.gl_world.specs.Pumped.{queue_after}
use Rattle.gl_world.specs.World.{IsWorld}
use Rattle.gl_world.proofs.Tellings.{heard_of}
use Rattle.spec_runs.proofs.Finish.{may_take}

-- ---- orders that fit

none_some : {X : Type 0} {x : X} → Some x ≡ None → ⊥
none_some e = absurd cc

fits_after : (p : Plan) (before rest : List Actor) (a : Actor) → bad_place_from p before rest ≡ None
    → reason_at p (before ++ rest) a ≡ None → bad_place_from p before (rest ++ a ∷ []) ≡ None
fits_after p before [] a fits none =
    let here : reason_at p before a ≡ None = subst (λ o. reason_at p o a ≡ None) (append-nil before) none in
    rw here refl
fits_after p before (b ∷ rest) a fits none =
    by_reason (reason_at p before b) refl
    (λ left. fits_after p (before ++ b ∷ []) rest a left
    (subst (λ o. reason_at p o a ≡ None) (sym (append_assoc before (b ∷ []) rest)) none))
  where
    by_reason : (r : Option Reason) → reason_at p before b ≡ r
        → (bad_place_from p (before ++ b ∷ []) rest ≡ None → bad_place_from p (before ++ b ∷ []) (rest ++ a ∷ []) ≡ None)
        → bad_place_from p before (b ∷ (rest ++ a ∷ [])) ≡ None
    by_reason (Some reason) e later = absurd (none_some (rw e at fits))
    by_reason None e later = rw e (later (rw e at fits))

pub fits_more : (p : Plan) (order : List Actor) (a : Actor) → Fits p order → reason_at p order a ≡ None
    → Fits p (order ++ a ∷ [])
fits_more p order a fits none = fits_after p [] order a fits none

-- ---- the counters

-- the counters once a writer took one section more
counted : (order : List Actor) (taken : List ℕ) (w k : ℕ) → w < length taken → slice_index taken w ≡ taken_by w order
    → slice_index taken k ≡ taken_by k order
    → slice_index (slice_set taken w (taken_by w order + 1)) k ≡ taken_by k (order ++ Writer w ∷ [])
counted order taken w k there before here = elim (cases_eq k w) [
  | inl e ↦ let P : ℕ → Type 0 = λ m. slice_index (slice_set taken w (taken_by w order + 1)) m
      ≡ taken_by m (order ++ Writer w ∷ []) in subst P (sym e)
      (get_or-set_same taken w (taken_by w order + 1) 0 there ∙ sym (taken_more w order (Writer w) ∙ same w))
  | inr ne ↦ get_or-set_other taken w k (taken_by w order + 1) 0 ne ∙ here
      ∙ sym (taken_more k order (Writer w) ∙ other ne)
]
  where
    same : (m : ℕ) → taken_by m order + taken_by m (Writer m ∷ []) ≡ taken_by m order + 1
    same m = rw (eq-eqb m m refl) refl

    other : k ≢ w → taken_by k order + taken_by k (Writer w ∷ []) ≡ taken_by k order
    other ne = rw (ne_eqb w k (λ e. ne (sym e))) (omega arith)

-- ---- entries

-- what a world keeps is one thing, so that entries speak of it
pub record Inside : Type 0 where
  pub plan : Plan
  pub order : List Actor
  pub graph : Kept
  pub replies : List (List Reply)
  pub teller : TellerModel
  pub taken : List ℕ

abbrev pub Stands : Inside → Type 0
Stands i = IsWorld i.plan i.order i.graph i.replies i.teller i.taken

-- an actor's entry was written down
pub record IsEntered (i : Inside) (a : Actor) (graph : Kept) (order : List Actor) (replies : List (List Reply))
    (teller : TellerModel) : Type 0 where
  pub fits : reason_at i.plan i.order a ≡ None
  pub order_is : order ≡ i.order ++ a ∷ []
  pub limit : graph.limit ≡ i.graph.limit
  pub state : state_of graph ≡ queued (outcome_of i.plan i.order a).deltas (outcome_of i.plan i.order a).state
  pub replies_are : replies ≡ i.replies ++ (outcome_of i.plan i.order a).replies ∷ []
  pub plan : teller.plan ≡ i.teller.plan
  pub told : teller.told ≡ i.teller.told ++ tellings i.plan (length i.order) (outcome_of i.plan i.order a).deltas

-- by the call that ends it, where this was taken, and room was made before
pub entered : (i : Inside) (a : Actor) (mid graph : Kept) (taken : Taken) (roomy order : List Actor)
    (spare replies : List (List Reply)) (made teller : TellerModel) → IsEntry i.plan i.order a mid taken
    → reason_at i.plan i.order a ≡ None → roomy ≡ i.order → spare ≡ i.replies → made.plan ≡ i.teller.plan
    → made.told ≡ i.teller.told → mid.limit ≡ i.graph.limit → order ≡ roomy ++ a ∷ [] → replies ≡ spare ++ taken.replies ∷ []
    → graph.limit ≡ mid.limit → state_of graph ≡ queued (outcome_of i.plan roomy a).deltas (state_of mid)
    → teller.plan ≡ made.plan
    → teller.told ≡ made.told ++ tellings i.plan (length roomy) (outcome_of i.plan roomy a).deltas
    → IsEntered i a graph order replies teller
entered i a mid graph taken roomy order spare replies made teller entry fits same_order same_replies same_plan same_told mid_limit
    order_is replies_are limit state plan told =
    record {
      fits = fits;
      order_is = order_is ∙ ap (λ o. o ++ a ∷ []) same_order;
      limit = limit ∙ mid_limit;
      state = state ∙ ap (λ o. queued (outcome_of i.plan o a).deltas (state_of mid)) same_order
          ∙ ap (queued (outcome_of i.plan i.order a).deltas) entry.state;
      replies_are = replies_are ∙ ap (λ rs. rs ++ taken.replies ∷ []) same_replies
          ∙ ap (λ r. i.replies ++ r ∷ []) entry.replies;
      plan = plan ∙ same_plan;
      told = told ∙ ap (λ ts. ts ++ tellings i.plan (length roomy) (outcome_of i.plan roomy a).deltas) same_told
          ∙ ap (λ o. i.teller.told ++ tellings i.plan (length o) (outcome_of i.plan o a).deltas) same_order;
    }

pub world_more : (i : Inside) (a : Actor) (graph : Kept) (order : List Actor) (replies : List (List Reply)) (teller : TellerModel)
    (taken : List ℕ) → Stands i → IsEntered i a graph order replies teller → length taken ≡ length i.plan.writers
    → ((w : ℕ) → w < length i.plan.writers → slice_index taken w ≡ taken_by w (i.order ++ a ∷ []))
    → IsWorld i.plan order graph replies teller taken
world_more i a graph order replies teller taken world done long counts =
    subst (λ o. IsWorld i.plan o graph replies teller taken) (sym done.order_is) (record {
      whole = world.whole;
      opens = world.opens;
      fits = fits_more i.plan i.order a world.fits done.fits;
      state = done.state ∙ sym (state_more i.plan i.order a);
      limit = done.limit ∙ world.limit;
      answers = done.replies_are ∙ ap (λ rs. rs ++ (outcome_of i.plan i.order a).replies ∷ []) world.answers
          ∙ sym (replies_more i.plan i.order a);
      listeners = done.plan ∙ world.listeners;
      tellings = done.told
          ∙ ap (λ ts. ts ++ tellings i.plan (length i.order) (outcome_of i.plan i.order a).deltas) world.tellings
          ∙ sym (told_more i.plan i.order a);
      writers = long;
      sections = counts;
    })

-- an entry was taken back
pub world_back : (i : Inside) (new : Kept) (order : List Actor) (replies : List (List Reply)) (teller : TellerModel) → Stands i
    → contents new ≡ contents i.graph → order ≡ i.order → replies ≡ i.replies
    → teller.plan ≡ i.teller.plan → teller.told ≡ i.teller.told
    → IsWorld i.plan order new replies teller i.taken
world_back i new order replies teller world same order_is replies_are plan_is told_is =
    subst (λ o. IsWorld i.plan o new replies teller i.taken) (sym order_is) (record {
      whole = world.whole;
      opens = world.opens;
      fits = world.fits;
      state = contents_same_state new i.graph same ∙ world.state;
      limit = ap (λ (c : Contents). c.limit) same ∙ world.limit;
      answers = replies_are ∙ world.answers;
      listeners = plan_is ∙ world.listeners;
      tellings = told_is ∙ world.tellings;
      writers = world.writers;
      sections = world.sections;
    })

-- ---- what an entry needs

pub world_lists : (i : Inside) → Stands i → length (state_of i.graph) ≡ length i.plan.lists
world_lists i world = ap length world.state ∙ length-state i.plan i.order

pub world_sound : (i : Inside) → Stands i → IsSound (state_of i.graph)
world_sound i world = subst IsSound (sym world.state) (run_sound i.plan i.order world.whole.formed world.whole.acyclic)

-- ---- a section

-- a section is the next that a writer has left
pub record IsNext (i : Inside) (w section : ℕ) : Type 0 where
  pub there : w < length i.plan.writers
  pub section_is : section ≡ taken_by w i.order
  pub left : section < length (sections_of i.plan w)

pub section_fits : (i : Inside) (w section : ℕ) → IsNext i w section → reason_at i.plan i.order (Writer w) ≡ None
section_fits i w section next =
    may_take i.plan i.order w next.there (subst (λ n. n < length (sections_of i.plan w)) next.section_is next.left)

pub world_suits : (i : Inside) (w section : ℕ) → Stands i
    → AllByRecursion (λ c. IsFor c (state_of i.graph)) (commands_of i.plan w section)
world_suits i w section world =
    subst (λ s. AllByRecursion (λ c. IsFor c s) (commands_of i.plan w section)) (sym world.state)
    (commands_suit i.plan i.order [] w section world.whole.formed)

-- its commands were taken
pub section_entry : (i : Inside) (w section : ℕ) (commands : List Command) (graph : Kept) (taken : Taken) → Stands i
    → IsNext i w section → commands ≡ commands_of i.plan w section
    → state_of graph ≡ state_after i.graph.limit (state_of i.graph) commands
    → taken.replies ≡ replies_to i.graph.limit (state_of i.graph) commands
    → AreDeltas (table_of (state_of i.graph)) (section_deltas i.graph.limit (state_of i.graph) commands) taken.deltas
    → Leads taken.undos.items i.graph graph → IsEntry i.plan i.order (Writer w) graph taken
section_entry i w section commands graph taken world next is state replies deltas back = record {
  whole = world.whole;
  state = state ∙ same (λ limit s cs. state_after limit s cs);
  replies = replies ∙ same (λ limit s cs. replies_to limit s cs);
  deltas = subst (λ ds. AreDeltas (table_of s) ds taken.deltas) (same (λ limit s cs. section_deltas limit s cs))
      (subst (λ t. AreDeltas (table_of t) (section_deltas i.graph.limit (state_of i.graph) commands) taken.deltas) world.state
      deltas);
  back = (i.graph, back);
}
  where
    s : State
    s = (run i.plan i.order).state

    cs : List Command
    cs = commands_of i.plan w (taken_by w i.order)

    these : commands ≡ cs
    these = is ∙ ap (commands_of i.plan w) next.section_is

    same : {X : Type 0} (f : ℕ → State → List Command → X)
        → f i.graph.limit (state_of i.graph) commands ≡ f i.plan.limit s cs
    same f =
        ap (λ limit. f limit (state_of i.graph) commands) world.limit ∙ ap (λ t. f i.plan.limit t commands) world.state
        ∙ ap (f i.plan.limit s) these

-- one section more is counted
pub section_counts : (i : Inside) (w section : ℕ) → Stands i → IsNext i w section → (k : ℕ) → k < length i.plan.writers
    → slice_index (slice_set i.taken w (section + 1)) k ≡ taken_by k (i.order ++ Writer w ∷ [])
section_counts i w section world next k within =
    let there : w < length i.plan.writers = next.there in
    ap (λ n. slice_index (slice_set i.taken w (n + 1)) k) next.section_is
    ∙ counted i.order i.taken w k (omega (arith, there, world.writers)) (world.sections w there) (world.sections k within)

-- ---- a pump

-- the list of this number is the n-th proxy
abbrev pub IsNth : Inside → ℕ → ℕ → Type 0
IsNth i n list = slice_get (proxies_of i.plan) n ≡ Some list

pub nth_of : (xs : List ℕ) (n : ℕ) → n < length xs → slice_get xs n ≡ Some (slice_index xs n)
nth_of [] n within = absurd (omega (arith, within))
nth_of (x ∷ xs) zero within = refl
nth_of (x ∷ xs) (suc n) within = nth_of xs n (omega (arith, within))

nth_is : (xs : List ℕ) (n x : ℕ) → slice_get xs n ≡ Some x → x ≡ slice_index xs n
nth_is [] n x is = absurd cc
nth_is (y ∷ xs) zero x is = (let same : y ≡ x = cc in sym same)
nth_is (y ∷ xs) (suc n) x is = nth_is xs n x is

pumped_class : (own : Own) → class_of_own own ≡ Pumped → IsProxy own
pumped_class (proxy input kept queue) e = tt
pumped_class (source contents) e = absurd cc
pumped_class (over input (filter matcher)) e = absurd cc
pumped_class (over input (sorted keys)) e = absurd cc
pumped_class (over input (unique keys)) e = absurd cc
pumped_class (over input (grouping keys)) e = absurd cc
pumped_class (over input (range bounds)) e = absurd cc
pumped_class (over input (function func)) e = absurd cc
pumped_class (over input (collection path)) e = absurd cc
pumped_class (composite needed members) e = absurd cc
pumped_class (transaction input levels) e = absurd cc
pumped_class (freezable input since) e = absurd cc

pub pump_proxy : (i : Inside) (n list : ℕ) → Stands i → IsNth i n list → IsProxy (own_at (state_of i.graph) list)
pump_proxy i n list world nth =
    subst (λ s. IsProxy (own_at s list)) (sym world.state)
    (pumped_class (own_at (run i.plan i.order).state list)
    (class_kept (opening i.plan) (run i.plan i.order).state (run_kinds i.plan i.order) list
    ∙ (opening_has i.plan list Pumped (proxy_at i.plan n list nth)).1))

-- what a proxy takes makes no list too long
pub pump_short : (i : Inside) (n list : ℕ) → Stands i → IsNth i n list
    → too_long i.graph.limit (wave (state_of i.graph) (pump list)) ≡ None
pump_short i n list world nth =
    let p : Plan = i.plan in
    let s : State = (run p i.order).state in
    let holds : Holds p s = run_holds p i.order world.whole.formed world.whole.acyclic world.opens in
    let short : too_long p.limit (outcome p.limit s (pumping_of (slice_get (proxies_of p) n))).state ≡ None =
    deed_within p s i.order (Proxy n) world.whole.formed holds.keeps holds.rests.sound holds.few in
    ap (λ limit. too_long limit (wave (state_of i.graph) (pump list))) world.limit
    ∙ ap (λ t. too_long p.limit (wave t (pump list))) world.state
    ∙ subst (λ o. too_long p.limit (outcome p.limit s (pumping_of o)).state ≡ None) nth short

pub same_queue : (own : Own) → graph_queue own ≡ queue_of own
same_queue (proxy input kept queue) = refl
same_queue (source contents) = refl
same_queue (over input view) = refl
same_queue (composite needed members) = refl
same_queue (transaction input levels) = refl
same_queue (freezable input since) = refl

-- what the graph says of the queue, the run does
pub queue_is : (i : Inside) (n list : ℕ) → Stands i → IsNth i n list
    → graph_queue (own_at (state_of i.graph) list) ≡ queue_after i.plan i.order n
queue_is i n list world nth =
    same_queue (own_at (state_of i.graph) list) ∙ ap (λ s. queue_of (own_at s list)) world.state
    ∙ ap (λ k. queue_of (own_at (run i.plan i.order).state k)) (nth_is (proxies_of i.plan) n list nth)

reason_none : (queue : List Delta) → ¬ (queue ≡ []) → reason_of_queue queue ≡ None
reason_none [] some = absurd (some refl)
reason_none (d ∷ queue) some = refl

pub pump_fits : (i : Inside) (n list : ℕ) → IsNth i n list → ¬ (queue_after i.plan i.order n ≡ [])
    → reason_at i.plan i.order (Proxy n) ≡ None
pump_fits i n list nth some =
    let is : list ≡ slice_index (proxies_of i.plan) n = nth_is (proxies_of i.plan) n list nth in
    ap (reason_of_proxy (run i.plan i.order).state) (nth ∙ ap Some is)
    ∙ reason_none (queue_after i.plan i.order n) some

-- a pump that was taken had something to take
pub some_pumped : {X F : Type 0} {fault : F} (x : X) → Ok x ≡ Err fault → ⊥
some_pumped x e = absurd cc

pub pump_entry : (i : Inside) (n list : ℕ) (graph : Kept) (taken : Taken) → Stands i → IsNth i n list
    → state_of graph ≡ wave (state_of i.graph) (pump list) → taken.replies ≡ []
    → AreDeltas (table_of (state_of i.graph)) (wave_deltas (state_of i.graph) (pump list)) taken.deltas
    → Leads taken.undos.items i.graph graph → IsEntry i.plan i.order (Proxy n) graph taken
pump_entry i n list graph taken world nth state replies deltas back = record {
  whole = world.whole;
  state = state ∙ ap (λ t. wave t (pump list)) world.state ∙ ap (λ (o : Outcome). o.state) this;
  replies = replies ∙ ap (λ (o : Outcome). o.replies) this;
  deltas = subst (λ (o : Outcome). AreDeltas (table_of s) o.deltas taken.deltas) this
      (subst (λ t. AreDeltas (table_of t) (wave_deltas t (pump list)) taken.deltas) world.state deltas);
  back = (i.graph, back);
}
  where
    s : State
    s = (run i.plan i.order).state

    this : outcome i.plan.limit s (pumping list) ≡ outcome_of i.plan i.order (Proxy n)
    this = sym (ap (λ o. outcome i.plan.limit s (pumping_of o)) nth)

-- no section more is counted
pub pump_counts : (i : Inside) (n : ℕ) → Stands i → (k : ℕ) → k < length i.plan.writers
    → slice_index i.taken k ≡ taken_by k (i.order ++ Proxy n ∷ [])
pump_counts i n world k within =
    world.sections k within ∙ sym (taken_more k i.order (Proxy n) ∙ omega arith)

-- ---- what writing an entry down needs

-- the deltas handed to the listeners are those of the entry
pub entry_told : (p : Plan) (order : List Actor) (a : Actor) (graph : Kept) (taken : Taken) (heard : List (Option DeltaModel))
    → IsEntry p order a graph taken → AreHanded p taken.deltas heard → AreHeard p (outcome_of p order a).deltas heard
entry_told p order a graph taken heard entry handed =
    let s : State = (run p order).state in
    let long : length (table_of s) ≡ length p.lists = length-table_of s ∙ length-state p order in
    heard_of p (table_of s) (outcome_of p order a).deltas taken.deltas heard entry.deltas handed
    (subst (λ n. AllByRecursion (λ d. d.list < n) p.listeners) (sym long) (heard_within p entry.whole.formed))

pub entry_long : (p : Plan) (order : List Actor) (a : Actor) (graph : Kept) (taken : Taken) → IsEntry p order a graph taken
    → length taken.deltas ≡ length p.lists
entry_long p order a graph taken entry =
    entry.deltas.long ∙ length-table_of (run p order).state ∙ length-state p order
