-- The lists and the listeners of a well-formed plan without cycles have an order, and every state of its runs is sound.
use Rattle.std.proofs.Common.{◌≡◌, ◌∙◌, ◌<◌, ◌++◌, ℕ, zero, suc, List, [], ◌∷◌, length, fold, refl, sym, subst, arith, inl, inr}
use Rattle.std.specs.Prelude.{Some, slice_get}
use Rattle.std.specs.List.{AllByRecursion, Contains}
use Rattle.std.proofs.lemmas.List.Elements.{recursion_from_All, All-from_recursion, Contains-append_left}
use Rattle.spec_value.specs.Tree.{Tree}
use Rattle.gl_outside.specs.declared.gate.Actor.{Actor}
use Rattle.gl_lines.specs.declared.plan.Command.{Command}
use Rattle.gl_lines.specs.declared.plan.ListDecl.{ListDecl}
use Rattle.gl_lines.specs.declared.plan.ListKind.{ListKind}
use Rattle.gl_lines.specs.declared.plan.ListKind.TheVariants as kinds
use Rattle.spec_plans.specs.Edges.{AreWithin}
use Rattle.spec_plans.specs.Order.{IsOrder}
use Rattle.spec_plans.specs.Cycle.{HasCycle}
use Rattle.spec_plans.proofs.Exists.{order_or_cycle}
use Rattle.spec_plans.proofs.Prefixes.{prefix_below}
use Rattle.spec_plans.proofs.Members.{Contains-here, Contains-later}
use Rattle.spec_plans.specs.declared.class.ListClass.TheVariants.{Edited}
use Rattle.spec_plans.specs.Plan.{Plan, listener_edges}
use Rattle.spec_plans.specs.Cycles.{IsAcyclic}
use Rattle.spec_plans.specs.WellFormed.{HasList, HasInputs, HasHeard, IsWellFormed}
use Rattle.spec_plans.proofs.Within.{lists_within, listeners_within}
use Rattle.spec_views.specs.View.{filter, sorted, unique, grouping, range, function, collection}
use Rattle.spec_states.specs.State.{Own, State, source, over, composite, transaction, freezable, proxy, inputs, own_at, opening_of}
use Rattle.spec_states.specs.Shown.{shown, EachShowsItsView}
use Rattle.spec_states.specs.Opening.{opening, shown_first}
use Rattle.spec_states.specs.Laws.{IsOrdered, IsSource, Fits, IsSound}
use Rattle.spec_runs.specs.Section.{state_after}
use Rattle.spec_runs.specs.Entry.{next_deed}
use Rattle.spec_runs.specs.Telling.{listener_dependency_order}
use Rattle.spec_runs.specs.Run.{Run, run, start, entry}
use Rattle.spec_runs.specs.Kinds.{class_of_own, KeepsKinds, IsFor}
use Rattle.spec_runs.proofs.KeptKinds.{keeps_same, keeps_on, entry_keeps, run_kinds}
use Rattle.spec_runs.proofs.Queues.{Reaches, IsAtRest}
use Rattle.spec_runs.proofs.Entries.{DeedSuits, entry_rests}
use Rattle.spec_runs.proofs.Sections.{after_sound}
use Rattle.spec_runs.proofs.Suits.{opening_at, opening_has, deed_suits, all_suit}
use Rattle.spec_states.proofs.DependencyOrder.{input_within}
use Rattle.spec_states.proofs.Views.{views_of_state}
use Rattle.spec_states.proofs.Openings.{length-opening, opening_ordered, opening_shows}
use Rattle.spec_views.proofs.Lists.{all_weaker, all_by_index}

pub well_formed_ordered : (p : Plan) → IsWellFormed p → IsAcyclic p → IsOrdered (opening p)
well_formed_ordered p h free = opening_ordered p (lists_within p h) free.lists

-- ---- what the lists of a well-formed plan open with

-- a list of the plan has its declaration
pub decl_at : (ds : List ListDecl) (k : ℕ) → k < length ds
    → (d : ListDecl) × (slice_get ds k ≡ Some d)
decl_at [] k within = absurd (omega (arith, within))
decl_at (d ∷ ds) zero within = (d, refl)
decl_at (d ∷ ds) (suc k) within = decl_at ds k (omega (arith, within))

is_source : (own : Own) → class_of_own own ≡ Edited → IsSource own
is_source (source contents) e = tt
is_source (over input (filter matcher)) e = absurd cc
is_source (over input (sorted keys)) e = absurd cc
is_source (over input (unique keys)) e = absurd cc
is_source (over input (grouping keys)) e = absurd cc
is_source (over input (range bounds)) e = absurd cc
is_source (over input (function func)) e = absurd cc
is_source (over input (collection path)) e = absurd cc
is_source (composite needed members) e = absurd cc
is_source (transaction input levels) e = absurd cc
is_source (freezable input since) e = absurd cc
is_source (proxy input kept queue) e = absurd cc

all_among : (xs ys : List ℕ) → AllByRecursion (λ x. Contains (xs ++ ys) x) xs
all_among xs ys = all_by_index (λ x. Contains (xs ++ ys) x) xs (λ k x e. Contains-append_left xs ys x (contains_at xs k x e))
  where
    contains_at : (xs : List ℕ) (k x : ℕ) → slice_get xs k ≡ Some x → Contains xs x
    contains_at [] k x e = absurd cc
    contains_at (y ∷ ys) zero x e = Contains-here y ys x cc
    contains_at (y ∷ ys) (suc k) x e = Contains-later y ys x (contains_at ys k x e)

-- what a list of a plan opens with fits the others
opening_fits : (p : Plan) (kind : ListKind) → HasInputs p kind
    → Fits (opening p) (opening_of (shown_first p) kind)
    × Reaches (shown_first p) (opening_of (shown_first p) kind)
opening_fits p (kinds.Source rows) h = (tt, tt)
opening_fits p (kinds.Filter input matcher) h = (tt, tt)
opening_fits p (kinds.Sorted input order) h = (tt, tt)
opening_fits p (kinds.Unique input order) h = (tt, tt)
opening_fits p (kinds.Grouping input order) h = (tt, tt)
opening_fits p (kinds.Range input bounds) h = (tt, tt)
opening_fits p (kinds.Function input func) h = (tt, tt)
opening_fits p (kinds.Collection input kids) h = (tt, tt)
opening_fits p (kinds.Composite members may) h = (All-from_recursion _ members (all_among members may), tt)
opening_fits p (kinds.Transaction input) h =
    let over : HasList p (Some Edited) input = (recursion_from_All (HasList p (Some Edited)) (input ∷ []) h).0 in
    ((is_source (own_at (opening p) input) (opening_has p input Edited over).1, tt), tt)
opening_fits p (kinds.Freezable input) h = (tt, tt)
opening_fits p (kinds.Proxy input) h = (tt, refl)

-- the inputs of a list of a plan are as its kind needs them
pub inputs_needed : (p : Plan) (ds : List ListDecl) (k : ℕ) (d : ListDecl)
    → AllByRecursion (λ e. HasInputs p e.kind) ds → slice_get ds k ≡ Some d → HasInputs p d.kind
inputs_needed p [] k d h e = absurd cc
inputs_needed p (first ∷ ds) zero d h e =
    let same : first ≡ d = cc in subst (λ (l : ListDecl). HasInputs p l.kind) same h.0
inputs_needed p (first ∷ ds) (suc k) d h e = inputs_needed p ds k d h.1 e

-- a list of an opening fits the others, and where it is a proxy it reaches what its input shows
record Opens (p : Plan) (own : Own) : Type 0 where
  fits : Fits (opening p) own
  reaches : Reaches (shown (opening p)) own

reaches_shown : (f g : ℕ → List Tree) (own : Own) → ((i : ℕ) → Contains (inputs own) i → f i ≡ g i)
    → Reaches f own → Reaches g own
reaches_shown f g (proxy input kept queue) same r = r ∙ same input (Contains-here input [] input refl)
reaches_shown f g (source contents) same r = tt
reaches_shown f g (over input view) same r = tt
reaches_shown f g (composite needed members) same r = tt
reaches_shown f g (transaction input levels) same r = tt
reaches_shown f g (freezable input since) same r = tt

-- a well-formed plan without cycles opens at rest
pub opening_rests : (p : Plan) → IsWellFormed p → IsAcyclic p → IsAtRest (opening p)
opening_rests p h free = record {
  sound = record { ordered = order; fits = λ list within. (opens list (omega (arith, length-opening p, within))).fits };
  reaches = λ list within. (opens list (omega (arith, length-opening p, within))).reaches;
}
  where
    order : IsOrdered (opening p)
    order = well_formed_ordered p h free

    opens : (list : ℕ) → list < length p.lists → Opens p (own_at (opening p) list)
    opens list within =
        let found : (d : ListDecl) × (slice_get p.lists list ≡ Some d) = decl_at p.lists list within in
        let kind : ListKind = found.0.kind in
        let is : own_at (opening p) list ≡ opening_of (shown_first p) kind =
        opening_at (shown_first p) p.lists list found.0 found.1 in
        let here = opening_fits p kind (inputs_needed p p.lists list found.0
        (recursion_from_All (λ e. HasInputs p e.kind) p.lists h.inputs) found.1) in
        let fits : Fits (opening p) (own_at (opening p) list) = subst (Fits (opening p)) (sym is) here.0 in
        let first : Reaches (shown_first p) (own_at (opening p) list) =
        subst (Reaches (shown_first p)) (sym is) here.1 in
        record {
          fits = fits;
          reaches = reaches_shown (shown_first p) (shown (opening p)) (own_at (opening p) list) (λ i c.
              sym (opening_shows p order i
              (omega (arith, length-opening p, input_within (opening p) order list i c)))) first;
        }

pub opening_sound : (p : Plan) → IsWellFormed p → IsAcyclic p → IsSound (opening p)
opening_sound p h free = (opening_rests p h free).sound

-- ---- listeners

-- listeners that are told after listeners of the plan, and none after itself through others, have an order
pub listeners_ordered : (p : Plan) → AreWithin (length p.listeners) (listener_edges p)
    → ¬ HasCycle (listener_edges p)
    → IsOrder (length p.listeners) (listener_edges p) (listener_dependency_order p)
listeners_ordered p within free = elim (order_or_cycle (length p.listeners) (listener_edges p) within) [
  | inl order ↦ order
  | inr cycle ↦ absurd (free cycle)
]

pub well_formed_listeners : (p : Plan) → IsWellFormed p → IsAcyclic p
    → IsOrder (length p.listeners) (listener_edges p) (listener_dependency_order p)
well_formed_listeners p h free = listeners_ordered p (listeners_within p h) free.listeners

-- it has each of them, once, and nothing else
pub length-listener_dependency_order : (p : Plan)
    → IsOrder (length p.listeners) (listener_edges p) (listener_dependency_order p)
    → length (listener_dependency_order p) ≡ length p.listeners
length-listener_dependency_order p h = h.whole

pub listener_order_below : (p : Plan)
    → IsOrder (length p.listeners) (listener_edges p) (listener_dependency_order p)
    → AllByRecursion (λ k. k < length p.listeners) (listener_dependency_order p)
listener_order_below p h =
    recursion_from_All (λ k. k < length p.listeners) (listener_dependency_order p)
    (prefix_below (length p.listeners) (listener_edges p) (listener_dependency_order p) h.prefix)

-- and each of them hears a list of the plan
pub heard_within : (p : Plan) → IsWellFormed p
    → AllByRecursion (λ d. d.list < length p.lists) p.listeners
heard_within p h =
    all_weaker (HasHeard p) (λ d. d.list < length p.lists) (λ d k. k.list) p.listeners
    (recursion_from_All (HasHeard p) p.listeners h.heard)

-- ---- runs

-- an entry of a run whose lists are of the kinds that the plan opened with
run_from_rests : (p : Plan) (r : Run) (order : List Actor) → IsWellFormed p
    → KeepsKinds (opening p) r.state → IsAtRest r.state → IsAtRest (fold (entry p) r order).state
run_from_rests p r [] h keeps rests = rests
run_from_rests p r (a ∷ order) h keeps rests =
    run_from_rests p (entry p r a) order h
    (keeps_on (opening p) r.state (entry p r a).state keeps (entry_keeps p r a))
    (entry_rests p.limit r.state (next_deed p r.order a) rests (deed_suits p r.state r.order a h keeps))

-- in every state of every run what proxies are yet to take reaches what their inputs show
pub run_rests : (p : Plan) (order : List Actor) → IsWellFormed p → IsAcyclic p
    → IsAtRest (run p order).state
run_rests p order h free =
    run_from_rests p (start p) order h (keeps_same (opening p)) (opening_rests p h free)

-- and it is sound
pub run_sound : (p : Plan) (order : List Actor) → IsWellFormed p → IsAcyclic p
    → IsSound (run p order).state
run_sound p order h free = (run_rests p order h free).sound

pub run_ordered : (p : Plan) (order : List Actor) → IsWellFormed p → IsAcyclic p
    → IsOrdered (run p order).state
run_ordered p order h free = (run_sound p order h free).ordered

-- what an actor does next suits the lists
pub next_suits : (p : Plan) (order : List Actor) (a : Actor) → IsWellFormed p
    → DeedSuits (run p order).state (next_deed p order a)
next_suits p order a h = deed_suits p (run p order).state order a h (run_kinds p order)

-- in every run of a plan, in every order, each list that isn't held shows its view of what its inputs show
pub views_of_run : (p : Plan) (order : List Actor) → IsWellFormed p → IsAcyclic p
    → EachShowsItsView (run p order).state
views_of_run p order h free = views_of_state (run p order).state (run_sound p order h free)

-- ---- within an entry

-- commands that are for the lists of a run lead to sound states, and there too each list that isn't held shows its view
pub within_entry_sound : (p : Plan) (order : List Actor) (cs : List Command) → IsWellFormed p
    → IsAcyclic p → AllByRecursion (λ c. IsFor c (run p order).state) cs
    → IsSound (state_after p.limit (run p order).state cs)
within_entry_sound p order cs h free suits =
    let s : State = (run p order).state in
    after_sound p.limit s cs (run_sound p order h free) (all_suit s cs suits)

pub within_entry_views : (p : Plan) (order : List Actor) (cs : List Command) → IsWellFormed p
    → IsAcyclic p → AllByRecursion (λ c. IsFor c (run p order).state) cs
    → EachShowsItsView (state_after p.limit (run p order).state cs)
within_entry_views p order cs h free suits =
    views_of_state (state_after p.limit (run p order).state cs) (within_entry_sound p order cs h free suits)
