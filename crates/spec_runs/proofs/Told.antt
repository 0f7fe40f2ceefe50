-- What one listener is told at an entry, and what that makes of its list.
use Rattle.std.proofs.Common.{◌≡◌, ◌≢◌, ◌∙◌, ℕ, ◌+◌, ◌<◌, ◌≤◌, ◌++◌, Bool, true, false, cond, eqb, List, [], ◌∷◌, length, fold, flat_map, refl, ap, sym, arith, subst, inl, inr, eq-eqb}
use Rattle.std.specs.Prelude.{Option, Some, None, slice_get, Contains}
use Rattle.std.specs.List.{AllByRecursion}
use Rattle.std.proofs.lemmas.Bool.{ne_eqb, cases_eq}
use Rattle.std.proofs.lemmas.Option.{slice_get_within}
use Rattle.std.proofs.lemmas.List.{length_push, append-nil}
use Rattle.spec_value.specs.Tree.{Tree}
use Rattle.spec_lists.specs.Delta.{Delta, is_identity}
use Rattle.spec_lists.specs.Leads.{IsDelta}
use Rattle.spec_lists.specs.Changes.{changes, replay}
use Rattle.spec_lists.proofs.Replay.{replay_gives_new_list}
use Rattle.gl_outside.specs.declared.gate.Actor.{Actor}
use Rattle.gl_lines.specs.declared.plan.ListenerDecl.{ListenerDecl}
use Rattle.spec_plans.specs.Order.{IsOrder}
use Rattle.spec_plans.proofs.Acyclic.{Contains-order}
use Rattle.spec_plans.proofs.Prefixes.{prefix_once}
use Rattle.spec_plans.proofs.Members.{Contains-nil, Contains-cons_cases, Contains-here, Contains-later, times, hit_same, times_some}
use Rattle.spec_plans.specs.Plan.{Plan, listener_edges}
use Rattle.spec_states.specs.Wave.{Deltas, delta_in}
use Rattle.spec_runs.specs.Entry.{outcome, next_deed}
use Rattle.spec_runs.specs.Telling.{Telling, attempts, telling_of, told_one, listener_dependency_order, tellings}
use Rattle.spec_runs.specs.Run.{Run, entry}
use Rattle.spec_runs.specs.Laws.{told_to, told_at, replay_all, heard}
use Rattle.spec_runs.proofs.Identities.{identity_stays}

-- ---- tellings one after another

pub told_to_append : (k : ℕ) (ts us : List Telling)
    → told_to k (ts ++ us) ≡ told_to k ts ++ told_to k us
told_to_append k [] us = refl
told_to_append k (t ∷ ts) us = elim (eqb t.listener k) as (λ b.
    cond b (t.delta ∷ told_to k (ts ++ us)) (told_to k (ts ++ us))
    ≡ cond b (t.delta ∷ told_to k ts) (told_to k ts) ++ told_to k us) [
      | true ↦ ap (λ ds. t.delta ∷ ds) (told_to_append k ts us)
      | false ↦ told_to_append k ts us
    ]

pub told_at_append : (n : ℕ) (ts us : List Telling)
    → told_at n (ts ++ us) ≡ told_at n ts ++ told_at n us
told_at_append n [] us = refl
told_at_append n (t ∷ ts) us = elim (eqb t.place n) as (λ b.
    cond b (t ∷ told_at n (ts ++ us)) (told_at n (ts ++ us))
    ≡ cond b (t ∷ told_at n ts) (told_at n ts) ++ told_at n us) [
      | true ↦ ap (λ vs. t ∷ vs) (told_at_append n ts us)
      | false ↦ told_at_append n ts us
    ]

pub replay_append : (ds es : List Delta) (xs : List Tree)
    → replay_all (ds ++ es) xs ≡ replay_all es (replay_all ds xs)
replay_append [] es xs = refl
replay_append (d ∷ ds) es xs = replay_append ds es (replay (changes d) xs)

-- ---- where tellings stand

pub told_at_others : (n : ℕ) (ts : List Telling) → AllByRecursion (λ t. t.place < n) ts
    → told_at n ts ≡ []
told_at_others n [] h = refl
told_at_others n (t ∷ ts) h =
    let g = h.0 in rw (ne_eqb t.place n (λ e. absurd (omega (arith, e, g)))) (told_at_others n ts h.1)

pub told_at_all : (n : ℕ) (ts : List Telling) → AllByRecursion (λ t. t.place ≡ n) ts
    → told_at n ts ≡ ts
told_at_all n [] h = refl
told_at_all n (t ∷ ts) h = rw (eq-eqb t.place n h.0) (ap (λ us. t ∷ us) (told_at_all n ts h.1))

both_all : {X : Type 0} (P : X → Type 0) (xs ys : List X) → AllByRecursion P xs
    → AllByRecursion P ys → AllByRecursion P (xs ++ ys)
both_all P [] ys h g = g
both_all P (x ∷ xs) ys h g = (h.0, both_all P xs ys h.1 g)

each_all : {X : Type 0} (P Q : X → Type 0) (xs : List X) → ((x : X) → P x → Q x)
    → AllByRecursion P xs → AllByRecursion Q xs
each_all P Q [] f h = tt
each_all P Q (x ∷ xs) f h = (f x h.0, each_all P Q xs f h.1)

-- all of them are of the entry at a place
abbrev pub AllAt : ℕ → List Telling → Type 0
AllAt place ts = AllByRecursion (λ t. t.place ≡ place) ts

-- what a listener is told of a delta at a place
abbrev told : ℕ → ℕ → Bool → Delta → Telling
told place k echo d = record { listener = k; place = place; delta = d; write_backs = attempts echo }

telling_place : (place k : ℕ) (echo : Bool) (d : Delta) → AllAt place (telling_of place k echo d)
telling_place place k echo d = elim (is_identity d) as (λ b. AllAt place (cond b [] (told place k echo d ∷ []))) [
  | true ↦ tt
  | false ↦ (refl, tt)
]

one_position : (listeners : List ListenerDecl) (place : ℕ) (ds : Deltas) (k : ℕ)
    → AllAt place (told_one listeners place ds k)
one_position listeners place ds k = by_decl (slice_get listeners k) refl
  where
    by_decl : (o : Option ListenerDecl) → slice_get listeners k ≡ o
        → AllAt place (told_one listeners place ds k)
    by_decl None e = rw e tt
    by_decl (Some d) e = rw e (telling_place place k d.echo (delta_in ds d.list))

pub all_place : (listeners : List ListenerDecl) (place : ℕ) (ds : Deltas) (ks : List ℕ)
    → AllAt place (flat_map (told_one listeners place ds) ks)
all_place listeners place ds [] = tt
all_place listeners place ds (k ∷ ks) =
    both_all _ (told_one listeners place ds k) _ (one_position listeners place ds k) (all_place listeners place ds ks)

-- all tellings of a run are of an entry that was made
abbrev pub Placed : Run → Type 0
Placed r = AllByRecursion (λ t. t.place < length r.order) r.told

pub placed_entry : (p : Plan) (r : Run) (a : Actor) → Placed r → Placed (entry p r a)
placed_entry p r a h =
    let long : length (r.order ++ a ∷ []) ≡ length r.order + 1 = length_push r.order a in
    let ds : Deltas = (outcome p.limit r.state (next_deed p r.order a)).deltas in
    both_all _ r.told _
    (each_all (λ t. t.place < length r.order) _ r.told (λ t g. omega (arith, g, long)) h)
    (each_all (λ t. t.place ≡ length r.order) _ (tellings p (length r.order) ds) (λ t g. omega (arith, g, long))
    (all_place p.listeners (length r.order) ds _))

pub placed_from : (p : Plan) (r : Run) (order : List Actor) → Placed r
    → Placed (fold (entry p) r order)
placed_from p r [] h = h
placed_from p r (a ∷ order) h = placed_from p (entry p r a) order (placed_entry p r a h)

-- ---- what one listener is told at an entry

heard_self : (place k : ℕ) (echo : Bool) (d : Delta)
    → told_to k (telling_of place k echo d) ≡ heard d
heard_self place k echo d = elim (is_identity d) as (λ b.
    told_to k (cond b [] (told place k echo d ∷ [])) ≡ cond b [] (d ∷ [])) [
      | true ↦ refl
      | false ↦ rw (eq-eqb k k refl) refl
    ]

heard_other : (place j k : ℕ) (echo : Bool) (d : Delta) → j ≢ k
    → told_to k (telling_of place j echo d) ≡ []
heard_other place j k echo d ne = elim (is_identity d) as (λ b.
    told_to k (cond b [] (told place j echo d ∷ [])) ≡ []) [
      | true ↦ refl
      | false ↦ rw (ne_eqb j k ne) refl
    ]

one_self : (listeners : List ListenerDecl) (place : ℕ) (ds : Deltas) (k : ℕ) (d : ListenerDecl)
    → slice_get listeners k ≡ Some d
    → told_to k (told_one listeners place ds k) ≡ heard (delta_in ds d.list)
one_self listeners place ds k d e = rw e (heard_self place k d.echo (delta_in ds d.list))

one_other : (listeners : List ListenerDecl) (place : ℕ) (ds : Deltas) (j k : ℕ) → j ≢ k
    → told_to k (told_one listeners place ds j) ≡ []
one_other listeners place ds j k ne = by_decl (slice_get listeners j) refl
  where
    by_decl : (o : Option ListenerDecl) → slice_get listeners j ≡ o
        → told_to k (told_one listeners place ds j) ≡ []
    by_decl None e = rw e refl
    by_decl (Some d) e = rw e (heard_other place j k d.echo (delta_in ds d.list) ne)

-- of numbers among which a listener isn't, none tells it anything
not_told : (listeners : List ListenerDecl) (place : ℕ) (ds : Deltas) (ks : List ℕ) (k : ℕ)
    → ¬ Contains ks k → told_to k (flat_map (told_one listeners place ds) ks) ≡ []
not_told listeners place ds [] k absent = refl
not_told listeners place ds (j ∷ js) k absent =
    let others : List Telling = flat_map (told_one listeners place ds) js in
    told_to_append k (told_one listeners place ds j) others
    ∙ ap (λ us. us ++ told_to k others) (one_other listeners place ds j k (λ e. absent (Contains-here j js k e)))
    ∙ not_told listeners place ds js k (λ later. absent (Contains-later j js k later))

-- of numbers among which it is once, that one tells it
told_in_turn : (listeners : List ListenerDecl) (place : ℕ) (ds : Deltas) (ks : List ℕ) (k : ℕ) (d : ListenerDecl)
    → slice_get listeners k ≡ Some d → Contains ks k → times k ks ≤ 1
    → told_to k (flat_map (told_one listeners place ds) ks) ≡ heard (delta_in ds d.list)
told_in_turn listeners place ds [] k d e there once = absurd (Contains-nil k there)
told_in_turn listeners place ds (j ∷ js) k d e there once = elim (cases_eq j k) [
  | inl same ↦
      let others : List Telling = flat_map (told_one listeners place ds) js in
      let no_more : ¬ Contains js k = λ later. absurd (omega (arith, once, hit_same j k same, times_some k js later)) in
      let P : ℕ → Type 0 = λ i. told_to k (told_one listeners place ds i) ≡ heard (delta_in ds d.list) in
      told_to_append k (told_one listeners place ds j) others
      ∙ ap (λ us. us ++ told_to k others) (subst P (sym same) (one_self listeners place ds k d e))
      ∙ ap (λ us. heard (delta_in ds d.list) ++ us) (not_told listeners place ds js k no_more)
      ∙ append-nil (heard (delta_in ds d.list))
  | inr other ↦
      told_to_append k (told_one listeners place ds j) _
      ∙ ap (λ us. us ++ told_to k (flat_map (told_one listeners place ds) js)) (one_other listeners place ds j k other)
      ∙ told_in_turn listeners place ds js k d e (after other) (omega (arith, once))
]
  where
    after : j ≢ k → Contains js k
    after other = elim (Contains-cons_cases j js k there) [
      | inl same ↦ absurd (other same)
      | inr later ↦ later
    ]

-- the order of a plan's listeners is whole, and each hears a list of the plan
pub record AreHeard (p : Plan) : Type 0 where
  pub dependency_order : IsOrder (length p.listeners) (listener_edges p) (listener_dependency_order p)
  pub lists : (k : ℕ) (d : ListenerDecl) → slice_get p.listeners k ≡ Some d → d.list < length p.lists

pub told_in_entry : (p : Plan) (place : ℕ) (ds : Deltas) (k : ℕ) (d : ListenerDecl) → AreHeard p
    → slice_get p.listeners k ≡ Some d
    → told_to k (tellings p place ds) ≡ heard (delta_in ds d.list)
told_in_entry p place ds k d are e =
    let n : ℕ = length p.listeners in
    told_in_turn p.listeners place ds (listener_dependency_order p) k d e
    (Contains-order n (listener_edges p) (listener_dependency_order p) are.dependency_order k (slice_get_within p.listeners k d e))
    (prefix_once n (listener_edges p) (listener_dependency_order p) are.dependency_order.prefix k)

-- ---- what the deltas make of the list

pub heard_leads : (d : Delta) (xs ys : List Tree) → IsDelta d xs ys → replay_all (heard d) xs ≡ ys
heard_leads d xs ys h = by_case (is_identity d) refl
  where
    by_case : (b : Bool) → is_identity d ≡ b → replay_all (cond b [] (d ∷ [])) xs ≡ ys
    by_case true e = sym (identity_stays d xs ys h e)
    by_case false e = replay_gives_new_list d xs ys h
