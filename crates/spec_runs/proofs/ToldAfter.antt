-- In each entry a listener is told after those that it is told after by the plan.
use Rattle.std.proofs.Common.{◌≡◌, ◌≢◌, ◌⊎◌, ◌∙◌, ℕ, zero, suc, ◌<◌, ◌++◌, Bool, true, false, cond, List, [], ◌∷◌, length, fold, flat_map, take, refl, ap, sym, arith, subst, inl, inr}
use Rattle.std.specs.Prelude.{Option, Some, None, ⊤, slice_get, slice_index}
use Rattle.std.specs.List.{Contains}
use Rattle.std.proofs.Math.Seq.{take-append_seam}
use Rattle.std.proofs.lemmas.Bool.{ne_eqb, cases_eq}
use Rattle.std.proofs.lemmas.List.{append_assoc, append-nil, length-append}
use Rattle.spec_lists.specs.Delta.{Delta, is_identity}
use Rattle.gl_outside.specs.declared.gate.Actor.{Actor}
use Rattle.gl_lines.specs.declared.plan.ListenerDecl.{ListenerDecl}
use Rattle.spec_plans.specs.Edges.{DependsOn}
use Rattle.spec_plans.specs.Order.{IsNext, IsPrefix, IsOrder}
use Rattle.spec_plans.proofs.Prefixes.{prefix_once}
use Rattle.spec_plans.proofs.Members.{Contains-here, Contains-later, times-append, times_some}
use Rattle.spec_plans.specs.Plan.{Plan, listener_edges}
use Rattle.spec_plans.specs.Cycles.{IsAcyclic}
use Rattle.spec_plans.specs.WellFormed.{IsWellFormed}
use Rattle.spec_states.specs.Wave.{Deltas, delta_in}
use Rattle.spec_runs.specs.Entry.{outcome, next_deed}
use Rattle.spec_runs.specs.Telling.{Telling, attempts, telling_of, told_one, listener_dependency_order, tellings}
use Rattle.spec_runs.specs.Run.{Run, start, entry}
use Rattle.spec_runs.specs.Laws.{told_at, EachToldAfterNeeded}
use Rattle.spec_runs.proofs.Ordered.{well_formed_listeners}
use Rattle.spec_runs.proofs.Told.{Placed, AllAt, placed_entry, told_at_append, told_at_others, told_at_all, all_place}
use Rattle.spec_views.proofs.Lists.{index_at_seam}

-- ---- along an order

-- nothing, or one telling to this listener
abbrev pub AtMostOne : ℕ → List Telling → Type 0
AtMostOne k [] = ⊤
AtMostOne k (t ∷ []) = t.listener ≡ k
AtMostOne k (t ∷ u ∷ ts) = ⊥

-- what is told along listeners is told to them
told_among : (f : ℕ → List Telling) (ks : List ℕ) (j : ℕ) (t : Telling)
    → ((k : ℕ) → AtMostOne k (f k)) → slice_get (flat_map f ks) j ≡ Some t → Contains ks t.listener
told_among f [] j t one e = absurd cc
told_among f (k ∷ ks) j t one e = by_told (λ i g. told_among f ks i t one g) (f k) j (one k) e
  where
    by_told : ((i : ℕ) → slice_get (flat_map f ks) i ≡ Some t → Contains ks t.listener)
        → (ts : List Telling) (j : ℕ) → AtMostOne k ts → slice_get (ts ++ flat_map f ks) j ≡ Some t
        → Contains (k ∷ ks) t.listener
    by_told others [] j none e = Contains-later k ks t.listener (others j e)
    by_told others (first ∷ []) zero is e =
        let same : first ≡ t = cc in
        Contains-here k ks t.listener (sym is ∙ ap (λ (u : Telling). u.listener) same)
    by_told others (first ∷ []) (suc j) is e = Contains-later k ks t.listener (others j e)
    by_told others (first ∷ u ∷ ts) j bad e = absurd bad

-- what stands in an order after others comes next after them
pub next_at : (n : ℕ) (edges : List (ℕ × ℕ)) (placed ks : List ℕ) (k : ℕ)
    → IsPrefix n edges (placed ++ k ∷ ks) → IsNext n edges placed k
next_at n edges placed ks k prefix =
    let xs : List ℕ = placed ++ k ∷ ks in
    let there : length placed < length xs = omega (arith, length-append placed (k ∷ ks)) in
    let before : take (length placed) xs ≡ placed = take-append_seam placed (k ∷ ks) in
    subst (λ j. IsNext n edges placed j) (index_at_seam placed ks k)
    (subst (λ ys. IsNext n edges ys (slice_index xs (length placed))) before (prefix (length placed) there))

-- what was placed isn't among what is left
apart : (n : ℕ) (edges : List (ℕ × ℕ)) (placed ks : List ℕ) (i : ℕ) → IsPrefix n edges (placed ++ ks)
    → Contains placed i → ¬ Contains ks i
apart n edges placed ks i prefix c d =
    absurd (omega (
      arith,
      prefix_once n edges (placed ++ ks) prefix i,
      times-append i placed ks,
      times_some i placed c,
      times_some i ks d,
    ))

-- Of the tellings along an order, one to a listener comes after one to a listener that it depends on.
along : (n : ℕ) (edges : List (ℕ × ℕ)) (f : ℕ → List Telling) → ((k : ℕ) → AtMostOne k (f k))
    → (placed ks : List ℕ) → IsPrefix n edges (placed ++ ks) → (i j : ℕ) (later earlier : Telling)
    → slice_get (flat_map f ks) i ≡ Some later → slice_get (flat_map f ks) j ≡ Some earlier
    → DependsOn edges later.listener earlier.listener → j < i
along n edges f one placed [] prefix i j later earlier at_i at_j needs = absurd cc
along n edges f one placed (k ∷ ks) prefix i j later earlier at_i at_j needs =
    let then : IsPrefix n edges ((placed ++ k ∷ []) ++ ks) =
    subst (IsPrefix n edges) (sym (append_assoc placed (k ∷ []) ks)) prefix in
    by_told (λ u v at_u at_v. along n edges f one (placed ++ k ∷ []) ks then u v later earlier at_u at_v needs)
    (f k) refl i j (one k) at_i at_j
  where
    -- the others are in turn
    Others : Type 0
    Others = (u v : ℕ) → slice_get (flat_map f ks) u ≡ Some later → slice_get (flat_map f ks) v ≡ Some earlier → v < u

    -- the first telling, to k, needs none that is left
    first_needs : later.listener ≡ k → ¬ Contains (k ∷ ks) earlier.listener
    first_needs is left =
        let needed : DependsOn edges k earlier.listener =
        subst (λ l. DependsOn edges l earlier.listener) is needs in
        let ready = (next_at n edges placed ks k prefix).ready in
        apart n edges placed (k ∷ ks) earlier.listener prefix (ready.free earlier.listener needed) left

    by_told : Others → (ts : List Telling) → f k ≡ ts → (i j : ℕ) → AtMostOne k ts
        → slice_get (ts ++ flat_map f ks) i ≡ Some later
        → slice_get (ts ++ flat_map f ks) j ≡ Some earlier → j < i
    by_told others [] e i j none at_i at_j = others i j at_i at_j
    by_told others (t ∷ []) e zero j is at_i at_j =
        let same : t ≡ later = cc in
        let P : List Telling → Type 0 = λ ts. slice_get (ts ++ flat_map f ks) j ≡ Some earlier in
        absurd (first_needs (sym (ap (λ (u : Telling). u.listener) same) ∙ is)
        (told_among f (k ∷ ks) j earlier one (subst P (sym e) at_j)))
    by_told others (t ∷ []) e (suc i) zero is at_i at_j = omega arith
    by_told others (t ∷ []) e (suc i) (suc j) is at_i at_j = let low = others i j at_i at_j in omega (arith, low)
    by_told others (t ∷ u ∷ ts) e i j bad at_i at_j = absurd bad

-- ---- in an entry

one_telling : (place k : ℕ) (echo : Bool) (d : Delta) → AtMostOne k (telling_of place k echo d)
one_telling place k echo d = by_case (is_identity d)
  where
    by_case : (b : Bool) → AtMostOne k (cond b []
        (record { listener = k; place = place; delta = d; write_backs = attempts echo } ∷ []))
    by_case true = tt
    by_case false = refl

told_at_most_one : (listeners : List ListenerDecl) (place : ℕ) (ds : Deltas) (k : ℕ)
    → AtMostOne k (told_one listeners place ds k)
told_at_most_one listeners place ds k = by_decl (slice_get listeners k) refl
  where
    by_decl : (o : Option ListenerDecl) → slice_get listeners k ≡ o
        → AtMostOne k (told_one listeners place ds k)
    by_decl None e = rw e tt
    by_decl (Some d) e = rw e (one_telling place k d.echo (delta_in ds d.list))

-- of these tellings one to a listener comes after one to a listener that it depends on
abbrev pub AreInTurn : Plan → List Telling → Type 0
AreInTurn p ts = (i j : ℕ) (later earlier : Telling) → slice_get ts i ≡ Some later → slice_get ts j ≡ Some earlier
    → DependsOn (listener_edges p) later.listener earlier.listener → j < i

tellings_in_turn : (p : Plan) (place : ℕ) (ds : Deltas)
    → IsOrder (length p.listeners) (listener_edges p) (listener_dependency_order p)
    → AreInTurn p (tellings p place ds)
tellings_in_turn p place ds order i j later earlier at_i at_j needs =
    along (length p.listeners) (listener_edges p) (told_one p.listeners place ds)
    (told_at_most_one p.listeners place ds) [] (listener_dependency_order p) order.prefix i j later earlier at_i at_j needs

-- ---- in a run

-- tellings of one entry aren't of another
told_elsewhere : (place n : ℕ) (ts : List Telling) → AllAt n ts → n ≢ place → told_at place ts ≡ []
told_elsewhere place n [] h ne = refl
told_elsewhere place n (t ∷ ts) h ne =
    rw (ne_eqb t.place place (λ e. ne (sym h.0 ∙ e))) (told_elsewhere place n ts h.1 ne)

-- so far each entry's tellings are in turn
record InTurn (p : Plan) (r : Run) : Type 0 where
  placed : Placed r
  dependency_order : (place : ℕ) → AreInTurn p (told_at place r.told)

turn_entry : (p : Plan) (r : Run) (a : Actor)
    → IsOrder (length p.listeners) (listener_edges p) (listener_dependency_order p) → InTurn p r
    → InTurn p (entry p r a)
turn_entry p r a order h = record {
  placed = placed_entry p r a h.placed;
  dependency_order = λ place.
      subst (AreInTurn p) (sym (told_at_append place r.told here)) (by_position place (cases_eq n place));
}
  where
    n : ℕ
    n = length r.order

    ds : Deltas
    ds = (outcome p.limit r.state (next_deed p r.order a)).deltas

    here : List Telling
    here = tellings p n ds

    all_here : AllAt n here
    all_here = all_place p.listeners n ds (listener_dependency_order p)

    by_position : (place : ℕ) → (n ≡ place) ⊎ (n ≢ place)
        → AreInTurn p (told_at place r.told ++ told_at place here)
    by_position place (inl same) =
        let P : ℕ → Type 0 = λ k. AreInTurn p (told_at k r.told ++ told_at k here) in
        let is : told_at n r.told ++ told_at n here ≡ here =
        ap (λ ts. ts ++ told_at n here) (told_at_others n r.told h.placed) ∙ told_at_all n here all_here in
        subst P same (subst (AreInTurn p) (sym is) (tellings_in_turn p n ds order))
    by_position place (inr other) =
        let is : told_at place r.told ++ told_at place here ≡ told_at place r.told =
        ap (λ ts. told_at place r.told ++ ts) (told_elsewhere place n here all_here other)
        ∙ append-nil (told_at place r.told) in
        subst (AreInTurn p) (sym is) (h.dependency_order place)

dependency_order_from : (p : Plan) (r : Run) (order : List Actor)
    → IsOrder (length p.listeners) (listener_edges p) (listener_dependency_order p) → InTurn p r
    → InTurn p (fold (entry p) r order)
dependency_order_from p r [] whole h = h
dependency_order_from p r (a ∷ order) whole h = dependency_order_from p (entry p r a) order whole (turn_entry p r a whole h)

-- each listener of a well-formed plan without cycles is told after those that it needs to be
pub told_after_needed : (p : Plan) → IsWellFormed p → IsAcyclic p → EachToldAfterNeeded p
told_after_needed p h free order place i j later earlier at_i at_j needs =
    let opens : InTurn p (start p) = record { placed = tt; dependency_order = λ place i j later earlier at_i at_j needs. absurd cc } in
    (dependency_order_from p (start p) order (well_formed_listeners p h free) opens).dependency_order place i j later earlier at_i at_j needs
