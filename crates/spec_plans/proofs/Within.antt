-- The lists and the listeners of a well formed plan depend on lists and on listeners of the plan.
use Rattle.std.proofs.Common.{◌≡◌, ℕ, zero, suc, ◌<◌, List, [], ◌∷◌, length, map, sym, subst, arith}
use Rattle.std.specs.Prelude.{unwrap_or, Contains, All}
use Rattle.std.proofs.lemmas.Option.{slice_get-map}
use Rattle.std.proofs.lemmas.List.{length-map}
use Rattle.std.proofs.lemmas.List.Elements.{All-contains, All-contains_itself, All-weaker, All-head, All-tail}
use Rattle.gl_lines.specs.declared.plan.ListDecl.{ListDecl}
use Rattle.gl_lines.specs.declared.plan.ListenerDecl.{ListenerDecl}
use Rattle.spec_order.specs.Edges.{AreWithin}
use Rattle.spec_order.proofs.Members.{Contains-nil}
use Rattle.spec_plans.specs.Plan.{Plan, inputs_of, edges_from, list_edges, listener_edges}
use Rattle.spec_plans.specs.WellFormed.{HasHeard, IsWellFormed}
use Rattle.spec_plans.proofs.SoundProxies.{within_plan}
use Rattle.spec_plans.proofs.Walks.{needs_at, edge_needed}

-- only an item that is there needs something
there : (needed : List (List ℕ)) (a b : ℕ) → Contains (needs_at needed a) b → a < length needed
there [] a b c = absurd (Contains-nil b c)
there (n ∷ ns) zero b c = omega arith
there (n ∷ ns) (suc a) b c = omega (arith, there ns a b c)

-- where what items need is there, the edges are within
within_edges : (needed : List (List ℕ)) → ((a b : ℕ) → Contains (needs_at needed a) b → b < length needed)
    → AreWithin (length needed) (edges_from 0 needed)
within_edges needed low =
    All-weaker (Contains (edges_from 0 needed)) (λ e. (e.0 < length needed) × (e.1 < length needed)) each
    (edges_from 0 needed) (All-contains_itself (edges_from 0 needed))
  where
    each : (e : ℕ × ℕ) → Contains (edges_from 0 needed) e → (e.0 < length needed) × (e.1 < length needed)
    each e c =
        let needs : Contains (needs_at needed e.0) e.1 = edge_needed needed e.0 e.1 c in
        (there needed e.0 e.1 needs, low e.0 e.1 needs)

pub lists_within : (p : Plan) → IsWellFormed p → AreWithin (length p.lists) (list_edges p)
lists_within p h =
    let inputs : ListDecl → List ℕ = λ d. inputs_of d.kind in
    let many : length (map inputs p.lists) ≡ length p.lists = length-map p.lists inputs in
    subst (λ n. AreWithin n (list_edges p)) many
    (within_edges (map inputs p.lists) (λ a b c. subst (λ n. b < n) (sym many)
    (within_plan p h.inputs a b (subst (λ o. Contains (unwrap_or o []) b) (slice_get-map inputs p.lists a) c))))

-- what a listener of a number is told after
after_within : (n : ℕ) (ds : List ListenerDecl) → All (λ d. All (λ k. k < n) d.after) ds → (a b : ℕ)
    → Contains (needs_at (map (λ d. d.after) ds) a) b → b < n
after_within n [] h a b c = absurd (Contains-nil b c)
after_within n (d ∷ ds) h zero b c = All-contains (λ k. k < n) d.after b
    (All-head (λ (e : ListenerDecl). All (λ k. k < n) e.after) d ds h) c
after_within n (d ∷ ds) h (suc a) b c = after_within n ds
    (All-tail (λ (e : ListenerDecl). All (λ k. k < n) e.after) d ds h) a b c

pub listeners_within : (p : Plan) → IsWellFormed p → AreWithin (length p.listeners) (listener_edges p)
listeners_within p h =
    let after : ListenerDecl → List ℕ = λ d. d.after in
    let many : length (map after p.listeners) ≡ length p.listeners = length-map p.listeners after in
    let told : All (λ (d : ListenerDecl). All (λ k. k < length p.listeners) d.after) p.listeners =
    All-weaker (HasHeard p) (λ (d : ListenerDecl). All (λ k. k < length p.listeners) d.after)
    (λ d k. k.after) p.listeners h.heard in
    subst (λ n. AreWithin n (listener_edges p)) many
    (within_edges (map after p.listeners) (λ a b c. subst (λ n. b < n) (sym many)
    (after_within (length p.listeners) p.listeners told a b c)))
