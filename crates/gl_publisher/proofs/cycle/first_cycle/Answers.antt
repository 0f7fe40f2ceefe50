use Rattle.std.proofs.Common.{◌≡◌, ◌==◌, ℕ, ◌<◌, length, List, map, filter, Option, None, inl, inr, sym, ap, ◌∙◌, subst, arith, rules}
use Rattle.std.specs.Prelude.{All, IsPermutation}
use Rattle.std.proofs.lemmas.Bool.{cases_eq}
use Rattle.std.proofs.lemmas.List.Elements.{All-filter, All-map}
use Rattle.std.proofs.lemmas.List.Sorted.{All-permutation, Contains-permutation}
use Rattle.std.proofs.lemmas.Result.{IfOk-weaker}
use Rattle.spec_order.specs.Cycle.{IsWalk, IsFirstCycle}
use Rattle.gl_publisher.specs.Shortest.{IsLeast, IsShortestCycle, distance_to}
use Rattle.gl_publisher.proofs.Cycles.{no_walk}
use Rattle.gl_publisher.proofs.Same.{first_from_shortest, walk_same, distances_inverse, distances_at, cycle_below}
use Rattle.gl_publisher.proofs.OpenCounts.{turn}
use Rattle.gl_publisher.proofs.cycle.first_cycle.Goals as goal

pub distances_to-requires-clause-within : goal.distances_to-requires-clause-within
distances_to-requires-clause-within c =
    All-permutation (λ p. p.1 < c.args.n) (map turn c.args.edges.now) c.args.dependents.now c.requires.reversed
    (All-map (λ p. p.1 < c.args.n) turn c.args.edges.now (λ k d l. (c.requires.ends k d l).0))

pub least_distance-requires : goal.least_distance-requires
least_distance-requires c =
    let perm : IsPermutation c.args.edges.now c.new-dependencies.result = search rules in
    let all : All (λ p. p.1 < c.args.n) c.new-dependencies.result =
    All-permutation (λ p. p.1 < c.args.n) c.args.edges.now c.new-dependencies.result perm (λ k d l. (c.requires.ends k d l).1) in
    let part = All-filter (λ p. p.0 == c.loop-start.start) (λ p. p.1 < c.args.n) c.new-dependencies.result all in
    let size : c.args.n ≡ length c.deref.result.now = sym (ap length c.deref.ensures.value ∙ c.in_ok-distances.ensures.size) in
    subst (λ (m : ℕ). All (λ p. p.1 < m) c.of.result.now) size
    (subst (λ (ps : List (ℕ × ℕ)). All (λ p. p.1 < c.args.n) ps) (sym c.of.ensures) part)

pub shortest_cycle-requires-clause-within : goal.shortest_cycle-requires-clause-within
shortest_cycle-requires-clause-within c =
    let perm : IsPermutation c.args.edges.now c.new-dependencies.result = search rules in
    let all : All (λ p. p.1 < c.args.n) c.new-dependencies.result =
    All-permutation (λ p. p.1 < c.args.n) c.args.edges.now c.new-dependencies.result perm (λ k d l. (c.requires.ends k d l).1) in
    let size : c.args.n ≡ length c.deref-in-Some.result.now = sym (ap length c.deref-in-Some.ensures.value ∙ c.in_ok-distances.ensures.size) in
    subst (λ (m : ℕ). All (λ p. p.1 < m) c.new-dependencies.result) size all

pub shortest_cycle-requires-clause-exact : goal.shortest_cycle-requires-clause-exact
shortest_cycle-requires-clause-exact c =
    let perm : IsPermutation c.args.edges.now c.new-dependencies.result = search rules in
    distances_at c.in_ok-distances.distances.items c.deref-in-Some.result.now c.deref-in-Some.ensures.value
    (distances_inverse c.args.edges.now c.new-dependencies.result c.args.dependents.now perm c.requires.reversed c.in_ok-distances.ensures)

pub returns-in-Some : goal.returns-in-Some
returns-in-Some c =
    let perm : IsPermutation c.args.edges.now c.new-dependencies.result = search rules in
    IfOk-weaker c.shortest_cycle.result (IsShortestCycle c.new-dependencies.result c.loop-start.start) (IsFirstCycle c.args.edges.now)
    (λ cycle s. first_from_shortest c.args.edges.now c.new-dependencies.result c.loop-start.start cycle perm s c.loop-start.invariant) c.shortest_cycle.ensures

pub loop-start-preserved : goal.loop-start-preserved
loop-start-preserved c = λ y l ys w.
    let edges = c.args.edges.now in
    let dependencies = c.new-dependencies.result in
    let start = c.loop-start.start in
    let perm : IsPermutation edges dependencies = search rules in
    let exact = distances_inverse edges dependencies c.args.dependents.now perm c.requires.reversed c.in_ok-distances.ensures in
    let of_part : IsLeast (distance_to c.deref.result.now) (filter (λ p. p.0 == start) dependencies) None =
    subst (λ (ps : List (ℕ × ℕ)). IsLeast (distance_to c.deref.result.now) ps None) c.of.ensures
    (subst (λ (o : Option ℕ). IsLeast (distance_to c.deref.result.now) c.of.result.now o) c.in_default.is c.least_distance.ensures) in
    let none : IsLeast (distance_to c.in_ok-distances.distances.items) (filter (λ p. p.0 == start) dependencies) None =
    subst (λ (ds : List (Option ℕ)). IsLeast (distance_to ds) (filter (λ p. p.0 == start) dependencies) None) c.deref.ensures.value of_part in
    elim (cases_eq y start) as (λ _. ⊥) [
      | inl e ↦
          let here : IsWalk dependencies start ys start =
          walk_same edges dependencies (λ e h. Contains-permutation edges dependencies e perm h) start start ys (subst (λ (z : ℕ). IsWalk edges z ys z) e w) in
          no_walk dependencies exact start ys none here
      | inr ne ↦ c.loop-start.invariant y (omega arith) ys w
    ]

pub unreachable-requires : goal.unreachable-requires
unreachable-requires c =
    cycle_below c.args.n c.args.edges.now c.requires.ends c.requires.cyclic (λ y l ys w. c.loop-start.invariant y (omega arith) ys w)
