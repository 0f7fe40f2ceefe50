use Rattle.std.proofs.Common.{◌≡◌, ◌==◌, ℕ, suc, ◌-◌, ◌<◌, length, List, [], ◌∷◌, ◌++◌, filter, Option, Some, sym, ap, ◌∙◌, subst, arith, rules, append_assoc, append-nil}
use Rattle.std.specs.Prelude.{All}
use Rattle.std.proofs.lemmas.List.Elements.{All-filter}
use Rattle.gl_publisher.specs.Distances.{distance_of}
use Rattle.gl_publisher.specs.Shortest.{IsLeast, IsLeastAt, distance_to, number_at}
use Rattle.gl_publisher.proofs.Cycles.{IsBest, IsBestFrom, cycle_from_best, nearest_end, best_step, step_known, nearest_next}
use Rattle.gl_publisher.proofs.cycle.shortest_cycle.Goals as goal

pub least_number-requires : goal.least_number-requires
least_number-requires c =
    let edges = c.args.dependencies.now in
    subst (λ (ps : List (ℕ × ℕ)). All (λ p. p.1 < length c.args.distances.now) ps) (sym c.of.ensures)
    (All-filter (λ p. p.0 == c.loop-left.last) (λ p. p.1 < length c.args.distances.now) edges c.requires.within)

pub loop-left-preserved : goal.loop-left-preserved
loop-left-preserved c =
    let edges = c.args.dependencies.now in
    let distances = c.args.distances.now in
    let last = c.loop-left.last in
    let x = c.unwrap-last.result in
    let m = c.loop-left.left - 1 in
    let up : c.loop-left.left ≡ suc m = omega arith in
    let near : IsLeastAt (distance_to distances) (filter (λ p. p.0 == last) edges) (suc m) =
    subst (λ (k : ℕ). IsLeastAt (distance_to distances) (filter (λ p. p.0 == last) edges) k) up c.loop-left.invariant.nearest in
    let is_x : c.least_number.result ≡ Some x = search rules in
    let left = c.loop-left.left in
    let of_result : IsLeastAt (number_at distances left) c.of.result.now x =
    subst (λ (o : Option ℕ). IsLeast (number_at distances left) c.of.result.now o) is_x c.least_number.ensures in
    let of_part : IsLeastAt (number_at distances left) (filter (λ p. p.0 == last) edges) x =
    subst (λ (ps : List (ℕ × ℕ)). IsLeastAt (number_at distances left) ps x) c.of.ensures of_result in
    let least : IsLeastAt (number_at distances (suc m)) (filter (λ p. p.0 == last) edges) x =
    subst (λ (k : ℕ). IsLeastAt (number_at distances k) (filter (λ p. p.0 == last) edges) x) up of_part in
    let step = best_step edges c.requires.exact last m x near least in
    let known : distance_of distances x ≡ Some (suc m) = step_known edges c.requires.exact last (suc m) x least in
    let pushed : c.push-in-loop-left.new.self ≡ c.loop-left.cycle ++ x ∷ [] = search rules in
    record {
      best = λ tail b.
          let same : c.push-in-loop-left.new.self ++ tail ≡ c.loop-left.cycle ++ (x ∷ tail) = ap (λ ys. ys ++ tail) pushed ∙ append_assoc c.loop-left.cycle (x ∷ []) tail in
          subst (λ (zs : List ℕ). IsBestFrom edges c.args.start c.args.distance zs) (sym same)
          (c.loop-left.invariant.best (x ∷ tail) (subst (λ (k : ℕ). IsBest edges c.args.start last k (x ∷ tail)) (sym up) (step, b)));
      nearest = nearest_next edges c.requires.exact m x known;
    }

pub returns : goal.returns
returns c =
    let edges = c.args.dependencies.now in
    let last = c.loop-left.last in
    let zero : c.loop-left.left ≡ 0 = omega arith in
    let near : IsLeastAt (distance_to c.args.distances.now) (filter (λ p. p.0 == last) edges) 0 =
    subst (λ (k : ℕ). IsLeastAt (distance_to c.args.distances.now) (filter (λ p. p.0 == last) edges) k) zero c.loop-left.invariant.nearest in
    let best : IsBestFrom edges c.args.start c.args.distance (c.loop-left.cycle ++ []) =
    c.loop-left.invariant.best [] (subst (λ (k : ℕ). IsBest edges c.args.start last k []) (sym zero) (nearest_end edges c.requires.exact last near)) in
    cycle_from_best edges c.requires.exact c.args.distance c.loop-left.cycle c.requires.nearest
    (subst (λ (zs : List ℕ). IsBestFrom edges c.args.start c.args.distance zs) (append-nil c.loop-left.cycle) best)
