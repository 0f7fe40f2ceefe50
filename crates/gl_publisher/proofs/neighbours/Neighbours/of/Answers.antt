use Rattle.std.proofs.Common.{◌≡◌, ℕ, List, take, true, false, leb, ltb, sym, ap, ◌∙◌, subst, refl, rules, filter, ◌==◌}
use Rattle.std.specs.List.Sorted.{IsNonDecreasingBy, IsPartitionPoint}
use Rattle.std.proofs.lemmas.List.{take_rest}
use Rattle.std.proofs.lemmas.List.Sorted.{IsPartitionPoint-from_clause, IsPartitionedBy-leb, IsPartitionedBy-ltb, IsNonDecreasingBy-take}
use Rattle.gl_publisher.proofs.Part.{part_of_key}
use Rattle.gl_publisher.proofs.neighbours.Neighbours.of.Goals as goal

pub returns : goal.returns
returns c =
    let key = c.args.key in
    let xs = c.as_slice-pairs.result.now in
    let i = c.partition_point.result in
    let j = c.partition_point-2.result in
    let ys = take i xs in
    let first : ℕ × ℕ → ℕ = λ p. p.0 in
    let xs_are : xs ≡ c.args.self.now = search rules in
    let sorted : IsNonDecreasingBy first xs = subst (λ (zs : List (ℕ × ℕ)). IsNonDecreasingBy first zs) (sym c.as_slice-pairs.ensures.value) c.self.invariant in
    let high : IsPartitionPoint (λ y. leb (first y) key ≡ true) (λ y. leb (first y) key ≡ false) xs i =
    IsPartitionPoint-from_clause (λ y. leb (first y) key) xs i c.partition_point.ensures.partitioned (IsPartitionedBy-leb first xs key sorted) (λ a r f' q. search rules) in
    let low : IsPartitionPoint (λ y. ltb (first y) key ≡ true) (λ y. ltb (first y) key ≡ false) ys j =
    IsPartitionPoint-from_clause (λ y. ltb (first y) key) ys j c.partition_point-2.ensures.partitioned (IsPartitionedBy-ltb first ys key (IsNonDecreasingBy-take first i xs sorted)) (λ a r f' q. search rules) in
    take_rest ys j ∙ (part_of_key first key i j xs ys c.partition_point.ensures.bound refl c.partition_point-2.ensures.bound high low ∙ ap (filter (λ y. first y == key)) xs_are)
