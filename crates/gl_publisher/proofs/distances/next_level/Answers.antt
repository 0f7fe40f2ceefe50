use Rattle.std.proofs.Common.{◌≡◌, ◌==◌, ℕ, ◌<◌, filter, List, subst, sym, arith, rules}
use Rattle.std.specs.Prelude.{All, vec_len, slice_index}
use Rattle.std.proofs.lemmas.List.Elements.{All-filter}
use Rattle.gl_publisher.specs.Distances.{EndsWith, Finds}
use Rattle.gl_publisher.proofs.Levels.{finds_number}
use Rattle.gl_publisher.proofs.distances.next_level.Goals as goal

pub find-requires : goal.find-requires
find-requires c =
    let y = slice_index c.args.listed.now c.loop-number.number-index in
    let size : vec_len c.args.distances.now ≡ vec_len c.loop-number.distances = omega (arith, c.loop-number.invariant.size, c.args.distances.now.ok.0, c.loop-number.distances.ok.0) in
    let part : c.of.result.now ≡ filter (λ p. p.0 == y) c.args.dependents.now = c.of.ensures in
    subst (λ (ps : List (ℕ × ℕ)). All (λ p. p.1 < vec_len c.loop-number.distances) ps) (sym part)
    (subst (λ (m : ℕ). All (λ (p : ℕ × ℕ). p.1 < m) (filter (λ p. p.0 == y) c.args.dependents.now)) size
    (All-filter (λ p. p.0 == y) (λ p. p.1 < vec_len c.args.distances.now) c.args.dependents.now c.requires))

pub loop-number-preserved : goal.loop-number-preserved
loop-number-preserved c =
    let y = slice_index c.args.listed.now c.loop-number.number-index in
    let part : c.of.result.now ≡ filter (λ p. p.0 == y) c.args.dependents.now = c.of.ensures in
    let found : Finds (EndsWith c.of.result.now) c.args.distance c.loop-number.distances.items c.find.new.distances.items c.loop-number.found.items c.find.new.found.items = search rules in
    finds_number c.args.dependents.now c.args.listed.now c.loop-number.number-index c.loop-number-test.true c.loop-number.invariant
    (subst (λ (ps : List (ℕ × ℕ)). Finds (EndsWith ps) c.args.distance c.loop-number.distances.items c.find.new.distances.items c.loop-number.found.items c.find.new.found.items) part found)
