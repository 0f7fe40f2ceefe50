use Rattle.std.proofs.Common.{◌≡◌, ℕ, ◌+◌, get_or, take, List, refl, sym, subst, arith, Option}
use Rattle.std.proofs.lemmas.List.{take_all}
use Rattle.gl_publisher.specs.Shortest.{IsLeast, distance_to}
use Rattle.gl_publisher.proofs.Leasts.{least_more}
use Rattle.gl_publisher.proofs.least.least_distance.Goals as goal

pub loop-number-preserved : goal.loop-number-preserved
loop-number-preserved c =
    let ps = c.args.pairs.now in
    let i = c.loop-number.number-index in
    let f = distance_to c.args.distances.now in
    let v = f (get_or ps i (0, 0)) in
    subst (λ (o : Option ℕ). IsLeast f (take (i + 1) ps) o) (sym c.lesser-least.ensures)
    (least_more f ps i (0, 0) c.loop-number.least v c.loop-number-test.true refl c.loop-number.invariant)

pub returns : goal.returns
returns c =
    let all : take c.loop-number.number-index c.args.pairs.now ≡ c.args.pairs.now = take_all c.loop-number.number-index c.args.pairs.now (omega arith) in
    subst (λ (ps : List (ℕ × ℕ)). IsLeast (distance_to c.args.distances.now) ps c.loop-number.least) all c.loop-number.invariant
