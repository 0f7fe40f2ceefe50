use Rattle.std.proofs.Common.{◌≡◌, ℕ, ◌+◌, take, List, sym, subst, arith, Option}
use Rattle.std.proofs.lemmas.List.{take_all}
use Rattle.gl_publisher.specs.Shortest.{IsLeast, number_at}
use Rattle.gl_publisher.proofs.Leasts.{least_more}
use Rattle.gl_publisher.proofs.least.least_number.Goals as goal

pub loop-number-preserved : goal.loop-number-preserved
loop-number-preserved c =
    let ps = c.args.pairs.now in
    let i = c.loop-number.number-index in
    let f = number_at c.args.distances.now c.args.wanted in
    subst (λ (o : Option ℕ). IsLeast f (take (i + 1) ps) o) (sym c.lesser-least.ensures)
    (least_more f ps i (0, 0) c.loop-number.least c.number_if-found.result c.loop-number-test.true (sym c.number_if-found.ensures) c.loop-number.invariant)

pub returns : goal.returns
returns c =
    let all : take c.loop-number.number-index c.args.pairs.now ≡ c.args.pairs.now = take_all c.loop-number.number-index c.args.pairs.now (omega arith) in
    subst (λ (ps : List (ℕ × ℕ)). IsLeast (number_at c.args.distances.now c.args.wanted) ps c.loop-number.least) all c.loop-number.invariant
