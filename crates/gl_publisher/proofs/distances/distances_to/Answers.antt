use Rattle.std.proofs.Common.{◌≡◌, ℕ, suc, ◌+◌, ◌<◌, length, [], subst, sym, arith, rules}
use Rattle.gl_publisher.specs.Distances.{IsDependent, IsRelatedToSome, Finds}
use Rattle.gl_publisher.proofs.Levels.{IsAtLevel, level_next}
use Rattle.gl_publisher.proofs.distances.distances_to.Goals as goal

pub levels-preserved : goal.levels-preserved
levels-preserved c =
    let some : 0 < length c.levels.listed.items = search rules in
    let found : Finds (IsRelatedToSome (IsDependent c.args.dependents.now) c.levels.listed.items) (c.levels.level + 1) c.levels.distances.items c.next_level.new.distances.items [] c.in_ok-listed-2.listed.items = search rules in
    let up : c.levels.level + 1 ≡ suc c.levels.level = omega arith in
    subst (λ (m : ℕ). IsAtLevel c.args.n (IsDependent c.args.dependents.now) c.args.start m c.next_level.new.distances.items c.in_ok-listed-2.listed.items) (sym up)
    (level_next c.levels.invariant some
    (subst (λ (m : ℕ). Finds (IsRelatedToSome (IsDependent c.args.dependents.now) c.levels.listed.items) m c.levels.distances.items c.next_level.new.distances.items [] c.in_ok-listed-2.listed.items) up found))
