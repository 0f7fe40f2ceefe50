use Rattle.std.proofs.Common.{◌≤◌, ◌-◌, sum, ap, subst, arith, Option}
use Rattle.gl_ranktree.specs.Sought.{IsSought}
use Rattle.gl_joined.specs.Kept.{Kept}
use Rattle.gl_joined.specs.Located.{StandsAt}
use Rattle.gl_joined.specs.Sums.{below-fits, length_sums}
use Rattle.gl_joined.specs.declared.length.Length.{Length}
use Rattle.gl_joined.proofs.Entries.{parts-sum, elements-sum, located, beyond}
use Rattle.gl_joined.proofs.list.LengthList.locate.Goals as goal

pub seek-found-requires : goal.seek-found-requires
seek-found-requires c =
    let es = c.self.inside.tree.entries in
    let lens = ap (λ (k : Kept). sum k.lens) c.self.view_is in
    below-fits _ (omega (arith, c.requires, lens, parts-sum es c.self.invariant.single, elements-sum es, c.self.invariant.few))

pub returns-in-Some : goal.returns-in-Some
returns-in-Some c =
    let es = c.self.inside.tree.entries in
    let found = c.seek-found.result in
    let Found : Option Length → Type 0 = λ own. IsSought length_sums (λ x. x.elements) es c.args.position found.position found.before own in
    let At : Kept → Type 0 = λ k. StandsAt k.lens c.args.position found.position (c.args.position - found.before.elements) in
    subst At c.self.view_is (located es c.args.position found.position found.before c.in-Some._own (subst Found c.in-Some.is c.seek-found.ensures))

pub returns-in-None : goal.returns-in-None
returns-in-None c =
    let es = c.self.inside.tree.entries in
    let found = c.seek-found.result in
    let Found : Option Length → Type 0 = λ own. IsSought length_sums (λ x. x.elements) es c.args.position found.position found.before own in
    let At : Kept → Type 0 = λ k. sum k.lens ≤ c.args.position in
    subst At c.self.view_is (beyond es c.args.position found.position found.before (subst Found c.in-None.is c.seek-found.ensures))
