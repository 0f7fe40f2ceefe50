use Rattle.std.proofs.Common.{◌<◌, ◌≤◌, ◌∙◌, ℕ, Option, sum, pos, refl, ap, subst, arith, slice_get}
use Rattle.std.proofs.lemmas.Option.{unwrap_or-slice_get}
use Rattle.gl_joined.specs.Tree.{num}
use Rattle.spec_lang.specs.Kids.{kids}
use Rattle.gl_joined.specs.Located.{StandsAt, IsLocated}
use Rattle.gl_joined.proofs.Joined.{sum_split, joined_found, joined_past}
use Rattle.gl_collection.specs.Kept.{Kept}
use Rattle.gl_collection.proofs.collection.Collection.find.Goals as goal

pub returns-in-Some-clause-view : goal.returns-in-Some-clause-view
returns-in-Some-clause-view c =
    λ xs stands.
    let f = kids c.args.self.now.kids in
    let index = c.in-Some.index in
    let within = c.in-Some.within in
    let At : Option (ℕ × ℕ) → Type 0 = λ o. IsLocated c.self.inside.lens.lens c.args.position o in
    let Kept_at : Kept → Type 0 = λ k. StandsAt k.lens c.args.position index within in
    let at = subst Kept_at c.self.view_is (subst At c.in-Some.is c.locate.ensures) in
    ap (λ v. slice_get (f v) within) (unwrap_or-slice_get xs index (num (pos 0))) ∙ joined_found f xs c.args.self.now.lens c.args.position index within (num (pos 0)) stands at

pub returns-in-Some-clause-some : goal.returns-in-Some-clause-some
returns-in-Some-clause-some c =
    let At : Option (ℕ × ℕ) → Type 0 = λ o. IsLocated c.self.inside.lens.lens c.args.position o in
    let at = subst At c.in-Some.is c.locate.ensures in
    let low : c.args.position < sum c.args.self.now.lens =
    omega (arith, sum_split c.self.inside.lens.lens c.in-Some.index at.len at.is_len, at.inside, at.position_is, ap (λ (k : Kept). sum k.lens) c.self.view_is) in
    ((λ _. low), (λ _. refl))

pub returns-in-None-clause-view : goal.returns-in-None-clause-view
returns-in-None-clause-view c =
    λ xs stands.
    let At : Option (ℕ × ℕ) → Type 0 = λ o. IsLocated c.self.inside.lens.lens c.args.position o in
    let past = subst At c.in-None.is c.locate.ensures in
    let later : sum c.args.self.now.lens ≤ c.args.position = omega (arith, past, ap (λ (k : Kept). sum k.lens) c.self.view_is) in
    joined_past (kids c.args.self.now.kids) xs c.args.self.now.lens c.args.position stands later
