use Rattle.std.proofs.Common.{◌∙◌, ◌<◌, length, sym, ap, subst, arith}
use Rattle.std.specs.Prelude.{ℕ, Option, None}
use Rattle.std.specs.Option.{IsSome}
use Rattle.std.specs.List.{slice_get}
use Rattle.std.proofs.lemmas.Option.{slice_get_within}
use Rattle.gl_barcode.specs.Bars.{count_shown, IsKthShown}
use Rattle.gl_classes.specs.Kept.{Kept}
use Rattle.gl_classes.proofs.Standing.{long, first_found, none_found}
use Rattle.gl_classes.proofs.classes.Classes.find_first.Goals as goal

none_some : IsSome {T = ℕ} None → ⊥
none_some e = absurd cc

pub returns-then-place-len : goal.returns-then-place-len
returns-then-place-len c =
    λ xs stands.
    let k = c.args.self.now in
    first_found k xs stands c.args.class c.in-Some.place c.source_of.result
    (subst (λ (a : Kept). IsKthShown c.args.class a.firsts.shown c.in-Some.place) c.self.view_is c.in-Some.ensures.position)
    (ap (λ (a : Kept). slice_get a.list.tree.places c.in-Some.place) (sym c.self.view_is) ∙ c.source_of.ensures.at)

pub returns-else-place-len : goal.returns-else-place-len
returns-else-place-len c =
    λ xs stands.
    let k = c.args.self.now in
    let shown = subst (λ (a : Kept). IsKthShown c.args.class a.firsts.shown c.in-Some.place) c.self.view_is c.in-Some.ensures.position in
    absurd (let less = slice_get_within k.firsts.shown c.in-Some.place _ shown.shown in
    let most = c.if-place-len.false in
    omega (arith, less, most, c.len.ensures, ap (λ (a : Kept). length a.list.tree.places) c.self.view_is, long k xs stands))

pub returns-in-None : goal.returns-in-None
returns-in-None c =
    λ xs stands. none_found c.args.self.now xs stands c.args.class (λ less. none_some (subst (λ (t : Option ℕ). IsSome t) c.in-None.is (c.select.ensures.some.1 (subst (λ (a : Kept). c.args.class < count_shown a.firsts.shown) (sym c.self.view_is) less))))
