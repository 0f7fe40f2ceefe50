use Rattle.std.proofs.Common.{◌∙◌, ap, sym, subst, refl}
use Rattle.std.specs.Prelude.{slice_get, option_map}
use Rattle.spec_classes.specs.Classes.{first_of, classes}
use Rattle.gl_classes.specs.Kept.{Kept}
use Rattle.gl_classes.specs.Sorting.{order_cmp}
use Rattle.gl_classes.specs.Stands.{StandsFor}
use Rattle.gl_classes.proofs.Sortings.{order_cmp_total}
use Rattle.gl_unique.proofs.Shown.{is_shown, none_shown, none_low}
use Rattle.gl_unique.proofs.unique.Unique.find.Goals as goal

pub returns-in-Some-clause-some : goal.returns-in-Some-clause-some
returns-in-Some-clause-some c =
    λ xs stands.
    let order = c.args.self.now.list.order in
    let here = ap (λ (k : Kept). option_map first_of (slice_get (classes (order_cmp k.list.order) xs) c.args.place)) c.self.view_is in
    let first = sym c.in-Some.is ∙ (c.find_first.ensures xs (subst (λ (k : Kept). StandsFor k xs) (sym c.self.view_is) stands) ∙ here) in
    ((λ e. (is_shown (order_cmp order) (order_cmp_total order) xs c.args.place c.in-Some.first first).low), (λ less. refl))

pub returns-in-Some-clause-found : goal.returns-in-Some-clause-found
returns-in-Some-clause-found c =
    λ xs stands.
    let order = c.args.self.now.list.order in
    let here = ap (λ (k : Kept). option_map first_of (slice_get (classes (order_cmp k.list.order) xs) c.args.place)) c.self.view_is in
    let first = sym c.in-Some.is ∙ (c.find_first.ensures xs (subst (λ (k : Kept). StandsFor k xs) (sym c.self.view_is) stands) ∙ here) in
    (is_shown (order_cmp order) (order_cmp_total order) xs c.args.place c.in-Some.first first).same

pub returns-in-None-clause-some : goal.returns-in-None-clause-some
returns-in-None-clause-some c =
    λ xs stands.
    let order = c.args.self.now.list.order in
    let here = ap (λ (k : Kept). option_map first_of (slice_get (classes (order_cmp k.list.order) xs) c.args.place)) c.self.view_is in
    let none = sym c.in-None.is ∙ (c.find_first.ensures xs (subst (λ (k : Kept). StandsFor k xs) (sym c.self.view_is) stands) ∙ here) in
    ((λ e. absurd cc), (λ less. absurd (none_low (order_cmp order) (order_cmp_total order) xs c.args.place none less)))

pub returns-in-None-clause-found : goal.returns-in-None-clause-found
returns-in-None-clause-found c =
    λ xs stands.
    let order = c.args.self.now.list.order in
    let here = ap (λ (k : Kept). option_map first_of (slice_get (classes (order_cmp k.list.order) xs) c.args.place)) c.self.view_is in
    let none = sym c.in-None.is ∙ (c.find_first.ensures xs (subst (λ (k : Kept). StandsFor k xs) (sym c.self.view_is) stands) ∙ here) in
    none_shown (order_cmp order) (order_cmp_total order) xs c.args.place none
