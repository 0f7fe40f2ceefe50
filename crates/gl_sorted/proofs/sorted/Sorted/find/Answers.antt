use Rattle.std.proofs.Common.{◌∙◌, length, ap, sym, arith}
use Rattle.std.specs.List.{slice_get}
use Rattle.gl_arranged.specs.Kept.{Kept}
use Rattle.gl_arranged.specs.Sorting.{order_cmp}
use Rattle.gl_arranged.proofs.Sortings.{order_cmp_total}
use Rattle.gl_sorted.proofs.Shown.{shown_at, none_shown}
use Rattle.gl_sorted.proofs.sorted.Sorted.find.Goals as goal

pub returns-then-place-len-clause-found : goal.returns-then-place-len-clause-found
returns-then-place-len-clause-found c =
    λ xs stands. shown_at (order_cmp c.args.self.now.order) (order_cmp_total c.args.self.now.order) xs c.args.self.now.tree stands c.args.place c.source_of.result (ap (λ (k : Kept). slice_get k.tree.places c.args.place) (sym c.self.view_is) ∙ c.source_of.ensures.at)

pub returns-else-place-len-clause-found : goal.returns-else-place-len-clause-found
returns-else-place-len-clause-found c =
    λ xs stands. none_shown (order_cmp c.args.self.now.order) (order_cmp_total c.args.self.now.order) xs c.args.self.now.tree stands c.args.place (omega (arith, c.if-place-len.false, c.len.ensures, ap (λ (k : Kept). length k.tree.places) c.self.view_is))
