use Rattle.std.proofs.Common.{◌≡◌, ◌∙◌, ap, sym, map, slice_get, Some, None}
use Rattle.gl_kernel.specs.Values.{Stored}
use Rattle.gl_kernel.proofs.Names.{value_held, no_value}
use Rattle.gl_kernel.proofs.list.ValueListShelf.get.Goals as goal

pub returns-in-Some : goal.returns-in-Some
returns-in-Some c =
    let es = c.self.inside.list.entries in
    let at : slice_get (map (λ e. e.0) es) c.args.position ≡ Some c.in-Some.handle = sym c.at.ensures ∙ c.in-Some.is in
    sym (value_held es c.args.position c.in-Some.handle c.item.result.now c.len-len.ensures.distinct at c.item.ensures)
    ∙ ap (λ (s : Stored). slice_get s.values c.args.position) c.self.view_is

pub returns-in-None : goal.returns-in-None
returns-in-None c =
    let es = c.self.inside.list.entries in
    let at : slice_get (map (λ e. e.0) es) c.args.position ≡ None = sym c.at.ensures ∙ c.in-None.is in
    sym (no_value es c.args.position at) ∙ ap (λ (s : Stored). slice_get s.values c.args.position) c.self.view_is
