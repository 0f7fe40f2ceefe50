use Rattle.std.proofs.Common.{◌≡◌, ◌∙◌, ap, sym, map, Some, slice_get, slice_set}
use Rattle.gl_counted.specs.Counted.{with_item}
use Rattle.gl_kernel.specs.Values.{Stored, unnamed}
use Rattle.gl_kernel.proofs.Names.{value_held, unnamed-with}
use Rattle.gl_kernel.proofs.list.ValueListEditable.replace.Goals as goal

pub returns-clause-item : goal.returns-clause-item
returns-clause-item c =
    let es = c.self.inside.list.entries in
    let at : slice_get (map (λ e. e.0) es) c.args.at ≡ Some c.in-Some.handle = sym c.at.ensures ∙ c.in-Some.is in
    ap (λ (s : Stored). slice_get s.values c.args.at) (sym c.self.view_is)
    ∙ (value_held es c.args.at c.in-Some.handle c.item_mut.result.now c.len-len.ensures.distinct at c.item_mut.ensures.value ∙ ap Some (sym c.replace.ensures.value))

pub returns-clause-items : goal.returns-clause-items
returns-clause-items c =
    let es = c.self.inside.list.entries in
    let h = c.in-Some.handle in
    let at : slice_get (map (λ e. e.0) es) c.args.at ≡ Some h = sym c.at.ensures ∙ c.in-Some.is in
    ap (λ v. unnamed (with_item es h v)) c.replace.ensures.after
    ∙ (unnamed-with es c.args.at h c.args.item c.len-len.ensures.distinct at ∙ ap (λ (s : Stored). slice_set s.values c.args.at c.args.item) c.self.view_is)
