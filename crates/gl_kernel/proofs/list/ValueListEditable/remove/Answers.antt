use Rattle.std.proofs.Common.{◌≡◌, ◌∙◌, ap, sym, remove, map, Some, slice_get}
use Rattle.gl_kernel.specs.Values.{Stored, unnamed}
use Rattle.gl_kernel.proofs.Names.{one_position, value_at, unnamed-remove}
use Rattle.gl_kernel.proofs.list.ValueListEditable.remove.Goals as goal

pub returns-clause-item : goal.returns-clause-item
returns-clause-item c =
    let es = c.self.inside.list.entries in
    let k = c.take.ensures.taken.0 in
    let found = c.take.ensures.taken.1 in
    let at : slice_get (map (λ e. e.0) es) c.args.at ≡ Some c.in-Some.handle = sym c.at.ensures ∙ c.in-Some.is in
    ap (λ (s : Stored). slice_get s.values c.args.at) (sym c.self.view_is) ∙ value_at es c.args.at k c.in-Some.handle c.take.result c.len-len.ensures.distinct at found

pub returns-clause-items : goal.returns-clause-items
returns-clause-items c =
    let es = c.self.inside.list.entries in
    let k = c.take.ensures.taken.0 in
    let found = c.take.ensures.taken.1 in
    let at : slice_get (map (λ e. e.0) es) c.args.at ≡ Some c.in-Some.handle = sym c.at.ensures ∙ c.in-Some.is in
    let position = one_position es c.args.at k c.in-Some.handle c.take.result c.len-len.ensures.distinct at found in
    ap unnamed (c.take.ensures.taken.2 ∙ ap (λ n. remove es n) position)
    ∙ (unnamed-remove es c.args.at ∙ ap (λ (s : Stored). remove s.values c.args.at) c.self.view_is)
