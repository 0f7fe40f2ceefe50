use Rattle.std.proofs.Common.{◌+◌, ◌≤◌, ◌<◌, length, arith, sym, ap, ◌∙◌}
use Rattle.spec_value.specs.Tree.{items, items_of}
use Rattle.spec_lang.specs.Func as spec
use Rattle.spec_lang.proofs.Lists.{func_size-at, eval_all-funcs}
use Rattle.gl_lang.proofs.func.+making.Goals as goal

-- a part is smaller than its list
pub all_made-made-requires : goal.all_made-made-requires
all_made-made-requires t c =
    let within : c.loop-part.part-index < length c.args.parts.now = omega arith in
    let smaller : spec.func_size c.part-item.result + 1 ≤ spec.funcs_size (spec.funcs c.args.parts.now) =
    func_size-at c.args.parts.now c.loop-part.part-index c.part-item.result within c.part-item.is in
    (omega arith, tt)

pub made-returns-in_ok-values-in-Items : goal.made-returns-in_ok-values-in-Items
made-returns-in_ok-values-in-Items t c =
    let made = ap items (sym (eval_all-funcs c.in-Items.parts.now c.args.v.now)) in
    c.items.ensures ∙ ap items_of c.in_ok-values-in-Items.ensures ∙ made ∙ ap (λ f. spec.eval f c.args.v.now) c.in-Items.ensures
