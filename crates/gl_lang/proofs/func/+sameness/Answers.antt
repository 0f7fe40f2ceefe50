use Rattle.std.proofs.Common.{◌+◌, ◌≤◌, ◌<◌, length, arith, sym, ap, ◌∙◌}
use Rattle.spec_lang.specs.Func as spec
use Rattle.spec_lang.proofs.Lists.{func_size-at, list-parts}
use Rattle.gl_lang.proofs.func.+sameness.Goals as goal

-- a part is smaller than its list
pub same_parts-same_func-requires : goal.same_parts-same_func-requires
same_parts-same_func-requires t c =
    let within : c.loop-i.i < length c.args.a.now = omega arith in
    let smaller : spec.func_size c.index-a-i.result + 1 ≤ spec.funcs_size (spec.funcs c.args.a.now) =
    func_size-at c.args.a.now c.loop-i.i c.index-a-i.result within c.index-a-i.is in
    (omega arith, tt)

pub same_func-returns-in-Items-Items : goal.same_func-returns-in-Items-Items
same_func-returns-in-Items-Items t c =
    let arm = c.in-Items-Items in (
      λ yes. sym arm.ensures ∙ ap (λ fs. spec.list (spec.funcs fs)) (c.same_parts.ensures.0 yes) ∙ arm.ensures',
      λ e. c.same_parts.ensures.1 (list-parts arm.fs.now arm.gs.now (arm.ensures ∙ e ∙ sym arm.ensures')),
    )
