use Rattle.std.proofs.Common.{◌∙◌, arith}
use Rattle.spec_views.specs.Matcher.{accepts}
use Rattle.gl_kernel.proofs.Made.{made_last}
use Rattle.gl_filter.specs.Marked.{marked}
use Rattle.gl_filter.proofs.filter.Filter.make.Goals as goal

pub loop-position-preserved : goal.loop-position-preserved
loop-position-preserved g c = record {
  marks = c.in_ok-push.ensures
      ∙ made_last (accepts c.args.param) (g.S.Shelf.items c.args.input.now) (marked c.loop-position.marking) c.loop-position.position c.element.result.now c.accepts-shown.result
      c.loop-position.invariant.marks c.element.ensures c.accepts-shown.ensures.value;
  counted = omega (arith, c.loop-position.invariant.counted, c.accepts-shown.ensures.counted);
}
