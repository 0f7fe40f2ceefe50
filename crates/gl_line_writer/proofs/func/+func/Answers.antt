use Rattle.std.proofs.Common.{◌+◌, ◌≤◌, ◌<◌, length, arith}
use Rattle.spec_lang.specs.Func.{func_size, funcs, funcs_size}
use Rattle.spec_lang.proofs.Lists.{func_size-at}
use Rattle.spec_syntax.specs.Spelled.{spelled_other_funcs}
use Rattle.gl_line_writer.specs.Pieces.{func_after_comma}
use Rattle.gl_line_writer.proofs.Pieces.{all_written, other_funcs_are}
use Rattle.gl_line_writer.proofs.func.+func.Goals as goal

-- a part is smaller than its list
pub add_others-add_after_comma-requires : goal.add_others-add_after_comma-requires
add_others-add_after_comma-requires t c =
    let within : c.parts.part-index < length c.args.parts.now = omega arith in
    let smaller : func_size c.part-item.result + 1 ≤ funcs_size (funcs c.args.parts.now) = func_size-at c.args.parts.now c.parts.part-index c.part-item.result within c.part-item.is in
    (omega arith, tt)

pub add_others-returns : goal.add_others-returns
add_others-returns t c =
    all_written func_after_comma (λ fs. spelled_other_funcs (funcs fs)) other_funcs_are c.parts.out c.args.out.now c.args.parts.now c.parts.part-index c.parts-test.false c.parts.invariant
