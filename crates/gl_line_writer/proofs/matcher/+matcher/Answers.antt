use Rattle.std.proofs.Common.{◌+◌, ◌≤◌, ◌<◌, length, arith}
use Rattle.spec_lang.specs.Matcher.{matcher_size, matchers, matchers_size}
use Rattle.spec_lang.proofs.Lists.{matcher_size-at}
use Rattle.spec_syntax.specs.Spelled.{spelled_other_units, spelled_other_choices}
use Rattle.gl_line_writer.specs.Pieces.{unit_after_and, choice_after_or}
use Rattle.gl_line_writer.proofs.Pieces.{all_written, other_units_are, other_choices_are}
use Rattle.gl_line_writer.proofs.matcher.+matcher.Goals as goal

-- a part is smaller than its list
pub add_other_units-add_after_and-requires : goal.add_other_units-add_after_and-requires
add_other_units-add_after_and-requires t c =
    let within : c.parts.part-index < length c.args.parts.now = omega arith in
    let smaller : matcher_size c.part-item.result + 1 ≤ matchers_size (matchers c.args.parts.now) = matcher_size-at c.args.parts.now c.parts.part-index c.part-item.result within c.part-item.is in
    (omega arith, tt)

pub add_other_choices-add_after_or-requires : goal.add_other_choices-add_after_or-requires
add_other_choices-add_after_or-requires t c =
    let within : c.parts.part-index < length c.args.parts.now = omega arith in
    let smaller : matcher_size c.part-item.result + 1 ≤ matchers_size (matchers c.args.parts.now) = matcher_size-at c.args.parts.now c.parts.part-index c.part-item.result within c.part-item.is in
    (omega arith, tt)

pub add_other_units-returns : goal.add_other_units-returns
add_other_units-returns t c =
    all_written unit_after_and (λ ms. spelled_other_units (matchers ms)) other_units_are c.parts.out c.args.out.now c.args.parts.now c.parts.part-index c.parts-test.false c.parts.invariant

pub add_other_choices-returns : goal.add_other_choices-returns
add_other_choices-returns t c =
    all_written choice_after_or (λ ms. spelled_other_choices (matchers ms)) other_choices_are c.parts.out c.args.out.now c.args.parts.now c.parts.part-index c.parts-test.false c.parts.invariant
