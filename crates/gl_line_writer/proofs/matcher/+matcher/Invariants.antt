use Rattle.std.proofs.Common.{◌≡◌, ◌+◌, ◌*◌, ◌++◌, take}
use Rattle.std.specs.List.{flat_map}
use Rattle.spec_lang.specs.Matcher.{matcher_size, matchers, matchers_size}
use Rattle.gl_line_writer.specs.Pieces.{unit_after_and, choice_after_or}
use Rattle.gl_line_writer.proofs.matcher.+matcher.Given as goal

abbrev pub decreases-add_matcher : goal.decreases-add_matcher
decreases-add_matcher l = 6 * matcher_size l.matcher.now + 1

abbrev pub decreases-add_enclosed_if : goal.decreases-add_enclosed_if
decreases-add_enclosed_if l = 6 * matcher_size l.part.now + 2

abbrev pub decreases-add_unit : goal.decreases-add_unit
decreases-add_unit l = 6 * matcher_size l.part.now + 3

abbrev pub decreases-add_choice : goal.decreases-add_choice
decreases-add_choice l = 6 * matcher_size l.part.now + 3

abbrev pub decreases-add_after_and : goal.decreases-add_after_and
decreases-add_after_and l = 6 * matcher_size l.part.now + 4

abbrev pub decreases-add_after_or : goal.decreases-add_after_or
decreases-add_after_or l = 6 * matcher_size l.part.now + 4

abbrev pub decreases-add_negation : goal.decreases-add_negation
decreases-add_negation l = 6 * matcher_size l.part.now + 4

abbrev pub decreases-add_units : goal.decreases-add_units
decreases-add_units l = 6 * matchers_size (matchers l.parts.now)

abbrev pub decreases-add_choices : goal.decreases-add_choices
decreases-add_choices l = 6 * matchers_size (matchers l.parts.now)

abbrev pub decreases-add_other_units : goal.decreases-add_other_units
decreases-add_other_units l = 6 * matchers_size (matchers l.parts.now)

abbrev pub decreases-add_other_choices : goal.decreases-add_other_choices
decreases-add_other_choices l = 6 * matchers_size (matchers l.parts.now)

abbrev pub invariant-add_other_units-parts : goal.invariant-add_other_units-parts
invariant-add_other_units-parts l = l.out ≡ l.initial.out ++ flat_map unit_after_and (take l.part-index l.parts)

abbrev pub invariant-add_other_choices-parts : goal.invariant-add_other_choices-parts
invariant-add_other_choices-parts l = l.out ≡ l.initial.out ++ flat_map choice_after_or (take l.part-index l.parts)
