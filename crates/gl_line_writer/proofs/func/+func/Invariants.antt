use Rattle.std.proofs.Common.{◌≡◌, ◌+◌, ◌*◌, ◌++◌, take}
use Rattle.std.specs.List.{flat_map}
use Rattle.spec_lang.specs.Func.{func_size, funcs, funcs_size}
use Rattle.gl_line_writer.specs.Pieces.{func_after_comma}
use Rattle.gl_line_writer.proofs.func.+func.Given as goal

abbrev pub decreases-add_func : goal.decreases-add_func
decreases-add_func l = 4 * func_size l.func.now + 2

abbrev pub decreases-add_pair : goal.decreases-add_pair
decreases-add_pair l = 4 * (func_size l.first.now + 1 + (func_size l.second.now + 1)) + 1

abbrev pub decreases-add_list : goal.decreases-add_list
decreases-add_list l = 4 * funcs_size (funcs l.parts.now) + 1

abbrev pub decreases-add_parts : goal.decreases-add_parts
decreases-add_parts l = 4 * funcs_size (funcs l.parts.now)

abbrev pub decreases-add_others : goal.decreases-add_others
decreases-add_others l = 4 * funcs_size (funcs l.parts.now)

abbrev pub decreases-add_after_comma : goal.decreases-add_after_comma
decreases-add_after_comma l = 4 * func_size l.func.now + 3

abbrev pub invariant-add_others-parts : goal.invariant-add_others-parts
invariant-add_others-parts l = l.out ≡ l.initial.out ++ flat_map func_after_comma (take l.part-index l.parts)
