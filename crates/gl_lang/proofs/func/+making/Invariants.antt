use Rattle.std.proofs.Common.{◌≡◌, ◌+◌, ◌*◌, map, take}
use Rattle.spec_lang.specs.Func as spec
use Rattle.gl_lang.proofs.func.+making.Given as goal

abbrev pub decreases-made : goal.decreases-made
decreases-made l = 2 * spec.func_size l.f.now + 1

abbrev pub decreases-all_made : goal.decreases-all_made
decreases-all_made l = 2 * spec.funcs_size (spec.funcs l.parts.now)

abbrev pub invariant-all_made-loop-part : goal.invariant-all_made-loop-part
invariant-all_made-loop-part l = l.values ≡ map (λ f. spec.eval f l.v) (take l.part-index l.parts)
