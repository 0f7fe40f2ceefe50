use Rattle.std.proofs.Common.{◌≡◌, pos, drop}
use Rattle.spec_lang.specs.Func as spec
use Rattle.gl_lang.proofs.func.sum_at.Given as goal

-- what is left is added to the sum so far
abbrev pub invariant-loop-element : goal.invariant-loop-element
invariant-loop-element l = spec.total_from (pos 0) l.each l.element-items ≡ spec.total_from l.total l.each (drop l.element-index l.element-items)
