use Rattle.std.proofs.Common.{◌≡◌, drop}
use Rattle.spec_lang.specs.Sorting.{order_cmp}
use Rattle.gl_lang.proofs.order.compare_by.Given as goal

-- the keys so far were equal
abbrev pub invariant-loop-key : goal.invariant-loop-key
invariant-loop-key l = order_cmp l.keys l.a l.b ≡ order_cmp (drop l.key-index l.keys) l.a l.b
