use Rattle.std.proofs.Common.{◌≡◌, ℕ, ◌≤◌, false, ltb, arith}
use Rattle.std.proofs.lemmas.Bool.Decides.{nat_tests}
use Rattle.gl_syntax.proofs.Chars.{continued_past}
use Rattle.gl_syntax.proofs.text.continued.Goals as goal

at_end : (offset n : ℕ) → false ≡ ltb offset n → n ≤ offset
at_end offset n h = grind (arith, nat_tests)

pub returns-in_default-clause-read : goal.returns-in_default-clause-read
returns-in_default-clause-read c =
    continued_past c.args.ranges.now c.args.bytes.now _ c.loop-offset.offset c.loop-offset-test.true (at_end _ _ c.in_default.ensures.lookup.0) c.loop-offset.invariant.1
