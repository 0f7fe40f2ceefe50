use Rattle.std.proofs.Common.{◌≡◌, ◌≤◌, length}
use Rattle.spec_syntax.specs.ValueReader.{read_longer}
use Rattle.gl_syntax.proofs.number.longer.Given as goal

-- the digits that are left go on with the number so far
abbrev pub invariant-digits : goal.invariant-digits
invariant-digits l = (read_longer l.top l.number l.rest ≡ read_longer l.top l.first l.bytes) × (l.first ≤ l.number) × (l.number ≤ l.top)

abbrev pub decreases-digits : goal.decreases-digits
decreases-digits l = length l.rest
