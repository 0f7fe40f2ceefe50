use Rattle.std.proofs.Common.{◌≡◌}
use Rattle.spec_syntax.specs.Name.{unnamed}
use Rattle.gl_line_reader.proofs.name.after_name.Given as goal

-- the bytes that are left go on with a name
abbrev pub invariant-bytes : goal.invariant-bytes
invariant-bytes l = unnamed l.more l.rest ≡ unnamed l.most l.bytes

abbrev pub decreases-bytes : goal.decreases-bytes
decreases-bytes l = l.more
