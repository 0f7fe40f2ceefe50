use Rattle.std.proofs.Common.{◌≡◌, ◌≤◌, ◌++◌, length, take, drop}
use Rattle.spec_syntax.specs.Reader.{made}
use Rattle.spec_syntax.specs.ValueReader.{read_continued}
use Rattle.gl_syntax.proofs.text.continued.Given as goal

-- the bytes so far are of their ranges, and the rest is read by the ranges that are left
abbrev pub invariant-loop-offset : goal.invariant-loop-offset
invariant-loop-offset l =
    (l.offset ≤ length l.bytes)
    × (read_continued l.ranges l.bytes ≡ made (λ char. take l.offset l.bytes ++ char) (read_continued (drop l.offset l.ranges) (drop l.offset l.bytes)))
