use Rattle.std.proofs.Common.{◌≡◌, drop}
use Rattle.spec_syntax.specs.Reader.{read_word}
use Rattle.gl_syntax.proofs.stop.word.Given as goal

-- what is left of the word is read from the rest
abbrev pub invariant-loop-sign : goal.invariant-loop-sign
invariant-loop-sign l = read_word (drop l.sign-index l.word) l.rest ≡ read_word l.word l.bytes
