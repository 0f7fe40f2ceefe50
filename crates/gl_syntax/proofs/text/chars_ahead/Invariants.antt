use Rattle.std.proofs.Common.{◌≡◌, ℕ, ◌≤◌, ◌++◌, length}
use Rattle.spec_syntax.specs.Reader.{folded}
use Rattle.spec_syntax.specs.ValueReader.{begins_char, read_char, read_chars}
use Rattle.gl_syntax.proofs.text.chars_ahead.Given as goal

-- the characters that are left are put to those so far
abbrev pub invariant-chars : goal.invariant-chars
invariant-chars l = record {
  most : ℕ;
  enough : length l.rest ≤ most;
  whole : folded ◌++◌ l.chars most begins_char read_char l.rest ≡ read_chars l.bytes;
}

abbrev pub decreases-chars : goal.decreases-chars
decreases-chars l = length l.rest
