use Rattle.std.proofs.Common.{◌≡◌, ℕ, ◌+◌, ◌<◌, ◌≤◌, ◌^◌, length}
use Rattle.gl_line_reader.specs.Named.{read_more}
use Rattle.gl_line_reader.proofs.named.other_names.Given as goal

-- the names that are left are put to those so far
abbrev pub invariant-names : goal.invariant-names
invariant-names l = record {
  most : ℕ;
  enough : length l.rest ≤ most;
  columns : l.column + length l.rest < 2 ^ 64;
  whole : read_more l.separator l.names l.column most l.rest ≡ read_more l.separator l.initial.names l.initial.column (length l.bytes) l.bytes;
}

abbrev pub decreases-names : goal.decreases-names
decreases-names l = length l.rest
