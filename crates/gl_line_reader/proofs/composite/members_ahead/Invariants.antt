use Rattle.std.proofs.Common.{◌≡◌, ℕ, ◌+◌, ◌<◌, ◌≤◌, ◌^◌, [], length}
use Rattle.gl_line_reader.specs.Members.{read_members}
use Rattle.gl_line_reader.proofs.composite.members_ahead.Given as goal

-- the members that are left are put to those so far
abbrev pub invariant-members : goal.invariant-members
invariant-members l = record {
  most : ℕ;
  enough : length l.rest ≤ most;
  columns : l.column + length l.rest + 7 < 2 ^ 64;
  whole : read_members l.members l.column most l.rest ≡ read_members [] l.initial.column (length l.bytes) l.bytes;
}

abbrev pub decreases-members : goal.decreases-members
decreases-members l = length l.rest
