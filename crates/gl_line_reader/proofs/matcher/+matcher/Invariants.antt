use Rattle.std.proofs.Common.{◌≡◌, ℕ, ◌+◌, ◌*◌, ◌<◌, ◌≤◌, length}
use Rattle.spec_syntax.specs.Reader.{folded}
use Rattle.spec_syntax.specs.ValueReader.{is}
use Rattle.spec_syntax.specs.LanguageReader.{read_unit}
use Rattle.gl_line_reader.specs.Chains.{put, read_part, read_others}
use Rattle.gl_line_reader.proofs.matcher.+matcher.Given as goal

abbrev pub decreases-unit_ahead : goal.decreases-unit_ahead
decreases-unit_ahead l = 8 * l.depth

abbrev pub decreases-joined_after : goal.decreases-joined_after
decreases-joined_after l = 8 * l.depth + 1

abbrev pub decreases-negated_ahead : goal.decreases-negated_ahead
decreases-negated_ahead l = 8 * l.depth + 1

abbrev pub decreases-joined_ahead : goal.decreases-joined_ahead
decreases-joined_ahead l = 8 * l.depth + 2

abbrev pub decreases-others_ahead : goal.decreases-others_ahead
decreases-others_ahead l = 8 * l.depth + 3

abbrev pub decreases-chain_ahead : goal.decreases-chain_ahead
decreases-chain_ahead l = 8 * l.depth + 5

abbrev pub decreases-chain_from : goal.decreases-chain_from
decreases-chain_from l = 8 * l.depth + 4

abbrev pub decreases-enclosed_ahead : goal.decreases-enclosed_ahead
decreases-enclosed_ahead l = 8 * l.depth + 6

abbrev pub decreases-opened_ahead : goal.decreases-opened_ahead
decreases-opened_ahead l = 8 * l.depth + 7

-- the units that are left are put to those so far, and the part that goes on has some
abbrev pub invariant-others_ahead-units : goal.invariant-others_ahead-units
invariant-others_ahead-units l = record {
  most : ℕ;
  enough : length l.rest ≤ most;
  some : 0 < length l.parts.1;
  whole : folded put l.parts most (is 32) (read_part (read_unit l.depth)) l.rest ≡ read_others (read_unit l.depth) l.initial.parts l.bytes;
}

abbrev pub decreases-others_ahead-units : goal.decreases-others_ahead-units
decreases-others_ahead-units l = length l.rest
