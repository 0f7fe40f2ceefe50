use Rattle.std.proofs.Common.{◌≡◌, ℕ, ◌+◌, ◌*◌, ◌≤◌, length, codes}
use Rattle.spec_syntax.specs.Reader.{after_word, folded}
use Rattle.spec_syntax.specs.ValueReader.{is, read_nested, read_others, snoc}
use Rattle.gl_syntax.proofs.value.+value.Given as goal

abbrev pub decreases-value_ahead : goal.decreases-value_ahead
decreases-value_ahead l = 5 * l.depth

abbrev pub decreases-list_ahead : goal.decreases-list_ahead
decreases-list_ahead l = 5 * l.depth + 4

abbrev pub decreases-elements_ahead : goal.decreases-elements_ahead
decreases-elements_ahead l = 5 * l.depth + 3

abbrev pub decreases-others_ahead : goal.decreases-others_ahead
decreases-others_ahead l = 5 * l.depth + 2

abbrev pub decreases-after_comma : goal.decreases-after_comma
decreases-after_comma l = 5 * l.depth + 1

-- the elements that are left are put to those so far
abbrev pub invariant-others_ahead-elements : goal.invariant-others_ahead-elements
invariant-others_ahead-elements l = record {
  most : ℕ;
  enough : length l.rest ≤ most;
  whole : folded snoc l.values most (is 44) (after_word (codes ",") (read_nested l.depth)) l.rest ≡ read_others (read_nested l.depth) l.initial.values l.bytes;
}

abbrev pub decreases-others_ahead-elements : goal.decreases-others_ahead-elements
decreases-others_ahead-elements l = length l.rest
