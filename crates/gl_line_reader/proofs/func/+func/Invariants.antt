use Rattle.std.proofs.Common.{◌≡◌, ℕ, ◌+◌, ◌*◌, ◌≤◌, length, codes}
use Rattle.spec_syntax.specs.Reader.{after_word, folded}
use Rattle.spec_syntax.specs.ValueReader.{is, read_others, snoc}
use Rattle.spec_syntax.specs.LanguageReader.{read_func}
use Rattle.gl_line_reader.proofs.func.+func.Given as goal

abbrev pub decreases-func_ahead : goal.decreases-func_ahead
decreases-func_ahead l = 6 * l.depth

abbrev pub decreases-adding_ahead : goal.decreases-adding_ahead
decreases-adding_ahead l = 6 * l.depth + 5

abbrev pub decreases-pair_ahead : goal.decreases-pair_ahead
decreases-pair_ahead l = 6 * l.depth + 4

abbrev pub decreases-listing_ahead : goal.decreases-listing_ahead
decreases-listing_ahead l = 6 * l.depth + 4

abbrev pub decreases-elements_ahead : goal.decreases-elements_ahead
decreases-elements_ahead l = 6 * l.depth + 3

abbrev pub decreases-others_ahead : goal.decreases-others_ahead
decreases-others_ahead l = 6 * l.depth + 2

abbrev pub decreases-after_comma : goal.decreases-after_comma
decreases-after_comma l = 6 * l.depth + 1

-- the functions that are left are put to those so far
abbrev pub invariant-others_ahead-funcs : goal.invariant-others_ahead-funcs
invariant-others_ahead-funcs l = record {
  most : ℕ;
  enough : length l.rest ≤ most;
  whole : folded snoc l.funcs most (is 44) (after_word (codes ",") (read_func l.depth)) l.rest ≡ read_others (read_func l.depth) l.initial.funcs l.bytes;
}

abbrev pub decreases-others_ahead-funcs : goal.decreases-others_ahead-funcs
decreases-others_ahead-funcs l = length l.rest
