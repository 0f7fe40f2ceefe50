use Rattle.std.proofs.Common.{◌≡◌, codes}
use Rattle.spec_syntax.specs.Reader.{after_word, folded}
use Rattle.spec_syntax.specs.ValueReader.{is, snoc}
use Rattle.spec_syntax.specs.LanguageReader.{read_index}
use Rattle.gl_line_reader.proofs.path.other_steps.Given as goal

-- the indices that are left are put to those so far
abbrev pub invariant-steps : goal.invariant-steps
invariant-steps l =
    folded snoc l.path l.more (is 46) (after_word (codes ".") read_index) l.rest ≡ folded snoc l.initial.path l.most (is 46) (after_word (codes ".") read_index) l.bytes

abbrev pub decreases-steps : goal.decreases-steps
decreases-steps l = l.more
