use Rattle.std.proofs.Common.{◌≡◌, codes}
use Rattle.spec_syntax.specs.Reader.{after_word, folded}
use Rattle.spec_syntax.specs.ValueReader.{is, snoc}
use Rattle.spec_syntax.specs.LanguageReader.{read_key}
use Rattle.gl_line_reader.proofs.path.other_keys.Given as goal

-- the keys that are left are put to those so far
abbrev pub invariant-keys : goal.invariant-keys
invariant-keys l =
    folded snoc l.keys l.more (is 44) (after_word (codes ", ") read_key) l.rest ≡ folded snoc l.initial.keys l.most (is 44) (after_word (codes ", ") read_key) l.bytes

abbrev pub decreases-keys : goal.decreases-keys
decreases-keys l = l.more
