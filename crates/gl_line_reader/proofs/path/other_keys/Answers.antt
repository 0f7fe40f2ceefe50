use Rattle.std.proofs.Common.{◌∙◌, sym, ap, codes, ◌-◌}
use Rattle.spec_syntax.specs.Reader.{after_word, folded}
use Rattle.spec_syntax.proofs.Folds.{folded_on}
use Rattle.spec_syntax.specs.ValueReader.{is, snoc}
use Rattle.spec_syntax.specs.LanguageReader.{read_key}
use Rattle.gl_line_reader.proofs.path.other_keys.Goals as goal

pub keys-preserved : goal.keys-preserved
keys-preserved c =
    ap (λ keys. folded snoc keys (c.keys.more - 1) (is 44) (after_word (codes ", ") read_key) c.in_ok-key.others.now) c.in_ok-keys.ensures
    ∙ sym (folded_on snoc c.keys.keys c.keys.more (is 44) (after_word (codes ", ") read_key) c.keys.rest.now c.in_ok-key.key c.in_ok-key.others.now c.keys-test.true (sym c.begins_with.ensures ∙ c.if-begins_with.true) c.in_ok-key.ensures)
    ∙ c.keys.invariant
