use Rattle.std.proofs.Common.{◌≡◌, [], ◌∷◌, ◌++◌, ◌∙◌, sym, ap, subst, codes, MatchResult}
use Rattle.spec_syntax.specs.Reader.{found, after_word, folded}
use Rattle.spec_syntax.specs.ValueReader.{is, snoc}
use Rattle.spec_syntax.specs.LanguageReader.{read_key, read_order}
use Rattle.gl_syntax.specs.Stop.{IsStop}
use Rattle.gl_line_reader.proofs.Parts.{first_found}
use Rattle.gl_line_reader.proofs.path.keys_ahead.Goals as goal

pub returns : goal.returns
returns c =
    let rest = c.in_ok-first.rest.now in
    let keys : c.in_ok-keys.keys ≡ c.in_ok-first.first ∷ [] = c.in_ok-keys.ensures ∙ ap (λ list. list ++ c.in_ok-first.first ∷ []) c.new.ensures in
    let same : read_order c.args.bytes.now ≡ folded snoc c.in_ok-keys.keys 7 (is 44) (after_word (codes ", ") read_key) rest =
    first_found 7 (is 44) read_key (after_word (codes ", ") read_key) c.args.bytes.now c.in_ok-first.first c.in_ok-keys.keys rest c.in_ok-first.ensures keys in
    subst (λ step. MatchResult c.other_keys.result (λ x. step ≡ found x.0 x.1.now) (IsStop step)) (sym same) c.other_keys.ensures
