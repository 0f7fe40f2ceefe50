use Rattle.std.proofs.Common.{◌≡◌, [], ◌∷◌, ◌++◌, ◌∙◌, sym, ap, subst, codes, MatchResult}
use Rattle.spec_syntax.specs.Reader.{found, after_word, folded}
use Rattle.spec_syntax.specs.ValueReader.{is, snoc}
use Rattle.spec_syntax.specs.LanguageReader.{read_index, read_steps}
use Rattle.gl_syntax.specs.Stop.{IsStop}
use Rattle.gl_line_reader.proofs.Parts.{first_found}
use Rattle.gl_line_reader.proofs.path.steps_ahead.Goals as goal

pub returns : goal.returns
returns c =
    let rest = c.in_ok-first.rest.now in
    let path : c.in_ok-path.path ≡ c.in_ok-first.first ∷ [] = c.in_ok-path.ensures ∙ ap (λ list. list ++ c.in_ok-first.first ∷ []) c.new.ensures in
    let same : read_steps c.args.bytes.now ≡ folded snoc c.in_ok-path.path 15 (is 46) (after_word (codes ".") read_index) rest =
    first_found 15 (is 46) read_index (after_word (codes ".") read_index) c.args.bytes.now c.in_ok-first.first c.in_ok-path.path rest c.in_ok-first.ensures path in
    subst (λ step. MatchResult c.other_steps.result (λ x. step ≡ found x.0 x.1.now) (IsStop step)) (sym same) c.other_steps.ensures
