use Rattle.std.proofs.Common.{◌≡◌, ◌∙◌, ◌∷◌, ◌++◌, [], length, sym, ap, subst, MatchResult}
use Rattle.spec_syntax.specs.Reader.{found, made}
use Rattle.spec_lines.specs.Line.{in_row}
use Rattle.spec_lines.specs.Reader.{read_names}
use Rattle.gl_syntax.specs.Stop.{IsStop}
use Rattle.gl_line_reader.specs.Named.{read_more}
use Rattle.gl_line_reader.proofs.Columns.{names_on}
use Rattle.gl_line_reader.proofs.named.names_ahead.Goals as goal

pub returns : goal.returns
returns c =
    let first = c.in_ok-first.first in
    let rest = c.in_ok-first.rest.now in
    let names : c.in_ok-names.names ≡ first ∷ [] = c.in_ok-names.ensures ∙ ap (λ list. list ++ first ∷ []) c.new.ensures in
    let same : made (in_row c.args.column) (read_names c.args.separator (c.args.separator ∷ []) c.args.bytes.now) ≡ read_more c.args.separator c.in_ok-names.names c.past-after_word.result (length rest) rest =
    names_on c.args.separator c.args.column c.args.bytes.now first c.in_ok-names.names rest c.in_ok-first.ensures.read names
    ∙ ap (λ n. read_more c.args.separator c.in_ok-names.names n (length rest) rest) (sym c.past-after_word.ensures) in
    subst (λ step. MatchResult c.other_names.result (λ x. step ≡ found x.0 x.1.now) (IsStop step)) (sym same) c.other_names.ensures
