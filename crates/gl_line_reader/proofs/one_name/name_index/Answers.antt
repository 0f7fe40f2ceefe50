use Rattle.std.proofs.Common.{rules, ◌∙◌, sym, ap}
use Rattle.spec_syntax.specs.LanguageReader.{read_short}
use Rattle.spec_syntax.specs.Reader.{found}
use Rattle.gl_line_reader.specs.Keywords.{with_index}
use Rattle.gl_line_reader.proofs.Forms.{with_found, with_ends}
use Rattle.gl_line_reader.proofs.one_name.name_index.Goals as goal

pub returns : goal.returns
returns c = with_found c.args.column (with_index c.args.word) read_short c.args.bytes.now c.in_ok-list.rest.now c.in_ok-index.rest.now c.in_ok-list.list c.in_ok-index.index c.in_ok-list.ensures.read c.in_ok-index.ensures ∙ ap (λ l. found l c.in_ok-index.rest.now) (sym c.line.ensures)

pub returns-in_err-index : goal.returns-in_err-index
returns-in_err-index c = let stops = with_ends c.args.column (with_index c.args.word) read_short c.args.bytes.now c.in_ok-list.rest.now c.in_ok-list.list in search (rules, stops, c.in_ok-list.ensures.read)
