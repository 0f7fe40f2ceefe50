use Rattle.std.proofs.Common.{◌∙◌, sym, ap}
use Rattle.spec_syntax.specs.Reader.{found}
use Rattle.spec_syntax.specs.LanguageReader.{read_order}
use Rattle.gl_line_reader.specs.Keywords.{with_order}
use Rattle.gl_line_reader.proofs.Forms.{both_found}
use Rattle.gl_line_reader.proofs.two_names.names_order.Goals as goal

pub returns : goal.returns
returns c = both_found c.args.column (with_order c.args.word) read_order c.args.bytes.now c.in_ok-name.rest.now c.in_ok-order.rest.now c.in_ok-name.name c.in_ok-name.input c.in_ok-order.order c.in_ok-name.ensures c.in_ok-order.ensures ∙ ap (λ l. found l c.in_ok-order.rest.now) (sym c.line.ensures)
