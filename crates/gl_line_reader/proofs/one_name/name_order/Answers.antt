use Rattle.spec_syntax.specs.LanguageReader.{read_order}
use Rattle.gl_lines.specs.declared.line.Line.TheVariants as line
use Rattle.gl_line_reader.proofs.Forms.{with_found}
use Rattle.gl_line_reader.proofs.one_name.name_order.Goals as goal

pub returns : goal.returns
returns c = with_found c.args.column line.Order read_order c.args.bytes.now c.in_ok-list.rest.now c.in_ok-order.rest.now c.in_ok-list.list c.in_ok-order.order c.in_ok-list.ensures.read c.in_ok-order.ensures
