use Rattle.std.proofs.Common.{rules}
use Rattle.spec_syntax.specs.ValueReader.{read_nested, read_bracketed}
use Rattle.gl_lines.specs.declared.line.Line.TheVariants as line
use Rattle.gl_line_reader.proofs.Forms.{with_ends}
use Rattle.gl_line_reader.proofs.one_name.name_values.Goals as goal

pub returns-in_err-values : goal.returns-in_err-values
returns-in_err-values c = let stops = with_ends c.args.column line.AddAll (read_bracketed (read_nested 63)) c.args.bytes.now c.in_ok-list.rest.now c.in_ok-list.list in search (rules, stops, c.in_ok-list.ensures.read)
