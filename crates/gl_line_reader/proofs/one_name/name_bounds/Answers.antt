use Rattle.std.proofs.Common.{rules}
use Rattle.spec_syntax.specs.LanguageReader.{read_bounds}
use Rattle.gl_lines.specs.declared.line.Line.TheVariants as line
use Rattle.gl_line_reader.proofs.Forms.{with_found, with_ends}
use Rattle.gl_line_reader.proofs.one_name.name_bounds.Goals as goal

pub returns : goal.returns
returns c = with_found c.args.column line.Bounds read_bounds c.args.bytes.now c.in_ok-list.rest.now c.in_ok-bounds.rest.now c.in_ok-list.list c.in_ok-bounds.bounds c.in_ok-list.ensures.read c.in_ok-bounds.ensures

pub returns-in_err-bounds : goal.returns-in_err-bounds
returns-in_err-bounds c = let stops = with_ends c.args.column line.Bounds read_bounds c.args.bytes.now c.in_ok-list.rest.now c.in_ok-list.list in search (rules, stops, c.in_ok-list.ensures.read)
