use Rattle.spec_syntax.specs.LanguageReader.{read_bounds}
use Rattle.gl_lines.specs.declared.line.Line.TheVariants as line
use Rattle.gl_line_reader.proofs.Forms.{both_found}
use Rattle.gl_line_reader.proofs.two_names.names_bounds.Goals as goal

pub returns : goal.returns
returns c = both_found c.args.column line.Range read_bounds c.args.bytes.now c.in_ok-name.rest.now c.in_ok-bounds.rest.now c.in_ok-name.name c.in_ok-name.input c.in_ok-bounds.bounds c.in_ok-name.ensures c.in_ok-bounds.ensures
