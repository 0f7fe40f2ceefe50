use Rattle.std.proofs.Common.{rules}
use Rattle.spec_syntax.specs.LanguageReader.{read_path}
use Rattle.gl_lines.specs.declared.line.Line.TheVariants as line
use Rattle.gl_line_reader.proofs.Forms.{both_found, both_end}
use Rattle.gl_line_reader.proofs.two_names.names_path.Goals as goal

pub returns : goal.returns
returns c = both_found c.args.column line.Collection read_path c.args.bytes.now c.in_ok-name.rest.now c.in_ok-path.rest.now c.in_ok-name.name c.in_ok-name.input c.in_ok-path.path c.in_ok-name.ensures c.in_ok-path.ensures

pub returns-in_err-path : goal.returns-in_err-path
returns-in_err-path c = let stops = both_end c.args.column line.Collection read_path c.args.bytes.now c.in_ok-name.rest.now c.in_ok-name.name c.in_ok-name.input in search (rules, stops, c.in_ok-name.ensures)
