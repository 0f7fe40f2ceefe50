use Rattle.std.proofs.Common.{◌≤◌, ℕ, List, length, Bor}
use Rattle.std.specs.Prelude.{Result, Ok, Err, IfOk}
use Rattle.spec_syntax.specs.Reader.{found, table}
use Rattle.gl_syntax.specs.Stop.{Reads}
use Rattle.gl_syntax.specs.declared.stop.Stop.{Stop}
use Rattle.gl_line_reader.specs.Keywords.{keywords}
use Rattle.gl_line_reader.specs.declared.keyword.Keyword.{Keyword}
use Rattle.gl_line_reader.proofs.Joins.{table_rest}
use Rattle.gl_line_reader.proofs.line.keyword_ahead.Goals as goal

within : (result : Result (Keyword × Bor (List ℕ)) Stop) (bs : List ℕ) → Reads result (table found keywords bs) → IfOk result (λ x. length x.1.now ≤ length bs)
within (Ok x) bs h = table_rest keywords bs x.0 x.1.now h
within (Err stop) bs h = tt

pub returns-clause-within : goal.returns-clause-within
returns-clause-within c = within c.row_ahead.result c.args.bytes.now c.row_ahead.ensures
