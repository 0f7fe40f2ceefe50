use Rattle.std.proofs.Common.{◌≡◌, ◌≤◌, length, drop}
use Rattle.spec_syntax.specs.Reader.{found, stopped, nearer, table}
use Rattle.gl_line_reader.specs.Table.{rows_of}
use Rattle.gl_line_reader.proofs.table.row_ahead.Given as goal

-- the rows that are left, and the least so far
abbrev pub invariant-loop-row : goal.invariant-loop-row
invariant-loop-row g l = (nearer (stopped l.least) (table found (rows_of (drop l.row-index l.rows)) l.bytes) ≡ table found (rows_of l.rows) l.bytes) × (l.least ≤ length l.bytes)
