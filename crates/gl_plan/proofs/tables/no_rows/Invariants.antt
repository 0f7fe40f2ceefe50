use Rattle.std.proofs.Common.{◌≡◌, ℕ, [], length}
use Rattle.gl_plan.specs.Tables.{rows_at}
use Rattle.gl_plan.proofs.tables.no_rows.Given as goal

abbrev pub invariant-loop-row : goal.invariant-loop-row
invariant-loop-row l = record {
  count : length l.rows.items ≡ l._row;
  empty : (source : ℕ) → rows_at l.rows.items source ≡ [];
}
