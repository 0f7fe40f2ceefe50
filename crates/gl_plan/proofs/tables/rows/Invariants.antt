use Rattle.std.proofs.Common.{◌≡◌, ℕ, length, take}
use Rattle.spec_plans.specs.Making.{rows_for}
use Rattle.gl_plan.specs.Tables.{rows_at}
use Rattle.gl_plan.proofs.tables.rows.Given as goal

abbrev pub invariant-loop-line : goal.invariant-loop-line
invariant-loop-line l = record {
  count : length l.rows.items ≡ length l.names;
  so_far : (source : ℕ) → rows_at l.rows.items source ≡ rows_for l.names (take l.line-index l.lines) source;
}
