-- What tables of lines stand for.
use Rattle.std.specs.Prelude.{◌≡◌, ℕ, List, [], unwrap_or, slice_get}
use Rattle.spec_plans.specs.Tree.{Tree}
use Rattle.gl_lines.specs.declared.line.NumberedLine.{NumberedLine}
use Rattle.spec_plans.specs.Names.{list_names, listener_names}
use Rattle.spec_plans.specs.Making.{rows_for}
use Rattle.gl_plan.specs.declared.tables.Tables.{Tables}

-- the rows under a number; none past the end
abbrev pub rows_at : List (List Tree) → ℕ → List Tree
rows_at rows source = unwrap_or (slice_get rows source) []

-- they are the names that the lines declare, and the opening elements of each source
pub record AreTables (tables : Tables) (lines : List NumberedLine) : Type 0 where
  pub lists_are : tables.lists ≡ list_names lines
  pub listeners_are : tables.listeners ≡ listener_names lines
  pub rows_are : (source : ℕ)
      → rows_at tables.rows.items source ≡ rows_for (list_names lines) lines source
