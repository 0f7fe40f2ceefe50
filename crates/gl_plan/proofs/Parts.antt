-- The parts of lines by their tables.
use Rattle.std.proofs.Common.{◌≡◌, ℕ, List, map, ap, ◌∙◌}
use mathlib.Core.Path.{fun_ext}
use Rattle.std.specs.Prelude.{fold}
use Rattle.spec_plans.specs.Tree.{Tree}
use Rattle.gl_lines.specs.declared.line.NumberedLine.{NumberedLine}
use Rattle.spec_plans.specs.declared.part.Part.{Part}
use Rattle.spec_plans.specs.Names.{list_names, listener_names}
use Rattle.spec_plans.specs.Making.{part_of, with_part, empty_plan, plan_of}
use Rattle.gl_plan.specs.declared.tables.Tables.{Tables}
use Rattle.gl_plan.specs.Tables.{AreTables, rows_at}

-- the part of a line by tables
abbrev pub part_by : Tables → NumberedLine → Part
part_by tables l = part_of tables.lists tables.listeners (rows_at tables.rows.items) l.what

pub same_parts : (tables : Tables) (lines : List NumberedLine) → AreTables tables lines → fold with_part empty_plan (map (part_by tables) lines) ≡ plan_of lines
same_parts tables lines are =
    ap (λ names. fold with_part empty_plan (map (λ (l : NumberedLine). part_of names tables.listeners (rows_at tables.rows.items) l.what) lines)) are.lists_are
    ∙ ap (λ names. fold with_part empty_plan (map (λ (l : NumberedLine). part_of (list_names lines) names (rows_at tables.rows.items) l.what) lines)) are.listeners_are
    ∙ ap (λ (rows : ℕ → List Tree). fold with_part empty_plan (map (λ (l : NumberedLine). part_of (list_names lines) (listener_names lines) rows l.what) lines)) (fun_ext are.rows_are)
