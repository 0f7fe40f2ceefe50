-- Plans whose text has no long lines.
use Rattle.std.specs.Prelude.{◌≤◌, length}
use Rattle.std.specs.List.{AllByRecursion}
use Rattle.gl_lines.specs.declared.line.Line.{Line}
use Rattle.spec_lines.specs.Spelled.{spelled_line}
use Rattle.spec_plans.specs.Plan.{Plan}
use Rattle.spec_plan_texts.specs.Canonical.{lines_of_plan}
use Rattle.spec_plan_texts.specs.Reading.{most_bytes}

-- the one spelling of the line isn't too long
abbrev pub IsShortLine : Line → Type 0
IsShortLine l = length (spelled_line l) ≤ most_bytes

-- nor is that of any line of the plan
abbrev pub HasShortLines : Plan → Type 0
HasShortLines p = AllByRecursion IsShortLine (lines_of_plan p)
