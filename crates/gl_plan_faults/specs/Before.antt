-- What a count of the lines before a line stands for.
use Rattle.std.specs.Prelude.{◌≡◌, List}
use Rattle.gl_lines.specs.declared.line.NumberedLine.{NumberedLine}
use Rattle.spec_plans.specs.Lines.{is_limit, is_list, is_listener, is_writer}
use Rattle.spec_plans.specs.Place.{some_line, count_lines, has_section}
use Rattle.gl_plan_faults.specs.declared.placing.Before.{Before}

-- it is the count of these lines
pub record StandsAfter (before : Before) (lines : List NumberedLine) : Type 0 where
  pub limited : before.limited ≡ some_line is_limit lines
  pub written : before.written ≡ some_line is_writer lines
  pub open_section : before.open_section ≡ has_section lines
  pub lists : before.lists ≡ count_lines is_list lines
  pub listeners : before.listeners ≡ count_lines is_listener lines
  pub writers : before.writers ≡ count_lines is_writer lines
