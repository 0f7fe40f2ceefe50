-- Where a line may stand, and how many of a sort there may be.
use Rattle.std.specs.Prelude.{ℕ, Bool, true, false, not, ◌||◌, ◌&&◌, ◌==◌, if◌then◌else◌, List, Option, Some, None, option_map, fold, count_by}
use Rattle.std.specs.List.{list_any}
use Rattle.gl_lines.specs.declared.line.Line.{Line}
use Rattle.gl_lines.specs.declared.line.Line.TheVariants.{Writer, Section}
use Rattle.gl_lines.specs.declared.line.NumberedLine.{NumberedLine}
use Rattle.gl_lines.specs.declared.fault.PlanKind.{PlanKind}
use Rattle.gl_lines.specs.declared.fault.PlanKind.TheVariants.{Place, Many}
use Rattle.gl_lines.specs.declared.fault.Misplaced.{Misplaced}
use Rattle.spec_plans.specs.Along.{first_said}
use Rattle.spec_plans.specs.Lines.{is_limit, is_end, is_writer, is_section, is_list, is_listener, is_command, is_declaration}

-- whether one of the lines is such, and how many are
abbrev pub some_line : (Line → Bool) → List NumberedLine → Bool
some_line p lines = list_any (λ l. p l.what) lines

abbrev pub count_lines : (Line → Bool) → List NumberedLine → ℕ
count_lines p lines = count_by (λ l. p l.what) lines

-- whether a section is open after a line: `section` opens one, and `writer` closes it
abbrev pub is_open_after : Bool → Line → Bool
is_open_after was Section = true
is_open_after was Writer = false
is_open_after was other = was

-- whether the last writer of the lines has a section
abbrev pub has_section : List NumberedLine → Bool
has_section lines = fold (λ was l. is_open_after was l.what) false lines

-- These may not stand after the lines: a declaration after the first `writer`; a second `limit`; a `section` before a
-- `writer`; a command before its writer's first `section`; and `end csv` anywhere.
abbrev pub is_out_of_place : List NumberedLine → Line → Bool
is_out_of_place before line =
    is_end line
    || (is_declaration line && some_line is_writer before)
    || (is_limit line && some_line is_limit before)
    || (is_section line && not (some_line is_writer before))
    || (is_command line && not (has_section before))

-- the 257th list, the 257th listener or the 65th writer
abbrev pub is_too_many : List NumberedLine → Line → Bool
is_too_many before line =
    (is_list line && count_lines is_list before == 256)
    || (is_listener line && count_lines is_listener before == 256)
    || (is_writer line && count_lines is_writer before == 64)

-- what is wrong with the place of a line after the others, if anything is
abbrev pub place_fault : List NumberedLine → Line → Option PlanKind
place_fault before line =
    if is_out_of_place before line then Some Place else if is_too_many before line then Some Many
    else None

abbrev pub misplacing : List NumberedLine → NumberedLine → Option Misplaced
misplacing before l =
    option_map (λ kind. record { line = l.line; kind = kind }) (place_fault before l.what)

-- the first line that may not stand where it stands or is one too many
abbrev pub first_misplaced : List NumberedLine → Option Misplaced
first_misplaced lines = first_said misplacing lines
