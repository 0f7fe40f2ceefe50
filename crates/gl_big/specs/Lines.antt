-- The lines of the large plan, as they are made one after another.
use Rattle.std.specs.Prelude.{◌≡◌, ◌*◌, ◌%◌, ℕ, List, [], ◌∷◌, ◌++◌, map, flat_map, pos, codes, false}
use Rattle.std.specs.List.{range_with_len}
use Rattle.spec_value.specs.Tree.{num}
use Rattle.spec_lang.specs.Matcher.{is}
use Rattle.spec_lang.specs.Func.{count}
use Rattle.spec_lang.specs.declared.Test.TheVariants.{Ge}
use Rattle.gl_lines.specs.declared.line.Line.{Line}
use Rattle.gl_lines.specs.declared.line.Line.TheVariants as line
use Rattle.gl_lines.specs.declared.line.NumberedLine.{NumberedLine}
use Rattle.spec_plans.specs.Numbered.{numbered}
use Rattle.spec_plans.specs.PlanNames.{unplaced_name}
use Rattle.spec_reports.specs.Big.{element, upwards}

-- what lines say, whatever their numbers
abbrev pub said : List NumberedLine → List Line
said lines = map (λ l. l.what) lines

-- the lines are numbered from 2 on
abbrev pub AreNumbered : List NumberedLine → Type 0
AreNumbered lines = lines ≡ numbered 2 (said lines)

-- the line of the opening element of an index, of the source of this name
abbrev pub row_line : List ℕ → ℕ → Line
row_line source k = line.Row (unplaced_name source) (element ((37 * k) % 101) (k % 7))

-- the limit, and the source of this name with its opening elements
abbrev pub source_lines : List ℕ → ℕ → List Line
source_lines source n =
    line.Limit 16777216
    ∷ line.Source (unplaced_name source) ∷ map (row_line source) (range_with_len 0 n)

abbrev pub view_lines : List Line
view_lines =
    line.Filter (unplaced_name (codes "f")) (unplaced_name (codes "s")) (is (0 ∷ []) Ge (num (pos 50)))
    ∷ line.Sorted (unplaced_name (codes "o")) (unplaced_name (codes "f")) (upwards 0 ∷ upwards 1 ∷ [])
    ∷ line.Unique (unplaced_name (codes "u")) (unplaced_name (codes "s")) (upwards 0 ∷ [])
    ∷ line.Grouping (unplaced_name (codes "g")) (unplaced_name (codes "s")) (upwards 0 ∷ [])
    ∷ line.Function (unplaced_name (codes "n")) (unplaced_name (codes "g")) (count [])
    ∷ line.Composite (unplaced_name (codes "c"))
    (unplaced_name (codes "o") ∷ unplaced_name (codes "u") ∷ []) [] ∷ []

abbrev pub listener_lines : List Line
listener_lines =
    line.Listen (unplaced_name (codes "a")) (unplaced_name (codes "c")) [] false
    ∷ line.Listen (unplaced_name (codes "b")) (unplaced_name (codes "n")) [] false ∷ []

-- the lines of the section of an index, of so many
abbrev pub section_lines : List ℕ → ℕ → ℕ → List Line
section_lines source n j =
    line.Section
    ∷ line.Set (unplaced_name source) ((13 * j) % n) (element ((41 * j) % 101) (j % 7))
    ∷ line.Add (unplaced_name source) (element ((53 * j) % 101) (j % 7))
    ∷ line.Remove (unplaced_name source) ((29 * j) % n) ∷ []

-- all lines
abbrev pub large_lines : ℕ → List Line
large_lines n =
    (((source_lines (codes "s") n ++ view_lines) ++ listener_lines) ++ line.Writer ∷ [])
    ++ flat_map (section_lines (codes "s") n) (range_with_len 0 n)
