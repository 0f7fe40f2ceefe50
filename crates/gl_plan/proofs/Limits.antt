-- The limit of the plan that lines make.
use Rattle.std.proofs.Common.{◌≡◌, ℕ, List, [], ◌∷◌, map, arith}
use Rattle.std.specs.Prelude.{fold, All, ⊤}
use Rattle.std.specs.List.{AllByRecursion}
use Rattle.std.proofs.lemmas.List.Elements.{recursion_from_All}
use Rattle.spec_plans.specs.Tree.{Tree}
use Rattle.gl_lines.specs.declared.line.Line.{Line}
use Rattle.gl_lines.specs.declared.line.Line.TheVariants as line
use Rattle.gl_lines.specs.declared.line.NumberedLine.{NumberedLine}
use Rattle.spec_lines.specs.Within.{IsWithin}
use Rattle.spec_plans.specs.declared.part.Part.{Part}
use Rattle.spec_plans.specs.declared.part.Part.TheVariants as parts
use Rattle.spec_plans.specs.Names.{list_names, listener_names}
use Rattle.spec_plans.specs.Plan.{Plan}
use Rattle.spec_plans.specs.Making.{part_of, rows_for, with_part, empty_plan, plan_of}
use Rattle.gl_plan.specs.Whole.{IsLimit}

-- a part that sets no limit but one within the bounds
abbrev SetsLimit : Part → Type 0
SetsLimit (parts.Limit limit) = IsLimit limit
SetsLimit other = ⊤

one_set : (p : Plan) (part : Part) → IsLimit p.limit → SetsLimit part
    → IsLimit (with_part p part).limit
one_set p (parts.Limit limit) is set = set
one_set p (parts.List d) is set = is
one_set p (parts.Listener d) is set = is
one_set p parts.Writer is set = is
one_set p parts.Section is set = is
one_set p (parts.Command c) is set = is
one_set p parts.Elsewhere is set = is

module _ (lists listeners : List (List ℕ)) (rows : ℕ → List Tree) where
  line_sets : (l : Line) → IsWithin l → SetsLimit (part_of lists listeners rows l)
  line_sets (line.Limit limit) h = record { some = h.0; few = h.1 }
  line_sets (line.Source name) h = tt
  line_sets (line.Row list value) h = tt
  line_sets (line.Csv list) h = tt
  line_sets line.EndCsv h = tt
  line_sets (line.Filter name input matcher) h = tt
  line_sets (line.Sorted name input order) h = tt
  line_sets (line.Unique name input order) h = tt
  line_sets (line.Grouping name input order) h = tt
  line_sets (line.Range name input bounds) h = tt
  line_sets (line.Function name input func) h = tt
  line_sets (line.Collection name input kids) h = tt
  line_sets (line.Composite name members may) h = tt
  line_sets (line.Transaction name input) h = tt
  line_sets (line.Freezable name input) h = tt
  line_sets (line.Proxy name input) h = tt
  line_sets (line.Listen name list after echo) h = tt
  line_sets line.Writer h = tt
  line_sets line.Section h = tt
  line_sets (line.Add list value) h = tt
  line_sets (line.AddAll list values) h = tt
  line_sets (line.Insert list index value) h = tt
  line_sets (line.Set list index value) h = tt
  line_sets (line.Remove list index) h = tt
  line_sets (line.Clear list) h = tt
  line_sets (line.Match list matcher) h = tt
  line_sets (line.Order list order) h = tt
  line_sets (line.Bounds list bounds) h = tt
  line_sets (line.Apply list func) h = tt
  line_sets (line.Attach list member) h = tt
  line_sets (line.Detach list index) h = tt
  line_sets (line.Begin list) h = tt
  line_sets (line.Commit list) h = tt
  line_sets (line.Rollback list) h = tt
  line_sets (line.Freeze list) h = tt
  line_sets (line.Thaw list) h = tt
  line_sets (line.Show list) h = tt

  all_set : (ls : List NumberedLine) (p : Plan) → IsLimit p.limit
      → AllByRecursion (λ l. IsWithin l.what) ls
      → IsLimit (fold with_part p (map (λ l. part_of lists listeners rows l.what) ls)).limit
  all_set [] p is h = is
  all_set (l ∷ ls) p is h =
      let part : Part = part_of lists listeners rows l.what in
      all_set ls (with_part p part) (one_set p part is (line_sets l.what h.0)) h.1

pub limit_made : (lines : List NumberedLine) → All (λ l. IsWithin l.what) lines
    → IsLimit (plan_of lines).limit
limit_made lines within =
    all_set (list_names lines) (listener_names lines) (rows_for (list_names lines) lines) lines empty_plan
    (record { some = omega arith; few = omega arith })
    (recursion_from_All (λ (l : NumberedLine). IsWithin l.what) lines within)
