-- Whole reports of plans with ranges.
use Rattle.std.specs.Prelude.{◌≡◌, ◌++◌, [], ◌∷◌, refl, codes}
use Rattle.std.specs.Fmt.{digits}
use Rattle.spec_syntax.specs.LangBounds.TheVariants.{Head, Tail, Middle}
use Rattle.gl_outside.specs.declared.gate.Actor.TheVariants.{Writer}
use Rattle.gl_lines.specs.declared.plan.Command.TheVariants as c
use Rattle.gl_lines.specs.declared.plan.ListKind.TheVariants as kinds
use Rattle.spec_plans.specs.Plan.{Plan}
use Rattle.spec_runs.specs.RowsWords.{usual_limit, number, numbers}
use Rattle.spec_reports.specs.Big.{declared, heard_by}
use Rattle.spec_reports.specs.Report.{report}

-- the last two elements, the elements from 1 to 1 of which there are none, and those from 2 to two
-- before the end: what a longer or shorter source moves out and in, and other bounds
abbrev three_ranges : Plan
three_ranges = record {
  limit = usual_limit;
  lists =
      declared (codes "s") (kinds.Source (numbers (1 ∷ 2 ∷ 3 ∷ [])))
      ∷ declared (codes "r") (kinds.Range 0 (Tail 2 0))
      ∷ declared (codes "h") (kinds.Range 0 (Head 1 1))
      ∷ declared (codes "m") (kinds.Range 0 (Middle 2 2))
      ∷ [];
  listeners = heard_by (codes "a") 1 ∷ heard_by (codes "b") 2 ∷ heard_by (codes "c") 3 ∷ [];
  writers =
      ((c.Add 0 (number 4) ∷ [])
      ∷ (c.Add 0 (number 5) ∷ [])
      ∷ (c.Remove 0 2 ∷ [])
      ∷ (c.Bounds 1 (Head 0 1) ∷ [])
      ∷ [])
      ∷ [];
}

three_ranges_report :
    report three_ranges (Writer 0 ∷ Writer 0 ∷ Writer 0 ∷ Writer 0 ∷ [])
    ≡ codes "order w0,w0,w0,w0\n"
    ++ codes "at 0 w0\nreply 0 ok\ntold a delete 0 2; insert 1 4\n"
    ++ codes "at 1 w0\nreply 0 ok\ntold a delete 0 3; insert 1 5\ntold c insert 0 3\n"
    ++ codes "at 2 w0\nreply 0 ok\ntold c delete 0 3\n"
    ++ codes "at 3 w0\nreply 0 ok\ntold a delete 0 4; delete 0 5; insert 0 1\n"
    ++ codes "list s [1,2,4,5]\nlist r [1]\nlist h []\nlist m []\n"
unfolding digits
three_ranges_report = refl
