-- Whole reports of plans with a filter.
use Rattle.std.specs.Prelude.{◌≡◌, ◌++◌, [], ◌∷◌, refl, codes}
use Rattle.std.specs.Fmt.{digits}
use Rattle.spec_plans.specs.Tree.{text}
use Rattle.spec_syntax.specs.LangMatcher.{all, is, both, matchers}
use Rattle.spec_syntax.specs.Test.TheVariants.{Eq, Gt}
use Rattle.gl_outside.specs.declared.gate.Actor.TheVariants.{Writer}
use Rattle.gl_lines.specs.declared.plan.Command.TheVariants as c
use Rattle.gl_lines.specs.declared.plan.ListKind.TheVariants as kinds
use Rattle.spec_plans.specs.Plan.{Plan}
use Rattle.spec_runs.specs.Rows.{pair}
use Rattle.spec_runs.specs.RowsWords.{usual_limit, number}
use Rattle.spec_reports.specs.Big.{declared, heard_by}
use Rattle.spec_reports.specs.Report.{report}

-- a stricter matcher, one with a part of it less, and `all`: each time what is newly hidden or shown is told alone
abbrev three_matchers : Plan
three_matchers = record {
  limit = usual_limit;
  lists =
      declared (codes "s")
      (kinds.Source (pair 5 (codes "x") ∷ pair 9 (codes "y") ∷ pair 2 (codes "x") ∷ []))
      ∷ declared (codes "f") (kinds.Filter 0 (is (0 ∷ []) Gt (number 3)))
      ∷ [];
  listeners = heard_by (codes "a") 1 ∷ [];
  writers =
      ((c.Match 1
      (both (matchers (is (0 ∷ []) Gt (number 3) ∷ is (1 ∷ []) Eq (text (codes "x")) ∷ [])))
      ∷ [])
      ∷ (c.Match 1 (is (1 ∷ []) Eq (text (codes "x"))) ∷ [])
      ∷ (c.Match 1 all ∷ [])
      ∷ [])
      ∷ [];
}

three_matchers_report :
    report three_matchers (Writer 0 ∷ Writer 0 ∷ Writer 0 ∷ [])
    ≡ codes "order w0,w0,w0\n"
    ++ codes "at 0 w0\nreply 0 ok\ntold a delete 1 [9,\"y\"]\n"
    ++ codes "at 1 w0\nreply 0 ok\ntold a insert 1 [2,\"x\"]\n"
    ++ codes "at 2 w0\nreply 0 ok\ntold a insert 1 [9,\"y\"]\n"
    ++ codes "list s [[5,\"x\"],[9,\"y\"],[2,\"x\"]]\nlist f [[5,\"x\"],[9,\"y\"],[2,\"x\"]]\n"
unfolding digits
three_matchers_report = refl
