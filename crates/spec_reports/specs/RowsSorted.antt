-- Whole reports of plans with a sorted list.
use Rattle.std.specs.Prelude.{◌≡◌, ◌++◌, [], ◌∷◌, refl, codes}
use Rattle.std.specs.Fmt.{digits}
use Rattle.gl_outside.specs.declared.gate.Actor.TheVariants.{Writer}
use Rattle.gl_lines.specs.declared.plan.Command.TheVariants as c
use Rattle.gl_lines.specs.declared.plan.ListKind.TheVariants as kinds
use Rattle.spec_plans.specs.Plan.{Plan}
use Rattle.spec_runs.specs.Rows.{pair}
use Rattle.spec_runs.specs.RowsWords.{usual_limit, number, numbers, whole_up, whole_down}
use Rattle.spec_reports.specs.Big.{declared, heard_by, upwards}
use Rattle.spec_reports.specs.Report.{report}

-- an updated element stays where its order against the others is the same, and moves where it isn't; of equal keys
-- the first in the source comes first, wherever it was put in
abbrev staying : Plan
staying = record {
  limit = usual_limit;
  lists =
      declared (codes "s") (kinds.Source (pair 1 (codes "b") ∷ pair 1 (codes "a") ∷ []))
      ∷ declared (codes "o") (kinds.Sorted 0 (upwards 0 ∷ []))
      ∷ [];
  listeners = heard_by (codes "a") 1 ∷ [];
  writers =
      ((c.Set 0 0 (pair 1 (codes "c")) ∷ [])
      ∷ (c.Set 0 0 (pair 2 (codes "c")) ∷ [])
      ∷ (c.Insert 0 0 (pair 1 (codes "z")) ∷ [])
      ∷ [])
      ∷ [];
}

staying_report :
    report staying (Writer 0 ∷ Writer 0 ∷ Writer 0 ∷ [])
    ≡ codes "order w0,w0,w0\n"
    ++ codes "at 0 w0\nreply 0 ok\ntold a update 0 [1,\"b\"] [1,\"c\"]\n"
    ++ codes "at 1 w0\nreply 0 ok\ntold a delete 0 [1,\"c\"]; insert 1 [2,\"c\"]\n"
    ++ codes "at 2 w0\nreply 0 ok\ntold a insert 0 [1,\"z\"]\n"
    ++ codes "list s [[1,\"z\"],[2,\"c\"],[1,\"a\"]]\nlist o [[1,\"z\"],[1,\"a\"],[2,\"c\"]]\n"
unfolding digits
staying_report = refl

-- of two updated elements that cross each other neither stays
abbrev crossing : Plan
crossing = record {
  limit = usual_limit;
  lists =
      declared (codes "s") (kinds.Source (numbers (1 ∷ 2 ∷ 9 ∷ [])))
      ∷ declared (codes "t") (kinds.Transaction 0)
      ∷ declared (codes "o") (kinds.Sorted 1 (whole_up ∷ []))
      ∷ [];
  listeners = heard_by (codes "a") 2 ∷ [];
  writers =
      ((c.Begin 1 ∷ c.Set 0 0 (number 5) ∷ c.Set 0 1 (number 3) ∷ c.Commit 1 ∷ []) ∷ []) ∷ [];
}

crossing_report :
    report crossing (Writer 0 ∷ [])
    ≡ codes "order w0\n"
    ++ codes "at 0 w0\nreply 0 ok\nreply 1 ok\nreply 2 ok\nreply 3 ok\n"
    ++ codes "told a delete 0 1; delete 0 2; insert 0 3; insert 1 5\n"
    ++ codes "list s [5,3,9]\nlist t [5,3,9]\nlist o [3,5,9]\n"
unfolding digits
crossing_report = refl

-- a new order deletes every element and inserts it again
abbrev reversed : Plan
reversed = record {
  limit = usual_limit;
  lists =
      declared (codes "s") (kinds.Source (numbers (1 ∷ 2 ∷ [])))
      ∷ declared (codes "o") (kinds.Sorted 0 (whole_up ∷ []))
      ∷ [];
  listeners = heard_by (codes "a") 1 ∷ [];
  writers = ((c.Order 1 (whole_down ∷ []) ∷ []) ∷ []) ∷ [];
}

inverse_report :
    report reversed (Writer 0 ∷ [])
    ≡ codes "order w0\n"
    ++ codes "at 0 w0\nreply 0 ok\ntold a delete 0 1; delete 0 2; insert 0 2; insert 1 1\n"
    ++ codes "list s [1,2]\nlist o [2,1]\n"
unfolding digits
inverse_report = refl
