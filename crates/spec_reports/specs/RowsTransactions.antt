-- Whole reports of plans with a transaction list.
use Rattle.std.specs.Prelude.{◌≡◌, ◌++◌, [], ◌∷◌, refl, codes}
use Rattle.std.specs.Fmt.{digits}
use Rattle.gl_outside.specs.declared.gate.Actor.TheVariants.{Writer}
use Rattle.gl_lines.specs.declared.plan.Command.TheVariants as c
use Rattle.gl_lines.specs.declared.plan.ListKind.TheVariants as kinds
use Rattle.spec_plans.specs.Plan.{Plan}
use Rattle.spec_runs.specs.RowsWords.{usual_limit, number, numbers}
use Rattle.spec_reports.specs.Big.{declared, heard_by}
use Rattle.spec_reports.specs.Report.{report}

-- an inner level that is rolled back leaves what the outer one did, whose commit is told; a rollback of the outermost level
-- is told by the source alone
abbrev nested : Plan
nested = record {
  limit = usual_limit;
  lists =
      declared (codes "s") (kinds.Source (numbers (1 ∷ [])))
      ∷ declared (codes "t") (kinds.Transaction 0)
      ∷ [];
  listeners = heard_by (codes "a") 1 ∷ heard_by (codes "b") 0 ∷ [];
  writers =
      ((c.Begin 1 ∷ c.Add 0 (number 2) ∷ c.Begin 1 ∷ c.Set 0 0 (number 9) ∷ c.Rollback 1
      ∷ c.Add 0 (number 3) ∷ c.Commit 1 ∷ [])
      ∷ (c.Begin 1 ∷ c.Remove 0 0 ∷ c.Rollback 1 ∷ [])
      ∷ [])
      ∷ [];
}

nested_report :
    report nested (Writer 0 ∷ Writer 0 ∷ [])
    ≡ codes "order w0,w0\n"
    ++ codes "at 0 w0\nreply 0 ok\nreply 1 ok\nreply 2 ok\nreply 3 ok\nreply 4 ok\nreply 5 ok\n"
    ++ codes "reply 6 ok\ntold a insert 1 2; insert 2 3\n"
    ++ codes "told b update 0 1 1; insert 1 2; insert 2 3\n"
    ++ codes "at 1 w0\nreply 0 ok\nreply 1 ok\nreply 2 ok\ntold b delete 0 1; insert 0 1\n"
    ++ codes "list s [1,2,3]\nlist t [1,2,3]\n"
unfolding digits
nested_report = refl

-- a commit that makes a list too long is refused and leaves the level open, and the next section rolls it back
abbrev stays_open : Plan
stays_open = record {
  limit = 3;
  lists =
      declared (codes "s") (kinds.Source (numbers (1 ∷ [])))
      ∷ declared (codes "t") (kinds.Transaction 0)
      ∷ declared (codes "c") (kinds.Composite (1 ∷ 1 ∷ []) [])
      ∷ [];
  listeners = [];
  writers =
      ((c.Begin 1 ∷ c.Add 0 (number 2) ∷ c.Commit 1 ∷ [])
      ∷ (c.Rollback 1 ∷ [])
      ∷ [])
      ∷ [];
}

stays_open_report :
    report stays_open (Writer 0 ∷ Writer 0 ∷ [])
    ≡ codes "order w0,w0\n"
    ++ codes "at 0 w0\nreply 0 ok\nreply 1 ok\nreply 2 too-long c 4\n"
    ++ codes "at 1 w0\nreply 0 ok\n"
    ++ codes "list s [1]\nlist t [1]\nlist c [1,1]\n"
unfolding digits
stays_open_report = refl

-- before that section the source has what the open level did, and the list over it doesn't
still_open_report :
    report stays_open (Writer 0 ∷ [])
    ≡ codes "order w0\n"
    ++ codes "at 0 w0\nreply 0 ok\nreply 1 ok\nreply 2 too-long c 4\n"
    ++ codes "list s [1,2]\nlist t [1]\nheld t open 1\nlist c [1,1]\n"
unfolding digits
still_open_report = refl
