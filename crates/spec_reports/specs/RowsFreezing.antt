-- Whole reports of plans with a freezable list, and what states refuse.
use Rattle.std.specs.Prelude.{◌≡◌, ◌++◌, [], ◌∷◌, refl, codes}
use Rattle.std.specs.Fmt.{digits}
use Rattle.gl_outside.specs.declared.gate.Actor.TheVariants.{Writer}
use Rattle.gl_lines.specs.declared.plan.Command.TheVariants as c
use Rattle.gl_lines.specs.declared.plan.ListKind.TheVariants as kinds
use Rattle.spec_plans.specs.Plan.{Plan}
use Rattle.spec_runs.specs.RowsWords.{usual_limit, number, numbers}
use Rattle.spec_reports.specs.Big.{declared, heard_by}
use Rattle.spec_reports.specs.Report.{report}

-- a frozen list tells at its thaw what became of its input; a frozen list isn't frozen again
abbrev thawing : Plan
thawing = record {
  limit = usual_limit;
  lists =
      declared (codes "s") (kinds.Source (numbers (1 ∷ 2 ∷ [])))
      ∷ declared (codes "z") (kinds.Freezable 0)
      ∷ [];
  listeners = heard_by (codes "a") 1 ∷ [];
  writers =
      ((c.Freeze 1 ∷ c.Add 0 (number 3) ∷ c.Set 0 0 (number 5) ∷ c.Remove 0 1 ∷ [])
      ∷ (c.Thaw 1 ∷ [])
      ∷ (c.Freeze 1 ∷ c.Freeze 1 ∷ [])
      ∷ [])
      ∷ [];
}

thawing_report :
    report thawing (Writer 0 ∷ Writer 0 ∷ Writer 0 ∷ [])
    ≡ codes "order w0,w0,w0\n"
    ++ codes "at 0 w0\nreply 0 ok\nreply 1 ok\nreply 2 ok\nreply 3 ok\n"
    ++ codes "at 1 w0\nreply 0 ok\ntold a update 0 1 5; delete 1 2; insert 1 3\n"
    ++ codes "at 2 w0\nreply 0 ok\nreply 1 already-frozen\n"
    ++ codes "list s [5,3]\nlist z [5,3]\nheld z frozen\n"
unfolding digits
thawing_report = refl

-- a commit and a rollback without a level, a thaw of a list that is free, a member that isn't there; a member that is
-- attached and one that is detached
abbrev refusals : Plan
refusals = record {
  limit = usual_limit;
  lists =
      declared (codes "s") (kinds.Source (numbers (1 ∷ [])))
      ∷ declared (codes "t") (kinds.Transaction 0)
      ∷ declared (codes "z") (kinds.Freezable 0)
      ∷ declared (codes "c") (kinds.Composite (0 ∷ []) (0 ∷ []))
      ∷ [];
  listeners = heard_by (codes "a") 3 ∷ [];
  writers =
      ((c.Commit 1 ∷ c.Rollback 1 ∷ c.Thaw 2 ∷ c.Detach 3 1 ∷ c.Attach 3 0 ∷ c.Detach 3 0
      ∷ c.Show 3 ∷ [])
      ∷ [])
      ∷ [];
}

refusals_report :
    report refusals (Writer 0 ∷ [])
    ≡ codes "order w0\n"
    ++ codes "at 0 w0\nreply 0 not-open\nreply 1 not-open\nreply 2 not-frozen\n"
    ++ codes "reply 3 out-of-range 1 1\nreply 4 ok\nreply 5 ok\nreply 6 shown [1]\n"
    ++ codes "told a delete 0 1; insert 0 1\n"
    ++ codes "list s [1]\nlist t [1]\nlist z [1]\nlist c [1]\n"
unfolding digits
refusals_report = refl
