-- Whole reports of plans with a source alone.
use Rattle.std.specs.Prelude.{◌≡◌, ◌++◌, [], ◌∷◌, refl, codes}
use Rattle.std.specs.Fmt.{digits}
use Rattle.gl_outside.specs.declared.gate.Actor.TheVariants.{Writer}
use Rattle.gl_lines.specs.declared.plan.Command.TheVariants as c
use Rattle.gl_lines.specs.declared.plan.ListKind.TheVariants as kinds
use Rattle.spec_plans.specs.Plan.{Plan}
use Rattle.spec_runs.specs.RowsWords.{usual_limit, number, numbers}
use Rattle.spec_reports.specs.Big.{declared, heard_by}
use Rattle.spec_reports.specs.Report.{report}

-- a plan of no lines
abbrev nothing_declared : Plan
nothing_declared = record {
  limit = usual_limit;
  lists = [];
  listeners = [];
  writers = [];
}

nothing_report :
    report nothing_declared ([])
    ≡ codes "order -\n"
unfolding digits
nothing_report = refl

-- an element that is put in and taken out in one section is told to nobody
abbrev taken_back : Plan
taken_back = record {
  limit = usual_limit;
  lists = declared (codes "s") (kinds.Source []) ∷ [];
  listeners = heard_by (codes "a") 0 ∷ [];
  writers = ((c.Insert 0 0 (number 5) ∷ c.Remove 0 0 ∷ []) ∷ []) ∷ [];
}

taken_back_report :
    report taken_back (Writer 0 ∷ [])
    ≡ codes "order w0\n"
    ++ codes "at 0 w0\nreply 0 ok\nreply 1 ok\n"
    ++ codes "list s []\n"
unfolding digits
taken_back_report = refl

-- an element that is removed and added again is deleted and inserted, not updated
abbrev put_back : Plan
put_back = record {
  limit = usual_limit;
  lists = declared (codes "s") (kinds.Source (numbers (7 ∷ []))) ∷ [];
  listeners = heard_by (codes "a") 0 ∷ [];
  writers = ((c.Remove 0 0 ∷ c.Add 0 (number 7) ∷ []) ∷ []) ∷ [];
}

put_back_report :
    report put_back (Writer 0 ∷ [])
    ≡ codes "order w0\n"
    ++ codes "at 0 w0\nreply 0 ok\nreply 1 ok\ntold a delete 0 7; insert 0 7\n"
    ++ codes "list s [7]\n"
unfolding digits
put_back_report = refl

-- two sets of one element are one update; of an element that is set and then removed the old value is told
abbrev set_twice : Plan
set_twice = record {
  limit = usual_limit;
  lists = declared (codes "s") (kinds.Source (numbers (1 ∷ []))) ∷ [];
  listeners = heard_by (codes "a") 0 ∷ [];
  writers =
      ((c.Set 0 0 (number 2) ∷ c.Set 0 0 (number 3) ∷ [])
      ∷ (c.Set 0 0 (number 4) ∷ c.Remove 0 0 ∷ [])
      ∷ [])
      ∷ [];
}

set_twice_report :
    report set_twice (Writer 0 ∷ Writer 0 ∷ [])
    ≡ codes "order w0,w0\n"
    ++ codes "at 0 w0\nreply 0 ok\nreply 1 ok\ntold a update 0 1 3\n"
    ++ codes "at 1 w0\nreply 0 ok\nreply 1 ok\ntold a delete 0 3\n"
    ++ codes "list s []\n"
unfolding digits
set_twice_report = refl

-- an insert may stand after the last element, a set and a remove may not
abbrev boundaries : Plan
boundaries = record {
  limit = usual_limit;
  lists = declared (codes "s") (kinds.Source (numbers (1 ∷ 2 ∷ 3 ∷ []))) ∷ [];
  listeners = [];
  writers =
      ((c.Insert 0 4 (number 9) ∷ c.Insert 0 3 (number 9) ∷ c.Remove 0 4 ∷ c.Set 0 3 (number 0)
      ∷ c.Show 0 ∷ c.Clear 0 ∷ [])
      ∷ [])
      ∷ [];
}

boundaries_report :
    report boundaries (Writer 0 ∷ [])
    ≡ codes "order w0\n"
    ++ codes "at 0 w0\nreply 0 out-of-range 4 3\nreply 1 ok\nreply 2 out-of-range 4 4\n"
    ++ codes "reply 3 ok\nreply 4 shown [1,2,3,0]\nreply 5 ok\n"
    ++ codes "list s []\n"
unfolding digits
boundaries_report = refl
