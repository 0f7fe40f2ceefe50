-- Whole reports of plans with a composite.
use Rattle.std.specs.Prelude.{◌≡◌, ◌++◌, [], ◌∷◌, refl, codes}
use Rattle.std.specs.Fmt.{digits}
use Rattle.spec_syntax.specs.LangMatcher.{all, is}
use Rattle.spec_syntax.specs.Test.TheVariants.{Gt}
use Rattle.gl_outside.specs.declared.gate.Actor.TheVariants.{Writer}
use Rattle.gl_lines.specs.declared.plan.Command.TheVariants as c
use Rattle.gl_lines.specs.declared.plan.ListKind.TheVariants as kinds
use Rattle.spec_plans.specs.Plan.{Plan}
use Rattle.spec_states.specs.Step.{too_long as first_too_long}
use Rattle.spec_states.specs.Opening.{opening}
use Rattle.spec_runs.specs.RowsWords.{usual_limit, number, numbers, whole_up}
use Rattle.spec_reports.specs.Big.{declared, heard_by}
use Rattle.spec_reports.specs.Report.{report}
use Rattle.spec_reports.specs.Answer.{opened, too_long, text_of_outcome}

-- two ways from a source to a composite: both members' changes are told in one event
abbrev diamond : Plan
diamond = record {
  limit = usual_limit;
  lists =
      declared (codes "s") (kinds.Source (numbers (1 ∷ [])))
      ∷ declared (codes "f") (kinds.Filter 0 (is [] Gt (number 0)))
      ∷ declared (codes "o") (kinds.Sorted 0 (whole_up ∷ []))
      ∷ declared (codes "c") (kinds.Composite (1 ∷ 2 ∷ []) [])
      ∷ [];
  listeners = heard_by (codes "a") 3 ∷ [];
  writers = ((c.Add 0 (number 2) ∷ []) ∷ []) ∷ [];
}

diamond_report :
    report diamond (Writer 0 ∷ [])
    ≡ codes "order w0\n"
    ++ codes "at 0 w0\nreply 0 ok\ntold a insert 1 2; insert 3 2\n"
    ++ codes "list s [1,2]\nlist f [1,2]\nlist o [1,2]\nlist c [1,2,1,2]\n"
unfolding digits
diamond_report = refl

-- a command that makes a list too long changes nothing, and the section goes on
abbrev too_many : Plan
too_many = record {
  limit = 3;
  lists =
      declared (codes "s") (kinds.Source (numbers (1 ∷ [])))
      ∷ declared (codes "f") (kinds.Filter 0 all)
      ∷ declared (codes "o") (kinds.Sorted 0 (whole_up ∷ []))
      ∷ declared (codes "c") (kinds.Composite (1 ∷ 2 ∷ []) [])
      ∷ [];
  listeners = [];
  writers = ((c.AddAll 0 (numbers (2 ∷ [])) ∷ c.Set 0 0 (number 4) ∷ []) ∷ []) ∷ [];
}

too_many_report :
    report too_many (Writer 0 ∷ [])
    ≡ codes "order w0\n"
    ++ codes "at 0 w0\nreply 0 too-long c 4\nreply 1 ok\n"
    ++ codes "list s [4]\nlist f [4]\nlist o [4]\nlist c [4,4]\n"
unfolding digits
too_many_report = refl

-- a member that is attached is inserted at the end, one that is detached is deleted, also where both are one list
abbrev attaching : Plan
attaching = record {
  limit = usual_limit;
  lists =
      declared (codes "s") (kinds.Source (numbers (1 ∷ [])))
      ∷ declared (codes "c") (kinds.Composite [] (0 ∷ []))
      ∷ [];
  listeners = heard_by (codes "a") 1 ∷ [];
  writers =
      ((c.Attach 1 0 ∷ [])
      ∷ (c.Attach 1 0 ∷ c.Detach 1 0 ∷ [])
      ∷ (c.Detach 1 5 ∷ [])
      ∷ [])
      ∷ [];
}

attaching_report :
    report attaching (Writer 0 ∷ Writer 0 ∷ Writer 0 ∷ [])
    ≡ codes "order w0,w0,w0\n"
    ++ codes "at 0 w0\nreply 0 ok\ntold a insert 0 1\n"
    ++ codes "at 1 w0\nreply 0 ok\nreply 1 ok\ntold a delete 0 1; insert 0 1\n"
    ++ codes "at 2 w0\nreply 0 out-of-range 5 1\n"
    ++ codes "list s [1]\nlist c [1]\n"
unfolding digits
attaching_report = refl

-- a composite that opens too long
abbrev opens_too_long : Plan
opens_too_long = record {
  limit = 3;
  lists =
      declared (codes "s") (kinds.Source (numbers (1 ∷ 2 ∷ [])))
      ∷ declared (codes "c") (kinds.Composite (0 ∷ 0 ∷ []) [])
      ∷ [];
  listeners = [];
  writers = [];
}

opens_too_long_answer :
    opened opens_too_long [] (first_too_long 3 (opening opens_too_long))
    ≡ too_long (codes "c") 4
opens_too_long_answer = refl

opens_too_long_text : text_of_outcome (too_long (codes "c") 4) ≡ codes "too-long c 4\n"
unfolding digits
opens_too_long_text = refl
