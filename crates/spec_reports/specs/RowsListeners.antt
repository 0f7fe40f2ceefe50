-- In which order listeners are told, and listeners that try to write back.
use Rattle.std.specs.Prelude.{◌≡◌, ◌++◌, [], ◌∷◌, refl, codes, true, false}
use Rattle.std.specs.Fmt.{digits}
use Rattle.spec_syntax.specs.LangMatcher.{all}
use Rattle.gl_outside.specs.declared.gate.Actor.TheVariants.{Writer}
use Rattle.gl_lines.specs.declared.plan.Command.TheVariants as c
use Rattle.gl_lines.specs.declared.plan.ListKind.TheVariants as kinds
use Rattle.spec_plans.specs.Plan.{Plan}
use Rattle.spec_runs.specs.RowsWords.{usual_limit, number}
use Rattle.spec_reports.specs.Big.{declared, heard_by}
use Rattle.spec_reports.specs.Report.{report}
use Rattle.spec_reports.specs.Answer.{circular, text_of_outcome}

-- a listener is told after one that stands after it
abbrev after_a : Plan
after_a = record {
  limit = usual_limit;
  lists =
      declared (codes "s") (kinds.Source [])
      ∷ declared (codes "f") (kinds.Filter 0 all)
      ∷ declared (codes "c") (kinds.Composite (1 ∷ []) [])
      ∷ [];
  listeners =
      record { name = codes "b"; list = 1; after = 1 ∷ []; echo = false }
      ∷ heard_by (codes "a") 2
      ∷ [];
  writers = ((c.Add 0 (number 1) ∷ []) ∷ []) ∷ [];
}

after_a_report :
    report after_a (Writer 0 ∷ [])
    ≡ codes "order w0\n"
    ++ codes "at 0 w0\nreply 0 ok\ntold a insert 0 1\ntold b insert 0 1\n"
    ++ codes "list s [1]\nlist f [1]\nlist c [1]\n"
unfolding digits
after_a_report = refl

-- an echo listener tries once, and is refused
abbrev echoing : Plan
echoing = record {
  limit = usual_limit;
  lists = declared (codes "s") (kinds.Source []) ∷ [];
  listeners = record { name = codes "e"; list = 0; after = []; echo = true } ∷ [];
  writers = ((c.Add 0 (number 1) ∷ []) ∷ []) ∷ [];
}

echoing_report :
    report echoing (Writer 0 ∷ [])
    ≡ codes "order w0\n"
    ++ codes "at 0 w0\nreply 0 ok\ntold e insert 0 1\nrefused e write-back\n"
    ++ codes "list s [1]\n"
unfolding digits
echoing_report = refl

-- the text of two listeners that are each told after the other
round_text : text_of_outcome (circular (codes "b" ∷ codes "a" ∷ [])) ≡ codes "plan: cycle b a\n"
round_text = refl
