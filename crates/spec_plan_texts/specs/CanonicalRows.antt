-- Worked rows of the one text of a plan, each by computing.
use Rattle.std.specs.Prelude.{◌≡◌, pos, true, List, [], ◌∷◌, ◌++◌, None, refl, codes}
use Rattle.std.specs.Fmt.{digits}
use Rattle.spec_plans.specs.Tree.{num}
use Rattle.spec_lang.specs.Matcher.{is}
use Rattle.spec_lang.specs.declared.Test.TheVariants.{Gt}
use Rattle.gl_lines.specs.declared.plan.ListKind.TheVariants.{Source, Filter, Composite}
use Rattle.gl_lines.specs.declared.plan.Command.TheVariants.{Add, Attach, Show}
use Rattle.gl_lines.specs.declared.line.Line.TheVariants.{Proxy}
use Rattle.gl_lines.specs.declared.line.NumberedLine.{NumberedLine}
use Rattle.gl_lines.specs.declared.fault.PlanKind.TheVariants.{Unknown}
use Rattle.spec_plans.specs.Making.{empty_plan, plan_of}
use Rattle.spec_plans.specs.NameFaults.{first_fault_at}
use Rattle.spec_plans.specs.Numbered.{numbered}
use Rattle.spec_plans.specs.Plan.{Plan}
use Rattle.spec_plans.specs.Rows.{at, fault}
use Rattle.spec_plan_texts.specs.Canonical.{lines_of_plan, spelled_plan}
use Rattle.spec_plan_texts.specs.Unplaced.{unplaced_lines}

-- the text `glaze 1` alone
nothing_declared : spelled_plan empty_plan ≡ codes "glaze 1\nlimit 16777216\n"
unfolding digits
nothing_declared = refl

-- A composite before its member and before the list that may become one, a source with two elements, a filter; two
-- listeners; a writer with two sections, and one with none.
abbrev pub board : Plan
board = record {
  limit = 9;
  lists = record { name = codes "c"; kind = Composite (2 ∷ []) (1 ∷ []) }
      ∷ record { name = codes "s"; kind = Source (num (pos 1) ∷ num (pos 7) ∷ []) }
      ∷ record { name = codes "f"; kind = Filter 1 (is [] Gt (num (pos 2))) }
      ∷ [];
  listeners = record { name = codes "a"; list = 0; after = 1 ∷ []; echo = true }
      ∷ record { name = codes "b"; list = 2; after = []; echo = true }
      ∷ [];
  writers = ((Add 1 (num (pos 5)) ∷ Attach 0 1 ∷ []) ∷ (Show 0 ∷ []) ∷ []) ∷ [] ∷ [];
}

board_spelled : spelled_plan board
    ≡ codes "glaze 1\nlimit 9\ncomposite c f may s\nsource s\nrow s 1\nrow s 7\nfilter f s . > 2\n"
    ++ codes "listen a on c after b echo\nlisten b on f echo\n"
    ++ codes "writer\nsection\nadd s 5\nattach c s\nsection\nshow c\nwriter\n"
unfolding digits
board_spelled = refl

-- its lines make it again, and nothing is wrong with them
board_again : plan_of (numbered 2 (lines_of_plan board)) ≡ board
board_again = refl

board_is_sound : first_fault_at (numbered 2 (lines_of_plan board)) ≡ None
board_is_sound = refl

-- proxy p x: a fault keeps its line, and has the column of its name
abbrev pub follower : List NumberedLine
follower = numbered 2 (Proxy (at 7 (codes "p")) (at 9 (codes "x")) ∷ [])

unknown_name : first_fault_at follower ≡ fault 2 9 Unknown
unknown_name = refl

unknown_unplaced : first_fault_at (unplaced_lines follower) ≡ fault 2 0 Unknown
unknown_unplaced = refl
