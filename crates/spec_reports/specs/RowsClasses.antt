-- Whole reports of plans with a unique list, a grouping, and the lists over it.
use Rattle.std.specs.Prelude.{◌≡◌, ◌++◌, [], ◌∷◌, refl, codes}
use Rattle.std.specs.Fmt.{digits}
use Rattle.spec_syntax.specs.LangFunc.{count}
use Rattle.gl_outside.specs.declared.gate.Actor.TheVariants.{Writer}
use Rattle.gl_lines.specs.declared.plan.Command.TheVariants as c
use Rattle.gl_lines.specs.declared.plan.ListKind.TheVariants as kinds
use Rattle.spec_plans.specs.Plan.{Plan}
use Rattle.spec_runs.specs.Rows.{pair}
use Rattle.spec_runs.specs.RowsWords.{usual_limit}
use Rattle.spec_reports.specs.Big.{declared, heard_by, upwards}
use Rattle.spec_reports.specs.Report.{report}

-- where the shown element of a class goes and another is left, the class is updated; where none is left, deleted
abbrev next_of_class : Plan
next_of_class = record {
  limit = usual_limit;
  lists =
      declared (codes "s")
      (kinds.Source (pair 1 (codes "a") ∷ pair 1 (codes "b") ∷ pair 1 (codes "c") ∷ []))
      ∷ declared (codes "u") (kinds.Unique 0 (upwards 0 ∷ []))
      ∷ [];
  listeners = heard_by (codes "a") 1 ∷ [];
  writers = ((c.Remove 0 0 ∷ []) ∷ (c.Remove 0 0 ∷ []) ∷ (c.Remove 0 0 ∷ []) ∷ []) ∷ [];
}

next_of_class_report :
    report next_of_class (Writer 0 ∷ Writer 0 ∷ Writer 0 ∷ [])
    ≡ codes "order w0,w0,w0\n"
    ++ codes "at 0 w0\nreply 0 ok\ntold a update 0 [1,\"a\"] [1,\"b\"]\n"
    ++ codes "at 1 w0\nreply 0 ok\ntold a update 0 [1,\"b\"] [1,\"c\"]\n"
    ++ codes "at 2 w0\nreply 0 ok\ntold a delete 0 [1,\"c\"]\n"
    ++ codes "list s []\nlist u []\n"
unfolding digits
next_of_class_report = refl

-- an element that joins another class leaves its own, and is the first of the other where it stands first
abbrev joined_class : Plan
joined_class = record {
  limit = usual_limit;
  lists =
      declared (codes "s") (kinds.Source (pair 2 (codes "x") ∷ pair 1 (codes "y") ∷ []))
      ∷ declared (codes "u") (kinds.Unique 0 (upwards 0 ∷ []))
      ∷ declared (codes "g") (kinds.Grouping 0 (upwards 0 ∷ []))
      ∷ [];
  listeners = heard_by (codes "a") 1 ∷ heard_by (codes "b") 2 ∷ [];
  writers = ((c.Set 0 0 (pair 1 (codes "z")) ∷ []) ∷ []) ∷ [];
}

joined_class_report :
    report joined_class (Writer 0 ∷ [])
    ≡ codes "order w0\n"
    ++ codes "at 0 w0\nreply 0 ok\ntold a update 0 [1,\"y\"] [1,\"z\"]; delete 1 [2,\"x\"]\n"
    ++ codes "told b update 0 [[1,\"y\"]] [[1,\"z\"],[1,\"y\"]]; delete 1 [[2,\"x\"]]\n"
    ++ codes "list s [[1,\"z\"],[1,\"y\"]]\nlist u [[1,\"z\"]]\nlist g [[[1,\"z\"],[1,\"y\"]]]\n"
unfolding digits
joined_class_report = refl

-- over the classes their sizes, and their members one after another: of a class that has one member more the
-- first is told as an update, and the new one is inserted
abbrev over_classes : Plan
over_classes = record {
  limit = usual_limit;
  lists =
      declared (codes "s") (kinds.Source (pair 1 (codes "a") ∷ pair 2 (codes "b") ∷ []))
      ∷ declared (codes "g") (kinds.Grouping 0 (upwards 0 ∷ []))
      ∷ declared (codes "n") (kinds.Function 1 (count []))
      ∷ declared (codes "k") (kinds.Collection 1 [])
      ∷ [];
  listeners = heard_by (codes "a") 1 ∷ heard_by (codes "b") 2 ∷ heard_by (codes "c") 3 ∷ [];
  writers = ((c.Add 0 (pair 1 (codes "c")) ∷ []) ∷ []) ∷ [];
}

over_classes_report :
    report over_classes (Writer 0 ∷ [])
    ≡ codes "order w0\n"
    ++ codes "at 0 w0\nreply 0 ok\ntold a update 0 [[1,\"a\"]] [[1,\"a\"],[1,\"c\"]]\n"
    ++ codes "told b update 0 1 2\ntold c update 0 [1,\"a\"] [1,\"a\"]; insert 1 [1,\"c\"]\n"
    ++ codes "list s [[1,\"a\"],[2,\"b\"],[1,\"c\"]]\nlist g [[[1,\"a\"],[1,\"c\"]],[[2,\"b\"]]]\n"
    ++ codes "list n [2,1]\nlist k [[1,\"a\"],[1,\"c\"],[2,\"b\"]]\n"
unfolding digits
over_classes_report = refl
