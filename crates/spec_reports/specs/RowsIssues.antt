-- The whole report of a plan over a list of issues, with two writers and a proxy.
use Rattle.std.specs.Prelude.{◌≡◌, ◌++◌, ℕ, true, List, [], ◌∷◌, refl, codes}
use Rattle.std.specs.Fmt.{digits}
use Rattle.spec_plans.specs.Tree.{Tree, text, items_of}
use Rattle.spec_syntax.specs.LangMatcher.{is, both, matchers}
use Rattle.spec_syntax.specs.LangFunc.{count, at_path, funcs, list as func_list}
use Rattle.spec_syntax.specs.Sorting.{Key}
use Rattle.spec_syntax.specs.Test.TheVariants.{Eq, Ne}
use Rattle.gl_outside.specs.declared.gate.Actor.TheVariants.{Writer, Proxy}
use Rattle.gl_lines.specs.declared.plan.Command.TheVariants as c
use Rattle.gl_lines.specs.declared.plan.ListKind.TheVariants as kinds
use Rattle.spec_plans.specs.Plan.{Plan}
use Rattle.spec_runs.specs.RowsWords.{usual_limit, number}
use Rattle.spec_reports.specs.Big.{declared, heard_by, upwards}
use Rattle.spec_reports.specs.Report.{report}

-- an issue: its number, whether it is open or closed, whose it is, and what it is about
abbrev issue : ℕ → List ℕ → List ℕ → List ℕ → Tree
issue n state user title = items_of (number n ∷ text state ∷ text user ∷ text title ∷ [])

-- by the element at an index, downwards
abbrev downwards : ℕ → Key
downwards index = record { path = index ∷ []; down = true }

-- The open issues; the first issue of each user, and the users' names; the open issues of each user, and how many; the open
-- issues by user, the last first; these and the names; and what a proxy shows of the open issues. Of two writers one adds an
-- issue and then closes one, and the other leaves out a user and looks at the board.
abbrev issues : Plan
issues = record {
  limit = usual_limit;
  lists =
      declared (codes "issues")
      (kinds.Source
      (issue 1 (codes "open") (codes "ann") (codes "crash, on start")
      ∷ issue 2 (codes "closed") (codes "bob") (codes "typo")
      ∷ issue 3 (codes "open") (codes "bob") (codes "slow")
      ∷ issue 4 (codes "open") (codes "ann") (codes "colour")
      ∷ []))
      ∷ declared (codes "live") (kinds.Filter 0 (is (1 ∷ []) Eq (text (codes "open"))))
      ∷ declared (codes "users") (kinds.Unique 0 (upwards 2 ∷ []))
      ∷ declared (codes "names") (kinds.Function 2 (at_path (2 ∷ [])))
      ∷ declared (codes "byuser") (kinds.Grouping 1 (upwards 2 ∷ []))
      ∷ declared (codes "load")
      (kinds.Function 4 (func_list (funcs (at_path (0 ∷ 2 ∷ []) ∷ count [] ∷ []))))
      ∷ declared (codes "board") (kinds.Sorted 1 (upwards 2 ∷ downwards 0 ∷ []))
      ∷ declared (codes "page") (kinds.Composite (6 ∷ 3 ∷ []) [])
      ∷ declared (codes "ui") (kinds.Proxy 1)
      ∷ [];
  listeners = heard_by (codes "w") 5 ∷ heard_by (codes "v") 7 ∷ heard_by (codes "x") 8 ∷ [];
  writers =
      ((c.Add 0 (issue 5 (codes "open") (codes "cid") (codes "font")) ∷ [])
      ∷ (c.Set 0 0 (issue 1 (codes "closed") (codes "ann") (codes "crash, on start")) ∷ [])
      ∷ [])
      ∷ ((c.Match 1
      (both
      (matchers (is (1 ∷ []) Eq (text (codes "open")) ∷ is (2 ∷ []) Ne (text (codes "bob")) ∷ [])))
      ∷ c.Show 6
      ∷ [])
      ∷ [])
      ∷ [];
}

issues_report :
    report issues (Writer 0 ∷ Writer 1 ∷ Proxy 0 ∷ Writer 0 ∷ [])
    ≡ codes "order w0,w1,p0,w0\n"
    ++ codes "at 0 w0\nreply 0 ok\ntold w insert 2 [\"cid\",1]\n"
    ++ codes "told v insert 3 [5,\"open\",\"cid\",\"font\"]; insert 6 \"cid\"\n"
    ++ codes "at 1 w1\nreply 0 ok\nreply 1 shown [[4,\"open\",\"ann\",\"colour\"],"
    ++ codes "[1,\"open\",\"ann\",\"crash, on start\"],[5,\"open\",\"cid\",\"font\"]]\n"
    ++ codes "told w delete 1 [\"bob\",1]\ntold v delete 2 [3,\"open\",\"bob\",\"slow\"]\n"
    ++ codes "at 2 p0\ntold x insert 3 [5,\"open\",\"cid\",\"font\"]\n"
    ++ codes "at 3 w0\nreply 0 ok\ntold w update 0 [\"ann\",2] [\"ann\",1]\n"
    ++ codes "told v delete 1 [1,\"open\",\"ann\",\"crash, on start\"]; update 2 \"ann\" \"ann\"\n"
    ++ codes "list issues [[1,\"closed\",\"ann\",\"crash, on start\"],"
    ++ codes "[2,\"closed\",\"bob\",\"typo\"],[3,\"open\",\"bob\",\"slow\"],"
    ++ codes "[4,\"open\",\"ann\",\"colour\"],[5,\"open\",\"cid\",\"font\"]]\n"
    ++ codes "list live [[4,\"open\",\"ann\",\"colour\"],[5,\"open\",\"cid\",\"font\"]]\n"
    ++ codes "list users [[1,\"closed\",\"ann\",\"crash, on start\"],"
    ++ codes "[2,\"closed\",\"bob\",\"typo\"],[5,\"open\",\"cid\",\"font\"]]\n"
    ++ codes "list names [\"ann\",\"bob\",\"cid\"]\n"
    ++ codes "list byuser [[[4,\"open\",\"ann\",\"colour\"]],[[5,\"open\",\"cid\",\"font\"]]]\n"
    ++ codes "list load [[\"ann\",1],[\"cid\",1]]\n"
    ++ codes "list board [[4,\"open\",\"ann\",\"colour\"],[5,\"open\",\"cid\",\"font\"]]\n"
    ++ codes "list page [[4,\"open\",\"ann\",\"colour\"],[5,\"open\",\"cid\",\"font\"],"
    ++ codes "\"ann\",\"bob\",\"cid\"]\n"
    ++ codes "list ui [[1,\"open\",\"ann\",\"crash, on start\"],[3,\"open\",\"bob\",\"slow\"],"
    ++ codes "[4,\"open\",\"ann\",\"colour\"],[5,\"open\",\"cid\",\"font\"]]\nheld ui queued 2\n"
unfolding digits
issues_report = refl
