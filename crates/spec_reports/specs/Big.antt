-- The large plan of a size: a source under a filter, a sorted list, a unique list, a grouping, a function list and a composite, and
-- a writer with a section for each of its elements.
use Rattle.std.specs.Prelude.{ℕ, ◌*◌, ◌%◌, pos, List, [], ◌∷◌, map, replicate, codes, false}
use Rattle.std.specs.List.{range_with_len}
use Rattle.spec_plans.specs.Tree.{Tree, num, items_of}
use Rattle.spec_syntax.specs.LangMatcher.{is}
use Rattle.spec_syntax.specs.LangFunc.{count}
use Rattle.spec_syntax.specs.Test.TheVariants.{Ge}
use Rattle.spec_syntax.specs.Sorting.{Key}
use Rattle.gl_outside.specs.declared.gate.Actor.{Actor}
use Rattle.gl_outside.specs.declared.gate.Actor.TheVariants.{Writer}
use Rattle.gl_lines.specs.declared.plan.Command.{Command}
use Rattle.gl_lines.specs.declared.plan.Command.TheVariants.{Add, Set, Remove}
use Rattle.gl_lines.specs.declared.plan.ListDecl.{ListDecl}
use Rattle.gl_lines.specs.declared.plan.ListKind.{ListKind}
use Rattle.gl_lines.specs.declared.plan.ListKind.TheVariants as kinds
use Rattle.gl_lines.specs.declared.plan.ListenerDecl.{ListenerDecl}
use Rattle.spec_plans.specs.Plan.{Plan}
use Rattle.spec_reports.specs.Summary.{summary}

-- a pair of numbers
abbrev pub element : ℕ → ℕ → Tree
element a b = items_of (num (pos a) ∷ num (pos b) ∷ [])

-- by the element at an index, upwards
abbrev pub upwards : ℕ → Key
upwards index = record { path = index ∷ []; down = false }

-- the commands of the j-th section: the element of one place is set, one is added at the end, and one is removed
abbrev pub big_section : ℕ → ℕ → List Command
big_section n j =
    Set 0 ((13 * j) % n) (element ((41 * j) % 101) (j % 7))
    ∷ Add 0 (element ((53 * j) % 101) (j % 7)) ∷ Remove 0 ((29 * j) % n) ∷ []

abbrev pub declared : List ℕ → ListKind → ListDecl
declared name kind = record { name = name; kind = kind }

abbrev pub heard_by : List ℕ → ℕ → ListenerDecl
heard_by name list = record { name = name; list = list; after = []; echo = false }

abbrev pub big_plan : ℕ → Plan
big_plan n = record {
  limit = 16777216;
  lists =
      declared (codes "s")
      (kinds.Source (map (λ k. element ((37 * k) % 101) (k % 7)) (range_with_len 0 n)))
      ∷ declared (codes "f") (kinds.Filter 0 (is (0 ∷ []) Ge (num (pos 50))))
      ∷ declared (codes "o") (kinds.Sorted 1 (upwards 0 ∷ upwards 1 ∷ []))
      ∷ declared (codes "u") (kinds.Unique 0 (upwards 0 ∷ []))
      ∷ declared (codes "g") (kinds.Grouping 0 (upwards 0 ∷ []))
      ∷ declared (codes "n") (kinds.Function 4 (count []))
      ∷ declared (codes "c") (kinds.Composite (2 ∷ 3 ∷ []) [])
      ∷ [];
  listeners = heard_by (codes "a") 6 ∷ heard_by (codes "b") 5 ∷ [];
  writers = map (big_section n) (range_with_len 0 n) ∷ [];
}

-- all of its sections
abbrev pub big_order : ℕ → List Actor
big_order n = replicate n (Writer 0)

abbrev pub big_summary : ℕ → List ℕ
big_summary n = summary (big_plan n) (big_order n)
