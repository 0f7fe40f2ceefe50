-- Worked rows of the definitions, each by computing.
use Rattle.std.specs.Prelude.{◌≡◌, ℕ, zero, suc, pos, true, false, List, [], ◌∷◌, Option, Some, None, refl, codes}
use Rattle.spec_value.specs.Tree.{num}
use Rattle.gl_lines.specs.declared.named.Named.{Named}
use Rattle.gl_lines.specs.declared.line.Line.{Line}
use Rattle.gl_lines.specs.declared.line.Line.TheVariants.{Limit, Source, Row, EndCsv, Transaction, Composite, Proxy, Listen, Writer, Section, Add, Attach}
use Rattle.gl_lines.specs.declared.line.NumberedLine.{NumberedLine}
use Rattle.gl_lines.specs.declared.plan.ListKind.TheVariants as kinds
use Rattle.gl_lines.specs.declared.plan.Command.TheVariants as commands
use Rattle.gl_lines.specs.declared.fault.PlanKind.{PlanKind}
use Rattle.gl_lines.specs.declared.fault.PlanKind.TheVariants.{Place, Many, Taken, Unknown, Kind, Member, Second, OverProxy}
use Rattle.spec_plans.specs.declared.fault.FaultAt.{FaultAt}
use Rattle.spec_plans.specs.NameFaults.{first_fault_at}
use Rattle.spec_plans.specs.Numbered.{numbered}
use Rattle.spec_plans.specs.Plan.{list_edges, listener_edges}
use Rattle.spec_plans.specs.Making.{plan_of}

-- a name at a column
abbrev pub at : ℕ → List ℕ → Named
at column name = record { name = name; column = column }

abbrev pub fault : ℕ → ℕ → PlanKind → Option FaultAt
fault line column kind = Some (record { line = line; column = column; kind = kind })

-- source s; row s 7; writer; section; add s 5
abbrev pub small : List NumberedLine
small = numbered 2
    (Source (at 8 (codes "s")) ∷ Row (at 5 (codes "s")) (num (pos 7)) ∷ Writer ∷ Section
    ∷ Add (at 5 (codes "s")) (num (pos 5)) ∷ [])

small_is_right : first_fault_at small ≡ None
small_is_right = refl

small_makes : plan_of small ≡ record {
  limit = 16777216;
  lists = record { name = codes "s"; kind = kinds.Source (num (pos 7) ∷ []) } ∷ [];
  listeners = [];
  writers = ((commands.Add 0 (num (pos 5)) ∷ []) ∷ []) ∷ [];
}
small_makes = refl

-- source s; source s
taken : first_fault_at (numbered 2 (Source (at 8 (codes "s")) ∷ Source (at 8 (codes "s")) ∷ []))
    ≡ fault 3 8 Taken
taken = refl

-- proxy p x
unknown : first_fault_at (numbered 2 (Proxy (at 7 (codes "p")) (at 9 (codes "x")) ∷ []))
    ≡ fault 2 9 Unknown
unknown = refl

-- source s; proxy s x: the name that stands first is judged first
left_to_right : first_fault_at
    (numbered 2 (Source (at 8 (codes "s")) ∷ Proxy (at 7 (codes "s")) (at 9 (codes "x")) ∷ []))
    ≡ fault 3 7 Taken
left_to_right = refl

-- source s; proxy p s; writer; section; add p 5
kind_needed : first_fault_at
    (numbered 2
    (Source (at 8 (codes "s")) ∷ Proxy (at 7 (codes "p")) (at 9 (codes "s")) ∷ Writer ∷ Section
    ∷ Add (at 5 (codes "p")) (num (pos 5)) ∷ []))
    ≡ fault 6 5 Kind
kind_needed = refl

-- source s; transaction t s; transaction u s
second : first_fault_at
    (numbered 2
    (Source (at 8 (codes "s")) ∷ Transaction (at 13 (codes "t")) (at 15 (codes "s"))
    ∷ Transaction (at 13 (codes "u")) (at 15 (codes "s")) ∷ []))
    ≡ fault 4 15 Second
second = refl

-- source s; source r; composite c s may t; source t; writer; section; attach c t; attach c r
attaching : first_fault_at (numbered 2 (Source (at 8 (codes "s")) ∷ Source (at 8 (codes "r"))
    ∷ Composite (at 11 (codes "c")) (at 13 (codes "s") ∷ []) (at 19 (codes "t") ∷ [])
    ∷ Source (at 8 (codes "t"))
    ∷ Writer ∷ Section ∷ Attach (at 8 (codes "c")) (at 10 (codes "t"))
    ∷ Attach (at 8 (codes "c")) (at 10 (codes "r")) ∷ []))
    ≡ fault 9 10 Member
attaching = refl

-- source s; composite c q; proxy q p; proxy p s: names may be used before their line
over_proxy : first_fault_at
    (numbered 2
    (Source (at 8 (codes "s")) ∷ Composite (at 11 (codes "c")) (at 13 (codes "q") ∷ []) []
    ∷ Proxy (at 7 (codes "q")) (at 9 (codes "p")) ∷ Proxy (at 7 (codes "p")) (at 9 (codes "s"))
    ∷ []))
    ≡ fault 3 1 OverProxy
over_proxy = refl

-- writer; source s
late : first_fault_at (numbered 2 (Writer ∷ Source (at 8 (codes "s")) ∷ [])) ≡ fault 3 1 Place
late = refl

-- limit 3; limit 3
limited_twice : first_fault_at (numbered 2 (Limit 3 ∷ Limit 3 ∷ [])) ≡ fault 3 1 Place
limited_twice = refl

-- writer; section; writer; add s 5: each writer has sections of its own, and places come before names
no_section : first_fault_at
    (numbered 2 (Writer ∷ Section ∷ Writer ∷ Add (at 5 (codes "s")) (num (pos 5)) ∷ []))
    ≡ fault 5 1 Place
no_section = refl

no_block : first_fault_at (numbered 2 (EndCsv ∷ [])) ≡ fault 2 1 Place
no_block = refl

-- so many lines alike
abbrev pub copies : ℕ → Line → List Line
copies zero line = []
copies (suc n) line = line ∷ copies n line

too_many_writers : first_fault_at (numbered 2 (copies 65 Writer)) ≡ fault 66 1 Many
too_many_writers = refl

enough_writers : first_fault_at (numbered 2 (copies 64 Writer)) ≡ None
enough_writers = refl

-- source s; listen b on s after a; listen a on s after b
round : listener_edges (plan_of (numbered 2 (Source (at 8 (codes "s"))
    ∷ Listen (at 8 (codes "b")) (at 13 (codes "s")) (at 21 (codes "a") ∷ []) false
    ∷ Listen (at 8 (codes "a")) (at 13 (codes "s")) (at 21 (codes "b") ∷ []) true ∷ [])))
    ≡ (0, 1) ∷ (1, 0) ∷ []
round = refl

-- source s; composite c s may d; composite d c
members_and_may : list_edges (plan_of (numbered 2 (Source (at 8 (codes "s"))
    ∷ Composite (at 11 (codes "c")) (at 13 (codes "s") ∷ []) (at 19 (codes "d") ∷ [])
    ∷ Composite (at 11 (codes "d")) (at 13 (codes "c") ∷ []) [] ∷ [])))
    ≡ (1, 0) ∷ (1, 2) ∷ (2, 1) ∷ []
members_and_may = refl
