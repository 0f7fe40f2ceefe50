-- What a plan of lines within the limits of the language has.
use Rattle.std.proofs.Common.{◌≡◌, ◌<◌, ◌≤◌, ℕ, Bool, true, false, cond, List, [], ◌∷◌, ◌++◌, fold, Some, None, subst, arith}
use Rattle.std.specs.Prelude.{IsTrue}
use Rattle.std.specs.List.{AllByRecursion}
use Rattle.std.proofs.lemmas.Option.{same_Some, none-some}
use Rattle.spec_lang.specs.Name.{is_name}
use Rattle.spec_plans.specs.Tree.{Tree}
use Rattle.spec_syntax.specs.Proper.{IsPath, IsOrder, IsBounds, IsFunc}
use Rattle.gl_lines.specs.declared.line.Line.{Line}
use Rattle.gl_lines.specs.declared.line.Line.TheVariants as line
use Rattle.gl_lines.specs.declared.line.NumberedLine.{NumberedLine}
use Rattle.gl_lines.specs.declared.plan.ListDecl.{ListDecl}
use Rattle.gl_lines.specs.declared.plan.ListKind.{ListKind}
use Rattle.gl_lines.specs.declared.plan.ListKind.TheVariants as kinds
use Rattle.gl_lines.specs.declared.plan.ListenerDecl.{ListenerDecl}
use Rattle.gl_lines.specs.declared.plan.Command.{Command}
use Rattle.gl_lines.specs.declared.plan.Command.TheVariants as commands
use Rattle.spec_lines.specs.Within.{IsLiteral, AreLiterals, IsRule, IsShort, IsWithin}
use Rattle.spec_plans.specs.declared.part.Part.{Part}
use Rattle.spec_plans.specs.declared.part.Part.TheVariants as parts
use Rattle.spec_plans.specs.Names.{list_names, listener_names, number_of}
use Rattle.spec_plans.specs.Making.{is_number, row_for, rows_for, part_of, parts_of, with_last, with_part, empty_plan, plan_of}
use Rattle.spec_plans.specs.Plan.{Plan}
use Rattle.spec_basics.proofs.Lists.{all_weaker, all_map, all_append, all_given}

abbrev pub IsName : List ℕ → Type 0
IsName n = IsTrue (is_name n)

-- what a list is made of, but for the names of others
abbrev pub IsGoodKind : ListKind → Type 0
IsGoodKind (kinds.Source rows) = AllByRecursion IsLiteral rows
IsGoodKind (kinds.Filter input matcher) = IsRule matcher
IsGoodKind (kinds.Sorted input order) = IsOrder order
IsGoodKind (kinds.Unique input order) = IsOrder order
IsGoodKind (kinds.Grouping input order) = IsOrder order
IsGoodKind (kinds.Range input bounds) = IsBounds bounds
IsGoodKind (kinds.Function input func) = IsFunc 8 func
IsGoodKind (kinds.Collection input kids) = IsPath kids
IsGoodKind (kinds.Composite members may) = Unit {0}
IsGoodKind (kinds.Transaction input) = Unit {0}
IsGoodKind (kinds.Freezable input) = Unit {0}
IsGoodKind (kinds.Proxy input) = Unit {0}

abbrev pub IsGoodCommand : Command → Type 0
IsGoodCommand (commands.Add list value) = IsLiteral value
IsGoodCommand (commands.AddAll list values) = AreLiterals values
IsGoodCommand (commands.Insert list index value) = IsShort index × IsLiteral value
IsGoodCommand (commands.Set list index value) = IsShort index × IsLiteral value
IsGoodCommand (commands.Remove list index) = IsShort index
IsGoodCommand (commands.Clear list) = Unit {0}
IsGoodCommand (commands.Match list matcher) = IsRule matcher
IsGoodCommand (commands.Order list order) = IsOrder order
IsGoodCommand (commands.Bounds list bounds) = IsBounds bounds
IsGoodCommand (commands.Apply list func) = IsFunc 8 func
IsGoodCommand (commands.Attach list member) = Unit {0}
IsGoodCommand (commands.Detach list index) = IsShort index
IsGoodCommand (commands.Begin list) = Unit {0}
IsGoodCommand (commands.Commit list) = Unit {0}
IsGoodCommand (commands.Rollback list) = Unit {0}
IsGoodCommand (commands.Freeze list) = Unit {0}
IsGoodCommand (commands.Thaw list) = Unit {0}
IsGoodCommand (commands.Show list) = Unit {0}

abbrev pub IsGoodDecl : ListDecl → Type 0
IsGoodDecl d = IsName d.name × IsGoodKind d.kind

abbrev pub IsGoodPart : Part → Type 0
IsGoodPart (parts.Limit n) = (0 < n) × (n ≤ 16777216)
IsGoodPart (parts.List d) = IsGoodDecl d
IsGoodPart (parts.Listener d) = IsName d.name
IsGoodPart parts.Writer = Unit {0}
IsGoodPart parts.Section = Unit {0}
IsGoodPart (parts.Command c) = IsGoodCommand c
IsGoodPart parts.Elsewhere = Unit {0}

pub record IsGood (p : Plan) : Type 0 where
  pub limit : (0 < p.limit) × (p.limit ≤ 16777216)
  pub lists : AllByRecursion IsGoodDecl p.lists
  pub listeners : AllByRecursion (λ (d : ListenerDecl). IsName d.name) p.listeners
  pub commands : AllByRecursion (AllByRecursion (AllByRecursion IsGoodCommand)) p.writers

all_last : {X : Type 0} (P : X → Type 0) (f : X → X) → ((x : X) → P x → P (f x)) → (xs : List X) → AllByRecursion P xs
    → AllByRecursion P (with_last f xs)
all_last P f g [] h = tt
all_last P f g (x ∷ []) h = (g x h.0, tt)
all_last P f g (x ∷ y ∷ ys) h = (h.0, all_last P f g (y ∷ ys) h.1)

good_more : (p : Plan) (part : Part) → IsGood p → IsGoodPart part → IsGood (with_part p part)
good_more p (parts.Limit n) g h = record { limit = h; lists = g.lists; listeners = g.listeners; commands = g.commands }
good_more p (parts.List d) g h =
    record {
      limit = g.limit;
      lists = all_append IsGoodDecl p.lists (d ∷ []) g.lists (h, tt);
      listeners =
          g.listeners;
      commands = g.commands;
    }
good_more p (parts.Listener d) g h =
    record {
      limit = g.limit;
      lists = g.lists;
      listeners = all_append (λ (e : ListenerDecl). IsName e.name)
          p.listeners (d ∷ []) g.listeners (h, tt);
      commands = g.commands;
    }
good_more p parts.Writer g h =
    record {
      limit = g.limit;
      lists = g.lists;
      listeners = g.listeners;
      commands =
          all_append (AllByRecursion (AllByRecursion IsGoodCommand)) p.writers ([] ∷ []) g.commands (tt, tt);
    }
good_more p parts.Section g h = record {
  limit = g.limit;
  lists = g.lists;
  listeners = g.listeners;
  commands = all_last (AllByRecursion (AllByRecursion IsGoodCommand)) (λ sections. sections ++ [] ∷ [])
      (λ sections k. all_append (AllByRecursion IsGoodCommand) sections ([] ∷ []) k (tt, tt)) p.writers g.commands;
}
good_more p (parts.Command c) g h = record {
  limit = g.limit;
  lists = g.lists;
  listeners = g.listeners;
  commands = all_last (AllByRecursion (AllByRecursion IsGoodCommand)) (with_last (λ cs. cs ++ c ∷ []))
      (all_last (AllByRecursion IsGoodCommand) (λ cs. cs ++ c ∷ [])
      (λ cs k. all_append IsGoodCommand cs (c ∷ []) k (h, tt))) p.writers g.commands;
}
good_more p parts.Elsewhere g h = g

good_all : (p : Plan) (ps : List Part) → IsGood p → AllByRecursion IsGoodPart ps → IsGood (fold with_part p ps)
good_all p [] g h = g
good_all p (x ∷ xs) g h = good_all (with_part p x) xs (good_more p x g h.0) h.1

good_part : (lists listeners : List (List ℕ)) (rows : ℕ → List Tree) → ((k : ℕ) → AllByRecursion IsLiteral (rows k))
    → (l : Line) → IsWithin l → IsGoodPart (part_of lists listeners rows l)
good_part lists listeners rows r (line.Limit limit) h = h
good_part lists listeners rows r (line.Source name) h = (h, r _)
good_part lists listeners rows r (line.Row list value) h = tt
good_part lists listeners rows r (line.Csv list) h = tt
good_part lists listeners rows r line.EndCsv h = tt
good_part lists listeners rows r (line.Filter name input matcher) h = (h.0, h.2)
good_part lists listeners rows r (line.Sorted name input order) h = (h.0, h.2)
good_part lists listeners rows r (line.Unique name input order) h = (h.0, h.2)
good_part lists listeners rows r (line.Grouping name input order) h = (h.0, h.2)
good_part lists listeners rows r (line.Range name input bounds) h = (h.0, h.2)
good_part lists listeners rows r (line.Function name input func) h = (h.0, h.2)
good_part lists listeners rows r (line.Collection name input kids) h = (h.0, h.2)
good_part lists listeners rows r (line.Composite name members may) h = (h.0, tt)
good_part lists listeners rows r (line.Transaction name input) h = (h.0, tt)
good_part lists listeners rows r (line.Freezable name input) h = (h.0, tt)
good_part lists listeners rows r (line.Proxy name input) h = (h.0, tt)
good_part lists listeners rows r (line.Listen name list after echo) h = h.0
good_part lists listeners rows r line.Writer h = tt
good_part lists listeners rows r line.Section h = tt
good_part lists listeners rows r (line.Add list value) h = h.1
good_part lists listeners rows r (line.AddAll list values) h = h.1
good_part lists listeners rows r (line.Insert list index value) h = (h.1, h.2)
good_part lists listeners rows r (line.Set list index value) h = (h.1, h.2)
good_part lists listeners rows r (line.Remove list index) h = h.1
good_part lists listeners rows r (line.Clear list) h = tt
good_part lists listeners rows r (line.Match list matcher) h = h.1
good_part lists listeners rows r (line.Order list order) h = h.1
good_part lists listeners rows r (line.Bounds list bounds) h = h.1
good_part lists listeners rows r (line.Apply list func) h = h.1
good_part lists listeners rows r (line.Attach list member) h = tt
good_part lists listeners rows r (line.Detach list index) h = h.1
good_part lists listeners rows r (line.Begin list) h = tt
good_part lists listeners rows r (line.Commit list) h = tt
good_part lists listeners rows r (line.Rollback list) h = tt
good_part lists listeners rows r (line.Freeze list) h = tt
good_part lists listeners rows r (line.Thaw list) h = tt
good_part lists listeners rows r (line.Show list) h = tt

given_if : (t : Bool) (value v : Tree) → cond t (Some value) None ≡ Some v → IsLiteral value → IsLiteral v
given_if true value v e h = subst IsLiteral (same_Some value v e) h
given_if false value v e h = absurd (none-some v e)

good_row : (names : List (List ℕ)) (k : ℕ) (l : Line) (v : Tree) → IsWithin l → row_for names k l ≡ Some v → IsLiteral v
good_row names k (line.Row list value) v h e = given_if (is_number (number_of names list.name) k) value v e h.1
good_row names k line.Writer v h e = absurd (none-some v e)
good_row names k other v h e = absurd (none-some v e)

abbrev pub AllWithin : List NumberedLine → Type 0
AllWithin lines = AllByRecursion (λ (l : NumberedLine). IsWithin l.what) lines

pub made_good : (lines : List NumberedLine) → AllWithin lines → IsGood (plan_of lines)
made_good lines h =
    let names = list_names lines in
    let rows = rows_for names lines in
    let literal : (k : ℕ) → AllByRecursion IsLiteral (rows k) =
    λ k. all_given (λ (l : NumberedLine). row_for names k l.what) IsLiteral lines
    (all_weaker (λ (l : NumberedLine). IsWithin l.what)
    (λ (l : NumberedLine). (v : Tree) → row_for names k l.what ≡ Some v → IsLiteral v)
    (λ l w v e. good_row names k l.what v w e) lines h) in
    good_all empty_plan (parts_of lines)
    (record { limit = (omega arith, omega arith); lists = tt; listeners = tt; commands = tt })
    (all_map IsGoodPart (λ (l : NumberedLine). part_of names (listener_names lines) rows l.what) lines
    (all_weaker (λ (l : NumberedLine). IsWithin l.what)
    (λ (l : NumberedLine). IsGoodPart (part_of names (listener_names lines) rows l.what))
    (λ l w. good_part names (listener_names lines) rows literal l.what w) lines h))
