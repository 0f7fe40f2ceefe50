-- What every plan that lines make has.
use Rattle.std.specs.Prelude.{◌≡◌, ℕ, ◌==◌, ◌<◌, ◌≤◌, true, List, [], flat_map, filter_map, length, bytes_eq, Option, Some, None, option_map, unwrap_or, slice_get, All, Contains, ⊤}
use Rattle.std.specs.List.{IsDistinct}
use Rattle.gl_lines.specs.declared.plan.ListKind.{ListKind}
use Rattle.gl_lines.specs.declared.plan.ListKind.TheVariants as kinds
use Rattle.gl_lines.specs.declared.plan.ListenerDecl.{ListenerDecl}
use Rattle.gl_lines.specs.declared.plan.Command.{Command}
use Rattle.gl_lines.specs.declared.plan.Command.TheVariants as commands
use Rattle.spec_order.specs.Cycle.{IsWalk}
use Rattle.spec_plans.specs.declared.class.ListClass.{ListClass}
use Rattle.spec_plans.specs.declared.class.ListClass.TheVariants.{Edited, Filtered, Ordered, Bounded, Mapped, Collected, Composed, Undone, Frozen, Pumped}
use Rattle.spec_plans.specs.NameFaults.{input_need, shuns_proxies}
use Rattle.spec_plans.specs.Plan.{Plan, inputs_of, list_edges, origin}
use Rattle.spec_plans.specs.PlanNames.{names_of_lists, names_of_listeners}

-- the class of a list
abbrev pub class_of_kind : ListKind → ListClass
class_of_kind (kinds.Source rows) = Edited
class_of_kind (kinds.Filter input matcher) = Filtered
class_of_kind (kinds.Sorted input order) = Ordered
class_of_kind (kinds.Unique input order) = Ordered
class_of_kind (kinds.Grouping input order) = Ordered
class_of_kind (kinds.Range input bounds) = Bounded
class_of_kind (kinds.Function input func) = Mapped
class_of_kind (kinds.Collection input kids) = Collected
class_of_kind (kinds.Composite members may) = Composed
class_of_kind (kinds.Transaction input) = Undone
class_of_kind (kinds.Freezable input) = Frozen
class_of_kind (kinds.Proxy input) = Pumped

-- the class of the list of a number, where there is one
abbrev pub class_at : Plan → ℕ → Option ListClass
class_at p k = option_map (λ d. class_of_kind d.kind) (slice_get p.lists k)

-- the numbers that the list of a number depends on; none where there is no such list
abbrev pub inputs_at : Plan → ℕ → List ℕ
inputs_at p k = unwrap_or (option_map (λ d. inputs_of d.kind) (slice_get p.lists k)) []

-- the class that the list of a command needs to be of; `show` needs none
abbrev pub needed_class : Command → Option ListClass
needed_class (commands.Add list value) = Some Edited
needed_class (commands.AddAll list values) = Some Edited
needed_class (commands.Insert list index value) = Some Edited
needed_class (commands.Set list index value) = Some Edited
needed_class (commands.Remove list index) = Some Edited
needed_class (commands.Clear list) = Some Edited
needed_class (commands.Match list matcher) = Some Filtered
needed_class (commands.Order list order) = Some Ordered
needed_class (commands.Bounds list bounds) = Some Bounded
needed_class (commands.Apply list func) = Some Mapped
needed_class (commands.Attach list member) = Some Composed
needed_class (commands.Detach list index) = Some Composed
needed_class (commands.Begin list) = Some Undone
needed_class (commands.Commit list) = Some Undone
needed_class (commands.Rollback list) = Some Undone
needed_class (commands.Freeze list) = Some Frozen
needed_class (commands.Thaw list) = Some Frozen
needed_class (commands.Show list) = None

-- all commands of the sections of all writers
abbrev pub all_commands : Plan → List Command
all_commands p = flat_map (λ sections. flat_map (λ section. section) sections) p.writers

-- the inputs of the transactions among the lists, by number
abbrev pub undone_input : ListKind → Option ℕ
undone_input (kinds.Transaction input) = Some input
undone_input other = None

abbrev pub undone_inputs_of : Plan → List ℕ
undone_inputs_of p = filter_map (λ d. undone_input d.kind) p.lists

-- the plan has a list of this number, and it is of the class that is needed, where one is
abbrev pub HasList : Plan → Option ListClass → ℕ → Type 0
HasList p None k = k < length p.lists
HasList p (Some class) k = class_at p k ≡ Some class

-- a list depends on lists of the plan alone, a transaction on a source
abbrev pub HasInputs : Plan → ListKind → Type 0
HasInputs p kind = All (HasList p (input_need (class_of_kind kind))) (inputs_of kind)

-- a listener hears a list of the plan, and is told after listeners of the plan
pub record HasHeard (p : Plan) (d : ListenerDecl) : Type 0 where
  pub list : d.list < length p.lists
  pub after : All (λ k. k < length p.listeners) d.after

-- what a command attaches is a member of its composite, or may become one
abbrev pub IsAttachable : Plan → Command → Type 0
IsAttachable p (commands.Attach list member) = Contains (inputs_at p list) member
IsAttachable p other = ⊤

-- a list depends on another, itself or through others
abbrev pub LeadsTo : Plan → ℕ → ℕ → Type 0
LeadsTo p a b = (through : List ℕ) × IsWalk (list_edges p) a through b

pub record IsWellFormed (p : Plan) : Type 0 where
  -- no two lists have one name, and no two listeners
  pub list_names : IsDistinct bytes_eq (names_of_lists p)
  pub listener_names : IsDistinct bytes_eq (names_of_listeners p)
  -- all that is spoken of is there, and of the class that is needed
  pub inputs : All (λ d. HasInputs p d.kind) p.lists
  pub heard : All (HasHeard p) p.listeners
  pub commanded : All (λ c. HasList p (needed_class c) (origin c)) (all_commands p)
  pub attached : All (IsAttachable p) (all_commands p)
  -- no two transactions have one input
  pub one_transaction : IsDistinct (λ a b. a == b) (undone_inputs_of p)
  -- no composite and no collection depends on a proxy
  pub no_proxies : (a b : ℕ) → option_map shuns_proxies (class_at p a) ≡ Some true
      → class_at p b ≡ Some Pumped
      → ¬ LeadsTo p a b
  -- and there are not too many
  pub few_lists : length p.lists ≤ 256
  pub few_listeners : length p.listeners ≤ 256
  pub few_writers : length p.writers ≤ 64
