-- What a plan is, and on what its lists and listeners depend.
use Rattle.std.specs.Prelude.{ℕ, suc, List, [], ◌∷◌, ◌++◌, map, unwrap_or, slice_get}
use Rattle.gl_lines.specs.declared.plan.ListDecl.{ListDecl}
use Rattle.gl_lines.specs.declared.plan.ListKind.{ListKind}
use Rattle.gl_lines.specs.declared.plan.ListKind.TheVariants.{Source, Filter, Sorted, Unique, Grouping, Range, Function, Collection, Composite, Transaction, Freezable, Proxy}
use Rattle.gl_lines.specs.declared.plan.ListenerDecl.{ListenerDecl}
use Rattle.gl_lines.specs.declared.plan.Command.{Command}
use Rattle.gl_lines.specs.declared.plan.Command.TheVariants as commands

-- A plan is data: the most elements that a list may have; the lists and the listeners, numbered from 0 as they stand; and for
-- each writer its sections, each a list of commands.
pub record Plan : Type 0 where
  pub limit : ℕ
  pub lists : List ListDecl
  pub listeners : List ListenerDecl
  pub writers : List (List (List Command))

-- the sections of a writer; none where there is no such writer
abbrev pub sections_of : Plan → ℕ → List (List Command)
sections_of p writer = unwrap_or (slice_get p.writers writer) []

-- the commands of a writer's section; none where there is no such section
abbrev pub commands_of : Plan → ℕ → ℕ → List Command
commands_of p writer section = unwrap_or (slice_get (sections_of p writer) section) []

-- the number of the list that a command is about
abbrev pub origin : Command → ℕ
origin (commands.Add list value) = list
origin (commands.AddAll list values) = list
origin (commands.Insert list index value) = list
origin (commands.Set list index value) = list
origin (commands.Remove list index) = list
origin (commands.Clear list) = list
origin (commands.Match list matcher) = list
origin (commands.Order list order) = list
origin (commands.Bounds list bounds) = list
origin (commands.Apply list func) = list
origin (commands.Attach list member) = list
origin (commands.Detach list index) = list
origin (commands.Begin list) = list
origin (commands.Commit list) = list
origin (commands.Rollback list) = list
origin (commands.Freeze list) = list
origin (commands.Thaw list) = list
origin (commands.Show list) = list

-- the numbers of the lists that a list depends on
abbrev pub inputs_of : ListKind → List ℕ
inputs_of (Source rows) = []
inputs_of (Filter input matcher) = input ∷ []
inputs_of (Sorted input order) = input ∷ []
inputs_of (Unique input order) = input ∷ []
inputs_of (Grouping input order) = input ∷ []
inputs_of (Range input bounds) = input ∷ []
inputs_of (Function input func) = input ∷ []
inputs_of (Collection input kids) = input ∷ []
inputs_of (Composite members may) = members ++ may
inputs_of (Transaction input) = input ∷ []
inputs_of (Freezable input) = input ∷ []
inputs_of (Proxy input) = input ∷ []

-- the numbers of the proxies among lists, where the first of these has this number
abbrev pub proxies_from : ℕ → List ListDecl → List ℕ
proxies_from number [] = []
proxies_from number (d ∷ ds) = with_proxy d.kind (proxies_from (suc number) ds)
  where
    with_proxy : ListKind → List ℕ → List ℕ
    with_proxy (Proxy input) others = number ∷ others
    with_proxy other others = others

abbrev pub proxies_of : Plan → List ℕ
proxies_of p = proxies_from 0 p.lists

-- the dependencies of items by number, from what each depends on, where the first has this number
abbrev pub edges_from : ℕ → List (List ℕ) → List (ℕ × ℕ)
edges_from number [] = []
edges_from number (needed ∷ others) =
    map (λ b. (number, b)) needed ++ edges_from (suc number) others

abbrev pub list_edges : Plan → List (ℕ × ℕ)
list_edges p = edges_from 0 (map (λ d. inputs_of d.kind) p.lists)

abbrev pub listener_edges : Plan → List (ℕ × ℕ)
listener_edges p = edges_from 0 (map (λ d. d.after) p.listeners)
