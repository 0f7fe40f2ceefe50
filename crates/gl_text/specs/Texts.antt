-- The text of a plan in pieces, each written by a function of its own.
use Rattle.std.specs.Prelude.{ℕ, List, [], ◌∷◌, ◌++◌, map, flat_map, slice_get, unwrap_or, codes}
use Rattle.gl_value.specs.Tree.{Tree}
use Rattle.gl_lines.specs.declared.line.Line.TheVariants as line
use Rattle.gl_lines.specs.declared.plan.ListDecl.{ListDecl}
use Rattle.gl_lines.specs.declared.plan.ListKind.{ListKind}
use Rattle.gl_lines.specs.declared.plan.ListKind.TheVariants as kinds
use Rattle.gl_lines.specs.declared.plan.ListenerDecl.{ListenerDecl}
use Rattle.gl_lines.specs.declared.plan.Command.{Command}
use Rattle.spec_plan_texts.specs.Canonical.{ended, list_line, listener_line, command_line}
use Rattle.spec_plan_texts.specs.PlanNames.{unplaced_name}

-- the names of lists, and those of listeners
abbrev pub names_of_decls : List ListDecl → List (List ℕ)
names_of_decls ds = map (λ d. d.name) ds

abbrev pub listener_names : List ListenerDecl → List (List ℕ)
listener_names ds = map (λ d. d.name) ds

-- the name of a number; no bytes past the last
abbrev pub name_at : List (List ℕ) → ℕ → List ℕ
name_at names k = unwrap_or (slice_get names k) []

abbrev pub spaced_name : List (List ℕ) → ℕ → List ℕ
spaced_name names k = 32 ∷ name_at names k

abbrev pub name_after_comma : List (List ℕ) → ℕ → List ℕ
name_after_comma names k = 44 ∷ name_at names k

abbrev pub row_text : List ℕ → Tree → List ℕ
row_text name row = ended (line.Row (unplaced_name name) row)

abbrev pub rows_text : List ℕ → ListKind → List ℕ
rows_text name (kinds.Source rows) = flat_map (row_text name) rows
rows_text name other = []

abbrev pub list_text : List (List ℕ) → ListDecl → List ℕ
list_text names d = ended (list_line names (unplaced_name d.name) d.kind) ++ rows_text d.name d.kind

abbrev pub listener_text : List (List ℕ) → List (List ℕ) → ListenerDecl → List ℕ
listener_text names listeners d = ended (listener_line names listeners d)

abbrev pub command_text : List (List ℕ) → Command → List ℕ
command_text names c = ended (command_line names c)

abbrev pub section_text : List (List ℕ) → List Command → List ℕ
section_text names commands = codes "section\n" ++ flat_map (command_text names) commands

abbrev pub writer_text : List (List ℕ) → List (List Command) → List ℕ
writer_text names sections = codes "writer\n" ++ flat_map (section_text names) sections

-- the text of a plan ahead of its writers, by its limit, its lists and its listeners
abbrev pub prefix_text : ℕ → List ListDecl → List ListenerDecl → List ℕ
prefix_text limit lists listeners =
    ((codes "glaze 1\n" ++ ended (line.Limit limit))
    ++ flat_map (list_text (names_of_decls lists)) lists)
    ++ flat_map (listener_text (names_of_decls lists) (listener_names listeners)) listeners
