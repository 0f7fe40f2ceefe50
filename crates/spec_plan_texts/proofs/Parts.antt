-- What holds of the lines of a plan, part by part.
use Rattle.std.proofs.Common.{ℕ, List, [], ◌∷◌, ◌++◌, map}
use Rattle.std.specs.Prelude.{flat_map}
use Rattle.std.specs.List.{AllByRecursion}
use Rattle.gl_lines.specs.declared.line.Line.{Line}
use Rattle.gl_lines.specs.declared.line.Line.TheVariants as line
use Rattle.gl_lines.specs.declared.plan.ListDecl.{ListDecl}
use Rattle.gl_lines.specs.declared.plan.Command.{Command}
use Rattle.spec_plans.specs.Plan.{Plan}
use Rattle.spec_plan_texts.specs.Canonical.{list_line, row_lines, lines_of_list, listener_line, command_line, lines_of_section, lines_of_writer, lines_of_plan}
use Rattle.spec_plans.specs.PlanNames.{unplaced_name, names_of_lists, names_of_listeners}
use Rattle.spec_plans.specs.WellFormed.{all_commands}
use Rattle.spec_basics.proofs.Lists.{all_map, all_append, all_left, all_right}

pub all_flat : {X Y : Type 0} (P : Y → Type 0) (f : X → List Y) (xs : List X)
    → AllByRecursion (λ x. AllByRecursion P (f x)) xs → AllByRecursion P (flat_map f xs)
all_flat P f [] h = tt
all_flat P f (x ∷ xs) h = all_append P (f x) (flat_map f xs) h.0 (all_flat P f xs h.1)

module _ (P : Line → Type 0) (names : List (List ℕ)) (writer : P line.Writer) (section : P line.Section) where
  section_lines : (cs : List Command) → AllByRecursion (λ c. P (command_line names c)) cs
      → AllByRecursion P (lines_of_section names cs)
  section_lines cs h = (section, all_map P (command_line names) cs h)

  sections_lines : (ss : List (List Command)) → AllByRecursion (λ c. P (command_line names c)) (flat_map (λ s. s) ss)
      → AllByRecursion P (flat_map (lines_of_section names) ss)
  sections_lines [] h = tt
  sections_lines (s ∷ ss) h =
      all_append P (lines_of_section names s) (flat_map (lines_of_section names) ss)
      (section_lines s (all_left (λ c. P (command_line names c)) s (flat_map (λ t. t) ss) h))
      (sections_lines ss (all_right (λ c. P (command_line names c)) s (flat_map (λ t. t) ss) h))

  writers_lines : (ws : List (List (List Command)))
      → AllByRecursion (λ c. P (command_line names c)) (flat_map (λ ss. flat_map (λ s. s) ss) ws)
      → AllByRecursion P (flat_map (lines_of_writer names) ws)
  writers_lines [] h = tt
  writers_lines (w ∷ ws) h =
      let rest = flat_map (λ ss. flat_map (λ s. s) ss) ws in
      all_append P (lines_of_writer names w) (flat_map (lines_of_writer names) ws)
      (writer, sections_lines w (all_left (λ c. P (command_line names c)) (flat_map (λ s. s) w) rest h))
      (writers_lines ws (all_right (λ c. P (command_line names c)) (flat_map (λ s. s) w) rest h))

-- a list's line and its rows
abbrev pub OfList : (Line → Type 0) → List (List ℕ) → ListDecl → Type 0
OfList P names d = P (list_line names (unplaced_name d.name) d.kind) × AllByRecursion P
    (row_lines (unplaced_name d.name) d.kind)

pub all_lines : (P : Line → Type 0) (p : Plan) → P (line.Limit p.limit)
    → AllByRecursion (OfList P (names_of_lists p)) p.lists
    → AllByRecursion (λ d. P (listener_line (names_of_lists p) (names_of_listeners p) d)) p.listeners
    → P line.Writer → P line.Section
    → AllByRecursion (λ c. P (command_line (names_of_lists p) c)) (all_commands p)
    → AllByRecursion P (lines_of_plan p)
all_lines P p limit lists listeners writer section commands =
    let names = names_of_lists p in
    let listener = listener_line names (names_of_listeners p) in (
      limit,
      all_append P (flat_map (lines_of_list names) p.lists ++ map listener p.listeners)
          (flat_map (lines_of_writer names) p.writers)
          (all_append P (flat_map (lines_of_list names) p.lists) (map listener p.listeners)
          (all_flat P (lines_of_list names) p.lists lists) (all_map P listener p.listeners listeners))
          (writers_lines P names writer section p.writers commands),
    )
