-- What the lines of a plan add to another, part by part.
use Rattle.std.proofs.Common.{◌≡◌, ◌∙◌, ℕ, List, [], ◌∷◌, ◌++◌, map, fold, refl, sym, ap, append-nil, append_assoc}
use Rattle.std.specs.Prelude.{flat_map}
use Rattle.std.specs.List.{AllByRecursion}
use Rattle.gl_lines.specs.declared.line.Line.{Line}
use Rattle.gl_lines.specs.declared.line.Line.TheVariants as line
use Rattle.gl_lines.specs.declared.plan.ListDecl.{ListDecl}
use Rattle.gl_lines.specs.declared.plan.ListKind.{ListKind}
use Rattle.gl_lines.specs.declared.plan.ListKind.TheVariants as kinds
use Rattle.gl_lines.specs.declared.plan.ListenerDecl.{ListenerDecl}
use Rattle.gl_lines.specs.declared.plan.Command.{Command}
use Rattle.spec_plans.specs.Tree.{Tree}
use Rattle.spec_plans.specs.declared.part.Part.{Part}
use Rattle.spec_plans.specs.declared.part.Part.TheVariants as parts
use Rattle.spec_plans.specs.Plan.{Plan}
use Rattle.spec_plans.specs.Making.{part_of, with_last, with_part}
use Rattle.spec_plan_texts.specs.Canonical.{list_line, row_lines, lines_of_list, listener_line, command_line, lines_of_section, lines_of_writer}
use Rattle.spec_plans.specs.PlanNames.{unplaced_name}
use Rattle.spec_plans.proofs.Lasts.{with_last_end}

module _ (names listeners : List (List ℕ)) (rows : ℕ → List Tree) where
  abbrev pub adds : Line → Part
  adds l = part_of names listeners rows l

  -- what more lines make of a plan
  abbrev pub then : Plan → List Line → Plan
  then p ls = fold with_part p (map adds ls)

  rows_add : (p : Plan) (name : List ℕ) (kind : ListKind) (rest : List Line)
      → then p (row_lines (unplaced_name name) kind ++ rest) ≡ then p rest
  rows_add p name (kinds.Source values) rest = each values
    where
      each : (vs : List Tree) → then p (map (line.Row (unplaced_name name)) vs ++ rest) ≡ then p rest
      each [] = refl
      each (v ∷ vs) = each vs
  rows_add p name other rest = refl

  pub lists_add : (p : Plan) (ds : List ListDecl) (rest : List Line)
      → AllByRecursion (λ d. adds (list_line names (unplaced_name d.name) d.kind) ≡ parts.List d) ds
      → then p (flat_map (lines_of_list names) ds ++ rest) ≡ then (record p { lists = p.lists ++ ds }) rest
  lists_add p [] rest h = ap (λ ds. then (record p { lists = ds }) rest) (sym (append-nil p.lists))
  lists_add p (d ∷ ds) rest h =
      let more : List Line = row_lines (unplaced_name d.name) d.kind in
      ap (λ ls. then p (list_line names (unplaced_name d.name) d.kind ∷ ls))
      (append_assoc more (flat_map (lines_of_list names) ds) rest)
      ∙ ap (λ x. fold with_part (with_part p x) (map adds (more ++ (flat_map (lines_of_list names) ds ++ rest)))) h.0
      ∙ rows_add (record p { lists = p.lists ++ d ∷ [] }) d.name d.kind (flat_map (lines_of_list names) ds ++ rest)
      ∙ lists_add (record p { lists = p.lists ++ d ∷ [] }) ds rest h.1
      ∙ ap (λ es. then (record p { lists = es }) rest) (append_assoc p.lists (d ∷ []) ds)

  pub listeners_add : (p : Plan) (ds : List ListenerDecl) (rest : List Line)
      → AllByRecursion (λ d. adds (listener_line names listeners d) ≡ parts.Listener d) ds
      → then p (map (listener_line names listeners) ds ++ rest)
      ≡ then (record p { listeners = p.listeners ++ ds }) rest
  listeners_add p [] rest h = ap (λ ds. then (record p { listeners = ds }) rest) (sym (append-nil p.listeners))
  listeners_add p (d ∷ ds) rest h =
      ap (λ x. fold with_part (with_part p x) (map adds (map (listener_line names listeners) ds ++ rest))) h.0
      ∙ listeners_add (record p { listeners = p.listeners ++ d ∷ [] }) ds rest h.1
      ∙ ap (λ es. then (record p { listeners = es }) rest) (append_assoc p.listeners (d ∷ []) ds)

  abbrev AreSaid : List Command → Type 0
  AreSaid cs = AllByRecursion (λ c. adds (command_line names c) ≡ parts.Command c) cs

  -- commands of a section that is open
  commands_add : (p : Plan) (writers : List (List (List Command))) (sections : List (List Command))
      (commands more : List Command) (rest : List Line) → AreSaid more
      → then (record p { writers = writers ++ (sections ++ commands ∷ []) ∷ [] })
      (map (command_line names) more ++ rest)
      ≡ then (record p { writers = writers ++ (sections ++ (commands ++ more) ∷ []) ∷ [] }) rest
  commands_add p writers sections commands [] rest h =
      ap (λ cs. then (record p { writers = writers ++ (sections ++ cs ∷ []) ∷ [] }) rest) (sym (append-nil commands))
  commands_add p writers sections commands (c ∷ cs) rest h =
      ap (λ x. fold with_part (with_part (record p { writers = writers ++ (sections ++ commands ∷ []) ∷ [] }) x)
      (map adds (map (command_line names) cs ++ rest))) h.0
      ∙ ap (λ ws. then (record p { writers = ws }) (map (command_line names) cs ++ rest))
      (with_last_end (with_last (λ ds. ds ++ c ∷ [])) writers (sections ++ commands ∷ [])
      ∙ ap (λ ss. writers ++ ss ∷ []) (with_last_end (λ ds. ds ++ c ∷ []) sections commands))
      ∙ commands_add p writers sections (commands ++ c ∷ []) cs rest h.1
      ∙ ap (λ ds. then (record p { writers = writers ++ (sections ++ ds ∷ []) ∷ [] }) rest)
      (append_assoc commands (c ∷ []) cs)

  -- sections of the last writer
  sections_add : (p : Plan) (writers : List (List (List Command))) (sections more : List (List Command))
      (rest : List Line) → AllByRecursion AreSaid more
      → then (record p { writers = writers ++ sections ∷ [] }) (flat_map (lines_of_section names) more ++ rest)
      ≡ then (record p { writers = writers ++ (sections ++ more) ∷ [] }) rest
  sections_add p writers sections [] rest h = ap (λ ss. then (record p { writers = writers ++ ss ∷ [] }) rest)
      (sym (append-nil sections))
  sections_add p writers sections (s ∷ ss) rest h =
      let later : List Line = flat_map (lines_of_section names) ss ++ rest in
      ap (λ ls. then (record p { writers = writers ++ sections ∷ [] }) (line.Section ∷ ls))
      (append_assoc (map (command_line names) s) (flat_map (lines_of_section names) ss) rest)
      ∙ ap (λ ws. then (record p { writers = ws }) (map (command_line names) s ++ later))
      (with_last_end (λ ts. ts ++ [] ∷ []) writers sections)
      ∙ commands_add p writers sections [] s later h.0
      ∙ sections_add p writers (sections ++ s ∷ []) ss rest h.1
      ∙ ap (λ ts. then (record p { writers = writers ++ ts ∷ [] }) rest) (append_assoc sections (s ∷ []) ss)

  pub writers_add : (p : Plan) (more : List (List (List Command))) (rest : List Line)
      → AllByRecursion (AllByRecursion AreSaid) more
      → then p (flat_map (lines_of_writer names) more ++ rest) ≡ then (record p { writers = p.writers ++ more }) rest
  writers_add p [] rest h = ap (λ ws. then (record p { writers = ws }) rest) (sym (append-nil p.writers))
  writers_add p (w ∷ ws) rest h =
      let later : List Line = flat_map (lines_of_writer names) ws ++ rest in
      ap (λ ls. then p (line.Writer ∷ ls)) (append_assoc (flat_map (lines_of_section names) w)
      (flat_map (lines_of_writer names) ws) rest)
      ∙ sections_add p p.writers [] w later h.0
      ∙ writers_add (record p { writers = p.writers ++ w ∷ [] }) ws rest h.1
      ∙ ap (λ vs. then (record p { writers = vs }) rest) (append_assoc p.writers (w ∷ []) ws)
