-- The pieces of a plan's text, put together.
use Rattle.std.proofs.Common.{◌≡◌, ◌∙◌, ℕ, zero, suc, ◌+◌, ◌<◌, List, [], ◌∷◌, ◌++◌, length, map, drop, arith, refl, sym, ap, codes, append_assoc}
use Rattle.std.specs.Prelude.{slice_get, unwrap_or, option_map, flat_map}
use Rattle.std.proofs.lemmas.Option.{slice_get-map}
use Rattle.std.proofs.lemmas.Grind.{flat_map-append}
use Rattle.std.proofs.lemmas.List.Folds.{flat_map-map}
use Rattle.gl_lines.specs.declared.line.Line.{Line}
use Rattle.gl_lines.specs.declared.line.Line.TheVariants as line
use Rattle.gl_lines.specs.declared.plan.ListDecl.{ListDecl}
use Rattle.gl_lines.specs.declared.plan.ListKind.{ListKind}
use Rattle.gl_lines.specs.declared.plan.ListKind.TheVariants as kinds
use Rattle.gl_lines.specs.declared.plan.ListenerDecl.{ListenerDecl}
use Rattle.gl_lines.specs.declared.plan.Command.{Command}
use Rattle.spec_plan_texts.specs.Plan.{Plan}
use Rattle.spec_plan_texts.specs.Canonical.{ended, list_line, row_lines, lines_of_list, listener_line, command_line, lines_of_section, lines_of_writer, spelled_plan}
use Rattle.spec_plan_texts.specs.PlanNames.{unplaced_name, names_of_lists, names_of_listeners}
use Rattle.gl_text.specs.Texts.{names_of_decls, listener_names, name_at, rows_text, list_text, listener_text, section_text, writer_text, prefix_text}

-- a name by the declaration of its list or listener
pub list_at : (ds : List ListDecl) (k : ℕ)
    → name_at (names_of_decls ds) k ≡ unwrap_or (option_map (λ (d : ListDecl). d.name) (slice_get ds k)) []
list_at ds k = ap (λ o. unwrap_or o []) (slice_get-map (λ (d : ListDecl). d.name) ds k)

pub listener_at : (ds : List ListenerDecl) (k : ℕ)
    → name_at (listener_names ds) k ≡ unwrap_or (option_map (λ (d : ListenerDecl). d.name) (slice_get ds k)) []
listener_at ds k = ap (λ o. unwrap_or o []) (slice_get-map (λ (d : ListenerDecl). d.name) ds k)

-- the text of what each item gives
parts : {X : Type 0} (lines : X → List Line) (text : X → List ℕ) → ((x : X) → flat_map ended (lines x) ≡ text x)
    → (xs : List X)
    → flat_map ended (flat_map lines xs) ≡ flat_map text xs
parts lines text are [] = refl
parts lines text are (x ∷ xs) =
    flat_map-append ended (lines x) (flat_map lines xs) ∙ ap (λ t. t ++ flat_map ended (flat_map lines xs)) (are x)
    ∙ ap (λ t. text x ++ t) (parts lines text are xs)

rows_are : (name : List ℕ) (kind : ListKind) → flat_map ended (row_lines (unplaced_name name) kind) ≡ rows_text name
    kind
rows_are name (kinds.Source rows) = flat_map-map ended (line.Row (unplaced_name name)) rows
rows_are name other = refl

list_is : (names : List (List ℕ)) (d : ListDecl) → flat_map ended (lines_of_list names d) ≡ list_text names d
list_is names d = ap (λ t. ended (list_line names (unplaced_name d.name) d.kind) ++ t) (rows_are d.name d.kind)

section_is : (names : List (List ℕ)) (commands : List Command)
    → flat_map ended (lines_of_section names commands) ≡ section_text names commands
section_is names commands = ap (λ x. codes "section\n" ++ x) (flat_map-map ended (command_line names) commands)

writer_is : (names : List (List ℕ)) (sections : List (List Command))
    → flat_map ended (lines_of_writer names sections) ≡ writer_text names sections
writer_is names sections =
    ap (λ x. codes "writer\n" ++ x) (parts (lines_of_section names) (section_text names) (section_is names) sections)

-- the text of a plan: what stands ahead of its writers, and these
pub plan_parts : (p : Plan) → spelled_plan p ≡ prefix_text p.limit p.lists p.listeners ++ flat_map
    (writer_text (names_of_lists p)) p.writers
plan_parts p =
    let lists = flat_map (lines_of_list (names_of_lists p)) p.lists in
    let listeners = map (listener_line (names_of_lists p) (names_of_listeners p)) p.listeners in
    let writers = flat_map (lines_of_writer (names_of_lists p)) p.writers in
    let first = codes "glaze 1\n" ++ ended (line.Limit p.limit) in
    let a = flat_map (list_text (names_of_lists p)) p.lists in
    let b = flat_map (listener_text (names_of_lists p) (names_of_listeners p)) p.listeners in
    let c = flat_map (writer_text (names_of_lists p)) p.writers in
    let whole : flat_map ended ((lists ++ listeners) ++ writers) ≡ (a ++ b) ++ c =
    flat_map-append ended (lists ++ listeners) writers
    ∙ ap (λ x. x ++ flat_map ended writers) (flat_map-append ended lists listeners)
    ∙ ap (λ x. (x ++ flat_map ended listeners) ++ flat_map ended writers)
    (parts (lines_of_list (names_of_lists p)) (list_text (names_of_lists p)) (list_is (names_of_lists p)) p.lists)
    ∙ ap (λ x. (a ++ x) ++ flat_map ended writers)
    (flat_map-map ended (listener_line (names_of_lists p) (names_of_listeners p)) p.listeners)
    ∙ ap (λ x. (a ++ b) ++ x)
    (parts (lines_of_writer (names_of_lists p)) (writer_text (names_of_lists p)) (writer_is (names_of_lists p))
    p.writers) in
    ap (λ x. first ++ x) whole
    ∙ sym (append_assoc first (a ++ b) c)
    ∙ ap (λ x. x ++ c) (sym (append_assoc first a b))

-- what is left of items, from the next one on
next_left : {X : Type 0} (f : X → List ℕ) (xs : List X) (i : ℕ) (d : X) → i < length xs
    → flat_map f (drop i xs) ≡ f (unwrap_or (slice_get xs i) d) ++ flat_map f (drop (suc i) xs)
next_left f [] i d l = absurd (omega (arith, l))
next_left f (x ∷ xs) zero d l = refl
next_left f (x ∷ xs) (suc i) d l = next_left f xs i d (omega (arith, l))

-- one item more is written
pub one_more : {X : Type 0} (f : X → List ℕ) (xs : List X) (i : ℕ) (d : X) (out new whole : List ℕ) → i < length xs
    → new ≡ out ++ f (unwrap_or (slice_get xs i) d) → out ++ flat_map f (drop i xs) ≡ whole
    → new ++ flat_map f (drop (i + 1) xs) ≡ whole
one_more f xs i d out new whole l written left =
    let next : i + 1 ≡ suc i = omega arith in
    ap (λ k. new ++ flat_map f (drop k xs)) next
    ∙ ap (λ x. x ++ flat_map f (drop (suc i) xs)) written
    ∙ append_assoc out (f (unwrap_or (slice_get xs i) d)) (flat_map f (drop (suc i) xs))
    ∙ ap (λ x. out ++ x) (sym (next_left f xs i d l))
    ∙ left

-- where all but the writers is written, they are what is left
pub all_written : (p : Plan) (start out : List ℕ) → out ≡ start ++ prefix_text p.limit p.lists p.listeners
    → out ++ flat_map (writer_text (names_of_lists p)) p.writers ≡ start ++ spelled_plan p
all_written p start out e =
    ap (λ x. x ++ flat_map (writer_text (names_of_lists p)) p.writers) e
    ∙ append_assoc start (prefix_text p.limit p.lists p.listeners) (flat_map (writer_text (names_of_lists p)) p.writers)
    ∙ ap (λ x. start ++ x) (sym (plan_parts p))
