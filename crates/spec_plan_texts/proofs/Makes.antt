-- The lines of a well formed plan make it again.
use Rattle.std.proofs.Common.{◌≡◌, ◌∙◌, ℕ, suc, ◌<◌, List, [], ◌∷◌, ◌++◌, length, map, fold, Some, refl, sym, ap, subst, append-nil, append_assoc}
use Rattle.std.specs.Prelude.{option_map, flat_map, slice_get, unwrap_or}
use Rattle.std.specs.List.{AllByRecursion}
use Rattle.std.proofs.lemmas.List.{length-map}
use Rattle.std.proofs.lemmas.List.Elements.{recursion_from_All}
use Rattle.std.proofs.lemmas.Option.{slice_get-map}
use Rattle.spec_plans.specs.Tree.{Tree}
use Rattle.gl_lines.specs.declared.line.Line.{Line}
use Rattle.gl_lines.specs.declared.line.NumberedLine.{NumberedLine}
use Rattle.gl_lines.specs.declared.plan.ListDecl.{ListDecl}
use Rattle.gl_lines.specs.declared.plan.ListKind.{ListKind}
use Rattle.gl_lines.specs.declared.plan.ListKind.TheVariants as kinds
use Rattle.gl_lines.specs.declared.plan.ListenerDecl.{ListenerDecl}
use Rattle.gl_lines.specs.declared.plan.Command.{Command}
use Rattle.gl_lines.specs.declared.plan.Command.TheVariants as commands
use Rattle.spec_plans.specs.declared.part.Part.TheVariants as parts
use Rattle.spec_plans.specs.Names.{listener_names, number_of}
use Rattle.spec_plans.specs.Numbered.{numbered}
use Rattle.spec_plans.specs.NameFaults.{input_need}
use Rattle.spec_plans.specs.Plan.{Plan, inputs_of, origin}
use Rattle.spec_plans.specs.Making.{number, numbers, rows_for, part_of, with_part, empty_plan, plan_of}
use Rattle.spec_plan_texts.specs.Canonical.{list_line, lines_of_list, listener_line, command_line, lines_of_writer, lines_of_plan}
use Rattle.spec_plans.specs.PlanNames.{unplaced_name, named, names_of_lists, names_of_listeners}
use Rattle.spec_plans.specs.WellFormed.{class_of_kind, needed_class, all_commands, HasList, HasInputs, HasHeard, IsAttachable, IsWellFormed}
use Rattle.spec_plans.proofs.Numbers.{all_at, number_at, number_named}
use Rattle.spec_plans.proofs.SoundProxies.{have_list, within_plan}
use Rattle.spec_plan_texts.proofs.Written.{rows_of_kind, names_written, listener_names_written, rows_written}
use Rattle.spec_plan_texts.proofs.Folded.{adds, then, lists_add, listeners_add, writers_add}
use Rattle.spec_basics.proofs.Lists.{all_weaker, all_both, all_left, all_right, all_by_index}
use Rattle.spec_plans.proofs.Sections.{in_sections}

map_numbered : {Y : Type 0} (f : Line → Y) (n : ℕ) (ls : List Line) → map (λ l. f l.what) (numbered n ls) ≡ map f ls
map_numbered f n [] = refl
map_numbered f n (l ∷ ls) = ap (λ ys. f l ∷ ys) (map_numbered f (suc n) ls)

module _ (p : Plan) (h : IsWellFormed p) where
  abbrev names : List (List ℕ)
  names = names_of_lists p

  abbrev listeners : List (List ℕ)
  listeners = names_of_listeners p

  pub is_list_number : (k : ℕ) → k < length p.lists → number names (named names k) ≡ k
  is_list_number k l =
      ap (λ o. unwrap_or o 0) (number_named names k h.list_names
      (subst (λ n. k < n) (sym (length-map p.lists (λ (d : ListDecl). d.name))) l))

  is_listener_number : (k : ℕ) → k < length p.listeners → number listeners (named listeners k) ≡ k
  is_listener_number k l =
      ap (λ o. unwrap_or o 0) (number_named listeners k h.listener_names
      (subst (λ n. k < n) (sym (length-map p.listeners (λ (d : ListenerDecl). d.name))) l))

  are_list_numbers : (ks : List ℕ) → AllByRecursion (λ k. k < length p.lists) ks
      → numbers names (map (named names) ks) ≡ ks
  are_list_numbers [] l = refl
  are_list_numbers (k ∷ ks) l = ap (λ i. i ∷ numbers names (map (named names) ks)) (is_list_number k l.0)
      ∙ ap (λ is. k ∷ is) (are_list_numbers ks l.1)

  are_listener_numbers : (ks : List ℕ) → AllByRecursion (λ k. k < length p.listeners) ks
      → numbers listeners (map (named listeners) ks) ≡ ks
  are_listener_numbers [] l = refl
  are_listener_numbers (k ∷ ks) l = ap (λ i. i ∷ numbers listeners (map (named listeners) ks))
      (is_listener_number k l.0) ∙ ap (λ is. k ∷ is) (are_listener_numbers ks l.1)

  split_left : (xs ys : List ℕ) → AllByRecursion (λ k. k < length p.lists) (xs ++ ys)
      → AllByRecursion (λ k. k < length p.lists) xs
  split_left xs ys l = all_left (λ k. k < length p.lists) xs ys l

  split_right : (xs ys : List ℕ) → AllByRecursion (λ k. k < length p.lists) (xs ++ ys)
      → AllByRecursion (λ k. k < length p.lists) ys
  split_right xs ys l = all_right (λ k. k < length p.lists) xs ys l

  module _ (rows : ℕ → List Tree) (sources : (k : ℕ) (d : ListDecl) → slice_get p.lists k ≡ Some d
      → rows k ≡ rows_of_kind d.kind) where
    -- the line of a list adds the list
    list_added : (k : ℕ) (name : List ℕ) (kind : ListKind)
        → slice_get p.lists k ≡ Some (record { name = name; kind = kind })
        → AllByRecursion (λ i. i < length p.lists) (inputs_of kind)
        → part_of names listeners rows (list_line names (unplaced_name name) kind)
        ≡ parts.List (record { name = name; kind = kind })
    list_added k name (kinds.Source values) e l =
        let at : number_of names name ≡ Some k =
        number_at names k name h.list_names (slice_get-map (λ (d : ListDecl). d.name) p.lists k
        ∙ ap (λ o. option_map (λ (d : ListDecl). d.name) o) e) in
        ap (λ o. parts.List (record { name = name; kind = kinds.Source (rows (unwrap_or o 0)) })) at
        ∙ ap (λ vs. parts.List (record { name = name; kind = kinds.Source vs }))
        (sources k (record { name = name; kind = kinds.Source values }) e)
    list_added k name (kinds.Filter input matcher) e l =
        ap (λ i. parts.List (record { name = name; kind = kinds.Filter i matcher })) (is_list_number input l.0)
    list_added k name (kinds.Sorted input order) e l = ap
        (λ i. parts.List (record { name = name; kind = kinds.Sorted i order })) (is_list_number input l.0)
    list_added k name (kinds.Unique input order) e l = ap
        (λ i. parts.List (record { name = name; kind = kinds.Unique i order })) (is_list_number input l.0)
    list_added k name (kinds.Grouping input order) e l =
        ap (λ i. parts.List (record { name = name; kind = kinds.Grouping i order })) (is_list_number input l.0)
    list_added k name (kinds.Range input bounds) e l = ap
        (λ i. parts.List (record { name = name; kind = kinds.Range i bounds })) (is_list_number input l.0)
    list_added k name (kinds.Function input func) e l = ap
        (λ i. parts.List (record { name = name; kind = kinds.Function i func })) (is_list_number input l.0)
    list_added k name (kinds.Collection input kids) e l =
        ap (λ i. parts.List (record { name = name; kind = kinds.Collection i kids })) (is_list_number input l.0)
    list_added k name (kinds.Composite members may) e l =
        ap (λ ms. parts.List (record {
          name = name;
          kind =
              kinds.Composite ms (numbers names (map (named names) may));
        }))
        (are_list_numbers members (split_left members may l))
        ∙ ap (λ ms. parts.List (record { name = name; kind = kinds.Composite members ms }))
        (are_list_numbers may (split_right members may l))
    list_added k name (kinds.Transaction input) e l = ap
        (λ i. parts.List (record { name = name; kind = kinds.Transaction i })) (is_list_number input l.0)
    list_added k name (kinds.Freezable input) e l = ap (λ i. parts.List (record {
      name = name;
      kind =
          kinds.Freezable i;
    })) (is_list_number input l.0)
    list_added k name (kinds.Proxy input) e l = ap (λ i. parts.List (record { name = name; kind = kinds.Proxy i }))
        (is_list_number input l.0)

    -- the line of a listener adds the listener
    listener_added : (d : ListenerDecl) → HasHeard p d → part_of names listeners rows
        (listener_line names listeners d) ≡ parts.Listener d
    listener_added d k =
        ap (λ i. parts.Listener (record {
          name = d.name;
          list = i;
          after =
              numbers listeners (map (named listeners) d.after);
          echo = d.echo;
        })) (is_list_number d.list k.list)
        ∙ ap (λ is. parts.Listener (record { name = d.name; list = d.list; after = is; echo = d.echo }))
        (are_listener_numbers d.after (recursion_from_All (λ i. i < length p.listeners) d.after k.after))

    -- the line of a command adds the command
    command_added : (c : Command) → origin c < length p.lists → IsAttachable p c
        → part_of names listeners rows (command_line names c) ≡ parts.Command c
    command_added (commands.Add list value) l a = ap (λ i. parts.Command (commands.Add i value))
        (is_list_number list l)
    command_added (commands.AddAll list values) l a = ap (λ i. parts.Command (commands.AddAll i values))
        (is_list_number list l)
    command_added (commands.Insert list index value) l a =
        ap (λ i. parts.Command (commands.Insert i index value)) (is_list_number list l)
    command_added (commands.Set list index value) l a = ap (λ i. parts.Command (commands.Set i index value))
        (is_list_number list l)
    command_added (commands.Remove list index) l a = ap (λ i. parts.Command (commands.Remove i index))
        (is_list_number list l)
    command_added (commands.Clear list) l a = ap (λ i. parts.Command (commands.Clear i)) (is_list_number list l)
    command_added (commands.Match list matcher) l a = ap (λ i. parts.Command (commands.Match i matcher))
        (is_list_number list l)
    command_added (commands.Order list order) l a = ap (λ i. parts.Command (commands.Order i order))
        (is_list_number list l)
    command_added (commands.Bounds list bounds) l a = ap (λ i. parts.Command (commands.Bounds i bounds))
        (is_list_number list l)
    command_added (commands.Apply list func) l a = ap (λ i. parts.Command (commands.Apply i func))
        (is_list_number list l)
    command_added (commands.Attach list member) l a =
        ap (λ i. parts.Command (commands.Attach i (number names (named names member)))) (is_list_number list l)
        ∙ ap (λ i. parts.Command (commands.Attach list i))
        (is_list_number member (within_plan p h.inputs list member a))
    command_added (commands.Detach list index) l a = ap (λ i. parts.Command (commands.Detach i index))
        (is_list_number list l)
    command_added (commands.Begin list) l a = ap (λ i. parts.Command (commands.Begin i)) (is_list_number list l)
    command_added (commands.Commit list) l a = ap (λ i. parts.Command (commands.Commit i)) (is_list_number list l)
    command_added (commands.Rollback list) l a = ap (λ i. parts.Command (commands.Rollback i)) (is_list_number list l)
    command_added (commands.Freeze list) l a = ap (λ i. parts.Command (commands.Freeze i)) (is_list_number list l)
    command_added (commands.Thaw list) l a = ap (λ i. parts.Command (commands.Thaw i)) (is_list_number list l)
    command_added (commands.Show list) l a = ap (λ i. parts.Command (commands.Show i)) (is_list_number list l)

    lists_said : AllByRecursion (λ d. part_of names listeners rows (list_line names (unplaced_name d.name) d.kind)
        ≡ parts.List d) p.lists
    lists_said = all_by_index (λ d. part_of names listeners rows (list_line names (unplaced_name d.name) d.kind)
        ≡ parts.List d) p.lists each
      where
        each : (k : ℕ) (d : ListDecl) → slice_get p.lists k ≡ Some d
            → part_of names listeners rows (list_line names (unplaced_name d.name) d.kind) ≡ parts.List d
        each k d e =
            let inputs : HasInputs p d.kind = all_at (λ (m : ListDecl). HasInputs p m.kind) p.lists k d
            (recursion_from_All (λ (m : ListDecl). HasInputs p m.kind) p.lists h.inputs) e in
            list_added k d.name d.kind e
            (all_weaker (HasList p (input_need (class_of_kind d.kind))) (λ i. i < length p.lists)
            (have_list p (input_need (class_of_kind d.kind))) (inputs_of d.kind)
            (recursion_from_All (HasList p (input_need (class_of_kind d.kind))) (inputs_of d.kind) inputs))

    commands_said : AllByRecursion (AllByRecursion (AllByRecursion
        (λ c. part_of names listeners rows (command_line names c) ≡ parts.Command c))) p.writers
    commands_said =
        in_sections (λ c. part_of names listeners rows (command_line names c) ≡ parts.Command c) p
        (all_both (λ c. HasList p (needed_class c) (origin c)) (IsAttachable p)
        (λ c. part_of names listeners rows (command_line names c) ≡ parts.Command c)
        (λ c k a. command_added c (have_list p (needed_class c) (origin c) k) a) (all_commands p)
        (recursion_from_All (λ c. HasList p (needed_class c) (origin c)) (all_commands p) h.commanded)
        (recursion_from_All (IsAttachable p) (all_commands p) h.attached))

    -- the lines of the plan, one after another
    made_again : then names listeners rows empty_plan (lines_of_plan p) ≡ p
    made_again =
        let limited : Plan = record { limit = p.limit; lists = []; listeners = []; writers = [] } in
        let declared : List Line = flat_map (lines_of_list names) p.lists in
        let heard : List Line = map (listener_line names listeners) p.listeners in
        let written : List Line = flat_map (lines_of_writer names) p.writers in
        ap (then names listeners rows limited) (append_assoc declared heard written)
        ∙ lists_add names listeners rows limited p.lists (heard ++ written) lists_said
        ∙ listeners_add names listeners rows (record limited { lists = p.lists }) p.listeners written
        (all_weaker (HasHeard p) (λ d. part_of names listeners rows (listener_line names listeners d)
        ≡ parts.Listener d) listener_added p.listeners (recursion_from_All (HasHeard p) p.listeners h.heard))
        ∙ ap (then names listeners rows (record limited { lists = p.lists; listeners = p.listeners }))
        (sym (append-nil written))
        ∙ writers_add names listeners rows (record limited {
          lists = p.lists;
          listeners =
              p.listeners;
        }) p.writers [] commands_said

  -- the lines of a plan by the names that they declare
  by_names : (n : ℕ) → plan_of (numbered n (lines_of_plan p))
      ≡ then names listeners (rows_for names (numbered n (lines_of_plan p))) empty_plan (lines_of_plan p)
  by_names n =
      let lines : List NumberedLine = numbered n (lines_of_plan p) in
      ap (λ ns. fold with_part empty_plan (map (λ (l : NumberedLine). part_of ns (listener_names lines)
      (rows_for ns lines) l.what) lines)) (names_written p n)
      ∙ ap (λ ns. fold with_part empty_plan (map (λ (l : NumberedLine). part_of names ns
      (rows_for names lines) l.what) lines)) (listener_names_written p n)
      ∙ ap (fold with_part empty_plan) (map_numbered (adds names listeners (rows_for names lines)) n
      (lines_of_plan p))

  pub canonical_makes_from : (n : ℕ) → plan_of (numbered n (lines_of_plan p)) ≡ p
  canonical_makes_from n = by_names n ∙ made_again (rows_for names (numbered n (lines_of_plan p)))
      (rows_written p h.list_names n)

-- the lines of a well formed plan make it again
pub canonical_makes : (p : Plan) → IsWellFormed p → plan_of (numbered 2 (lines_of_plan p)) ≡ p
canonical_makes p h = canonical_makes_from p h 2
