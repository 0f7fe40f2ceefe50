-- The lines of a well formed plan of lines within the limits are within the limits.
use Rattle.std.proofs.Common.{◌≡◌, ◌<◌, ℕ, zero, suc, List, [], ◌∷◌, map, length, refl, sym, subst, arith}
use Rattle.std.specs.Prelude.{flat_map}
use Rattle.std.specs.List.{AllByRecursion}
use Rattle.std.proofs.lemmas.List.Elements.{recursion_from_All}
use Rattle.std.proofs.lemmas.List.{length-map}
use Rattle.gl_lines.specs.declared.line.Line.TheVariants as line
use Rattle.gl_lines.specs.declared.plan.ListDecl.{ListDecl}
use Rattle.gl_lines.specs.declared.plan.ListKind.{ListKind}
use Rattle.gl_lines.specs.declared.plan.ListKind.TheVariants as kinds
use Rattle.gl_lines.specs.declared.plan.ListenerDecl.{ListenerDecl}
use Rattle.gl_lines.specs.declared.plan.Command.{Command}
use Rattle.gl_lines.specs.declared.plan.Command.TheVariants as commands
use Rattle.spec_lines.specs.Within.{IsNamed, IsLiteral, IsWithin}
use Rattle.spec_plans.specs.NameFaults.{input_need}
use Rattle.spec_plans.specs.Plan.{Plan, inputs_of, origin}
use Rattle.spec_plan_texts.specs.Canonical.{list_line, row_lines, listener_line, command_line, lines_of_plan}
use Rattle.spec_plans.specs.PlanNames.{unplaced_name, named, names_of_lists, names_of_listeners}
use Rattle.spec_plans.specs.WellFormed.{IsWellFormed, HasList, HasInputs, HasHeard, IsAttachable, class_of_kind, needed_class, all_commands}
use Rattle.spec_plans.proofs.SoundProxies.{have_list, within_plan}
use Rattle.spec_plan_texts.proofs.Good.{IsName, IsGoodKind, IsGoodCommand, IsGoodDecl, IsGood}
use Rattle.spec_plan_texts.proofs.Parts.{OfList, all_flat, all_lines}
use Rattle.spec_basics.proofs.Lists.{all_weaker, all_map, all_both, all_left, all_right}

-- the names of numbers within are names
name_there : (names : List (List ℕ)) → AllByRecursion IsName names → (k : ℕ) → k < length names
    → IsNamed (named names k)
name_there [] h k l = absurd (omega (arith, l))
name_there (x ∷ xs) h zero l = h.0
name_there (x ∷ xs) h (suc k) l = name_there xs h.1 k (omega (arith, l))

module _ (names : List (List ℕ)) (n : ℕ) (there : (k : ℕ) → k < n → IsNamed (named names k)) where
  all_there : (ks : List ℕ) → AllByRecursion (λ k. k < n) ks → AllByRecursion IsNamed (map (named names) ks)
  all_there ks h = all_map IsNamed (named names) ks (all_weaker (λ k. k < n) (λ k. IsNamed (named names k)) there ks h)

  list_within : (name : List ℕ) (kind : ListKind) → IsName name → IsGoodKind kind
      → AllByRecursion (λ k. k < n) (inputs_of kind) → IsWithin (list_line names (unplaced_name name) kind)
  list_within name (kinds.Source rows) h g l = h
  list_within name (kinds.Filter input matcher) h g l = (h, there input l.0, g)
  list_within name (kinds.Sorted input order) h g l = (h, there input l.0, g)
  list_within name (kinds.Unique input order) h g l = (h, there input l.0, g)
  list_within name (kinds.Grouping input order) h g l = (h, there input l.0, g)
  list_within name (kinds.Range input bounds) h g l = (h, there input l.0, g)
  list_within name (kinds.Function input func) h g l = (h, there input l.0, g)
  list_within name (kinds.Collection input kids) h g l = (h, there input l.0, g)
  list_within name (kinds.Composite members may) h g l = (
    h,
    all_there members (all_left (λ k. k < n) members may l),
    all_there may (all_right (λ k. k < n) members may l),
  )
  list_within name (kinds.Transaction input) h g l = (h, there input l.0)
  list_within name (kinds.Freezable input) h g l = (h, there input l.0)
  list_within name (kinds.Proxy input) h g l = (h, there input l.0)

  command_within : (c : Command) → IsGoodCommand c → origin c < n
      → ((list member : ℕ) → c ≡ commands.Attach list member → member < n) → IsWithin (command_line names c)
  command_within (commands.Add list value) g l a = (there list l, g)
  command_within (commands.AddAll list values) g l a = (there list l, g)
  command_within (commands.Insert list index value) g l a = (there list l, g.0, g.1)
  command_within (commands.Set list index value) g l a = (there list l, g.0, g.1)
  command_within (commands.Remove list index) g l a = (there list l, g)
  command_within (commands.Clear list) g l a = there list l
  command_within (commands.Match list matcher) g l a = (there list l, g)
  command_within (commands.Order list order) g l a = (there list l, g)
  command_within (commands.Bounds list bounds) g l a = (there list l, g)
  command_within (commands.Apply list func) g l a = (there list l, g)
  command_within (commands.Attach list member) g l a = (there list l, there member (a list member refl))
  command_within (commands.Detach list index) g l a = (there list l, g)
  command_within (commands.Begin list) g l a = there list l
  command_within (commands.Commit list) g l a = there list l
  command_within (commands.Rollback list) g l a = there list l
  command_within (commands.Freeze list) g l a = there list l
  command_within (commands.Thaw list) g l a = there list l
  command_within (commands.Show list) g l a = there list l

rows_within : (name : List ℕ) (kind : ListKind) → IsName name → IsGoodKind kind
    → AllByRecursion IsWithin (row_lines (unplaced_name name) kind)
rows_within name (kinds.Source rows) h g = all_map IsWithin (line.Row (unplaced_name name)) rows
    (all_weaker IsLiteral (λ v. IsWithin (line.Row (unplaced_name name) v)) (λ v k. (h, k)) rows g)
rows_within name other h g = tt

module _ (p : Plan) (h : IsWellFormed p) (g : IsGood p) where
  list_names_good : AllByRecursion IsName (names_of_lists p)
  list_names_good = all_map IsName (λ (d : ListDecl). d.name) p.lists
      (all_weaker IsGoodDecl (λ (d : ListDecl). IsName d.name) (λ d k. k.0) p.lists g.lists)

  list_there : (k : ℕ) → k < length p.lists → IsNamed (named (names_of_lists p) k)
  list_there k l = name_there (names_of_lists p) list_names_good k
      (subst (λ m. k < m) (sym (length-map p.lists (λ (d : ListDecl). d.name))) l)

  listener_there : (k : ℕ) → k < length p.listeners → IsNamed (named (names_of_listeners p) k)
  listener_there k l =
      name_there (names_of_listeners p) (all_map IsName (λ (d : ListenerDecl). d.name) p.listeners g.listeners) k
      (subst (λ m. k < m) (sym (length-map p.listeners (λ (d : ListenerDecl). d.name))) l)

  inputs_there : (kind : ListKind) → HasInputs p kind → AllByRecursion (λ k. k < length p.lists) (inputs_of kind)
  inputs_there kind has = all_weaker (HasList p (input_need (class_of_kind kind))) (λ k. k < length p.lists)
      (have_list p (input_need (class_of_kind kind))) (inputs_of kind)
      (recursion_from_All (HasList p (input_need (class_of_kind kind))) (inputs_of kind) has)

  lists_fine : AllByRecursion (OfList IsWithin (names_of_lists p)) p.lists
  lists_fine = all_both IsGoodDecl (λ (d : ListDecl). HasInputs p d.kind) (OfList IsWithin (names_of_lists p))
      (λ d k has. (
        list_within (names_of_lists p) (length p.lists) list_there d.name d.kind k.0 k.1
            (inputs_there d.kind has),
        rows_within d.name d.kind k.0 k.1,
      ))
      p.lists g.lists (recursion_from_All (λ (d : ListDecl). HasInputs p d.kind) p.lists h.inputs)

  listeners_fine : AllByRecursion (λ d. IsWithin (listener_line (names_of_lists p) (names_of_listeners p) d))
      p.listeners
  listeners_fine = all_both (λ (d : ListenerDecl). IsName d.name) (HasHeard p)
      (λ d. IsWithin (listener_line (names_of_lists p) (names_of_listeners p) d))
      (λ d k heard. (
        k,
        list_there d.list heard.list,
        all_there (names_of_listeners p) (length p.listeners)
            listener_there d.after (recursion_from_All (λ i. i < length p.listeners) d.after heard.after),
      ))
      p.listeners g.listeners (recursion_from_All (HasHeard p) p.listeners h.heard)

  abbrev IsPlacedCommand : Command → Type 0
  IsPlacedCommand c = HasList p (needed_class c) (origin c) × IsAttachable p c

  attached_there : (c : Command) → IsAttachable p c → (list member : ℕ) → c ≡ commands.Attach list member
      → member < length p.lists
  attached_there c a list member e = within_plan p h.inputs list member (subst (IsAttachable p) e a)

  commands_fine : AllByRecursion (λ c. IsWithin (command_line (names_of_lists p) c)) (all_commands p)
  commands_fine =
      let good : AllByRecursion IsGoodCommand (all_commands p) =
      all_flat IsGoodCommand (λ ss. flat_map (λ s. s) ss) p.writers
      (all_weaker (AllByRecursion (AllByRecursion IsGoodCommand))
      (λ ss. AllByRecursion IsGoodCommand (flat_map (λ s. s) ss)) (λ ss k. all_flat IsGoodCommand (λ s. s) ss k)
      p.writers g.commands) in
      let placed : AllByRecursion IsPlacedCommand (all_commands p) =
      all_both (λ c. HasList p (needed_class c) (origin c)) (IsAttachable p) IsPlacedCommand (λ c a b. (a, b))
      (all_commands p)
      (recursion_from_All (λ c. HasList p (needed_class c) (origin c)) (all_commands p) h.commanded)
      (recursion_from_All (IsAttachable p) (all_commands p) h.attached) in
      all_both IsGoodCommand IsPlacedCommand (λ c. IsWithin (command_line (names_of_lists p) c))
      (λ c k at. command_within (names_of_lists p) (length p.lists) list_there c k
      (have_list p (needed_class c) (origin c) at.0) (attached_there c at.1)) (all_commands p) good placed

  pub lines_within : AllByRecursion IsWithin (lines_of_plan p)
  lines_within = all_lines IsWithin p g.limit lists_fine listeners_fine tt tt commands_fine
