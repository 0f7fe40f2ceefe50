-- What the plan of lines has, by the heads of its lines.
use Rattle.std.proofs.Common.{◌≡◌, ◌∙◌, ℕ, List, [], ◌∷◌, ◌++◌, length, map, fold, Option, Some, None, refl, sym, ap, append-nil, append_assoc}
use Rattle.std.specs.Prelude.{option_map, option_to_list, filter_map, slice_get, unwrap_or}
use Rattle.std.specs.List.{cons_option}
use Rattle.std.proofs.lemmas.List.{length-map, map-append}
use Rattle.std.proofs.lemmas.Option.{slice_get-map}
use Rattle.spec_value.specs.Tree.{Tree}
use Rattle.gl_lines.specs.declared.line.Line.{Line}
use Rattle.gl_lines.specs.declared.line.Line.TheVariants.{Composite, Writer}
use Rattle.gl_lines.specs.declared.line.NumberedLine.{NumberedLine}
use Rattle.gl_lines.specs.declared.plan.ListDecl.{ListDecl}
use Rattle.gl_lines.specs.declared.plan.ListenerDecl.{ListenerDecl}
use Rattle.gl_lines.specs.declared.plan.Command.{Command}
use Rattle.spec_plans.specs.declared.class.ListClass.{ListClass}
use Rattle.spec_plans.specs.declared.class.ListClass.TheVariants.{Composed}
use Rattle.spec_plans.specs.declared.part.Part.{Part}
use Rattle.spec_plans.specs.declared.part.Part.TheVariants as parts
use Rattle.spec_plans.specs.Lines.{Head, Hearer, head_of, hearer_of}
use Rattle.spec_plans.specs.Names.{heads, hearers, list_names, listener_names, number_of}
use Rattle.spec_plans.specs.NameFaults.{undone_inputs}
use Rattle.spec_plans.specs.Plan.{Plan, inputs_of}
use Rattle.spec_plans.specs.Making.{number, numbers, rows_for, part_of, parts_of, with_part, empty_plan, plan_of}
use Rattle.spec_plans.specs.PlanNames.{names_of_lists, names_of_listeners}
use Rattle.spec_plans.specs.WellFormed.{class_of_kind, class_at, inputs_at, undone_input}

-- the list, the listener or the command that a part is
abbrev pub list_part : Part → Option ListDecl
list_part (parts.List d) = Some d
list_part other = None

abbrev pub listener_part : Part → Option ListenerDecl
listener_part (parts.Listener d) = Some d
listener_part other = None

abbrev pub command_part : Part → Option Command
command_part (parts.Command c) = Some c
command_part other = None

pub given_first : {X : Type 0} (o : Option X) (xs : List X) → option_to_list o ++ xs ≡ cons_option o xs
given_first None xs = refl
given_first (Some x) xs = refl

-- what the parts add one after another
pub added : {X : Type 0} (get : Plan → List X) (given : Part → Option X)
    → ((p : Plan) (part : Part) → get (with_part p part) ≡ get p ++ option_to_list (given part))
    → (p : Plan) (ps : List Part) → get (fold with_part p ps) ≡ get p ++ filter_map given ps
added get given step p [] = sym (append-nil (get p))
added get given step p (x ∷ xs) =
    added get given step (with_part p x) xs
    ∙ ap (λ ds. ds ++ filter_map given xs) (step p x)
    ∙ append_assoc (get p) (option_to_list (given x)) (filter_map given xs)
    ∙ ap (λ ds. get p ++ ds) (given_first (given x) (filter_map given xs))

list_added : (p : Plan) (part : Part) → (with_part p part).lists ≡ p.lists ++ option_to_list (list_part part)
list_added p (parts.List d) = refl
list_added p other = sym (append-nil p.lists)

listener_added : (p : Plan) (part : Part) → (with_part p part).listeners
    ≡ p.listeners ++ option_to_list (listener_part part)
listener_added p (parts.Listener d) = refl
listener_added p other = sym (append-nil p.listeners)

pub filter_map-map : {X Y Z : Type 0} (g : Y → Option Z) (f : X → Y) (xs : List X)
    → filter_map g (map f xs) ≡ filter_map (λ x. g (f x)) xs
filter_map-map g f [] = refl
filter_map-map g f (x ∷ xs) = ap (cons_option (g (f x))) (filter_map-map g f xs)

pub map_first : {X Y : Type 0} (u : X → Y) (o : Option X) (xs : List X)
    → map u (cons_option o xs) ≡ cons_option (option_map u o) (map u xs)
map_first u None xs = refl
map_first u (Some x) xs = refl

-- what is alike of the things that items give is alike of all
pub alike : {A X Z Y : Type 0} (f : A → Option X) (g : A → Option Z) (u : X → Y) (v : Z → Y)
    → ((a : A) → option_map u (f a) ≡ option_map v (g a))
    → (xs : List A) → map u (filter_map f xs) ≡ map v (filter_map g xs)
alike f g u v same [] = refl
alike f g u v same (x ∷ xs) =
    map_first u (f x) (filter_map f xs)
    ∙ ap (λ o. cons_option o (map u (filter_map f xs))) (same x)
    ∙ ap (cons_option (option_map v (g x))) (alike f g u v same xs)
    ∙ sym (map_first v (g x) (filter_map g xs))

-- the class of a list and what it depends on, and the same by its head
pub record Needs : Type 0 where
  pub class : ListClass
  pub inputs : List ℕ

abbrev pub list_needs : ListDecl → Needs
list_needs d = record { class = class_of_kind d.kind; inputs = inputs_of d.kind }

abbrev pub head_needs : List (List ℕ) → Head → Needs
head_needs names h = record { class = h.class; inputs = numbers names (h.inputs ++ h.may) }

-- the numbers of the inputs of a head that is a transaction's
abbrev pub undone_numbers : List (List ℕ) → Head → List ℕ
undone_numbers names h = map (λ name. unwrap_or (number_of names name) 0) (undone_inputs (h ∷ []))

module _ (lists listeners : List (List ℕ)) (rows : ℕ → List Tree) where
  name_made : (line : Line) → option_map (λ d. d.name) (list_part (part_of lists listeners rows line))
      ≡ option_map (λ h. h.name.name) (head_of line)
  name_made Writer = refl
  name_made other = refl

  class_made : (line : Line) → option_map (λ d. class_of_kind d.kind) (list_part (part_of lists listeners rows line))
      ≡ option_map (λ h. h.class) (head_of line)
  class_made Writer = refl
  class_made other = refl

  inputs_made : (line : Line) → option_map (λ d. inputs_of d.kind) (list_part (part_of lists listeners rows line))
      ≡ option_map (λ h. numbers lists (h.inputs ++ h.may)) (head_of line)
  inputs_made (Composite name members may) = ap Some (sym (map-append (number lists) members may))
  inputs_made other = refl

  needs_made : (line : Line) → option_map list_needs (list_part (part_of lists listeners rows line))
      ≡ option_map (head_needs lists) (head_of line)
  needs_made (Composite name members may) = ap (λ ns. Some (record { class = Composed; inputs = ns }))
      (sym (map-append (number lists) members may))
  needs_made other = refl

  undone_made : (line : Line) → option_map (λ d. option_to_list (undone_input d.kind))
      (list_part (part_of lists listeners rows line)) ≡ option_map (undone_numbers lists) (head_of line)
  undone_made Writer = refl
  undone_made other = refl

  hearer_made : (line : Line) → option_map (λ d. d.name) (listener_part (part_of lists listeners rows line))
      ≡ option_map (λ r. r.name.name) (hearer_of line)
  hearer_made Writer = refl
  hearer_made other = refl

module _ (lines : List NumberedLine) where
  -- what a line adds
  abbrev pub part : NumberedLine → Part
  part l = part_of (list_names lines) (listener_names lines) (rows_for (list_names lines) lines) l.what

  pub lists_made : (plan_of lines).lists ≡ filter_map (λ l. list_part (part l)) lines
  lists_made = added (λ p. p.lists) list_part list_added empty_plan (parts_of lines)
      ∙ filter_map-map list_part part lines

  pub listeners_made : (plan_of lines).listeners ≡ filter_map (λ l. listener_part (part l)) lines
  listeners_made = added (λ p. p.listeners) listener_part listener_added empty_plan (parts_of lines)
      ∙ filter_map-map listener_part part lines

  -- facts of lists that heads tell
  told : {Y : Type 0} (u : ListDecl → Y) (v : Head → Y)
      → ((line : Line) → option_map u (list_part (part_of (list_names lines) (listener_names lines)
      (rows_for (list_names lines) lines) line)) ≡ option_map v (head_of line))
      → map u (plan_of lines).lists ≡ map v (heads lines)
  told u v same = ap (map u) lists_made ∙ alike (λ l. list_part (part l)) (λ l. head_of l.what) u v
      (λ l. same l.what) lines

  pub names_are : names_of_lists (plan_of lines) ≡ list_names lines
  names_are = told (λ d. d.name) (λ h. h.name.name) (name_made (list_names lines) (listener_names lines)
      (rows_for (list_names lines) lines))

  pub classes_are : map (λ d. class_of_kind d.kind) (plan_of lines).lists ≡ map (λ h. h.class) (heads lines)
  classes_are = told (λ d. class_of_kind d.kind) (λ h. h.class)
      (class_made (list_names lines) (listener_names lines) (rows_for (list_names lines) lines))

  pub inputs_are : map (λ d. inputs_of d.kind) (plan_of lines).lists
      ≡ map (λ h. numbers (list_names lines) (h.inputs ++ h.may)) (heads lines)
  inputs_are = told (λ d. inputs_of d.kind) (λ h. numbers (list_names lines) (h.inputs ++ h.may))
      (inputs_made (list_names lines) (listener_names lines) (rows_for (list_names lines) lines))

  pub needs_are : map list_needs (plan_of lines).lists ≡ map (head_needs (list_names lines)) (heads lines)
  needs_are = told list_needs (head_needs (list_names lines))
      (needs_made (list_names lines) (listener_names lines) (rows_for (list_names lines) lines))

  pub undone_are : map (λ d. option_to_list (undone_input d.kind)) (plan_of lines).lists
      ≡ map (undone_numbers (list_names lines)) (heads lines)
  undone_are = told (λ d. option_to_list (undone_input d.kind)) (undone_numbers (list_names lines))
      (undone_made (list_names lines) (listener_names lines) (rows_for (list_names lines) lines))

  pub hearers_are : names_of_listeners (plan_of lines) ≡ listener_names lines
  hearers_are =
      ap (map (λ d. d.name)) listeners_made
      ∙ alike (λ l. listener_part (part l)) (λ l. hearer_of l.what) (λ d. d.name) (λ r. r.name.name)
      (λ l. hearer_made (list_names lines) (listener_names lines) (rows_for (list_names lines) lines) l.what) lines

  pub class_is : (k : ℕ) → class_at (plan_of lines) k ≡ option_map (λ h. h.class) (slice_get (heads lines) k)
  class_is k =
      sym (slice_get-map (λ (d : ListDecl). class_of_kind d.kind) (plan_of lines).lists k)
      ∙ ap (λ cs. slice_get cs k) classes_are
      ∙ slice_get-map (λ (h : Head). h.class) (heads lines) k

  pub inputs_is : (k : ℕ) → inputs_at (plan_of lines) k
      ≡ unwrap_or (option_map (λ h. numbers (list_names lines) (h.inputs ++ h.may)) (slice_get (heads lines) k)) []
  inputs_is k =
      ap (λ o. unwrap_or o [])
      (sym (slice_get-map (λ (d : ListDecl). inputs_of d.kind) (plan_of lines).lists k)
      ∙ ap (λ ns. slice_get ns k) inputs_are
      ∙ slice_get-map (λ (h : Head). numbers (list_names lines) (h.inputs ++ h.may)) (heads lines) k)

  pub as_many_lists : length (plan_of lines).lists ≡ length (heads lines)
  as_many_lists =
      sym (length-map (plan_of lines).lists (λ (d : ListDecl). d.name)) ∙ ap length names_are
      ∙ length-map (heads lines) (λ (h : Head). h.name.name)

  pub as_many_listeners : length (plan_of lines).listeners ≡ length (hearers lines)
  as_many_listeners =
      sym (length-map (plan_of lines).listeners (λ (d : ListenerDecl). d.name)) ∙ ap length hearers_are
      ∙ length-map (hearers lines) (λ (r : Hearer). r.name.name)
