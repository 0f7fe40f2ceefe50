-- Commands of the plan of sound lines.
use Rattle.std.proofs.Common.{◌≡◌, ℕ, Bool, true, false, List, [], ◌∷◌, ◌++◌, fold, Option, Some, None, refl, sym, subst}
use Rattle.std.specs.Prelude.{if◌then◌else◌, option_map, flat_map, All, Contains, IfSome}
use Rattle.std.specs.List.{AllByRecursion}
use Rattle.std.proofs.lemmas.Option.{same_Some, none-some}
use Rattle.std.proofs.lemmas.List.Elements.{All-from_recursion}
use Rattle.gl_lines.specs.declared.named.Named.{Named}
use Rattle.gl_lines.specs.declared.line.Line.{Line}
use Rattle.gl_lines.specs.declared.line.Line.TheVariants.{Writer, Attach}
use Rattle.gl_lines.specs.declared.line.NumberedLine.{NumberedLine}
use Rattle.gl_lines.specs.declared.plan.Command.{Command}
use Rattle.spec_plans.specs.declared.class.ListClass.{ListClass}
use Rattle.spec_plans.specs.declared.part.Part.{Part}
use Rattle.spec_plans.specs.declared.part.Part.TheVariants as parts
use Rattle.spec_plans.specs.Lines.{commanded_by}
use Rattle.spec_order.proofs.Members.{has-true}
use Rattle.spec_plans.specs.Names.{list_names, listener_names, needed, depends_on}
use Rattle.spec_plans.specs.declared.class.ListClass.TheVariants.{Composed}
use Rattle.gl_lines.specs.declared.fault.PlanKind.TheVariants.{Member}
use Rattle.spec_plans.specs.declared.fault.NameFault.{NameFault}
use Rattle.spec_plans.specs.NameFaults.{wrong, naming, name_fault, use_fault, member_fault, attach_fault, command_fault, first_misnamed}
use Rattle.spec_plans.specs.Plan.{Plan, origin}
use Rattle.spec_plans.specs.Making.{number, rows_for, part_of, parts_of, with_last, with_part, empty_plan, plan_of}
use Rattle.spec_plans.specs.WellFormed.{HasList, needed_class, all_commands, IsAttachable}
use Rattle.spec_plans.proofs.Said.{all_said}
use Rattle.spec_plans.proofs.Made.{part, command_part}
use Rattle.spec_plans.proofs.SoundNeeds.{needed_is}
use Rattle.spec_plans.proofs.Used.{line_is_fine, command_is_fine, command_used}
use Rattle.spec_basics.proofs.Options.{second_none}
use Rattle.spec_basics.proofs.Lists.{all_map, all_append}

-- what all items have, they have with the last one changed
all_with_last : {X : Type 0} (P : X → Type 0) (f : X → X) → ((x : X) → P x → P (f x)) → (xs : List X)
    → AllByRecursion P xs → AllByRecursion P (with_last f xs)
all_with_last P f keeps [] h = tt
all_with_last P f keeps (x ∷ []) h = (keeps x h.0, tt)
all_with_last P f keeps (x ∷ y ∷ ys) h = (h.0, all_with_last P f keeps (y ∷ ys) h.1)

module _ (P : Command → Type 0) where
  -- each command of each section of each writer
  abbrev pub AllCommands : List (List (List Command)) → Type 0
  AllCommands writers = AllByRecursion (AllByRecursion (AllByRecursion P)) writers

  command_added : (p : Plan) (part : Part) → IfSome (command_part part) P → AllCommands p.writers
      → AllCommands (with_part p part).writers
  command_added p (parts.Limit limit) h a = a
  command_added p (parts.List d) h a = a
  command_added p (parts.Listener d) h a = a
  command_added p parts.Writer h a = all_append (AllByRecursion (AllByRecursion P)) p.writers ([] ∷ []) a (tt, tt)
  command_added p parts.Section h a =
      all_with_last (AllByRecursion (AllByRecursion P)) (λ sections. sections ++ [] ∷ [])
      (λ sections k. all_append (AllByRecursion P) sections ([] ∷ []) k (tt, tt)) p.writers a
  command_added p (parts.Command c) h a =
      all_with_last (AllByRecursion (AllByRecursion P)) (with_last (λ commands. commands ++ c ∷ []))
      (λ sections k. all_with_last (AllByRecursion P) (λ commands. commands ++ c ∷ [])
      (λ commands j. all_append P commands (c ∷ []) j (h, tt)) sections k) p.writers a
  command_added p parts.Elsewhere h a = a

  commands_added : (p : Plan) (ps : List Part) → AllByRecursion (λ x. IfSome (command_part x) P) ps
      → AllCommands p.writers → AllCommands (fold with_part p ps).writers
  commands_added p [] h a = a
  commands_added p (x ∷ xs) h a = commands_added (with_part p x) xs h.1 (command_added p x h.0 a)

  all_flat : {X : Type 0} (f : X → List Command) (xs : List X) → AllByRecursion (λ x. AllByRecursion P (f x)) xs
      → AllByRecursion P (flat_map f xs)
  all_flat f [] h = tt
  all_flat f (x ∷ xs) h = all_append P (f x) (flat_map f xs) h.0 (all_flat f xs h.1)

  flattened : (writers : List (List (List Command))) → AllCommands writers
      → AllByRecursion P (flat_map (λ sections. flat_map (λ section. section) sections) writers)
  flattened [] h = tt
  flattened (w ∷ ws) h = all_append P (flat_map (λ section. section) w)
      (flat_map (λ sections. flat_map (λ section. section) sections) ws) (all_flat (λ section. section) w h.0)
      (flattened ws h.1)

module _ (lines : List NumberedLine) (fine : first_misnamed lines ≡ None) where
  abbrev adds : Line → Part
  adds line = part_of (list_names lines) (listener_names lines) (rows_for (list_names lines) lines) line

  -- what every command of a line has, every command of the plan has
  by_lines : (P : Command → Type 0) → ((before : List NumberedLine) (line : Line)
      → name_fault lines before line ≡ None → IfSome (command_part (adds line)) P)
      → All P (all_commands (plan_of lines))
  by_lines P holds =
      All-from_recursion P (all_commands (plan_of lines))
      (flattened P (plan_of lines).writers
      (commands_added P empty_plan (parts_of lines)
      (all_map (λ x. IfSome (command_part x) P) (part lines) lines
      (all_said (naming lines) (λ l. IfSome (command_part (part lines l)) P)
      (λ before l e. holds before l.what (line_is_fine lines before l e)) [] lines fine)) tt))

  -- the list of a command and the class that it needs, by its line
  record About : Type 0 where
    pub list : ℕ
    pub need : Option ListClass

  abbrev command_about : Command → About
  command_about c = record { list = origin c; need = needed_class c }

  abbrev line_about : Named × Option ListClass → About
  line_about about = record { list = number (list_names lines) about.0; need = about.1 }

  same_about : (line : Line) → option_map command_about (command_part (adds line))
      ≡ option_map line_about (commanded_by line)
  same_about Writer = refl
  same_about other = refl

  command_listed : (before : List NumberedLine) (line : Line) → name_fault lines before line ≡ None
      → IfSome (command_part (adds line)) (λ c. HasList (plan_of lines) (needed_class c) (origin c))
  command_listed before line e = by (command_part (adds line)) (commanded_by line) refl (same_about line)
    where
      by : (o : Option Command) (q : Option (Named × Option ListClass)) → commanded_by line ≡ q
          → option_map command_about o ≡ option_map line_about q
          → IfSome o (λ c. HasList (plan_of lines) (needed_class c) (origin c))
      by None q g s = tt
      by (Some c) None g s = absurd (none-some _ (sym s))
      by (Some c) (Some about) g s =
          let same : line_about about ≡ command_about c = sym (same_Some (command_about c) (line_about about) s) in
          subst (λ a. HasList (plan_of lines) a.need a.list) same
          (command_used lines line about (command_is_fine lines before line about e g)).met

  pub all_commanded : All (λ c. HasList (plan_of lines) (needed_class c) (origin c)) (all_commands (plan_of lines))
  all_commanded = by_lines (λ c. HasList (plan_of lines) (needed_class c) (origin c)) command_listed

  -- what is attached is a member, or may become one
  line_attaches : (before : List NumberedLine) (line : Line) → name_fault lines before line ≡ None
      → IfSome (command_part (adds line)) (IsAttachable (plan_of lines))
  line_attaches before (Attach list member) e =
      let all : command_fault lines (Attach list member) (list, Some Composed)
      ≡ None = command_is_fine lines before (Attach list member) (list, Some Composed) e refl in
      let about : attach_fault lines list member ≡ None =
      second_none (use_fault lines (Some Composed) list) (attach_fault lines list member) all in
      let fault : member_fault lines list member ≡ None =
      second_none (use_fault lines None member) (member_fault lines list member) about in
      subst (λ ns. Contains ns (number (list_names lines) member))
      (needed_is lines fine (number (list_names lines) list))
      (has-true (needed lines (number (list_names lines) list)) (number (list_names lines) member)
      (depending (depends_on lines (number (list_names lines) list) (number (list_names lines) member))
      (wrong member Member) fault))
    where
      depending : (t : Bool) (o : Option NameFault) → (if t then None else wrong member Member) ≡ None → t ≡ true
      depending true o f = refl
      depending false o f = absurd (none-some _ (sym f))
  line_attaches before other e = tt

  pub all_attachable : All (IsAttachable (plan_of lines)) (all_commands (plan_of lines))
  all_attachable = by_lines (IsAttachable (plan_of lines)) line_attaches
