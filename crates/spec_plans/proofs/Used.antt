-- What the names of a line stand for, where nothing is wrong with them.
use Rattle.std.proofs.Common.{◌≡◌, ◌∙◌, ℕ, zero, suc, ◌<◌, ◌==◌, Bool, true, false, cond, List, [], ◌∷◌, length, map, Option, Some, None, refl, sym, ap, subst}
use Rattle.std.specs.Prelude.{if◌then◌else◌, option_map, option_and_then, slice_get, unwrap_or}
use Rattle.std.specs.Option.{is_some, option_or}
use Rattle.std.specs.List.{AllByRecursion}
use Rattle.std.proofs.lemmas.Option.{none-some, slice_get-map, slice_get_within}
use Rattle.std.proofs.lemmas.Bool.{eqb-true}
use Rattle.std.proofs.lemmas.List.{length-map}
use Rattle.gl_lines.specs.declared.named.Named.{Named}
use Rattle.gl_lines.specs.declared.line.Line.{Line}
use Rattle.gl_lines.specs.declared.line.NumberedLine.{NumberedLine}
use Rattle.gl_lines.specs.declared.plan.ListDecl.{ListDecl}
use Rattle.gl_lines.specs.declared.fault.PlanKind.TheVariants.{Kind, Taken}
use Rattle.spec_plans.specs.declared.fault.NameFault.{NameFault}
use Rattle.spec_plans.specs.declared.class.ListClass.{ListClass}
use Rattle.spec_plans.specs.declared.class.ListClass.TheVariants.{Edited, Filtered, Ordered, Bounded, Mapped, Collected, Composed, Undone, Frozen, Pumped}
use Rattle.spec_plans.specs.Along.{first_some}
use Rattle.spec_plans.specs.Lines.{Head, Hearer, head_of, hearer_of, fed_by, commanded_by}
use Rattle.spec_plans.specs.Names.{heads, list_names, listener_names, number_of}
use Rattle.spec_plans.specs.NameFaults.{wrong, first_fault, class_number, meets, taken_fault, use_fault_of, use_fault, after_fault, input_need, is_undone, second_fault, proxy_fault, list_fault, listener_fault, command_fault, name_fault, naming}
use Rattle.spec_plans.specs.Plan.{Plan}
use Rattle.spec_plans.specs.Making.{number, plan_of}
use Rattle.spec_plans.specs.WellFormed.{class_of_kind, class_at, HasList}
use Rattle.spec_plans.proofs.Said.{none_of_some}
use Rattle.spec_plans.proofs.Made.{class_is}
use Rattle.spec_basics.proofs.Options.{first_none, second_none, unmapped}

-- classes by their numbers
numbered_class : ℕ → ListClass
numbered_class zero = Edited
numbered_class (suc zero) = Filtered
numbered_class (suc (suc zero)) = Ordered
numbered_class (suc (suc (suc zero))) = Bounded
numbered_class (suc (suc (suc (suc zero)))) = Mapped
numbered_class (suc (suc (suc (suc (suc zero))))) = Collected
numbered_class (suc (suc (suc (suc (suc (suc zero)))))) = Composed
numbered_class (suc (suc (suc (suc (suc (suc (suc zero))))))) = Undone
numbered_class (suc (suc (suc (suc (suc (suc (suc (suc zero)))))))) = Frozen
numbered_class (suc (suc (suc (suc (suc (suc (suc (suc (suc n))))))))) = Pumped

back : (c : ListClass) → numbered_class (class_number c) ≡ c
unfolding numbered_class
back Edited = refl
back other = refl

same_class : (a b : ListClass) → (class_number a == class_number b) ≡ true → a ≡ b
same_class a b e = sym (back a) ∙ ap numbered_class (eqb-true (class_number a) (class_number b) e) ∙ back b

-- a list of the plan, by its class
pub has_class : (p : Plan) (k : ℕ) (c : ListClass) → class_at p k ≡ Some c → k < length p.lists
has_class p k c e =
    let within : k < length (map (λ (d : ListDecl). class_of_kind d.kind) p.lists) =
    slice_get_within (map (λ (d : ListDecl). class_of_kind d.kind) p.lists) k c
    (slice_get-map (λ (d : ListDecl). class_of_kind d.kind) p.lists k ∙ e) in
    subst (λ n. k < n) (length-map p.lists (λ (d : ListDecl). class_of_kind d.kind)) within

-- some line declares the name
abbrev pub IsKnown : List (List ℕ) → List ℕ → Type 0
IsKnown names name = (k : ℕ) × (number_of names name ≡ Some k)

module _ (p : Plan) where
  needed_of : (need : Option ListClass) (k : ℕ) (c : ListClass) → class_at p k ≡ Some c → meets need c ≡ true
      → HasList p need k
  needed_of None k c e m = has_class p k c e
  needed_of (Some class) k c e m = e ∙ ap Some (sym (same_class class c m))

  by_class : (need : Option ListClass) (named : Named) (k : ℕ) (c : Option ListClass) → class_at p k ≡ c
      → use_fault_of need named c ≡ None → HasList p need k
  by_class need named k None e f = absurd (none-some _ (sym f))
  by_class need named k (Some c) e f = by (meets need c) refl f
    where
      by : (t : Bool) → meets need c ≡ t → cond t None (wrong named Kind) ≡ None → HasList p need k
      by true m g = needed_of need k c e m
      by false m g = absurd (none-some _ (sym g))

-- whether names are taken or second, as a test
pub unless : (t : Bool) (f : NameFault) → cond t (Some f) None ≡ None → t ≡ false
unless true f e = absurd (none-some f (sym e))
unless false f e = refl

none_of_each : {B : Type 0} (f : Named → Option B) (listed : List Named) → first_some (map f listed) ≡ None
    → AllByRecursion (λ n. f n ≡ None) listed
none_of_each f [] e = tt
none_of_each f (n ∷ ns) e = (
  first_none (f n) (first_some (map f ns)) e,
  none_of_each f ns
      (second_none (f n) (first_some (map f ns)) e),
)

module _ (lines : List NumberedLine) where
  -- a used name stands for a list of the class that is needed
  pub record IsUsed (need : Option ListClass) (named : Named) : Type 0 where
    pub known : IsKnown (list_names lines) named.name
    pub met : HasList (plan_of lines) need (number (list_names lines) named)

  used : (need : Option ListClass) (named : Named) → use_fault lines need named ≡ None → IsUsed need named
  used need named e = by (number_of (list_names lines) named.name) refl
    where
      by : (o : Option ℕ) → number_of (list_names lines) named.name ≡ o → IsUsed need named
      by None g = absurd (none-some _ (sym (ap (λ o. use_fault_of need named
          (option_map (λ h. h.class) (option_and_then (slice_get (heads lines)) o))) (sym g) ∙ e)))
      by (Some k) g =
          let class : use_fault_of need named (option_map (λ (h : Head). h.class) (slice_get (heads lines) k))
          ≡ None =
          ap (λ o. use_fault_of need named (option_map (λ (h : Head). h.class)
          (option_and_then (slice_get (heads lines)) o))) (sym g) ∙ e in
          record {
            known = (k, g);
            met = subst (λ o. HasList (plan_of lines) need (unwrap_or o 0)) (sym g)
                (by_class (plan_of lines) need named k (option_map (λ (h : Head). h.class)
                (slice_get (heads lines) k)) (class_is lines k) class);
          }

  pub all_used : (need : Option ListClass) (listed : List Named) → first_fault (use_fault lines need) listed ≡ None
      → AllByRecursion (IsUsed need) listed
  all_used need listed e = each listed (none_of_each (use_fault lines need) listed e)
    where
      each : (ns : List Named) → AllByRecursion (λ n. use_fault lines need n ≡ None) ns
          → AllByRecursion (IsUsed need) ns
      each [] h = tt
      each (n ∷ ns) h = (used need n h.0, each ns h.1)

  -- what is known of a list by its line, where nothing is wrong with that
  pub record IsFineList (before : List NumberedLine) (h : Head) : Type 0 where
    pub new : is_some (number_of (list_names before) h.name.name) ≡ false
    pub inputs : AllByRecursion (IsUsed (input_need h.class)) h.inputs
    pub may : AllByRecursion (IsUsed None) h.may
    pub second : (if is_undone h.class then first_fault (second_fault (heads before)) h.inputs else None) ≡ None
    pub proxy : proxy_fault lines (length (heads before)) h.class ≡ None

  pub line_is_fine : (before : List NumberedLine) (l : NumberedLine) → naming lines before l ≡ None
      → name_fault lines before l.what ≡ None
  line_is_fine before l e = unmapped (λ (f : NameFault). record { line = l.line; column = f.column; kind = f.kind })
      (name_fault lines before l.what) e

  fine_list : (before : List NumberedLine) (h : Head) → list_fault lines before h ≡ None → IsFineList before h
  fine_list before h e =
      let a : Option NameFault = taken_fault (list_names before) h.name in
      let b : Option NameFault = first_fault (use_fault lines (input_need h.class)) h.inputs in
      let c : Option NameFault = first_fault (use_fault lines None) h.may in
      let d : Option NameFault = if is_undone h.class then first_fault
      (second_fault (heads before)) h.inputs else None in
      let p : Option NameFault = proxy_fault lines (length (heads before)) h.class in
      let bs : option_or b (option_or c (option_or d p)) ≡ None =
      second_none a (option_or b (option_or c (option_or d p))) e in
      let cs : option_or c (option_or d p) ≡ None = second_none b (option_or c (option_or d p)) bs in
      let ds : option_or d p ≡ None = second_none c (option_or d p) cs in
      record {
        new = unless (is_some (number_of (list_names before) h.name.name)) (record {
          column = h.name.column;
          kind =
              Taken;
        }) (first_none a (option_or b (option_or c (option_or d p))) e);
        inputs = all_used (input_need h.class) h.inputs (first_none b (option_or c (option_or d p)) bs);
        may = all_used None h.may (first_none c (option_or d p) cs);
        second = first_none d p ds;
        proxy = second_none d p ds;
      }

  pub list_is_fine : (before : List NumberedLine) (line : Line) (h : Head) → name_fault lines before line ≡ None
      → head_of line ≡ Some h → IsFineList before h
  list_is_fine before line h e g = fine_list before h (none_of_some (list_fault lines before) (head_of line) h g
      (first_none (option_and_then (list_fault lines before) (head_of line)) _ e))

  -- the same of a listener
  pub record IsFineListener (before : List NumberedLine) (r : Hearer) : Type 0 where
    pub new : is_some (number_of (listener_names before) r.name.name) ≡ false
    pub list : IsUsed None r.list
    pub after : AllByRecursion (λ n. after_fault lines n ≡ None) r.after

  fine_listener : (before : List NumberedLine) (r : Hearer) → listener_fault lines before r ≡ None
      → IsFineListener before r
  fine_listener before r e =
      let a : Option NameFault = taken_fault (listener_names before) r.name in
      let b : Option NameFault = use_fault lines None r.list in
      let c : Option NameFault = first_fault (after_fault lines) r.after in
      let bs : option_or b c ≡ None = second_none a (option_or b c) e in
      record {
        new = unless (is_some (number_of (listener_names before) r.name.name)) (record {
          column =
              r.name.column;
          kind = Taken;
        }) (first_none a (option_or b c) e);
        list = used None r.list (first_none b c bs);
        after = none_of_each (after_fault lines) r.after (second_none b c bs);
      }

  pub listener_is_fine : (before : List NumberedLine) (line : Line) (r : Hearer)
      → name_fault lines before line ≡ None → hearer_of line ≡ Some r → IsFineListener before r
  listener_is_fine before line r e g =
      fine_listener before r (none_of_some (listener_fault lines before) (hearer_of line) r g
      (first_none (option_and_then (listener_fault lines before) (hearer_of line)) _
      (second_none (option_and_then (list_fault lines before) (head_of line)) _ e)))

  -- the same of a command
  pub command_is_fine : (before : List NumberedLine) (line : Line) (about : Named × Option ListClass)
      → name_fault lines before line ≡ None → commanded_by line ≡ Some about → command_fault lines line about ≡ None
  command_is_fine before line about e g =
      none_of_some (command_fault lines line) (commanded_by line) about g
      (second_none (option_and_then (use_fault lines (Some Edited)) (fed_by line)) _
      (second_none (option_and_then (listener_fault lines before) (hearer_of line)) _
      (second_none (option_and_then (list_fault lines before) (head_of line)) _ e)))

  pub command_used : (line : Line) (about : Named × Option ListClass) → command_fault lines line about ≡ None
      → IsUsed about.1 about.0
  command_used line about e = used about.1 about.0 (first_none (use_fault lines about.1 about.0) _ e)
