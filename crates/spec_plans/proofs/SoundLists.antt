-- Names, inputs and listeners of the plan of sound lines.
use Rattle.std.proofs.Common.{◌≡◌, ◌∙◌, ℕ, ◌<◌, Bool, false, List, [], ◌∷◌, ◌++◌, length, map, Option, Some, None, refl, sym, ap, subst, append-nil}
use Rattle.std.specs.Prelude.{if◌then◌else◌, option_map, option_to_list, filter_map, slice_get, unwrap_or, bytes_eq, All}
use Rattle.std.specs.Option.{is_some}
use Rattle.std.specs.List.{cons_option, AllByRecursion, IsDistinct}
use Rattle.std.proofs.lemmas.Option.{same_Some, slice_get_within, none-some}
use Rattle.std.proofs.lemmas.List.{length-map}
use Rattle.std.proofs.lemmas.List.Elements.{filter_map-append, All-from_recursion}
use Rattle.gl_lines.specs.declared.named.Named.{Named}
use Rattle.gl_lines.specs.declared.line.Line.{Line}
use Rattle.gl_lines.specs.declared.line.Line.TheVariants.{Writer, Listen}
use Rattle.gl_lines.specs.declared.line.NumberedLine.{NumberedLine}
use Rattle.gl_lines.specs.declared.plan.ListenerDecl.{ListenerDecl}
use Rattle.spec_plans.specs.declared.class.ListClass.{ListClass}
use Rattle.spec_plans.specs.Lines.{Head, Hearer, head_of, hearer_of}
use Rattle.spec_plans.specs.Names.{heads, hearers, list_names, listener_names, number_of}
use Rattle.gl_lines.specs.declared.fault.PlanKind.TheVariants.{Unknown}
use Rattle.spec_plans.specs.NameFaults.{wrong, input_need, after_fault, naming, name_fault, first_misnamed}
use Rattle.spec_plans.specs.Plan.{inputs_of}
use Rattle.spec_plans.specs.Making.{number, numbers, rows_for, part_of, plan_of}
use Rattle.spec_plans.specs.PlanNames.{names_of_lists, names_of_listeners}
use Rattle.spec_plans.specs.WellFormed.{class_of_kind, HasList, HasInputs, HasHeard}
use Rattle.spec_plans.proofs.Numbers.{none_such, name_at_number}
use Rattle.spec_plans.proofs.Said.{all_said, one_by_one, all_unmap, distinct_push}
use Rattle.spec_plans.proofs.Made.{Needs, list_needs, head_needs, names_are, hearers_are, needs_are, listeners_made, part, listener_part, as_many_listeners}
use Rattle.spec_plans.proofs.Used.{IsUsed, line_is_fine, list_is_fine, listener_is_fine}
use Rattle.spec_basics.proofs.Lists.{all_weaker, all_map, all_append, all_given}

pub none_distinct : {X : Type 0} (same : X → X → Bool) → IsDistinct same []
unfolding IsDistinct
none_distinct same = tt

one_given : {X : Type 0} (o : Option X) → cons_option o [] ≡ option_to_list o
one_given None = refl
one_given (Some x) = refl

-- what is given of one item more
pub given_more : {X Y : Type 0} (f : X → Option Y) (xs : List X) (x : X)
    → filter_map f (xs ++ x ∷ []) ≡ filter_map f xs ++ option_to_list (f x)
given_more f xs x = filter_map-append f xs (x ∷ []) ∙ ap (λ ys. filter_map f xs ++ ys) (one_given (f x))

mapped_given : {X Y Z : Type 0} (u : Y → Z) (f : X → Option Y) (xs : List X)
    → map u (filter_map f xs) ≡ filter_map (λ x. option_map u (f x)) xs
mapped_given u f [] = refl
mapped_given u f (x ∷ xs) = by (f x) ∙ ap (cons_option (option_map u (f x))) (mapped_given u f xs)
  where
    by : (o : Option _) → map u (cons_option o (filter_map f xs))
        ≡ cons_option (option_map u o) (map u (filter_map f xs))
    by None = refl
    by (Some y) = refl

module _ (lines : List NumberedLine) (fine : first_misnamed lines ≡ None) where
  -- names that no earlier line declares are distinct
  distinct_names : (get : NumberedLine → Option (List ℕ))
      → ((before : List NumberedLine) (l : NumberedLine) (name : List ℕ) → name_fault lines before l.what ≡ None
      → get l ≡ Some name → is_some (number_of (filter_map get before) name) ≡ false)
      → IsDistinct bytes_eq (filter_map get lines)
  distinct_names get new = one_by_one (naming lines) (λ before. IsDistinct bytes_eq
      (filter_map get before)) more [] lines fine (none_distinct bytes_eq)
    where
      more : (before : List NumberedLine) (l : NumberedLine) → naming lines before l ≡ None
          → IsDistinct bytes_eq (filter_map get before) → IsDistinct bytes_eq (filter_map get (before ++ l ∷ []))
      more before l e d = subst (IsDistinct bytes_eq) (sym (given_more get before l)) (by (get l) refl)
        where
          by : (o : Option (List ℕ)) → get l ≡ o → IsDistinct bytes_eq (filter_map get before ++ option_to_list o)
          by None g = subst (IsDistinct bytes_eq) (sym (append-nil (filter_map get before))) d
          by (Some name) g =
              distinct_push bytes_eq (filter_map get before) name d
              (none_such (λ other. bytes_eq other name) (filter_map get before)
              (new before l name (line_is_fine lines before l e) g))

  pub list_names_distinct : IsDistinct bytes_eq (names_of_lists (plan_of lines))
  list_names_distinct =
      subst (IsDistinct bytes_eq) (sym (names_are lines ∙ mapped_given (λ (h : Head). h.name.name)
      (λ (l : NumberedLine). head_of l.what) lines))
      (distinct_names (λ l. option_map (λ h. h.name.name) (head_of l.what))
      (λ before l name e g. by before l name e (head_of l.what) refl g))
    where
      by : (before : List NumberedLine) (l : NumberedLine) (name : List ℕ) → name_fault lines before l.what ≡ None
          → (o : Option Head) → head_of l.what ≡ o → option_map (λ h. h.name.name) o ≡ Some name
          → is_some (number_of (filter_map (λ k. option_map (λ h. h.name.name) (head_of k.what)) before) name) ≡ false
      by before l name e None g f = absurd (none-some name f)
      by before l name e (Some h) g f =
          ap is_some (ap (λ ns. number_of ns name) (sym (mapped_given (λ (j : Head). j.name.name)
          (λ (k : NumberedLine). head_of k.what) before))
          ∙ ap (number_of (list_names before)) (sym (same_Some h.name.name name f)))
          ∙ (list_is_fine lines before l.what h e g).new

  pub listener_names_distinct : IsDistinct bytes_eq (names_of_listeners (plan_of lines))
  listener_names_distinct =
      subst (IsDistinct bytes_eq) (sym (hearers_are lines
      ∙ mapped_given (λ (r : Hearer). r.name.name) (λ (l : NumberedLine). hearer_of l.what) lines))
      (distinct_names (λ l. option_map (λ r. r.name.name) (hearer_of l.what))
      (λ before l name e g. by before l name e (hearer_of l.what) refl g))
    where
      by : (before : List NumberedLine) (l : NumberedLine) (name : List ℕ) → name_fault lines before l.what ≡ None
          → (o : Option Hearer) → hearer_of l.what ≡ o → option_map (λ r. r.name.name) o ≡ Some name
          → is_some (number_of (filter_map (λ k. option_map (λ r. r.name.name) (hearer_of k.what)) before) name)
          ≡ false
      by before l name e None g f = absurd (none-some name f)
      by before l name e (Some h) g f =
          ap is_some (ap (λ ns. number_of ns name) (sym (mapped_given (λ (j : Hearer). j.name.name)
          (λ (k : NumberedLine). hearer_of k.what) before))
          ∙ ap (number_of (listener_names before)) (sym (same_Some h.name.name name f)))
          ∙ (listener_is_fine lines before l.what h e g).new

  -- only a composite has lists that may become members, and it needs them of no class
  may_free : (line : Line) → option_map (λ h. map (λ n. input_need h.class) h.may) (head_of line)
      ≡ option_map (λ h. map (λ n. None) h.may) (head_of line)
  may_free Writer = refl
  may_free other = refl

  may_needed : (need : Option ListClass) (ns : List Named) → map (λ n. need) ns ≡ map (λ n. None) ns
      → AllByRecursion (IsUsed lines None) ns → AllByRecursion (IsUsed lines need) ns
  may_needed need [] e h = tt
  may_needed need (n ∷ ns) e h =
      let none : need ≡ None = ap (λ os. unwrap_or (slice_get os 0) None) e in
      subst (λ o. AllByRecursion (IsUsed lines o) (n ∷ ns)) (sym none) h

  -- each list that a line depends on is known, and of the class that is needed
  pub heads_used : AllByRecursion (λ h. AllByRecursion (IsUsed lines (input_need h.class)) (h.inputs ++ h.may))
      (heads lines)
  heads_used =
      all_given (λ (l : NumberedLine). head_of l.what) (λ (h : Head). AllByRecursion
      (IsUsed lines (input_need h.class)) (h.inputs ++ h.may)) lines
      (all_said (naming lines) (λ (l : NumberedLine). (h : Head) → head_of l.what ≡ Some h
      → AllByRecursion (IsUsed lines (input_need h.class)) (h.inputs ++ h.may)) each [] lines fine)
    where
      each : (before : List NumberedLine) (l : NumberedLine) → naming lines before l ≡ None → (h : Head)
          → head_of l.what ≡ Some h → AllByRecursion (IsUsed lines (input_need h.class)) (h.inputs ++ h.may)
      each before l e h g =
          let list = list_is_fine lines before l.what h (line_is_fine lines before l e) g in
          let free : map (λ n. input_need h.class) h.may ≡ map (λ n. None) h.may =
          same_Some _ _ (sym (ap (option_map (λ (j : Head). map (λ n. input_need j.class) j.may)) g)
          ∙ may_free l.what ∙ ap (option_map (λ (j : Head). map (λ n. None) j.may)) g) in
          all_append (IsUsed lines (input_need h.class)) h.inputs h.may list.inputs
          (may_needed (input_need h.class) h.may free list.may)

  pub has_inputs : All (λ d. HasInputs (plan_of lines) d.kind) (plan_of lines).lists
  has_inputs =
      let P : Needs → Type 0 = λ n. AllByRecursion (HasList (plan_of lines) (input_need n.class)) n.inputs in
      let by_heads : AllByRecursion (λ h. P (head_needs (list_names lines) h)) (heads lines) =
      all_weaker (λ h. AllByRecursion (IsUsed lines (input_need h.class)) (h.inputs ++ h.may))
      (λ h. P (head_needs (list_names lines) h)) numbered (heads lines) heads_used in
      let by_needs : AllByRecursion P (map list_needs (plan_of lines).lists) =
      subst (AllByRecursion P) (sym (needs_are lines)) (all_map P (head_needs (list_names lines))
      (heads lines) by_heads) in
      let by_lists : AllByRecursion (λ d. P (list_needs d)) (plan_of lines).lists =
      all_unmap P list_needs (plan_of lines).lists by_needs in
      All-from_recursion (λ d. HasInputs (plan_of lines) d.kind) (plan_of lines).lists
      (all_weaker (λ d. P (list_needs d)) (λ d. HasInputs (plan_of lines) d.kind)
      (λ d h. All-from_recursion (HasList (plan_of lines) (input_need (class_of_kind d.kind))) (inputs_of d.kind) h)
      (plan_of lines).lists by_lists)
    where
      numbered : (h : Head) → AllByRecursion (IsUsed lines (input_need h.class)) (h.inputs ++ h.may)
          → AllByRecursion (HasList (plan_of lines) (input_need h.class))
          (numbers (list_names lines) (h.inputs ++ h.may))
      numbered h k =
          all_map (HasList (plan_of lines) (input_need h.class)) (number (list_names lines)) (h.inputs ++ h.may)
          (all_weaker (IsUsed lines (input_need h.class)) (λ n. HasList (plan_of lines) (input_need h.class)
          (number (list_names lines) n)) (λ n u. u.met) (h.inputs ++ h.may) k)

  -- listeners
  told_after : (n : Named) → after_fault lines n ≡ None
      → number (listener_names lines) n < length (plan_of lines).listeners
  told_after n e = by (number_of (listener_names lines) n.name) refl
    where
      by : (o : Option ℕ) → number_of (listener_names lines) n.name ≡ o
          → unwrap_or o 0 < length (plan_of lines).listeners
      by None g = absurd (none-some _ (sym (subst (λ o. (if is_some o then None else wrong n Unknown) ≡ None) g e)))
      by (Some k) g =
          subst (λ m. k < m) (length-map (hearers lines) (λ (r : Hearer). r.name.name)
          ∙ sym (as_many_listeners lines))
          (slice_get_within (listener_names lines) k n.name (name_at_number (listener_names lines) n.name k g))

  -- a listener by its line
  heard_line : (before : List NumberedLine) (line : Line) → name_fault lines before line ≡ None → (d : ListenerDecl)
      → listener_part (part_of (list_names lines) (listener_names lines) (rows_for (list_names lines) lines) line)
      ≡ Some d
      → HasHeard (plan_of lines) d
  heard_line before (Listen name list after echo) e d g =
      let r = listener_is_fine lines before (Listen name list after echo) (record {
        name = name;
        list = list;
        after =
            after;
      }) e refl in
      let told : AllByRecursion (λ k. k < length (plan_of lines).listeners) (numbers (listener_names lines) after) =
      all_map (λ k. k < length (plan_of lines).listeners) (number (listener_names lines)) after
      (all_weaker (λ n. after_fault lines n ≡ None) (λ n. number (listener_names lines) n < length
      (plan_of lines).listeners) told_after after r.after) in
      subst (HasHeard (plan_of lines)) (same_Some _ d g)
      (record {
        list = r.list.met;
        after = All-from_recursion (λ k. k < length (plan_of lines).listeners)
            (numbers (listener_names lines) after) told;
      })
  heard_line before other e d g = absurd (none-some d g)

  pub all_heard : All (HasHeard (plan_of lines)) (plan_of lines).listeners
  all_heard =
      subst (All (HasHeard (plan_of lines))) (sym (listeners_made lines))
      (All-from_recursion (HasHeard (plan_of lines)) (filter_map (λ l. listener_part (part lines l)) lines)
      (all_given (λ l. listener_part (part lines l)) (HasHeard (plan_of lines)) lines
      (all_said (naming lines) (λ l. (d : ListenerDecl) → listener_part (part lines l) ≡ Some d
      → HasHeard (plan_of lines) d)
      (λ before l e. heard_line before l.what (line_is_fine lines before l e)) [] lines fine)))
