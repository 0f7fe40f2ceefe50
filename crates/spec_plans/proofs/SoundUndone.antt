-- The transactions of the plan of sound lines have different inputs.
use Rattle.std.proofs.Common.{◌≡◌, ◌∙◌, ℕ, ◌==◌, Bool, true, false, List, [], ◌∷◌, ◌++◌, map, Option, None, refl, sym, ap, subst, append-nil, true≢false}
use Rattle.std.specs.Prelude.{option_to_list, filter_map, flat_map, slice_get, unwrap_or, bytes_eq}
use Rattle.std.specs.Option.{is_some}
use Rattle.std.specs.List.{AllByRecursion, IsDistinct}
use Rattle.std.proofs.lemmas.Option.{same_Some}
use Rattle.std.proofs.lemmas.Bool.{eqb-true}
use Rattle.std.proofs.lemmas.List.{map-append}
use Rattle.std.proofs.lemmas.List.Concat.{flat_map-append}
use Rattle.std.proofs.lemmas.Slice.Eq.{bytes_eq-Decides}
use Rattle.gl_lines.specs.declared.line.Line.{Line}
use Rattle.gl_lines.specs.declared.line.Line.TheVariants.{Transaction}
use Rattle.gl_lines.specs.declared.line.NumberedLine.{NumberedLine}
use Rattle.gl_lines.specs.declared.plan.ListDecl.{ListDecl}
use Rattle.gl_lines.specs.declared.fault.PlanKind.TheVariants.{Second}
use Rattle.spec_plans.specs.declared.class.ListClass.TheVariants.{Undone}
use Rattle.spec_plans.specs.Lines.{Head, over, head_of}
use Rattle.spec_plans.specs.Names.{heads, list_names, number_of}
use Rattle.spec_plans.specs.NameFaults.{undone_inputs, is_undone, second_fault, naming, name_fault, first_misnamed}
use Rattle.spec_plans.specs.Making.{plan_of}
use Rattle.spec_plans.specs.WellFormed.{undone_input, undone_inputs_of}
use Rattle.spec_plans.proofs.Numbers.{none_such, name_at_number}
use Rattle.spec_plans.proofs.Said.{one_by_one, distinct_push}
use Rattle.spec_plans.proofs.Made.{undone_numbers, undone_are, given_first}
use Rattle.spec_plans.proofs.Used.{IsKnown, unless, line_is_fine, list_is_fine}
use Rattle.spec_plans.proofs.SoundLists.{none_distinct, given_more}
use Rattle.std.specs.Prelude.{if◌then◌else◌}
use Rattle.spec_basics.proofs.Options.{first_none}
use Rattle.spec_basics.proofs.Lists.{all_append}

-- names that stand for something, none twice
record AreApart (names us : List (List ℕ)) : Type 0 where
  pub distinct : IsDistinct bytes_eq us
  pub known : AllByRecursion (IsKnown names) us

-- the number of a name that stands for one
abbrev number_in : List (List ℕ) → List ℕ → ℕ
number_in names name = unwrap_or (number_of names name) 0

-- two names of one number are one
numbers_apart : (names : List (List ℕ)) (u v : List ℕ) → IsKnown names u → IsKnown names v → bytes_eq u v ≡ false
    → (number_in names u == number_in names v) ≡ false
numbers_apart names u v k j e = by (number_in names u == number_in names v) refl
  where
    by : (t : Bool) → (number_in names u == number_in names v) ≡ t → t ≡ false
    by false f = refl
    by true f =
        let equal : k.0 ≡ j.0 =
        sym (ap (λ o. unwrap_or o 0) k.1) ∙ eqb-true (number_in names u) (number_in names v) f
        ∙ ap (λ o. unwrap_or o 0) j.1 in
        let same : u ≡ v =
        same_Some u v (sym (name_at_number names u k.0 k.1) ∙ ap (slice_get names) equal
        ∙ name_at_number names v j.0 j.1) in
        absurd (true≢false (sym ((bytes_eq-Decides u v).1 same) ∙ e))

numbers_distinct : (names us : List (List ℕ)) → AreApart names us
    → IsDistinct (λ a b. a == b) (map (number_in names) us)
unfolding IsDistinct
numbers_distinct names [] h = tt
numbers_distinct names (u ∷ us) h = (
  apart us h.distinct.0 h.known.1,
  numbers_distinct names us (record {
    distinct =
        h.distinct.1;
    known = h.known.1;
  }),
)
  where
    apart : (vs : List (List ℕ)) → AllByRecursion (λ v. bytes_eq u v ≡ false) vs → AllByRecursion (IsKnown names) vs
        → AllByRecursion (λ j. (number_in names u == j) ≡ false) (map (number_in names) vs)
    apart [] d k = tt
    apart (v ∷ vs) d k = (numbers_apart names u v h.known.0 k.0 d.0, apart vs d.1 k.1)

undone-append : (xs ys : List Head) → undone_inputs (xs ++ ys) ≡ undone_inputs xs ++ undone_inputs ys
undone-append xs ys = flat_map-append (λ (h : Head). if is_undone h.class then map
    (λ input. input.name) h.inputs else []) xs ys

-- what options give is what their lists are put together
put_together : {X Y : Type 0} (f : X → Option Y) (xs : List X)
    → filter_map f xs ≡ flat_map (λ ys. ys) (map (λ x. option_to_list (f x)) xs)
put_together f [] = refl
put_together f (x ∷ xs) = sym (given_first (f x) (filter_map f xs))
    ∙ ap (λ ys. option_to_list (f x) ++ ys) (put_together f xs)

numbers_together : (names : List (List ℕ)) (hs : List Head)
    → flat_map (λ ns. ns) (map (undone_numbers names) hs) ≡ map (number_in names) (undone_inputs hs)
numbers_together names [] = refl
numbers_together names (h ∷ hs) =
    ap (λ ns. undone_numbers names h ++ ns) (numbers_together names hs)
    ∙ sym (map-append (number_in names) (undone_inputs (h ∷ [])) (undone_inputs hs))
    ∙ ap (map (number_in names)) (sym (undone-append (h ∷ []) hs))

module _ (lines : List NumberedLine) (fine : first_misnamed lines ≡ None) where
  -- a line more
  line_apart : (before : List NumberedLine) (line : Line) → name_fault lines before line ≡ None
      → AreApart (list_names lines) (undone_inputs (heads before))
      → AreApart (list_names lines) (undone_inputs (heads before) ++ undone_inputs (option_to_list (head_of line)))
  line_apart before (Transaction name input) e a =
      let list = list_is_fine lines before (Transaction name input) (over name Undone (input ∷ [])) e refl in
      let earlier : is_some (number_of (undone_inputs (heads before)) input.name) ≡ false =
      unless (is_some (number_of (undone_inputs (heads before)) input.name)) (record {
        column = input.column;
        kind =
            Second;
      })
      (first_none (second_fault (heads before) input) None list.second) in
      record {
        distinct = distinct_push bytes_eq (undone_inputs (heads before)) input.name a.distinct
            (none_such (λ other. bytes_eq other input.name) (undone_inputs (heads before)) earlier);
        known = all_append (IsKnown (list_names lines)) (undone_inputs (heads before)) (input.name ∷ []) a.known
            (list.inputs.0.known, tt);
      }
  line_apart before other e a = subst (AreApart (list_names lines))
      (sym (append-nil (undone_inputs (heads before)))) a

  inputs_apart : AreApart (list_names lines) (undone_inputs (heads lines))
  inputs_apart =
      one_by_one (naming lines) (λ before. AreApart (list_names lines) (undone_inputs (heads before)))
      (λ before l e a. subst (AreApart (list_names lines))
      (sym (ap undone_inputs (given_more (λ (k : NumberedLine). head_of k.what) before l)
      ∙ undone-append (heads before) (option_to_list (head_of l.what))))
      (line_apart before l.what (line_is_fine lines before l e) a))
      [] lines fine (record { distinct = none_distinct bytes_eq; known = tt })

  pub one_transaction_each : IsDistinct (λ a b. a == b) (undone_inputs_of (plan_of lines))
  one_transaction_each =
      subst (IsDistinct (λ a b. a == b))
      (sym (put_together (λ (d : ListDecl). undone_input d.kind) (plan_of lines).lists
      ∙ ap (flat_map (λ ns. ns)) (undone_are lines)
      ∙ numbers_together (list_names lines) (heads lines)))
      (numbers_distinct (list_names lines) (undone_inputs (heads lines)) inputs_apart)
