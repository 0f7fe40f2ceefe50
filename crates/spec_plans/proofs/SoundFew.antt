-- Lines that are not misplaced make a plan of few lists, listeners and writers.
use Rattle.std.proofs.Common.{◌≡◌, ◌∙◌, ℕ, ◌+◌, ◌≤◌, ◌==◌, ◌&&◌, ◌||◌, Bool, true, false, cond, List, [], ◌∷◌, ◌++◌, length, map, fold, Option, Some, None, refl, sym, ap, subst, arith, true≢false, length-append}
use Rattle.std.specs.Prelude.{filter_map, count_by}
use Rattle.std.specs.Option.{is_some}
use Rattle.std.specs.List.{cons_option}
use Rattle.std.proofs.lemmas.Bool.Decides.{nat_tests}
use Rattle.std.proofs.lemmas.Option.{none-some}
use Rattle.std.proofs.lemmas.List.Recursion.{is_count_by}
use Rattle.std.proofs.lemmas.List.Sums.{sum_by-append}
use Rattle.spec_value.specs.Tree.{Tree}
use Rattle.gl_lines.specs.declared.line.Line.{Line}
use Rattle.gl_lines.specs.declared.line.Line.TheVariants.{Writer}
use Rattle.gl_lines.specs.declared.line.NumberedLine.{NumberedLine}
use Rattle.gl_lines.specs.declared.fault.PlanKind.{PlanKind}
use Rattle.gl_lines.specs.declared.fault.PlanKind.TheVariants.{Place, Many}
use Rattle.spec_plans.specs.declared.part.Part.{Part}
use Rattle.spec_plans.specs.declared.part.Part.TheVariants as parts
use Rattle.spec_plans.specs.Lines.{head_of, hearer_of, is_list, is_listener, is_writer}
use Rattle.spec_plans.specs.Names.{list_names, listener_names}
use Rattle.spec_plans.specs.Place.{count_lines, is_out_of_place, is_too_many, place_fault, misplacing, first_misplaced}
use Rattle.spec_plans.specs.Plan.{Plan}
use Rattle.spec_plans.specs.Making.{rows_for, part_of, with_last, with_part, empty_plan, plan_of}
use Rattle.spec_plans.proofs.Said.{one_by_one}
use Rattle.spec_plans.proofs.Made.{part, as_many_lists, as_many_listeners}
use Rattle.spec_basics.proofs.Booleans.{left_false, right_false}
use Rattle.spec_basics.proofs.Options.{unmapped}

pub not_many : (out many : Bool) → cond out (Some Place) (cond many (Some Many) None) ≡ None → many ≡ false
not_many true many e = absurd (none-some Place (sym e))
not_many false true e = absurd (none-some Many (sym e))
not_many false false e = refl

-- one more of a sort of which there are not too many
pub one_more : (n most : ℕ) (t : Bool) → n ≤ most → (t && (n == most)) ≡ false → n + cond t 1 0 ≤ most
one_more n most false few e = omega (arith, few)
one_more n most true few e = by (n == most) refl
  where
    by : (s : Bool) → (n == most) ≡ s → n + 1 ≤ most
    by true h = absurd (true≢false (sym h ∙ e))
    by false h = grind (arith, nat_tests)

-- lines of a sort of which there are at most so many
few_of : (sort : Line → Bool) (most : ℕ) → ((before : List NumberedLine) (line : Line)
    → is_too_many before line ≡ false → (sort line && (count_lines sort before == most)) ≡ false)
    → (lines : List NumberedLine) → first_misplaced lines ≡ None → count_lines sort lines ≤ most
few_of sort most told lines e = one_by_one misplacing (λ before. count_lines sort before ≤ most) more [] lines e
    (omega arith)
  where
    more : (before : List NumberedLine) (l : NumberedLine) → misplacing before l ≡ None
        → count_lines sort before ≤ most → count_lines sort (before ++ l ∷ []) ≤ most
    more before l f few =
        let here : place_fault before l.what ≡ None = unmapped (λ (k : PlanKind). record { line = l.line; kind = k })
        (place_fault before l.what) f in
        let fits : (sort l.what && (count_lines sort before == most))
        ≡ false = told before l.what (not_many (is_out_of_place before l.what)
        (is_too_many before l.what) here) in
        omega (
          arith,
          sum_by-append (λ (k : NumberedLine). cond (sort k.what) 1 0) before (l ∷ []),
          one_more
              (count_lines sort before) most (sort l.what) few fits,
        )

-- one too many of a sort
abbrev past : (Line → Bool) → ℕ → List NumberedLine → Line → Bool
past sort most before line = sort line && (count_lines sort before == most)

one_given : {Y : Type 0} (o : Option Y) (t : Bool) (ys : List Y) → is_some o ≡ t
    → length (cons_option o ys) ≡ cond t (1 + length ys) (length ys)
one_given None t ys e = subst (λ s. length ys ≡ cond s (1 + length ys) (length ys)) e refl
one_given (Some y) t ys e = subst (λ s. length (y ∷ ys) ≡ cond s (1 + length ys) (length ys)) e (omega arith)

counted : {X Y : Type 0} (h : X → Option Y) (test : X → Bool) → ((x : X) → is_some (h x) ≡ test x) → (xs : List X)
    → length (filter_map h xs) ≡ count_by test xs
counted h test same xs = is_count_by (λ ys. length (filter_map h ys)) test refl
    (λ x ys. one_given (h x) (test x) (filter_map h ys) (same x)) xs

-- writers
abbrev writer_part : Part → Option ℕ
writer_part parts.Writer = Some 0
writer_part other = None

length-with_last : {X : Type 0} (f : X → X) (xs : List X) → length (with_last f xs) ≡ length xs
length-with_last f [] = refl
length-with_last f (x ∷ []) = refl
length-with_last f (x ∷ y ∷ ys) = omega (arith, length-with_last f (y ∷ ys))

writer_added : (p : Plan) (x : Part) (xs : List ℕ) → length (with_part p x).writers + length xs
    ≡ length p.writers + length (cons_option (writer_part x) xs)
writer_added p (parts.Limit limit) xs = refl
writer_added p (parts.List d) xs = refl
writer_added p (parts.Listener d) xs = refl
writer_added p parts.Writer xs = omega (arith, length-append p.writers ([] ∷ []))
writer_added p parts.Section xs = ap (λ n. n + length xs)
    (length-with_last (λ sections. sections ++ [] ∷ []) p.writers)
writer_added p (parts.Command c) xs = ap (λ n. n + length xs)
    (length-with_last (with_last (λ commands. commands ++ c ∷ [])) p.writers)
writer_added p parts.Elsewhere xs = refl

writers_added : {A : Type 0} (add : A → Part) (p : Plan) (xs : List A)
    → length (fold with_part p (map add xs)).writers ≡ length p.writers + length
    (filter_map (λ x. writer_part (add x)) xs)
writers_added add p [] = omega arith
writers_added add p (x ∷ xs) = writers_added add (with_part p (add x)) xs
    ∙ writer_added p (add x) (filter_map (λ y. writer_part (add y)) xs)

writer_made : (lists listeners : List (List ℕ)) (rows : ℕ → List Tree) (line : Line)
    → is_some (writer_part (part_of lists listeners rows line)) ≡ is_writer line
writer_made lists listeners rows Writer = refl
writer_made lists listeners rows other = refl

module _ (lines : List NumberedLine) (fine : first_misplaced lines ≡ None) where
  pub few_lists_made : length (plan_of lines).lists ≤ 256
  few_lists_made =
      subst (λ n. n ≤ 256) (sym (as_many_lists lines ∙ counted (λ (l : NumberedLine). head_of l.what)
      (λ l. is_list l.what) (λ l. refl) lines))
      (few_of is_list 256 (λ before line h. left_false (past is_list 256 before line)
      (past is_listener 256 before line)
      (left_false (past is_list 256 before line || past is_listener 256 before line)
      (past is_writer 64 before line) h)) lines fine)

  pub few_listeners_made : length (plan_of lines).listeners ≤ 256
  few_listeners_made =
      subst (λ n. n ≤ 256) (sym (as_many_listeners lines ∙ counted (λ (l : NumberedLine). hearer_of l.what)
      (λ l. is_listener l.what) (λ l. refl) lines))
      (few_of is_listener 256 (λ before line h. right_false (past is_list 256 before line)
      (past is_listener 256 before line)
      (left_false (past is_list 256 before line || past is_listener 256 before line)
      (past is_writer 64 before line) h)) lines fine)

  pub few_writers_made : length (plan_of lines).writers ≤ 64
  few_writers_made =
      let given : ℕ = length (filter_map (λ (l : NumberedLine). writer_part (part lines l)) lines) in
      let as_many : length (plan_of lines).writers ≡ 0 + given = writers_added (part lines) empty_plan lines in
      let of_sort : given ≡ count_lines is_writer lines =
      counted (λ (l : NumberedLine). writer_part (part lines l)) (λ l. is_writer l.what)
      (λ l. writer_made (list_names lines) (listener_names lines) (rows_for (list_names lines) lines) l.what) lines in
      let few : count_lines is_writer lines ≤ 64 =
      few_of is_writer 64 (λ before line h. right_false (past is_list 256 before line || past is_listener 256 before
      line) (past is_writer 64 before line) h) lines fine in
      omega (arith, as_many, of_sort, few)
