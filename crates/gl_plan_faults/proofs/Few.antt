-- Lines that are not misplaced declare few lists and listeners.
use Rattle.std.proofs.Common.{◌≡◌, ℕ, ◌+◌, ◌≤◌, ◌==◌, ◌&&◌, ◌||◌, Bool, true, false, cond, List, [], ◌∷◌, ◌++◌, length, Option, Some, None, refl, sym, subst, ◌∙◌, arith, true≢false, append-nil, append_assoc}
use Rattle.std.specs.Prelude.{option_map, filter_map, count_by}
use Rattle.std.specs.Option.{is_some, option_or}
use Rattle.std.specs.List.{cons_option}
use Rattle.std.proofs.lemmas.Bool.Decides.{nat_tests}
use Rattle.std.proofs.lemmas.Option.{none-some}
use Rattle.std.proofs.lemmas.List.Recursion.{is_count_by}
use Rattle.std.proofs.lemmas.List.Sums.{sum_by-append}
use Rattle.gl_lines.specs.declared.line.Line.{Line}
use Rattle.gl_lines.specs.declared.line.NumberedLine.{NumberedLine}
use Rattle.gl_lines.specs.declared.fault.PlanKind.{PlanKind}
use Rattle.gl_lines.specs.declared.fault.PlanKind.TheVariants.{Place, Many}
use Rattle.spec_plans.specs.Along.{first_after}
use Rattle.spec_plans.specs.Lines.{head_of, hearer_of, is_list, is_listener, is_writer}
use Rattle.spec_plans.specs.Place.{count_lines, is_out_of_place, is_too_many, place_fault, misplacing, first_misplaced}
use Rattle.spec_plans.specs.Names.{heads, hearers}
use Rattle.spec_basics.proofs.Booleans.{left_false, right_false}
use Rattle.spec_basics.proofs.Options.{first_none, second_none, unmapped}
use Rattle.spec_plans.proofs.SoundFew.{not_many, one_more}

module _ (p : Line → Bool) (most : ℕ) (told : (before : List NumberedLine) (line : Line) → is_too_many before line ≡ false → (p line && (count_lines p before == most)) ≡ false) where
  few_after : (before rest : List NumberedLine) → count_lines p before ≤ most → first_after misplacing before rest ≡ None → count_lines p (before ++ rest) ≤ most
  few_after before [] few e = subst (λ ls. count_lines p ls ≤ most) (sym (append-nil before)) few
  few_after before (l ∷ ls) few e =
      let here : place_fault before l.what ≡ None = unmapped (λ (k : PlanKind). record { line = l.line; kind = k }) (place_fault before l.what) (first_none (misplacing before l) (first_after misplacing (before ++ l ∷ []) ls) e) in
      let fits : (p l.what && (count_lines p before == most)) ≡ false = told before l.what (not_many (is_out_of_place before l.what) (is_too_many before l.what) here) in
      let more : count_lines p (before ++ l ∷ []) ≤ most =
      omega (arith, sum_by-append (λ (k : NumberedLine). cond (p k.what) 1 0) before (l ∷ []), one_more (count_lines p before) most (p l.what) few fits) in
      subst (λ ks. count_lines p ks ≤ most) (append_assoc before (l ∷ []) ls)
      (few_after (before ++ l ∷ []) ls more (second_none (misplacing before l) (first_after misplacing (before ++ l ∷ []) ls) e))

one_given : {Y : Type 0} (o : Option Y) (ys : List Y) → length (cons_option o ys) ≡ cond (is_some o) (1 + length ys) (length ys)
one_given None ys = refl
one_given (Some y) ys = omega arith

counted : {X Y : Type 0} (h : X → Option Y) (xs : List X) → length (filter_map h xs) ≡ count_by (λ x. is_some (h x)) xs
counted h xs = is_count_by (λ ys. length (filter_map h ys)) (λ x. is_some (h x)) refl (λ x ys. one_given (h x) (filter_map h ys)) xs

-- what is false of one that is not too many
abbrev none_of : (Line → Bool) → ℕ → List NumberedLine → Line → Bool
none_of p most before line = p line && (count_lines p before == most)

pub few_lists_in : (lines : List NumberedLine) → first_misplaced lines ≡ None → length (heads lines) ≤ 256
few_lists_in lines e =
    subst (λ n. n ≤ 256) (sym (counted (λ (l : NumberedLine). head_of l.what) lines))
    (few_after is_list 256 (λ before line h. left_false (none_of is_list 256 before line) (none_of is_listener 256 before line)
    (left_false (none_of is_list 256 before line || none_of is_listener 256 before line) (none_of is_writer 64 before line) h)) [] lines (omega arith) e)

pub few_listeners_in : (lines : List NumberedLine) → first_misplaced lines ≡ None → length (hearers lines) ≤ 256
few_listeners_in lines e =
    subst (λ n. n ≤ 256) (sym (counted (λ (l : NumberedLine). hearer_of l.what) lines))
    (few_after is_listener 256 (λ before line h. right_false (none_of is_list 256 before line) (none_of is_listener 256 before line)
    (left_false (none_of is_list 256 before line || none_of is_listener 256 before line) (none_of is_writer 64 before line) h)) [] lines (omega arith) e)

pub few_writers_in : (lines : List NumberedLine) → first_misplaced lines ≡ None → count_lines is_writer lines ≤ 64
few_writers_in lines e =
    few_after is_writer 64 (λ before line h.
    right_false (none_of is_list 256 before line || none_of is_listener 256 before line) (none_of is_writer 64 before line) h) [] lines (omega arith) e
