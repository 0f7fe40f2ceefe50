-- Steps of the loop over lines that are judged.
use Rattle.std.proofs.Common.{◌≡◌, ℕ, ◌+◌, ◌<◌, ◌≤◌, List, [], ◌++◌, length, get_or, take, drop, Option, None, sym, ap, ◌∙◌, arith, length-append}
use Rattle.std.specs.Prelude.{option_to_list, map, if◌then◌else◌}
use Rattle.gl_lines.specs.declared.line.Line.{Line}
use Rattle.gl_lines.specs.declared.line.Line.TheVariants.{Transaction}
use Rattle.gl_lines.specs.declared.line.NumberedLine.{NumberedLine}
use Rattle.spec_plans.specs.Lines.{Head, head_of, hearer_of}
use Rattle.spec_plans.specs.Names.{heads, hearers}
use Rattle.spec_plans.specs.NameFaults.{undone_inputs, is_undone}
use Rattle.std.proofs.lemmas.List.Concat.{flat_map-append}
use Rattle.std.specs.Option.{option_or}
use Rattle.std.proofs.lemmas.List.{drop_more, take_more}
use Rattle.spec_plans.specs.Along.{first_after}
use Rattle.gl_plan_faults.specs.declared.passed.Passed.{Passed}
use Rattle.gl_plan_faults.specs.Passed.{HasPassed}
use Rattle.gl_plan_faults.proofs.Built.{given_more, given_few}

pub few_passed : (p : Passed) (lines : List NumberedLine) → HasPassed p lines → length (heads lines) ≤ 256 → p.lists < 4294967296
few_passed p lines has few = omega (arith, has.lists, given_few (λ (l : NumberedLine). head_of l.what) lines p.place)

pub few_heard : (p : Passed) (lines : List NumberedLine) → HasPassed p lines → length (hearers lines) ≤ 256 → p.listeners < 9223372036854775808
few_heard p lines has few = omega (arith, has.listeners, given_few (λ (l : NumberedLine). hearer_of l.what) lines p.place)

pub undone_few : (line : Line) → length (undone_inputs (option_to_list (head_of line))) ≤ length (option_to_list (head_of line))
undone_few (Transaction name input) = omega arith
undone_few line = omega arith

pub passed_more : (p more : Passed) (lines : List NumberedLine) (l : NumberedLine) → HasPassed p lines → p.place < length lines → l ≡ get_or lines p.place l
    → more.place ≡ p.place + 1
    → more.lists ≡ p.lists + length (option_to_list (head_of l.what))
    → more.listeners ≡ p.listeners + length (option_to_list (hearer_of l.what))
    → more.undone ≡ p.undone ++ undone_inputs (option_to_list (head_of l.what))
    → HasPassed more lines
passed_more p more lines l has within e place lists listeners undone =
    let hs : heads (take more.place lines) ≡ heads (take p.place lines) ++ option_to_list (head_of l.what) =
    ap (λ i. heads (take i lines)) place ∙ given_more (λ (k : NumberedLine). head_of k.what) lines p.place l within e in
    let rs : hearers (take more.place lines) ≡ hearers (take p.place lines) ++ option_to_list (hearer_of l.what) =
    ap (λ i. hearers (take i lines)) place ∙ given_more (λ (k : NumberedLine). hearer_of k.what) lines p.place l within e in
    record {
      within = omega (arith, place);
      lists = lists ∙ ap (λ n. n + length (option_to_list (head_of l.what))) has.lists
          ∙ sym (ap length hs ∙ length-append (heads (take p.place lines)) (option_to_list (head_of l.what)));
      listeners = listeners ∙ ap (λ n. n + length (option_to_list (hearer_of l.what))) has.listeners
          ∙ sym (ap length rs ∙ length-append (hearers (take p.place lines)) (option_to_list (hearer_of l.what)));
      undone = undone ∙ ap (λ us. us ++ undone_inputs (option_to_list (head_of l.what))) has.undone
          ∙ sym (ap undone_inputs hs ∙ undone-append (heads (take p.place lines)) (option_to_list (head_of l.what)));
      few = omega (arith, lists, ap length undone, length-append p.undone (undone_inputs (option_to_list (head_of l.what))), undone_few l.what, has.few);
    }
  where
    undone-append : (xs ys : List Head) → undone_inputs (xs ++ ys) ≡ undone_inputs xs ++ undone_inputs ys
    undone-append xs ys = flat_map-append (λ (h : Head). if is_undone h.class then map (λ input. input.name) h.inputs else []) xs ys

-- nothing is said of a line, so the next ones decide
pub nothing_said : {A B : Type 0} (say : List A → A → Option B) (xs : List A) (i : ℕ) (x : A) → i < length xs → x ≡ get_or xs i x → None ≡ say (take i xs) x
    → first_after say (take (i + 1) xs) (drop (i + 1) xs) ≡ first_after say (take i xs) (drop i xs)
nothing_said say xs i x l e none =
    sym (ap (first_after say (take i xs)) (drop_more xs i x l)
    ∙ ap (λ ys. option_or (say (take i xs) (get_or xs i x)) (first_after say ys (drop (i + 1) xs))) (sym (take_more xs i x l))
    ∙ ap (λ y. option_or (say (take i xs) y) (first_after say (take (i + 1) xs) (drop (i + 1) xs))) (sym e)
    ∙ ap (λ o. option_or o (first_after say (take (i + 1) xs) (drop (i + 1) xs))) (sym none))
