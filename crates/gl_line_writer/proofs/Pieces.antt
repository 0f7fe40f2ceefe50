-- What is written piece by piece is the spelling of the list.
use Rattle.std.proofs.Common.{◌≡◌, ◌∙◌, ◌≤◌, ℕ, List, [], ◌∷◌, ◌++◌, length, take, refl, ap}
use Rattle.std.proofs.lemmas.List.{take_all}
use Rattle.std.specs.List.{flat_map}
use Rattle.spec_lang.specs.Sorting.{Key}
use Rattle.spec_lang.specs.Func.{Func, funcs}
use Rattle.spec_lang.specs.Matcher.{Matcher, matchers}
use Rattle.spec_syntax.specs.Spelled.{spelled_steps, spelled_keys, spelled_other_funcs, spelled_other_units, spelled_other_choices}
use Rattle.spec_lines.specs.Spelled.{spelled_names, spelled_others}
use Rattle.gl_lines.specs.declared.named.Named.{Named}
use Rattle.gl_line_writer.specs.Pieces.{spaced_name, name_after_comma, step_after_dot, key_after_comma, func_after_comma, unit_after_and, choice_after_or}

pub names_are : (ns : List Named) → flat_map spaced_name ns ≡ spelled_names ns
names_are [] = refl
names_are (n ∷ ns) = ap (λ x. spaced_name n ++ x) (names_are ns)

pub others_are : (ns : List Named) → flat_map name_after_comma ns ≡ spelled_others ns
others_are [] = refl
others_are (n ∷ ns) = ap (λ x. name_after_comma n ++ x) (others_are ns)

pub steps_are : (steps : List ℕ) → flat_map step_after_dot steps ≡ spelled_steps steps
steps_are [] = refl
steps_are (i ∷ steps) = ap (λ x. step_after_dot i ++ x) (steps_are steps)

pub keys_are : (keys : List Key) → flat_map key_after_comma keys ≡ spelled_keys keys
keys_are [] = refl
keys_are (k ∷ keys) = ap (λ x. key_after_comma k ++ x) (keys_are keys)

pub other_funcs_are : (fs : List Func) → flat_map func_after_comma fs ≡ spelled_other_funcs (funcs fs)
other_funcs_are [] = refl
other_funcs_are (f ∷ fs) = ap (λ x. func_after_comma f ++ x) (other_funcs_are fs)

pub other_units_are : (ms : List Matcher) → flat_map unit_after_and ms ≡ spelled_other_units (matchers ms)
other_units_are [] = refl
other_units_are (m ∷ ms) = ap (λ x. unit_after_and m ++ x) (other_units_are ms)

pub other_choices_are : (ms : List Matcher) → flat_map choice_after_or ms ≡ spelled_other_choices (matchers ms)
other_choices_are [] = refl
other_choices_are (m ∷ ms) = ap (λ x. choice_after_or m ++ x) (other_choices_are ms)

-- all pieces are written
pub all_written : {X : Type 0} (piece : X → List ℕ) (whole : List X → List ℕ) → ((xs : List X) → flat_map piece xs ≡ whole xs) → (out start : List ℕ) (xs : List X) (n : ℕ) → length xs ≤ n → out ≡ start ++ flat_map piece (take n xs) → out ≡ start ++ whole xs
all_written piece whole are out start xs n ends so_far = so_far ∙ ap (λ ys. start ++ flat_map piece ys) (take_all n xs ends) ∙ ap (λ ys. start ++ ys) (are xs)
