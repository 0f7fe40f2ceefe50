-- The pieces that lists are written in, one for each element.
use Rattle.std.specs.Prelude.{ℕ, List, ◌∷◌, ◌++◌, codes, decimal}
use Rattle.spec_lang.specs.Sorting.{Key}
use Rattle.spec_lang.specs.Func.{Func}
use Rattle.spec_lang.specs.Matcher.{Matcher}
use Rattle.spec_syntax.specs.Spelled.{spelled_key, spelled_func, is_joined, is_choice, enclosed_if, spelled_matcher}
use Rattle.spec_lines.specs.Spelled.{spelled_with}
use Rattle.gl_lines.specs.declared.named.Named.{Named}

abbrev pub spaced_name : Named → List ℕ
spaced_name n = 32 ∷ n.name

abbrev pub name_after_comma : Named → List ℕ
name_after_comma n = 44 ∷ n.name

abbrev pub step_after_dot : ℕ → List ℕ
step_after_dot i = 46 ∷ decimal i

abbrev pub key_after_comma : Key → List ℕ
key_after_comma key = codes ", " ++ spelled_key key

abbrev pub func_after_comma : Func → List ℕ
func_after_comma f = codes "," ++ spelled_func f

-- a part of an `and`
abbrev pub unit_text : Matcher → List ℕ
unit_text m = enclosed_if (is_joined m) (spelled_matcher m)

-- a part of an `or`
abbrev pub choice_text : Matcher → List ℕ
choice_text m = enclosed_if (is_choice m) (spelled_matcher m)

abbrev pub unit_after_and : Matcher → List ℕ
unit_after_and m = codes " and " ++ unit_text m

abbrev pub choice_after_or : Matcher → List ℕ
choice_after_or m = codes " or " ++ choice_text m

-- a word, the names after it, a space and what stands after that
abbrev pub with_tail : List ℕ → List Named → List ℕ → List ℕ
with_tail w names tail = spelled_with w names ++ codes " " ++ tail
