-- Values as the code has them, with numbers of 64 bits and texts of UTF-8, and the limits of the language.
use Rattle.std.specs.Prelude.{◌+◌, ◌≤◌, ◌<◌, ℕ, zero, suc, Bool, true, false, max, List, length, IsUtf8, FitsSigned}
use Rattle.std.specs.List.{AllByRecursion}
use Rattle.std.specs.Int.{w64}
use Rattle.spec_lang.specs.declared.Bounds.{Bounds}
use Rattle.spec_lang.specs.declared.Bounds.TheVariants.{Head, Tail, Middle}
use Rattle.spec_lang.specs.Sorting.{Key}
use Rattle.spec_lang.specs.Func as func
use Rattle.spec_lang.specs.Matcher as matcher
use Rattle.spec_value.specs.Tree.{Tree, num, text, items, Trees, none, more, nesting}
use Rattle.spec_syntax.specs.Spelled.{is_joined, is_choice}

abbrev mutual
  pub IsProper : Tree → Type 0
  IsProper (num n) = FitsSigned w64 n
  IsProper (text bytes) = IsUtf8 bytes
  IsProper (items ts) = AreProper ts

  pub AreProper : Trees → Type 0
  AreProper none = Unit {0}
  AreProper (more t ts) = IsProper t × AreProper ts

-- at most 16 steps, of 16 bits
abbrev pub IsPath : List ℕ → Type 0
IsPath path = (length path ≤ 16) × AllByRecursion (λ i. i ≤ 65535) path

-- 1 to 8 keys
abbrev pub IsOrder : List Key → Type 0
IsOrder keys = (0 < length keys) × (length keys ≤ 8) × AllByRecursion (λ key. IsPath key.path) keys

-- numbers of 32 bits
abbrev pub IsBounds : Bounds → Type 0
IsBounds (Head start end) = (start ≤ 4294967295) × (end ≤ 4294967295)
IsBounds (Tail start end) = (start ≤ 4294967295) × (end ≤ 4294967295)
IsBounds (Middle start end) = (start ≤ 4294967295) × (end ≤ 4294967295)

abbrev mutual
  -- a function nested at most so deep
  pub IsFunc : ℕ → func.Func → Type 0
  IsFunc depth (func.at_path path) = IsPath path
  IsFunc depth (func.number n) = FitsSigned w64 n
  IsFunc depth (func.bytes bs) = IsUtf8 bs
  IsFunc depth (func.count path) = IsPath path
  IsFunc depth (func.total path each) = IsPath path × IsPath each
  IsFunc zero (func.sum f g) = ⊥
  IsFunc (suc depth) (func.sum f g) = IsFunc depth f × IsFunc depth g
  IsFunc zero (func.list fs) = ⊥
  IsFunc (suc depth) (func.list fs) = AreFuncs depth fs

  pub AreFuncs : ℕ → func.Funcs → Type 0
  AreFuncs depth func.none = Unit {0}
  AreFuncs depth (func.more f fs) = IsFunc depth f × AreFuncs depth fs

abbrev mutual
  -- an `and` and an `or` have two parts at least, and literals nest at most 64 deep
  pub IsMatcher : matcher.Matcher → Type 0
  IsMatcher matcher.all = Unit {0}
  IsMatcher matcher.nothing = Unit {0}
  IsMatcher (matcher.is path test literal) = IsPath path × IsProper literal × (nesting literal ≤ 64)
  IsMatcher (matcher.negation m) = IsMatcher m
  IsMatcher (matcher.both ms) = (2 ≤ length (matcher.listed ms)) × AreMatchers ms
  IsMatcher (matcher.either ms) = (2 ≤ length (matcher.listed ms)) × AreMatchers ms

  pub AreMatchers : matcher.Matchers → Type 0
  AreMatchers matcher.none = Unit {0}
  AreMatchers (matcher.more m ms) = IsMatcher m × AreMatchers ms

-- one deeper between parentheses
abbrev pub deeper_if : Bool → ℕ → ℕ
deeper_if true n = n + 1
deeper_if false n = n

abbrev mutual
  -- how deep the one spelling of a matcher nests: one deeper after each `not` and between parentheses
  pub matcher_nesting : matcher.Matcher → ℕ
  matcher_nesting matcher.all = 0
  matcher_nesting matcher.nothing = 0
  matcher_nesting (matcher.is path test literal) = 0
  matcher_nesting (matcher.negation m) = deeper_if (is_joined m) (matcher_nesting m) + 1
  matcher_nesting (matcher.both ms) = units_nesting ms
  matcher_nesting (matcher.either ms) = choices_nesting ms

  -- that of the parts of an `and`
  pub units_nesting : matcher.Matchers → ℕ
  units_nesting matcher.none = 0
  units_nesting (matcher.more m ms) =
      max (deeper_if (is_joined m) (matcher_nesting m)) (units_nesting ms)

  -- that of the parts of an `or`
  pub choices_nesting : matcher.Matchers → ℕ
  choices_nesting matcher.none = 0
  choices_nesting (matcher.more m ms) =
      max (deeper_if (is_choice m) (matcher_nesting m)) (choices_nesting ms)
