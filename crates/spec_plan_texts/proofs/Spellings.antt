-- The spellings of values and of the language may stand in a line.
use Rattle.std.proofs.Common.{◌≤◌, ◌<◌, ◌^◌, ℕ, zero, suc, Bool, true, false, cond, List, [], ◌∷◌, ◌++◌, refl, arith, codes}
use Rattle.std.specs.Prelude.{decimal, flat_map}
use Rattle.std.specs.List.{AllByRecursion}
use Rattle.spec_plans.specs.Tree.{Tree, num, text, items, Trees, none, more}
use Rattle.spec_lang.specs.declared.Bounds.{Bounds}
use Rattle.spec_lang.specs.declared.Bounds.TheVariants.{Head, Tail, Middle}
use Rattle.spec_lang.specs.declared.Test.{Test}
use Rattle.spec_lang.specs.declared.Test.TheVariants.{Eq, Ne, Lt, Le, Gt, Ge}
use Rattle.spec_lang.specs.Sorting.{Key}
use Rattle.spec_lang.specs.Func as func
use Rattle.spec_lang.specs.Matcher as meant
use Rattle.spec_syntax.specs.ValueText.{spelled_byte, spelled_value, spelled_elements, spelled_others}
use Rattle.spec_syntax.specs.Proper.{IsProper, AreProper, IsPath, IsOrder, IsBounds, IsFunc, AreFuncs, IsMatcher, AreMatchers}
use Rattle.spec_syntax.specs.Spelled.{spelled_steps, spelled_path, spelled_key, spelled_keys, spelled_order, spelled_bounds, spelled_func, spelled_funcs, spelled_other_funcs, spelled_test, is_joined, is_choice, enclosed_if, spelled_matcher, spelled_units, spelled_other_units, spelled_choices, spelled_other_choices}
use Rattle.spec_plan_texts.proofs.Fine.{IsFine, fine_nil, fine_append}
use Rattle.spec_plan_texts.proofs.Leaves.{word_fine, decimal_fine, signed_fine, text_fine}

between : (u v w : List ℕ) → IsFine u → IsFine v → IsFine w → IsFine (u ++ v ++ w)
between u v w a b c = fine_append (u ++ v) w (fine_append u v a b) c

mutual
  pub value_fine : (v : Tree) → IsProper v → IsFine (spelled_value v)
  value_fine (num n) h = signed_fine n h
  value_fine (text bytes) h =
      fine_append (34 ∷ []) (flat_map spelled_byte bytes ++ 34 ∷ []) (word_fine (34 ∷ []) refl)
      (fine_append (flat_map spelled_byte bytes) (34 ∷ []) (text_fine bytes h) (word_fine (34 ∷ []) refl))
  value_fine (items ts) h =
      fine_append (91 ∷ []) (spelled_elements ts ++ 93 ∷ []) (word_fine (91 ∷ []) refl)
      (fine_append (spelled_elements ts) (93 ∷ []) (elements_fine ts h) (word_fine (93 ∷ []) refl))

  elements_fine : (ts : Trees) → AreProper ts → IsFine (spelled_elements ts)
  elements_fine none h = fine_nil
  elements_fine (more t ts) h = fine_append (spelled_value t) (spelled_others ts) (value_fine t h.0)
      (others_fine ts h.1)

  others_fine : (ts : Trees) → AreProper ts → IsFine (spelled_others ts)
  others_fine none h = fine_nil
  others_fine (more t ts) h =
      fine_append (44 ∷ []) (spelled_value t ++ spelled_others ts) (word_fine (44 ∷ []) refl)
      (fine_append (spelled_value t) (spelled_others ts) (value_fine t h.0) (others_fine ts h.1))

steps_fine : (path : List ℕ) → AllByRecursion (λ i. i ≤ 65535) path → IsFine (spelled_steps path)
steps_fine [] h = fine_nil
steps_fine (i ∷ path) h =
    fine_append (46 ∷ []) (decimal i ++ spelled_steps path) (word_fine (46 ∷ []) refl)
    (fine_append (decimal i) (spelled_steps path) (decimal_fine i (low i h.0)) (steps_fine path h.1))
  where
    low : (i : ℕ) → i ≤ 65535 → i < 2 ^ 64
    low i l = omega (arith, l)

pub path_fine : (path : List ℕ) → IsPath path → IsFine (spelled_path path)
path_fine [] h = word_fine (codes ".") refl
path_fine (i ∷ path) h = steps_fine (i ∷ path) h.1

key_fine : (key : Key) → IsPath key.path → IsFine (spelled_key key)
key_fine key h = fine_append _ (spelled_path key.path) (down key.down) (path_fine key.path h)
  where
    down : (d : Bool) → IsFine (cond d (codes "desc ") [])
    down true = word_fine (codes "desc ") refl
    down false = fine_nil

keys_fine : (keys : List Key) → AllByRecursion (λ (key : Key). IsPath key.path) keys → IsFine (spelled_keys keys)
keys_fine [] h = fine_nil
keys_fine (key ∷ keys) h = between (codes ", ") (spelled_key key) (spelled_keys keys) (word_fine (codes ", ") refl)
    (key_fine key h.0) (keys_fine keys h.1)

pub order_fine : (keys : List Key) → IsOrder keys → IsFine (spelled_order keys)
order_fine [] h = fine_nil
order_fine (key ∷ keys) h = fine_append (spelled_key key) (spelled_keys keys) (key_fine key h.2.0)
    (keys_fine keys h.2.1)

pub short_fine : (n : ℕ) → n ≤ 4294967295 → IsFine (decimal n)
short_fine n l = decimal_fine n (omega (arith, l))

ends_fine : (word : List ℕ) (start end : ℕ) → IsFine word → (start ≤ 4294967295) × (end ≤ 4294967295)
    → IsFine (word ++ decimal start ++ codes " " ++ decimal end)
ends_fine word start end w h =
    fine_append ((word ++ decimal start) ++ codes " ") (decimal end)
    (between word (decimal start) (codes " ") w (short_fine start h.0) (word_fine (codes " ") refl))
    (short_fine end h.1)

pub bounds_fine : (b : Bounds) → IsBounds b → IsFine (spelled_bounds b)
bounds_fine (Head start end) h = ends_fine (codes "head ") start end (word_fine (codes "head ") refl) h
bounds_fine (Tail start end) h = ends_fine (codes "tail ") start end (word_fine (codes "tail ") refl) h
bounds_fine (Middle start end) h = ends_fine (codes "middle ") start end (word_fine (codes "middle ") refl) h

pair_fine : (word u v : List ℕ) → IsFine word → IsFine u → IsFine v → IsFine (word ++ u ++ codes "," ++ v ++ codes ")")
pair_fine word u v w h k = between ((word ++ u) ++ codes ",") v (codes ")")
    (between word u (codes ",") w h (word_fine (codes ",") refl)) k (word_fine (codes ")") refl)

mutual
  pub func_fine : (f : func.Func) (depth : ℕ) → IsFunc depth f → IsFine (spelled_func f)
  func_fine (func.at_path path) depth h = path_fine path h
  func_fine (func.number n) depth h = signed_fine n h
  func_fine (func.bytes bs) depth h = value_fine (text bs) h
  func_fine (func.count path) depth h = between (codes "count(") (spelled_path path) (codes ")")
      (word_fine (codes "count(") refl) (path_fine path h) (word_fine (codes ")") refl)
  func_fine (func.total path each) depth h = pair_fine (codes "sum(") (spelled_path path) (spelled_path each)
      (word_fine (codes "sum(") refl) (path_fine path h.0) (path_fine each h.1)
  func_fine (func.sum f g) zero h = absurd h
  func_fine (func.sum f g) (suc depth) h = pair_fine (codes "add(") (spelled_func f) (spelled_func g)
      (word_fine (codes "add(") refl) (func_fine f depth h.0) (func_fine g depth h.1)
  func_fine (func.list fs) zero h = absurd h
  func_fine (func.list fs) (suc depth) h = between (codes "[") (spelled_funcs fs) (codes "]")
      (word_fine (codes "[") refl) (funcs_fine fs depth h) (word_fine (codes "]") refl)

  funcs_fine : (fs : func.Funcs) (depth : ℕ) → AreFuncs depth fs → IsFine (spelled_funcs fs)
  funcs_fine func.none depth h = fine_nil
  funcs_fine (func.more f fs) depth h = fine_append (spelled_func f) (spelled_other_funcs fs) (func_fine f depth h.0)
      (other_funcs_fine fs depth h.1)

  other_funcs_fine : (fs : func.Funcs) (depth : ℕ) → AreFuncs depth fs → IsFine (spelled_other_funcs fs)
  other_funcs_fine func.none depth h = fine_nil
  other_funcs_fine (func.more f fs) depth h = between (codes ",") (spelled_func f) (spelled_other_funcs fs)
      (word_fine (codes ",") refl) (func_fine f depth h.0) (other_funcs_fine fs depth h.1)

test_fine : (t : Test) → IsFine (spelled_test t)
test_fine Eq = word_fine (codes " = ") refl
test_fine Ne = word_fine (codes " != ") refl
test_fine Lt = word_fine (codes " < ") refl
test_fine Le = word_fine (codes " <= ") refl
test_fine Gt = word_fine (codes " > ") refl
test_fine Ge = word_fine (codes " >= ") refl

enclosed_fine : (b : Bool) (bs : List ℕ) → IsFine bs → IsFine (enclosed_if b bs)
enclosed_fine true bs h = between (codes "(") bs (codes ")") (word_fine (codes "(") refl) h (word_fine (codes ")") refl)
enclosed_fine false bs h = h

mutual
  pub matcher_fine : (m : meant.Matcher) → IsMatcher m → IsFine (spelled_matcher m)
  matcher_fine meant.all h = word_fine (codes "all") refl
  matcher_fine meant.nothing h = word_fine (codes "none") refl
  matcher_fine (meant.is path test literal) h = between (spelled_path path) (spelled_test test)
      (spelled_value literal) (path_fine path h.0) (test_fine test) (value_fine literal h.1)
  matcher_fine (meant.negation m) h =
      fine_append (codes "not ") (enclosed_if (is_joined m) (spelled_matcher m)) (word_fine (codes "not ") refl)
      (enclosed_fine (is_joined m) (spelled_matcher m) (matcher_fine m h))
  matcher_fine (meant.both ms) h = units_fine ms h.1
  matcher_fine (meant.either ms) h = choices_fine ms h.1

  units_fine : (ms : meant.Matchers) → AreMatchers ms → IsFine (spelled_units ms)
  units_fine meant.none h = fine_nil
  units_fine (meant.more m ms) h =
      fine_append (enclosed_if (is_joined m) (spelled_matcher m)) (spelled_other_units ms)
      (enclosed_fine (is_joined m) (spelled_matcher m) (matcher_fine m h.0)) (other_units_fine ms h.1)

  other_units_fine : (ms : meant.Matchers) → AreMatchers ms → IsFine (spelled_other_units ms)
  other_units_fine meant.none h = fine_nil
  other_units_fine (meant.more m ms) h =
      between (codes " and ") (enclosed_if (is_joined m) (spelled_matcher m)) (spelled_other_units ms)
      (word_fine (codes " and ") refl)
      (enclosed_fine (is_joined m) (spelled_matcher m) (matcher_fine m h.0)) (other_units_fine ms h.1)

  choices_fine : (ms : meant.Matchers) → AreMatchers ms → IsFine (spelled_choices ms)
  choices_fine meant.none h = fine_nil
  choices_fine (meant.more m ms) h =
      fine_append (enclosed_if (is_choice m) (spelled_matcher m)) (spelled_other_choices ms)
      (enclosed_fine (is_choice m) (spelled_matcher m) (matcher_fine m h.0)) (other_choices_fine ms h.1)

  other_choices_fine : (ms : meant.Matchers) → AreMatchers ms → IsFine (spelled_other_choices ms)
  other_choices_fine meant.none h = fine_nil
  other_choices_fine (meant.more m ms) h =
      between (codes " or ") (enclosed_if (is_choice m) (spelled_matcher m)) (spelled_other_choices ms)
      (word_fine (codes " or ") refl)
      (enclosed_fine (is_choice m) (spelled_matcher m) (matcher_fine m h.0)) (other_choices_fine ms h.1)
