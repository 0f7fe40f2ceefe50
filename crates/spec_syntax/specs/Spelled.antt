-- The one spelling of paths, orders, bounds, functions and matchers.
use Rattle.std.specs.Prelude.{ℕ, Bool, true, false, if◌then◌else◌, List, [], ◌∷◌, ◌++◌, codes, decimal}
use Rattle.std.specs.Fmt.{signed_decimal}
use Rattle.spec_value.specs.Tree.{text}
use Rattle.spec_syntax.specs.ValueText.{spelled_value}
use Rattle.spec_lang.specs.declared.Bounds.{Bounds}
use Rattle.spec_lang.specs.declared.Bounds.TheVariants.{Head, Tail, Middle}
use Rattle.spec_lang.specs.declared.Test.{Test}
use Rattle.spec_lang.specs.declared.Test.TheVariants.{Eq, Ne, Lt, Le, Gt, Ge}
use Rattle.spec_lang.specs.Sorting.{Key}
use Rattle.spec_lang.specs.Func.{Func, at_path, number, bytes, count, total, sum, list}
use Rattle.spec_lang.specs.Func as funcs
use Rattle.spec_lang.specs.Matcher as meant

-- steps with a dot before each
abbrev pub spelled_steps : List ℕ → List ℕ
spelled_steps [] = []
spelled_steps (i ∷ path) = 46 ∷ decimal i ++ spelled_steps path

-- the path with no step is a dot
abbrev pub spelled_path : List ℕ → List ℕ
spelled_path [] = codes "."
spelled_path (i ∷ path) = spelled_steps (i ∷ path)

abbrev pub spelled_key : Key → List ℕ
spelled_key key = (if key.down then codes "desc " else []) ++ spelled_path key.path

-- the keys after the first one
abbrev pub spelled_keys : List Key → List ℕ
spelled_keys [] = []
spelled_keys (key ∷ keys) = codes ", " ++ spelled_key key ++ spelled_keys keys

abbrev pub spelled_order : List Key → List ℕ
spelled_order [] = []
spelled_order (key ∷ keys) = spelled_key key ++ spelled_keys keys

abbrev pub spelled_bounds : Bounds → List ℕ
spelled_bounds (Head start end) = codes "head " ++ decimal start ++ codes " " ++ decimal end
spelled_bounds (Tail start end) = codes "tail " ++ decimal start ++ codes " " ++ decimal end
spelled_bounds (Middle start end) = codes "middle " ++ decimal start ++ codes " " ++ decimal end

abbrev mutual
  pub spelled_func : Func → List ℕ
  spelled_func (at_path path) = spelled_path path
  spelled_func (number n) = signed_decimal n
  spelled_func (bytes bs) = spelled_value (text bs)
  spelled_func (count path) = codes "count(" ++ spelled_path path ++ codes ")"
  spelled_func (total path each) =
      codes "sum(" ++ spelled_path path ++ codes "," ++ spelled_path each ++ codes ")"
  spelled_func (sum f g) =
      codes "add(" ++ spelled_func f ++ codes "," ++ spelled_func g ++ codes ")"
  spelled_func (list fs) = codes "[" ++ spelled_funcs fs ++ codes "]"

  -- the parts of a list, commas between them
  pub spelled_funcs : funcs.Funcs → List ℕ
  spelled_funcs funcs.none = []
  spelled_funcs (funcs.more f fs) = spelled_func f ++ spelled_other_funcs fs

  -- the parts after the first one
  pub spelled_other_funcs : funcs.Funcs → List ℕ
  spelled_other_funcs funcs.none = []
  spelled_other_funcs (funcs.more f fs) = codes "," ++ spelled_func f ++ spelled_other_funcs fs

-- a test between its spaces
abbrev pub spelled_test : Test → List ℕ
spelled_test Eq = codes " = "
spelled_test Ne = codes " != "
spelled_test Lt = codes " < "
spelled_test Le = codes " <= "
spelled_test Gt = codes " > "
spelled_test Ge = codes " >= "

-- what stands between parentheses inside an `and` and after a `not`
abbrev pub is_joined : meant.Matcher → Bool
is_joined meant.all = false
is_joined meant.nothing = false
is_joined (meant.is path test literal) = false
is_joined (meant.negation m) = false
is_joined (meant.both ms) = true
is_joined (meant.either ms) = true

-- what stands between parentheses inside an `or`
abbrev pub is_choice : meant.Matcher → Bool
is_choice meant.all = false
is_choice meant.nothing = false
is_choice (meant.is path test literal) = false
is_choice (meant.negation m) = false
is_choice (meant.both ms) = false
is_choice (meant.either ms) = true

-- between parentheses, or as it is
abbrev pub enclosed_if : Bool → List ℕ → List ℕ
enclosed_if true bs = codes "(" ++ bs ++ codes ")"
enclosed_if false bs = bs

-- Parentheses stand round an `and` and an `or` inside an `and` or a `not`, round an `or` inside an `or`, and nowhere else.
abbrev mutual
  pub spelled_matcher : meant.Matcher → List ℕ
  spelled_matcher meant.all = codes "all"
  spelled_matcher meant.nothing = codes "none"
  spelled_matcher (meant.is path test literal) =
      spelled_path path ++ spelled_test test ++ spelled_value literal
  spelled_matcher (meant.negation m) = codes "not " ++ enclosed_if (is_joined m) (spelled_matcher m)
  spelled_matcher (meant.both ms) = spelled_units ms
  spelled_matcher (meant.either ms) = spelled_choices ms

  -- the parts of an `and`
  pub spelled_units : meant.Matchers → List ℕ
  spelled_units meant.none = []
  spelled_units (meant.more m ms) =
      enclosed_if (is_joined m) (spelled_matcher m) ++ spelled_other_units ms

  pub spelled_other_units : meant.Matchers → List ℕ
  spelled_other_units meant.none = []
  spelled_other_units (meant.more m ms) =
      codes " and " ++ enclosed_if (is_joined m) (spelled_matcher m) ++ spelled_other_units ms

  -- the parts of an `or`
  pub spelled_choices : meant.Matchers → List ℕ
  spelled_choices meant.none = []
  spelled_choices (meant.more m ms) =
      enclosed_if (is_choice m) (spelled_matcher m) ++ spelled_other_choices ms

  pub spelled_other_choices : meant.Matchers → List ℕ
  spelled_other_choices meant.none = []
  spelled_other_choices (meant.more m ms) =
      codes " or " ++ enclosed_if (is_choice m) (spelled_matcher m) ++ spelled_other_choices ms
