-- Matchers, and what they accept.
use Rattle.std.specs.Prelude.{ℕ, ◌+◌, List, [], ◌∷◌, Bool, true, false, not, ◌&&◌, ◌||◌}
use Rattle.std.specs.declared.cmp.Ordering.{Ordering}
use Rattle.std.specs.Ordering.{is_eq, is_ne, is_lt, is_le, is_gt, is_ge}
use Rattle.spec_value.specs.Tree.{Tree}
use Rattle.spec_value.specs.Order.{cmp}
use Rattle.spec_lang.specs.declared.Test.{Test}
use Rattle.spec_lang.specs.declared.Test.TheVariants.{Eq, Ne, Lt, Le, Gt, Ge}
use Rattle.spec_lang.specs.Path.{at}

mutual
  -- everything; nothing; what the path gives, compared with a literal; not this; all of these; one of these
  pub data Matcher : Type 0 where
    all : Matcher
    nothing : Matcher
    is : List ℕ → Test → Tree → Matcher
    negation : Matcher → Matcher
    both : Matchers → Matcher
    either : Matchers → Matcher

  pub data Matchers : Type 0 where
    none : Matchers
    more : Matcher → Matchers → Matchers

-- a list of matchers as what a matcher holds
abbrev pub matchers : List Matcher → Matchers
matchers [] = none
matchers (m ∷ ms) = more m (matchers ms)

-- the matchers that it holds, as a list
abbrev pub listed : Matchers → List Matcher
listed none = []
listed (more m ms) = m ∷ listed ms

-- the test of a comparison's answer
abbrev pub passes : Test → Ordering → Bool
passes Eq o = is_eq o
passes Ne o = is_ne o
passes Lt o = is_lt o
passes Le o = is_le o
passes Gt o = is_gt o
passes Ge o = is_ge o

abbrev mutual
  pub accepts : Matcher → Tree → Bool
  accepts all v = true
  accepts nothing v = false
  accepts (is path test literal) v = passes test (cmp (at path v) literal)
  accepts (negation m) v = not (accepts m v)
  accepts (both ms) v = all_accept ms v
  accepts (either ms) v = some_accepts ms v

  pub all_accept : Matchers → Tree → Bool
  all_accept none v = true
  all_accept (more m ms) v = accepts m v && all_accept ms v

  pub some_accepts : Matchers → Tree → Bool
  some_accepts none v = false
  some_accepts (more m ms) v = accepts m v || some_accepts ms v

abbrev mutual
  -- how many matchers stand inside a matcher, at any depth
  pub matcher_size : Matcher → ℕ
  matcher_size all = 0
  matcher_size nothing = 0
  matcher_size (is path test literal) = 0
  matcher_size (negation m) = matcher_size m + 1
  matcher_size (both ms) = matchers_size ms
  matcher_size (either ms) = matchers_size ms

  pub matchers_size : Matchers → ℕ
  matchers_size none = 0
  matchers_size (more m ms) = matcher_size m + 1 + matchers_size ms
