-- Small cases of the definitions, worked out.
use Rattle.std.specs.Prelude.{◌≡◌, ℕ, pos, List, [], ◌∷◌, true, false, refl}
use Rattle.std.specs.declared.cmp.Ordering.TheVariants.{Less, Equal, Greater}
use Rattle.spec_value.specs.Tree.{Tree, num, text, items_of}
use Rattle.spec_lang.specs.declared.Test.TheVariants.{Eq, Lt, Le, Gt}
use Rattle.spec_lang.specs.Path.{at}
use Rattle.spec_lang.specs.Matcher.{Matcher, all, nothing, is, negation, both, either, matchers, accepts}
use Rattle.spec_lang.specs.Sorting.{Key, order_cmp}
use Rattle.spec_lang.specs.Func.{at_path, number, count, total, sum, list, funcs, eval}
use Rattle.spec_lang.specs.Kids.{kids}
use Rattle.spec_lang.specs.declared.EditKind.TheVariants.{Constrained, Relaxed, Changed}
use Rattle.spec_lang.specs.Kind.{kind}

-- [1,"a",[4,5]]
abbrev row : Tree
row = items_of (num (pos 1) ∷ text (97 ∷ []) ∷ items_of (num (pos 4) ∷ num (pos 5) ∷ []) ∷ [])

whole : at [] row ≡ row
whole = refl

inner : at (2 ∷ 1 ∷ []) row ≡ num (pos 5)
inner = refl

-- a text has no elements, and a list of two has none at 2
nowhere_in_a_text : at (1 ∷ 0 ∷ []) row ≡ items_of []
nowhere_in_a_text = refl

nowhere_past_the_end : at (2 ∷ 2 ∷ []) row ≡ items_of []
nowhere_past_the_end = refl

below_two : accepts (is (0 ∷ []) Lt (num (pos 2))) row ≡ true
below_two = refl

at_most_one : accepts (is (0 ∷ []) Le (num (pos 1))) row ≡ true
at_most_one = refl

-- where nothing is, the empty list is compared
missing_is_empty : accepts (is (9 ∷ []) Eq (items_of [])) row ≡ true
missing_is_empty = refl

one_of_two : accepts (either (matchers (nothing ∷ all ∷ []))) row ≡ true
one_of_two = refl

both_of_two : accepts (both (matchers (nothing ∷ all ∷ []))) row ≡ false
both_of_two = refl

inverse_round : accepts (negation nothing) row ≡ true
inverse_round = refl

abbrev up : List ℕ → Key
up path = record { path = path; down = false }

abbrev down : List ℕ → Key
down path = record { path = path; down = true }

-- [1,2] and [1,3]: the first key is the same, the second decides
second_key : order_cmp (up (0 ∷ []) ∷ up (1 ∷ []) ∷ []) (items_of (num (pos 1) ∷ num (pos 2) ∷ []))
    (items_of (num (pos 1) ∷ num (pos 3) ∷ [])) ≡ Less
second_key = refl

second_key_down : order_cmp (up (0 ∷ []) ∷ down (1 ∷ []) ∷ [])
    (items_of (num (pos 1) ∷ num (pos 2) ∷ [])) (items_of (num (pos 1) ∷ num (pos 3) ∷ []))
    ≡ Greater
second_key_down = refl

equal_keys : order_cmp (up (0 ∷ []) ∷ []) (items_of (num (pos 1) ∷ [])) row ≡ Equal
equal_keys = refl

counted : eval (count (2 ∷ [])) row ≡ num (pos 2)
counted = refl

-- a text has no elements to count
text_counts_none : eval (count (1 ∷ [])) row ≡ num (pos 0)
text_counts_none = refl

totalled : eval (total (2 ∷ []) []) row ≡ num (pos 9)
totalled = refl

-- what isn't a number counts 0
others_count_0 : eval (total [] []) row ≡ num (pos 1)
others_count_0 = refl

stops_at_the_end : eval (sum (number (pos 9223372036854775807)) (at_path (0 ∷ []))) row
    ≡ num (pos 9223372036854775807)
stops_at_the_end = refl

listed : eval (list (funcs (at_path (1 ∷ []) ∷ count [] ∷ []))) row
    ≡ items_of (text (97 ∷ []) ∷ num (pos 3) ∷ [])
listed = refl

children : kids (2 ∷ []) row ≡ num (pos 4) ∷ num (pos 5) ∷ []
children = refl

no_children : kids (1 ∷ []) row ≡ []
no_children = refl

-- .0 > 3, then that and .1 = "x", then the second alone, then everything
abbrev above_three : Matcher
above_three = is (0 ∷ []) Gt (num (pos 3))

abbrev is_x : Matcher
is_x = is (1 ∷ []) Eq (text (120 ∷ []))

constrained : kind above_three (both (matchers (above_three ∷ is_x ∷ []))) ≡ Constrained
constrained = refl

relaxed : kind (both (matchers (above_three ∷ is_x ∷ []))) is_x ≡ Relaxed
relaxed = refl

changed : kind above_three is_x ≡ Changed
changed = refl

from_nothing : kind nothing above_three ≡ Relaxed
from_nothing = refl

-- the same matcher again, and what `all` constrains
again : kind is_x is_x ≡ Constrained
again = refl

from_all : kind all is_x ≡ Constrained
from_all = refl
