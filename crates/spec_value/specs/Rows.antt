-- Small cases of the definitions, worked out.
use Rattle.std.specs.Prelude.{◌≡◌, pos, negsuc, [], ◌∷◌, refl, codes, true, false}
use Rattle.std.specs.declared.cmp.Ordering.TheVariants.{Less, Equal, Greater}
use Rattle.spec_value.specs.Tree.{Tree, num, text, items_of, nesting, tree_size}
use Rattle.spec_value.specs.Order.{cmp}
use Rattle.spec_value.specs.Name.{is_name}

-- [1,"a",[]]
abbrev row : Tree
row = items_of (num (pos 1) ∷ text (97 ∷ []) ∷ items_of [] ∷ [])

the_nesting : nesting row ≡ 2
the_nesting = refl

the_empty_nesting : nesting (items_of []) ≡ 1
the_empty_nesting = refl

the_size : tree_size row ≡ 3
the_size = refl

-- a number is before a text, and a text before a list
number_before_text : cmp (num (pos 9)) (text []) ≡ Less
number_before_text = refl

text_before_list : cmp (text (122 ∷ [])) (items_of []) ≡ Less
text_before_list = refl

-- numbers go by size, negative ones below zero
negative_first : cmp (num (negsuc 0)) (num (pos 0)) ≡ Less
negative_first = refl

-- "b" is after "abc", and "a" before "ab"
by_bytes : cmp (text (98 ∷ [])) (text (97 ∷ 98 ∷ 99 ∷ [])) ≡ Greater
by_bytes = refl

text_prefix_first : cmp (text (97 ∷ [])) (text (97 ∷ 98 ∷ [])) ≡ Less
text_prefix_first = refl

-- [1] is before [1,0], and [2] after [1,9]
prefix_first : cmp (items_of (num (pos 1) ∷ [])) (items_of (num (pos 1) ∷ num (pos 0) ∷ [])) ≡ Less
prefix_first = refl

by_first_difference : cmp (items_of (num (pos 2) ∷ [])) (items_of (num (pos 1) ∷ num (pos 9) ∷ []))
    ≡ Greater
by_first_difference = refl

same_is_equal : cmp row row ≡ Equal
same_is_equal = refl

-- `may` is no name, and no name begins with a digit
may_is_none : is_name (codes "may") ≡ false
may_is_none = refl

maya_is_one : is_name (codes "maya_7") ≡ true
maya_is_one = refl

digits_first : is_name (codes "7a") ≡ false
digits_first = refl

-- 32 bytes are the most
long_name : is_name (codes "a2345678901234567890123456789012") ≡ true
long_name = refl

too_long : is_name (codes "a23456789012345678901234567890123") ≡ false
too_long = refl
