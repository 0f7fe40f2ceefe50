-- Small cases of the definitions, worked out.
use Rattle.std.specs.Prelude.{◌≡◌, ℕ, pos, codes, true, int_lt, Bool, false, List, [], ◌∷◌, refl}
use Rattle.spec_value.specs.Tree.{Tree, num, text, items, items_of}
use Rattle.spec_lists.specs.Piece.{kept, updated, deleted, inserted}
use Rattle.spec_lists.specs.Delta.{Delta, one_insert, one_set, one_remove, composed}
use Rattle.spec_lists.specs.Changes.{changes, delete, insertion, update}
use Rattle.spec_lang.specs.declared.Bounds.TheVariants.{Head, Tail, Middle}
use Rattle.spec_views.specs.Filter.{filter_view, filter_follow, filter_change}
use Rattle.spec_views.specs.Range.{range_view, range_follow, range_change}
use Rattle.spec_lang.specs.Sorting.{Key, order_cmp}
use Rattle.spec_lang.specs.Kids.{kids}
use Rattle.spec_views.specs.Arrangement.{Comparison}
use Rattle.spec_views.specs.Sorted.{sorted_view, sorted_follow, sorted_change}
use Rattle.spec_views.specs.Unique.{unique_view, unique_follow}
use Rattle.spec_views.specs.Grouping.{grouping_view, grouping_follow}
use Rattle.spec_views.specs.Collection.{collection_view, collection_follow}
use Rattle.spec_views.specs.Composite.{composite_follow, detach_told}

-- a value that is a number above 3
abbrev above_three : Tree → Bool
above_three (num n) = int_lt (pos 3) n
above_three (text bytes) = false
above_three (items values) = false

abbrev above_five : Tree → Bool
above_five (num n) = int_lt (pos 5) n
above_five (text bytes) = false
above_five (items values) = false

abbrev five_nine_two : List Tree
five_nine_two = num (pos 5) ∷ num (pos 9) ∷ num (pos 2) ∷ []

shown : filter_view above_three five_nine_two ≡ num (pos 5) ∷ num (pos 9) ∷ []
shown = refl

-- an update that crosses the border is told as an insertion or a deletion, one inside as an update
crossing :
    filter_follow above_three five_nine_two
    (updated (num (pos 5)) (num (pos 1)) ∷ updated (num (pos 9)) (num (pos 8))
    ∷ updated (num (pos 2)) (num (pos 4)) ∷ [])
    ≡ deleted (num (pos 5)) ∷ updated (num (pos 9)) (num (pos 8)) ∷ inserted (num (pos 4)) ∷ []
crossing = refl

-- between two pairs the deletions come first
order_kept : filter_follow above_three (num (pos 1) ∷ num (pos 7) ∷ [])
    (updated (num (pos 1)) (num (pos 6)) ∷ deleted (num (pos 7)) ∷ [])
    ≡ deleted (num (pos 7)) ∷ inserted (num (pos 6)) ∷ []
order_kept = refl

stricter : filter_change above_three above_five five_nine_two ≡ deleted (num (pos 5)) ∷ kept ∷ []
stricter = refl

abbrev one_two_three : List Tree
one_two_three = num (pos 1) ∷ num (pos 2) ∷ num (pos 3) ∷ []

slices : (range_view (Tail 2 0) one_two_three ≡ num (pos 2) ∷ num (pos 3) ∷ [])
    × (range_view (Head 1 1) one_two_three ≡ []) × (range_view (Middle 2 2) one_two_three ≡ [])
slices = (refl, refl, refl)

-- an element after the last moves the two last ones on
moved_on : changes (range_follow (Tail 2 0) one_two_three (one_insert 3 3 (num (pos 4))))
    ≡ delete 0 (num (pos 2)) ∷ insertion 1 (num (pos 4)) ∷ []
moved_on = refl

-- the middle of four begins to show once there are five
middle : changes
    (range_follow (Middle 2 2) (num (pos 1) ∷ num (pos 2) ∷ num (pos 3) ∷ num (pos 4) ∷ [])
    (one_insert 4 4 (num (pos 5)))) ≡ insertion 0 (num (pos 3)) ∷ []
middle = refl

-- from the last two of 1, 2, 4, 5 to the first
other_bounds :
    changes (range_change (Tail 2 0) (Head 0 1)
    (num (pos 1) ∷ num (pos 2) ∷ num (pos 4) ∷ num (pos 5) ∷ []))
    ≡ delete 0 (num (pos 4)) ∷ delete 0 (num (pos 5)) ∷ insertion 0 (num (pos 1)) ∷ []
other_bounds = refl

-- a number and a text
abbrev pair : ℕ → List ℕ → Tree
pair n name = items_of (num (pos n) ∷ text name ∷ [])

-- by the whole value, by its first element, and by the whole value from the greatest on
abbrev by_value : Comparison
by_value = order_cmp (record { path = []; down = false } ∷ [])

abbrev by_first : Comparison
by_first = order_cmp (record { path = 0 ∷ []; down = false } ∷ [])

abbrev downwards : Comparison
downwards = order_cmp (record { path = []; down = true } ∷ [])

-- [1,"b"] and [1,"a"] have equal key: an update that keeps the key stays, and one that passes the other moves
staying :
    changes (sorted_follow by_first (pair 1 (codes "b") ∷ pair 1 (codes "a") ∷ [])
    (one_set 2 0 (pair 1 (codes "b")) (pair 1 (codes "c"))))
    ≡ update 0 (pair 1 (codes "b")) (pair 1 (codes "c")) ∷ []
staying = refl

moving :
    changes (sorted_follow by_first (pair 1 (codes "c") ∷ pair 1 (codes "a") ∷ [])
    (one_set 2 0 (pair 1 (codes "c")) (pair 2 (codes "c"))))
    ≡ delete 0 (pair 1 (codes "c")) ∷ insertion 1 (pair 2 (codes "c")) ∷ []
moving = refl

-- an element of equal key that stands first in the input stands first
first_in :
    changes (sorted_follow by_first (pair 2 (codes "c") ∷ pair 1 (codes "a") ∷ [])
    (one_insert 2 0 (pair 1 (codes "z"))))
    ≡ insertion 0 (pair 1 (codes "z")) ∷ []
first_in = refl

-- two updates of one delta that cross: 1, 2, 9 become 5, 3, 9
abbrev one_two_nine : List Tree
one_two_nine = num (pos 1) ∷ num (pos 2) ∷ num (pos 9) ∷ []

crossing_pairs :
    changes (sorted_follow by_value one_two_nine
    (updated (num (pos 1)) (num (pos 5)) ∷ updated (num (pos 2)) (num (pos 3)) ∷ kept ∷ []))
    ≡ delete 0 (num (pos 1)) ∷ delete 0 (num (pos 2)) ∷ insertion 0 (num (pos 3))
    ∷ insertion 1 (num (pos 5)) ∷ []
crossing_pairs = refl

-- two updates that don't cross stay both
not_crossing :
    changes (sorted_follow by_value one_two_nine
    (updated (num (pos 1)) (num (pos 3)) ∷ updated (num (pos 2)) (num (pos 5)) ∷ kept ∷ []))
    ≡ update 0 (num (pos 1)) (num (pos 3)) ∷ update 1 (num (pos 2)) (num (pos 5)) ∷ []
not_crossing = refl

-- another order pairs nothing
other_order :
    changes (sorted_change by_value downwards (num (pos 1) ∷ num (pos 2) ∷ []))
    ≡ delete 0 (num (pos 1)) ∷ delete 0 (num (pos 2)) ∷ insertion 0 (num (pos 2))
    ∷ insertion 1 (num (pos 1)) ∷ []
other_order = refl

-- of three elements of equal key the first goes, and the next one is shown
next_of_class :
    changes (unique_follow by_first
    (pair 1 (codes "a") ∷ pair 1 (codes "b") ∷ pair 1 (codes "c") ∷ [])
    (one_remove 3 0 (pair 1 (codes "a"))))
    ≡ update 0 (pair 1 (codes "a")) (pair 1 (codes "b")) ∷ []
next_of_class = refl

last_of_class :
    changes (unique_follow by_first (pair 1 (codes "c") ∷ []) (one_remove 1 0 (pair 1 (codes "c"))))
    ≡ delete 0 (pair 1 (codes "c")) ∷ []
last_of_class = refl

-- an element changes its class: the one that it joins shows it first, the one that it leaves is gone
joined_class :
    changes (unique_follow by_first (pair 2 (codes "x") ∷ pair 1 (codes "y") ∷ [])
    (one_set 2 0 (pair 2 (codes "x")) (pair 1 (codes "z"))))
    ≡ update 0 (pair 1 (codes "y")) (pair 1 (codes "z")) ∷ delete 1 (pair 2 (codes "x")) ∷ []
joined_class = refl

joined_group :
    changes (grouping_follow by_first (pair 2 (codes "x") ∷ pair 1 (codes "y") ∷ [])
    (one_set 2 0 (pair 2 (codes "x")) (pair 1 (codes "z"))))
    ≡ update 0 (items_of (pair 1 (codes "y") ∷ []))
    (items_of (pair 1 (codes "z") ∷ pair 1 (codes "y") ∷ []))
    ∷ delete 1 (items_of (pair 2 (codes "x") ∷ []))
    ∷ []
joined_group = refl

-- a member more updates its group alone
one_member_more :
    changes (grouping_follow by_first (pair 1 (codes "a") ∷ pair 2 (codes "b") ∷ [])
    (one_insert 2 2 (pair 1 (codes "c"))))
    ≡ update 0 (items_of (pair 1 (codes "a") ∷ []))
    (items_of (pair 1 (codes "a") ∷ pair 1 (codes "c") ∷ [])) ∷ []
one_member_more = refl

-- a parent that is updated keeps as many children as it had and has, as updates
one_child_more :
    changes
    (collection_follow (kids []) (items_of (num (pos 1) ∷ []) ∷ items_of (num (pos 2) ∷ []) ∷ [])
    (one_set 2 0 (items_of (num (pos 1) ∷ [])) (items_of (num (pos 1) ∷ num (pos 3) ∷ []))))
    ≡ update 0 (num (pos 1)) (num (pos 1)) ∷ insertion 1 (num (pos 3)) ∷ []
one_child_more = refl

-- one list twice: its insertion is told at both places
twice_a_member :
    changes (composite_follow (0 ∷ 0 ∷ []) (λ list. one_insert 1 1 (num (pos 2))))
    ≡ insertion 1 (num (pos 2)) ∷ insertion 3 (num (pos 2)) ∷ []
twice_a_member = refl

taken_out_of_two : changes (detach_told (0 ∷ 1 ∷ []) (λ list. one_two_three) 0)
    ≡ delete 0 (num (pos 1)) ∷ delete 0 (num (pos 2)) ∷ delete 0 (num (pos 3)) ∷ []
taken_out_of_two = refl
