-- The change of a list over one input leads from what it showed to what it shows, in normal form, for every kind.
use Rattle.std.proofs.Common.{◌≡◌, sym, subst, List, length, flat_map}
use Rattle.spec_value.specs.Tree.{Tree}
use Rattle.spec_lists.specs.Piece.{IsNormal, identity, new_len}
use Rattle.spec_lists.specs.Pairs.{Pair, pairs}
use Rattle.spec_lists.specs.Delta.{Delta, no_change}
use Rattle.spec_lists.specs.Leads.{IsDelta, applied}
use Rattle.spec_lists.specs.Making.{pieces_by}
use Rattle.spec_lists.proofs.DeltaEdits.{identity_leads, identity_normal}
use Rattle.spec_lists.proofs.Made.{replaced_leads, replaced_normal, pieces_by_leads, pieces_by_normal}
use Rattle.spec_lang.specs.Matcher.{accepts}
use Rattle.spec_lang.specs.Sorting.{order_cmp}
use Rattle.spec_lang.specs.Func.{eval}
use Rattle.spec_lang.specs.Kids.{kids}
use Rattle.spec_views.specs.Filter.{by_value}
use Rattle.spec_views.specs.Range.{by_position}
use Rattle.spec_views.specs.Sorted.{sorted_view, sorted_pairs}
use Rattle.spec_views.specs.Unique.{unique_view}
use Rattle.spec_views.specs.Classes.{first_of, class_pairs, is_plain_pair, keeps_members}
use Rattle.spec_views.specs.Grouping.{grouping_view}
use Rattle.spec_views.specs.Collection.{collection_view, child_pairs}
use Rattle.spec_views.specs.View.{View, filter, sorted, unique, grouping, range, function, collection, view_of, follow_of, Parameter, matcher, order, bounds, func, with_parameter, change_of}
use Rattle.spec_lang.proofs.Sortings.{order_cmp_total}
use Rattle.spec_views.proofs.Leads.{filter_leads}
use Rattle.spec_views.proofs.Single.{identity_follow}
use Rattle.spec_views.proofs.Same.{range_same, function_same}
use Rattle.spec_views.proofs.SameSorted.{sorted_same}
use Rattle.spec_views.proofs.SameClasses.{unique_same, grouping_same}
use Rattle.spec_views.proofs.SameChildren.{collection_same}
use Rattle.spec_views.proofs.Follows.{chosen_normal, filter_change_leads, range_leads, range_change_leads, function_leads, function_normal, function_change_leads, function_change_normal}

-- the delta with given pairs leads to a view of the new input
to_view : (view : List Tree → List Tree) (pairs_to : List Tree → List Pair) (d : Delta) (xs ys : List Tree)
    → IsDelta d xs ys
    → IsDelta (pieces_by (view xs) (view (applied d xs)) (pairs_to (applied d xs))) (view xs) (view ys)
to_view view pairs_to d xs ys h =
    let P : List Tree → Type 0 = λ zs. IsDelta (pieces_by (view xs) (view (applied d xs)) (pairs_to (applied d xs))) (view xs) (view zs) in
    subst P (sym h.ends) (pieces_by_leads (view xs) (view (applied d xs)) (pairs_to (applied d xs)))

pub follow_of_leads : (v : View) (xs ys : List Tree) (d : Delta) → IsDelta d xs ys
    → IsDelta (follow_of v xs d) (view_of v xs) (view_of v ys)
follow_of_leads (filter m) xs ys d h = filter_leads (accepts m) d xs ys h
follow_of_leads (sorted keys) xs ys d h = to_view (sorted_view (order_cmp keys)) (λ zs. (sorted_pairs (order_cmp keys) xs zs (pairs d))) d xs ys h
follow_of_leads (unique keys) xs ys d h = to_view (unique_view (order_cmp keys)) (λ zs. (class_pairs (order_cmp keys) xs zs (λ c e. is_plain_pair (pairs d) (first_of c) (first_of e)))) d xs ys h
follow_of_leads (grouping keys) xs ys d h = to_view (grouping_view (order_cmp keys)) (λ zs. (class_pairs (order_cmp keys) xs zs (keeps_members (pairs d)))) d xs ys h
follow_of_leads (range b) xs ys d h = range_leads b d xs ys h
follow_of_leads (function f) xs ys d h = function_leads (eval f) d xs ys h
follow_of_leads (collection path) xs ys d h = to_view (collection_view (kids path)) (λ zs. flat_map (child_pairs (kids path) xs zs) (pairs d)) d xs ys h

pub follow_of_normal : (v : View) (xs : List Tree) (d : Delta) → IsNormal d
    → IsNormal (follow_of v xs d)
follow_of_normal (filter m) xs d h = chosen_normal (by_value (accepts m)) (by_value (accepts m)) xs d
follow_of_normal (sorted keys) xs d h = pieces_by_normal (sorted_view (order_cmp keys) xs) (sorted_view (order_cmp keys) (applied d xs)) (sorted_pairs (order_cmp keys) xs (applied d xs) (pairs d))
follow_of_normal (unique keys) xs d h = pieces_by_normal (unique_view (order_cmp keys) xs) (unique_view (order_cmp keys) (applied d xs)) (class_pairs (order_cmp keys) xs (applied d xs) (λ c e. is_plain_pair (pairs d) (first_of c) (first_of e)))
follow_of_normal (grouping keys) xs d h = pieces_by_normal (grouping_view (order_cmp keys) xs) (grouping_view (order_cmp keys) (applied d xs)) (class_pairs (order_cmp keys) xs (applied d xs) (keeps_members (pairs d)))
follow_of_normal (range b) xs d h = chosen_normal (by_position b (length xs)) (by_position b (new_len d)) xs d
follow_of_normal (function f) xs d h = function_normal (eval f) d h
follow_of_normal (collection path) xs d h =
    pieces_by_normal (collection_view (kids path) xs) (collection_view (kids path) (applied d xs)) (flat_map (child_pairs (kids path) xs (applied d xs)) (pairs d))

pub change_of_leads : (given : Parameter) (v : View) (xs : List Tree)
    → IsDelta (change_of given v xs) (view_of v xs) (view_of (with_parameter given v) xs)
change_of_leads (matcher m) (filter old) xs = filter_change_leads (accepts old) (accepts m) xs
change_of_leads (matcher m) (sorted old) xs = identity_leads (view_of (sorted old) xs)
change_of_leads (matcher m) (unique old) xs = identity_leads (view_of (unique old) xs)
change_of_leads (matcher m) (grouping old) xs = identity_leads (view_of (grouping old) xs)
change_of_leads (matcher m) (range old) xs = identity_leads (view_of (range old) xs)
change_of_leads (matcher m) (function old) xs = identity_leads (view_of (function old) xs)
change_of_leads (matcher m) (collection old) xs = identity_leads (view_of (collection old) xs)
change_of_leads (order keys) (filter old) xs = identity_leads (view_of (filter old) xs)
change_of_leads (order keys) (sorted old) xs = replaced_leads _ _
change_of_leads (order keys) (unique old) xs = replaced_leads _ _
change_of_leads (order keys) (grouping old) xs = replaced_leads _ _
change_of_leads (order keys) (range old) xs = identity_leads (view_of (range old) xs)
change_of_leads (order keys) (function old) xs = identity_leads (view_of (function old) xs)
change_of_leads (order keys) (collection old) xs = identity_leads (view_of (collection old) xs)
change_of_leads (bounds b) (filter old) xs = identity_leads (view_of (filter old) xs)
change_of_leads (bounds b) (sorted old) xs = identity_leads (view_of (sorted old) xs)
change_of_leads (bounds b) (unique old) xs = identity_leads (view_of (unique old) xs)
change_of_leads (bounds b) (grouping old) xs = identity_leads (view_of (grouping old) xs)
change_of_leads (bounds b) (range old) xs = range_change_leads old b xs
change_of_leads (bounds b) (function old) xs = identity_leads (view_of (function old) xs)
change_of_leads (bounds b) (collection old) xs = identity_leads (view_of (collection old) xs)
change_of_leads (func f) (filter old) xs = identity_leads (view_of (filter old) xs)
change_of_leads (func f) (sorted old) xs = identity_leads (view_of (sorted old) xs)
change_of_leads (func f) (unique old) xs = identity_leads (view_of (unique old) xs)
change_of_leads (func f) (grouping old) xs = identity_leads (view_of (grouping old) xs)
change_of_leads (func f) (range old) xs = identity_leads (view_of (range old) xs)
change_of_leads (func f) (function old) xs = function_change_leads (eval old) (eval f) xs
change_of_leads (func f) (collection old) xs = identity_leads (view_of (collection old) xs)

pub change_of_normal : (given : Parameter) (v : View) (xs : List Tree)
    → IsNormal (change_of given v xs)
change_of_normal (matcher m) (filter old) xs = chosen_normal (by_value (accepts old)) (by_value (accepts m)) xs (identity (length xs))
change_of_normal (matcher m) (sorted old) xs = identity_normal (length (view_of (sorted old) xs))
change_of_normal (matcher m) (unique old) xs = identity_normal (length (view_of (unique old) xs))
change_of_normal (matcher m) (grouping old) xs = identity_normal (length (view_of (grouping old) xs))
change_of_normal (matcher m) (range old) xs = identity_normal (length (view_of (range old) xs))
change_of_normal (matcher m) (function old) xs = identity_normal (length (view_of (function old) xs))
change_of_normal (matcher m) (collection old) xs = identity_normal (length (view_of (collection old) xs))
change_of_normal (order keys) (filter old) xs = identity_normal (length (view_of (filter old) xs))
change_of_normal (order keys) (sorted old) xs = replaced_normal (sorted_view (order_cmp old) xs) (sorted_view (order_cmp keys) xs)
change_of_normal (order keys) (unique old) xs = replaced_normal (unique_view (order_cmp old) xs) (unique_view (order_cmp keys) xs)
change_of_normal (order keys) (grouping old) xs = replaced_normal (grouping_view (order_cmp old) xs) (grouping_view (order_cmp keys) xs)
change_of_normal (order keys) (range old) xs = identity_normal (length (view_of (range old) xs))
change_of_normal (order keys) (function old) xs = identity_normal (length (view_of (function old) xs))
change_of_normal (order keys) (collection old) xs = identity_normal (length (view_of (collection old) xs))
change_of_normal (bounds b) (filter old) xs = identity_normal (length (view_of (filter old) xs))
change_of_normal (bounds b) (sorted old) xs = identity_normal (length (view_of (sorted old) xs))
change_of_normal (bounds b) (unique old) xs = identity_normal (length (view_of (unique old) xs))
change_of_normal (bounds b) (grouping old) xs = identity_normal (length (view_of (grouping old) xs))
change_of_normal (bounds b) (range old) xs = chosen_normal (by_position old (length xs)) (by_position b (length xs)) xs (identity (length xs))
change_of_normal (bounds b) (function old) xs = identity_normal (length (view_of (function old) xs))
change_of_normal (bounds b) (collection old) xs = identity_normal (length (view_of (collection old) xs))
change_of_normal (func f) (filter old) xs = identity_normal (length (view_of (filter old) xs))
change_of_normal (func f) (sorted old) xs = identity_normal (length (view_of (sorted old) xs))
change_of_normal (func f) (unique old) xs = identity_normal (length (view_of (unique old) xs))
change_of_normal (func f) (grouping old) xs = identity_normal (length (view_of (grouping old) xs))
change_of_normal (func f) (range old) xs = identity_normal (length (view_of (range old) xs))
change_of_normal (func f) (function old) xs = function_change_normal (eval old) (eval f) xs
change_of_normal (func f) (collection old) xs = identity_normal (length (view_of (collection old) xs))

-- where the input doesn't change, neither does the list
pub follow_of_same : (v : View) (xs : List Tree)
    → follow_of v xs (no_change (length xs)) ≡ no_change (length (view_of v xs))
follow_of_same (filter m) xs = identity_follow (accepts m) xs
follow_of_same (sorted keys) xs = sorted_same (order_cmp keys) (order_cmp_total keys) xs
follow_of_same (unique keys) xs = unique_same (order_cmp keys) (order_cmp_total keys) xs
follow_of_same (grouping keys) xs = grouping_same (order_cmp keys) (order_cmp_total keys) xs
follow_of_same (range b) xs = range_same b xs
follow_of_same (function f) xs = function_same (eval f) xs
follow_of_same (collection path) xs = collection_same (kids path) xs
