-- What a list over one input shows of it, by its kind and its present parameter.
use Rattle.std.specs.Prelude.{ℕ, List, length}
use Rattle.spec_value.specs.Tree.{Tree}
use Rattle.spec_lists.specs.Delta.{Delta, no_change}
use Rattle.spec_lang.specs.Matcher.{Matcher, accepts}
use Rattle.spec_lang.specs.Sorting.{Key, order_cmp}
use Rattle.spec_lang.specs.Func.{Func, eval}
use Rattle.spec_lang.specs.Kids.{kids}
use Rattle.spec_lang.specs.declared.Bounds.{Bounds}
use Rattle.spec_views.specs.Filter.{filter_view, filter_follow, filter_change}
use Rattle.spec_views.specs.Sorted.{sorted_view, sorted_follow, sorted_change}
use Rattle.spec_views.specs.Unique.{unique_view, unique_follow, unique_change}
use Rattle.spec_views.specs.Grouping.{grouping_view, grouping_follow, grouping_change}
use Rattle.spec_views.specs.Range.{range_view, range_follow, range_change}
use Rattle.spec_views.specs.Function.{function_view, function_follow, function_change}
use Rattle.spec_views.specs.Collection.{collection_view, collection_follow}

pub data View : Type 0 where
  filter : Matcher → View
  sorted : List Key → View
  unique : List Key → View
  grouping : List Key → View
  range : Bounds → View
  function : Func → View
  collection : List ℕ → View

-- what is shown of these elements
abbrev pub view_of : View → List Tree → List Tree
view_of (filter matcher) xs = filter_view (accepts matcher) xs
view_of (sorted keys) xs = sorted_view (order_cmp keys) xs
view_of (unique keys) xs = unique_view (order_cmp keys) xs
view_of (grouping keys) xs = grouping_view (order_cmp keys) xs
view_of (range bounds) xs = range_view bounds xs
view_of (function func) xs = function_view (eval func) xs
view_of (collection path) xs = collection_view (kids path) xs

-- the change of the list where these elements change by this delta
abbrev pub follow_of : View → List Tree → Delta → Delta
follow_of (filter matcher) xs d = filter_follow (accepts matcher) xs d
follow_of (sorted keys) xs d = sorted_follow (order_cmp keys) xs d
follow_of (unique keys) xs d = unique_follow (order_cmp keys) xs d
follow_of (grouping keys) xs d = grouping_follow (order_cmp keys) xs d
follow_of (range bounds) xs d = range_follow bounds xs d
follow_of (function func) xs d = function_follow (eval func) d
follow_of (collection path) xs d = collection_follow (kids path) xs d

-- A parameter that a command gives in place of the present one.
pub data Parameter : Type 0 where
  matcher : Matcher → Parameter
  order : List Key → Parameter
  bounds : Bounds → Parameter
  func : Func → Parameter

-- the list with another parameter; one that isn't of its kind changes nothing
abbrev pub with_parameter : Parameter → View → View
with_parameter (matcher m) (filter old) = filter m
with_parameter (order keys) (sorted old) = sorted keys
with_parameter (order keys) (unique old) = unique keys
with_parameter (order keys) (grouping old) = grouping keys
with_parameter (bounds b) (range old) = range b
with_parameter (func f) (function old) = function f
with_parameter other view = view

-- the change of the list over these elements when it gets another parameter
abbrev pub change_of : Parameter → View → List Tree → Delta
change_of (matcher m) (filter old) xs = filter_change (accepts old) (accepts m) xs
change_of (order keys) (sorted old) xs = sorted_change (order_cmp old) (order_cmp keys) xs
change_of (order keys) (unique old) xs = unique_change (order_cmp old) (order_cmp keys) xs
change_of (order keys) (grouping old) xs = grouping_change (order_cmp old) (order_cmp keys) xs
change_of (bounds b) (range old) xs = range_change old b xs
change_of (func f) (function old) xs = function_change (eval old) (eval f) xs
change_of other view xs = no_change (length (view_of view xs))
