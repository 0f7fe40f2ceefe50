-- A grouping shows of each class of equal key, in key order, the list of its members in source order.
use Rattle.std.specs.Prelude.{List, map}
use Rattle.spec_value.specs.Tree.{Tree, items_of}
use Rattle.spec_lists.specs.Pairs.{pairs}
use Rattle.spec_lists.specs.Delta.{Delta}
use Rattle.spec_lists.specs.Leads.{applied}
use Rattle.spec_lists.specs.Making.{pieces_by, replaced}
use Rattle.spec_views.specs.Source.{element_at}
use Rattle.spec_views.specs.Arrangement.{Comparison}
use Rattle.spec_views.specs.Classes.{Class, classes, class_pairs, keeps_members}

-- the members of a class, as a list value
abbrev pub group_of : List Tree → Class → Tree
group_of xs c = items_of (map (element_at xs) c)

abbrev pub grouping_view : Comparison → List Tree → List Tree
grouping_view compare xs = map (group_of xs) (classes compare xs)

-- The change of a grouping whose input changes by this delta from these elements: classes of equal key are paired, plainly
-- where no member was inserted, deleted or updated.
abbrev pub grouping_follow : Comparison → List Tree → Delta → Delta
grouping_follow compare xs d =
    pieces_by (grouping_view compare xs) (grouping_view compare (applied d xs))
    (class_pairs compare xs (applied d xs) (keeps_members (pairs d)))

-- the change of a grouping that gets another order: it pairs nothing
abbrev pub grouping_change : Comparison → Comparison → List Tree → Delta
grouping_change before after xs = replaced (grouping_view before xs) (grouping_view after xs)
