-- A unique list shows of each class of equal key, in key order, the member that stands first in the input.
use Rattle.std.specs.Prelude.{List, map}
use Rattle.spec_value.specs.Tree.{Tree}
use Rattle.spec_lists.specs.Pairs.{pairs}
use Rattle.spec_lists.specs.Delta.{Delta}
use Rattle.spec_lists.specs.Leads.{applied}
use Rattle.spec_lists.specs.Making.{pieces_by, replaced}
use Rattle.spec_views.specs.Source.{element_at}
use Rattle.spec_views.specs.Arrangement.{Comparison}
use Rattle.spec_views.specs.Classes.{Class, first_of, classes, class_pairs, is_plain_pair}

-- the member of a class that is shown
abbrev pub shown_member : List Tree → Class → Tree
shown_member xs c = element_at xs (first_of c)

abbrev pub unique_view : Comparison → List Tree → List Tree
unique_view compare xs = map (shown_member xs) (classes compare xs)

-- The change of a unique list whose input changes by this delta from these elements: classes of equal key are paired, plainly
-- where the two shown elements are a plain pair of the input.
abbrev pub unique_follow : Comparison → List Tree → Delta → Delta
unique_follow compare xs d =
    pieces_by (unique_view compare xs) (unique_view compare (applied d xs))
    (class_pairs compare xs (applied d xs)
    (λ c e. is_plain_pair (pairs d) (first_of c) (first_of e)))

-- the change of a unique list that gets another order: it pairs nothing
abbrev pub unique_change : Comparison → Comparison → List Tree → Delta
unique_change before after xs = replaced (unique_view before xs) (unique_view after xs)
