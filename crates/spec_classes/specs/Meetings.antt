-- How the classes of an old and of a new list meet: by key.
use Rattle.std.specs.Prelude.{Bool, List, [], ◌∷◌, map, if◌then◌else◌}
use Rattle.std.specs.List.{list_any}
use Rattle.spec_value.specs.Tree.{Tree}
use Rattle.spec_views.specs.Arrangement.{Comparison}
use Rattle.spec_views.specs.Classes.{Class, first_of, has_key_of, classes}

-- A class of the old list that has none of its key in the new one goes; one of the new list that has none in the old one
-- comes; two of equal key meet.
pub data Meeting : Type 0 where
  goes : Class → Meeting
  comes : Class → Meeting
  meets : Class → Class → Meeting

-- whether a class of the list xs and one of ys have equal key
abbrev pub of_key : Comparison → List Tree → List Tree → Class → Class → Bool
of_key compare xs ys c e = has_key_of compare xs ys (first_of c) (first_of e)

-- the classes up to the first one that the test finds, which meets c; after it go on with those that are left
abbrev pub meet : (Class → Bool) → Class → (List Class → List Meeting) → List Class → List Meeting
meet test c on [] = []
meet test c on (e ∷ es) = if test e then meets c e ∷ on es else comes e ∷ meet test c on es

-- the meetings of classes in key order: between two of those that meet the ones that go stand before the ones that come
abbrev pub meetings_by : (Class → Class → Bool) → List Class → List Class → List Meeting
meetings_by key [] es = map comes es
meetings_by key (c ∷ cs) es =
    if list_any (key c) es then meet (key c) c (meetings_by key cs) es
    else goes c ∷ meetings_by key cs es

abbrev pub meetings : Comparison → List Tree → List Tree → List Meeting
meetings compare xs ys =
    meetings_by (of_key compare xs ys) (classes compare xs) (classes compare ys)
