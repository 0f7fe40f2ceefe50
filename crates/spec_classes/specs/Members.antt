-- How the classes of a list lie in its sorted order.
use Rattle.std.specs.Prelude.{◌≡◌, ◌<◌, ◌++◌, ℕ, suc, Bool, true, false, not, List, [], ◌∷◌, map}
use Rattle.std.specs.List.{AllByRecursion}
use Rattle.std.specs.declared.cmp.Ordering.TheVariants.{Less, Equal}
use Rattle.spec_value.specs.Tree.{Tree}
use Rattle.spec_views.specs.Source.{element_at}
use Rattle.spec_views.specs.Arrangement.{Comparison, same_key_marks}
use Rattle.spec_views.specs.Classes.{Class, first_of}
use Rattle.spec_sorting.specs.Moves.{IsRising}

-- the members of classes, one class after another
abbrev pub joined : List Class → List ℕ
joined [] = []
joined (c ∷ cs) = c ++ joined cs

-- for each member of a class whether it is the first
abbrev pub first_marks : Class → List Bool
first_marks [] = []
first_marks (i ∷ is) = true ∷ map (λ j. false) is

-- for each member of classes whether it is the first of its class
abbrev pub firsts : List Class → List Bool
firsts [] = []
firsts (c ∷ cs) = first_marks c ++ firsts cs

-- the members have one key and stand in source order
pub record IsClass (compare : Comparison) (xs : List Tree) (c : Class) : Type 0 where
  pub first : ℕ
  pub others : List ℕ
  pub are : c ≡ first ∷ others
  pub tied : AllByRecursion
      (λ i. (compare (element_at xs first) (element_at xs i) ≡ Equal) × (first < i)) others
  pub in_order : IsRising (suc first) others

-- the keys of classes rise
abbrev pub KeysRise : Comparison → List Tree → List Class → Type 0
KeysRise compare xs [] = Unit {0}
KeysRise compare xs (c ∷ cs) =
    AllByRecursion
    (λ e. compare (element_at xs (first_of c)) (element_at xs (first_of e)) ≡ Less) cs
    × KeysRise compare xs cs

-- these are the classes of a list whose places lie so in sorted order
pub record AreClasses (compare : Comparison) (xs : List Tree) (is : List ℕ)
    (cs : List Class) : Type 0 where
  pub whole : joined cs ≡ is
  pub each : AllByRecursion (IsClass compare xs) cs
  pub rise : KeysRise compare xs cs
  pub marks : map not (same_key_marks compare xs is) ≡ firsts cs
