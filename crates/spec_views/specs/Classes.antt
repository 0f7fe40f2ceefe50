-- The classes of a list's elements by an order: those of equal key, in key order, each in source order.
use Rattle.std.specs.Prelude.{◌==◌, ◌&&◌, ℕ, suc, Bool, not, List, [], ◌∷◌, ◌++◌, if◌then◌else◌}
use Rattle.std.specs.List.{list_all, list_any}
use Rattle.std.specs.Ordering.{eq_by_cmp}
use Rattle.spec_value.specs.Tree.{Tree}
use Rattle.spec_lists.specs.Pairs.{Pair}
use Rattle.spec_views.specs.Source.{element_at}
use Rattle.spec_views.specs.Arrangement.{Comparison, arrangement}

-- a class is the places of its members
abbrev pub Class : Type 0
Class = List ℕ

-- the place of the first member
abbrev pub first_of : Class → ℕ
first_of [] = 0
first_of (i ∷ is) = i

-- whether an element of xs and one of ys have equal key
abbrev pub has_key_of : Comparison → List Tree → List Tree → ℕ → ℕ → Bool
has_key_of compare xs ys i j = eq_by_cmp compare (element_at xs i) (element_at ys j)

-- classes with one element more in front
abbrev pub with_member : Comparison → List Tree → ℕ → List Class → List Class
with_member compare xs i [] = (i ∷ []) ∷ []
with_member compare xs i (c ∷ cs) =
    if has_key_of compare xs xs i (first_of c) then (i ∷ c) ∷ cs else (i ∷ []) ∷ c ∷ cs

-- the classes of an arrangement's places
abbrev pub classes_among : Comparison → List Tree → List ℕ → List Class
classes_among compare xs [] = []
classes_among compare xs (i ∷ is) = with_member compare xs i (classes_among compare xs is)

abbrev pub classes : Comparison → List Tree → List Class
classes compare xs = classes_among compare xs (arrangement compare xs)

-- the pair of a class of xs, the r-th, with the class of ys of equal key, if there is one; the first of these is the s-th
abbrev pub pair_of_class : Comparison → List Tree → List Tree → (Class → Class → Bool) → ℕ → Class
    → ℕ → List Class → List Pair
pair_of_class compare xs ys is_plain r c s [] = []
pair_of_class compare xs ys is_plain r c s (e ∷ es) =
    if has_key_of compare xs ys (first_of c) (first_of e)
    then record { old = r; new = s; updated = not (is_plain c e) } ∷ []
    else pair_of_class compare xs ys is_plain r c (suc s) es

-- Classes of equal key are paired, plainly where the test says so. The first of these classes of xs is the r-th.
abbrev pub pairs_of_classes : Comparison → List Tree → List Tree → (Class → Class → Bool) → ℕ
    → List Class → List Class → List Pair
pairs_of_classes compare xs ys is_plain r [] es = []
pairs_of_classes compare xs ys is_plain r (c ∷ cs) es =
    pair_of_class compare xs ys is_plain r c 0 es
    ++ pairs_of_classes compare xs ys is_plain (suc r) cs es

abbrev pub class_pairs : Comparison → List Tree → List Tree → (Class → Class → Bool) → List Pair
class_pairs compare xs ys is_plain =
    pairs_of_classes compare xs ys is_plain 0 (classes compare xs) (classes compare ys)

-- whether the element at an old place, or at a new one, is of a plain pair
abbrev pub is_kept_old : List Pair → ℕ → Bool
is_kept_old ps i = list_any (λ p. (p.old == i) && not p.updated) ps

abbrev pub is_kept_new : List Pair → ℕ → Bool
is_kept_new ps j = list_any (λ p. (p.new == j) && not p.updated) ps

-- whether two places are a plain pair
abbrev pub is_plain_pair : List Pair → ℕ → ℕ → Bool
is_plain_pair ps i j = list_any (λ p. (p.old == i) && ((p.new == j) && not p.updated)) ps

-- whether no member of a class was deleted, updated or inserted
abbrev pub keeps_members : List Pair → Class → Class → Bool
keeps_members ps c e = list_all (is_kept_old ps) c && list_all (is_kept_new ps) e
