-- The groups of a list, and the members of one of them.
use Rattle.std.proofs.Common.{◌≡◌, ◌∙◌, ◌+◌, ◌-◌, ◌<◌, ◌≤◌, ◌++◌, ℕ, zero, suc, List, [], ◌∷◌, length, map, take, drop, refl, ap, sym, subst, arith, append_assoc}
use Rattle.std.specs.Prelude.{Some, slice_get, option_map}
use Rattle.std.specs.List.{insert}
use Rattle.std.proofs.lemmas.List.{length-map, length-take-le}
use Rattle.std.proofs.lemmas.List.Edits.{length-insert}
use Rattle.std.proofs.lemmas.Option.{slice_get-map}
use Rattle.spec_sorting.specs.Tree.{Tree, items_of}
use Rattle.spec_sorting.specs.Source.{element_at}
use Rattle.spec_sorting.specs.Arrangement.{arrangement}
use Rattle.spec_sorting.proofs.Arrangements.{arrangement_is}
use Rattle.spec_classes.specs.Classes.{Class, classes}
use Rattle.spec_classes.specs.Grouping.{group_of}
use Rattle.gl_kernel.proofs.Made.{append_nothing}
use Rattle.gl_kernel.proofs.ReadValues.{drop_at}
use Rattle.gl_classes.specs.Sorting.{order_cmp}
use Rattle.gl_classes.proofs.Sortings.{order_cmp_total}
use Rattle.gl_classes.specs.Kept.{Kept}
use Rattle.gl_classes.specs.Stands.{StandsFor}
use Rattle.gl_classes.specs.Spanned.{IsSpanOf}
use Rattle.gl_classes.proofs.WalkSteps.{few_classes}
use Rattle.gl_grouping.specs.Following.{groups_of}

-- there is a group for each class, and there are no more of them than elements
pub many_groups : (k : Kept) (xs : List Tree) → length (groups_of k xs) ≡ length (classes (order_cmp k.list.order) xs)
many_groups k xs = length-map (classes (order_cmp k.list.order) xs) (group_of xs)

pub few_groups : (k : Kept) (xs : List Tree) → length (groups_of k xs) ≤ length xs
few_groups k xs = let few = few_classes (order_cmp k.list.order) (order_cmp_total k.list.order) xs in omega (arith, few, many_groups k xs)

-- what stands at a sorted place is an element of the list
pub source_within : (k : Kept) (xs : List Tree) → StandsFor k xs → (place i : ℕ) → slice_get k.list.tree.places place ≡ Some i → i < length xs
source_within k xs stands place i at =
    (arrangement_is (order_cmp k.list.order) (order_cmp_total k.list.order) xs).within place i (ap (λ is. slice_get is place) (sym stands.list.places) ∙ at)

pub element_is : (xs : List Tree) (i : ℕ) (v : Tree) → slice_get xs i ≡ Some v → v ≡ element_at xs i
element_is [] i v e = absurd cc
element_is (x ∷ xs) zero v e = cc
element_is (x ∷ xs) (suc i) v e = element_is xs i v e

-- the places from one on and before another
abbrev pub between : List ℕ → ℕ → ℕ → List ℕ
between is start end = take (end - start) (drop start is)

between_next : (is : List ℕ) (place end i : ℕ) → place < end → slice_get is place ≡ Some i → between is place end ≡ i ∷ between is (place + 1) end
between_next is place end i less at =
    let long : end - place ≡ suc (end - (place + 1)) = omega (arith, less) in
    ap (λ n. take n (drop place is)) long ∙ ap (take (suc (end - (place + 1)))) (drop_at is place i at)

-- the members so far and those that are left are all of them: after one more too
pub member_more : (xs made more : List Tree) (is : List ℕ) (place end i : ℕ) (v w : Tree) (all : List Tree) → made ++ map (element_at xs) (between is place end) ≡ all → place < end → slice_get is place ≡ Some i
    → slice_get xs i ≡ Some v → w ≡ v → more ≡ made ++ w ∷ [] → more ++ map (element_at xs) (between is (place + 1) end) ≡ all
member_more xs made more is place end i v w all left less at value copied added =
    let rest = map (element_at xs) (between is (place + 1) end) in
    ap (λ vs. vs ++ rest) added
    ∙ (append_assoc made (w ∷ []) rest
    ∙ (ap (λ u. made ++ u ∷ rest) (copied ∙ element_is xs i v value) ∙ (sym (ap (λ ks. made ++ map (element_at xs) ks) (between_next is place end i less at)) ∙ left)))

-- the list of the members of a class is its group
pub group_is : (k : Kept) (xs : List Tree) (class start end : ℕ) (members : List Tree) → IsSpanOf (classes (order_cmp k.list.order) xs) class k.list.tree.places start end
    → members ≡ map (element_at xs) (between k.list.tree.places start end) → slice_get (groups_of k xs) class ≡ Some (items_of members)
group_is k xs class start end members span are =
    slice_get-map (group_of xs) (classes (order_cmp k.list.order) xs) class
    ∙ (ap (option_map (group_of xs)) span.members ∙ ap (λ vs. Some (items_of vs)) (sym are))

-- one group more
pub groups_more : (all made : List Tree) (class : ℕ) (v : Tree) → made ≡ take class all → slice_get all class ≡ Some v → insert made class v ≡ take (class + 1) all
groups_more all made class v are at =
    let next : suc class ≡ class + 1 = omega arith in
    ap (λ vs. insert vs class v) are ∙ (last all class v at ∙ ap (λ n. take n all) next)
  where
    last : (vs : List Tree) (n : ℕ) (v : Tree) → slice_get vs n ≡ Some v → insert (take n vs) n v ≡ take (suc n) vs
    last [] n v e = absurd cc
    last (u ∷ vs) zero v e = let same : u ≡ v = cc in ap (λ w. w ∷ []) (sym same)
    last (u ∷ vs) (suc n) v e = ap (λ ws. u ∷ ws) (last vs n v e)

pub groups_long : (all made : List Tree) (class : ℕ) (v : Tree) → made ≡ take class all → class < length all → length (insert made class v) ≡ suc class
groups_long all made class v are less =
    let long : length made ≡ class = ap length are ∙ length-take-le class all (omega (arith, less)) in
    let more = length-insert made class v (omega (arith, long)) in omega (arith, more, long)

-- no members are left at the end
pub members_end : (xs made : List Tree) (is : List ℕ) (place end : ℕ) (all : List Tree) → made ++ map (element_at xs) (between is place end) ≡ all → end ≤ place → made ≡ all
members_end xs made is place end all left past =
    let none : end - place ≡ 0 = omega (arith, past) in
    sym (append_nothing made) ∙ (sym (ap (λ n. made ++ map (element_at xs) (take n (drop place is))) none) ∙ left)
