-- The changed elements of a list in sorted order stand where the elements stand that aren't plain.
use Rattle.std.proofs.Common.{◌≡◌, ◌∙◌, ℕ, zero, suc, ◌+◌, ◌<◌, List, [], ◌∷◌, length, map, refl, ap, sym, subst, arith, inl, inr}
use Rattle.std.specs.Prelude.{Some, slice_get}
use Rattle.std.specs.List.{AllByRecursion as Each}
use Rattle.std.specs.Cmp.{IsTotalOrder}
use Rattle.std.proofs.lemmas.List.Elements.{All-from_recursion, recursion_from_All}
use Rattle.std.proofs.lemmas.List.Sorted.{All-permutation, IsPermutation-map}
use Rattle.spec_sorting.specs.Tree.{Tree}
use Rattle.spec_sorting.specs.Sides.{Item, plain, changed, lone}
use Rattle.spec_sorting.specs.Sorted.{index_of}
use Rattle.spec_sorting.specs.Arrangement.{Comparison, arrangement}
use Rattle.spec_sorting.proofs.SortedPositions.{In, all_below}
use Rattle.spec_sorting.proofs.Arrangements.{arrangement_is, distinct_arrangement, within_arrangement}
use Rattle.spec_sorting.proofs.Indices.{index_found, index_placed}
use Rattle.spec_sorting.proofs.Ranks.{in_permuted}
use Rattle.gl_arranged.specs.Changes.{changed_of, rank_of, AreRanked}
use Rattle.gl_arranged.specs.declared.changed.Changed.{Changed}
use Rattle.gl_arranged.specs.declared.changed.Ranked.{Ranked}
use Rattle.gl_classes.specs.Touching.{places}

-- an element is one of these and isn't plain
pub record IsChanged (items : List Item) (i : ℕ) : Type 0 where
  pub within : i < length items
  pub other : (j : ℕ) → slice_get items i ≡ Some (plain j) → ⊥

-- the same of items the first of which is the one at a place
record IsChangedFrom (a : ℕ) (items : List Item) (i : ℕ) : Type 0 where
  index : ℕ
  at : i ≡ a + index
  within : index < length items
  other : (j : ℕ) → slice_get items index ≡ Some (plain j) → ⊥

more_items : (a : ℕ) (t : Item) (items : List Item) (i : ℕ) → IsChangedFrom (suc a) items i → IsChangedFrom a (t ∷ items) i
more_items a t items i h = record {
  index = suc h.index;
  at = omega (arith, h.at);
  within = omega (arith, h.within);
  other = h.other;
}

changed_are : (a : ℕ) (items : List Item) → Each (λ (c : Changed). IsChangedFrom a items c.source) (changed_of a items)
changed_are a [] = tt
changed_are a (plain j ∷ items) = weaker (changed_of (suc a) items) (changed_are (suc a) items)
  where
    weaker : (cs : List Changed) → Each (λ (c : Changed). IsChangedFrom (suc a) items c.source) cs → Each (λ (c : Changed). IsChangedFrom a (plain j ∷ items) c.source) cs
    weaker [] e = tt
    weaker (c ∷ cs) e = (more_items a (plain j) items c.source e.0, weaker cs e.1)
changed_are a (changed j v ∷ items) = (
  record { index = 0; at = omega arith; within = omega arith; other = λ k e. absurd cc },
  weaker (changed_of (suc a) items) (changed_are (suc a) items),
)
  where
    weaker : (cs : List Changed) → Each (λ (c : Changed). IsChangedFrom (suc a) items c.source) cs → Each (λ (c : Changed). IsChangedFrom a (changed j v ∷ items) c.source) cs
    weaker [] e = tt
    weaker (c ∷ cs) e = (more_items a (changed j v) items c.source e.0, weaker cs e.1)
changed_are a (lone v ∷ items) = (
  record { index = 0; at = omega arith; within = omega arith; other = λ k e. absurd cc },
  weaker (changed_of (suc a) items) (changed_are (suc a) items),
)
  where
    weaker : (cs : List Changed) → Each (λ (c : Changed). IsChangedFrom (suc a) items c.source) cs → Each (λ (c : Changed). IsChangedFrom a (lone v ∷ items) c.source) cs
    weaker [] e = tt
    weaker (c ∷ cs) e = (more_items a (lone v) items c.source e.0, weaker cs e.1)

abbrev sources : List Changed → List ℕ
sources cs = map (λ (c : Changed). c.source) cs

all_changed : (a n i : ℕ) (items : List Item) → n ≡ a + i → i < length items → ((j : ℕ) → slice_get items i ≡ Some (plain j) → ⊥) → In n (sources (changed_of a items))
all_changed a n i [] at within other = absurd (omega (arith, within))
all_changed a n zero (plain j ∷ items) at within other = absurd (other j refl)
all_changed a n zero (changed j v ∷ items) at within other = inl (omega (arith, at))
all_changed a n zero (lone v ∷ items) at within other = inl (omega (arith, at))
all_changed a n (suc i) (plain j ∷ items) at within other = all_changed (suc a) n i items (omega (arith, at)) (omega (arith, within)) other
all_changed a n (suc i) (changed j v ∷ items) at within other = inr (all_changed (suc a) n i items (omega (arith, at)) (omega (arith, within)) other)
all_changed a n (suc i) (lone v ∷ items) at within other = inr (all_changed (suc a) n i items (omega (arith, at)) (omega (arith, within)) other)

in_places : (is : List ℕ) (n : ℕ) (cs : List Changed) → In n (sources cs) → In (index_of n is) (places (map (rank_of is) cs))
in_places is n [] found = absurd found
in_places is n (c ∷ cs) (inl same) = inl (ap (λ k. index_of k is) same)
in_places is n (c ∷ cs) (inr later) = inr (in_places is n cs later)

-- where a changed element stands
pub record StandsThere (compare : Comparison) (xs : List Tree) (items : List Item) (r : Ranked) : Type 0 where
  pub at : slice_get (arrangement compare xs) r.place ≡ Some r.source
  pub changed : IsChanged items r.source

module _ (compare : Comparison) (o : IsTotalOrder compare) (xs : List Tree) (items : List Item) (long : length items ≡ length xs) where
  in_all : (i : ℕ) → i < length xs → In i (arrangement compare xs)
  in_all i less =
      let is = arrangement_is compare o xs in
      all_below (length xs) (arrangement compare xs) is.long (distinct_arrangement compare o xs (arrangement compare xs) is) (within_arrangement compare o xs (arrangement compare xs) is) i less

  each_rank : (cs : List Changed) → Each (λ (c : Changed). IsChangedFrom 0 items c.source) cs → Each (StandsThere compare xs items) (map (rank_of (arrangement compare xs)) cs)
  each_rank [] e = tt
  each_rank (c ∷ cs) e =
      let h = e.0 in
      let same : c.source ≡ h.index = omega (arith, h.at) in (
        record {
          at = index_found c.source (arrangement compare xs) (in_all c.source (omega (arith, h.within, same, long)));
          changed = record {
            within = omega (arith, h.within, same);
            other = λ j f. h.other j (ap (slice_get items) (sym same) ∙ f);
          };
        },
        each_rank cs e.1,
      )

  pub ranked_there : (ranked : List Ranked) → AreRanked (arrangement compare xs) items ranked → Each (StandsThere compare xs items) ranked
  ranked_there ranked h =
      recursion_from_All (StandsThere compare xs items) ranked
      (All-permutation (StandsThere compare xs items) (map (rank_of (arrangement compare xs)) (changed_of 0 items)) ranked h.are
      (All-from_recursion (StandsThere compare xs items) (map (rank_of (arrangement compare xs)) (changed_of 0 items)) (each_rank (changed_of 0 items) (changed_are 0 items))))

  -- each element that isn't plain is one of them
  pub changed_there : (ranked : List Ranked) → AreRanked (arrangement compare xs) items ranked
      → (place i : ℕ) → slice_get (arrangement compare xs) place ≡ Some i → ((j : ℕ) → slice_get items i ≡ Some (plain j) → ⊥) → In place (places ranked)
  changed_there ranked h place i at other =
      let is = arrangement_is compare o xs in
      let placed : index_of i (arrangement compare xs) ≡ place = index_placed (arrangement compare xs) place i (distinct_arrangement compare o xs (arrangement compare xs) is) at in
      let found : In i (sources (changed_of 0 items)) = all_changed 0 i i items (omega arith) (omega (arith, is.within place i at, long)) other in
      let there = in_permuted (index_of i (arrangement compare xs)) (places (map (rank_of (arrangement compare xs)) (changed_of 0 items))) (places ranked)
      (IsPermutation-map (λ (r : Ranked). r.place) (map (rank_of (arrangement compare xs)) (changed_of 0 items)) ranked h.are) (in_places (arrangement compare xs) i (changed_of 0 items) found) in
      subst (λ k. In k (places ranked)) placed there
