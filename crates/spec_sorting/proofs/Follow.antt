-- What a sorted list tells of a change is made of the changed elements of both lists, each in sorted order.
use Rattle.std.proofs.Common.{◌≡◌, ◌≢◌, ◌∙◌, ℕ, zero, suc, ◌+◌, ◌<◌, ◌≤◌, ◌&&◌, Bool, true, false, List, [], ◌∷◌, length, map, filter, refl, ap, sym, subst, arith, inl, inr}
use Rattle.std.specs.Prelude.{◌||◌, nat_lt, not, Some, slice_get}
use Rattle.std.specs.Cmp.{IsTotalOrder}
use Rattle.std.specs.List.{list_all, AllByRecursion as Each}
use Rattle.std.specs.List.Sorted.{IsPermutation}
use Rattle.std.proofs.lemmas.Bool.{cases_Bool, lt-ltb, ltb-true, leb-true}
use Rattle.std.proofs.lemmas.List.{length-map}
use Rattle.spec_value.specs.Tree.{Tree}
use Rattle.spec_lists.specs.Piece.{Piece, kept, updated, deleted, inserted, inverted, old_len, new_len}
use Rattle.spec_lists.specs.Pairs.{Pair, pairs_from, pairs, IsIncreasing}
use Rattle.spec_lists.specs.Sides.{Item, woven}
use Rattle.spec_lists.specs.Delta.{Delta}
use Rattle.spec_lists.specs.Leads.{LeadsFrom, applied}
use Rattle.spec_lists.proofs.DeltaLeads.{leads_back}
use Rattle.spec_lists.proofs.Pairs.{sides_tell_pairs}
use Rattle.spec_views.specs.Source.{element_at}
use Rattle.spec_views.specs.Arrangement.{Comparison, arrangement}
use Rattle.spec_views.specs.Sorted.{sorted_view, keeps_order, stays, at_sorted_positions, sorted_pairs, sorted_follow}
use Rattle.spec_views.proofs.Arrangements.{arrangement_is}
use Rattle.spec_sorting.specs.Moves.{IsRising, sorted_position, changed_olds, changed_news, keeps_side}
use Rattle.spec_sorting.specs.Merged.{Spot, old_spots, new_spots, AreSpots, spread, between, pair_kinds, AreLeft, AreAligned}
use Rattle.spec_sorting.proofs.Scans.{earlier_side, later_side}
use Rattle.spec_sorting.proofs.Positions.{position_at, position_below, position_once, one_at, before_position}
use Rattle.spec_sorting.proofs.Partners.{each_weaker, each_both, each_filter, each_true, each_turned, AreOrdered, pairs_ordered, IsPaired, pairs_are}
use Rattle.spec_sorting.proofs.Stays.{before_alike, old_within, new_within, order_by_positions}
use Rattle.spec_sorting.proofs.Items.{swapped, items, Joins, told_by, kinds_are}
use Rattle.spec_sorting.proofs.Sides.{ArePositions, AreStaying, spots_left, side_is}
use Rattle.spec_sorting.proofs.ByOld.{each_by_old, each_from_by_old, rising_by_old, AreFollowing, increasing_from, apart_rising, apart_filter, apart_map}

each_all : {X : Type 0} (test : X → Bool) (xs : List X) → list_all test xs ≡ true → Each (λ x. test x ≡ true) xs
each_all test [] all = tt
each_all test (x ∷ xs) all = let both = parts (test x) (list_all test xs) all in (both.0, each_all test xs both.1)
  where
    parts : (t u : Bool) → (t && u) ≡ true → (t ≡ true) × (u ≡ true)
    parts true u e = (refl, e)
    parts false u e = absurd cc

pub each_unfilter : {X : Type 0} (P : X → Type 0) (test : X → Bool) (xs : List X) → Each P (filter test xs) → Each (λ x. test x ≡ true → P x) xs
each_unfilter P test [] e = tt
each_unfilter P test (x ∷ xs) e = elim (cases_Bool (test x)) [
  | inl passes ↦
      let is : filter test (x ∷ xs) ≡ x ∷ filter test xs = rw passes refl in
      let all : Each P (x ∷ filter test xs) = subst (Each P) is e in
      (λ h. all.0, each_unfilter P test xs all.1)
  | inr fails ↦
      let is : filter test (x ∷ xs) ≡ filter test xs = rw fails refl in
      (λ h. absurd (true_false h fails), each_unfilter P test xs (subst (Each P) is e))
]
  where
    true_false : {t : Bool} → t ≡ true → t ≡ false → ⊥
    true_false a b = absurd cc

pub each_map : {X Y : Type 0} (P : Y → Type 0) (f : X → Y) (xs : List X) → Each (λ x. P (f x)) xs → Each P (map f xs)
each_map P f [] e = tt
each_map P f (x ∷ xs) e = (e.0, each_map P f xs e.1)

pub each_unmap : {X Y : Type 0} (P : Y → Type 0) (f : X → Y) (xs : List X) → Each P (map f xs) → Each (λ x. P (f x)) xs
each_unmap P f [] e = tt
each_unmap P f (x ∷ xs) e = (e.0, each_unmap P f xs e.1)

-- a list that is mapped, at a place
get_map : {X Y : Type 0} (f : X → Y) (xs : List X) (k : ℕ) (x : X) → slice_get xs k ≡ Some x → slice_get (map f xs) k ≡ Some (f x)
get_map f [] k x e = absurd cc
get_map f (y ∷ ys) zero x e = let same : y ≡ x = cc in ap (λ z. Some (f z)) same
get_map f (y ∷ ys) (suc k) x e = get_map f ys k x e

-- a list's elements in sorted order
pub sorted_positions : (compare : Comparison) → IsTotalOrder compare → (xs : List Tree) → ArePositions (sorted_position compare xs) xs (sorted_view compare xs)
sorted_positions compare o xs = record {
  once = position_once compare o xs;
  below = position_below compare o xs;
  at = λ k less. let j = one_at compare o xs k less in (j.0, j.1, j.2);
  shown = λ i less. get_map (element_at xs) (arrangement compare xs) (sorted_position compare xs i) i (position_at compare o xs i less);
  long = length-map (arrangement compare xs) _ ∙ (arrangement_is compare o xs).long;
}

-- a delta from its new side
pub pairs_turned : (i j : ℕ) (ps : List Piece) → pairs_from j i (map inverted ps) ≡ map swapped (pairs_from i j ps)
pairs_turned i j [] = refl
pairs_turned i j (kept ∷ ps) = ap (λ us. record { old = j; new = i; updated = false } ∷ us) (pairs_turned (suc i) (suc j) ps)
pairs_turned i j (updated v w ∷ ps) = ap (λ us. record { old = j; new = i; updated = true } ∷ us) (pairs_turned (suc i) (suc j) ps)
pairs_turned i j (deleted v ∷ ps) = pairs_turned (suc i) j ps
pairs_turned i j (inserted w ∷ ps) = pairs_turned i (suc j) ps

pub spots_turned : (place : ℕ → ℕ) (stay : Pair → Bool) (i j : ℕ) (ps : List Piece)
    → new_spots place stay i j ps ≡ old_spots place (λ p. stay (swapped p)) j i (map inverted ps)
spots_turned place stay i j [] = refl
spots_turned place stay i j (kept ∷ ps) = spots_turned place stay (suc i) (suc j) ps
spots_turned place stay i j (updated v w ∷ ps) =
    ap (λ us. record { place = place j; value = w; stays = stay (record { old = i; new = j; updated = true }) } ∷ us) (spots_turned place stay (suc i) (suc j) ps)
spots_turned place stay i j (deleted v ∷ ps) = spots_turned place stay (suc i) j ps
spots_turned place stay i j (inserted w ∷ ps) = ap (λ us. record { place = place j; value = w; stays = false } ∷ us) (spots_turned place stay i (suc j) ps)

new_rising : (i j : ℕ) (ps : List Pair) → IsIncreasing i j ps → IsRising j (map (λ p. p.old) (map swapped ps))
new_rising i j [] rise = tt
new_rising i j (p ∷ ps) rise = (rise.1, new_rising (suc p.old) (suc p.new) ps rise.2)

module _ (compare : Comparison) (o : IsTotalOrder compare) (xs : List Tree) (d : Delta) (leads : LeadsFrom d xs) where
  abbrev ys : List Tree
  ys = applied d xs

  abbrev ps : List Pair
  ps = pairs d

  abbrev at : Pair → Pair
  at p = at_sorted_positions compare xs ys p

  abbrev stay : Pair → Bool
  stay p = stays compare xs ys ps p

  abbrev here : List Pair
  here = filter stay ps

  abbrev qs : List Pair
  qs = sorted_pairs compare xs ys ps

  abbrev Paired : Pair → Type 0
  Paired p = IsPaired (element_at xs) (element_at ys) (old_len d) (new_len d) (changed_olds 0 d) (changed_news 0 d) p

  paired : Each Paired ps
  paired = pairs_are d xs leads

  stay_keeps : (p : Pair) → p.updated ≡ true → stay p ≡ true → list_all (keeps_order compare xs ys p) ps ≡ true
  stay_keeps p up is = sym (first p.updated (list_all (keeps_order compare xs ys p) ps) up) ∙ is
    where
      first : (t u : Bool) → t ≡ true → (not t || u) ≡ u
      first true u e = refl
      first false u e = absurd cc

  plain_stays : Each (λ p. p.updated ≡ false → stay p ≡ true) ps
  plain_stays = each_true _ (λ p plain. first p.updated (list_all (keeps_order compare xs ys p) ps) plain) ps
    where
      first : (t u : Bool) → t ≡ false → (not t || u) ≡ true
      first false u e = refl
      first true u e = absurd cc

  -- an updated pair that stays keeps its side to each
  abbrev Keeps : Pair → Pair → Type 0
  Keeps p q = p.updated ≡ true → stay p ≡ true → keeps_side (at p) (at q) ≡ true

  all_keep : Each (λ p. Each (Keeps p) ps) ps
  all_keep = each_weaker Paired _ row ps paired
    where
      under : {P Q : Type 0} (R : Pair → Type 0) (us : List Pair) → (P → Q → Each R us) → Each (λ q. P → Q → R q) us
      under R [] h = tt
      under R (u ∷ us) h = (λ a b. (h a b).0, under R us (λ a b. (h a b).1))

      row : (p : Pair) → Paired p → Each (Keeps p) ps
      row p h =
          under (λ q. keeps_side (at p) (at q) ≡ true) ps (λ up is.
          each_both (λ q. keeps_order compare xs ys p q ≡ true) Paired _ (λ q keeps k. sym (order_by_positions compare o xs d leads p q h k) ∙ keeps) ps
          (each_all (keeps_order compare xs ys p) ps (stay_keeps p up is)) paired)

  -- what is known of two pairs
  record Two (p q : Pair) : Type 0 where
    order : AreOrdered p q
    other : Paired q
    keeps : Keeps p q
    kept_by : Keeps q p

  two : Each (λ p. Each (Two p) ps) ps
  two =
      each_both _ _ _ (λ p a b. each_both _ _ (Two p) (λ q x y. record { order = x.0; other = x.1; keeps = y.0; kept_by = y.1 }) ps a b) ps
      (each_weaker _ (λ p. Each (λ q. AreOrdered p q × Paired q) ps) (λ p h. each_both _ _ _ (λ q a b. (a, b)) ps h paired) ps (pairs_ordered d))
      (each_both _ _ (λ p. Each (λ q. Keeps p q × Keeps q p) ps) (λ p a b. each_both _ _ _ (λ q x y. (x, y)) ps a b) ps all_keep (each_turned Keeps ps ps all_keep))

  -- of two pairs that stay the one that is first in the old order is first in the new one
  following : (p q : Pair) → Paired p → Two p q → stay p ≡ true → stay q ≡ true → AreFollowing (at p) (at q)
  following p q h both p_stays q_stays less = elim (cases_Bool p.updated) [
    | inl p_up ↦ ltb-true (at p).new (at q).new (sym (earlier_side (at p) (at q) less) ∙ both.keeps p_up p_stays)
    | inr p_plain ↦
        elim (cases_Bool q.updated) [
          | inl q_up ↦
              let low : (at p).new ≤ (at q).new = leb-true (at p).new (at q).new (sym (later_side (at q) (at p) (omega (arith, less))) ∙ both.kept_by q_up q_stays) in
              omega (arith, low, apart)
          | inr q_plain ↦ ltb-true (at p).new (at q).new (sym (plain_order p_plain q_plain) ∙ lt-ltb (at p).old (at q).old less)
        ]
  ]
    where
      apart : (at p).new ≢ (at q).new
      apart same =
          let one : p ≡ q = both.order.new_same (position_once compare o ys p.new q.new (new_within compare o xs d leads p h) (new_within compare o xs d leads q both.other) same) in
          let e : (at p).old ≡ (at q).old = ap (λ r. sorted_position compare xs r.old) one in
          omega (arith, less, e)

      plain_order : p.updated ≡ false → q.updated ≡ false → nat_lt (at p).old (at q).old ≡ nat_lt (at p).new (at q).new
      plain_order p_plain q_plain =
          sym (before_position compare o xs p.old q.old (old_within compare o xs d leads p h) (old_within compare o xs d leads q both.other))
          ∙ (before_alike compare xs ys p.old q.old p.new q.new (h.same p_plain) (both.other.same q_plain) both.order.side
          ∙ before_position compare o ys p.new q.new (new_within compare o xs d leads p h) (new_within compare o xs d leads q both.other))

  -- a fact of the pairs that stay is one of the sorted list's pairs, and back
  to_sorted : (P : Pair → Type 0) → Each (λ p. stay p ≡ true → P (at p)) ps → Each P qs
  to_sorted P e =
      each_by_old P (length xs) (map at here) (each_map P at here
      (each_weaker (λ p. (stay p ≡ true → P (at p)) × (stay p ≡ true)) _ (λ p h. h.0 h.1) here (each_filter (λ p. stay p ≡ true → P (at p)) stay ps e)))

  low_olds : Each (λ q. q.old < length xs) (map at here)
  low_olds =
      each_map (λ q. q.old < length xs) at here
      (each_weaker (λ p. Paired p × (stay p ≡ true)) _ (λ p h. position_below compare o xs p.old (old_within compare o xs d leads p h.0)) here (each_filter Paired stay ps paired))

  from_sorted : (P : Pair → Type 0) → Each P qs → Each (λ p. stay p ≡ true → P (at p)) ps
  from_sorted P e = each_unfilter (λ p. P (at p)) stay ps (each_unmap P at here (each_from_by_old P (length xs) (map at here) low_olds e))

  old_rising : IsRising 0 (map (λ q. q.old) qs)
  old_rising =
      rising_by_old (length xs) (map at here)
      (apart_map at Paired (λ p q h k same. position_once compare o xs p.old q.old (old_within compare o xs d leads p h) (old_within compare o xs d leads q k) same) here
      (each_weaker (λ p. Paired p × (stay p ≡ true)) Paired (λ p h. h.0) here (each_filter Paired stay ps paired)) (apart_filter stay ps (apart_rising 0 0 ps (sides_tell_pairs d).increasing).1))

  all_following : Each (λ u. Each (AreFollowing u) qs) qs
  all_following =
      to_sorted (λ u. Each (AreFollowing u) qs)
      (each_both Paired (λ p. Each (Two p) ps) _ (λ p h row p_stays. to_sorted (AreFollowing (at p)) (each_weaker (Two p) _ (λ q both q_stays. following p q h both p_stays q_stays) ps row)) ps paired two)

  -- the pairs of the sorted list rise on both sides, and join its two views
  pub sorted_increasing : IsIncreasing 0 0 qs
  sorted_increasing = increasing_from 0 0 qs old_rising (each_true _ (λ p. omega arith) qs) all_following

  pub sorted_joins : Each (Joins (sorted_view compare xs) (sorted_view compare ys)) qs
  sorted_joins =
      to_sorted (Joins (sorted_view compare xs) (sorted_view compare ys))
      (each_weaker Paired _ (λ p h is. record {
        old = element_at xs p.old;
        new = element_at ys p.new;
        old_is = (sorted_positions compare o xs).shown p.old (old_within compare o xs d leads p h);
        new_is = (sorted_positions compare o ys).shown p.new (new_within compare o xs d leads p h);
        same = h.same;
      }) ps paired)

  old_staying : AreStaying (sorted_position compare xs) stay ps qs
  old_staying = record {
    rise = old_rising;
    to = λ F e. to_sorted (λ q. F q.old q.updated) e;
    from = λ F e. from_sorted (λ q. F q.old q.updated) e;
    plain = plain_stays;
  }

  new_staying : AreStaying (sorted_position compare ys) (λ p. stay (swapped p)) (pairs (map inverted d)) (map swapped qs)
  new_staying = record {
    rise = new_rising 0 0 qs sorted_increasing;
    to = λ F e. each_map (λ q. F q.old q.updated) swapped qs (to_sorted (λ q. F q.new q.updated) (back (λ p. stay (swapped p) ≡ true → F (sorted_position compare ys p.old) p.updated) e));
    from = λ F e. forth (λ p. stay (swapped p) ≡ true → F (sorted_position compare ys p.old) p.updated) (from_sorted (λ q. F q.new q.updated) (each_unmap (λ q. F q.old q.updated) swapped qs e));
    plain = forth (λ p. p.updated ≡ false → stay (swapped p) ≡ true) plain_stays;
  }
    where
      back : (P : Pair → Type 0) → Each P (pairs (map inverted d)) → Each (λ p. P (swapped p)) ps
      back P e = each_unmap P swapped ps (subst (Each P) (pairs_turned 0 0 d) e)

      forth : (P : Pair → Type 0) → Each (λ p. P (swapped p)) ps → Each P (pairs (map inverted d))
      forth P e = subst (Each P) (sym (pairs_turned 0 0 d)) (each_map P swapped ps e)

  -- the items of both sides are the spots of the changed elements, spread out
  pub old_side : (gone come : List Spot) → AreSpots compare xs d gone come → items 0 (sorted_view compare xs) qs ≡ spread 0 (length xs) gone
  old_side gone come are =
      side_is (sorted_position compare xs) stay d xs (sorted_view compare xs) (sorted_positions compare o xs) leads qs old_staying gone are.gone_rise are.gone_are

  pub new_side : (gone come : List Spot) → AreSpots compare xs d gone come → items 0 (sorted_view compare ys) (map swapped qs) ≡ spread 0 (length ys) come
  new_side gone come are =
      side_is (sorted_position compare ys) (λ p. stay (swapped p)) (map inverted d) ys (sorted_view compare ys) (sorted_positions compare o ys) (leads_back d xs leads).0 (map swapped qs) new_staying come are.come_rise
      (subst (λ us. IsPermutation us come) (spots_turned (sorted_position compare ys) stay 0 0 d) are.come_are)

  -- what a sorted list tells is made of the spots alone
  pub follow_is : (gone come : List Spot) → AreSpots compare xs d gone come → sorted_follow compare xs d ≡ between 0 (length xs) gone 0 (length ys) come
  follow_is gone come are =
      told_by (sorted_view compare xs) (sorted_view compare ys) qs sorted_increasing sorted_joins
      ∙ both _ _ _ _ (old_side gone come are) (new_side gone come are)
    where
      both : (a b c e : List Item) → a ≡ b → c ≡ e → woven a c ≡ woven b e
      both a b c e f g = cc

  -- The elements of pairs, plain and updated ones, stand in one order on both sides: the plain ones between two updated
  -- ones that stay are as many.
  pub kinds_alike : (gone come : List Spot) → AreSpots compare xs d gone come → pair_kinds (spread 0 (length xs) gone) ≡ pair_kinds (spread 0 (length ys) come)
  kinds_alike gone come are =
      sym (ap pair_kinds (old_side gone come are))
      ∙ (kinds_are 0 (sorted_view compare xs) qs old_rising (to_sorted (λ q. q.old < 0 + length (sorted_view compare xs)) (each_weaker Paired _ (λ p h is. omega (arith, position_below compare o xs p.old (old_within compare o xs d leads p h), (sorted_positions compare o xs).long)) ps paired))
      ∙ (swapped_kinds qs
      ∙ (sym (kinds_are 0 (sorted_view compare ys) (map swapped qs) (new_rising 0 0 qs sorted_increasing) (each_map (λ q. q.old < 0 + length (sorted_view compare ys)) swapped qs (to_sorted (λ q. q.new < 0 + length (sorted_view compare ys)) (each_weaker Paired _ (λ p h is. omega (arith, position_below compare o ys p.new (new_within compare o xs d leads p h), (sorted_positions compare o ys).long)) ps paired))))
      ∙ ap pair_kinds (new_side gone come are))))
    where
      swapped_kinds : (us : List Pair) → map (λ p. p.updated) us ≡ map (λ p. p.updated) (map swapped us)
      swapped_kinds [] = refl
      swapped_kinds (u ∷ us) = ap (λ ts. u.updated ∷ ts) (swapped_kinds us)

  old_left : (gone come : List Spot) → AreSpots compare xs d gone come → AreLeft 0 (length xs) gone
  old_left gone come are =
      spots_left (sorted_position compare xs) stay d xs (sorted_view compare xs) (sorted_positions compare o xs) leads qs old_staying gone are.gone_rise are.gone_are

  new_left : (gone come : List Spot) → AreSpots compare xs d gone come → AreLeft 0 (length ys) come
  new_left gone come are =
      spots_left (sorted_position compare ys) (λ p. stay (swapped p)) (map inverted d) ys (sorted_view compare ys) (sorted_positions compare o ys) (leads_back d xs leads).0 (map swapped qs) new_staying come are.come_rise
      (subst (λ us. IsPermutation us come) (spots_turned (sorted_position compare ys) stay 0 0 d) are.come_are)

  -- the spots of a change go together
  pub aligned : (gone come : List Spot) → AreSpots compare xs d gone come → AreAligned 0 (length xs) gone 0 (length ys) come
  aligned gone come are = record { old_left = old_left gone come are; new_left = new_left gone come are; kinds = kinds_alike gone come are }
