-- The changed elements of both lists in sorted order, as the code has them: what they are, and which of them stay.
use Rattle.std.proofs.Common.{◌≡◌, ◌≢◌, ◌∙◌, ℕ, zero, suc, ◌+◌, ◌<◌, ◌≤◌, ◌==◌, ◌&&◌, Bool, true, false, List, [], ◌∷◌, length, map, filter, refl, ap, sym, subst, arith, inl, inr}
use Rattle.std.specs.Prelude.{◌||◌, Option, Some, None, option_map}
use Rattle.std.specs.Cmp.{IsTotalOrder}
use Rattle.std.specs.List.{list_all, list_any, AllByRecursion as Each}
use Rattle.std.specs.List.Sorted.{IsPermutation}
use Rattle.std.proofs.lemmas.Bool.{cases_Bool, cases_eq, eq-eqb, ne_eqb, eqb-true}
use Rattle.std.proofs.lemmas.List.Elements.{All-from_recursion, recursion_from_All}
use Rattle.std.proofs.lemmas.List.Sorted.{All-permutation, IsPermutation-map, IsPermutation-sym, list_any-IsPermutation}
use Rattle.spec_value.specs.Tree.{Tree}
use Rattle.spec_lists.specs.Piece.{Piece, kept, updated, deleted, inserted, inverted, old_len, new_len}
use Rattle.spec_lists.specs.Pairs.{Pair, pairs_from, pairs}
use Rattle.spec_lists.specs.Delta.{Delta}
use Rattle.spec_lists.specs.Leads.{LeadsFrom, applied}
use Rattle.spec_lists.proofs.DeltaLeads.{length_from, leads_back}
use Rattle.spec_views.specs.Source.{element_at}
use Rattle.spec_views.specs.Arrangement.{Comparison}
use Rattle.spec_views.specs.Sorted.{stays, at_sorted_positions}
use Rattle.spec_sorting.specs.Moves.{IsRising, sorted_position, changed_olds, changed_news, AreChanged, keeps_rank, keeps_side, both_flags}
use Rattle.spec_sorting.specs.Merged.{Spot, old_spots, new_spots, AreSpots}
use Rattle.spec_sorting.specs.Ranked.{Change, old_changes, new_changes, old_stays, new_stays, AreRanked, AreRankedBoth, rank_kept, prefix_marks, back_marks, is_some_position}
use Rattle.spec_sorting.proofs.Counts.{all_permuted}
use Rattle.spec_sorting.proofs.Positions.{position_below, position_once}
use Rattle.spec_sorting.proofs.Partners.{each_weaker, each_both, each_filter, each_true, each_turned, AreOrdered, pairs_ordered, IsPaired, pairs_are, remaining, first}
use Rattle.spec_sorting.proofs.Ranks.{all_agree}
use Rattle.spec_sorting.proofs.Stays.{all_mapped, both_mapped, all_stay_by, new_within}
use Rattle.spec_sorting.proofs.Sides.{deleted_olds, deleted_from, pairs_undeleted}
use Rattle.spec_sorting.proofs.Items.{swapped}
use Rattle.spec_sorting.proofs.Follow.{each_map, each_unmap, each_unfilter, pairs_turned, spots_turned}
use Rattle.spec_sorting.proofs.Marks.{move, side_to, uncrossed, marks_are}

map_map : {X Y Z : Type 0} (f : X → Y) (g : Y → Z) (xs : List X) → map g (map f xs) ≡ map (λ x. g (f x)) xs
map_map f g [] = refl
map_map f g (x ∷ xs) = ap (λ zs. g (f x) ∷ zs) (map_map f g xs)

map_each : {X Y : Type 0} (f g : X → Y) (xs : List X) → Each (λ x. f x ≡ g x) xs → map f xs ≡ map g xs
map_each f g [] e = refl
map_each f g (x ∷ xs) e = both (f x) (g x) (map f xs) (map g xs) e.0 (map_each f g xs e.1)
  where
    both : {Y : Type 0} (a b : Y) (us vs : List Y) → a ≡ b → us ≡ vs → a ∷ us ≡ b ∷ vs
    both a b us vs e f = cc

head_is : {X : Type 0} (a b : X) (us vs : List X) → a ∷ us ≡ b ∷ vs → a ≡ b
head_is a b us vs e = cc

tail_is : {X : Type 0} (a b : X) (us vs : List X) → a ∷ us ≡ b ∷ vs → us ≡ vs
tail_is a b us vs e = cc

no_cons : {X : Type 0} (b : X) (vs : List X) → [] ≡ b ∷ vs → ⊥
no_cons b vs e = absurd cc

cons_no : {X : Type 0} (b : X) (vs : List X) → b ∷ vs ≡ [] → ⊥
cons_no b vs e = absurd cc

-- what is true of updated pairs and of deleted elements is true of the changed elements
each_change : (Q : Change → Type 0) (i j : ℕ) (ps : List Piece)
    → Each (λ p. p.updated ≡ true → Q (record { source = p.old; partner = Some p.new })) (pairs_from i j ps)
    → Each (λ k. Q (record { source = k; partner = None })) (deleted_olds i ps) → Each Q (old_changes i j ps)
each_change Q i j [] e f = tt
each_change Q i j (kept ∷ ps) e f = each_change Q (suc i) (suc j) ps e.1 f
each_change Q i j (updated v w ∷ ps) e f = (e.0 refl, each_change Q (suc i) (suc j) ps e.1 f)
each_change Q i j (deleted v ∷ ps) e f = (f.0, each_change Q (suc i) j ps e f.1)
each_change Q i j (inserted w ∷ ps) e f = each_change Q i (suc j) ps e f

changes_turned : (i j : ℕ) (ps : List Piece) → new_changes i j ps ≡ old_changes j i (map inverted ps)
changes_turned i j [] = refl
changes_turned i j (kept ∷ ps) = changes_turned (suc i) (suc j) ps
changes_turned i j (updated v w ∷ ps) = ap (λ cs. record { source = j; partner = Some i } ∷ cs) (changes_turned (suc i) (suc j) ps)
changes_turned i j (deleted v ∷ ps) = changes_turned (suc i) j ps
changes_turned i j (inserted w ∷ ps) = ap (λ cs. record { source = j; partner = None } ∷ cs) (changes_turned i (suc j) ps)

sources_are : (place : ℕ → ℕ) (i j : ℕ) (ps : List Piece) → map (λ c. place c.source) (old_changes i j ps) ≡ map place (changed_olds i ps)
sources_are place i j [] = refl
sources_are place i j (kept ∷ ps) = sources_are place (suc i) (suc j) ps
sources_are place i j (updated v w ∷ ps) = ap (λ ks. place i ∷ ks) (sources_are place (suc i) (suc j) ps)
sources_are place i j (deleted v ∷ ps) = ap (λ ks. place i ∷ ks) (sources_are place (suc i) j ps)
sources_are place i j (inserted w ∷ ps) = sources_are place i (suc j) ps

stays_turned : (stay : Pair → Bool) (c : Change) → new_stays stay c ≡ old_stays (λ p. stay (swapped p)) c
stays_turned stay c = by c.partner refl
  where
    by : (n : Option ℕ) → c.partner ≡ n → new_stays stay c ≡ old_stays (λ p. stay (swapped p)) c
    by None e = rw e refl
    by (Some k) e = rw e refl

module _ {R : Type 0} (rank : R → ℕ) (change : R → Change) (place : ℕ → ℕ) where
  -- the spot of a ranked element
  abbrev pub ranked_spot : (Pair → Bool) → List Tree → R → Spot
  ranked_spot stay zs r = record { place = rank r; value = element_at zs (change r).source; stays = old_stays stay (change r) }

  spot_by : (stay : Pair → Bool) (zs : List Tree) (r : R) (c : Change) (k : ℕ) (v : Tree) → change r ≡ c → rank r ≡ k → element_at zs c.source ≡ v
      → ranked_spot stay zs r ≡ record { place = k; value = v; stays = old_stays stay c }
  spot_by stay zs r c k v e f g = rw (e, f, g) refl

  spots_ranked : (stay : Pair → Bool) (zs : List Tree) (i j : ℕ) (ps : List Piece) (xs : List Tree) (us : List R) → LeadsFrom ps xs
      → ((k : ℕ) → element_at zs (i + k) ≡ element_at xs k) → map change us ≡ old_changes i j ps
      → map rank us ≡ map (λ c. place c.source) (old_changes i j ps) → map (ranked_spot stay zs) us ≡ old_spots place stay i j ps
  spots_ranked stay zs i j [] xs [] leads is e f = refl
  spots_ranked stay zs i j [] xs (u ∷ us) leads is e f = absurd (cons_no _ _ e)
  spots_ranked stay zs i j (kept ∷ ps) [] us leads is e f = absurd leads
  spots_ranked stay zs i j (kept ∷ ps) (x ∷ xs) us leads is e f = spots_ranked stay zs (suc i) (suc j) ps xs us leads (remaining (element_at zs) i x xs is) e f
  spots_ranked stay zs i j (updated v w ∷ ps) [] us leads is e f = absurd leads
  spots_ranked stay zs i j (updated v w ∷ ps) (x ∷ xs) [] leads is e f = absurd (no_cons _ _ e)
  spots_ranked stay zs i j (updated v w ∷ ps) (x ∷ xs) (u ∷ us) leads is e f =
      both _ _ _ _ (spot_by stay zs u (record { source = i; partner = Some j }) (place i) v (head_is _ _ _ _ e) (head_is _ _ _ _ f) (first (element_at zs) i x xs is ∙ leads.0))
      (spots_ranked stay zs (suc i) (suc j) ps xs us leads.1 (remaining (element_at zs) i x xs is) (tail_is _ _ _ _ e) (tail_is _ _ _ _ f))
    where
      both : (a b : Spot) (ss ts : List Spot) → a ≡ b → ss ≡ ts → a ∷ ss ≡ b ∷ ts
      both a b ss ts e f = cc
  spots_ranked stay zs i j (deleted v ∷ ps) [] us leads is e f = absurd leads
  spots_ranked stay zs i j (deleted v ∷ ps) (x ∷ xs) [] leads is e f = absurd (no_cons _ _ e)
  spots_ranked stay zs i j (deleted v ∷ ps) (x ∷ xs) (u ∷ us) leads is e f =
      both _ _ _ _ (spot_by stay zs u (record { source = i; partner = None }) (place i) v (head_is _ _ _ _ e) (head_is _ _ _ _ f) (first (element_at zs) i x xs is ∙ leads.0))
      (spots_ranked stay zs (suc i) j ps xs us leads.1 (remaining (element_at zs) i x xs is) (tail_is _ _ _ _ e) (tail_is _ _ _ _ f))
    where
      both : (a b : Spot) (ss ts : List Spot) → a ≡ b → ss ≡ ts → a ∷ ss ≡ b ∷ ts
      both a b ss ts e f = cc
  spots_ranked stay zs i j (inserted w ∷ ps) xs us leads is e f = spots_ranked stay zs i (suc j) ps xs us leads is e f

  -- the rank of each is the place of its source
  ranks_placed : (cs : List Change) (us : List R) → map change us ≡ cs → map rank us ≡ map (λ c. place c.source) cs → Each (λ r. rank r ≡ place (change r).source) us
  ranks_placed cs [] e f = tt
  ranks_placed [] (u ∷ us) e f = absurd (cons_no _ _ e)
  ranks_placed (c ∷ cs) (u ∷ us) e f = (
    head_is _ _ _ _ f ∙ ap (λ b. place b.source) (sym (head_is _ _ _ _ e)),
    ranks_placed cs us (tail_is _ _ _ _ e) (tail_is _ _ _ _ f),
  )

  spots_are : (stay : Pair → Bool) (e : Delta) (zs : List Tree) (us rs : List R) → LeadsFrom e zs → AreRanked rank change place (old_changes 0 0 e) us rs
      → IsPermutation (old_spots place stay 0 0 e) (map (ranked_spot stay zs) rs)
  spots_are stay e zs us rs leads are =
      subst (λ ss. IsPermutation ss (map (ranked_spot stay zs) rs))
      (spots_ranked stay zs 0 0 e zs us leads whole are.changes_are are.ranks_are)
      (IsPermutation-map (ranked_spot stay zs) us rs are.same)
    where
      whole : (k : ℕ) → element_at zs (0 + k) ≡ element_at zs k
      whole k = let same : 0 + k ≡ k = omega arith in ap (element_at zs) same

  positions_are : (e : Delta) (us rs : List R) → AreRanked rank change place (old_changes 0 0 e) us rs → IsPermutation (map place (changed_olds 0 e)) (map rank rs)
  positions_are e us rs are =
      subst (λ ks. IsPermutation ks (map rank rs)) (are.ranks_are ∙ sources_are place 0 0 e) (IsPermutation-map rank us rs are.same)

-- a list in which one element passes
any_itself : {X : Type 0} (xs : List X) → Each (λ x. (test : X → Bool) → test x ≡ true → list_any test xs ≡ true) xs
any_itself [] = tt
any_itself {X = X} (x ∷ xs) = (λ test is. prefix test is, each_weaker _ _ (λ y h test is. later test (h test is)) xs (any_itself xs))
  where
    prefix : (test : X → Bool) → test x ≡ true → list_any test (x ∷ xs) ≡ true
    prefix test is = rw is refl

    later : (test : X → Bool) → list_any test xs ≡ true → list_any test (x ∷ xs) ≡ true
    later test is = elim (cases_Bool (test x)) [
      | inl here ↦ rw here refl
      | inr none ↦ rw none is
    ]

any_none : {X : Type 0} (test : X → Bool) (xs : List X) → Each (λ x. test x ≡ false) xs → list_any test xs ≡ false
any_none test [] e = refl
any_none test (x ∷ xs) e = let none = e.0 in rw none (any_none test xs e.1)

any_agree : {X : Type 0} (f g : X → Bool) (xs : List X) → Each (λ x. f x ≡ g x) xs → list_any f xs ≡ list_any g xs
any_agree f g [] e = refl
any_agree f g (x ∷ xs) e = both (f x) (g x) (list_any f xs) (list_any g xs) e.0 (any_agree f g xs e.1)
  where
    both : (a b c d : Bool) → a ≡ b → c ≡ d → (a || c) ≡ (b || d)
    both a b c d e f = cc

any_mapped : {X Y : Type 0} (test : Y → Bool) (f : X → Y) (xs : List X) → list_any (λ x. test (f x)) xs ≡ list_any test (map f xs)
any_mapped test f [] = refl
any_mapped test f (x ∷ xs) = ap (λ t. test (f x) || t) (any_mapped test f xs)

module _ {R : Type 0} (rank : R → ℕ) (change : R → Change) (compare : Comparison) (o : IsTotalOrder compare) (xs : List Tree) (d : Delta) (leads : LeadsFrom d xs)
    (gone come : List R) (are : AreRankedBoth rank change compare xs d gone come) where
  abbrev ys : List Tree
  ys = applied d xs

  abbrev ps : List Pair
  ps = pairs d

  abbrev stay : Pair → Bool
  stay p = stays compare xs ys ps p

  -- where the partner of an old element stands in the new order
  abbrev new : R → Option ℕ
  new r = option_map (sorted_position compare ys) (change r).partner

  abbrev new_spot : R → Spot
  new_spot r = record { place = rank r; value = element_at ys (change r).source; stays = new_stays stay (change r) }

  new_ranked : AreRanked rank change (sorted_position compare ys) (old_changes 0 0 (map inverted d)) are.new_unordered come
  new_ranked = subst (λ cs. AreRanked rank change (sorted_position compare ys) cs are.new_unordered come) (changes_turned 0 0 d) are.new

  pub ranked_changed : AreChanged compare xs d (map rank gone) (map rank come)
  ranked_changed = record {
    gone_rise = are.old.rise;
    gone_are = positions_are rank change (sorted_position compare xs) d are.old_unordered gone are.old;
    come_rise = are.new.rise;
    come_are = positions_are rank change (sorted_position compare ys) (map inverted d) are.new_unordered come new_ranked;
  }

  -- the spots of ranked elements
  pub ranked_spots : AreSpots compare xs d (map (ranked_spot rank change (sorted_position compare xs) stay xs) gone) (map new_spot come)
  ranked_spots = record {
    gone_rise = subst (IsRising 0) (sym (map_map (ranked_spot rank change (sorted_position compare xs) stay xs) (λ s. s.place) gone)) are.old.rise;
    gone_are = spots_are rank change (sorted_position compare xs) stay d xs are.old_unordered gone leads are.old;
    come_rise = subst (IsRising 0) (sym (map_map new_spot (λ s. s.place) come)) are.new.rise;
    come_are =
        subst (IsPermutation (new_spots (sorted_position compare ys) stay 0 0 d)) (map_each _ _ come (each_true _ same_spot come))
        (subst (λ ss. IsPermutation ss (map (ranked_spot rank change (sorted_position compare ys) (λ p. stay (swapped p)) ys) come)) (sym (spots_turned (sorted_position compare ys) stay 0 0 d))
        (spots_are rank change (sorted_position compare ys) (λ p. stay (swapped p)) (map inverted d) ys are.new_unordered come (leads_back d xs leads).0 new_ranked));
  }
    where
      same_spot : (r : R) → ranked_spot rank change (sorted_position compare ys) (λ p. stay (swapped p)) ys r ≡ new_spot r
      same_spot r = ap (λ t. record { place = rank r; value = element_at ys (change r).source; stays = t }) (sym (stays_turned stay (change r)))

  -- what is true of the changed elements is true of the ranked ones
  gone_each : (P : R → Type 0) (Q : Change → Type 0) → ((r : R) → rank r ≡ sorted_position compare xs (change r).source → Q (change r) → P r) → Each Q (old_changes 0 0 d) → Each P gone
  gone_each P Q to e =
      recursion_from_All P gone (All-permutation P are.old_unordered gone are.old.same (All-from_recursion P are.old_unordered
      (each_both _ _ P to are.old_unordered (ranks_placed rank change (sorted_position compare xs) (old_changes 0 0 d) are.old_unordered are.old.changes_are are.old.ranks_are)
      (each_unmap Q change are.old_unordered (subst (Each Q) (sym are.old.changes_are) e)))))

  come_each : (P : R → Type 0) (Q : Change → Type 0) → ((r : R) → rank r ≡ sorted_position compare ys (change r).source → Q (change r) → P r) → Each Q (new_changes 0 0 d) → Each P come
  come_each P Q to e =
      recursion_from_All P come (All-permutation P are.new_unordered come are.new.same (All-from_recursion P are.new_unordered
      (each_both _ _ P to are.new_unordered (ranks_placed rank change (sorted_position compare ys) (new_changes 0 0 d) are.new_unordered are.new.changes_are are.new.ranks_are)
      (each_unmap Q change are.new_unordered (subst (Each Q) (sym are.new.changes_are) e)))))

  abbrev at : Pair → Pair
  at p = at_sorted_positions compare xs ys p

  abbrev updates : List Pair
  updates = filter (λ q. q.updated) ps

  -- a pair keeps its side to the updated ones exactly where it does to the ranked elements
  abbrev side_of : Pair → Change → Bool
  side_of u c = side_to u (sorted_position compare xs c.source) (option_map (sorted_position compare ys) c.partner)

  sides_by : (u : Pair) (i j : ℕ) (es : List Piece) → list_all (λ q. keeps_side u (at q)) (filter (λ q. q.updated) (pairs_from i j es)) ≡ list_all (side_of u) (old_changes i j es)
  sides_by u i j [] = refl
  sides_by u i j (kept ∷ es) = sides_by u (suc i) (suc j) es
  sides_by u i j (updated v w ∷ es) = ap (λ t. keeps_side u (at (record { old = i; new = j; updated = true })) && t) (sides_by u (suc i) (suc j) es)
  sides_by u i j (deleted v ∷ es) = sides_by u (suc i) j es
  sides_by u i j (inserted w ∷ es) = sides_by u i (suc j) es

  sides_ranked : (u : Pair) → list_all (λ q. keeps_side u (at q)) updates ≡ list_all (λ r. side_to u (rank r) (new r)) gone
  sides_ranked u =
      sides_by u 0 0 d
      ∙ (ap (list_all (side_of u)) (sym are.old.changes_are)
      ∙ (sym (all_mapped (side_of u) change are.old_unordered)
      ∙ (all_agree (λ r. side_of u (change r)) (λ r. side_to u (rank r) (new r)) are.old_unordered
      (each_weaker _ _ (λ r e. ap (λ k. side_to u k (new r)) (sym e)) are.old_unordered (ranks_placed rank change (sorted_position compare xs) (old_changes 0 0 d) are.old_unordered are.old.changes_are are.old.ranks_are))
      ∙ all_permuted (λ r. side_to u (rank r) (new r)) are.old_unordered gone are.old.same)))

  abbrev uncrossed_by : ℕ → Option ℕ → Bool
  uncrossed_by old None = true
  uncrossed_by old (Some b) = list_all (λ q. side_to (move old b) (rank q) (new q)) gone

  -- what is known of a changed element of the old list: whether it stays, and where its partner stands
  record Settled (c : Change) : Type 0 where
    stays_by : old_stays stay c
        ≡ (rank_kept (map rank gone) (map rank come) (sorted_position compare xs c.source) (option_map (sorted_position compare ys) c.partner)
        && uncrossed_by (sorted_position compare xs c.source) (option_map (sorted_position compare ys) c.partner))
    below : (b : ℕ) → option_map (sorted_position compare ys) c.partner ≡ Some b → b < length ys

  settled : Each Settled (old_changes 0 0 d)
  settled =
      each_change Settled 0 0 d
      (each_both _ _ _ (λ p h k up. record {
        stays_by = ap stay (whole p up) ∙ (h up ∙ ap (λ t. keeps_rank (map rank gone) (map rank come) (at p) && t) (sides_ranked (at p)));
        below = λ b e. within p b k e;
      }) ps (all_stay_by compare o xs d leads (map rank gone) (map rank come) ranked_changed) (pairs_are d xs leads))
      (each_true _ (λ k. record { stays_by = refl; below = λ b e. absurd (nothing b e) }) (deleted_olds 0 d))
    where
      whole : (p : Pair) → p.updated ≡ true → record { old = p.old; new = p.new; updated = true } ≡ p
      whole p up = ap (λ t. record { old = p.old; new = p.new; updated = t }) (sym up)

      nothing : (b : ℕ) → None ≡ Some b → ⊥
      nothing b e = absurd cc

      within : (p : Pair) (b : ℕ) → IsPaired (element_at xs) (element_at ys) (old_len d) (new_len d) (changed_olds 0 d) (changed_news 0 d) p → Some (sorted_position compare ys p.new) ≡ Some b → b < length ys
      within p b k e = let same : sorted_position compare ys p.new ≡ b = cc in subst (λ n. n < length ys) same (position_below compare o ys p.new (new_within compare o xs d leads p k))

  -- which of the old elements stay, by their ranks and the two scans
  pub ranked_stay : map (λ r. old_stays stay (change r)) gone
      ≡ both_flags (map (λ r. rank_kept (map rank gone) (map rank come) (rank r) (new r)) gone)
      (both_flags (prefix_marks 0 (map new gone)) (back_marks (length ys) (map new gone)))
  ranked_stay =
      map_each _ _ gone
      (gone_each _ Settled (λ r e h. h.stays_by ∙ ap (λ k. rank_kept (map rank gone) (map rank come) k (new r) && uncrossed_by k (new r)) (sym e)) settled)
      ∙ (map_each _ _ gone (each_true _ (λ r. ap (λ t. rank_kept (map rank gone) (map rank come) (rank r) (new r) && t) (same_uncrossed r (new r) refl)) gone)
      ∙ (sym (both_mapped (λ r. rank_kept (map rank gone) (map rank come) (rank r) (new r)) (uncrossed rank new gone) gone)
      ∙ ap (both_flags (map (λ r. rank_kept (map rank gone) (map rank come) (rank r) (new r)) gone))
      (sym (marks_are rank new (length ys) gone are.old.rise (gone_each (λ r. (b : ℕ) → new r ≡ Some b → b < length ys) Settled (λ r e h. h.below) settled)))))
    where
      same_uncrossed : (r : R) (n : Option ℕ) → new r ≡ n → uncrossed_by (rank r) (new r) ≡ uncrossed rank new gone r
      same_uncrossed r None e = rw e refl
      same_uncrossed r (Some b) e = rw e refl

  -- an old element stays, and its partner stands at this place
  abbrev kept_at : ℕ → Change → Bool
  kept_at place c = old_stays stay c && is_some_position place (option_map (sorted_position compare ys) c.partner)

  abbrev pair_kept_at : ℕ → Pair → Bool
  pair_kept_at place p = stay p && (sorted_position compare ys p.new == place)

  kept_by : (place : ℕ) (i j : ℕ) (es : List Piece) → list_any (kept_at place) (old_changes i j es) ≡ list_any (pair_kept_at place) (filter (λ q. q.updated) (pairs_from i j es))
  kept_by place i j [] = refl
  kept_by place i j (kept ∷ es) = kept_by place (suc i) (suc j) es
  kept_by place i j (updated v w ∷ es) = ap (λ t. pair_kept_at place (record { old = i; new = j; updated = true }) || t) (kept_by place (suc i) (suc j) es)
  kept_by place i j (deleted v ∷ es) = kept_by place (suc i) j es
  kept_by place i j (inserted w ∷ es) = kept_by place i (suc j) es

  kept_ranked : (place : ℕ) → list_any (λ r. old_stays stay (change r) && is_some_position place (new r)) gone ≡ list_any (pair_kept_at place) updates
  kept_ranked place =
      sym (list_any-IsPermutation (λ r. old_stays stay (change r) && is_some_position place (new r)) are.old_unordered gone are.old.same)
      ∙ (any_mapped (kept_at place) change are.old_unordered ∙ (ap (list_any (kept_at place)) are.old.changes_are ∙ kept_by place 0 0 d))

  -- a changed element of the new list stays where its partner does
  abbrev StaysAlike : Change → Type 0
  StaysAlike c = list_any (pair_kept_at (sorted_position compare ys c.source)) updates ≡ new_stays stay c

  both_false : (t u : Bool) → u ≡ false → (t && u) ≡ false
  both_false true u e = e
  both_false false u e = refl

  Paired : Pair → Type 0
  Paired p = IsPaired (element_at xs) (element_at ys) (old_len d) (new_len d) (changed_olds 0 d) (changed_news 0 d) p

  pairs_alike : Each (λ p. p.updated ≡ true → StaysAlike (record { source = p.new; partner = Some p.old })) ps
  unfolding Paired
  pairs_alike =
      each_both _ _ _ (λ p h row up. by p h.0 h.1 (row up) up) ps
      (each_both Paired (λ p. Each (AreOrdered p) ps) (λ p. Paired p × Each (AreOrdered p) ps) (λ p a b. (a, b)) ps (pairs_are d xs leads) (pairs_ordered d))
      (each_unfilter (λ p. (test : Pair → Bool) → test p ≡ true → list_any test updates ≡ true) (λ q. q.updated) ps (any_itself updates))
    where
      whole : (p : Pair) → p.updated ≡ true → p ≡ record { old = p.old; new = p.new; updated = true }
      whole p up = ap (λ t. record { old = p.old; new = p.new; updated = t }) up

      here : (p : Pair) → stay p ≡ true → pair_kept_at (sorted_position compare ys p.new) p ≡ true
      here p is = rw (is, eq-eqb (sorted_position compare ys p.new) (sorted_position compare ys p.new) refl) refl

      other : (p q : Pair) → Paired p → Paired q → AreOrdered p q → stay p ≡ false → pair_kept_at (sorted_position compare ys p.new) q ≡ false
      other p q h k order moves = elim (cases_eq (sorted_position compare ys q.new) (sorted_position compare ys p.new)) [
        | inl same ↦
            let one : p ≡ q = order.new_same (sym (position_once compare o ys q.new p.new (new_within compare o xs d leads q k) (new_within compare o xs d leads p h) same)) in
            let none : stay q ≡ false = ap stay (sym one) ∙ moves in
            rw none refl
        | inr apart ↦ both_false (stay q) (sorted_position compare ys q.new == sorted_position compare ys p.new) (ne_eqb (sorted_position compare ys q.new) (sorted_position compare ys p.new) apart)
      ]

      by : (p : Pair) → Paired p → Each (AreOrdered p) ps → ((test : Pair → Bool) → test p ≡ true → list_any test updates ≡ true) → p.updated ≡ true
          → list_any (pair_kept_at (sorted_position compare ys p.new)) updates ≡ stay (record { old = p.old; new = p.new; updated = true })
      by p h order any up = elim (cases_Bool (stay p)) [
        | inl is ↦ any (pair_kept_at (sorted_position compare ys p.new)) (here p is) ∙ sym (ap stay (sym (whole p up)) ∙ is)
        | inr moves ↦
            any_none (pair_kept_at (sorted_position compare ys p.new)) updates
            (each_weaker (λ q. (Paired q × AreOrdered p q) × (q.updated ≡ true)) _ (λ q k. other p q h k.0.0 k.0.1 moves) updates
            (each_filter (λ q. Paired q × AreOrdered p q) (λ q. q.updated) ps (each_both Paired (AreOrdered p) (λ q. Paired q × AreOrdered p q) (λ q a b. (a, b)) ps (pairs_are d xs leads) order)))
            ∙ sym (ap stay (sym (whole p up)) ∙ moves)
      ]

  inserted_alike : Each (λ k. StaysAlike (record { source = k; partner = None })) (deleted_olds 0 (map inverted d))
  unfolding Paired
  inserted_alike =
      each_both _ _ _ (λ k low apart. none k low (each_unmap (λ p. p.old ≢ k) swapped ps (subst (Each (λ p. p.old ≢ k)) (pairs_turned 0 0 d) apart))) (deleted_olds 0 (map inverted d))
      (each_weaker _ (λ k. k < length ys) (λ k h. omega (arith, h.1, length_from (map inverted d) ys (leads_back d xs leads).0)) (deleted_olds 0 (map inverted d)) (deleted_from 0 0 (map inverted d) (omega arith)))
      (pairs_undeleted 0 0 (map inverted d))
    where
      other : (k : ℕ) (q : Pair) → k < length ys → Paired q → q.new ≢ k → pair_kept_at (sorted_position compare ys k) q ≡ false
      other k q low h apart =
          both_false (stay q) (sorted_position compare ys q.new == sorted_position compare ys k)
          (ne_eqb (sorted_position compare ys q.new) (sorted_position compare ys k) (λ same. apart (position_once compare o ys q.new k (new_within compare o xs d leads q h) low same)))

      none : (k : ℕ) → k < length ys → Each (λ p. p.new ≢ k) ps → list_any (pair_kept_at (sorted_position compare ys k)) updates ≡ false
      none k low apart =
          any_none (pair_kept_at (sorted_position compare ys k)) updates
          (each_weaker (λ q. (Paired q × (q.new ≢ k)) × (q.updated ≡ true)) _ (λ q h. other k q low h.0.0 h.0.1) updates
          (each_filter (λ q. Paired q × (q.new ≢ k)) (λ q. q.updated) ps (each_both Paired _ (λ q. Paired q × (q.new ≢ k)) (λ q a b. (a, b)) ps (pairs_are d xs leads) apart)))

  all_alike : Each StaysAlike (new_changes 0 0 d)
  all_alike =
      subst (Each StaysAlike) (sym (changes_turned 0 0 d))
      (each_change StaysAlike 0 0 (map inverted d)
      (subst (Each (λ p. p.updated ≡ true → StaysAlike (record { source = p.old; partner = Some p.new }))) (sym (pairs_turned 0 0 d))
      (each_map (λ p. p.updated ≡ true → StaysAlike (record { source = p.old; partner = Some p.new })) swapped ps pairs_alike))
      inserted_alike)

  -- a changed element of the new list stays exactly where one of the old list does whose partner stands at its place
  pub come_stay : Each (λ t. list_any (λ r. old_stays stay (change r) && is_some_position (rank t) (new r)) gone ≡ new_stays stay (change t)) come
  come_stay =
      come_each _ StaysAlike (λ t e h. kept_ranked (rank t) ∙ (ap (λ k. list_any (pair_kept_at k) updates) e ∙ h)) all_alike
