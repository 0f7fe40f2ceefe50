-- Which pairs stay in a sorted list: by how many plain ones stand before them on both sides, and by two scans over the
-- updated ones.
use Rattle.std.proofs.Common.{◌≡◌, ◌∙◌, ℕ, zero, suc, ◌<◌, ◌==◌, ◌&&◌, Bool, true, false, List, [], ◌∷◌, length, map, refl, ap, sym, arith}
use Rattle.std.specs.Prelude.{◌||◌, nat_lt, not, filter, Some, slice_get, if◌then◌else◌}
use Rattle.std.specs.Cmp.{IsTotalOrder}
use Rattle.std.specs.List.{list_all, Contains, AllByRecursion as Each}
use Rattle.std.specs.declared.cmp.Ordering.{Ordering}
use Rattle.std.specs.declared.cmp.Ordering.TheVariants.{Less, Equal, Greater}
use Rattle.std.proofs.lemmas.Bool.{lt-ltb, ltb-true, ltb-false}
use Rattle.std.proofs.lemmas.List.Elements.{All-from_recursion, recursion_from_All, All-contains}
use Rattle.std.proofs.lemmas.List.Sorted.{All-permutation}
use Rattle.spec_value.specs.Tree.{Tree}
use Rattle.spec_lists.specs.Piece.{inverted, old_len, new_len}
use Rattle.spec_lists.specs.Pairs.{Pair, pairs}
use Rattle.spec_lists.specs.Delta.{Delta}
use Rattle.spec_lists.specs.Leads.{LeadsFrom, applied}
use Rattle.spec_lists.proofs.DeltaLeads.{length_from, length-applied}
use Rattle.spec_views.specs.Source.{element_at}
use Rattle.spec_views.specs.Arrangement.{Comparison, is_before}
use Rattle.spec_views.specs.Sorted.{keeps_order, stays, at_sorted_positions}
use Rattle.spec_views.proofs.SortedPositions.{Every}
use Rattle.spec_sorting.specs.Moves.{sorted_position, changed_olds, changed_news, AreChanged, AreMoves, plain_before, keeps_rank, keeps_side, crosses_none, both_flags, stay_flags}
use Rattle.spec_sorting.proofs.Scans.{scans}
use Rattle.spec_sorting.proofs.Counts.{how_many, all_permuted, many_mapped}
use Rattle.spec_sorting.proofs.Positions.{position_below, position_once, before_position}
use Rattle.spec_sorting.proofs.Partners.{each_weaker, each_both, each_filter, AreOrdered, pairs_ordered, IsPaired, pairs_are, plain_olds_are, plain_news_are}
use Rattle.spec_sorting.proofs.Ranks.{alike, all_agree, nested, rank_is, side_alike}

-- elements of equal values and of one order of indexes stand to each other alike
pub before_alike : (compare : Comparison) (xs ys : List Tree) (i j k l : ℕ) → element_at xs i ≡ element_at ys k → element_at xs j ≡ element_at ys l
    → nat_lt i j ≡ nat_lt k l → is_before compare xs i j ≡ is_before compare ys k l
before_alike compare xs ys i j k l e f order =
    by (compare (element_at xs i) (element_at xs j)) refl (sym (both (element_at xs i) (element_at ys k) (element_at xs j) (element_at ys l) e f))
  where
    both : (a b c d : Tree) → a ≡ b → c ≡ d → compare a c ≡ compare b d
    both a b c d e f = cc

    by : (r : Ordering) → compare (element_at xs i) (element_at xs j) ≡ r → compare (element_at ys k) (element_at ys l) ≡ compare (element_at xs i) (element_at xs j) → is_before compare xs i j ≡ is_before compare ys k l
    by Less g h = rw (h, g) refl
    by Equal g h = rw (h, g) order
    by Greater g h = rw (h, g) refl

all_split : {X : Type 0} (f test : X → Bool) (xs : List X) → list_all f xs ≡ (list_all f (filter (λ x. not (test x)) xs) && list_all f (filter test xs))
all_split f test [] = refl
all_split {X = X} f test (x ∷ xs) = by (test x) refl (f x) refl (all_split f test xs)
  where
    back : (t u : Bool) → (t && (true && u)) ≡ (t && u)
    back true u = refl
    back false u = refl

    none : (t : Bool) → false ≡ (t && false)
    none true = refl
    none false = refl

    by : (t : Bool) → test x ≡ t → (a : Bool) → f x ≡ a → list_all f xs ≡ (list_all f (filter (λ x. not (test x)) xs) && list_all f (filter test xs))
        → list_all f (x ∷ xs) ≡ (list_all f (filter (λ x. not (test x)) (x ∷ xs)) && list_all f (filter test (x ∷ xs)))
    by true e true g h = rw (e, g) h
    by true e false g h = rw (e, g) (none (list_all f (filter (λ x. not (test x)) xs)))
    by false e true g h = rw (e, g) h
    by false e false g h = rw (e, g) refl

pub all_mapped : {X Y : Type 0} (test : Y → Bool) (f : X → Y) (xs : List X) → list_all (λ x. test (f x)) xs ≡ list_all test (map f xs)
all_mapped test f [] = refl
all_mapped test f (x ∷ xs) = ap (λ t. test (f x) && t) (all_mapped test f xs)

pub both_mapped : {X : Type 0} (f g : X → Bool) (xs : List X) → both_flags (map f xs) (map g xs) ≡ map (λ x. f x && g x) xs
both_mapped f g [] = refl
both_mapped f g (x ∷ xs) = ap (λ us. (f x && g x) ∷ us) (both_mapped f g xs)

both_true : (a b c d : Bool) → a ≡ b → c ≡ d → (a && c) ≡ (b && d)
both_true a b c d e f = cc

same_numbers : (a b c d : ℕ) → a ≡ b → c ≡ d → (a == c) ≡ (b == d)
same_numbers a b c d e f = cc

truth_apart : {t u : Bool} → t ≡ true → u ≡ false → t ≡ u → ⊥
truth_apart e f g = absurd cc

module _ (compare : Comparison) (o : IsTotalOrder compare) (xs : List Tree) (d : Delta) (leads : LeadsFrom d xs) where
  abbrev ys : List Tree
  ys = applied d xs

  abbrev at : Pair → Pair
  at p = at_sorted_positions compare xs ys p

  abbrev Paired : Pair → Type 0
  Paired p = IsPaired (element_at xs) (element_at ys) (old_len d) (new_len d) (changed_olds 0 d) (changed_news 0 d) p

  pub old_within : (p : Pair) → Paired p → p.old < length xs
  old_within p h = omega (arith, h.old_within, length_from d xs leads)

  pub new_within : (p : Pair) → Paired p → p.new < length ys
  new_within p h = omega (arith, h.new_within, length-applied d xs leads)

  pub order_by_positions : (p q : Pair) → Paired p → Paired q → keeps_order compare xs ys p q ≡ keeps_side (at p) (at q)
  order_by_positions p q h k =
      agreeing (is_before compare xs p.old q.old) (is_before compare ys p.new q.new) _ _
      (before_position compare o xs p.old q.old (old_within p h) (old_within q k)) (before_position compare o ys p.new q.new (new_within p h) (new_within q k))
    where
      agreeing : (a b c d : Bool) → a ≡ c → b ≡ d → (if a then b else not b) ≡ (if c then d else not d)
      agreeing a b c d e f = cc

  -- those of two plain ones that stand before an updated one on one side
  shuts_out : (a b c e f g : ℕ) → nat_lt a b ≡ nat_lt e f → nat_lt b c ≡ true → nat_lt f g ≡ false → nat_lt e g ≡ true → nat_lt a c ≡ true
  shuts_out a b c e f g same low high less =
      let there : nat_lt e f ≡ true = lt-ltb e f (omega (arith, ltb-true e g less, ltb-false f g high)) in
      lt-ltb a c (omega (arith, ltb-true b c low, ltb-true a b (same ∙ there)))

  -- an updated pair crosses no plain one exactly where as many of them stand before it on both sides
  plain_ranks : (gone come : List ℕ) → AreChanged compare xs d gone come
      → (p : Pair) → p.updated ≡ true → Paired p → Each (AreOrdered p) (pairs d)
      → list_all (λ q. keeps_side (at p) (at q)) (filter (λ q. not q.updated) (pairs d)) ≡ keeps_rank gone come (at p)
  plain_ranks gone come are p up h ordered =
      let plains : List Pair = filter (λ q. not q.updated) (pairs d) in
      let f : Pair → Bool = λ q. nat_lt (at q).old (at p).old in
      let g : Pair → Bool = λ q. nat_lt (at q).new (at p).new in
      let Both : Pair → Type 0 = λ q. Paired q × Each (AreOrdered q) (pairs d) in
      let facts : Each Paired (pairs d) = pairs_are d xs leads in
      let all : Each (λ q. (Paired q × AreOrdered p q) × (not q.updated ≡ true)) plains =
      each_filter (λ q. Paired q × AreOrdered p q) (λ q. not q.updated) (pairs d)
      (each_both Paired (AreOrdered p) (λ q. Paired q × AreOrdered p q) (λ q a b. (a, b)) (pairs d) facts ordered) in
      let sides : list_all (λ q. keeps_side (at p) (at q)) plains ≡ list_all (λ q. alike (f q) (g q)) plains =
      all_agree (λ q. keeps_side (at p) (at q)) (λ q. alike (f q) (g q)) plains
      (each_weaker (λ q. (Paired q × AreOrdered p q) × (not q.updated ≡ true)) _ (λ q k. apart q k.0.0 k.0.1 k.1) plains all) in
      let shut : Each (λ x. Each (λ y. f x ≡ true → g x ≡ false → g y ≡ true → f y ≡ true) plains) plains =
      each_weaker (λ x. Both x × (not x.updated ≡ true)) _ (λ x k. row x k.0.0 k.1 k.0.1) plains
      (each_filter Both (λ q. not q.updated) (pairs d) (each_both Paired (λ q. Each (AreOrdered q) (pairs d)) Both (λ q a b. (a, b)) (pairs d) facts (pairs_ordered d))) in
      let olds : how_many f plains ≡ plain_before gone (at p).old =
      sym (many_mapped (λ k. nat_lt (sorted_position compare xs k) (at p).old) (λ q. q.old) plains)
      ∙ (ap (how_many (λ k. nat_lt (sorted_position compare xs k) (at p).old)) (plain_olds_are 0 0 d)
      ∙ rank_is compare o xs d gone (sym (length_from d xs leads)) are.gone_rise are.gone_are p.old (old_within p h) (h.changed_old up)) in
      let news : how_many g plains ≡ plain_before come (at p).new =
      sym (many_mapped (λ k. nat_lt (sorted_position compare ys k) (at p).new) (λ q. q.new) plains)
      ∙ (ap (how_many (λ k. nat_lt (sorted_position compare ys k) (at p).new)) (plain_news_are 0 0 d)
      ∙ rank_is compare o ys (map inverted d) come (sym (length-applied d xs leads)) are.come_rise are.come_are p.new (new_within p h) (h.changed_new up)) in
      sides ∙ (nested f g plains shut ∙ same_numbers _ _ _ _ olds news)
    where
      plain_is : (t : Bool) → not t ≡ true → t ≡ false
      plain_is true e = absurd cc
      plain_is false e = refl

      apart : (q : Pair) → Paired q → AreOrdered p q → not q.updated ≡ true
          → keeps_side (at p) (at q) ≡ alike (nat_lt (at q).old (at p).old) (nat_lt (at q).new (at p).new)
      apart q k order plain =
          side_alike (at p) (at q)
          (λ e. truth_apart up (plain_is q.updated plain) (ap (λ r. r.updated) (order.old_same (position_once compare o xs p.old q.old (old_within p h) (old_within q k) e))))
          (λ e. truth_apart up (plain_is q.updated plain) (ap (λ r. r.updated) (order.new_same (position_once compare o ys p.new q.new (new_within p h) (new_within q k) e))))

      crossing : (x y : Pair) → Paired x → Paired y → AreOrdered x y → x.updated ≡ false → y.updated ≡ false
          → nat_lt (at y).old (at x).old ≡ nat_lt (at y).new (at x).new
      crossing x y k m order x_plain y_plain =
          sym (before_position compare o xs y.old x.old (old_within y m) (old_within x k))
          ∙ (before_alike compare xs ys y.old x.old y.new x.new (m.same y_plain) (k.same x_plain) order.side_back
          ∙ before_position compare o ys y.new x.new (new_within y m) (new_within x k))

      row : (x : Pair) → Paired x → not x.updated ≡ true → Each (AreOrdered x) (pairs d)
          → Each (λ y. nat_lt (at x).old (at p).old ≡ true → nat_lt (at x).new (at p).new ≡ false → nat_lt (at y).new (at p).new ≡ true → nat_lt (at y).old (at p).old ≡ true) (filter (λ q. not q.updated) (pairs d))
      row x k plain order =
          each_weaker (λ y. (Paired y × AreOrdered x y) × (not y.updated ≡ true)) _
          (λ y m low high less. shuts_out (at y).old (at x).old (at p).old (at y).new (at x).new (at p).new
          (crossing x y k m.0.0 m.0.1 (plain_is x.updated plain) (plain_is y.updated m.1)) low high less)
          (filter (λ q. not q.updated) (pairs d))
          (each_filter (λ y. Paired y × AreOrdered x y) (λ q. not q.updated) (pairs d)
          (each_both Paired (AreOrdered x) (λ y. Paired y × AreOrdered x y) (λ y a b. (a, b)) (pairs d) (pairs_are d xs leads) order))

  -- the pair stays exactly where it keeps its rank among the plain ones and its side to each updated one
  stays_by : (gone come : List ℕ) → AreChanged compare xs d gone come
      → (p : Pair) → p.updated ≡ true → Paired p → Each (AreOrdered p) (pairs d)
      → stays compare xs ys (pairs d) p
      ≡ (keeps_rank gone come (at p) && list_all (λ q. keeps_side (at p) (at q)) (filter (λ q. q.updated) (pairs d)))
  stays_by gone come are p up h ordered =
      let one_side : Pair → Bool = λ q. keeps_side (at p) (at q) in
      let by_positions : list_all (keeps_order compare xs ys p) (pairs d) ≡ list_all one_side (pairs d) =
      all_agree (keeps_order compare xs ys p) one_side (pairs d) (each_weaker Paired _ (λ q k. order_by_positions p q h k) (pairs d) (pairs_are d xs leads)) in
      first p.updated (list_all (keeps_order compare xs ys p) (pairs d)) up
      ∙ (by_positions ∙ (all_split one_side (λ q. q.updated) (pairs d) ∙ both_true _ _ _ _ (plain_ranks gone come are p up h ordered) refl))
    where
      first : (t u : Bool) → t ≡ true → (not t || u) ≡ u
      first true u e = refl
      first false u e = absurd cc

  pub all_stay_by : (gone come : List ℕ) → AreChanged compare xs d gone come
      → Each (λ p. p.updated ≡ true → stays compare xs ys (pairs d) p
      ≡ (keeps_rank gone come (at p) && list_all (λ q. keeps_side (at p) (at q)) (filter (λ q. q.updated) (pairs d)))) (pairs d)
  all_stay_by gone come are =
      each_both Paired (λ p. Each (AreOrdered p) (pairs d)) _ (λ p h ordered up. stays_by gone come are p up h ordered) (pairs d) (pairs_are d xs leads) (pairs_ordered d)

  -- the updated pairs' new places are places of the new list
  pub updated_below : Each (λ q. (at q).new < length ys) (filter (λ q. q.updated) (pairs d))
  updated_below =
      each_weaker (λ q. Paired q × (q.updated ≡ true)) _ (λ q k. position_below compare o ys q.new (new_within q k.0)) (filter (λ q. q.updated) (pairs d))
      (each_filter Paired (λ q. q.updated) (pairs d) (pairs_are d xs leads))

  moves_below : (moves : List Pair) → AreMoves compare xs d moves → Every (λ b. b < length ys) (map (λ p. p.new) moves)
  moves_below moves are =
      let P : Pair → Type 0 = λ u. u.new < length ys in
      every_new moves (recursion_from_All P moves (All-permutation P _ moves are.are
      (All-from_recursion P _ (each_mapped (filter (λ q. q.updated) (pairs d)) updated_below))))
    where
      each_mapped : (ps : List Pair) → Each (λ q. (at q).new < length ys) ps → Each (λ u. u.new < length ys) (map at ps)
      each_mapped [] e = tt
      each_mapped (p ∷ ps) e = (e.0, each_mapped ps e.1)

      every_new : (ps : List Pair) → Each (λ u. u.new < length ys) ps → Every (λ b. b < length ys) (map (λ p. p.new) ps)
      every_new [] e = tt
      every_new (p ∷ ps) e = (e.0, every_new ps e.1)

  -- what the scans say
  pub flags_are : (gone come : List ℕ) (moves : List Pair) → AreMoves compare xs d moves
      → stay_flags (length ys) gone come moves ≡ map (λ u. keeps_rank gone come u && crosses_none moves u) moves
  flags_are gone come moves are =
      ap (both_flags (map (keeps_rank gone come) moves)) (scans (length ys) moves are.rise (moves_below moves are))
      ∙ both_mapped (keeps_rank gone come) (crosses_none moves) moves

  -- an updated pair stays exactly where it keeps its rank and crosses no other updated one
  pub stays_is : (gone come : List ℕ) → AreChanged compare xs d gone come → (moves : List Pair) → AreMoves compare xs d moves
      → (p : Pair) → Contains (pairs d) p → p.updated ≡ true
      → stays compare xs ys (pairs d) p ≡ (keeps_rank gone come (at p) && crosses_none moves (at p))
  stays_is gone come are moves moved p found up =
      let By : Pair → Type 0 = λ p. p.updated ≡ true → stays compare xs ys (pairs d) p
      ≡ (keeps_rank gone come (at p) && list_all (λ q. keeps_side (at p) (at q)) (filter (λ q. q.updated) (pairs d))) in
      All-contains By (pairs d) p (All-from_recursion By (pairs d) (all_stay_by gone come are)) found up
      ∙ ap (λ t. keeps_rank gone come (at p) && t)
      (all_mapped (keeps_side (at p)) at (filter (λ q. q.updated) (pairs d)) ∙ all_permuted (keeps_side (at p)) _ moves moved.are)

  -- the flag of an updated pair that is this one of them
  pub flag_is : (gone come : List ℕ) → AreChanged compare xs d gone come → (moves : List Pair) → AreMoves compare xs d moves
      → (p : Pair) → Contains (pairs d) p → p.updated ≡ true → (k : ℕ) → slice_get moves k ≡ Some (at p)
      → slice_get (stay_flags (length ys) gone come moves) k ≡ Some (stays compare xs ys (pairs d) p)
  flag_is gone come are moves moved p found up k here =
      ap (λ us. slice_get us k) (flags_are gone come moves moved)
      ∙ (get_mapped (λ u. keeps_rank gone come u && crosses_none moves u) moves k (at p) here ∙ ap Some (sym (stays_is gone come are moves moved p found up)))
    where
      get_mapped : (f : Pair → Bool) (us : List Pair) (k : ℕ) (u : Pair) → slice_get us k ≡ Some u → slice_get (map f us) k ≡ Some (f u)
      get_mapped f [] k u e = absurd cc
      get_mapped f (v ∷ us) zero u e = let same : v ≡ u = cc in ap (λ w. Some (f w)) same
      get_mapped f (v ∷ us) (suc k) u e = get_mapped f us k u e
