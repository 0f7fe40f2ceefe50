-- What a sorted list tells is what its definition says.
use Rattle.std.proofs.Common.{◌≡◌, ◌∙◌, ◌+◌, ◌-◌, ◌<◌, ◌≤◌, ℕ, suc, Bool, List, [], ◌∷◌, length, map, Option, Some, None, refl, sym, ap, subst, inl, inr, arith}
use Rattle.std.specs.Prelude.{◌&&◌, ◌||◌, option_map}
use Rattle.std.specs.Cmp.{IsTotalOrder}
use Rattle.std.specs.List.{Contains, AllByRecursion as Each, list_any, slice_get}
use Rattle.std.proofs.lemmas.List.{length-map}
use Rattle.std.proofs.lemmas.List.Elements.{All-from_recursion, recursion_from_All}
use Rattle.std.proofs.lemmas.List.Sorted.{All-permutation, length_permutation}
use Rattle.std.proofs.lemmas.Option.{slice_get_within, get_or_from_slice_get, slice_get-get_or}
use Rattle.spec_sorting.specs.Tree.{Tree}
use Rattle.spec_sorting.specs.Piece.{Piece, kept, updated, deleted, inserted, normal, inverted, old_len, new_len}
use Rattle.spec_sorting.specs.Pairs.{Pair, pairs}
use Rattle.spec_sorting.specs.Delta.{Delta}
use Rattle.spec_sorting.specs.Sides.{sides, Item, plain, changed, lone, olds}
use Rattle.spec_sorting.specs.Leads.{IsDelta, LeadsFrom, applied}
use Rattle.spec_sorting.proofs.DeltaLeads.{length_from, length-applied}
use Rattle.spec_sorting.proofs.Composition.{length-olds}
use Rattle.spec_sorting.proofs.Normal.{normal_is}
use Rattle.spec_sorting.proofs.Made.{pieces_by_leads, pieces_by_normal}
use Rattle.spec_sorting.specs.Source.{element_at}
use Rattle.spec_sorting.specs.Arrangement.{Comparison, arrangement}
use Rattle.spec_sorting.specs.Sorted.{sorted_view, sorted_pairs, sorted_follow, stays, index_of}
use Rattle.spec_sorting.proofs.SortedPositions.{In, at_In, In_at}
use Rattle.spec_sorting.proofs.Arrangements.{arrangement_is}
use Rattle.spec_sorting.specs.Moves.{both_flags, sorted_position, changed_news}
use Rattle.spec_sorting.specs.Merged.{between, AreAligned, AreSpots}
use Rattle.spec_sorting.specs.Ranked.{Change, old_changes, new_changes, old_stays, new_stays, is_some_position, rank_kept, prefix_marks, back_marks, AreRankedBoth}
use Rattle.spec_sorting.proofs.Partners.{each_weaker, each_true}
use Rattle.spec_sorting.proofs.Ranks.{in_permuted, in_mapped}
use Rattle.spec_sorting.proofs.Follow.{each_map, each_unmap, follow_is, aligned}
use Rattle.spec_sorting.proofs.Ranked.{ranked_spot, ranked_changed, ranked_spots, ranked_stay, come_stay}
use Rattle.gl_kernel.specs.Plans.{CanTell}
use Rattle.gl_arranged.specs.declared.changed.Changed.{Changed}
use Rattle.gl_arranged.specs.declared.changed.Ranked.{Ranked}
use Rattle.gl_arranged.specs.Changes.{AreRanked, changed_of, rank_of}
use Rattle.gl_arranged.proofs.Ranks.{changed_rise}
use Rattle.gl_arranged.proofs.Lists.{rising_span}
use Rattle.gl_sorted.specs.declared.leaving.Leaving.{Leaving}
use Rattle.gl_sorted.specs.Leaves.{ranks, settled, leaving_of, prefix_scanned, IsFound, AreFound}
use Rattle.gl_arranged.specs.OldValues.{IsOldValue}
use Rattle.gl_sorted.specs.Merging.{CanMerge, merged_from, old_spot, new_spot, old_spots_of, new_spots_of, is_kept_at, kept_positions, positions_kept}
use Rattle.gl_sorted.proofs.Kept.{NoneGoes, KeptRise, kept_rise, none_goes, any_kept, kept_any, each_kept, filter_is}
use Rattle.gl_sorted.proofs.Settled.{leaf, flagged, scans_are, flags_are, news_are, stays_are}

-- the changed elements of a delta in sorted order
pub record AreChangesOf (compare : Comparison) (xs ys : List Tree) (d : Delta) (gone came : List Ranked) : Type 0 where
  pub delta : IsDelta d xs ys
  pub gone_ranked : AreRanked (arrangement compare xs) (sides d).old gone
  pub came_ranked : AreRanked (arrangement compare ys) (sides d).new came
  pub olds_few : old_len d ≤ 2147483647
  pub news_few : new_len d ≤ 2147483647

abbrev rank : Ranked → ℕ
rank r = r.place

abbrev change : Ranked → Change
change r = record { source = r.source; partner = r.partner }

changes_old : (is : List ℕ) (ps : List Piece) (i j : ℕ) → map change (map (rank_of is) (changed_of i (olds j ps))) ≡ old_changes i j ps
changes_old is [] i j = refl
changes_old is (kept ∷ ps) i j = changes_old is ps (suc i) (suc j)
changes_old is (updated v w ∷ ps) i j = ap (λ cs. record { source = i; partner = Some j } ∷ cs) (changes_old is ps (suc i) (suc j))
changes_old is (deleted v ∷ ps) i j = ap (λ cs. record { source = i; partner = None } ∷ cs) (changes_old is ps (suc i) j)
changes_old is (inserted w ∷ ps) i j = changes_old is ps i (suc j)

ranks_old : (is : List ℕ) (ps : List Piece) (i j : ℕ) → map rank (map (rank_of is) (changed_of i (olds j ps))) ≡ map (λ c. index_of c.source is) (old_changes i j ps)
ranks_old is [] i j = refl
ranks_old is (kept ∷ ps) i j = ranks_old is ps (suc i) (suc j)
ranks_old is (updated v w ∷ ps) i j = ap (λ ks. index_of i is ∷ ks) (ranks_old is ps (suc i) (suc j))
ranks_old is (deleted v ∷ ps) i j = ap (λ ks. index_of i is ∷ ks) (ranks_old is ps (suc i) j)
ranks_old is (inserted w ∷ ps) i j = ranks_old is ps i (suc j)

changes_new : (is : List ℕ) (ps : List Piece) (i j : ℕ) → map change (map (rank_of is) (changed_of j (olds i (map inverted ps)))) ≡ new_changes i j ps
changes_new is [] i j = refl
changes_new is (kept ∷ ps) i j = changes_new is ps (suc i) (suc j)
changes_new is (updated v w ∷ ps) i j = ap (λ cs. record { source = j; partner = Some i } ∷ cs) (changes_new is ps (suc i) (suc j))
changes_new is (deleted v ∷ ps) i j = changes_new is ps (suc i) j
changes_new is (inserted w ∷ ps) i j = ap (λ cs. record { source = j; partner = None } ∷ cs) (changes_new is ps i (suc j))

ranks_new : (is : List ℕ) (ps : List Piece) (i j : ℕ) → map rank (map (rank_of is) (changed_of j (olds i (map inverted ps)))) ≡ map (λ c. index_of c.source is) (new_changes i j ps)
ranks_new is [] i j = refl
ranks_new is (kept ∷ ps) i j = ranks_new is ps (suc i) (suc j)
ranks_new is (updated v w ∷ ps) i j = ap (λ ks. index_of j is ∷ ks) (ranks_new is ps (suc i) (suc j))
ranks_new is (deleted v ∷ ps) i j = ranks_new is ps (suc i) j
ranks_new is (inserted w ∷ ps) i j = ap (λ ks. index_of j is ∷ ks) (ranks_new is ps i (suc j))

-- partners are among the changed elements of the new list
partners_found : (is cs : List ℕ) (ps : List Piece) (i j : ℕ) → ((k : ℕ) → In k (changed_news j ps) → (k < length is) × Contains cs (index_of k is))
    → Each (λ c. IsFound is cs c.partner) (changed_of i (olds j ps))
partners_found is cs [] i j h = tt
partners_found is cs (kept ∷ ps) i j h = partners_found is cs ps (suc i) (suc j) h
partners_found is cs (updated v w ∷ ps) i j h = (h j (inl refl), partners_found is cs ps (suc i) (suc j) (λ k found. h k (inr found)))
partners_found is cs (deleted v ∷ ps) i j h = (tt, partners_found is cs ps (suc i) j h)
partners_found is cs (inserted w ∷ ps) i j h = partners_found is cs ps i (suc j) (λ k found. h k (inr found))

news_below : (ps : List Piece) (j k : ℕ) → In k (changed_news j ps) → k < j + new_len ps
news_below [] j k found = absurd found
news_below (kept ∷ ps) j k found = omega (arith, news_below ps (suc j) k found)
news_below (updated v w ∷ ps) j k (inl same) = omega (arith, same)
news_below (updated v w ∷ ps) j k (inr later) = omega (arith, news_below ps (suc j) k later)
news_below (deleted v ∷ ps) j k found = omega (arith, news_below ps j k found)
news_below (inserted w ∷ ps) j k (inl same) = omega (arith, same)
news_below (inserted w ∷ ps) j k (inr later) = omega (arith, news_below ps (suc j) k later)

contains_in : (ns : List ℕ) (n : ℕ) → In n ns → Contains ns n
contains_in ns n found =
    let at = at_In ns n found in
    (at.0, slice_get_within ns at.0 n at.1, get_or_from_slice_get ns at.0 n n at.1)

-- a changed element of a side is within it, and is of no plain pair
abbrev IsChanged : ℕ → List Item → ℕ → Type 0
IsChanged i items k = (i ≤ k) × (k < i + length items) × ((j : ℕ) → slice_get items (k - i) ≡ Some (plain j) → ⊥)

further : (t : Item) (items : List Item) (i : ℕ) (cs : List Changed) → Each (λ c. IsChanged (suc i) items c.source) cs → Each (λ c. IsChanged i (t ∷ items) c.source) cs
further t items i cs e = each_weaker (λ c. IsChanged (suc i) items c.source) (λ c. IsChanged i (t ∷ items) c.source) (λ c h. one c.source h) cs e
  where
    one : (k : ℕ) → IsChanged (suc i) items k → IsChanged i (t ∷ items) k
    one k h =
        let low = h.0 in
        let high = h.1 in
        let n : k - i ≡ suc (k - suc i) = omega (arith, low) in
        (omega (arith, low), omega (arith, high), λ j at. h.2 j (ap (slice_get (t ∷ items)) (sym n) ∙ at))

are_changed : (items : List Item) (i : ℕ) → Each (λ c. IsChanged i items c.source) (changed_of i items)
are_changed [] i = tt
are_changed (plain j ∷ items) i = further (plain j) items i (changed_of (suc i) items) (are_changed items (suc i))
are_changed (changed j v ∷ items) i = (here, further (changed j v) items i (changed_of (suc i) items) (are_changed items (suc i)))
  where
    here : IsChanged i (changed j v ∷ items) i
    here = let n : i - i ≡ 0 = omega arith in (omega arith, omega arith, λ k at. none k (ap (slice_get (changed j v ∷ items)) (sym n) ∙ at))
      where
        none : (k : ℕ) → Some (changed j v) ≡ Some (plain k) → ⊥
        none k e = absurd cc
are_changed (lone v ∷ items) i = (here, further (lone v) items i (changed_of (suc i) items) (are_changed items (suc i)))
  where
    here : IsChanged i (lone v ∷ items) i
    here = let n : i - i ≡ 0 = omega arith in (omega arith, omega arith, λ k at. none k (ap (slice_get (lone v ∷ items)) (sym n) ∙ at))
      where
        none : (k : ℕ) → Some (lone v) ≡ Some (plain k) → ⊥
        none k e = absurd cc

map_twice : {X Y Z : Type 0} (f : X → Y) (g : Y → Z) (h : X → Z) (xs : List X) → ((x : X) → g (f x) ≡ h x) → map g (map f xs) ≡ map h xs
map_twice f g h [] e = refl
map_twice f g h (x ∷ xs) e = both (g (f x)) (h x) (map g (map f xs)) (map h xs) (e x) (map_twice f g h xs e)
  where
    both : {Z : Type 0} (a b : Z) (us vs : List Z) → a ≡ b → us ≡ vs → a ∷ us ≡ b ∷ vs
    both a b us vs e f = cc

map_alike : {X Y : Type 0} (f g : X → Y) (xs : List X) → Each (λ x. f x ≡ g x) xs → map f xs ≡ map g xs
map_alike f g [] e = refl
map_alike f g (x ∷ xs) e = both (f x) (g x) (map f xs) (map g xs) e.0 (map_alike f g xs e.1)
  where
    both : {Y : Type 0} (a b : Y) (us vs : List Y) → a ≡ b → us ≡ vs → a ∷ us ≡ b ∷ vs
    both a b us vs e f = cc

any_mapped : {X Y : Type 0} (test : Y → Bool) (f : X → Y) (xs : List X) → list_any test (map f xs) ≡ list_any (λ x. test (f x)) xs
any_mapped test f [] = refl
any_mapped test f (x ∷ xs) = ap (λ b. test (f x) || b) (any_mapped test f xs)

module _ (compare : Comparison) (o : IsTotalOrder compare) (xs : List Tree) (d : Delta) (gone came : List Ranked) (are : AreChangesOf compare xs (applied d xs) d gone came) where
  abbrev ys : List Tree
  ys = applied d xs

  leads : LeadsFrom d xs
  leads = are.delta.starts

  both : AreRankedBoth rank change compare xs d gone came
  both = record {
    old_unordered = map (rank_of (arrangement compare xs)) (changed_of 0 (olds 0 d));
    new_unordered = map (rank_of (arrangement compare ys)) (changed_of 0 (olds 0 (map inverted d)));
    old = record { changes_are = changes_old (arrangement compare xs) d 0 0; ranks_are = ranks_old (arrangement compare xs) d 0 0; same = are.gone_ranked.are; rise = are.gone_ranked.rise };
    new = record { changes_are = changes_new (arrangement compare ys) d 0 0; ranks_are = ranks_new (arrangement compare ys) d 0 0; same = are.came_ranked.are; rise = are.came_ranked.rise };
  }

  abbrev stay : Pair → Bool
  stay p = stays compare xs ys (pairs d) p

  abbrev new : Ranked → Option ℕ
  new r = option_map (sorted_position compare ys) r.partner

  abbrev final : Ranked → Leaving
  final r = leaf new (λ t. old_stays stay (change t)) r

  final_is : settled (arrangement compare ys) (length ys) gone came ≡ map final gone
  final_is =
      let k : Ranked → Bool = λ r. rank_kept (ranks gone) (ranks came) r.place (new r) in
      let ls : List Leaving = map (leaf new k) gone in
      scans_are (length ys) 0 ls
      ∙ (ap (flagged ls)
      (ap (λ bs. both_flags bs (both_flags (prefix_marks 0 (map (λ l. l.new) ls)) (back_marks (length ys) (map (λ l. l.new) ls)))) (stays_are new k gone)
      ∙ (ap (λ ns. both_flags (map k gone) (both_flags (prefix_marks 0 ns) (back_marks (length ys) ns))) (news_are new k gone) ∙ sym (ranked_stay rank change compare o xs d leads gone came both)))
      ∙ flags_are new k (λ t. old_stays stay (change t)) gone)

  spots : AreSpots compare xs d (map (ranked_spot rank change (sorted_position compare xs) stay xs) gone) (map (λ r. record { place = r.place; value = element_at ys r.source; stays = new_stays stay (change r) }) came)
  spots = ranked_spots rank change compare o xs d leads gone came both

  pub found : AreFound (arrangement compare ys) gone came
  found =
      let long = (arrangement_is compare o ys).long in
      let new_long = length-applied d xs leads in
      let right = aligned compare o xs d leads _ _ spots in
      let low = each_unmap (λ s. s.place < length xs) (ranked_spot rank change (sorted_position compare xs) stay xs) gone right.old_left.low in
      let here : Each (λ c. IsFound (arrangement compare ys) (ranks came) c.partner) (changed_of 0 (olds 0 d)) =
      partners_found (arrangement compare ys) (ranks came) d 0 0
      (λ k at. (
        omega (arith, news_below d 0 k at, long, new_long),
        contains_in (ranks came) (sorted_position compare ys k) (in_permuted (sorted_position compare ys k) (map (sorted_position compare ys) (changed_news 0 d)) (ranks came) (ranked_changed rank change compare o xs d leads gone came both).come_are (in_mapped (sorted_position compare ys) k (changed_news 0 d) at)),
      )) in
      let spread = changed_rise 0 (olds 0 (map inverted d)) in
      record {
        gone_rise = are.gone_ranked.rise;
        came_rise = are.came_ranked.rise;
        partners = All-permutation (λ r. IsFound (arrangement compare ys) (ranks came) r.partner) _ gone are.gone_ranked.are
            (All-from_recursion (λ r. IsFound (arrangement compare ys) (ranks came) r.partner) _ (each_map (λ r. IsFound (arrangement compare ys) (ranks came) r.partner) (rank_of (arrangement compare xs)) (changed_of 0 (olds 0 d)) here));
        gone_few = All-from_recursion (λ r. r.place < 2147483647) gone (each_weaker (λ r. r.place < length xs) (λ r. r.place < 2147483647) (λ r less. omega (arith, less, length_from d xs leads, are.olds_few)) gone low);
        few = omega (arith, long, new_long, are.news_few);
        came_few = omega (arith, length_permutation _ came are.came_ranked.are, length-map (changed_of 0 (olds 0 (map inverted d))) (rank_of (arrangement compare ys)), rising_span 0 _ (changed_of 0 (olds 0 (map inverted d))) spread, length-olds (map inverted d) 0, are.news_few);
      }

  follows : sorted_follow compare xs d ≡ between 0 (length xs) (map (ranked_spot rank change (sorted_position compare xs) stay xs) gone) 0 (length ys) (map (λ r. record { place = r.place; value = element_at ys r.source; stays = new_stays stay (change r) }) came)
  follows = follow_is compare o xs d leads _ _ spots

  old_same : old_spots_of xs (map final gone) ≡ map (ranked_spot rank change (sorted_position compare xs) stay xs) gone
  old_same = map_twice final (old_spot xs) (ranked_spot rank change (sorted_position compare xs) stay xs) gone (λ r. refl)

  new_same : new_spots_of (map final gone) ys came ≡ map (λ r. record { place = r.place; value = element_at ys r.source; stays = new_stays stay (change r) }) came
  new_same =
      map_alike (new_spot (map final gone) ys) (λ r. record { place = r.place; value = element_at ys r.source; stays = new_stays stay (change r) }) came
      (each_weaker (λ t. list_any (λ r. old_stays stay (change r) && is_some_position (rank t) (new r)) gone ≡ new_stays stay (change t)) _
      (λ t h. ap (λ b. record { place = t.place; value = element_at ys t.source; stays = b }) (any_mapped (λ l. l.stays && is_some_position t.place l.new) final gone ∙ h)) came
      (come_stay rank change compare o xs d leads gone came both))

  merged_same : merged_from xs ys (map final gone) 0 (map final gone) 0 came ≡ sorted_follow compare xs d
  merged_same = ap (λ ss. between 0 (length xs) ss 0 (length ys) (new_spots_of (map final gone) ys came)) old_same
      ∙ (ap (between 0 (length xs) (map (ranked_spot rank change (sorted_position compare xs) stay xs) gone) 0 (length ys)) new_same ∙ sym follows)

  pub told_is : normal (merged_from xs ys (settled (arrangement compare ys) (length ys) gone came) 0 (settled (arrangement compare ys) (length ys) gone came) 0 came) ≡ sorted_follow compare xs d
  told_is =
      ap (λ ls. normal (merged_from xs ys ls 0 ls 0 came)) final_is
      ∙ (ap normal merged_same ∙ normal_is (sorted_follow compare xs d) (pieces_by_normal (sorted_view compare xs) (sorted_view compare ys) (sorted_pairs compare xs ys (pairs d))))

  kept_alike : kept_positions (map final gone) ≡ map Some (positions_kept (map final gone) (ranks came))
  kept_alike =
      let ls : List Leaving = map (leaving_of (arrangement compare ys) (ranks gone) (ranks came)) gone in
      let none : Each NoneGoes ls = each_map NoneGoes (leaving_of (arrangement compare ys) (ranks gone) (ranks came)) gone (each_true (λ r. NoneGoes (leaving_of (arrangement compare ys) (ranks gone) (ranks came) r)) (λ r e. ap (rank_kept (ranks gone) (ranks came) r.place) e) gone) in
      let k : KeptRise 0 (settled (arrangement compare ys) (length ys) gone came) = kept_rise (length ys) 0 (prefix_scanned 0 ls) (none_goes 0 ls none) (omega arith) in
      let kept_are : kept_positions (map final gone) ≡ map Some k.news = ap kept_positions (sym final_is) ∙ k.are in
      let partners : Each (λ l. (n : ℕ) → l.new ≡ Some n → In n (ranks came)) (map final gone) =
      each_map (λ l. (n : ℕ) → l.new ≡ Some n → In n (ranks came)) final gone
      (each_weaker (λ r. IsFound (arrangement compare ys) (ranks came) r.partner) (λ r. (n : ℕ) → new r ≡ Some n → In n (ranks came)) (λ r h n e. partner_in r.partner n h e) gone
      (recursion_from_All (λ r. IsFound (arrangement compare ys) (ranks came) r.partner) gone found.partners)) in
      kept_are ∙ ap (map Some) (sym (filter_is (is_kept_at (map final gone)) 0 (ranks came) k.news are.came_ranked.rise k.rise
      (λ p le h. any_kept p (map final gone) k.news kept_are h) (λ p h. kept_any p (map final gone) k.news kept_are h)
      (λ p h. each_kept (λ n. In n (ranks came)) (map final gone) k.news kept_are partners p h)))
    where
      in_contained : (ns : List ℕ) (n : ℕ) → Contains ns n → In n ns
      in_contained ns n c = In_at ns c.0 n (slice_get-get_or ns c.0 n c.1 ∙ ap Some c.2)

      partner_in : (p : Option ℕ) (n : ℕ) → IsFound (arrangement compare ys) (ranks came) p → option_map (sorted_position compare ys) p ≡ Some n → In n (ranks came)
      partner_in None n h e = absurd (none_some n e)
        where
          none_some : (n : ℕ) → None ≡ Some n → ⊥
          none_some n e = absurd cc
      partner_in (Some j) n h e = let same : sorted_position compare ys j ≡ n = cc in subst (λ m. In m (ranks came)) same (in_contained (ranks came) (sorted_position compare ys j) h.1)

  can_tell : CanTell (sorted_follow compare xs d) []
  can_tell =
      let is = pieces_by_leads (sorted_view compare xs) (sorted_view compare ys) (sorted_pairs compare xs ys (pairs d)) in
      let olds_long = length_from (sorted_follow compare xs d) (sorted_view compare xs) is.starts in
      let news_long = length-applied (sorted_follow compare xs d) (sorted_view compare xs) is.starts in
      record {
        olds = omega (arith, olds_long, length-map (arrangement compare xs) (element_at xs), (arrangement_is compare o xs).long, length_from d xs leads, are.olds_few);
        news = omega (arith, news_long, ap length is.ends, length-map (arrangement compare ys) (element_at ys), (arrangement_is compare o ys).long, length-applied d xs leads, are.news_few);
      }

  pub merges : CanMerge d xs ys (settled (arrangement compare ys) (length ys) gone came) came
  merges =
      subst (λ ls. CanMerge d xs ys ls came) (sym final_is)
      (record {
        delta = record { starts = leads; ends = refl };
        left = record {
          aligned = subst (λ ss. AreAligned 0 (length xs) ss 0 (length ys) (new_spots_of (map final gone) ys came)) (sym old_same)
              (subst (AreAligned 0 (length xs) (map (ranked_spot rank change (sorted_position compare xs) stay xs) gone) 0 (length ys)) (sym new_same) (aligned compare o xs d leads _ _ spots));
          kept = kept_alike;
        };
        can = subst (λ ps. CanTell ps []) (sym merged_same) can_tell;
        old_sources = All-from_recursion (λ l. IsOldValue d l.source) (map final gone) (each_map (λ l. IsOldValue d l.source) final gone
            (recursion_from_All (λ r. IsOldValue d r.source) gone (All-permutation (λ r. IsOldValue d r.source) _ gone are.gone_ranked.are
            (All-from_recursion (λ r. IsOldValue d r.source) _ (each_map (λ r. IsOldValue d r.source) (rank_of (arrangement compare xs)) (changed_of 0 (olds 0 d))
            (each_weaker (λ c. IsChanged 0 (olds 0 d) c.source) (λ c. IsOldValue d c.source) (λ c h. old_value c.source h) (changed_of 0 (olds 0 d)) (are_changed (olds 0 d) 0)))))));
        new_sources = All-permutation (λ r. r.source < length ys) _ came are.came_ranked.are
            (All-from_recursion (λ r. r.source < length ys) _ (each_map (λ r. r.source < length ys) (rank_of (arrangement compare ys)) (changed_of 0 (olds 0 (map inverted d)))
            (each_weaker (λ c. IsChanged 0 (olds 0 (map inverted d)) c.source) (λ c. c.source < length ys) (λ c h. new_within c.source h) (changed_of 0 (olds 0 (map inverted d))) (are_changed (olds 0 (map inverted d)) 0))));
      })
    where
      old_value : (k : ℕ) → IsChanged 0 (olds 0 d) k → IsOldValue d k
      old_value k h = let high = h.1 in let n : k - 0 ≡ k = omega arith in record { within = omega (arith, high, length-olds d 0); changed = λ j at. h.2 j (ap (slice_get (olds 0 d)) n ∙ at) }

      new_within : (k : ℕ) → IsChanged 0 (olds 0 (map inverted d)) k → k < length ys
      new_within k h = let high = h.1 in omega (arith, high, length-olds (map inverted d) 0, length-applied d xs leads)

pub are_found : (compare : Comparison) → IsTotalOrder compare → (xs ys : List Tree) (d : Delta) (gone came : List Ranked) → AreChangesOf compare xs ys d gone came → AreFound (arrangement compare ys) gone came
are_found compare o xs ys d gone came are =
    subst (λ zs. AreChangesOf compare xs zs d gone came → AreFound (arrangement compare zs) gone came) (sym are.delta.ends) (λ a. found compare o xs d gone came a) are

pub can_merge : (compare : Comparison) → IsTotalOrder compare → (xs ys : List Tree) (d : Delta) (gone came : List Ranked) → AreChangesOf compare xs ys d gone came
    → CanMerge d xs ys (settled (arrangement compare ys) (length ys) gone came) came
can_merge compare o xs ys d gone came are =
    subst (λ zs. AreChangesOf compare xs zs d gone came → CanMerge d xs zs (settled (arrangement compare zs) (length zs) gone came) came) (sym are.delta.ends) (λ a. merges compare o xs d gone came a) are

pub merged_is : (compare : Comparison) → IsTotalOrder compare → (xs ys : List Tree) (d : Delta) (gone came : List Ranked) → AreChangesOf compare xs ys d gone came
    → normal (merged_from xs ys (settled (arrangement compare ys) (length ys) gone came) 0 (settled (arrangement compare ys) (length ys) gone came) 0 came) ≡ sorted_follow compare xs d
merged_is compare o xs ys d gone came are =
    subst (λ zs. AreChangesOf compare xs zs d gone came → normal (merged_from xs zs (settled (arrangement compare zs) (length zs) gone came) 0 (settled (arrangement compare zs) (length zs) gone came) 0 came) ≡ sorted_follow compare xs d)
    (sym are.delta.ends) (λ a. told_is compare o xs d gone came a) are
