-- Whether an updated element keeps its rank, as it is found, and the scans as they are made.
use Rattle.std.proofs.Common.{◌≡◌, ◌∙◌, ◌+◌, ◌-◌, ◌≤◌, ◌==◌, ℕ, Bool, true, false, List, length, Some, None, sym, ap, inl, inr, arith}
use Rattle.std.specs.Prelude.{option_map, nat_lt}
use Rattle.std.specs.List.{slice_get, slice_index_or, Contains}
use Rattle.std.specs.List.Sorted.{IsNonDecreasingBy, IsPartitionPoint}
use Rattle.std.proofs.lemmas.Bool.{ltb-true, lt-ltb, cases_lt, cases_eq, false≢true}
use Rattle.std.proofs.lemmas.Option.{get_or_from_slice_get, slice_get-get_or, slice_get_within}
use Rattle.std.proofs.lemmas.List.{length-map}
use Rattle.spec_sorting.specs.Sorted.{index_of}
use Rattle.spec_sorting.specs.Moves.{IsRising}
use Rattle.spec_sorting.specs.Ranked.{rank_kept}
use Rattle.gl_order.proofs.Links.{get-map, map-get}
use Rattle.gl_arranged.specs.declared.changed.Ranked.{Ranked}
use Rattle.gl_sorted.specs.Leaves.{ranks, leaving_of}
use Rattle.gl_sorted.proofs.Positions.{rising_above, rising_less, rising_index, first_not_less, same_rank}

pub ranks_rise : (rs : List Ranked) → IsRising 0 (ranks rs) → IsNonDecreasingBy (λ r. r.place) rs
ranks_rise rs r i j d le less =
    let at_j = get-map (λ (x : Ranked). x.place) rs j (slice_index_or rs j d) (slice_get-get_or rs j d less) in
    let at_i = get-map (λ (x : Ranked). x.place) rs i (slice_index_or rs i d) (slice_get-get_or rs i d (omega (arith, le, less))) in
    elim (cases_eq i j) [
      | inl same ↦ let e = ap (λ k. (slice_index_or rs k d).place) same in omega (arith, e)
      | inr other ↦ let below = rising_less 0 (ranks rs) i j _ _ r (omega (arith, le, other)) at_i at_j in omega (arith, below)
    ]

-- the point that a search answers is where the element stands
pub point_is : (rs : List Ranked) (n b : ℕ) → IsRising 0 (ranks rs) → Contains (ranks rs) n → b ≤ length rs → IsPartitionPoint (λ r. nat_lt r.place n ≡ true) (λ r. nat_lt r.place n ≡ false) rs b → index_of n (ranks rs) ≡ b
point_is rs n b r found within point =
    let k = found.0 in
    let at : slice_get (ranks rs) k ≡ Some n = slice_get-get_or (ranks rs) k n found.1 ∙ ap Some found.2 in
    let long = length-map rs (λ (x : Ranked). x.place) in
    let here = first_not_less 0 (ranks rs) b k n r at (omega (arith, within, long))
    (λ j m less e. let x = map-get (λ (x : Ranked). x.place) rs j m e in
    let is : slice_index_or rs j x.0 ≡ x.0 = get_or_from_slice_get rs j x.0 x.0 x.1 in
    let low = ltb-true x.0.place n (ap (λ (y : Ranked). nat_lt y.place n) (sym is) ∙ point.0 j x.0 (omega arith) less) in
    let same = x.2 in omega (arith, low, same))
    (λ j m more e. let x = map-get (λ (x : Ranked). x.place) rs j m e in
    let is : slice_index_or rs j x.0 ≡ x.0 = get_or_from_slice_get rs j x.0 x.0 x.1 in
    let high = not_less x.0.place n (ap (λ (y : Ranked). nat_lt y.place n) (sym is) ∙ point.1 j x.0 more (slice_get_within rs j x.0 x.1)) in
    let same = x.2 in omega (arith, high, same)) in
    rising_index 0 (ranks rs) k n r at ∙ sym here
  where
    not_less : (m n : ℕ) → nat_lt m n ≡ false → n ≤ m
    not_less m n e = elim (cases_lt m n) [
      | inl less ↦ absurd (false≢true (sym e ∙ lt-ltb m n less))
      | inr more ↦ more
    ]

pub kept_rank : (gs cs : List Ranked) (index before new : ℕ) (r : Ranked) → IsRising 0 (ranks gs) → IsRising 0 (ranks cs) → slice_get gs index ≡ Some r → Contains (ranks cs) new → index_of new (ranks cs) ≡ before
    → (r.place + before == new + index) ≡ rank_kept (ranks gs) (ranks cs) r.place (Some new)
kept_rank gs cs index before new r gone came at found is =
    let at_index = get-map (λ (x : Ranked). x.place) gs index r at in
    let here = rising_index 0 (ranks gs) index r.place gone at_index in
    let low = rising_above 0 (ranks gs) index r.place gone at_index in
    let there : slice_get (ranks cs) before ≡ Some new = ap (slice_get (ranks cs)) (sym is ∙ rising_index 0 (ranks cs) found.0 new came at_found) ∙ at_found in
    let high = rising_above 0 (ranks cs) before new came there in
    same_rank r.place before new index (omega (arith, low)) (omega (arith, high)) ∙ both (r.place) new index before (index_of r.place (ranks gs)) (index_of new (ranks cs)) (sym here) (sym is)
  where
    at_found : slice_get (ranks cs) found.0 ≡ Some new
    at_found = slice_get-get_or (ranks cs) found.0 new found.1 ∙ ap Some found.2

    both : (p n i b j c : ℕ) → i ≡ j → b ≡ c → (p - i == n - b) ≡ (p - j == n - c)
    both p n i b j c e f = ap (λ k. p - k == n - b) e ∙ ap (λ k. p - j == n - k) f

-- an updated element as it is found
pub some_leaving : (is : List ℕ) (gs cs : List Ranked) (one r : Ranked) (partner new : ℕ) (kept : Bool) → one ≡ r → one.partner ≡ Some partner → new ≡ index_of partner is → kept ≡ rank_kept (ranks gs) (ranks cs) r.place (Some new)
    → record { place = one.place; source = one.source; new = Some new; stays = kept } ≡ leaving_of is (ranks gs) (ranks cs) r
some_leaving is gs cs one r partner new kept same at e keeps =
    let partner_is : option_map (λ j. index_of j is) r.partner ≡ Some new = ap (λ (x : Ranked). option_map (λ j. index_of j is) x.partner) (sym same) ∙ (ap (option_map (λ j. index_of j is)) at ∙ ap Some (sym e)) in
    let stays = keeps ∙ ap (rank_kept (ranks gs) (ranks cs) r.place) (sym partner_is) in
    λ i. record { place = (same i).place; source = (same i).source; new = (sym partner_is) i; stays = stays i }

pub none_leaving : (is : List ℕ) (gs cs : List Ranked) (one r : Ranked) → one ≡ r → one.partner ≡ None
    → record { place = one.place; source = one.source; new = None; stays = false } ≡ leaving_of is (ranks gs) (ranks cs) r
none_leaving is gs cs one r same at =
    let partner_is : None ≡ option_map (λ j. index_of j is) r.partner = sym (ap (λ (x : Ranked). option_map (λ j. index_of j is) x.partner) (sym same) ∙ ap (option_map (λ j. index_of j is)) at) in
    let stays = ap (rank_kept (ranks gs) (ranks cs) r.place) partner_is in
    λ i. record { place = (same i).place; source = (same i).source; new = partner_is i; stays = stays i }
