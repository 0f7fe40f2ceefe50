-- One side of a change in sorted order: the items of its pairs are those of its spots, spread out.
use Rattle.std.proofs.Common.{◌≡◌, ◌≢◌, ◌∙◌, ℕ, suc, ◌+◌, ◌<◌, ◌≤◌, Bool, true, false, List, [], ◌∷◌, length, map, refl, ap, sym, subst, arith, inl, inr}
use Rattle.std.specs.Prelude.{Some, slice_get}
use Rattle.std.specs.List.{AllByRecursion as Each}
use Rattle.std.specs.List.Sorted.{IsPermutation}
use Rattle.std.proofs.lemmas.Bool.{cases_eq, cases_Bool}
use Rattle.std.proofs.lemmas.List.Elements.{All-from_recursion, recursion_from_All}
use Rattle.std.proofs.lemmas.List.Sorted.{All-permutation, IsPermutation-sym}
use Rattle.spec_value.specs.Tree.{Tree}
use Rattle.spec_lists.specs.Piece.{Piece, kept, updated, deleted, inserted, old_len, new_len}
use Rattle.spec_lists.specs.Pairs.{Pair, pairs_from, pairs}
use Rattle.spec_lists.specs.Sides.{Item, changed, lone}
use Rattle.spec_lists.specs.Delta.{Delta}
use Rattle.spec_lists.specs.Leads.{LeadsFrom, applied}
use Rattle.spec_lists.proofs.Pairs.{rising}
use Rattle.spec_lists.proofs.DeltaLeads.{length_from}
use Rattle.spec_views.specs.Source.{element_at}
use Rattle.spec_sorting.specs.Moves.{IsRising, changed_olds, changed_news}
use Rattle.spec_sorting.specs.Merged.{Spot, old_spots, plain_one, item_of, spread, AreLeft}
use Rattle.spec_sorting.proofs.Partners.{each_weaker, each_both, from_positions, AreOrdered, pairs_ordered, each_turned, IsPaired, pairs_are, remaining, first}
use Rattle.spec_sorting.proofs.Items.{pair_item, items, length_items, alone_at, pairs_shown}
use Rattle.spec_sorting.proofs.Spreads.{length_spread, ShowsSpot, spots_shown, plain_shown}

-- the old elements that are deleted
abbrev pub deleted_olds : ℕ → List Piece → List ℕ
deleted_olds i [] = []
deleted_olds i (kept ∷ ps) = deleted_olds (suc i) ps
deleted_olds i (updated v w ∷ ps) = deleted_olds (suc i) ps
deleted_olds i (deleted v ∷ ps) = i ∷ deleted_olds (suc i) ps
deleted_olds i (inserted w ∷ ps) = deleted_olds i ps

-- each old element is of a pair or deleted
each_index : (G : ℕ → Type 0) (i j : ℕ) (ps : List Piece) → Each (λ p. G p.old) (pairs_from i j ps) → Each G (deleted_olds i ps)
    → (k : ℕ) → i ≤ k → k < i + old_len ps → G k
each_index G i j [] of_pairs of_deleted k low high = absurd (omega (arith, low, high))
each_index G i j (kept ∷ ps) of_pairs of_deleted k low high = elim (cases_eq i k) [
  | inl same ↦ subst G same of_pairs.0
  | inr other ↦ each_index G (suc i) (suc j) ps of_pairs.1 of_deleted k (omega (arith, low, other)) (omega (arith, high))
]
each_index G i j (updated v w ∷ ps) of_pairs of_deleted k low high = elim (cases_eq i k) [
  | inl same ↦ subst G same of_pairs.0
  | inr other ↦ each_index G (suc i) (suc j) ps of_pairs.1 of_deleted k (omega (arith, low, other)) (omega (arith, high))
]
each_index G i j (deleted v ∷ ps) of_pairs of_deleted k low high = elim (cases_eq i k) [
  | inl same ↦ subst G same of_deleted.0
  | inr other ↦ each_index G (suc i) j ps of_pairs of_deleted.1 k (omega (arith, low, other)) (omega (arith, high))
]
each_index G i j (inserted w ∷ ps) of_pairs of_deleted k low high = each_index G i (suc j) ps of_pairs of_deleted k low high

pub deleted_from : (i a : ℕ) (ps : List Piece) → a ≤ i → Each (λ k. (a ≤ k) × (k < i + old_len ps)) (deleted_olds i ps)
deleted_from i a [] low = tt
deleted_from i a (kept ∷ ps) low = each_weaker _ _ (λ k h. (h.0, omega (arith, h.1))) (deleted_olds (suc i) ps) (deleted_from (suc i) a ps (omega (arith, low)))
deleted_from i a (updated v w ∷ ps) low = each_weaker _ _ (λ k h. (h.0, omega (arith, h.1))) (deleted_olds (suc i) ps) (deleted_from (suc i) a ps (omega (arith, low)))
deleted_from i a (deleted v ∷ ps) low = (
  (low, omega arith),
  each_weaker _ _ (λ k h. (h.0, omega (arith, h.1))) (deleted_olds (suc i) ps) (deleted_from (suc i) a ps (omega (arith, low))),
)
deleted_from i a (inserted w ∷ ps) low = deleted_from i a ps low

-- an element of a pair isn't deleted
pub pairs_undeleted : (i j : ℕ) (ps : List Piece) → Each (λ k. Each (λ p. p.old ≢ k) (pairs_from i j ps)) (deleted_olds i ps)
pairs_undeleted i j [] = tt
pairs_undeleted i j (kept ∷ ps) =
    each_both _ _ _ (λ k h g. (λ e. omega (arith, h.0, e), g)) (deleted_olds (suc i) ps) (deleted_from (suc i) (suc i) ps (omega arith)) (pairs_undeleted (suc i) (suc j) ps)
pairs_undeleted i j (updated v w ∷ ps) =
    each_both _ _ _ (λ k h g. (λ e. omega (arith, h.0, e), g)) (deleted_olds (suc i) ps) (deleted_from (suc i) (suc i) ps (omega arith)) (pairs_undeleted (suc i) (suc j) ps)
pairs_undeleted i j (deleted v ∷ ps) = (
  each_weaker _ _ (λ p h e. omega (arith, h.0, e)) (pairs_from (suc i) j ps) (from_positions (suc i) j (suc i) j (pairs_from (suc i) j ps) (omega arith) (omega arith) (rising ps (suc i) j)),
  pairs_undeleted (suc i) j ps,
)
pairs_undeleted i j (inserted w ∷ ps) = pairs_undeleted i (suc j) ps

module _ (place : ℕ → ℕ) (stay : Pair → Bool) (value : ℕ → Tree) where
  -- the spot of an updated pair, and that of a deleted element
  abbrev pub spot_of : Pair → Spot
  spot_of p = record { place = place p.old; value = value p.old; stays = stay p }

  abbrev pub spot_gone : ℕ → Spot
  spot_gone k = record { place = place k; value = value k; stays = false }

  same_spot : (F : Spot → Type 0) (k : ℕ) (t : Bool) (x v : Tree) → value k ≡ x → x ≡ v
      → F (record { place = place k; value = v; stays = t }) → F (record { place = place k; value = value k; stays = t })
  same_spot F k t x v e f h = subst (λ w. F (record { place = place k; value = w; stays = t })) (sym (e ∙ f)) h

  same_spot_back : (F : Spot → Type 0) (k : ℕ) (t : Bool) (x v : Tree) → value k ≡ x → x ≡ v
      → F (record { place = place k; value = value k; stays = t }) → F (record { place = place k; value = v; stays = t })
  same_spot_back F k t x v e f h = subst (λ w. F (record { place = place k; value = w; stays = t })) (e ∙ f) h

  spots_of_pairs : (F : Spot → Type 0) (i j : ℕ) (ps : List Piece) (xs : List Tree) → LeadsFrom ps xs → ((k : ℕ) → value (i + k) ≡ element_at xs k)
      → Each F (old_spots place stay i j ps) → Each (λ p. p.updated ≡ true → F (spot_of p)) (pairs_from i j ps)
  spots_of_pairs F i j [] xs leads is e = tt
  spots_of_pairs F i j (kept ∷ ps) [] leads is e = absurd leads
  spots_of_pairs F i j (kept ∷ ps) (x ∷ xs) leads is e = (λ no_. absurd (false_true no_), spots_of_pairs F (suc i) (suc j) ps xs leads (remaining value i x xs is) e)
    where
      false_true : false ≡ true → ⊥
      false_true f = absurd cc
  spots_of_pairs F i j (updated v w ∷ ps) [] leads is e = absurd leads
  spots_of_pairs F i j (updated v w ∷ ps) (x ∷ xs) leads is e = (
    λ up. same_spot F i (stay (record { old = i; new = j; updated = true })) x v (first value i x xs is) leads.0 e.0,
    spots_of_pairs F (suc i) (suc j) ps xs leads.1 (remaining value i x xs is) e.1,
  )
  spots_of_pairs F i j (deleted v ∷ ps) [] leads is e = absurd leads
  spots_of_pairs F i j (deleted v ∷ ps) (x ∷ xs) leads is e = spots_of_pairs F (suc i) j ps xs leads.1 (remaining value i x xs is) e.1
  spots_of_pairs F i j (inserted w ∷ ps) xs leads is e = spots_of_pairs F i (suc j) ps xs leads is e

  spots_of_deleted : (F : Spot → Type 0) (i j : ℕ) (ps : List Piece) (xs : List Tree) → LeadsFrom ps xs → ((k : ℕ) → value (i + k) ≡ element_at xs k)
      → Each F (old_spots place stay i j ps) → Each (λ k. F (spot_gone k)) (deleted_olds i ps)
  spots_of_deleted F i j [] xs leads is e = tt
  spots_of_deleted F i j (kept ∷ ps) [] leads is e = absurd leads
  spots_of_deleted F i j (kept ∷ ps) (x ∷ xs) leads is e = spots_of_deleted F (suc i) (suc j) ps xs leads (remaining value i x xs is) e
  spots_of_deleted F i j (updated v w ∷ ps) [] leads is e = absurd leads
  spots_of_deleted F i j (updated v w ∷ ps) (x ∷ xs) leads is e = spots_of_deleted F (suc i) (suc j) ps xs leads.1 (remaining value i x xs is) e.1
  spots_of_deleted F i j (deleted v ∷ ps) [] leads is e = absurd leads
  spots_of_deleted F i j (deleted v ∷ ps) (x ∷ xs) leads is e = (
    same_spot F i false x v (first value i x xs is) leads.0 e.0,
    spots_of_deleted F (suc i) j ps xs leads.1 (remaining value i x xs is) e.1,
  )
  spots_of_deleted F i j (inserted w ∷ ps) xs leads is e = spots_of_deleted F i (suc j) ps xs leads is e

  -- and these are all
  spots_are : (F : Spot → Type 0) (i j : ℕ) (ps : List Piece) (xs : List Tree) → LeadsFrom ps xs → ((k : ℕ) → value (i + k) ≡ element_at xs k)
      → Each (λ p. p.updated ≡ true → F (spot_of p)) (pairs_from i j ps) → Each (λ k. F (spot_gone k)) (deleted_olds i ps)
      → Each F (old_spots place stay i j ps)
  spots_are F i j [] xs leads is e f = tt
  spots_are F i j (kept ∷ ps) [] leads is e f = absurd leads
  spots_are F i j (kept ∷ ps) (x ∷ xs) leads is e f = spots_are F (suc i) (suc j) ps xs leads (remaining value i x xs is) e.1 f
  spots_are F i j (updated v w ∷ ps) [] leads is e f = absurd leads
  spots_are F i j (updated v w ∷ ps) (x ∷ xs) leads is e f = (
    same_spot_back F i (stay (record { old = i; new = j; updated = true })) x v (first value i x xs is) leads.0 (e.0 refl),
    spots_are F (suc i) (suc j) ps xs leads.1 (remaining value i x xs is) e.1 f,
  )
  spots_are F i j (deleted v ∷ ps) [] leads is e f = absurd leads
  spots_are F i j (deleted v ∷ ps) (x ∷ xs) leads is e f = (
    same_spot_back F i false x v (first value i x xs is) leads.0 f.0,
    spots_are F (suc i) j ps xs leads.1 (remaining value i x xs is) e f.1,
  )
  spots_are F i j (inserted w ∷ ps) xs leads is e f = spots_are F i (suc j) ps xs leads is e f

same_lists : {X : Type 0} (us vs : List X) → length us ≡ length vs → ((k : ℕ) → k < length us → slice_get us k ≡ slice_get vs k) → us ≡ vs
same_lists [] [] long same = refl
same_lists [] (v ∷ vs) long same = absurd (omega (arith, long))
same_lists (u ∷ us) [] long same = absurd (omega (arith, long))
same_lists {X = X} (u ∷ us) (v ∷ vs) long same =
    both u v us vs (same 0 (omega arith)) (same_lists us vs (omega (arith, long)) (λ k less. same (suc k) (omega (arith, less))))
  where
    both : (a b : X) (as_ bs : List X) → Some a ≡ Some b → as_ ≡ bs → a ∷ as_ ≡ b ∷ bs
    both a b as_ bs e f = cc

-- where the elements of a list stand in another order of them
pub record ArePositions (place : ℕ → ℕ) (zs vs : List Tree) : Type 0 where
  pub once : (i j : ℕ) → i < length zs → j < length zs → place i ≡ place j → i ≡ j
  pub below : (i : ℕ) → i < length zs → place i < length zs
  pub at : (k : ℕ) → k < length zs → (j : ℕ) × (j < length zs) × (place j ≡ k)
  pub shown : (i : ℕ) → i < length zs → slice_get vs (place i) ≡ Some (element_at zs i)
  pub long : length vs ≡ length zs

-- these are the pairs of a delta that stay, by the places of their old elements
pub record AreStaying (place : ℕ → ℕ) (stay : Pair → Bool) (ps qs : List Pair) : Type 1 where
  pub rise : IsRising 0 (map (λ q. q.old) qs)
  pub to : (F : ℕ → Bool → Type 0) → Each (λ p. stay p ≡ true → F (place p.old) p.updated) ps → Each (λ q. F q.old q.updated) qs
  pub from : (F : ℕ → Bool → Type 0) → Each (λ q. F q.old q.updated) qs → Each (λ p. stay p ≡ true → F (place p.old) p.updated) ps
  pub plain : Each (λ p. p.updated ≡ false → stay p ≡ true) ps

module _ (place : ℕ → ℕ) (stay : Pair → Bool) (e : Delta) (zs vs : List Tree) (places : ArePositions place zs vs) (leads : LeadsFrom e zs)
    (qs : List Pair) (staying : AreStaying place stay (pairs e) qs) (ss : List Spot) (rise : IsRising 0 (map (λ s. s.place) ss))
    (are : IsPermutation (old_spots place stay 0 0 e) ss) where
  abbrev spots : List Spot
  spots = old_spots place stay 0 0 e

  abbrev L : List Item
  L = spread 0 (length zs) ss

  abbrev M : List Item
  M = items 0 vs qs

  whole : (k : ℕ) → element_at zs (0 + k) ≡ element_at zs k
  whole k = let same : 0 + k ≡ k = omega arith in ap (element_at zs) same

  in_order : (F : Spot → Type 0) → Each F spots → Each F ss
  in_order F h = recursion_from_All F ss (All-permutation F spots ss are (All-from_recursion F spots h))

  out_of_order : (F : Spot → Type 0) → Each F ss → Each F spots
  out_of_order F h = recursion_from_All F spots (All-permutation F ss spots (IsPermutation-sym spots ss are) (All-from_recursion F ss h))

  old_within : Each (λ p. p.old < length zs) (pairs e)
  old_within =
      each_weaker (IsPaired (element_at zs) (element_at (applied e zs)) (old_len e) (new_len e) (changed_olds 0 e) (changed_news 0 e)) _
      (λ p h. omega (arith, h.old_within, length_from e zs leads)) (pairs e) (pairs_are e zs leads)

  deleted_within : Each (λ k. k < length zs) (deleted_olds 0 e)
  deleted_within = each_weaker _ _ (λ k h. omega (arith, h.1, length_from e zs leads)) (deleted_olds 0 e) (deleted_from 0 0 e (omega arith))

  spots_low : Each (λ s. s.place < length zs) ss
  spots_low =
      in_order (λ s. s.place < length zs)
      (spots_are place stay (element_at zs) (λ s. s.place < length zs) 0 0 e zs leads whole
      (each_weaker _ _ (λ p less up. places.below p.old less) (pairs e) old_within) (each_weaker _ _ (λ k less. places.below k less) (deleted_olds 0 e) deleted_within))

  pub spots_left : AreLeft 0 (length zs) ss
  spots_left = record { onward = omega arith; rise = rise; low = spots_low }

  -- what shows at the places of spots
  L_pairs : Each (λ p. p.updated ≡ true → ShowsSpot 0 L (spot_of place stay (element_at zs) p)) (pairs e)
  L_pairs = spots_of_pairs place stay (element_at zs) (ShowsSpot 0 L) 0 0 e zs leads whole (out_of_order (ShowsSpot 0 L) (spots_shown 0 (length zs) ss rise))

  L_deleted : Each (λ k. ShowsSpot 0 L (spot_gone place stay (element_at zs) k)) (deleted_olds 0 e)
  L_deleted = spots_of_deleted place stay (element_at zs) (ShowsSpot 0 L) 0 0 e zs leads whole (out_of_order (ShowsSpot 0 L) (spots_shown 0 (length zs) ss rise))

  abbrev Shown : ℕ → Bool → Type 0
  Shown o t = (k : ℕ) (x : Tree) → o ≡ 0 + k → slice_get vs k ≡ Some x → slice_get M k ≡ Some (pair_item t x)

  M_pairs : Each (λ p. stay p ≡ true → Shown (place p.old) p.updated) (pairs e)
  M_pairs = staying.from Shown (pairs_shown 0 vs qs staying.rise)

  itself : (k : ℕ) → k ≡ 0 + k
  itself k = omega arith

  -- no staying pair stands at the place of an element of none
  M_alone : (k : ℕ) → k < length zs → Each (λ p. stay p ≡ true → p.old ≢ k) (pairs e) → slice_get M (place k) ≡ Some (lone (element_at zs k))
  M_alone k less apart =
      alone_at 0 (place k) vs qs (element_at zs k) (places.shown k less)
      (staying.to (λ o t. o ≢ 0 + place k) (each_both _ _ _ (λ p low ne stays_ same. ne stays_ (places.once p.old k low less (same ∙ sym (itself (place k))))) (pairs e) old_within apart))

  abbrev Same : ℕ → Type 0
  Same k = slice_get L (place k) ≡ slice_get M (place k)

  same_deleted : Each Same (deleted_olds 0 e)
  same_deleted =
      each_both _ _ _ (λ k a b. b a) (deleted_olds 0 e)
      (each_both _ _ (λ k. (k < length zs) × Each (λ p. p.old ≢ k) (pairs e)) (λ k a b. (a, b)) (deleted_olds 0 e) deleted_within (pairs_undeleted 0 0 e))
      (each_weaker _ (λ k. (k < length zs) × Each (λ p. p.old ≢ k) (pairs e) → Same k) (λ k shows h. shows (place k) (itself (place k)) ∙ sym (M_alone k h.0 (each_weaker _ _ (λ p ne stays_. ne) (pairs e) h.1))) (deleted_olds 0 e) L_deleted)

  -- what is known of a pair
  record Known (p : Pair) : Type 0 where
    low : p.old < length zs
    ordered : Each (AreOrdered p) (pairs e)
    left : p.updated ≡ true → ShowsSpot 0 L (spot_of place stay (element_at zs) p)
    right : stay p ≡ true → Shown (place p.old) p.updated
    plain : p.updated ≡ false → stay p ≡ true
    undeleted : Each (λ k. p.old ≢ k) (deleted_olds 0 e)

  known : Each Known (pairs e)
  known =
      each_both _ _ Known (λ p a b. record { low = a.0; ordered = a.1; left = b.0; right = b.1; plain = b.2; undeleted = b.3 }) (pairs e)
      (each_both _ _ (λ p. (p.old < length zs) × Each (AreOrdered p) (pairs e)) (λ p a b. (a, b)) (pairs e) old_within (pairs_ordered e))
      (each_both _ _ (λ p. (p.updated ≡ true → ShowsSpot 0 L (spot_of place stay (element_at zs) p)) × (stay p ≡ true → Shown (place p.old) p.updated) × (p.updated ≡ false → stay p ≡ true) × Each (λ k. p.old ≢ k) (deleted_olds 0 e)) (λ p a b. (a.0, a.1, b.0, b.1)) (pairs e)
      (each_both _ _ (λ p. (p.updated ≡ true → ShowsSpot 0 L (spot_of place stay (element_at zs) p)) × (stay p ≡ true → Shown (place p.old) p.updated)) (λ p a b. (a, b)) (pairs e) L_pairs M_pairs)
      (each_both _ _ (λ p. (p.updated ≡ false → stay p ≡ true) × Each (λ k. p.old ≢ k) (deleted_olds 0 e)) (λ p a b. (a, b)) (pairs e) staying.plain (each_turned (λ k p. p.old ≢ k) (deleted_olds 0 e) (pairs e) (pairs_undeleted 0 0 e))))

  true_false : {t : Bool} → t ≡ true → t ≡ false → ⊥
  true_false a b = absurd cc

  -- an element of a plain pair stands at the place of no spot
  L_plain : (p : Pair) → Known p → p.updated ≡ false → slice_get L (place p.old) ≡ Some plain_one
  L_plain p h plain =
      plain_shown 0 (length zs) ss rise (place p.old) (let less = places.below p.old h.low in omega (arith, less))
      (in_order (λ s. s.place ≢ 0 + place p.old)
      (spots_are place stay (element_at zs) (λ s. s.place ≢ 0 + place p.old) 0 0 e zs leads whole
      (each_both _ _ _ (λ q low order up same. true_false (up_too q order low up same) plain) (pairs e) old_within h.ordered)
      (each_both _ _ _ (λ k low ne same. ne (places.once p.old k h.low low (itself (place p.old) ∙ sym same))) (deleted_olds 0 e) deleted_within h.undeleted)))
    where
      up_too : (q : Pair) → AreOrdered p q → q.old < length zs → q.updated ≡ true → place q.old ≡ 0 + place p.old → p.updated ≡ true
      up_too q order low up same = ap (λ r. r.updated) (order.old_same (places.once p.old q.old h.low low (itself (place p.old) ∙ sym same))) ∙ up

  same_pair : (p : Pair) → Known p → Same p.old
  same_pair p h = elim (cases_Bool p.updated) [
    | inr plain ↦ L_plain p h plain ∙ sym (h.right (h.plain plain) (place p.old) (element_at zs p.old) (itself (place p.old)) (places.shown p.old h.low) ∙ kind_plain p.updated plain)
    | inl up ↦
        elim (cases_Bool (stay p)) [
          | inl stays_ ↦
              h.left up (place p.old) (itself (place p.old)) ∙ (shows_staying (stay p) stays_
              ∙ sym (h.right stays_ (place p.old) (element_at zs p.old) (itself (place p.old)) (places.shown p.old h.low) ∙ kind_up p.updated up))
          | inr moves ↦
              h.left up (place p.old) (itself (place p.old)) ∙ (shows_moving (stay p) moves
              ∙ sym (M_alone p.old h.low (each_weaker _ _ (λ q order stays_ same. true_false stays_ (ap stay (sym (order.old_same (sym same))) ∙ moves)) (pairs e) h.ordered)))
        ]
  ]
    where
      kind_plain : (t : Bool) → t ≡ false → Some (pair_item t (element_at zs p.old)) ≡ Some plain_one
      kind_plain t is = rw is refl

      kind_up : (t : Bool) → t ≡ true → Some (pair_item t (element_at zs p.old)) ≡ Some (changed 0 (element_at zs p.old))
      kind_up t is = rw is refl

      shows_staying : (t : Bool) → t ≡ true → Some (item_of (record { place = place p.old; value = element_at zs p.old; stays = t })) ≡ Some (changed 0 (element_at zs p.old))
      shows_staying t is = rw is refl

      shows_moving : (t : Bool) → t ≡ false → Some (item_of (record { place = place p.old; value = element_at zs p.old; stays = t })) ≡ Some (lone (element_at zs p.old))
      shows_moving t is = rw is refl

  same_index : (k : ℕ) → k < length zs → Same k
  same_index k less =
      each_index Same 0 0 e (each_weaker Known _ same_pair (pairs e) known) same_deleted k (omega arith) (omega (arith, less, length_from e zs leads))

  -- the items of the pairs that stay are those of the spots, spread out
  pub side_is : items 0 vs qs ≡ spread 0 (length zs) ss
  side_is =
      let M_long : length M ≡ length zs = length_items 0 vs qs ∙ places.long in
      let L_long : length L ≡ length zs = length_spread (length zs) 0 (length zs) ss spots_left (omega arith) in
      same_lists M L (M_long ∙ sym L_long) (λ k less. at_position k (omega (arith, less, M_long)))
    where
      at_position : (k : ℕ) → k < length zs → slice_get M k ≡ slice_get L k
      at_position k less =
          let j = places.at k less in
          ap (slice_get M) (sym j.2) ∙ (sym (same_index j.0 j.1) ∙ ap (slice_get L) j.2)
