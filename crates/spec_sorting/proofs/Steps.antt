-- What is told between two lists of spots, step by step: a run of plain pairs, a deletion, an insertion, an update.
use Rattle.std.proofs.Common.{◌≡◌, ◌⊎◌, ◌∙◌, ℕ, zero, suc, ◌+◌, ◌-◌, ◌≤◌, Bool, true, false, List, [], ◌∷◌, ◌++◌, length, refl, ap, sym, subst, arith, inl, inr}
use Rattle.std.specs.Prelude.{replicate}
use Rattle.spec_lists.specs.Piece.{kept, updated, deleted, inserted, identity}
use Rattle.spec_lists.specs.Sides.{Item, changed, lone, woven}
use Rattle.spec_sorting.specs.Merged.{Spot, plain_one, item_of, spread, next_position, between, pair_kinds, AreLeft, AreAligned, PairFirst}
use Rattle.spec_sorting.proofs.Spreads.{plain_first, spot_first, none_left, Begins, ended, with_plain, with_spot, begins}

woven_same : {a b c d : List Item} → a ≡ b → c ≡ d → woven a c ≡ woven b d
woven_same e f = cc

tail_same : (t u : Bool) (us vs : List Bool) → t ∷ us ≡ u ∷ vs → us ≡ vs
tail_same t u us vs e = cc

-- the kinds on both sides, seen by what the two lists of items begin with
kinds_by : {a b c d : List Item} → a ≡ b → c ≡ d → pair_kinds a ≡ pair_kinds c → pair_kinds b ≡ pair_kinds d
kinds_by e f g = sym (ap pair_kinds e) ∙ (g ∙ ap pair_kinds f)

item_moves : (s : Spot) → s.stays ≡ false → item_of s ≡ lone s.value
item_moves s moves = rw moves refl

item_stays : (s : Spot) → s.stays ≡ true → item_of s ≡ changed 0 s.value
item_stays s stays = rw stays refl

-- as many plain pairs as stand before the next spot of either list are kept
pub kept_run : (r x n : ℕ) (gone : List Spot) (y m : ℕ) (come : List Spot) → AreAligned x n gone y m come
    → x + r ≤ next_position n gone → y + r ≤ next_position m come
    → (between x n gone y m come ≡ identity r ++ between (x + r) n gone (y + r) m come) × AreAligned (x + r) n gone (y + r) m come
kept_run zero x n gone y m come all low low_too =
    let e : x ≡ x + 0 = omega arith in
    let f : y ≡ y + 0 = omega arith in (
      ap (λ a. between a n gone y m come) e ∙ ap (λ b. between (x + 0) n gone b m come) f,
      subst (λ b. AreAligned (x + 0) n gone b m come) f (subst (λ a. AreAligned a n gone y m come) e all),
    )
kept_run (suc r) x n gone y m come all low low_too =
    let old = plain_first x n gone all.old_left (omega (arith, low)) in
    let new = plain_first y m come all.new_left (omega (arith, low_too)) in
    let kinds : pair_kinds (spread (suc x) n gone) ≡ pair_kinds (spread (suc y) m come) = tail_same false false _ _ (kinds_by old.0 new.0 all.kinds) in
    let rest = kept_run r (suc x) n gone (suc y) m come (record { old_left = old.1; new_left = new.1; kinds = kinds }) (omega (arith, low)) (omega (arith, low_too)) in
    let e : suc x + r ≡ x + suc r = omega arith in
    let f : suc y + r ≡ y + suc r = omega arith in (
      woven_same old.0 new.0 ∙ (ap (λ qs. kept ∷ qs) rest.0
          ∙ (ap (λ a. identity (suc r) ++ between a n gone (suc y + r) m come) e ∙ ap (λ b. identity (suc r) ++ between (x + suc r) n gone b m come) f)),
      subst (λ b. AreAligned (x + suc r) n gone b m come) f (subst (λ a. AreAligned a n gone (suc y + r) m come) e rest.1),
    )

-- an old element that doesn't stay is deleted, whatever the new list has next
pub deleted_step : (x n : ℕ) (s : Spot) (gone : List Spot) (y m : ℕ) (come : List Spot) → AreAligned x n (s ∷ gone) y m come
    → s.place ≡ x → s.stays ≡ false
    → (between x n (s ∷ gone) y m come ≡ deleted s.value ∷ between (suc x) n gone y m come) × AreAligned (suc x) n gone y m come
deleted_step x n s gone y m come all at moves =
    let old = spot_first x n s gone all.old_left at in
    let items_are : spread x n (s ∷ gone) ≡ lone s.value ∷ spread (suc x) n gone = old.0 ∙ ap (λ i. i ∷ spread (suc x) n gone) (item_moves s moves) in (
      woven_same {c = spread y m come} items_are refl,
      record { old_left = old.1; new_left = all.new_left; kinds = kinds_by {c = spread y m come} items_are refl all.kinds },
    )

-- how the elements that are left of a list begin, where no deletion is next
insert_here : (x n : ℕ) (gone : List Spot) → AreLeft x n gone → PairFirst x gone → (w : _) (ys : List Item)
    → woven (spread x n gone) (lone w ∷ ys) ≡ inserted w ∷ woven (spread x n gone) ys
insert_here x n gone left first w ys = by (begins x n gone left)
  where
    at_end : {a : List Item} → a ≡ [] → woven a (lone w ∷ ys) ≡ inserted w ∷ woven a ys
    at_end e = rw e refl

    at_plain : {a b : List Item} → a ≡ plain_one ∷ b → woven a (lone w ∷ ys) ≡ inserted w ∷ woven a ys
    at_plain e = rw e refl

    at_changed : {a b : List Item} (s : Spot) → a ≡ item_of s ∷ b → item_of s ≡ changed 0 s.value → woven a (lone w ∷ ys) ≡ inserted w ∷ woven a ys
    at_changed s e f = rw (e, f) refl

    stays_there : (s : Spot) (rest us : List Spot) → us ≡ s ∷ rest → PairFirst x us → s.place ≡ x → s.stays ≡ true
    stays_there s rest us cut pair at = subst (PairFirst x) cut pair at

    by : Begins x n gone → woven (spread x n gone) (lone w ∷ ys) ≡ inserted w ∷ woven (spread x n gone) ys
    by (ended end empty) = at_end (ap (spread x n) empty ∙ (ap (λ k. spread k n []) end ∙ none_left n))
    by (with_plain less) = at_plain (plain_first x n gone left less).0
    by (with_spot s rest cut at) =
        at_changed s (ap (spread x n) cut ∙ (spot_first x n s rest (subst (AreLeft x n) cut left) at).0) (item_stays s (stays_there s rest gone cut first at))

-- a new element that doesn't stay is inserted, where no deletion is next
pub inserted_step : (x n : ℕ) (gone : List Spot) (y m : ℕ) (t : Spot) (come : List Spot) → AreAligned x n gone y m (t ∷ come)
    → t.place ≡ y → t.stays ≡ false → PairFirst x gone
    → (between x n gone y m (t ∷ come) ≡ inserted t.value ∷ between x n gone (suc y) m come) × AreAligned x n gone (suc y) m come
inserted_step x n gone y m t come all at moves first =
    let new = spot_first y m t come all.new_left at in
    let items_are : spread y m (t ∷ come) ≡ lone t.value ∷ spread (suc y) m come = new.0 ∙ ap (λ i. i ∷ spread (suc y) m come) (item_moves t moves) in (
      woven_same {a = spread x n gone} refl items_are ∙ insert_here x n gone all.old_left first t.value (spread (suc y) m come),
      record { old_left = all.old_left; new_left = new.1; kinds = kinds_by {a = spread x n gone} refl items_are all.kinds },
    )

-- two elements of a pair that stays are updated
pub updated_step : (x n : ℕ) (s : Spot) (gone : List Spot) (y m : ℕ) (t : Spot) (come : List Spot) → AreAligned x n (s ∷ gone) y m (t ∷ come)
    → s.place ≡ x → s.stays ≡ true → t.place ≡ y → t.stays ≡ true
    → (between x n (s ∷ gone) y m (t ∷ come) ≡ updated s.value t.value ∷ between (suc x) n gone (suc y) m come) × AreAligned (suc x) n gone (suc y) m come
updated_step x n s gone y m t come all at stays at_too stays_too =
    let old = spot_first x n s gone all.old_left at in
    let new = spot_first y m t come all.new_left at_too in
    let olds_are : spread x n (s ∷ gone) ≡ changed 0 s.value ∷ spread (suc x) n gone = old.0 ∙ ap (λ i. i ∷ spread (suc x) n gone) (item_stays s stays) in
    let news_are : spread y m (t ∷ come) ≡ changed 0 t.value ∷ spread (suc y) m come = new.0 ∙ ap (λ i. i ∷ spread (suc y) m come) (item_stays t stays_too) in (
      woven_same olds_are news_are,
      record { old_left = old.1; new_left = new.1; kinds = tail_same true true _ _ (kinds_by olds_are news_are all.kinds) },
    )

-- both lists have a staying element next
pub record BothStay (x : ℕ) (gone : List Spot) (y : ℕ) (come : List Spot) : Type 0 where
  pub old : Spot
  pub gone_rest : List Spot
  pub gone_is : gone ≡ old ∷ gone_rest
  pub old_at : old.place ≡ x
  pub old_stays : old.stays ≡ true
  pub new : Spot
  pub come_rest : List Spot
  pub come_is : come ≡ new ∷ come_rest
  pub new_at : new.place ≡ y
  pub new_stays : new.stays ≡ true

-- Where the run of plain ones is at its end on one side, and neither a deletion nor an insertion is next, both lists
-- have an element of a staying pair next, or both are at their ends.
pub ended_or_both : (x n : ℕ) (gone : List Spot) (y m : ℕ) (come : List Spot) → AreAligned x n gone y m come
    → (x ≡ next_position n gone) ⊎ (y ≡ next_position m come) → PairFirst x gone → PairFirst y come
    → ((x ≡ n) × (y ≡ m) × (gone ≡ []) × (come ≡ [])) ⊎ BothStay x gone y come
ended_or_both x n gone y m come all run first first_too = by (begins x n gone all.old_left) (begins y m come all.new_left) run
  where
    nothing : {a : List Item} → a ≡ [] → pair_kinds a ≡ []
    nothing e = ap pair_kinds e

    plains_next : {a b : List Item} → a ≡ plain_one ∷ b → pair_kinds a ≡ false ∷ pair_kinds b
    plains_next e = ap pair_kinds e

    empty_is : (x n : ℕ) (us : List Spot) → x ≡ n → us ≡ [] → pair_kinds (spread x n us) ≡ []
    empty_is x n us end empty = nothing (ap (spread x n) empty ∙ (ap (λ k. spread k n []) end ∙ none_left n))

    stays_there : (x : ℕ) (s : Spot) (rest us : List Spot) → us ≡ s ∷ rest → PairFirst x us → s.place ≡ x → s.stays ≡ true
    stays_there x s rest us cut pair at = subst (PairFirst x) cut pair at

    changed_next : (x n : ℕ) (us : List Spot) (s : Spot) (rest : List Spot) → AreLeft x n us → PairFirst x us → us ≡ s ∷ rest → s.place ≡ x
        → pair_kinds (spread x n us) ≡ true ∷ pair_kinds (spread (suc x) n rest)
    changed_next x n us s rest left pair cut at =
        ap pair_kinds (ap (spread x n) cut ∙ ((spot_first x n s rest (subst (AreLeft x n) cut left) at).0 ∙ ap (λ i. i ∷ spread (suc x) n rest) (item_stays s (stays_there x s rest us cut pair at))))

    nil_cons : (a b us : List Bool) (t : Bool) → a ≡ b → a ≡ [] → b ≡ t ∷ us → ⊥
    nil_cons a b us t same e f = absurd cc

    kinds_apart : (a b us vs : List Bool) → a ≡ b → a ≡ true ∷ us → b ≡ false ∷ vs → ⊥
    kinds_apart a b us vs same e f = absurd cc

    by : Begins x n gone → Begins y m come → (x ≡ next_position n gone) ⊎ (y ≡ next_position m come)
        → ((x ≡ n) × (y ≡ m) × (gone ≡ []) × (come ≡ [])) ⊎ BothStay x gone y come
    by (ended end empty) (ended end_too empty_too) at = inl (end, end_too, empty, empty_too)
    by (ended end empty) (with_plain less) at =
        absurd (nil_cons _ _ _ _ all.kinds (empty_is x n gone end empty) (plains_next (plain_first y m come all.new_left less).0))
    by (ended end empty) (with_spot t rest cut here) at =
        absurd (nil_cons _ _ _ _ all.kinds (empty_is x n gone end empty) (changed_next y m come t rest all.new_left first_too cut here))
    by (with_plain less) (ended end_too empty_too) at =
        absurd (nil_cons _ _ _ _ (sym all.kinds) (empty_is y m come end_too empty_too) (plains_next (plain_first x n gone all.old_left less).0))
    by (with_plain less) (with_plain less_too) (inl at) = absurd (omega (arith, less, at))
    by (with_plain less) (with_plain less_too) (inr at) = absurd (omega (arith, less_too, at))
    by (with_plain less) (with_spot t rest cut here) at =
        absurd (kinds_apart _ _ _ _ (sym all.kinds) (changed_next y m come t rest all.new_left first_too cut here) (plains_next (plain_first x n gone all.old_left less).0))
    by (with_spot s rest cut here) (ended end_too empty_too) at =
        absurd (nil_cons _ _ _ _ (sym all.kinds) (empty_is y m come end_too empty_too) (changed_next x n gone s rest all.old_left first cut here))
    by (with_spot s rest cut here) (with_plain less) at =
        absurd (kinds_apart _ _ _ _ all.kinds (changed_next x n gone s rest all.old_left first cut here) (plains_next (plain_first y m come all.new_left less).0))
    by (with_spot s rest cut here) (with_spot t rest_too cut_too here_too) at =
        inr (record {
          old = s;
          gone_rest = rest;
          gone_is = cut;
          old_at = here;
          old_stays = stays_there x s rest gone cut first here;
          new = t;
          come_rest = rest_too;
          come_is = cut_too;
          new_at = here_too;
          new_stays = stays_there y t rest_too come cut_too first_too here_too;
        })

-- after the last spots of both lists all that is left is kept: as many on both sides
pub kept_end : (x n y m : ℕ) → AreAligned x n [] y m [] → (between x n [] y m [] ≡ identity (n - x)) × (n - x ≡ m - y)
kept_end x n y m all = (ap (λ k. woven (replicate (n - x) plain_one) (replicate k plain_one)) (sym same) ∙ all_kept (n - x), same)
  where
    counted : (k : ℕ) → length (pair_kinds (replicate k plain_one)) ≡ k
    counted zero = refl
    counted (suc k) = ap suc (counted k)

    same : n - x ≡ m - y
    same = sym (counted (n - x)) ∙ (ap length all.kinds ∙ counted (m - y))

    all_kept : (k : ℕ) → woven (replicate k plain_one) (replicate k plain_one) ≡ identity k
    all_kept zero = refl
    all_kept (suc k) = ap (λ qs. kept ∷ qs) (all_kept k)
