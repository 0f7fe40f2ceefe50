-- A unique list tells of a change what the touched keys say.
use Rattle.std.proofs.Common.{◌≡◌, ◌∙◌, ◌⊎◌, ℕ, suc, ◌-◌, ◌<◌, ◌&&◌, ◌||◌, Bool, true, false, List, [], ◌∷◌, length, refl, ap, sym, subst, arith, inl, inr}
use Rattle.std.specs.Prelude.{Option, Some, None, slice_get, if◌then◌else◌}
use Rattle.std.specs.List.{list_any, list_all, AllByRecursion as Each}
use Rattle.std.specs.Cmp.{IsTotalOrder, tied_back, alike_right}
use Rattle.std.specs.Ordering.{ordering_reverse}
use Rattle.std.specs.declared.cmp.Ordering.TheVariants.{Less, Equal}
use Rattle.std.proofs.lemmas.Bool.{cases_order, eq-eqb, lt-ltb, ltb-true}
use Rattle.spec_value.specs.Tree.{Tree}
use Rattle.spec_lists.specs.Piece.{Piece, kept, updated, deleted}
use Rattle.spec_lists.specs.Pairs.{pairs}
use Rattle.spec_lists.specs.Sides.{Item, plain, changed, lone, sides}
use Rattle.spec_lists.specs.Delta.{Delta}
use Rattle.spec_lists.specs.Leads.{LeadsFrom, applied}
use Rattle.spec_lists.proofs.DeltaLeads.{length-applied, length_from}
use Rattle.spec_views.specs.Source.{element_at}
use Rattle.spec_views.specs.Arrangement.{Comparison}
use Rattle.spec_views.specs.Classes.{Class, first_of, classes, is_kept_old, is_kept_new, is_plain_pair}
use Rattle.spec_views.specs.Unique.{shown_member, unique_follow}
use Rattle.spec_sorting.proofs.Partners.{each_weaker, each_true}
use Rattle.spec_classes.specs.Members.{KeysRise}
use Rattle.spec_classes.specs.Meetings.{Meeting, goes, comes, meets, of_key, meetings}
use Rattle.spec_classes.specs.Slots.{read_by, read_after, slots, told_by}
use Rattle.spec_classes.specs.Told.{first_value, is_still, unique_piece}
use Rattle.spec_classes.proofs.Members.{are_classes}
use Rattle.spec_classes.proofs.Keys.{key_tied, greater_not, IsWhole, classes_whole, member_is}
use Rattle.spec_classes.proofs.PlainPairs.{partner_of_old, partner_of_new, plain_one, plain_order, still_plain}
use Rattle.spec_classes.proofs.Meets.{IsClear, ShowsSame, CanMeet, piece_at, told_by_meetings}
use Rattle.spec_classes.proofs.Slots.{AllMeet, Here, all_meet, Agree, told_slots, old_counted}

module _ (compare : Comparison) (o : IsTotalOrder compare) (xs ys : List Tree) (is_plain : Class → Class → Bool) (old_value new_value : Class → Tree) where
  -- a class that isn't after one meets none that is after that one
  not_after : (c b e : Class) → compare (element_at xs (first_of c)) (element_at xs (first_of b)) ≡ Less
      → (compare (element_at ys (first_of e)) (element_at xs (first_of c)) ≡ Less) ⊎ (compare (element_at ys (first_of e)) (element_at xs (first_of c)) ≡ Equal)
      → of_key compare xs ys b e ≡ false
  not_after c b e less low =
      greater_not _ (o.antisymm (element_at xs (first_of b)) (element_at ys (first_of e)) ∙ ap ordering_reverse (before low))
    where
      before : (compare (element_at ys (first_of e)) (element_at xs (first_of c)) ≡ Less) ⊎ (compare (element_at ys (first_of e)) (element_at xs (first_of c)) ≡ Equal)
          → compare (element_at ys (first_of e)) (element_at xs (first_of b)) ≡ Less
      before (inl l) = o.trans _ _ _ l less
      before (inr t) = o.congr _ _ (element_at xs (first_of b)) t ∙ less

  -- where one of these classes has the key of c, none of them is after c but after that one
  low_by_later : (c e : Class) (es : List Class) → Each (λ f. compare (element_at ys (first_of e)) (element_at ys (first_of f)) ≡ Less) es
      → list_any (of_key compare xs ys c) es ≡ true → compare (element_at ys (first_of e)) (element_at xs (first_of c)) ≡ Less
  low_by_later c e [] less any = absurd cc
  low_by_later c e (f ∷ fs) less any = by (of_key compare xs ys c f) refl (low_by_later c e fs less.1)
    where
      by : (t : Bool) → of_key compare xs ys c f ≡ t → (list_any (of_key compare xs ys c) fs ≡ true → compare (element_at ys (first_of e)) (element_at xs (first_of c)) ≡ Less)
          → compare (element_at ys (first_of e)) (element_at xs (first_of c)) ≡ Less
      by true is later = alike_right o _ _ (element_at ys (first_of e)) (key_tied _ is) ∙ less.0
      by false is later = later (sym (ap (λ u. u || list_any (of_key compare xs ys c) fs) is) ∙ any)

  clear : (c : Class) (cs es : List Class) → Each (λ b. compare (element_at xs (first_of c)) (element_at xs (first_of b)) ≡ Less) cs
      → KeysRise compare ys es → IsClear compare xs ys is_plain old_value new_value c cs es
  clear c cs [] less rise = tt
  clear c cs (e ∷ es) less rise = (
    (λ any. each_weaker _ _ (λ b l. not_after c b e l (low any)) cs less),
    clear c cs es less rise.1,
  )
    where
      low : list_any (of_key compare xs ys c) (e ∷ es) ≡ true
          → (compare (element_at ys (first_of e)) (element_at xs (first_of c)) ≡ Less) ⊎ (compare (element_at ys (first_of e)) (element_at xs (first_of c)) ≡ Equal)
      low any = by (of_key compare xs ys c e) refl
        where
          by : (t : Bool) → of_key compare xs ys c e ≡ t
              → (compare (element_at ys (first_of e)) (element_at xs (first_of c)) ≡ Less) ⊎ (compare (element_at ys (first_of e)) (element_at xs (first_of c)) ≡ Equal)
          by true is = inr (tied_back o (element_at xs (first_of c)) (element_at ys (first_of e)) (key_tied _ is))
          by false is = inl (low_by_later c e es rise.0 (sym (ap (λ u. u || list_any (of_key compare xs ys c) es) is) ∙ any))

  meet_from : (cs es : List Class) → KeysRise compare xs cs → KeysRise compare ys es
      → Each (λ c. ShowsSame compare xs ys is_plain old_value new_value c es) cs → CanMeet compare xs ys is_plain old_value new_value cs es
  meet_from [] es rise rise_too same = tt
  meet_from (c ∷ cs) es rise rise_too same = ((clear c cs es rise.0 rise_too, same.0), meet_from cs es rise.1 rise_too same.1)

  pub can_meet : Each (λ c. ShowsSame compare xs ys is_plain old_value new_value c (classes compare ys)) (classes compare xs)
      → CanMeet compare xs ys is_plain old_value new_value (classes compare xs) (classes compare ys)
  can_meet same = meet_from (classes compare xs) (classes compare ys) (are_classes compare o xs).rise (are_classes compare o ys).rise same

-- an old element is read after the change
pub read_value : (d : Delta) (xs : List Tree) → LeadsFrom d xs → (i : ℕ) → first_value xs (applied d xs) (read_after d i) ≡ element_at xs i
read_value d xs leads i = by (slice_get (sides d).old i) refl
  where
    by : (t : Option Item) → slice_get (sides d).old i ≡ t → first_value xs (applied d xs) (read_by i t) ≡ element_at xs i
    by None e = refl
    by (Some (changed j v)) e = refl
    by (Some (lone v)) e = refl
    by (Some (plain j)) e =
        let still : is_still (read_after d i) j ≡ true = ap (λ t. is_still (read_by i t) j) e ∙ eq-eqb j j refl in
        sym (plain_one d xs leads i j (sym (still_plain d i j) ∙ still)).same

both_kept : (t u : Bool) → (t && u) ≡ true → (t ≡ true) × (u ≡ true)
both_kept true u e = (refl, e)
both_kept false u e = absurd cc

head_kept : (test : ℕ → Bool) (c : Class) (f : ℕ) (fs : List ℕ) → c ≡ f ∷ fs → list_all test c ≡ true → test (first_of c) ≡ true
head_kept test c f fs are all =
    ap test (ap first_of are) ∙ (both_kept (test f) (list_all test fs) (sym (ap (list_all test) are) ∙ all)).0

module _ (compare : Comparison) (o : IsTotalOrder compare) (d : Delta) (xs : List Tree) (leads : LeadsFrom d xs) where
  abbrev ys : List Tree
  ys = applied d xs

  -- the first members of classes of one key are a plain pair where neither was changed
  pub firsts_paired : (c e : Class) → IsWhole compare o xs c → IsWhole compare o ys e → of_key compare xs ys c e ≡ true
      → is_kept_old (pairs d) (first_of c) ≡ true → is_kept_new (pairs d) (first_of e) ≡ true → is_plain_pair (pairs d) (first_of c) (first_of e) ≡ true
  firsts_paired c e whole whole_too key old new =
      let p = partner_of_old (pairs d) (first_of c) old in
      let q = partner_of_new (pairs d) (first_of e) new in
      let there = plain_one d xs leads (first_of c) p.0 p.1 in
      let back = plain_one d xs leads q.0 (first_of e) q.1 in
      let tied : compare (element_at xs (first_of c)) (element_at ys (first_of e)) ≡ Equal = key_tied _ key in
      let in_new : compare (element_at ys (first_of e)) (element_at ys p.0) ≡ Equal =
      ap (compare (element_at ys (first_of e))) (sym there.same) ∙ tied_back o _ _ tied in
      let in_old : compare (element_at xs (first_of c)) (element_at xs q.0) ≡ Equal =
      ap (compare (element_at xs (first_of c))) back.same ∙ tied in
      let low = (member_is compare o ys e whole_too.class p.0 (whole_too.full p.0 (omega (arith, there.new_within, length-applied d xs leads)) in_new)).low in
      let low_too = (member_is compare o xs c whole.class q.0 (whole.full q.0 (omega (arith, back.old_within, length_from d xs leads)) in_old)).low in
      let order = plain_order d (first_of c) p.0 q.0 (first_of e) p.1 q.1 in
      elim (cases_order (first_of c) q.0) [
        | inl same ↦ subst (λ j. is_plain_pair (pairs d) (first_of c) j ≡ true) (order.old_same same) p.1
        | inr (inl less) ↦ let less_too : p.0 < first_of e = ltb-true p.0 (first_of e) (sym order.side ∙ lt-ltb (first_of c) q.0 less) in absurd (omega (arith, less_too, low))
        | inr (inr more) ↦ absurd (omega (arith, more, low_too))
      ]

  abbrev plainly : Class → Class → Bool
  plainly c e = is_plain_pair (pairs d) (first_of c) (first_of e)

  abbrev told_at : Meeting → Piece
  told_at = piece_at compare xs ys plainly (shown_member xs) (shown_member ys)

  agree : (r s : ℕ) (ms : List Meeting) → AllMeet (Here (of_key compare xs ys) (IsWhole compare o xs) (IsWhole compare o ys)) ms
      → Agree d (unique_piece xs ys) told_at r s ms
  agree r s [] all = tt
  agree r s (goes c ∷ ms) all = (ap deleted (read_value d xs leads (first_of c)), agree (suc r) s ms all)
  agree r s (comes e ∷ ms) all = (refl, agree r (suc s) ms all)
  agree r s (meets c e ∷ ms) all = (
    (
      (λ kept_all.
          let both = both_kept (list_all (is_kept_old (pairs d)) c) (list_all (is_kept_new (pairs d)) e) kept_all in
          let h = all.0 in
          let first : plainly c e ≡ true = firsts_paired c e h.0 h.1.0 h.1.1 (head_kept (is_kept_old (pairs d)) c h.0.class.first h.0.class.others h.0.class.are both.0) (head_kept (is_kept_new (pairs d)) e h.1.0.class.first h.1.0.class.others h.1.0.class.are both.1) in
          ap (λ t. if t then kept else updated (shown_member xs c) (shown_member ys e)) first),
      (λ touched. ap (λ t. if t then kept else updated (first_value xs ys (read_after d (first_of c))) (element_at ys (first_of e))) (still_plain d (first_of c) (first_of e))
          ∙ ap (λ v. if plainly c e then kept else updated v (element_at ys (first_of e))) (read_value d xs leads (first_of c))),
    ),
    agree (suc r) (suc s) ms all.1,
  )

  -- what a unique list tells, by the touched keys alone
  pub unique_told : unique_follow compare xs d ≡ told_by (unique_piece xs ys) (length (classes compare xs)) 0 0 (slots compare xs d)
  unique_told =
      let cs : List Class = classes compare xs in
      let es : List Class = classes compare ys in
      let same : Each (λ c. ShowsSame compare xs ys plainly (shown_member xs) (shown_member ys) c es) cs =
      each_true _ (λ c. each_true _ (λ e key plain. (plain_one d xs leads (first_of c) (first_of e) plain).same) es) cs in
      let met = all_meet (of_key compare xs ys) (IsWhole compare o xs) (IsWhole compare o ys) cs es (classes_whole compare o xs) (classes_whole compare o ys) in
      let none_left : 0 - 0 ≡ 0 = omega arith in
      told_by_meetings compare xs ys plainly (shown_member xs) (shown_member ys) (can_meet compare o xs ys plainly (shown_member xs) (shown_member ys) same)
      ∙ sym (told_slots d (unique_piece xs ys) told_at (length cs) 0 0 0 0 (meetings compare xs ys) (omega arith) (omega arith) refl (omega (arith, old_counted (of_key compare xs ys) cs es)) (agree 0 0 (meetings compare xs ys) met))
