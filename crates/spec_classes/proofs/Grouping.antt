-- A grouping tells of a change what the touched keys say.
use Rattle.std.proofs.Common.{◌≡◌, ◌∙◌, ℕ, zero, suc, ◌+◌, ◌<◌, ◌≤◌, ◌&&◌, Bool, true, false, List, [], ◌∷◌, length, map, refl, ap, sym, subst, arith, inl, inr}
use Rattle.std.specs.Prelude.{pos, unwrap_or, Some, slice_get, if◌then◌else◌}
use Rattle.std.specs.List.{list_all, AllByRecursion as Each}
use Rattle.std.specs.Cmp.{IsTotalOrder, tied_back}
use Rattle.std.specs.declared.cmp.Ordering.TheVariants.{Equal}
use Rattle.std.proofs.lemmas.Bool.{cases_order, lt-ltb, ltb-true}
use Rattle.spec_value.specs.Tree.{Tree, num, items_of}
use Rattle.spec_lists.specs.Piece.{Piece, kept, updated, deleted, inserted}
use Rattle.spec_lists.specs.Pairs.{pairs}
use Rattle.spec_lists.specs.Delta.{Delta}
use Rattle.spec_lists.specs.Leads.{LeadsFrom, applied}
use Rattle.spec_lists.proofs.DeltaLeads.{length-applied, length_from}
use Rattle.spec_views.specs.Source.{element_at}
use Rattle.spec_views.specs.Arrangement.{Comparison}
use Rattle.spec_views.specs.Classes.{Class, first_of, classes, is_kept_old, is_kept_new, is_plain_pair, keeps_members}
use Rattle.spec_views.specs.Grouping.{group_of, grouping_view, grouping_follow}
use Rattle.spec_views.proofs.SortedPositions.{In}
use Rattle.spec_sorting.specs.Moves.{IsRising}
use Rattle.spec_sorting.proofs.Partners.{each_weaker}
use Rattle.spec_classes.specs.Members.{IsClass}
use Rattle.spec_classes.specs.Meetings.{Meeting, goes, comes, meets, of_key, meetings}
use Rattle.spec_classes.specs.Slots.{slots, told_by}
use Rattle.spec_classes.specs.Told.{group_piece}
use Rattle.spec_classes.proofs.Keys.{key_tied, IsWhole, classes_whole, member_is}
use Rattle.spec_classes.proofs.PlainPairs.{partner_of_old, partner_of_new, plain_one, plain_order}
use Rattle.spec_classes.proofs.Meets.{ShowsSame, piece_at, told_by_meetings}
use Rattle.spec_classes.proofs.Slots.{AllMeet, Here, all_meet, Agree, told_slots, old_counted, old_ones, new_ones, all_old, all_new}
use Rattle.spec_classes.proofs.Unique.{can_meet}

get_map : {X Y : Type 0} (f : X → Y) (xs : List X) (k : ℕ) (x : X) → slice_get xs k ≡ Some x → slice_get (map f xs) k ≡ Some (f x)
get_map f [] k x e = absurd cc
get_map f (y ∷ ys) zero x e = let same : y ≡ x = cc in ap (λ z. Some (f z)) same
get_map f (y ∷ ys) (suc k) x e = get_map f ys k x e

all_in : (test : ℕ → Bool) (c : Class) → list_all test c ≡ true → (i : ℕ) → In i c → test i ≡ true
all_in test [] all i found = absurd found
all_in test (j ∷ js) all i (inl same) = ap test same ∙ (both (test j) (list_all test js) all).0
  where
    both : (t u : Bool) → (t && u) ≡ true → (t ≡ true) × (u ≡ true)
    both true u e = (refl, e)
    both false u e = absurd cc
all_in test (j ∷ js) all i (inr later) = all_in test js (both (test j) (list_all test js) all).1 i later
  where
    both : (t u : Bool) → (t && u) ≡ true → (t ≡ true) × (u ≡ true)
    both true u e = (refl, e)
    both false u e = absurd cc

-- rising places and what they rise from
in_high : (low i : ℕ) (is : List ℕ) → IsRising low is → In i is → low ≤ i
in_high low i [] rise found = absurd found
in_high low i (j ∷ js) rise (inl same) = omega (arith, rise.0, same)
in_high low i (j ∷ js) rise (inr later) = omega (arith, rise.0, in_high (suc j) i js rise.1 later)

module _ (d : Delta) (xs : List Tree) (leads : LeadsFrom d xs) where
  -- each of these old elements is kept as one of these new ones, and the other way round
  record AreKept (is js : List ℕ) : Type 0 where
    to : (i : ℕ) → In i is → (j : ℕ) × In j js × (is_plain_pair (pairs d) i j ≡ true)
    from : (j : ℕ) → In j js → (i : ℕ) × In i is × (is_plain_pair (pairs d) i j ≡ true)

  -- two that are the first on both sides are one pair
  heads : (i j : ℕ) (is js : List ℕ) → IsRising i (i ∷ is) → IsRising j (j ∷ js) → AreKept (i ∷ is) (j ∷ js) → is_plain_pair (pairs d) i j ≡ true
  heads i j is js rise rise_too k =
      let p = k.to i (inl refl) in
      let q = k.from j (inl refl) in
      let low : j ≤ p.0 = in_high j p.0 (j ∷ js) rise_too p.1 in
      let low_too : i ≤ q.0 = in_high i q.0 (i ∷ is) rise q.1 in
      let order = plain_order d i p.0 q.0 j p.2 q.2 in
      elim (cases_order i q.0) [
        | inl same ↦ subst (λ l. is_plain_pair (pairs d) i l ≡ true) (order.old_same same) p.2
        | inr (inl less) ↦ let less_too : p.0 < j = ltb-true p.0 j (sym order.side ∙ lt-ltb i q.0 less) in absurd (omega (arith, less_too, low))
        | inr (inr more) ↦ absurd (omega (arith, more, low_too))
      ]

  values_same : (is js : List ℕ) (a b : ℕ) → IsRising a is → IsRising b js → AreKept is js
      → map (element_at xs) is ≡ map (element_at (applied d xs)) js
  values_same [] [] a b rise rise_too k = refl
  values_same [] (j ∷ js) a b rise rise_too k = absurd (k.from j (inl refl)).1
  values_same (i ∷ is) [] a b rise rise_too k = absurd (k.to i (inl refl)).1
  values_same (i ∷ is) (j ∷ js) a b rise rise_too k =
      let first = heads i j is js (omega arith, rise.1) (omega arith, rise_too.1) k in
      let rest : AreKept is js = record {
        to = λ l found. later_to l found (k.to l (inr found)) first;
        from = λ l found. later_from l found (k.from l (inr found)) first;
      } in
      both (plain_one d xs leads i j first).same (values_same is js (suc i) (suc j) rise.1 rise_too.1 rest)
    where
      both : {u v : Tree} {us vs : List Tree} → u ≡ v → us ≡ vs → u ∷ us ≡ v ∷ vs
      both e f = cc

      later_to : (l : ℕ) → In l is → (m : ℕ) × In m (j ∷ js) × (is_plain_pair (pairs d) l m ≡ true) → is_plain_pair (pairs d) i j ≡ true
          → (m : ℕ) × In m js × (is_plain_pair (pairs d) l m ≡ true)
      later_to l found p first = by p.1
        where
          by : In p.0 (j ∷ js) → (m : ℕ) × In m js × (is_plain_pair (pairs d) l m ≡ true)
          by (inr later) = (p.0, later, p.2)
          by (inl same) =
              let e : l ≡ i = (plain_order d l p.0 i j p.2 first).new_same same in
              absurd (omega (arith, e, in_high (suc i) l is rise.1 found))

      later_from : (l : ℕ) → In l js → (m : ℕ) × In m (i ∷ is) × (is_plain_pair (pairs d) m l ≡ true) → is_plain_pair (pairs d) i j ≡ true
          → (m : ℕ) × In m is × (is_plain_pair (pairs d) m l ≡ true)
      later_from l found p first = by p.1
        where
          by : In p.0 (i ∷ is) → (m : ℕ) × In m is × (is_plain_pair (pairs d) m l ≡ true)
          by (inr later) = (p.0, later, p.2)
          by (inl same) =
              let e : l ≡ j = (plain_order d p.0 l i j p.2 first).old_same same in
              absurd (omega (arith, e, in_high (suc j) l js rise_too.1 found))

module _ (compare : Comparison) (o : IsTotalOrder compare) (d : Delta) (xs : List Tree) (leads : LeadsFrom d xs) where
  abbrev ys : List Tree
  ys = applied d xs

  in_order : (zs : List Tree) (c : Class) → IsClass compare zs c → (low : ℕ) × IsRising low c
  in_order zs c h = (h.first, subst (IsRising h.first) (sym h.are) (omega arith, h.in_order))

  -- classes of one key whose members are all kept have one group
  pub groups_same : (c e : Class) → IsWhole compare o xs c → IsWhole compare o ys e → of_key compare xs ys c e ≡ true
      → keeps_members (pairs d) c e ≡ true → group_of xs c ≡ group_of ys e
  groups_same c e whole whole_too key kept_all =
      let both = parts (list_all (is_kept_old (pairs d)) c) (list_all (is_kept_new (pairs d)) e) kept_all in
      let tied : compare (element_at xs (first_of c)) (element_at ys (first_of e)) ≡ Equal = key_tied _ key in
      let rise = in_order xs c whole.class in
      let rise_too = in_order ys e whole_too.class in
      ap items_of (values_same d xs leads c e rise.0 rise_too.0 rise.1 rise_too.1 (record {
        to = λ i found.
            let p = partner_of_old (pairs d) i (all_in (is_kept_old (pairs d)) c both.0 i found) in
            let one = plain_one d xs leads i p.0 p.1 in (
              p.0,
              whole_too.full p.0 (omega (arith, one.new_within, length-applied d xs leads))
                  (ap (compare (element_at ys (first_of e))) (sym one.same) ∙ (o.congr _ _ (element_at xs i) (tied_back o _ _ tied) ∙ (member_is compare o xs c whole.class i found).tied)),
              p.1,
            );
        from = λ j found.
            let p = partner_of_new (pairs d) j (all_in (is_kept_new (pairs d)) e both.1 j found) in
            let one = plain_one d xs leads p.0 j p.1 in (
              p.0,
              whole.full p.0 (omega (arith, one.old_within, length_from d xs leads))
                  (ap (compare (element_at xs (first_of c))) one.same ∙ (o.congr _ _ (element_at ys j) tied ∙ (member_is compare o ys e whole_too.class j found).tied)),
              p.1,
            );
      }))
    where
      parts : (t u : Bool) → (t && u) ≡ true → (t ≡ true) × (u ≡ true)
      parts true u h = (refl, h)
      parts false u h = absurd cc

  abbrev told_at : Meeting → Piece
  told_at = piece_at compare xs ys (keeps_members (pairs d)) (group_of xs) (group_of ys)

  abbrev olds : List Tree
  olds = grouping_view compare xs

  abbrev news : List Tree
  news = grouping_view compare ys

  -- the classes that are left stand from these places on
  abbrev StandFrom : ℕ → List Class → List Class → Type 0
  StandFrom r some all = (k : ℕ) (c : Class) → slice_get some k ≡ Some c → slice_get all (r + k) ≡ Some c

  stand_next : (r : ℕ) (c : Class) (some all : List Class) → StandFrom r (c ∷ some) all → StandFrom (suc r) some all
  stand_next r c some all h = λ k b at. let e : suc r + k ≡ r + suc k = omega arith in ap (slice_get all) e ∙ h (suc k) b at

  stand_here : (zs : List Tree) (r : ℕ) (c : Class) (some all : List Class) → StandFrom r (c ∷ some) all → element_at (map (group_of zs) all) r ≡ group_of zs c
  stand_here zs r c some all h =
      let e : r ≡ r + 0 = omega arith in
      ap (λ t. unwrap_or t (num (pos 0))) (get_map (group_of zs) all r c (ap (slice_get all) e ∙ h 0 c refl))

  agree : (r s : ℕ) (ms : List Meeting) → AllMeet (Here (of_key compare xs ys) (IsWhole compare o xs) (IsWhole compare o ys)) ms
      → StandFrom r (old_ones ms) (classes compare xs) → StandFrom s (new_ones ms) (classes compare ys)
      → Agree d (group_piece olds news) told_at r s ms
  agree r s [] all old new = tt
  agree r s (goes c ∷ ms) all old new =
      (ap deleted (stand_here xs r c (old_ones ms) (classes compare xs) old), agree (suc r) s ms all (stand_next r c (old_ones ms) (classes compare xs) old) new)
  agree r s (comes e ∷ ms) all old new =
      (ap inserted (stand_here ys s e (new_ones ms) (classes compare ys) new), agree r (suc s) ms all old (stand_next s e (new_ones ms) (classes compare ys) new))
  agree r s (meets c e ∷ ms) all old new = (
    (
      (λ kept_all. ap (λ t. if t then kept else updated (group_of xs c) (group_of ys e)) kept_all),
      (λ touched. both _ _ _ _ (stand_here xs r c (old_ones ms) (classes compare xs) old) (stand_here ys s e (new_ones ms) (classes compare ys) new)
          ∙ sym (ap (λ t. if t then kept else updated (group_of xs c) (group_of ys e)) touched)),
    ),
    agree (suc r) (suc s) ms all.1 (stand_next r c (old_ones ms) (classes compare xs) old) (stand_next s e (new_ones ms) (classes compare ys) new),
  )
    where
      both : (u v w z : Tree) → u ≡ v → w ≡ z → updated u w ≡ updated v z
      both u v w z e f = cc

  under : (P Q : Class → Type 0) (R : Class → Class → Type 0) → ((c e : Class) → P c → Q e → R c e) → (cs es : List Class) → Each P cs → Each Q es → Each (λ c. Each (R c) es) cs
  under P Q R h [] es p q = tt
  under P Q R h (c ∷ cs) es p q = (each_weaker Q (R c) (λ e. h c e p.0) es q, under P Q R h cs es p.1 q)

  -- what a grouping tells, by the touched keys alone
  pub grouping_told : grouping_follow compare xs d ≡ told_by (group_piece olds news) (length (classes compare xs)) 0 0 (slots compare xs d)
  grouping_told =
      let cs : List Class = classes compare xs in
      let es : List Class = classes compare ys in
      let same : Each (λ c. ShowsSame compare xs ys (keeps_members (pairs d)) (group_of xs) (group_of ys) c es) cs =
      under (IsWhole compare o xs) (IsWhole compare o ys) (λ c e. of_key compare xs ys c e ≡ true → keeps_members (pairs d) c e ≡ true → group_of xs c ≡ group_of ys e) groups_same cs es (classes_whole compare o xs) (classes_whole compare o ys) in
      let met = all_meet (of_key compare xs ys) (IsWhole compare o xs) (IsWhole compare o ys) cs es (classes_whole compare o xs) (classes_whole compare o ys) in
      let old : StandFrom 0 (old_ones (meetings compare xs ys)) cs = λ k c at. let e : 0 + k ≡ k = omega arith in ap (slice_get cs) e ∙ (ap (λ us. slice_get us k) (sym (all_old (of_key compare xs ys) cs es)) ∙ at) in
      let new : StandFrom 0 (new_ones (meetings compare xs ys)) es = λ k c at. let e : 0 + k ≡ k = omega arith in ap (slice_get es) e ∙ (ap (λ us. slice_get us k) (sym (all_new (of_key compare xs ys) cs es)) ∙ at) in
      told_by_meetings compare xs ys (keeps_members (pairs d)) (group_of xs) (group_of ys) (can_meet compare o xs ys (keeps_members (pairs d)) (group_of xs) (group_of ys) same)
      ∙ sym (told_slots d (group_piece olds news) told_at (length cs) 0 0 0 0 (meetings compare xs ys) (omega arith) (omega arith) refl (omega (arith, old_counted (of_key compare xs ys) cs es)) (agree 0 0 (meetings compare xs ys) met old new))
