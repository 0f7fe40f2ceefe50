-- What is told by the touched keys alone.
use Rattle.std.proofs.Common.{◌≡◌, ◌∙◌, ℕ, zero, suc, ◌+◌, ◌-◌, ◌≤◌, ◌||◌, ◌++◌, Bool, true, false, List, [], ◌∷◌, length, map, refl, ap, sym, arith}
use Rattle.std.specs.Prelude.{None}
use Rattle.std.specs.List.{list_any, AllByRecursion as Each}
use Rattle.spec_lists.specs.Piece.{Piece, kept, identity}
use Rattle.spec_lists.specs.Pairs.{pairs}
use Rattle.spec_lists.specs.Delta.{Delta}
use Rattle.spec_views.specs.Classes.{Class, keeps_members}
use Rattle.spec_classes.specs.declared.Slot.{Slot}
use Rattle.spec_classes.specs.Meetings.{Meeting, goes, comes, meets, meet, meetings_by}
use Rattle.spec_classes.specs.Slots.{old_class, new_class, slots_from, told_by}

-- how many classes of the old list are of these meetings
abbrev pub old_count : List Meeting → ℕ
old_count [] = 0
old_count (goes c ∷ ms) = suc (old_count ms)
old_count (comes e ∷ ms) = old_count ms
old_count (meets c e ∷ ms) = suc (old_count ms)

none_old : (es : List Class) → old_count (map comes es) ≡ 0
none_old [] = refl
none_old (e ∷ es) = none_old es

met_count : (test : Class → Bool) (c : Class) (on : List Class → List Meeting) (n : ℕ) → ((es : List Class) → old_count (on es) ≡ n)
    → (es : List Class) → list_any test es ≡ true → old_count (meet test c on es) ≡ suc n
met_count test c on n h [] any = absurd cc
met_count test c on n h (e ∷ es) any = by (test e) refl (met_count test c on n h es)
  where
    by : (t : Bool) → test e ≡ t → (list_any test es ≡ true → old_count (meet test c on es) ≡ suc n) → old_count (meet test c on (e ∷ es)) ≡ suc n
    by true is later = rw is (ap suc (h es))
    by false is later = rw is (later (sym (ap (λ u. u || list_any test es) is) ∙ any))

-- each old class is of one
pub old_counted : (key : Class → Class → Bool) (cs es : List Class) → old_count (meetings_by key cs es) ≡ length cs
old_counted key [] es = none_old es
old_counted key (c ∷ cs) es = by (list_any (key c) es) refl (old_counted key cs)
  where
    by : (t : Bool) → list_any (key c) es ≡ t → ((us : List Class) → old_count (meetings_by key cs us) ≡ length cs)
        → old_count (meetings_by key (c ∷ cs) es) ≡ suc (length cs)
    by true any later = rw any (met_count (key c) c (meetings_by key cs) (length cs) later es any)
    by false none later = rw none (ap suc (later es))

-- the old classes of meetings, and the new ones
abbrev pub old_ones : List Meeting → List Class
old_ones [] = []
old_ones (goes c ∷ ms) = c ∷ old_ones ms
old_ones (comes e ∷ ms) = old_ones ms
old_ones (meets c e ∷ ms) = c ∷ old_ones ms

abbrev pub new_ones : List Meeting → List Class
new_ones [] = []
new_ones (goes c ∷ ms) = new_ones ms
new_ones (comes e ∷ ms) = e ∷ new_ones ms
new_ones (meets c e ∷ ms) = e ∷ new_ones ms

only_new : (es : List Class) → (old_ones (map comes es) ≡ []) × (new_ones (map comes es) ≡ es)
only_new [] = (refl, refl)
only_new (e ∷ es) = ((only_new es).0, ap (λ us. e ∷ us) (only_new es).1)

met_ones : (test : Class → Bool) (c : Class) (cs : List Class) (on : List Class → List Meeting) → ((es : List Class) → (old_ones (on es) ≡ cs) × (new_ones (on es) ≡ es))
    → (es : List Class) → list_any test es ≡ true → (old_ones (meet test c on es) ≡ c ∷ cs) × (new_ones (meet test c on es) ≡ es)
met_ones test c cs on h [] any = absurd cc
met_ones test c cs on h (e ∷ es) any = by (test e) refl (met_ones test c cs on h es)
  where
    by : (t : Bool) → test e ≡ t → (list_any test es ≡ true → (old_ones (meet test c on es) ≡ c ∷ cs) × (new_ones (meet test c on es) ≡ es))
        → (old_ones (meet test c on (e ∷ es)) ≡ c ∷ cs) × (new_ones (meet test c on (e ∷ es)) ≡ e ∷ es)
    by true is later = rw is (ap (λ us. c ∷ us) (h es).0, ap (λ us. e ∷ us) (h es).1)
    by false is later = let more = later (sym (ap (λ u. u || list_any test es) is) ∙ any) in rw is (more.0, ap (λ us. e ∷ us) more.1)

both_ones : (key : Class → Class → Bool) (cs es : List Class) → (old_ones (meetings_by key cs es) ≡ cs) × (new_ones (meetings_by key cs es) ≡ es)
both_ones key [] es = only_new es
both_ones key (c ∷ cs) es = by (list_any (key c) es) refl (both_ones key cs)
  where
    by : (t : Bool) → list_any (key c) es ≡ t → ((us : List Class) → (old_ones (meetings_by key cs us) ≡ cs) × (new_ones (meetings_by key cs us) ≡ us))
        → (old_ones (meetings_by key (c ∷ cs) es) ≡ c ∷ cs) × (new_ones (meetings_by key (c ∷ cs) es) ≡ es)
    by true any later = rw any (met_ones (key c) c cs (meetings_by key cs) later es any)
    by false none later = rw none (ap (λ us. c ∷ us) (later es).0, (later es).1)

-- they are all classes of both lists
pub all_old : (key : Class → Class → Bool) (cs es : List Class) → old_ones (meetings_by key cs es) ≡ cs
all_old key cs es = (both_ones key cs es).0

pub all_new : (key : Class → Class → Bool) (cs es : List Class) → new_ones (meetings_by key cs es) ≡ es
all_new key cs es = (both_ones key cs es).1

-- something holds of each two classes that meet
abbrev pub AllMeet : (Class → Class → Type 0) → List Meeting → Type 0
AllMeet P [] = Unit {0}
AllMeet P (goes c ∷ ms) = AllMeet P ms
AllMeet P (comes e ∷ ms) = AllMeet P ms
AllMeet P (meets c e ∷ ms) = P c e × AllMeet P ms

none_meets : (P : Class → Class → Type 0) (es : List Class) → AllMeet P (map comes es)
none_meets P [] = tt
none_meets P (e ∷ es) = none_meets P es

module _ (key : Class → Class → Bool) (P Q : Class → Type 0) where
  abbrev pub Here : Class → Class → Type 0
  Here c e = P c × (Q e × (key c e ≡ true))

  met_all : (c : Class) (cs : List Class) → P c → ((us : List Class) → Each Q us → AllMeet Here (meetings_by key cs us))
      → (es : List Class) → Each Q es → list_any (key c) es ≡ true → AllMeet Here (meet (key c) c (meetings_by key cs) es)
  met_all c cs p after [] e any = absurd cc
  met_all c cs p after (f ∷ fs) e any = by (key c f) refl (met_all c cs p after fs e.1)
    where
      by : (t : Bool) → key c f ≡ t → (list_any (key c) fs ≡ true → AllMeet Here (meet (key c) c (meetings_by key cs) fs)) → AllMeet Here (meet (key c) c (meetings_by key cs) (f ∷ fs))
      by true is later = rw is ((p, (e.0, is)), after fs e.1)
      by false is later = rw is (later (sym (ap (λ u. u || list_any (key c) fs) is) ∙ any))

  -- classes that meet are of both lists and have one key
  pub all_meet : (cs es : List Class) → Each P cs → Each Q es → AllMeet Here (meetings_by key cs es)
  all_meet [] es p q = none_meets Here es
  all_meet (c ∷ cs) es p q = by (list_any (key c) es) refl (λ us e. all_meet cs us p.1 e)
    where
      by : (t : Bool) → list_any (key c) es ≡ t → ((us : List Class) → Each Q us → AllMeet Here (meetings_by key cs us)) → AllMeet Here (meetings_by key (c ∷ cs) es)
      by true any later = rw any (met_all c cs p.0 later es q any)
      by false none later = rw none (later es q)

keep_more : (k : ℕ) (ps : List Piece) → identity k ++ kept ∷ ps ≡ identity (suc k) ++ ps
keep_more zero ps = refl
keep_more (suc k) ps = ap (λ qs. kept ∷ qs) (keep_more k ps)

-- What is told of a slot is what is told of the meeting, and a meeting that isn't touched is kept.
module _ (d : Delta) (piece : Slot → Piece) (piece_at : Meeting → Piece) where
  abbrev pub Agree : ℕ → ℕ → List Meeting → Type 0
  Agree r s [] = Unit {0}
  Agree r s (goes c ∷ ms) = (piece (record { old = old_class d r c; new = None }) ≡ piece_at (goes c)) × Agree (suc r) s ms
  Agree r s (comes e ∷ ms) = (piece (record { old = None; new = new_class s e }) ≡ piece_at (comes e)) × Agree r (suc s) ms
  Agree r s (meets c e ∷ ms) =
      ((keeps_members (pairs d) c e ≡ true → piece_at (meets c e) ≡ kept)
      × (keeps_members (pairs d) c e ≡ false → piece (record { old = old_class d r c; new = new_class s e }) ≡ piece_at (meets c e)))
      × Agree (suc r) (suc s) ms

  -- the next slot, after as many kept classes as stand before it
  next_told : (n x y k : ℕ) (a b : ℕ) (q p : Piece) (ts : List Slot) (ps : List Piece) → q ≡ p → told_by piece n a b ts ≡ ps
      → identity k ++ q ∷ told_by piece n a b ts ≡ identity k ++ p ∷ ps
  next_told n x y k a b q p ts ps e f = cc

  none_kept : (k : ℕ) (ps : List Piece) → k ≡ 0 → identity k ++ ps ≡ ps
  none_kept k ps e = rw e refl

  pub told_slots : (n x y r s : ℕ) (ms : List Meeting) → x ≤ r → y ≤ s → r - x ≡ s - y → n ≡ r + old_count ms → Agree r s ms
      → told_by piece n x y (slots_from d r s ms) ≡ identity (r - x) ++ map piece_at ms
  told_slots n x y r s [] low low_too same all agree =
      let e : n - x ≡ r - x = omega (arith, all) in
      ap identity e ∙ end (r - x)
    where
      end : (k : ℕ) → identity k ≡ identity k ++ []
      end zero = refl
      end (suc k) = ap (λ ps. kept ∷ ps) (end k)
  told_slots n x y r s (goes c ∷ ms) low low_too same all agree =
      let at : x + (r - x) ≡ r = omega (arith, low) in
      let at_too : y + (r - x) ≡ s = omega (arith, low_too, same) in
      let zero_left : suc r - suc r ≡ 0 = omega arith in
      ap (λ k. identity (r - x) ++ piece (record { old = old_class d r c; new = None }) ∷ told_by piece n (suc k) (y + (r - x)) (slots_from d (suc r) s ms)) at
      ∙ (ap (λ k. identity (r - x) ++ piece (record { old = old_class d r c; new = None }) ∷ told_by piece n (suc r) k (slots_from d (suc r) s ms)) at_too
      ∙ next_told n x y (r - x) (suc r) s (piece (record { old = old_class d r c; new = None })) (piece_at (goes c)) (slots_from d (suc r) s ms) (map piece_at ms) agree.0
      (told_slots n (suc r) s (suc r) s ms (omega arith) (omega arith) (omega arith) (omega (arith, all)) agree.1 ∙ none_kept (suc r - suc r) (map piece_at ms) zero_left))
  told_slots n x y r s (comes e ∷ ms) low low_too same all agree =
      let at : x + (s - y) ≡ r = omega (arith, low, same) in
      let at_too : y + (s - y) ≡ s = omega (arith, low_too) in
      let zero_left : r - r ≡ 0 = omega arith in
      ap (λ k. identity (s - y) ++ piece (record { old = None; new = new_class s e }) ∷ told_by piece n k (suc (y + (s - y))) (slots_from d r (suc s) ms)) at
      ∙ (ap (λ k. identity (s - y) ++ piece (record { old = None; new = new_class s e }) ∷ told_by piece n r (suc k) (slots_from d r (suc s) ms)) at_too
      ∙ (next_told n x y (s - y) r (suc s) (piece (record { old = None; new = new_class s e })) (piece_at (comes e)) (slots_from d r (suc s) ms) (map piece_at ms) agree.0
      (told_slots n r (suc s) r (suc s) ms (omega arith) (omega arith) (omega arith) all agree.1 ∙ none_kept (r - r) (map piece_at ms) zero_left)
      ∙ ap (λ k. identity k ++ piece_at (comes e) ∷ map piece_at ms) (sym same)))
  told_slots n x y r s (meets c e ∷ ms) low low_too same all agree =
      by (keeps_members (pairs d) c e) refl
      (told_slots n x y (suc r) (suc s) ms (omega (arith, low)) (omega (arith, low_too)) (omega (arith, same, low, low_too)) (omega (arith, all)) agree.1)
      (told_slots n (suc r) (suc s) (suc r) (suc s) ms (omega arith) (omega arith) (omega arith) (omega (arith, all)) agree.1)
    where
      by : (t : Bool) → keeps_members (pairs d) c e ≡ t
          → told_by piece n x y (slots_from d (suc r) (suc s) ms) ≡ identity (suc r - x) ++ map piece_at ms
          → told_by piece n (suc r) (suc s) (slots_from d (suc r) (suc s) ms) ≡ identity (suc r - suc r) ++ map piece_at ms
          → told_by piece n x y (slots_from d r s (meets c e ∷ ms)) ≡ identity (r - x) ++ piece_at (meets c e) ∷ map piece_at ms
      by true is kept_on next =
          let more : suc r - x ≡ suc (r - x) = omega (arith, low) in
          let first : told_by piece n x y (slots_from d r s (meets c e ∷ ms)) ≡ told_by piece n x y (slots_from d (suc r) (suc s) ms) = rw is refl in
          first ∙ (kept_on ∙ (ap (λ k. identity k ++ map piece_at ms) more
          ∙ (sym (keep_more (r - x) (map piece_at ms)) ∙ ap (λ p. identity (r - x) ++ p ∷ map piece_at ms) (sym (agree.0.0 is)))))
      by false is kept_on next =
          let at : x + (r - x) ≡ r = omega (arith, low) in
          let at_too : y + (r - x) ≡ s = omega (arith, low_too, same) in
          let zero_left : suc r - suc r ≡ 0 = omega arith in
          let t : Slot = record { old = old_class d r c; new = new_class s e } in
          let first : told_by piece n x y (slots_from d r s (meets c e ∷ ms)) ≡ told_by piece n x y (t ∷ slots_from d (suc r) (suc s) ms) = rw is refl in
          first ∙ (ap (λ k. identity (r - x) ++ piece t ∷ told_by piece n (suc k) (suc (y + (r - x))) (slots_from d (suc r) (suc s) ms)) at
          ∙ (ap (λ k. identity (r - x) ++ piece t ∷ told_by piece n (suc r) (suc k) (slots_from d (suc r) (suc s) ms)) at_too
          ∙ next_told n x y (r - x) (suc r) (suc s) (piece t) (piece_at (meets c e)) (slots_from d (suc r) (suc s) ms) (map piece_at ms) (agree.0.1 is)
          (next ∙ none_kept (suc r - suc r) (map piece_at ms) zero_left)))
