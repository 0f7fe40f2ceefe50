-- A delta that pairs classes of equal key is told by how the classes meet, one piece a meeting.
use Rattle.std.proofs.Common.{◌≡◌, ◌∙◌, ℕ, suc, ◌-◌, ◌≤◌, ◌||◌, Bool, true, false, List, [], ◌∷◌, ◌++◌, map, take, drop, refl, ap, sym, arith}
use Rattle.std.specs.Prelude.{Option, Some, None, not, if◌then◌else◌}
use Rattle.std.specs.List.{list_any, AllByRecursion as Each}
use Rattle.std.proofs.lemmas.Bool.{le-leb}
use Rattle.spec_value.specs.Tree.{Tree}
use Rattle.spec_lists.specs.Piece.{Piece, kept, updated, deleted, inserted}
use Rattle.spec_lists.specs.Pairs.{Pair}
use Rattle.spec_lists.specs.Making.{is_same, piece_of, Rest, next_piece, told_to, rest_after, pieces_from, pieces_by}
use Rattle.spec_lists.proofs.Plains.{same_itself}
use Rattle.spec_views.specs.Arrangement.{Comparison}
use Rattle.spec_views.specs.Classes.{Class, classes, pair_of_class, pairs_of_classes, class_pairs}
use Rattle.spec_classes.specs.Meetings.{Meeting, goes, comes, meets, of_key, meet, meetings_by, meetings}

abbrev rest : ℕ → ℕ → List Tree → List Tree → Rest
rest r s us vs = record { old_position = r; new_position = s; old = us; new = vs }

-- what is told of an old element before the first pair
one_gone : (r s : ℕ) (x : Tree) (us vs : List Tree) (ps : List Pair) → Each (λ p. suc r ≤ p.old) ps
    → pieces_from (rest r s (x ∷ us) vs) ps ≡ deleted x ∷ pieces_from (rest (suc r) s us vs) ps
one_gone r s x us vs [] low = refl
one_gone r s x us vs (p ∷ ps) low = by (next_piece (rest (suc r) s us vs) p) refl (one_gone r s x us vs ps low.1)
  where
    far : p.old - r ≡ suc (p.old - suc r)
    far = omega (arith, low.0)

    same : next_piece (rest r s (x ∷ us) vs) p ≡ next_piece (rest (suc r) s us vs) p
    same = rw (le-leb r p.old (omega (arith, low.0)), le-leb (suc r) p.old low.0, far) refl

    by : (o : Option Piece) → next_piece (rest (suc r) s us vs) p ≡ o
        → pieces_from (rest r s (x ∷ us) vs) ps ≡ deleted x ∷ pieces_from (rest (suc r) s us vs) ps
        → pieces_from (rest r s (x ∷ us) vs) (p ∷ ps) ≡ deleted x ∷ pieces_from (rest (suc r) s us vs) (p ∷ ps)
    by None e more =
        ap (λ o. told_to (rest r s (x ∷ us) vs) p o ++ pieces_from (rest_after (rest r s (x ∷ us) vs) p o) ps) (same ∙ e)
        ∙ (more
        ∙ sym (ap (λ o. deleted x ∷ (told_to (rest (suc r) s us vs) p o ++ pieces_from (rest_after (rest (suc r) s us vs) p o) ps)) e))
    by (Some q) e more =
        ap (λ o. told_to (rest r s (x ∷ us) vs) p o ++ pieces_from (rest_after (rest r s (x ∷ us) vs) p o) ps) (same ∙ e)
        ∙ (ap (λ k. ((map deleted (take k (x ∷ us)) ++ map inserted (take (p.new - s) vs)) ++ q ∷ []) ++ pieces_from (rest (suc p.old) (suc p.new) (drop (suc k) (x ∷ us)) (drop (suc (p.new - s)) vs)) ps) far
        ∙ sym (ap (λ o. deleted x ∷ (told_to (rest (suc r) s us vs) p o ++ pieces_from (rest_after (rest (suc r) s us vs) p o) ps)) e))

-- the piece of a pair is the same without a new element before it
next_past : (r s : ℕ) (us : List Tree) (y : Tree) (vs : List Tree) (p : Pair) → suc s ≤ p.new
    → next_piece (rest r s us (y ∷ vs)) p ≡ next_piece (rest r (suc s) us vs) p
next_past r s us y vs p low =
    let far : p.new - s ≡ suc (p.new - suc s) = omega (arith, low) in
    rw (le-leb s p.new (omega (arith, low)), le-leb (suc s) p.new low, far) refl

-- what is told of a new element before the first pair, whose old element is next
one_come : (r s : ℕ) (y : Tree) (us vs : List Tree) (p : Pair) (ps : List Pair) (q : Piece) → p.old ≡ r → suc s ≤ p.new
    → next_piece (rest r (suc s) us vs) p ≡ Some q
    → pieces_from (rest r s us (y ∷ vs)) (p ∷ ps) ≡ inserted y ∷ pieces_from (rest r (suc s) us vs) (p ∷ ps)
one_come r s y us vs p ps q at low found =
    ap (λ o. told_to (rest r s us (y ∷ vs)) p o ++ pieces_from (rest_after (rest r s us (y ∷ vs)) p o) ps) (next_past r s us y vs p low ∙ found)
    ∙ (ap (λ k. ((map deleted (take k us) ++ map inserted (take (p.new - s) (y ∷ vs))) ++ q ∷ []) ++ pieces_from (rest (suc p.old) (suc p.new) (drop (suc (p.old - r)) us) (drop (suc (p.new - s)) (y ∷ vs))) ps) none
    ∙ (ap (λ k. (map inserted (take k (y ∷ vs)) ++ q ∷ []) ++ pieces_from (rest (suc p.old) (suc p.new) (drop (suc (p.old - r)) us) (drop (suc k) (y ∷ vs))) ps) far
    ∙ (sym (ap (λ k. inserted y ∷ (((map deleted (take k us) ++ map inserted (take (p.new - suc s) vs)) ++ q ∷ []) ++ pieces_from (rest (suc p.old) (suc p.new) (drop (suc (p.old - r)) us) (drop (suc (p.new - suc s)) vs)) ps)) none)
    ∙ sym (ap (λ o. inserted y ∷ (told_to (rest r (suc s) us vs) p o ++ pieces_from (rest_after (rest r (suc s) us vs) p o) ps)) found))))
  where
    far : p.new - s ≡ suc (p.new - suc s)
    far = omega (arith, low)

    none : p.old - r ≡ 0
    none = omega (arith, at)

-- what is told of a pair that is next
one_pair : (r s : ℕ) (x y : Tree) (us vs : List Tree) (p : Pair) (ps : List Pair) (q : Piece) → p.old ≡ r → p.new ≡ s
    → next_piece (rest r s (x ∷ us) (y ∷ vs)) p ≡ Some q
    → pieces_from (rest r s (x ∷ us) (y ∷ vs)) (p ∷ ps) ≡ q ∷ pieces_from (rest (suc r) (suc s) us vs) ps
one_pair r s x y us vs p ps q at at_too found =
    ap (λ o. told_to (rest r s (x ∷ us) (y ∷ vs)) p o ++ pieces_from (rest_after (rest r s (x ∷ us) (y ∷ vs)) p o) ps) found
    ∙ (ap (λ k. ((map deleted (take k (x ∷ us)) ++ map inserted (take (p.new - s) (y ∷ vs))) ++ q ∷ []) ++ pieces_from (rest (suc p.old) (suc p.new) (drop (suc k) (x ∷ us)) (drop (suc (p.new - s)) (y ∷ vs))) ps) none
    ∙ (ap (λ k. ((map inserted (take k (y ∷ vs))) ++ q ∷ []) ++ pieces_from (rest (suc p.old) (suc p.new) us (drop (suc k) (y ∷ vs))) ps) none_too
    ∙ (ap (λ k. q ∷ pieces_from (rest (suc k) (suc p.new) us vs) ps) at
    ∙ ap (λ k. q ∷ pieces_from (rest (suc r) (suc k) us vs) ps) at_too)))
  where
    none : p.old - r ≡ 0
    none = omega (arith, at)

    none_too : p.new - s ≡ 0
    none_too = omega (arith, at_too)

module _ (compare : Comparison) (xs ys : List Tree) (is_plain : Class → Class → Bool) (old_value new_value : Class → Tree) where
  abbrev key : Class → Class → Bool
  key = of_key compare xs ys

  -- what is told of a meeting
  abbrev pub piece_at : Meeting → Piece
  piece_at (goes c) = deleted (old_value c)
  piece_at (comes e) = inserted (new_value e)
  piece_at (meets c e) = if is_plain c e then kept else updated (old_value c) (new_value e)

  -- the pairs of classes, where the first of these new ones is the s-th
  abbrev pairs_at : ℕ → ℕ → List Class → List Class → List Pair
  pairs_at r s [] es = []
  pairs_at r s (c ∷ cs) es = pair_of_class compare xs ys is_plain r c s es ++ pairs_at (suc r) s cs es

  pairs_are : (r : ℕ) (cs es : List Class) → pairs_of_classes compare xs ys is_plain r cs es ≡ pairs_at r 0 cs es
  pairs_are r [] es = refl
  pairs_are r (c ∷ cs) es = ap (λ ps. pair_of_class compare xs ys is_plain r c 0 es ++ ps) (pairs_are (suc r) cs es)

  -- a class that meets c is no other's before the one that c meets
  abbrev pub IsClear : Class → List Class → List Class → Type 0
  IsClear c cs [] = Unit {0}
  IsClear c cs (e ∷ es) = (list_any (key c) (e ∷ es) ≡ true → Each (λ b. key b e ≡ false) cs) × IsClear c cs es

  -- those that meet plainly show the same
  abbrev pub ShowsSame : Class → List Class → Type 0
  ShowsSame c es = Each (λ e. key c e ≡ true → is_plain c e ≡ true → old_value c ≡ new_value e) es

  -- the classes can meet
  abbrev pub CanMeet : List Class → List Class → Type 0
  CanMeet [] es = Unit {0}
  CanMeet (c ∷ cs) es = (IsClear c cs es × ShowsSame c es) × CanMeet cs es

  can_later : (cs : List Class) (e : Class) (es : List Class) → CanMeet cs (e ∷ es) → CanMeet cs es
  can_later [] e es h = tt
  can_later (c ∷ cs) e es h = ((h.0.0.1, h.0.1.1), can_later cs e es h.1)

  -- a new class that none of these has the key of is none of their pairs
  pairs_past : (r s : ℕ) (cs : List Class) (e : Class) (es : List Class) → Each (λ b. key b e ≡ false) cs
      → pairs_at r s cs (e ∷ es) ≡ pairs_at r (suc s) cs es
  pairs_past r s [] e es h = refl
  pairs_past r s (c ∷ cs) e es h = rw h.0 (ap (λ ps. pair_of_class compare xs ys is_plain r c (suc s) es ++ ps) (pairs_past (suc r) s cs e es h.1))

  none_found : (r s : ℕ) (c : Class) (es : List Class) → list_any (key c) es ≡ false → pair_of_class compare xs ys is_plain r c s es ≡ []
  none_found r s c [] h = refl
  none_found r s c (e ∷ es) h = by (key c e) refl h (none_found r (suc s) c es)
    where
      by : (t : Bool) → key c e ≡ t → (key c e || list_any (key c) es) ≡ false
          → (list_any (key c) es ≡ false → pair_of_class compare xs ys is_plain r c (suc s) es ≡ [])
          → pair_of_class compare xs ys is_plain r c s (e ∷ es) ≡ []
      by true is none more = absurd (let all : true ≡ false = sym (ap (λ u. u || list_any (key c) es) is) ∙ none in absurd cc)
      by false is none more = rw is (more (sym (ap (λ u. u || list_any (key c) es) is) ∙ none))

  -- the pair that a class is of
  record Finds (r s : ℕ) (c : Class) (es : List Class) (us : List Tree) : Type 0 where
    pair : Pair
    piece : Piece
    are : pair_of_class compare xs ys is_plain r c s es ≡ pair ∷ []
    old_at : pair.old ≡ r
    new_from : s ≤ pair.new
    next : next_piece (rest r s (old_value c ∷ us) (map new_value es)) pair ≡ Some piece

  piece_here : (r s : ℕ) (c e : Class) (us vs : List Tree) → key c e ≡ true → (is_plain c e ≡ true → old_value c ≡ new_value e)
      → next_piece (rest r s (old_value c ∷ us) (new_value e ∷ vs)) (record { old = r; new = s; updated = not (is_plain c e) }) ≡ Some (piece_at (meets c e))
  piece_here r s c e us vs is same =
      let none : r - r ≡ 0 = omega arith in
      let none_too : s - s ≡ 0 = omega arith in
      rw (le-leb r r (omega arith), le-leb s s (omega arith), none, none_too) (by (is_plain c e) same)
    where
      by : (t : Bool) → (t ≡ true → old_value c ≡ new_value e)
          → piece_of (not t) (Some (old_value c)) (Some (new_value e)) ≡ Some (if t then kept else updated (old_value c) (new_value e))
      by true h = let e_is : is_same (old_value c) (new_value e) ≡ true = ap (is_same (old_value c)) (sym (h refl)) ∙ same_itself (old_value c) in rw e_is refl
      by false h = refl

  found : (r s : ℕ) (c : Class) (es : List Class) (us : List Tree) → list_any (key c) es ≡ true → ShowsSame c es → Finds r s c es us
  found r s c [] us any same = absurd cc
  found r s c (e ∷ es) us any same = by (key c e) refl (λ later. found r (suc s) c es us later same.1)
    where
      by : (t : Bool) → key c e ≡ t → (list_any (key c) es ≡ true → Finds r (suc s) c es us) → Finds r s c (e ∷ es) us
      by true is more = record {
        pair = record { old = r; new = s; updated = not (is_plain c e) };
        piece = piece_at (meets c e);
        are = rw is refl;
        old_at = refl;
        new_from = omega arith;
        next = piece_here r s c e us (map new_value es) is (same.0 is);
      }
      by false is more =
          let later = more (sym (ap (λ u. u || list_any (key c) es) is) ∙ any) in
          record {
            pair = later.pair;
            piece = later.piece;
            are = ap (λ t. if t then record { old = r; new = s; updated = not (is_plain c e) } ∷ [] else pair_of_class compare xs ys is_plain r c (suc s) es) is ∙ later.are;
            old_at = later.old_at;
            new_from = omega (arith, later.new_from);
            next = next_past r s (old_value c ∷ us) (new_value e) (map new_value es) later.pair later.new_from ∙ later.next;
          }

  low_one : (m r s : ℕ) (c : Class) (es : List Class) → m ≤ r → Each (λ p. m ≤ p.old) (pair_of_class compare xs ys is_plain r c s es)
  low_one m r s c [] low = tt
  low_one m r s c (e ∷ es) low = by (key c e) (low_one m r (suc s) c es low)
    where
      by : (t : Bool) → Each (λ p. m ≤ p.old) (pair_of_class compare xs ys is_plain r c (suc s) es) → Each (λ p. m ≤ p.old) (if t then record { old = r; new = s; updated = not (is_plain c e) } ∷ [] else pair_of_class compare xs ys is_plain r c (suc s) es)
      by true more = (low, tt)
      by false more = more

  each_join : (P : Pair → Type 0) (ps qs : List Pair) → Each P ps → Each P qs → Each P (ps ++ qs)
  each_join P [] qs e f = f
  each_join P (p ∷ ps) qs e f = (e.0, each_join P ps qs e.1 f)

  low_all : (m r s : ℕ) (cs es : List Class) → m ≤ r → Each (λ p. m ≤ p.old) (pairs_at r s cs es)
  low_all m r s [] es low = tt
  low_all m r s (c ∷ cs) es low =
      each_join (λ p. m ≤ p.old) (pair_of_class compare xs ys is_plain r c s es) (pairs_at (suc r) s cs es) (low_one m r s c es low) (low_all m (suc r) s cs es (omega (arith, low)))

  abbrev TellsAll : List Class → Type 0
  TellsAll cs = (r s : ℕ) (es : List Class) → CanMeet cs es
      → pieces_from (rest r s (map old_value cs) (map new_value es)) (pairs_at r s cs es) ≡ map piece_at (meetings_by key cs es)

  none_meet : (es : List Class) → map inserted (map new_value es) ≡ map piece_at (map comes es)
  none_meet [] = refl
  none_meet (e ∷ es) = ap (λ ps. inserted (new_value e) ∷ ps) (none_meet es)

  -- up to the class that one meets, and after it
  met : (cs : List Class) (c : Class) → TellsAll cs → (r s : ℕ) (es : List Class) → CanMeet (c ∷ cs) es → list_any (key c) es ≡ true
      → pieces_from (rest r s (map old_value (c ∷ cs)) (map new_value es)) (pairs_at r s (c ∷ cs) es) ≡ map piece_at (meet (key c) c (meetings_by key cs) es)
  met cs c after r s [] can any = absurd cc
  met cs c after r s (e ∷ es) can any = by (key c e) refl (met cs c after r (suc s) es (can_later (c ∷ cs) e es can))
    where
      others : Each (λ b. key b e ≡ false) cs
      others = can.0.0.0 any

      by : (t : Bool) → key c e ≡ t
          → (list_any (key c) es ≡ true → pieces_from (rest r (suc s) (map old_value (c ∷ cs)) (map new_value es)) (pairs_at r (suc s) (c ∷ cs) es) ≡ map piece_at (meet (key c) c (meetings_by key cs) es))
          → pieces_from (rest r s (map old_value (c ∷ cs)) (map new_value (e ∷ es))) (pairs_at r s (c ∷ cs) (e ∷ es)) ≡ map piece_at (meet (key c) c (meetings_by key cs) (e ∷ es))
      by true is more =
          let here : pairs_at r s (c ∷ cs) (e ∷ es) ≡ record { old = r; new = s; updated = not (is_plain c e) } ∷ pairs_at (suc r) (suc s) cs es =
          rw is (ap (λ ps. record { old = r; new = s; updated = not (is_plain c e) } ∷ ps) (pairs_past (suc r) s cs e es others)) in
          let told : map piece_at (meet (key c) c (meetings_by key cs) (e ∷ es)) ≡ piece_at (meets c e) ∷ map piece_at (meetings_by key cs es) = rw is refl in
          ap (pieces_from (rest r s (map old_value (c ∷ cs)) (map new_value (e ∷ es)))) here
          ∙ (one_pair r s (old_value c) (new_value e) (map old_value cs) (map new_value es) (record { old = r; new = s; updated = not (is_plain c e) }) (pairs_at (suc r) (suc s) cs es) (piece_at (meets c e)) refl refl (piece_here r s c e (map old_value cs) (map new_value es) is (can.0.1.0 is))
          ∙ (ap (λ ps. piece_at (meets c e) ∷ ps) (after (suc r) (suc s) es (can_later cs e es can.1)) ∙ sym told))
      by false is more =
          let any_later : list_any (key c) es ≡ true = sym (ap (λ u. u || list_any (key c) es) is) ∙ any in
          let f = found r (suc s) c es (map old_value cs) any_later can.0.1.1 in
          let here : pairs_at r s (c ∷ cs) (e ∷ es) ≡ f.pair ∷ pairs_at (suc r) (suc s) cs es =
          pairs_past r s (c ∷ cs) e es (is, others) ∙ ap (λ ps. ps ++ pairs_at (suc r) (suc s) cs es) f.are in
          let later : pairs_at r (suc s) (c ∷ cs) es ≡ f.pair ∷ pairs_at (suc r) (suc s) cs es = ap (λ ps. ps ++ pairs_at (suc r) (suc s) cs es) f.are in
          let told : map piece_at (meet (key c) c (meetings_by key cs) (e ∷ es)) ≡ inserted (new_value e) ∷ map piece_at (meet (key c) c (meetings_by key cs) es) = rw is refl in
          ap (pieces_from (rest r s (map old_value (c ∷ cs)) (map new_value (e ∷ es)))) here
          ∙ (one_come r s (new_value e) (map old_value (c ∷ cs)) (map new_value es) f.pair (pairs_at (suc r) (suc s) cs es) f.piece f.old_at f.new_from f.next
          ∙ (ap (λ ps. inserted (new_value e) ∷ pieces_from (rest r (suc s) (map old_value (c ∷ cs)) (map new_value es)) ps) (sym later)
          ∙ (ap (λ ps. inserted (new_value e) ∷ ps) (more any_later) ∙ sym told)))

  all_told : (cs : List Class) → TellsAll cs
  all_told [] r s es can = none_meet es
  all_told (c ∷ cs) r s es can = by (list_any (key c) es) refl (all_told cs)
    where
      by : (t : Bool) → list_any (key c) es ≡ t → TellsAll cs
          → pieces_from (rest r s (map old_value (c ∷ cs)) (map new_value es)) (pairs_at r s (c ∷ cs) es) ≡ map piece_at (meetings_by key (c ∷ cs) es)
      by true any after =
          let told : map piece_at (meetings_by key (c ∷ cs) es) ≡ map piece_at (meet (key c) c (meetings_by key cs) es) = rw any refl in
          met cs c after r s es can any ∙ sym told
      by false none after =
          let told : map piece_at (meetings_by key (c ∷ cs) es) ≡ deleted (old_value c) ∷ map piece_at (meetings_by key cs es) = rw none refl in
          ap (λ ps. pieces_from (rest r s (map old_value (c ∷ cs)) (map new_value es)) (ps ++ pairs_at (suc r) s cs es)) (none_found r s c es none)
          ∙ (one_gone r s (old_value c) (map old_value cs) (map new_value es) (pairs_at (suc r) s cs es) (low_all (suc r) (suc r) s cs es (omega arith))
          ∙ (ap (λ ps. deleted (old_value c) ∷ ps) (after (suc r) s es can.1) ∙ sym told))

  -- what is told of two lists of which classes of equal key are paired
  pub told_by_meetings : CanMeet (classes compare xs) (classes compare ys)
      → pieces_by (map old_value (classes compare xs)) (map new_value (classes compare ys)) (class_pairs compare xs ys is_plain)
      ≡ map piece_at (meetings compare xs ys)
  told_by_meetings can =
      ap (pieces_by (map old_value (classes compare xs)) (map new_value (classes compare ys))) (pairs_are 0 (classes compare xs) (classes compare ys))
      ∙ all_told (classes compare xs) 0 0 (classes compare ys) can
