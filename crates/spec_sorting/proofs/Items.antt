-- The delta between two lists that has given pairs, as the items of both lists.
use Rattle.std.proofs.Common.{◌≡◌, ◌≢◌, ◌∙◌, ℕ, zero, suc, ◌+◌, ◌-◌, ◌<◌, ◌≤◌, ◌==◌, Bool, true, false, List, [], ◌∷◌, ◌++◌, length, map, take, drop, refl, ap, sym, subst, arith, inl, inr}
use Rattle.std.specs.Prelude.{Some, None, slice_get, if◌then◌else◌}
use Rattle.std.specs.List.{AllByRecursion as Each}
use Rattle.std.proofs.lemmas.Bool.{le-leb, eq-eqb, ne_eqb, cases_eq}
use Rattle.spec_value.specs.Tree.{Tree}
use Rattle.spec_lists.specs.Piece.{Piece, kept, updated, deleted, inserted}
use Rattle.spec_lists.specs.Pairs.{Pair, IsIncreasing}
use Rattle.spec_lists.specs.Sides.{Item, changed, lone, inserted_first, after_pair, paired_value, woven}
use Rattle.spec_lists.specs.Delta.{Delta}
use Rattle.spec_lists.specs.Making.{is_same, piece_of, Rest, next_piece, told_to, rest_after, pieces_from, pieces_by}
use Rattle.spec_lists.proofs.Plains.{same_itself}
use Rattle.spec_sorting.specs.Moves.{IsRising}
use Rattle.spec_sorting.specs.Merged.{plain_one, pair_kinds}
use Rattle.spec_sorting.proofs.Partners.{each_weaker, each_both}

-- a pair seen from the other side
abbrev pub swapped : Pair → Pair
swapped p = record { old = p.new; new = p.old; updated = p.updated }

abbrev pub pair_item : Bool → Tree → Item
pair_item true x = changed 0 x
pair_item false x = plain_one

-- the items of the elements of a list from place i on, where these pairs are left
abbrev pub items : ℕ → List Tree → List Pair → List Item
items i [] ps = []
items i (x ∷ xs) [] = lone x ∷ items (suc i) xs []
items i (x ∷ xs) (p ∷ ps) = if p.old == i then pair_item p.updated x ∷ items (suc i) xs ps else lone x ∷ items (suc i) xs (p ∷ ps)

items_none : (i : ℕ) (xs : List Tree) → items i xs [] ≡ map lone xs
items_none i [] = refl
items_none i (x ∷ xs) = ap (λ us. lone x ∷ us) (items_none (suc i) xs)

-- the items up to the first pair
items_to : (i k : ℕ) (xs : List Tree) (p : Pair) (ps : List Pair) (x : Tree) → slice_get xs k ≡ Some x → p.old ≡ i + k
    → items i xs (p ∷ ps) ≡ map lone (take k xs) ++ pair_item p.updated x ∷ items (suc p.old) (drop (suc k) xs) ps
items_to i k [] p ps x here is = absurd cc
items_to i zero (y ∷ ys) p ps x here is =
    let at : p.old ≡ i = omega (arith, is) in
    let same : y ≡ x = cc in
    rw (eq-eqb p.old i at) (both y x (suc i) (suc p.old) same (omega (arith, at)))
  where
    both : (a b : Tree) (m n : ℕ) → a ≡ b → m ≡ n → pair_item p.updated a ∷ items m ys ps ≡ pair_item p.updated b ∷ items n ys ps
    both a b m n e f = cc
items_to i (suc k) (y ∷ ys) p ps x here is =
    rw (ne_eqb p.old i (λ e. omega (arith, e, is))) (ap (λ us. lone y ∷ us) (items_to (suc i) k ys p ps x here (omega (arith, is))))

-- what is woven of elements without a pair, up to one of a pair on each side
woven_gone : (us : List Tree) (xs ys : List Item) → woven (map lone us ++ xs) ys ≡ map deleted us ++ woven xs ys
woven_gone [] xs ys = refl
woven_gone (u ∷ us) xs ys = ap (λ ps. deleted u ∷ ps) (woven_gone us xs ys)

inserted_all : (vs : List Tree) → inserted_first (map lone vs) ≡ map inserted vs
inserted_all [] = refl
inserted_all (v ∷ vs) = ap (λ ps. inserted v ∷ ps) (inserted_all vs)

before_item : (t : Bool) (y : Tree) (vs : List Tree) (ys : List Item) → inserted_first (map lone vs ++ pair_item t y ∷ ys) ≡ map inserted vs
before_item true y [] ys = refl
before_item false y [] ys = refl
before_item t y (v ∷ vs) ys = ap (λ ps. inserted v ∷ ps) (before_item t y vs ys)

after_item : (t : Bool) (y : Tree) (vs : List Tree) (ys : List Item) → after_pair (map lone vs ++ pair_item t y ∷ ys) ≡ ys
after_item true y [] ys = refl
after_item false y [] ys = refl
after_item t y (v ∷ vs) ys = after_item t y vs ys

value_of : (x y : Tree) (vs : List Tree) (ys : List Item) → paired_value x (map lone vs ++ changed 0 y ∷ ys) ≡ y
value_of x y [] ys = refl
value_of x y (v ∷ vs) ys = value_of x y vs ys

-- the piece of a pair of two values
abbrev made : Bool → Tree → Tree → Piece
made true x y = updated x y
made false x y = kept

woven_pair : (t : Bool) (x y : Tree) (vs : List Tree) (xs ys : List Item)
    → woven (pair_item t x ∷ xs) (map lone vs ++ pair_item t y ∷ ys) ≡ map inserted vs ++ made t x y ∷ woven xs ys
woven_pair true x y vs xs ys =
    all (inserted_first (map lone vs ++ changed 0 y ∷ ys)) (map inserted vs) (paired_value x (map lone vs ++ changed 0 y ∷ ys)) y (after_pair (map lone vs ++ changed 0 y ∷ ys)) ys
    (before_item true y vs ys) (value_of x y vs ys) (after_item true y vs ys)
  where
    all : (a b : Delta) (v w : Tree) (us zs : List Item) → a ≡ b → v ≡ w → us ≡ zs → a ++ updated x v ∷ woven xs us ≡ b ++ updated x w ∷ woven xs zs
    all a b v w us zs e f g = cc
woven_pair false x y vs xs ys =
    all (inserted_first (map lone vs ++ plain_one ∷ ys)) (map inserted vs) (after_pair (map lone vs ++ plain_one ∷ ys)) ys
    (before_item false y vs ys) (after_item false y vs ys)
  where
    all : (a b : Delta) (us zs : List Item) → a ≡ b → us ≡ zs → a ++ kept ∷ woven xs us ≡ b ++ kept ∷ woven xs zs
    all a b us zs e f = cc

-- the values of a pair; a plain one has one value
pub record Joins (xs ys : List Tree) (p : Pair) : Type 0 where
  pub old : Tree
  pub new : Tree
  pub old_is : slice_get xs p.old ≡ Some old
  pub new_is : slice_get ys p.new ≡ Some new
  pub same : p.updated ≡ false → old ≡ new

get_drop : (xs : List Tree) (i k : ℕ) → slice_get (drop i xs) k ≡ slice_get xs (i + k)
get_drop xs zero k = let e : k ≡ 0 + k = omega arith in ap (slice_get xs) e
get_drop [] (suc i) k = none (suc i + k)
  where
    nothing : List Tree
    nothing = []

    none : (n : ℕ) → None ≡ slice_get nothing n
    none zero = refl
    none (suc n) = refl
get_drop (x ∷ xs) (suc i) k = let e : suc i + k ≡ suc (i + k) = omega arith in rw e (get_drop xs i k)

drop_more : (xs : List Tree) (i k : ℕ) → drop k (drop i xs) ≡ drop (i + k) xs
drop_more xs zero k = let e : k ≡ 0 + k = omega arith in ap (λ n. drop n xs) e
drop_more [] (suc i) zero = let e : suc i ≡ suc i + 0 = omega arith in ap (λ n. drop n []) e
drop_more [] (suc i) (suc k) = let e : suc (i + suc k) ≡ suc i + suc k = omega arith in ap (λ n. drop n []) e
drop_more (x ∷ xs) (suc i) k = let e : suc i + k ≡ suc (i + k) = omega arith in rw e (drop_more xs i k)

module _ (xs ys : List Tree) where
  abbrev left : ℕ → ℕ → Rest
  left i j = record { old_position = i; new_position = j; old = drop i xs; new = drop j ys }

  piece_is : (i j : ℕ) (p : Pair) (j_ : Joins xs ys p) → i ≤ p.old → j ≤ p.new → next_piece (left i j) p ≡ Some (made p.updated j_.old j_.new)
  piece_is i j p h low low_too =
      let old_here : slice_get (drop i xs) (p.old - i) ≡ Some h.old = get_drop xs i (p.old - i) ∙ (ap (slice_get xs) (omega (arith, low)) ∙ h.old_is) in
      let new_here : slice_get (drop j ys) (p.new - j) ≡ Some h.new = get_drop ys j (p.new - j) ∙ (ap (slice_get ys) (omega (arith, low_too)) ∙ h.new_is) in
      rw (le-leb i p.old low, le-leb j p.new low_too, old_here, new_here) (by p.updated h.same)
    where
      by : (t : Bool) → (t ≡ false → h.old ≡ h.new) → piece_of t (Some h.old) (Some h.new) ≡ Some (made t h.old h.new)
      by true same = refl
      by false same = let e : is_same h.old h.new ≡ true = ap (is_same h.old) (sym (same refl)) ∙ same_itself h.old in rw e refl

  -- what is told by pairs that rise on both sides is woven of the items
  told_from : (i j : ℕ) (ps : List Pair) → IsIncreasing i j ps → Each (Joins xs ys) ps
      → pieces_from (left i j) ps ≡ woven (items i (drop i xs) ps) (items j (drop j ys) (map swapped ps))
  told_from i j [] rise joins =
      sym (both _ _ _ _ (items_none i (drop i xs)) (items_none j (drop j ys)) ∙ woven_all (drop i xs) (drop j ys))
    where
      both : (a b c d : List Item) → a ≡ b → c ≡ d → woven a c ≡ woven b d
      both a b c d e f = cc

      woven_all : (us vs : List Tree) → woven (map lone us) (map lone vs) ≡ map deleted us ++ map inserted vs
      woven_all [] vs = inserted_all vs
      woven_all (u ∷ us) vs = ap (λ ps. deleted u ∷ ps) (woven_all us vs)
  told_from i j (p ∷ ps) rise joins =
      let h : Joins xs ys p = joins.0 in
      let k : ℕ = p.old - i in
      let l : ℕ = p.new - j in
      let us : List Tree = take k (drop i xs) in
      let vs : List Tree = take l (drop j ys) in
      let piece : Piece = made p.updated h.old h.new in
      let old_past : i + suc k ≡ suc p.old = omega (arith, rise.0) in
      let new_past : j + suc l ≡ suc p.new = omega (arith, rise.1) in
      let old_at : i + k ≡ p.old = omega (arith, rise.0) in
      let new_at : j + l ≡ p.new = omega (arith, rise.1) in
      let old_here : slice_get (drop i xs) k ≡ Some h.old = get_drop xs i k ∙ (ap (slice_get xs) old_at ∙ h.old_is) in
      let new_here : slice_get (drop j ys) l ≡ Some h.new = get_drop ys j l ∙ (ap (slice_get ys) new_at ∙ h.new_is) in
      let old_rest : drop (suc k) (drop i xs) ≡ drop (suc p.old) xs = drop_more xs i (suc k) ∙ ap (λ n. drop n xs) old_past in
      let new_rest : drop (suc l) (drop j ys) ≡ drop (suc p.new) ys = drop_more ys j (suc l) ∙ ap (λ n. drop n ys) new_past in
      let X : List Item = items (suc p.old) (drop (suc p.old) xs) ps in
      let Y : List Item = items (suc p.new) (drop (suc p.new) ys) (map swapped ps) in
      let old_items : items i (drop i xs) (p ∷ ps) ≡ map lone us ++ pair_item p.updated h.old ∷ X =
      items_to i k (drop i xs) p ps h.old old_here (sym old_at)
      ∙ ap (λ zs. map lone us ++ pair_item p.updated h.old ∷ items (suc p.old) zs ps) old_rest in
      let new_items : items j (drop j ys) (map swapped (p ∷ ps)) ≡ map lone vs ++ pair_item p.updated h.new ∷ Y =
      items_to j l (drop j ys) (swapped p) (map swapped ps) h.new new_here (sym new_at)
      ∙ ap (λ zs. map lone vs ++ pair_item p.updated h.new ∷ items (suc p.new) zs (map swapped ps)) new_rest in
      let made_here : pieces_from (left i j) (p ∷ ps) ≡ ((map deleted us ++ map inserted vs) ++ piece ∷ []) ++ pieces_from (left (suc p.old) (suc p.new)) ps =
      ap (λ o. told_to (left i j) p o ++ pieces_from (rest_after (left i j) p o) ps) (piece_is i j p h rise.0 rise.1)
      ∙ rests _ _ _ _ ((map deleted us ++ map inserted vs) ++ piece ∷ []) old_rest new_rest in
      made_here
      ∙ (ap (λ qs. ((map deleted us ++ map inserted vs) ++ piece ∷ []) ++ qs) (told_from (suc p.old) (suc p.new) ps rise.2 joins.1)
      ∙ (joined (map deleted us) (map inserted vs) piece (woven X Y)
      ∙ sym (both _ _ _ _ old_items new_items ∙ (woven_gone us (pair_item p.updated h.old ∷ X) (map lone vs ++ pair_item p.updated h.new ∷ Y)
      ∙ ap (λ qs. map deleted us ++ qs) (woven_pair p.updated h.old h.new vs X Y)))))
    where
      both : (a b c d : List Item) → a ≡ b → c ≡ d → woven a c ≡ woven b d
      both a b c d e f = cc

      rests : (a b c e : List Tree) (prefix : Delta) → a ≡ b → c ≡ e
          → prefix ++ pieces_from (record { old_position = suc p.old; new_position = suc p.new; old = a; new = c }) ps
          ≡ prefix ++ pieces_from (record { old_position = suc p.old; new_position = suc p.new; old = b; new = e }) ps
      rests a b c e prefix f g = cc

      joined : (us bs : Delta) (c : Piece) (ws : Delta) → ((us ++ bs) ++ c ∷ []) ++ ws ≡ us ++ (bs ++ c ∷ ws)
      joined [] [] c ws = refl
      joined [] (b ∷ bs) c ws = ap (λ qs. b ∷ qs) (joined [] bs c ws)
      joined (a ∷ us) bs c ws = ap (λ qs. a ∷ qs) (joined us bs c ws)

  pub told_by : (ps : List Pair) → IsIncreasing 0 0 ps → Each (Joins xs ys) ps
      → pieces_by xs ys ps ≡ woven (items 0 xs ps) (items 0 ys (map swapped ps))
  told_by ps rise joins = told_from 0 0 ps rise joins

-- of the elements that are of a pair, those of updated ones
pub kinds_are : (i : ℕ) (xs : List Tree) (ps : List Pair) → IsRising i (map (λ p. p.old) ps) → Each (λ p. p.old < i + length xs) ps
    → pair_kinds (items i xs ps) ≡ map (λ p. p.updated) ps
kinds_are i [] [] rise low = refl
kinds_are i [] (p ∷ ps) rise low = absurd (omega (arith, rise.0, low.0))
kinds_are i (x ∷ xs) [] rise low = kinds_are (suc i) xs [] tt tt
kinds_are i (x ∷ xs) (p ∷ ps) rise low = elim (cases_eq p.old i) [
  | inl same ↦
      rw (eq-eqb p.old i same) (kind p.updated (items (suc i) xs ps) (map (λ q. q.updated) ps)
      (kinds_are (suc i) xs ps (subst (λ k. IsRising (suc k) (map (λ q. q.old) ps)) same rise.1) (each_weaker _ _ (λ q less. omega (arith, less)) ps low.1)))
  | inr other ↦
      rw (ne_eqb p.old i other) (kinds_are (suc i) xs (p ∷ ps) (omega (arith, rise.0, other), rise.1) (omega (arith, low.0), each_weaker _ _ (λ q less. omega (arith, less)) ps low.1))
]
  where
    kind : (t : Bool) (us : List Item) (vs : List Bool) → pair_kinds us ≡ vs → pair_kinds (pair_item t x ∷ us) ≡ t ∷ vs
    kind true us vs e = ap (λ ws. true ∷ ws) e
    kind false us vs e = ap (λ ws. false ∷ ws) e

-- How many items there are, and which stands where.
pub length_items : (i : ℕ) (xs : List Tree) (ps : List Pair) → length (items i xs ps) ≡ length xs
length_items i [] ps = refl
length_items i (x ∷ xs) [] = ap suc (length_items (suc i) xs [])
length_items i (x ∷ xs) (p ∷ ps) = by (p.old == i) (length_items (suc i) xs ps) (length_items (suc i) xs (p ∷ ps))
  where
    by : (t : Bool) → length (items (suc i) xs ps) ≡ length xs → length (items (suc i) xs (p ∷ ps)) ≡ length xs
        → length (if t then pair_item p.updated x ∷ items (suc i) xs ps else lone x ∷ items (suc i) xs (p ∷ ps)) ≡ suc (length xs)
    by true e f = ap suc e
    by false e f = ap suc f

-- an element of no pair
pub alone_at : (i k : ℕ) (xs : List Tree) (ps : List Pair) (x : Tree) → slice_get xs k ≡ Some x → Each (λ p. p.old ≢ i + k) ps
    → slice_get (items i xs ps) k ≡ Some (lone x)
alone_at i k [] ps x here apart = absurd cc
alone_at i zero (y ∷ ys) [] x here apart = let same : y ≡ x = cc in ap (λ v. Some (lone v)) same
alone_at i (suc k) (y ∷ ys) [] x here apart = alone_at (suc i) k ys [] x here tt
alone_at i zero (y ∷ ys) (p ∷ ps) x here apart =
    let same : y ≡ x = cc in
    let at : i ≡ i + 0 = omega arith in
    rw (ne_eqb p.old i (λ e. apart.0 (e ∙ at))) (ap (λ v. Some (lone v)) same)
alone_at i (suc k) (y ∷ ys) (p ∷ ps) x here apart =
    let at : suc i + k ≡ i + suc k = omega arith in
    let next : Each (λ q. q.old ≢ suc i + k) (p ∷ ps) = (λ e. apart.0 (e ∙ at), each_weaker _ _ (λ q ne e. ne (e ∙ at)) ps apart.1) in
    elim (cases_eq p.old i) [
      | inl same ↦ rw (eq-eqb p.old i same) (alone_at (suc i) k ys ps x here next.1)
      | inr other ↦ rw (ne_eqb p.old i other) (alone_at (suc i) k ys (p ∷ ps) x here next)
    ]

-- the elements of the pairs
abbrev pub ShowsPair : ℕ → List Tree → List Item → Pair → Type 0
ShowsPair i xs us p = (k : ℕ) (x : Tree) → p.old ≡ i + k → slice_get xs k ≡ Some x → slice_get us k ≡ Some (pair_item p.updated x)

pub pairs_shown : (i : ℕ) (xs : List Tree) (ps : List Pair) → IsRising i (map (λ p. p.old) ps) → Each (ShowsPair i xs (items i xs ps)) ps
pairs_shown i [] ps rise = each_all (λ p k x at here. absurd (nothing k x here)) ps
  where
    each_all : {P : Pair → Type 0} → ((p : Pair) → P p) → (qs : List Pair) → Each P qs
    each_all h [] = tt
    each_all h (q ∷ qs) = (h q, each_all h qs)

    nothing : (k : ℕ) (x : Tree) → slice_get [] k ≡ Some x → ⊥
    nothing k x here = absurd cc
pairs_shown i (y ∷ ys) [] rise = tt
pairs_shown i (y ∷ ys) (p ∷ ps) rise = elim (cases_eq p.old i) [
  | inl same ↦
      let is : items i (y ∷ ys) (p ∷ ps) ≡ pair_item p.updated y ∷ items (suc i) ys ps = rw (eq-eqb p.old i same) refl in
      subst (λ us. Each (ShowsPair i (y ∷ ys) us) (p ∷ ps)) (sym is) (
        here p.updated p same,
        each_weaker (λ q. ShowsPair (suc i) ys (items (suc i) ys ps) q × (suc p.old ≤ q.old)) _ (λ q h. later (pair_item p.updated y) (items (suc i) ys ps) q (omega (arith, h.1, same)) h.0) ps
            (each_both _ _ _ (λ q a b. (a, b)) ps (pairs_shown (suc i) ys ps (subst (λ k. IsRising (suc k) (map (λ q. q.old) ps)) same rise.1)) (rising_from (suc p.old) ps rise.1)),
      )
  | inr other ↦
      let low : suc i ≤ p.old = omega (arith, rise.0, other) in
      let all = pairs_shown (suc i) ys (p ∷ ps) (low, rise.1) in
      let is : items i (y ∷ ys) (p ∷ ps) ≡ lone y ∷ items (suc i) ys (p ∷ ps) = rw (ne_eqb p.old i other) refl in
      subst (λ us. Each (ShowsPair i (y ∷ ys) us) (p ∷ ps)) (sym is) (
        later (lone y) (items (suc i) ys (p ∷ ps)) p low all.0,
        each_weaker (λ q. ShowsPair (suc i) ys (items (suc i) ys (p ∷ ps)) q × (suc p.old ≤ q.old)) _ (λ q h. later (lone y) (items (suc i) ys (p ∷ ps)) q (omega (arith, h.1, rise.0)) h.0) ps
            (each_both _ _ _ (λ q a b. (a, b)) ps all.1 (rising_from (suc p.old) ps rise.1)),
      )
]
  where
    rising_from : (low : ℕ) (qs : List Pair) → IsRising low (map (λ q. q.old) qs) → Each (λ q. low ≤ q.old) qs
    rising_from low [] up = tt
    rising_from low (q ∷ qs) up = (up.0, each_weaker _ _ (λ u h. omega (arith, h, up.0)) qs (rising_from (suc q.old) qs up.1))

    here : (t : Bool) (q : Pair) → q.old ≡ i → (k : ℕ) (x : Tree) → q.old ≡ i + k → slice_get (y ∷ ys) k ≡ Some x → slice_get (pair_item t y ∷ items (suc i) ys ps) k ≡ Some (pair_item t x)
    here t q same zero x at is = let e : y ≡ x = cc in ap (λ v. Some (pair_item t v)) e
    here t q same (suc k) x at is = absurd (omega (arith, same, at))

    later : (u : Item) (us : List Item) (q : Pair) → suc i ≤ q.old → ShowsPair (suc i) ys us q → ShowsPair i (y ∷ ys) (u ∷ us) q
    later u us q more shows zero x at is = absurd (omega (arith, more, at))
    later u us q more shows (suc k) x at is = shows k x (omega (arith, at)) is
