-- The pairs of what is told of the children are those of the elements' children.
use Rattle.std.specs.Prelude.{◌≡◌, ℕ, zero, suc, ◌+◌, min, pos, Bool, true, false, List, [], ◌∷◌, ◌++◌, length, map, flat_map, take, drop, get_or, unwrap_or, slice_get, refl}
use Rattle.std.specs.List.{range_with_len}
use Rattle.std.proofs.Common.{ap, sym, ◌∙◌, arith, append_assoc}
use Rattle.std.proofs.lemmas.List.{length-append, append-nil}
use Rattle.std.proofs.lemmas.Grind.{flat_map-append}
use Rattle.gl_joined.specs.Tree.{Tree, num}
use Rattle.gl_joined.specs.Piece.{Piece, kept, updated, deleted, inserted, identity}
use Rattle.gl_joined.specs.Pairs.{Pair, pairs_from, pairs}
use Rattle.gl_joined.specs.Leads.{LeadsFrom, applied}
use Rattle.spec_views.specs.Collection.{child_count, children_before, child_pairs}
use Rattle.gl_collection.specs.Told.{child_len, child_updates, told_children}
use Rattle.gl_collection.proofs.Made.{pair_of, get_seam, take_seam, longer}

-- so many pairs, one after another
abbrev ladder : ℕ → ℕ → Bool → ℕ → List Pair
ladder p q b zero = []
ladder p q b (suc n) = pair_of p q b ∷ ladder (suc p) (suc q) b n

same_ladder : (p q r s m n : ℕ) (b : Bool) → p ≡ r → q ≡ s → m ≡ n → ladder p q b m ≡ ladder r s b n
same_ladder p q r s m n b e f g = cc

ladder_is : (p q : ℕ) (b : Bool) (a n : ℕ) → map (λ k. pair_of (p + k) (q + k) b) (range_with_len a n) ≡ ladder (p + a) (q + a) b n
ladder_is p q b a zero = refl
ladder_is p q b a (suc n) =
    ap (λ us. pair_of (p + a) (q + a) b ∷ us)
    (ladder_is p q b (a + 1) n ∙ same_ladder (p + (a + 1)) (q + (a + 1)) (suc (p + a)) (suc (q + a)) n n b (omega arith) (omega arith) refl)

keeps_pairs : (n p q r s : ℕ) (rest : List Piece) → r ≡ p + n → s ≡ q + n → pairs_from p q (identity n ++ rest) ≡ ladder p q false n ++ pairs_from r s rest
keeps_pairs zero p q r s rest e f = let g : p ≡ r = omega (arith, e) in let h : q ≡ s = omega (arith, f) in both g h
  where
    both : p ≡ r → q ≡ s → pairs_from p q rest ≡ pairs_from r s rest
    both g h = cc
keeps_pairs (suc n) p q r s rest e f = ap (λ us. pair_of p q false ∷ us) (keeps_pairs n (suc p) (suc q) r s rest (omega (arith, e)) (omega (arith, f)))

deleted_pairs : (xs : List Tree) (p q r : ℕ) (rest : List Piece) → r ≡ p + length xs → pairs_from p q (map deleted xs ++ rest) ≡ pairs_from r q rest
deleted_pairs [] p q r rest e = let g : p ≡ r = omega (arith, e) in ap (λ k. pairs_from k q rest) g
deleted_pairs (x ∷ xs) p q r rest e = deleted_pairs xs (suc p) q r rest (omega (arith, e))

inserted_pairs : (ys : List Tree) (p q s : ℕ) (rest : List Piece) → s ≡ q + length ys → pairs_from p q (map inserted ys ++ rest) ≡ pairs_from p s rest
inserted_pairs [] p q s rest e = let g : q ≡ s = omega (arith, e) in ap (λ k. pairs_from p k rest) g
inserted_pairs (y ∷ ys) p q s rest e = inserted_pairs ys p (suc q) s rest (omega (arith, e))

updates_pairs : (xs ys : List Tree) (p q r s : ℕ) (rest : List Piece) → r ≡ p + length xs → s ≡ q + length ys
    → pairs_from p q (child_updates xs ys ++ rest) ≡ ladder p q true (min (length xs) (length ys)) ++ pairs_from r s rest
updates_pairs [] ys p q r s rest e f =
    let none : 0 ≡ min 0 (length ys) = omega arith in
    let g : p ≡ r = omega (arith, e) in
    inserted_pairs ys p q s rest f ∙ (ap (λ k. pairs_from k s rest) g ∙ ap (λ n. ladder p q true n ++ pairs_from r s rest) none)
updates_pairs (x ∷ xs) [] p q r s rest e f =
    let none : 0 ≡ min (suc (length xs)) 0 = omega arith in
    let g : q ≡ s = omega (arith, f) in
    deleted_pairs (x ∷ xs) p q r rest e ∙ (ap (λ k. pairs_from r k rest) g ∙ ap (λ n. ladder p q true n ++ pairs_from r s rest) none)
updates_pairs (x ∷ xs) (y ∷ ys) p q r s rest e f =
    let more : suc (min (length xs) (length ys)) ≡ min (suc (length xs)) (suc (length ys)) = omega arith in
    ap (λ us. pair_of p q true ∷ us) (updates_pairs xs ys (suc p) (suc q) r s rest (omega (arith, e)) (omega (arith, f)))
    ∙ ap (λ n. ladder p q true n ++ pairs_from r s rest) more

module _ (f : Tree → List Tree) where
  -- a list cut before the element at an index, and how many children stand before it
  pub record Cut (whole prefix back : List Tree) (index before : ℕ) : Type 0 where
    pub is : whole ≡ prefix ++ back
    pub at : index ≡ length prefix
    pub children : before ≡ length (flat_map f prefix)

  cut_next : (whole prefix back : List Tree) (x : Tree) (index before after : ℕ) → Cut whole prefix (x ∷ back) index before → after ≡ before + length (f x)
      → Cut whole (prefix ++ x ∷ []) back (suc index) after
  cut_next whole prefix back x index before after c e = record {
    is = c.is ∙ sym (append_assoc prefix (x ∷ []) back);
    at = ap suc c.at ∙ sym (longer prefix x);
    children =
        let joined = ap length (flat_map-append f prefix (x ∷ []) ∙ ap (λ ys. flat_map f prefix ++ ys) (append-nil (f x))) ∙ length-append (flat_map f prefix) (f x) in
        omega (arith, e, c.children, joined);
  }

  cut_count : (whole prefix back : List Tree) (x : Tree) (index before : ℕ) → Cut whole prefix (x ∷ back) index before → child_count f whole index ≡ length (f x)
  cut_count whole prefix back x index before c =
      let element = ap (λ ys. unwrap_or (slice_get ys index) (num (pos 0))) c.is ∙ ap (λ o. unwrap_or o (num (pos 0))) (get_seam prefix back x index c.at) in
      ap (λ y. length (f y)) element

  cut_before : (whole prefix back : List Tree) (index before : ℕ) → Cut whole prefix back index before → children_before f whole index ≡ before
  cut_before whole prefix back index before c =
      ap (λ ys. length (flat_map f (take index ys))) c.is ∙ (ap (λ ys. length (flat_map f ys)) (take_seam prefix back index c.at) ∙ sym c.children)

  pair_ladder : (xs ys xf xb yf yb : List Tree) (x y : Tree) (i j p q : ℕ) (b : Bool) → Cut xs xf (x ∷ xb) i p → Cut ys yf (y ∷ yb) j q
      → child_pairs f xs ys (pair_of i j b) ≡ ladder p q b (min (length (f x)) (length (f y)))
  pair_ladder xs ys xf xb yf yb x y i j p q b c d =
      let old = cut_before xs xf (x ∷ xb) i p c in
      let new = cut_before ys yf (y ∷ yb) j q d in
      ladder_is (children_before f xs i) (children_before f ys j) b 0 (min (child_count f xs i) (child_count f ys j))
      ∙ same_ladder (children_before f xs i + 0) (children_before f ys j + 0) p q _ _ b (omega (arith, old)) (omega (arith, new))
      (both _ _ _ _ (cut_count xs xf xb x i p c) (cut_count ys yf yb y j q d))
    where
      both : (k l m n : ℕ) → k ≡ m → l ≡ n → min k l ≡ min m n
      both k l m n g h = cc

  first_len : (lens : List ℕ) (x : Tree) (xs : List Tree) → lens ≡ map (child_len f) (x ∷ xs) → get_or lens 0 0 ≡ length (f x)
  first_len lens x xs e = ap (λ ns. get_or ns 0 0) e

  next_lens : (lens : List ℕ) (x : Tree) (xs : List Tree) → lens ≡ map (child_len f) (x ∷ xs) → drop 1 lens ≡ map (child_len f) xs
  next_lens lens x xs e = ap (drop 1) e

  join : (a b c d : List Pair) → a ≡ b → c ≡ d → a ++ c ≡ b ++ d
  join a b c d g h = cc

  pub pairs_told : (ps : List Piece) (us : List Tree) (lens : List ℕ) (xs ys xf yf : List Tree) (i j p q : ℕ) → LeadsFrom ps us → lens ≡ map (child_len f) us
      → Cut xs xf us i p → Cut ys yf (applied ps us) j q
      → pairs_from p q (told_children f lens ps) ≡ flat_map (child_pairs f xs ys) (pairs_from i j ps)
  pairs_told [] us lens xs ys xf yf i j p q h e c d = refl
  pairs_told (kept ∷ ps) [] lens xs ys xf yf i j p q h e c d = absurd h
  pairs_told (kept ∷ ps) (x ∷ us) lens xs ys xf yf i j p q h e c d =
      let n = length (f x) in
      let one : n ≡ min n n = omega arith in
      ap (λ m. pairs_from p q (identity m ++ told_children f (drop 1 lens) ps)) (first_len lens x us e)
      ∙ (keeps_pairs n p q (p + n) (q + n) (told_children f (drop 1 lens) ps) refl refl
      ∙ join _ _ _ _ (ap (ladder p q false) one ∙ sym (pair_ladder xs ys xf us yf (applied ps us) x x i j p q false c d))
      (pairs_told ps us (drop 1 lens) xs ys (xf ++ x ∷ []) (yf ++ x ∷ []) (suc i) (suc j) (p + n) (q + n) h (next_lens lens x us e)
      (cut_next xs xf us x i p (p + n) c refl) (cut_next ys yf (applied ps us) x j q (q + n) d refl)))
  pairs_told (updated v w ∷ ps) [] lens xs ys xf yf i j p q h e c d = absurd h
  pairs_told (updated v w ∷ ps) (x ∷ us) lens xs ys xf yf i j p q h e c d =
      let m = length (f x) in
      let n = length (f w) in
      ap (λ z. pairs_from p q (child_updates (f z) (f w) ++ told_children f (drop 1 lens) ps)) (sym h.0)
      ∙ (updates_pairs (f x) (f w) p q (p + m) (q + n) (told_children f (drop 1 lens) ps) refl refl
      ∙ join _ _ _ _ (sym (pair_ladder xs ys xf us yf (applied ps us) x w i j p q true c d))
      (pairs_told ps us (drop 1 lens) xs ys (xf ++ x ∷ []) (yf ++ w ∷ []) (suc i) (suc j) (p + m) (q + n) h.1 (next_lens lens x us e)
      (cut_next xs xf us x i p (p + m) c refl) (cut_next ys yf (applied ps us) w j q (q + n) d refl)))
  pairs_told (deleted v ∷ ps) [] lens xs ys xf yf i j p q h e c d = absurd h
  pairs_told (deleted v ∷ ps) (x ∷ us) lens xs ys xf yf i j p q h e c d =
      let m = length (f x) in
      ap (λ z. pairs_from p q (map deleted (f z) ++ told_children f (drop 1 lens) ps)) (sym h.0)
      ∙ (deleted_pairs (f x) p q (p + m) (told_children f (drop 1 lens) ps) refl
      ∙ pairs_told ps us (drop 1 lens) xs ys (xf ++ x ∷ []) yf (suc i) j (p + m) q h.1 (next_lens lens x us e) (cut_next xs xf us x i p (p + m) c refl) d)
  pairs_told (inserted w ∷ ps) us lens xs ys xf yf i j p q h e c d =
      let n = length (f w) in
      inserted_pairs (f w) p q (q + n) (told_children f lens ps) refl
      ∙ pairs_told ps us lens xs ys xf (yf ++ w ∷ []) i (suc j) p (q + n) h e c (cut_next ys yf (applied ps us) w j q (q + n) d refl)

  pub pairs_are : (ps : List Piece) (xs : List Tree) (lens : List ℕ) → LeadsFrom ps xs → lens ≡ map (child_len f) xs
      → pairs (told_children f lens ps) ≡ flat_map (child_pairs f xs (applied ps xs)) (pairs ps)
  pairs_are ps xs lens h e =
      pairs_told ps xs lens xs (applied ps xs) [] [] 0 0 0 0 h e (record { is = refl; at = refl; children = refl }) (record { is = refl; at = refl; children = refl })
