-- A change among kept elements, composed with a delta, changes a part of its pieces alone.
use Rattle.std.proofs.Common.{◌≡◌, ◌∙◌, ℕ, suc, ◌+◌, ◌-◌, List, [], ◌∷◌, ◌++◌, map, refl, ap, arith}
use Rattle.std.proofs.lemmas.List.{map-append}
use Rattle.spec_value.specs.Tree.{Tree}
use Rattle.spec_lists.specs.Piece.{Piece, kept, updated, deleted, inserted, inverted, identity, old_len, new_len, normal}
use Rattle.spec_lists.specs.Delta.{composed, one_insert, one_set, one_remove}
use Rattle.spec_lists.proofs.Merge.{Merge, done, come, keep_set, keep_drop, set_set, set_drop, new_set, new_drop, Merge-append, Merge-right, composed_merge}

pub old_len-append : (b a : List Piece) → old_len (b ++ a) ≡ old_len b + old_len a
old_len-append [] a = omega arith
old_len-append (kept ∷ b) a = omega (arith, old_len-append b a)
old_len-append (updated v w ∷ b) a = omega (arith, old_len-append b a)
old_len-append (deleted v ∷ b) a = omega (arith, old_len-append b a)
old_len-append (inserted w ∷ b) a = old_len-append b a

pub new_len-append : (b a : List Piece) → new_len (b ++ a) ≡ new_len b + new_len a
new_len-append b a = ap old_len (map-append inverted b a) ∙ old_len-append (map inverted b) (map inverted a)

-- the part m, composed with the change c, is n; before and after it all stays
pub local_change : {m c n : List Piece} → Merge m c n → (b a : List Piece) → composed (b ++ (m ++ a)) (identity (new_len b) ++ (c ++ identity (new_len a))) ≡ normal (b ++ (n ++ a))
local_change h b a = composed_merge (Merge-append (Merge-right b) (Merge-append h (Merge-right a)))

pub rest_is : (n at r : ℕ) → n ≡ at + r → n - at ≡ r
rest_is n at r e = omega arith

-- a value inserted between b and a
pub insert_is : (b a : List Piece) (n at : ℕ) (v : Tree) → n ≡ new_len (b ++ a) → at ≡ new_len b → composed (b ++ a) (one_insert n at v) ≡ normal (b ++ inserted v ∷ a)
insert_is b a n at v e f =
    let r : n - at ≡ new_len a = rest_is n at (new_len a) (e ∙ (new_len-append b a ∙ omega (arith, f))) in
    at_these (composed (b ++ a)) at (new_len b) (n - at) (new_len a) f r ∙ local_change (come done) b a
  where
    at_these : (F : List Piece → List Piece) (i j k l : ℕ) → i ≡ j → k ≡ l → F (identity i ++ inserted v ∷ identity k) ≡ F (identity j ++ inserted v ∷ identity l)
    at_these F i j k l g h = cc

pub rest_past : (n at r : ℕ) → n ≡ at + suc r → n - suc at ≡ r
rest_past n at r e = omega arith

-- a change c of the one new element of x
change_is : (x : Piece) (c : Piece) (m : List Piece) → new_len (x ∷ []) ≡ 1 → Merge (x ∷ []) (c ∷ []) m → (b a : List Piece) (n at : ℕ) → n ≡ new_len (b ++ x ∷ a) → at ≡ new_len b → composed (b ++ x ∷ a) (identity at ++ c ∷ identity (n - suc at)) ≡ normal (b ++ (m ++ a))
change_is x c m one h b a n at e f =
    let parts : new_len (x ∷ a) ≡ suc (new_len a) = new_len-append (x ∷ []) a ∙ omega (arith, one) in
    let r : n - suc at ≡ new_len a = rest_past n at (new_len a) (e ∙ (new_len-append b (x ∷ a) ∙ omega (arith, f, parts))) in
    at_these (composed (b ++ x ∷ a)) at (new_len b) (n - suc at) (new_len a) f r ∙ local_change h b a
  where
    at_these : (F : List Piece → List Piece) (i j k l : ℕ) → i ≡ j → k ≡ l → F (identity i ++ c ∷ identity k) ≡ F (identity j ++ c ∷ identity l)
    at_these F i j k l g o = cc

-- a kept element that is set is updated; an updated one is updated to the later value; an inserted one is inserted with it
pub set_kept : (b a : List Piece) (n at : ℕ) (v w : Tree) → n ≡ new_len (b ++ kept ∷ a) → at ≡ new_len b → composed (b ++ kept ∷ a) (one_set n at v w) ≡ normal (b ++ updated v w ∷ a)
set_kept b a n at v w e f = change_is kept (updated v w) (updated v w ∷ []) refl (keep_set done) b a n at e f

pub set_updated : (b a : List Piece) (n at : ℕ) (x y v w : Tree) → n ≡ new_len (b ++ updated x y ∷ a) → at ≡ new_len b → composed (b ++ updated x y ∷ a) (one_set n at v w) ≡ normal (b ++ updated x w ∷ a)
set_updated b a n at x y v w e f = change_is (updated x y) (updated v w) (updated x w ∷ []) refl (set_set done) b a n at e f

pub set_inserted : (b a : List Piece) (n at : ℕ) (y v w : Tree) → n ≡ new_len (b ++ inserted y ∷ a) → at ≡ new_len b → composed (b ++ inserted y ∷ a) (one_set n at v w) ≡ normal (b ++ inserted w ∷ a)
set_inserted b a n at y v w e f = change_is (inserted y) (updated v w) (inserted w ∷ []) refl (new_set done) b a n at e f

-- a kept element that is removed is deleted; an updated one is deleted with its first value; an inserted one is gone
pub remove_kept : (b a : List Piece) (n at : ℕ) (v : Tree) → n ≡ new_len (b ++ kept ∷ a) → at ≡ new_len b → composed (b ++ kept ∷ a) (one_remove n at v) ≡ normal (b ++ deleted v ∷ a)
remove_kept b a n at v e f = change_is kept (deleted v) (deleted v ∷ []) refl (keep_drop done) b a n at e f

pub remove_updated : (b a : List Piece) (n at : ℕ) (x y v : Tree) → n ≡ new_len (b ++ updated x y ∷ a) → at ≡ new_len b → composed (b ++ updated x y ∷ a) (one_remove n at v) ≡ normal (b ++ deleted x ∷ a)
remove_updated b a n at x y v e f = change_is (updated x y) (deleted v) (deleted x ∷ []) refl (set_drop done) b a n at e f

pub remove_inserted : (b a : List Piece) (n at : ℕ) (y v : Tree) → n ≡ new_len (b ++ inserted y ∷ a) → at ≡ new_len b → composed (b ++ inserted y ∷ a) (one_remove n at v) ≡ normal (b ++ a)
remove_inserted b a n at y v e f = change_is (inserted y) (deleted v) [] refl (new_drop done) b a n at e f
