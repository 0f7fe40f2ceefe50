-- The pieces of two deltas told in one: the relation by which compositions are built and taken apart.
use Rattle.std.proofs.Common.{◌≡◌, ◌∙◌, ℕ, zero, suc, ◌+◌, ◌≤◌, List, [], ◌∷◌, ◌++◌, map, length, drop, get_or, refl, ap, arith}
use Rattle.spec_value.specs.Tree.{Tree}
use Rattle.spec_lists.specs.Piece.{Piece, kept, updated, deleted, inserted, inverted, identity, old_len, new_len, normal}
use Rattle.spec_lists.specs.Sides.{Item, lone, carry, through, Sides, olds, news, sides, compose, pieces_of}
use Rattle.spec_lists.specs.Delta.{composed}
use Rattle.spec_lists.proofs.Normal.{pieces_of-sides, sides_from}

-- p, then q, is m: deletions of p and insertions of q stand as they are; else a new element of p is an old one of q
pub data Merge : List Piece → List Piece → List Piece → Type 0 where
  done : Merge [] [] []
  gone : {v : Tree} {p q m : List Piece} → Merge p q m → Merge (deleted v ∷ p) q (deleted v ∷ m)
  come : {w : Tree} {p q m : List Piece} → Merge p q m → Merge p (inserted w ∷ q) (inserted w ∷ m)
  keep_keep : {p q m : List Piece} → Merge p q m → Merge (kept ∷ p) (kept ∷ q) (kept ∷ m)
  keep_set : {x y : Tree} {p q m : List Piece} → Merge p q m → Merge (kept ∷ p) (updated x y ∷ q) (updated x y ∷ m)
  keep_drop : {x : Tree} {p q m : List Piece} → Merge p q m → Merge (kept ∷ p) (deleted x ∷ q) (deleted x ∷ m)
  set_keep : {v w : Tree} {p q m : List Piece} → Merge p q m → Merge (updated v w ∷ p) (kept ∷ q) (updated v w ∷ m)
  set_set : {v w x y : Tree} {p q m : List Piece} → Merge p q m → Merge (updated v w ∷ p) (updated x y ∷ q) (updated v y ∷ m)
  set_drop : {v w x : Tree} {p q m : List Piece} → Merge p q m → Merge (updated v w ∷ p) (deleted x ∷ q) (deleted v ∷ m)
  new_keep : {w : Tree} {p q m : List Piece} → Merge p q m → Merge (inserted w ∷ p) (kept ∷ q) (inserted w ∷ m)
  new_set : {w x y : Tree} {p q m : List Piece} → Merge p q m → Merge (inserted w ∷ p) (updated x y ∷ q) (inserted y ∷ m)
  new_drop : {w x : Tree} {p q m : List Piece} → Merge p q m → Merge (inserted w ∷ p) (deleted x ∷ q) m

-- the same, seen from the last list to the first
pub Merge-inverted : {p q m : List Piece} → Merge p q m → Merge (map inverted q) (map inverted p) (map inverted m)
Merge-inverted done = done
Merge-inverted (gone h) = come (Merge-inverted h)
Merge-inverted (come h) = gone (Merge-inverted h)
Merge-inverted (keep_keep h) = keep_keep (Merge-inverted h)
Merge-inverted (keep_set h) = set_keep (Merge-inverted h)
Merge-inverted (keep_drop h) = new_keep (Merge-inverted h)
Merge-inverted (set_keep h) = keep_set (Merge-inverted h)
Merge-inverted (set_set h) = set_set (Merge-inverted h)
Merge-inverted (set_drop h) = new_set (Merge-inverted h)
Merge-inverted (new_keep h) = keep_drop (Merge-inverted h)
Merge-inverted (new_set h) = set_drop (Merge-inverted h)
Merge-inverted (new_drop h) = new_drop (Merge-inverted h)

pub Merge-append : {p q m p' q' m' : List Piece} → Merge p q m → Merge p' q' m' → Merge (p ++ p') (q ++ q') (m ++ m')
Merge-append done k = k
Merge-append (gone h) k = gone (Merge-append h k)
Merge-append (come h) k = come (Merge-append h k)
Merge-append (keep_keep h) k = keep_keep (Merge-append h k)
Merge-append (keep_set h) k = keep_set (Merge-append h k)
Merge-append (keep_drop h) k = keep_drop (Merge-append h k)
Merge-append (set_keep h) k = set_keep (Merge-append h k)
Merge-append (set_set h) k = set_set (Merge-append h k)
Merge-append (set_drop h) k = set_drop (Merge-append h k)
Merge-append (new_keep h) k = new_keep (Merge-append h k)
Merge-append (new_set h) k = new_set (Merge-append h k)
Merge-append (new_drop h) k = new_drop (Merge-append h k)

-- the identity is neutral
pub Merge-right : (p : List Piece) → Merge p (identity (new_len p)) p
Merge-right [] = done
Merge-right (kept ∷ p) = keep_keep (Merge-right p)
Merge-right (updated v w ∷ p) = set_keep (Merge-right p)
Merge-right (deleted v ∷ p) = gone (Merge-right p)
Merge-right (inserted w ∷ p) = new_keep (Merge-right p)

pub Merge-left : (q : List Piece) → Merge (identity (old_len q)) q q
Merge-left [] = done
Merge-left (kept ∷ q) = keep_keep (Merge-left q)
Merge-left (updated v w ∷ q) = keep_set (Merge-left q)
Merge-left (deleted v ∷ q) = keep_drop (Merge-left q)
Merge-left (inserted w ∷ q) = come (Merge-left q)

-- two deltas that fit together can be told in one
pub merge_of : (n : ℕ) (p q : List Piece) → length p + length q ≤ n → new_len p ≡ old_len q → (m : List Piece) × Merge p q m
merge_of n [] [] s e = ([], done)
merge_of zero [] (b ∷ q) s e = absurd (omega arith)
merge_of zero (a ∷ p) q s e = absurd (omega arith)
merge_of (suc n) [] (inserted w ∷ q) s e = let h : (m : List Piece) × Merge [] q m = merge_of n [] q (omega arith) e in (inserted w ∷ h.0, come h.1)
merge_of (suc n) [] (kept ∷ q) s e = absurd (omega arith)
merge_of (suc n) [] (updated x y ∷ q) s e = absurd (omega arith)
merge_of (suc n) [] (deleted x ∷ q) s e = absurd (omega arith)
merge_of (suc n) (deleted v ∷ p) q s e = let h : (m : List Piece) × Merge p q m = merge_of n p q (omega arith) e in (deleted v ∷ h.0, gone h.1)
merge_of (suc n) (kept ∷ p) [] s e = absurd (omega arith)
merge_of (suc n) (updated v w ∷ p) [] s e = absurd (omega arith)
merge_of (suc n) (inserted w ∷ p) [] s e = absurd (omega arith)
merge_of (suc n) (kept ∷ p) (inserted y ∷ q) s e = let h : (m : List Piece) × Merge (kept ∷ p) q m = merge_of n (kept ∷ p) q (omega arith) e in (inserted y ∷ h.0, come h.1)
merge_of (suc n) (updated v w ∷ p) (inserted y ∷ q) s e = let h : (m : List Piece) × Merge (updated v w ∷ p) q m = merge_of n (updated v w ∷ p) q (omega arith) e in (inserted y ∷ h.0, come h.1)
merge_of (suc n) (inserted w ∷ p) (inserted y ∷ q) s e = let h : (m : List Piece) × Merge (inserted w ∷ p) q m = merge_of n (inserted w ∷ p) q (omega arith) e in (inserted y ∷ h.0, come h.1)
merge_of (suc n) (kept ∷ p) (kept ∷ q) s e = let h : (m : List Piece) × Merge p q m = merge_of n p q (omega arith) (omega arith) in (kept ∷ h.0, keep_keep h.1)
merge_of (suc n) (kept ∷ p) (updated x y ∷ q) s e = let h : (m : List Piece) × Merge p q m = merge_of n p q (omega arith) (omega arith) in (updated x y ∷ h.0, keep_set h.1)
merge_of (suc n) (kept ∷ p) (deleted x ∷ q) s e = let h : (m : List Piece) × Merge p q m = merge_of n p q (omega arith) (omega arith) in (deleted x ∷ h.0, keep_drop h.1)
merge_of (suc n) (updated v w ∷ p) (kept ∷ q) s e = let h : (m : List Piece) × Merge p q m = merge_of n p q (omega arith) (omega arith) in (updated v w ∷ h.0, set_keep h.1)
merge_of (suc n) (updated v w ∷ p) (updated x y ∷ q) s e = let h : (m : List Piece) × Merge p q m = merge_of n p q (omega arith) (omega arith) in (updated v y ∷ h.0, set_set h.1)
merge_of (suc n) (updated v w ∷ p) (deleted x ∷ q) s e = let h : (m : List Piece) × Merge p q m = merge_of n p q (omega arith) (omega arith) in (deleted v ∷ h.0, set_drop h.1)
merge_of (suc n) (inserted w ∷ p) (kept ∷ q) s e = let h : (m : List Piece) × Merge p q m = merge_of n p q (omega arith) (omega arith) in (inserted w ∷ h.0, new_keep h.1)
merge_of (suc n) (inserted w ∷ p) (updated x y ∷ q) s e = let h : (m : List Piece) × Merge p q m = merge_of n p q (omega arith) (omega arith) in (inserted y ∷ h.0, new_set h.1)
merge_of (suc n) (inserted w ∷ p) (deleted x ∷ q) s e = let h : (m : List Piece) × Merge p q m = merge_of n p q (omega arith) (omega arith) in (h.0, new_drop h.1)

-- what stands at a place, and what stands after it
at_drop : (xs : List Item) (j : ℕ) (x : Item) (r : List Item) (d : Item) → drop j xs ≡ x ∷ r → get_or xs j d ≡ x
at_drop [] zero x r d e = cc
at_drop [] (suc j) x r d e = cc
at_drop (y ∷ ys) zero x r d e = cc
at_drop (y ∷ ys) (suc j) x r d e = at_drop ys j x r d e

drop_on : (xs : List Item) (j : ℕ) (x : Item) (r : List Item) → drop j xs ≡ x ∷ r → drop (suc j) xs ≡ r
drop_on [] zero x r e = cc
drop_on [] (suc j) x r e = cc
drop_on (y ∷ ys) zero x r e = cc
drop_on (y ∷ ys) (suc j) x r e = drop_on ys j x r e

both : (x y : Item) (xs ys : List Item) → x ≡ y → xs ≡ ys → x ∷ xs ≡ y ∷ ys
both x y xs ys e f = cc

-- the old elements of m are those of p, seen through q
olds_merge : {p q m : List Piece} → Merge p q m → (all : List Item) (j k : ℕ) → drop j all ≡ olds k q → map (through all) (olds j p) ≡ olds k m
olds_merge done all j k e = refl
olds_merge (gone {v = v} h) all j k e = ap (λ xs. lone v ∷ xs) (olds_merge h all j k e)
olds_merge (come h) all j k e = olds_merge h all j (suc k) e
olds_merge (keep_keep h) all j k e = both _ _ _ _ (at_drop all j _ _ _ e) (olds_merge h all (suc j) (suc k) (drop_on all j _ _ e))
olds_merge (keep_set h) all j k e = both _ _ _ _ (at_drop all j _ _ _ e) (olds_merge h all (suc j) (suc k) (drop_on all j _ _ e))
olds_merge (keep_drop h) all j k e = both _ _ _ _ (at_drop all j _ _ _ e) (olds_merge h all (suc j) k (drop_on all j _ _ e))
olds_merge (set_keep {v = v} h) all j k e = both _ _ _ _ (ap (carry v) (at_drop all j _ _ _ e)) (olds_merge h all (suc j) (suc k) (drop_on all j _ _ e))
olds_merge (set_set {v = v} h) all j k e = both _ _ _ _ (ap (carry v) (at_drop all j _ _ _ e)) (olds_merge h all (suc j) (suc k) (drop_on all j _ _ e))
olds_merge (set_drop {v = v} h) all j k e = both _ _ _ _ (ap (carry v) (at_drop all j _ _ _ e)) (olds_merge h all (suc j) k (drop_on all j _ _ e))
olds_merge (new_keep h) all j k e = olds_merge h all (suc j) (suc k) (drop_on all j _ _ e)
olds_merge (new_set h) all j k e = olds_merge h all (suc j) (suc k) (drop_on all j _ _ e)
olds_merge (new_drop h) all j k e = olds_merge h all (suc j) k (drop_on all j _ _ e)

-- the sides of what is told in one are the composition of the sides
pub compose_merge : {p q m : List Piece} → Merge p q m → compose (sides p) (sides q) ≡ sides m
compose_merge {p = p} {q = q} h = sides_from _ _ _ _ (olds_merge h (olds 0 q) 0 0 refl) (olds_merge (Merge-inverted h) (news 0 p) 0 0 refl)

-- so the composition is what is told in one, in normal form
pub composed_merge : {p q m : List Piece} → Merge p q m → composed p q ≡ normal m
composed_merge {m = m} h = ap pieces_of (compose_merge h) ∙ pieces_of-sides m
