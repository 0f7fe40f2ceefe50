-- Normal form of lists of pieces and of their parts.
use Rattle.std.proofs.Common.{◌≡◌, ◌∙◌, ℕ, zero, suc, ◌<◌, ◌≤◌, List, [], ◌∷◌, ◌++◌, length, take, drop, slice_get, false, refl, ap, sym, subst, arith}
use Rattle.std.proofs.lemmas.List.{take-append-drop, take-take}
use Rattle.spec_value.specs.Tree.{Tree}
use Rattle.spec_lists.specs.Piece.{Piece, kept, updated, deleted, inserted, normal, IsNormal, BeginsUndeleted, insert_first}
use Rattle.gl_delta.specs.Pieces.{AllInserted, EndsUninserted, is_inserted_piece}

-- normal form of parts
undeleted_append : (b a : List Piece) (v : Tree) → BeginsUndeleted (b ++ a) → BeginsUndeleted (b ++ inserted v ∷ a)
undeleted_append [] a v h = tt
undeleted_append (kept ∷ b) a v h = tt
undeleted_append (updated x y ∷ b) a v h = tt
undeleted_append (deleted x ∷ b) a v h = absurd h
undeleted_append (inserted x ∷ b) a v h = tt

pub normal_insert : (b a : List Piece) (v : Tree) → IsNormal (b ++ a) → BeginsUndeleted a → IsNormal (b ++ inserted v ∷ a)
normal_insert [] a v h u = (u, h)
normal_insert (kept ∷ b) a v h u = normal_insert b a v h u
normal_insert (updated x y ∷ b) a v h u = normal_insert b a v h u
normal_insert (deleted x ∷ b) a v h u = normal_insert b a v h u
normal_insert (inserted x ∷ b) a v h u = (undeleted_append b a v h.0, normal_insert b a v h.1 u)

-- an updated piece in place of a kept or updated one, and an inserted one in place of an inserted one
undeleted_pair : (b a : List Piece) (x : Piece) (v w : Tree) → BeginsUndeleted (b ++ x ∷ a) → BeginsUndeleted (b ++ updated v w ∷ a)
undeleted_pair [] a x v w h = tt
undeleted_pair (kept ∷ b) a x v w h = tt
undeleted_pair (updated y z ∷ b) a x v w h = tt
undeleted_pair (deleted y ∷ b) a x v w h = h
undeleted_pair (inserted y ∷ b) a x v w h = tt

pub normal_rest : (x : Piece) (a : List Piece) → IsNormal (x ∷ a) → IsNormal a
normal_rest kept a h = h
normal_rest (updated v w) a h = h
normal_rest (deleted v) a h = h
normal_rest (inserted w) a h = h.1

pub normal_pair : (b a : List Piece) (x : Piece) (v w : Tree) → IsNormal (b ++ x ∷ a) → IsNormal (b ++ updated v w ∷ a)
normal_pair [] a x v w h = normal_rest x a h
normal_pair (kept ∷ b) a x v w h = normal_pair b a x v w h
normal_pair (updated y z ∷ b) a x v w h = normal_pair b a x v w h
normal_pair (deleted y ∷ b) a x v w h = normal_pair b a x v w h
normal_pair (inserted y ∷ b) a x v w h = (undeleted_pair b a x v w h.0, normal_pair b a x v w h.1)

undeleted_lone : (b a : List Piece) (x w : Tree) → BeginsUndeleted (b ++ inserted x ∷ a) → BeginsUndeleted (b ++ inserted w ∷ a)
undeleted_lone [] a x w h = tt
undeleted_lone (kept ∷ b) a x w h = tt
undeleted_lone (updated y z ∷ b) a x w h = tt
undeleted_lone (deleted y ∷ b) a x w h = h
undeleted_lone (inserted y ∷ b) a x w h = tt

pub normal_lone : (b a : List Piece) (x w : Tree) → IsNormal (b ++ inserted x ∷ a) → IsNormal (b ++ inserted w ∷ a)
normal_lone [] a x w h = h
normal_lone (kept ∷ b) a x w h = normal_lone b a x w h
normal_lone (updated y z ∷ b) a x w h = normal_lone b a x w h
normal_lone (deleted y ∷ b) a x w h = normal_lone b a x w h
normal_lone (inserted y ∷ b) a x w h = (undeleted_lone b a x w h.0, normal_lone b a x w h.1)

undeleted_gone : (b a : List Piece) (x : Tree) → BeginsUndeleted a → BeginsUndeleted (b ++ inserted x ∷ a) → BeginsUndeleted (b ++ a)
undeleted_gone [] a x u h = u
undeleted_gone (kept ∷ b) a x u h = tt
undeleted_gone (updated y z ∷ b) a x u h = tt
undeleted_gone (deleted y ∷ b) a x u h = h
undeleted_gone (inserted y ∷ b) a x u h = tt

pub normal_gone : (b a : List Piece) (x : Tree) → IsNormal (b ++ inserted x ∷ a) → IsNormal (b ++ a)
normal_gone [] a x h = h.1
normal_gone (kept ∷ b) a x h = normal_gone b a x h
normal_gone (updated y z ∷ b) a x h = normal_gone b a x h
normal_gone (deleted y ∷ b) a x h = normal_gone b a x h
normal_gone (inserted y ∷ b) a x h = (undeleted_gone b a x (tail_of b h.1) h.0, normal_gone b a x h.1)
  where
    tail_of : (c : List Piece) → IsNormal (c ++ inserted x ∷ a) → BeginsUndeleted a
    tail_of [] g = g.0
    tail_of (kept ∷ c) g = tail_of c g
    tail_of (updated s t ∷ c) g = tail_of c g
    tail_of (deleted s ∷ c) g = tail_of c g
    tail_of (inserted s ∷ c) g = tail_of c g.1

-- normal form of a front part, and of what follows
pub normal_prefix : (b a : List Piece) → IsNormal (b ++ a) → IsNormal b
normal_prefix [] a h = tt
normal_prefix (kept ∷ b) a h = normal_prefix b a h
normal_prefix (updated y z ∷ b) a h = normal_prefix b a h
normal_prefix (deleted y ∷ b) a h = normal_prefix b a h
normal_prefix (inserted y ∷ []) a h = (tt, tt)
normal_prefix (inserted y ∷ kept ∷ b) a h = (tt, normal_prefix (kept ∷ b) a h.1)
normal_prefix (inserted y ∷ updated s t ∷ b) a h = (tt, normal_prefix (updated s t ∷ b) a h.1)
normal_prefix (inserted y ∷ deleted s ∷ b) a h = (h.0, normal_prefix (deleted s ∷ b) a h.1)
normal_prefix (inserted y ∷ inserted s ∷ b) a h = (tt, normal_prefix (inserted s ∷ b) a h.1)

pub normal_back : (b a : List Piece) → IsNormal (b ++ a) → IsNormal a
normal_back [] a h = h
normal_back (p ∷ b) a h = normal_back b a (normal_rest p (b ++ a) h)

-- a deletion moved before the insertions before it: the normal form is the same
pub normal_pass : (ins a : List Piece) (v : Tree) → AllInserted ins → normal (ins ++ deleted v ∷ a) ≡ deleted v ∷ normal (ins ++ a)
normal_pass [] a v h = refl
normal_pass (kept ∷ ins) a v h = absurd h
normal_pass (updated x y ∷ ins) a v h = absurd h
normal_pass (deleted x ∷ ins) a v h = absurd h
normal_pass (inserted w ∷ ins) a v h = ap (insert_first w) (normal_pass ins a v h)

pub normal_same : (b p q : List Piece) → normal p ≡ normal q → normal (b ++ p) ≡ normal (b ++ q)
normal_same [] p q e = e
normal_same (kept ∷ b) p q e = ap (λ ps. kept ∷ ps) (normal_same b p q e)
normal_same (updated v w ∷ b) p q e = ap (λ ps. updated v w ∷ ps) (normal_same b p q e)
normal_same (deleted v ∷ b) p q e = ap (λ ps. deleted v ∷ ps) (normal_same b p q e)
normal_same (inserted w ∷ b) p q e = ap (insert_first w) (normal_same b p q e)

-- insertions between two parts in normal form, of which the second doesn't begin with a deletion
pub normal_ins : (ins a : List Piece) → AllInserted ins → BeginsUndeleted a → IsNormal a → BeginsUndeleted (ins ++ a) × IsNormal (ins ++ a)
normal_ins [] a h u n = (u, n)
normal_ins (kept ∷ ins) a h u n = absurd h
normal_ins (updated x y ∷ ins) a h u n = absurd h
normal_ins (deleted x ∷ ins) a h u n = absurd h
normal_ins (inserted w ∷ ins) a h u n = (tt, normal_ins ins a h u n)

pub normal_undeleted : (b a : List Piece) → IsNormal b → BeginsUndeleted a → IsNormal a → IsNormal (b ++ a)
normal_undeleted [] a h u n = n
normal_undeleted (kept ∷ b) a h u n = normal_undeleted b a h u n
normal_undeleted (updated x y ∷ b) a h u n = normal_undeleted b a h u n
normal_undeleted (deleted x ∷ b) a h u n = normal_undeleted b a h u n
normal_undeleted (inserted w ∷ b) a h u n = (first b h.0, normal_undeleted b a h.1 u n)
  where
    first : (c : List Piece) → BeginsUndeleted c → BeginsUndeleted (c ++ a)
    first [] g = u
    first (kept ∷ c) g = tt
    first (updated x y ∷ c) g = tt
    first (deleted x ∷ c) g = g
    first (inserted x ∷ c) g = tt

-- where the front part may be followed by a deletion, all is in normal form
pub normal_closed : (b a : List Piece) → EndsUninserted b → IsNormal a → IsNormal (b ++ a)
normal_closed [] a h n = n
normal_closed (kept ∷ b) a h n = normal_closed b a h n
normal_closed (updated x y ∷ b) a h n = normal_closed b a h n
normal_closed (deleted x ∷ b) a h n = normal_closed b a h n
normal_closed (inserted x ∷ []) a h n = absurd (h x).0
normal_closed (inserted x ∷ kept ∷ b) a h n = (tt, normal_closed (kept ∷ b) a (λ v. (h v).1) n)
normal_closed (inserted x ∷ updated s t ∷ b) a h n = (tt, normal_closed (updated s t ∷ b) a (λ v. (h v).1) n)
normal_closed (inserted x ∷ deleted s ∷ b) a h n = absurd (h x).0
normal_closed (inserted x ∷ inserted s ∷ b) a h n = (tt, normal_closed (inserted s ∷ b) a (λ v. (h v).1) n)

-- a front part in normal form whose last piece isn't inserted may be followed by a deletion
pub ends_at : (ps : List Piece) (s : ℕ) → s < length ps → IsNormal (take (suc s) ps) → is_inserted_piece (slice_get ps s) ≡ false → EndsUninserted (take (suc s) ps)
ends_at [] s h n e v = absurd (omega (arith, h))
ends_at (kept ∷ ps) zero h n e v = tt
ends_at (updated x y ∷ ps) zero h n e v = tt
ends_at (deleted x ∷ ps) zero h n e v = tt
ends_at (inserted x ∷ ps) zero h n e v = cc
ends_at (kept ∷ ps) (suc s) h n e v = ends_at ps s (omega (arith, h)) n e v
ends_at (updated x y ∷ ps) (suc s) h n e v = ends_at ps s (omega (arith, h)) n e v
ends_at (deleted x ∷ ps) (suc s) h n e v = ends_at ps s (omega (arith, h)) n e v
ends_at (inserted x ∷ []) (suc s) h n e v = absurd (omega (arith, h))
ends_at (inserted x ∷ kept ∷ ps) (suc s) h n e v = (tt, ends_at (kept ∷ ps) s (omega (arith, h)) n.1 e v)
ends_at (inserted x ∷ updated y z ∷ ps) (suc s) h n e v = (tt, ends_at (updated y z ∷ ps) s (omega (arith, h)) n.1 e v)
ends_at (inserted x ∷ deleted y ∷ ps) (suc s) h n e v = absurd n.0
ends_at (inserted x ∷ inserted y ∷ ps) (suc s) h n e v = (tt, ends_at (inserted y ∷ ps) s (omega (arith, h)) n.1 e v)

-- a shorter front part is in normal form too
pub normal_take : (ps : List Piece) (s end : ℕ) → s ≤ end → IsNormal (take end ps) → IsNormal (take s ps)
normal_take ps s end h n =
    let N : List Piece → Type 0 = IsNormal in
    let cut : take end ps ≡ take s ps ++ drop s (take end ps) = sym (take-append-drop s (take end ps)) ∙ ap (λ qs. qs ++ drop s (take end ps)) (take-take s end ps h) in
    normal_prefix (take s ps) (drop s (take end ps)) (subst N cut n)
