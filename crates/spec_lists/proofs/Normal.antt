-- The pieces of two sides: what the sides of pieces weave is the pieces in normal form.
use Rattle.std.proofs.Common.{◌≡◌, ◌∙◌, ℕ, suc, List, [], ◌∷◌, map, refl, ap, sym}
use Rattle.spec_value.specs.Tree.{Tree}
use Rattle.spec_lists.specs.Piece.{Piece, kept, updated, deleted, inserted, inverted, BeginsUndeleted, IsNormal, insert_first, normal, new_len, old_len}
use Rattle.spec_lists.specs.Sides.{Item, plain, changed, lone, Sides, olds, news, sides, woven, pieces_of}

pub inverted-inverted : (ps : List Piece) → map inverted (map inverted ps) ≡ ps
inverted-inverted [] = refl
inverted-inverted (kept ∷ ps) = ap (λ qs. kept ∷ qs) (inverted-inverted ps)
inverted-inverted (updated v w ∷ ps) = ap (λ qs. updated v w ∷ qs) (inverted-inverted ps)
inverted-inverted (deleted v ∷ ps) = ap (λ qs. deleted v ∷ qs) (inverted-inverted ps)
inverted-inverted (inserted w ∷ ps) = ap (λ qs. inserted w ∷ qs) (inverted-inverted ps)

-- an insertion adds no old element, wherever among deletions it is put
pub olds-insert_first : (w : Tree) (ps : List Piece) (j : ℕ) → olds j (insert_first w ps) ≡ olds (suc j) ps
olds-insert_first w [] j = refl
olds-insert_first w (kept ∷ ps) j = refl
olds-insert_first w (updated v x ∷ ps) j = refl
olds-insert_first w (deleted v ∷ ps) j = ap (λ xs. lone v ∷ xs) (olds-insert_first w ps j)
olds-insert_first w (inserted x ∷ ps) j = refl

-- and it is the first new element
pub news-insert_first : (w : Tree) (ps : List Piece) (i : ℕ) → news i (insert_first w ps) ≡ lone w ∷ news i ps
news-insert_first w [] i = refl
news-insert_first w (kept ∷ ps) i = refl
news-insert_first w (updated v x ∷ ps) i = refl
news-insert_first w (deleted v ∷ ps) i = news-insert_first w ps (suc i)
news-insert_first w (inserted x ∷ ps) i = refl

pub olds-normal : (ps : List Piece) (j : ℕ) → olds j (normal ps) ≡ olds j ps
olds-normal [] j = refl
olds-normal (kept ∷ ps) j = ap (λ xs. plain j ∷ xs) (olds-normal ps (suc j))
olds-normal (updated v w ∷ ps) j = ap (λ xs. changed j v ∷ xs) (olds-normal ps (suc j))
olds-normal (deleted v ∷ ps) j = ap (λ xs. lone v ∷ xs) (olds-normal ps j)
olds-normal (inserted w ∷ ps) j = olds-insert_first w (normal ps) j ∙ olds-normal ps (suc j)

pub news-normal : (ps : List Piece) (i : ℕ) → news i (normal ps) ≡ news i ps
news-normal [] i = refl
news-normal (kept ∷ ps) i = ap (λ xs. plain i ∷ xs) (news-normal ps (suc i))
news-normal (updated v w ∷ ps) i = ap (λ xs. changed i w ∷ xs) (news-normal ps (suc i))
news-normal (deleted v ∷ ps) i = news-normal ps (suc i)
news-normal (inserted w ∷ ps) i = news-insert_first w (normal ps) i ∙ ap (λ xs. lone w ∷ xs) (news-normal ps i)

pub sides_from : (a b c d : List Item) → a ≡ c → b ≡ d → let s : Sides = record { old = a; new = b } in let t : Sides = record { old = c; new = d } in s ≡ t
sides_from a b c d e f = cc

-- normal form changes neither side
pub sides-normal : (ps : List Piece) → sides (normal ps) ≡ sides ps
sides-normal ps = sides_from _ _ _ _ (olds-normal ps 0) (news-normal ps 0)

-- a lone new element in front is an insertion after the deletions
woven_lone : (w : Tree) (xs ys : List Item) → woven xs (lone w ∷ ys) ≡ insert_first w (woven xs ys)
woven_lone w [] [] = refl
woven_lone w [] (plain i ∷ ys) = refl
woven_lone w [] (changed i x ∷ ys) = refl
woven_lone w [] (lone x ∷ ys) = refl
woven_lone w (lone v ∷ xs) ys = ap (λ ps. deleted v ∷ ps) (woven_lone w xs ys)
woven_lone w (plain j ∷ xs) [] = refl
woven_lone w (plain j ∷ xs) (plain i ∷ ys) = refl
woven_lone w (plain j ∷ xs) (changed i x ∷ ys) = refl
woven_lone w (plain j ∷ xs) (lone x ∷ ys) = refl
woven_lone w (changed j v ∷ xs) [] = refl
woven_lone w (changed j v ∷ xs) (plain i ∷ ys) = refl
woven_lone w (changed j v ∷ xs) (changed i x ∷ ys) = refl
woven_lone w (changed j v ∷ xs) (lone x ∷ ys) = refl

woven_sides : (ps : List Piece) (i j : ℕ) → woven (olds j ps) (news i ps) ≡ normal ps
woven_sides [] i j = refl
woven_sides (kept ∷ ps) i j = ap (λ qs. kept ∷ qs) (woven_sides ps (suc i) (suc j))
woven_sides (updated v w ∷ ps) i j = ap (λ qs. updated v w ∷ qs) (woven_sides ps (suc i) (suc j))
woven_sides (deleted v ∷ ps) i j = ap (λ qs. deleted v ∷ qs) (woven_sides ps (suc i) j)
woven_sides (inserted w ∷ ps) i j = woven_lone w (olds (suc j) ps) (news i ps) ∙ ap (insert_first w) (woven_sides ps i (suc j))

-- the sides of pieces say the pieces, in normal form
pub pieces_of-sides : (ps : List Piece) → pieces_of (sides ps) ≡ normal ps
pieces_of-sides ps = woven_sides ps 0 0

-- an insertion before what begins with no deletion stays there
pub insert_first_is : (w : Tree) (ps : List Piece) → BeginsUndeleted ps → insert_first w ps ≡ inserted w ∷ ps
insert_first_is w [] h = refl
insert_first_is w (kept ∷ ps) h = refl
insert_first_is w (updated v x ∷ ps) h = refl
insert_first_is w (deleted v ∷ ps) h = absurd h
insert_first_is w (inserted x ∷ ps) h = refl

pub normal_is : (ps : List Piece) → IsNormal ps → normal ps ≡ ps
normal_is [] h = refl
normal_is (kept ∷ ps) h = ap (λ qs. kept ∷ qs) (normal_is ps h)
normal_is (updated v w ∷ ps) h = ap (λ qs. updated v w ∷ qs) (normal_is ps h)
normal_is (deleted v ∷ ps) h = ap (λ qs. deleted v ∷ qs) (normal_is ps h)
normal_is (inserted w ∷ ps) h = ap (insert_first w) (normal_is ps h.1) ∙ insert_first_is w ps h.0

IsNormal-insert_first : (w : Tree) (ps : List Piece) → IsNormal ps → IsNormal (insert_first w ps)
IsNormal-insert_first w [] h = (tt, tt)
IsNormal-insert_first w (kept ∷ ps) h = (tt, h)
IsNormal-insert_first w (updated v x ∷ ps) h = (tt, h)
IsNormal-insert_first w (deleted v ∷ ps) h = IsNormal-insert_first w ps h
IsNormal-insert_first w (inserted x ∷ ps) h = (tt, h)

pub IsNormal-normal : (ps : List Piece) → IsNormal (normal ps)
IsNormal-normal [] = tt
IsNormal-normal (kept ∷ ps) = IsNormal-normal ps
IsNormal-normal (updated v w ∷ ps) = IsNormal-normal ps
IsNormal-normal (deleted v ∷ ps) = IsNormal-normal ps
IsNormal-normal (inserted w ∷ ps) = IsNormal-insert_first w (normal ps) (IsNormal-normal ps)

-- deltas in normal form with equal sides are equal
pub same_from_sides : (ps qs : List Piece) → IsNormal ps → IsNormal qs → sides ps ≡ sides qs → ps ≡ qs
same_from_sides ps qs hp hq e = sym (pieces_of-sides ps ∙ normal_is ps hp) ∙ (ap pieces_of e ∙ (pieces_of-sides qs ∙ normal_is qs hq))

pub old_len-normal : (ps : List Piece) → old_len (normal ps) ≡ old_len ps
old_len-normal [] = refl
old_len-normal (kept ∷ ps) = ap suc (old_len-normal ps)
old_len-normal (updated v w ∷ ps) = ap suc (old_len-normal ps)
old_len-normal (deleted v ∷ ps) = ap suc (old_len-normal ps)
old_len-normal (inserted w ∷ ps) = first w (normal ps) ∙ old_len-normal ps
  where
    first : (x : Tree) (qs : List Piece) → old_len (insert_first x qs) ≡ old_len qs
    first x [] = refl
    first x (kept ∷ qs) = refl
    first x (updated v y ∷ qs) = refl
    first x (deleted v ∷ qs) = ap suc (first x qs)
    first x (inserted y ∷ qs) = refl

pub new_len-normal : (ps : List Piece) → new_len (normal ps) ≡ new_len ps
new_len-normal [] = refl
new_len-normal (kept ∷ ps) = ap suc (new_len-normal ps)
new_len-normal (updated v w ∷ ps) = ap suc (new_len-normal ps)
new_len-normal (deleted v ∷ ps) = new_len-normal ps
new_len-normal (inserted w ∷ ps) = first w (normal ps) ∙ ap suc (new_len-normal ps)
  where
    first : (x : Tree) (qs : List Piece) → new_len (insert_first x qs) ≡ suc (new_len qs)
    first x [] = refl
    first x (kept ∷ qs) = refl
    first x (updated v y ∷ qs) = refl
    first x (deleted v ∷ qs) = first x qs
    first x (inserted y ∷ qs) = refl
