-- Pieces cut at one of them, with it taken out or another put in its place.
use Rattle.std.proofs.Common.{◌≡◌, ◌∙◌, ℕ, zero, suc, ◌+◌, ◌≤◌, List, [], ◌∷◌, ◌++◌, length, take, drop, Some, slice_get, true, refl, ap, sym, arith}
use Rattle.std.specs.List.{insert, remove}
use Rattle.std.proofs.lemmas.List.{take_at, drop_at, length-take-le}
use Rattle.std.proofs.lemmas.Option.{same_Some}
use Rattle.spec_value.specs.Tree.{Tree}
use Rattle.spec_lists.specs.Piece.{Piece, kept, updated, deleted, inserted, old_len, new_len}
use Rattle.gl_delta.specs.Pieces.{is_inserted_piece, is_deleted_piece, is_kept_piece}

-- each piece is one of the old list or of the new one
pub length_few : (ps : List Piece) → length ps ≤ old_len ps + new_len ps
length_few [] = omega arith
length_few (kept ∷ ps) = omega (arith, length_few ps)
length_few (updated v w ∷ ps) = omega (arith, length_few ps)
length_few (deleted v ∷ ps) = omega (arith, length_few ps)
length_few (inserted w ∷ ps) = omega (arith, length_few ps)

-- pieces cut at one of them
pub cut_at : (ps : List Piece) (i : ℕ) (x : Piece) → slice_get ps i ≡ Some x → take i ps ++ x ∷ drop (suc i) ps ≡ ps
cut_at [] i x e = cc
cut_at (p ∷ ps) zero x e = ap (λ y. y ∷ ps) (sym (same_Some p x e))
cut_at (p ∷ ps) (suc i) x e = ap (λ qs. p ∷ qs) (cut_at ps i x e)

-- a piece put before one that is then taken out
pub put_taken : (ps : List Piece) (i : ℕ) (x y : Piece) → slice_get ps i ≡ Some x → remove (insert ps i y) (i + 1) ≡ take i ps ++ y ∷ drop (suc i) ps
put_taken [] i x y e = cc
put_taken (p ∷ ps) zero x y e = refl
put_taken (p ∷ ps) (suc i) x y e =
    let n : suc i + 1 ≡ suc (i + 1) = omega arith in
    ap (remove (insert (p ∷ ps) (suc i) y)) n ∙ ap (λ qs. p ∷ qs) (put_taken ps i x y e)

-- a piece taken out and another put in its place
pub taken_put : (ps : List Piece) (i : ℕ) (x y : Piece) → slice_get ps i ≡ Some x → insert (remove ps i) i y ≡ take i ps ++ y ∷ drop (suc i) ps
taken_put [] i x y e = cc
taken_put (p ∷ ps) zero x y e = refl
taken_put (p ∷ ps) (suc i) x y e = ap (λ qs. p ∷ qs) (taken_put ps i x y e)

pub drop_get : (ps : List Piece) (i : ℕ) (x : Piece) → slice_get ps i ≡ Some x → drop i ps ≡ x ∷ drop (suc i) ps
drop_get [] i x e = cc
drop_get (p ∷ ps) zero x e = ap (λ y. y ∷ ps) (same_Some p x e)
drop_get (p ∷ ps) (suc i) x e = drop_get ps i x e

-- a piece put in place of another
pub replaced_ends : (ps : List Piece) (i : ℕ) (y : Piece) → i ≤ length ps → (take i (take i ps ++ y ∷ drop (suc i) ps) ≡ take i ps) × (drop i (take i ps ++ y ∷ drop (suc i) ps) ≡ y ∷ drop (suc i) ps)
replaced_ends ps i y h = (take_at (take i ps) (y ∷ drop (suc i) ps) i (length-take-le i ps h), drop_at (take i ps) (y ∷ drop (suc i) ps) i (length-take-le i ps h))

pub kept_from_test : (ps : List Piece) (i : ℕ) → is_kept_piece (slice_get ps i) ≡ true → slice_get ps i ≡ Some kept
kept_from_test [] i e = cc
kept_from_test (kept ∷ ps) zero e = refl
kept_from_test (updated v w ∷ ps) zero e = cc
kept_from_test (deleted v ∷ ps) zero e = cc
kept_from_test (inserted w ∷ ps) zero e = cc
kept_from_test (p ∷ ps) (suc i) e = kept_from_test ps i e

pub deleted_from_test : (ps : List Piece) (i : ℕ) → is_deleted_piece (slice_get ps i) ≡ true → (v : Tree) × (slice_get ps i ≡ Some (deleted v))
deleted_from_test [] i e = cc
deleted_from_test (kept ∷ ps) zero e = cc
deleted_from_test (updated v w ∷ ps) zero e = cc
deleted_from_test (deleted v ∷ ps) zero e = (v, refl)
deleted_from_test (inserted w ∷ ps) zero e = cc
deleted_from_test (p ∷ ps) (suc i) e = deleted_from_test ps i e

pub inserted_from_test : (ps : List Piece) (i : ℕ) → is_inserted_piece (slice_get ps i) ≡ true → (w : Tree) × (slice_get ps i ≡ Some (inserted w))
inserted_from_test [] i e = cc
inserted_from_test (kept ∷ ps) zero e = cc
inserted_from_test (updated v w ∷ ps) zero e = cc
inserted_from_test (deleted v ∷ ps) zero e = cc
inserted_from_test (inserted w ∷ ps) zero e = (w, refl)
inserted_from_test (p ∷ ps) (suc i) e = inserted_from_test ps i e
