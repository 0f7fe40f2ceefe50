-- What is told of a pair of elements, of an old and of a new one: first its own pieces, then those of the others, and
-- no more than there is.
use Rattle.std.specs.Prelude.{◌≡◌, ◌≤◌, suc, Bool, true, false, List, ◌∷◌, ◌++◌, refl}
use Rattle.std.proofs.Common.{arith}
use Rattle.spec_value.specs.Tree.{Tree}
use Rattle.spec_lists.specs.Piece.{Piece, kept, updated, deleted, inserted, old_len, new_len}
use Rattle.spec_views.specs.Chosen.{told_of_pair, told_of_old, told_of_new}

pub pair-append : (b c : Bool) (p : Piece) (v w : Tree) (r s : List Piece) → told_of_pair b c p v w (r ++ s) ≡ told_of_pair b c p v w r ++ s
pair-append true true p v w r s = refl
pair-append true false p v w r s = refl
pair-append false true p v w r s = refl
pair-append false false p v w r s = refl

pub old-append : (b : Bool) (v : Tree) (r s : List Piece) → told_of_old b v (r ++ s) ≡ told_of_old b v r ++ s
old-append true v r s = refl
old-append false v r s = refl

pub new-append : (b : Bool) (w : Tree) (r s : List Piece) → told_of_new b w (r ++ s) ≡ told_of_new b w r ++ s
new-append true w r s = refl
new-append false w r s = refl

-- a piece adds at most an element to either side
piece_olds : (p : Piece) (r : List Piece) → old_len (p ∷ r) ≤ suc (old_len r)
piece_olds kept r = omega arith
piece_olds (updated v w) r = omega arith
piece_olds (deleted v) r = omega arith
piece_olds (inserted w) r = omega arith

piece_news : (p : Piece) (r : List Piece) → new_len (p ∷ r) ≤ suc (new_len r)
piece_news kept r = omega arith
piece_news (updated v w) r = omega arith
piece_news (deleted v) r = omega arith
piece_news (inserted w) r = omega arith

pub pair_olds : (b c : Bool) (p : Piece) (v w : Tree) (r : List Piece) → old_len (told_of_pair b c p v w r) ≤ suc (old_len r)
pair_olds true true p v w r = piece_olds p r
pair_olds true false p v w r = omega arith
pair_olds false true p v w r = omega arith
pair_olds false false p v w r = omega arith

pub pair_news : (b c : Bool) (p : Piece) (v w : Tree) (r : List Piece) → new_len (told_of_pair b c p v w r) ≤ suc (new_len r)
pair_news true true p v w r = piece_news p r
pair_news true false p v w r = omega arith
pair_news false true p v w r = omega arith
pair_news false false p v w r = omega arith

pub old_olds : (b : Bool) (v : Tree) (r : List Piece) → old_len (told_of_old b v r) ≤ suc (old_len r)
old_olds true v r = omega arith
old_olds false v r = omega arith

pub old_news : (b : Bool) (v : Tree) (r : List Piece) → new_len (told_of_old b v r) ≡ new_len r
old_news true v r = refl
old_news false v r = refl

pub new_olds : (b : Bool) (w : Tree) (r : List Piece) → old_len (told_of_new b w r) ≡ old_len r
new_olds true w r = refl
new_olds false w r = refl

pub new_news : (b : Bool) (w : Tree) (r : List Piece) → new_len (told_of_new b w r) ≤ suc (new_len r)
new_news true w r = omega arith
new_news false w r = omega arith
