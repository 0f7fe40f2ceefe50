-- How long the lists of compositions are.
use Rattle.std.proofs.Common.{◌≡◌, ◌∙◌, ℕ, zero, suc, ◌+◌, ◌-◌, ◌<◌, ◌≤◌, List, [], ◌∷◌, map, length, refl, ap, arith}
use Rattle.spec_value.specs.Tree.{Tree}
use Rattle.spec_lists.specs.Piece.{Piece, updated, deleted, inserted, inverted, identity, old_len, new_len}
use Rattle.spec_lists.specs.Delta.{composed, inverse, one_insert, one_set, one_remove}
use Rattle.spec_lists.proofs.Normal.{old_len-normal, new_len-normal, inverted-inverted}
use Rattle.spec_lists.proofs.Merge.{Merge, merge_of, composed_merge, Merge-inverted, done, gone, come, keep_keep, keep_set, keep_drop, set_keep, set_set, set_drop, new_keep, new_set, new_drop}
use Rattle.spec_lists.proofs.Composition.{inverse_is}
use Rattle.spec_lists.proofs.DeltaChanges.{old_len-append, new_len-append}

pub old_len-merge : {p q m : List Piece} → Merge p q m → old_len m ≡ old_len p
old_len-merge done = refl
old_len-merge (gone h) = ap suc (old_len-merge h)
old_len-merge (come h) = old_len-merge h
old_len-merge (keep_keep h) = ap suc (old_len-merge h)
old_len-merge (keep_set h) = ap suc (old_len-merge h)
old_len-merge (keep_drop h) = ap suc (old_len-merge h)
old_len-merge (set_keep h) = ap suc (old_len-merge h)
old_len-merge (set_set h) = ap suc (old_len-merge h)
old_len-merge (set_drop h) = ap suc (old_len-merge h)
old_len-merge (new_keep h) = old_len-merge h
old_len-merge (new_set h) = old_len-merge h
old_len-merge (new_drop h) = old_len-merge h

pub new_len-merge : {p q m : List Piece} → Merge p q m → new_len m ≡ new_len q
new_len-merge h = old_len-merge (Merge-inverted h)

-- a composition leads from the first list to the last
pub old_len-composed : (p q : List Piece) → new_len p ≡ old_len q → old_len (composed p q) ≡ old_len p
old_len-composed p q e =
    let h : (m : List Piece) × Merge p q m = merge_of (length p + length q) p q (omega arith) e in
    ap old_len (composed_merge h.1) ∙ (old_len-normal h.0 ∙ old_len-merge h.1)

pub new_len-composed : (p q : List Piece) → new_len p ≡ old_len q → new_len (composed p q) ≡ new_len q
new_len-composed p q e =
    let h : (m : List Piece) × Merge p q m = merge_of (length p + length q) p q (omega arith) e in
    ap new_len (composed_merge h.1) ∙ (new_len-normal h.0 ∙ new_len-merge h.1)

pub old_len-inverse : (p : List Piece) → old_len (inverse p) ≡ new_len p
old_len-inverse p = ap old_len (inverse_is p) ∙ old_len-normal (map inverted p)

pub new_len-inverse : (p : List Piece) → new_len (inverse p) ≡ old_len p
new_len-inverse p = ap new_len (inverse_is p) ∙ (new_len-normal (map inverted p) ∙ ap old_len (inverted-inverted p))

pub old_len-identity : (n : ℕ) → old_len (identity n) ≡ n
old_len-identity zero = refl
old_len-identity (suc n) = ap suc (old_len-identity n)

pub new_len-identity : (n : ℕ) → new_len (identity n) ≡ n
new_len-identity zero = refl
new_len-identity (suc n) = ap suc (new_len-identity n)

pub old_len-one_insert : (n at : ℕ) (v : Tree) → at ≤ n → old_len (one_insert n at v) ≡ n
old_len-one_insert n at v h = old_len-append (identity at) (inserted v ∷ identity (n - at)) ∙ omega (arith, old_len-identity at, old_len-identity (n - at))

pub new_len-one_insert : (n at : ℕ) (v : Tree) → at ≤ n → new_len (one_insert n at v) ≡ n + 1
new_len-one_insert n at v h = new_len-append (identity at) (inserted v ∷ identity (n - at)) ∙ omega (arith, new_len-identity at, new_len-identity (n - at))

pub old_len-one_set : (n at : ℕ) (v w : Tree) → at < n → old_len (one_set n at v w) ≡ n
old_len-one_set n at v w h = old_len-append (identity at) (updated v w ∷ identity (n - suc at)) ∙ omega (arith, old_len-identity at, old_len-identity (n - suc at))

pub new_len-one_set : (n at : ℕ) (v w : Tree) → at < n → new_len (one_set n at v w) ≡ n
new_len-one_set n at v w h = new_len-append (identity at) (updated v w ∷ identity (n - suc at)) ∙ omega (arith, new_len-identity at, new_len-identity (n - suc at))

pub old_len-one_remove : (n at : ℕ) (v : Tree) → at < n → old_len (one_remove n at v) ≡ n
old_len-one_remove n at v h = old_len-append (identity at) (deleted v ∷ identity (n - suc at)) ∙ omega (arith, old_len-identity at, old_len-identity (n - suc at))

pub new_len-one_remove : (n at : ℕ) (v : Tree) → at < n → new_len (one_remove n at v) + 1 ≡ n
new_len-one_remove n at v h = omega (arith, new_len-append (identity at) (deleted v ∷ identity (n - suc at)), new_len-identity at, new_len-identity (n - suc at))

-- how many elements deltas have that insert alone, and that delete alone
pub old_len-inserted : (xs : List Tree) → old_len (map inserted xs) ≡ 0
old_len-inserted [] = refl
old_len-inserted (x ∷ xs) = old_len-inserted xs

pub new_len-inserted : (xs : List Tree) → new_len (map inserted xs) ≡ length xs
new_len-inserted [] = refl
new_len-inserted (x ∷ xs) = ap suc (new_len-inserted xs)

pub old_len-deleted : (xs : List Tree) → old_len (map deleted xs) ≡ length xs
old_len-deleted [] = refl
old_len-deleted (x ∷ xs) = ap suc (old_len-deleted xs)

pub new_len-deleted : (xs : List Tree) → new_len (map deleted xs) ≡ 0
new_len-deleted [] = refl
new_len-deleted (x ∷ xs) = new_len-deleted xs
