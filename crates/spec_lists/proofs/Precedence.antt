-- A delta as one of its changes, made first, and the rest.
use Rattle.std.proofs.Common.{◌≡◌, ◌∙◌, ℕ, suc, ◌+◌, ◌-◌, List, ◌∷◌, ◌++◌, arith}
use Rattle.spec_value.specs.Tree.{Tree}
use Rattle.spec_lists.specs.Piece.{Piece, kept, updated, deleted, inserted, identity, old_len, normal}
use Rattle.spec_lists.specs.Delta.{composed, one_insert, one_set, one_remove}
use Rattle.spec_lists.proofs.Merge.{Merge, done, gone, set_keep, new_keep, Merge-append, Merge-left, composed_merge}
use Rattle.spec_lists.proofs.DeltaChanges.{old_len-append, rest_is, rest_past}

-- the change c, then what the part m is after it, are the part n; before and after it all stays
preceding : {c m n : List Piece} → Merge c m n → (b a : List Piece) → composed (identity (old_len b) ++ (c ++ identity (old_len a))) (b ++ (m ++ a)) ≡ normal (b ++ (n ++ a))
preceding h b a = composed_merge (Merge-append (Merge-left b) (Merge-append h (Merge-left a)))

at_these : (c : Piece) (q : List Piece) (i j k l : ℕ) → i ≡ j → k ≡ l → composed (identity i ++ c ∷ identity k) q ≡ composed (identity j ++ c ∷ identity l) q
at_these c q i j k l g h = cc

-- an element deleted first is no element of the rest; one updated first is kept in the rest; so is one inserted first
pub deleted_before : (b a : List Piece) (n at : ℕ) (v : Tree) → at ≡ old_len b → n ≡ old_len (b ++ deleted v ∷ a) → composed (one_remove n at v) (b ++ a) ≡ normal (b ++ deleted v ∷ a)
deleted_before b a n at v e f =
    let r : n - suc at ≡ old_len a = rest_past n at (old_len a) (f ∙ (old_len-append b (deleted v ∷ a) ∙ omega (arith, e))) in
    at_these (deleted v) (b ++ a) at (old_len b) (n - suc at) (old_len a) e r ∙ preceding (gone {v = v} done) b a

pub updated_before : (b a : List Piece) (n at : ℕ) (v w : Tree) → at ≡ old_len b → n ≡ old_len (b ++ updated v w ∷ a) → composed (one_set n at v w) (b ++ kept ∷ a) ≡ normal (b ++ updated v w ∷ a)
updated_before b a n at v w e f =
    let r : n - suc at ≡ old_len a = rest_past n at (old_len a) (f ∙ (old_len-append b (updated v w ∷ a) ∙ omega (arith, e))) in
    at_these (updated v w) (b ++ kept ∷ a) at (old_len b) (n - suc at) (old_len a) e r ∙ preceding (set_keep {v = v} {w = w} done) b a

pub inserted_before : (b a : List Piece) (n at : ℕ) (w : Tree) → at ≡ old_len b → n ≡ old_len (b ++ inserted w ∷ a) → composed (one_insert n at w) (b ++ kept ∷ a) ≡ normal (b ++ inserted w ∷ a)
inserted_before b a n at w e f =
    let r : n - at ≡ old_len a = rest_is n at (old_len a) (f ∙ (old_len-append b (inserted w ∷ a) ∙ omega (arith, e))) in
    at_these (inserted w) (b ++ kept ∷ a) at (old_len b) (n - at) (old_len a) e r ∙ preceding (new_keep {w = w} done) b a
