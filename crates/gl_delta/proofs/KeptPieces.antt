-- What a delta keeps of its pieces, through its edits.
use Rattle.std.proofs.Common.{◌≡◌, ◌∙◌, ℕ, zero, suc, ◌+◌, ◌-◌, ◌<◌, ◌≤◌, List, [], ◌∷◌, ◌++◌, length, ap, sym, subst, arith}
use Rattle.spec_value.specs.Tree.{Tree}
use Rattle.spec_lists.specs.Piece.{Piece, old_len, new_len, identity, IsNormal, BeginsUndeleted}
use Rattle.spec_lists.specs.Delta.{one_insert, one_set, one_remove}
use Rattle.spec_lists.specs.Cells.{pieces_in}
use Rattle.spec_lists.proofs.Normal.{old_len-normal, new_len-normal}
use Rattle.spec_lists.proofs.DeltaEdits.{identity_normal}
use Rattle.spec_lists.proofs.DeltaChanges.{old_len-append, new_len-append}
use Rattle.spec_lists.proofs.Lengths.{old_len-composed, new_len-composed, old_len-identity, new_len-identity, old_len-one_insert, new_len-one_insert, old_len-one_set, new_len-one_set, old_len-one_remove, new_len-one_remove}
use Rattle.gl_delta.specs.declared.cell.Cell.{Cell}
use Rattle.gl_delta.specs.Cells.{cell_of}
use Rattle.gl_delta.specs.Pieces.{IsKept, IsComposed, IsPushed}
use Rattle.gl_delta.proofs.Cuts.{length_few}
use Rattle.gl_delta.proofs.Forms.{normal_undeleted}

pub few_pieces : (ps : List Piece) (olds news : ℕ) → IsKept ps olds news → length ps ≤ 4294967294
few_pieces ps olds news k = omega (arith, length_few ps, k.olds_is, k.news_is, k.olds_few, k.news_few)

-- there is a piece more to come, of a list that stays within the limit
pub few_more : (ps : List Piece) (olds news a b : ℕ) → IsKept ps olds news → old_len ps + a ≤ 2147483647 → new_len ps + b ≤ 2147483647 → 1 ≤ a + b → length ps + 1 ≤ 4294967294
few_more ps olds news a b k f g h = omega (arith, length_few ps, f, g, h)

begins_kept : (n : ℕ) → BeginsUndeleted (identity n)
begins_kept zero = tt
begins_kept (suc n) = tt

pub kept_identity : (ps : List Piece) (len : ℕ) → ps ≡ identity len → len ≤ 2147483647 → IsKept ps len len
kept_identity ps len e h =
    let P : List Piece → Type 0 = λ qs. IsKept qs len len in
    subst P (sym e) (record {
      olds_is = sym (old_len-identity len);
      news_is = sym (new_len-identity len);
      olds_few = h;
      news_few = h;
      normal = identity_normal len;
    })

pub kept_inserted : (ps qs : List Piece) (olds news at : ℕ) (v : Tree) → IsKept ps olds news → IsComposed ps (one_insert (new_len ps) at v) qs → at ≤ new_len ps → new_len ps + 1 ≤ 2147483647 → IsKept qs olds (news + 1)
kept_inserted ps qs olds news at v k c h f =
    let fit : new_len ps ≡ old_len (one_insert (new_len ps) at v) = sym (old_len-one_insert (new_len ps) at v h) in
    let o : old_len qs ≡ old_len ps = ap old_len c.value ∙ old_len-composed ps (one_insert (new_len ps) at v) fit in
    let n : new_len qs ≡ new_len ps + 1 = ap new_len c.value ∙ (new_len-composed ps (one_insert (new_len ps) at v) fit ∙ new_len-one_insert (new_len ps) at v h) in
    record { olds_is = k.olds_is ∙ sym o; news_is = omega (arith, n, k.news_is); olds_few = k.olds_few; news_few = omega (arith, k.news_is, f); normal = c.normal }

pub kept_set : (ps qs : List Piece) (olds news at : ℕ) (v w : Tree) → IsKept ps olds news → IsComposed ps (one_set (new_len ps) at v w) qs → at < new_len ps → IsKept qs olds news
kept_set ps qs olds news at v w k c h =
    let fit : new_len ps ≡ old_len (one_set (new_len ps) at v w) = sym (old_len-one_set (new_len ps) at v w h) in
    let o : old_len qs ≡ old_len ps = ap old_len c.value ∙ old_len-composed ps (one_set (new_len ps) at v w) fit in
    let n : new_len qs ≡ new_len ps = ap new_len c.value ∙ (new_len-composed ps (one_set (new_len ps) at v w) fit ∙ new_len-one_set (new_len ps) at v w h) in
    record { olds_is = k.olds_is ∙ sym o; news_is = k.news_is ∙ sym n; olds_few = k.olds_few; news_few = k.news_few; normal = c.normal }

pub kept_removed : (ps qs : List Piece) (olds news at : ℕ) (v : Tree) → IsKept ps olds news → IsComposed ps (one_remove (new_len ps) at v) qs → at < new_len ps → IsKept qs olds (news - 1)
kept_removed ps qs olds news at v k c h =
    let fit : new_len ps ≡ old_len (one_remove (new_len ps) at v) = sym (old_len-one_remove (new_len ps) at v h) in
    let o : old_len qs ≡ old_len ps = ap old_len c.value ∙ old_len-composed ps (one_remove (new_len ps) at v) fit in
    let n : new_len qs ≡ new_len (one_remove (new_len ps) at v) = ap new_len c.value ∙ new_len-composed ps (one_remove (new_len ps) at v) fit in
    record { olds_is = k.olds_is ∙ sym o; news_is = omega (arith, n, new_len-one_remove (new_len ps) at v h, k.news_is); olds_few = k.olds_few; news_few = omega (arith, k.news_few); normal = c.normal }

pub kept_pushed : (ps qs : List Piece) (x : Piece) (olds news olds' news' : ℕ) → IsKept ps olds news → IsPushed ps x qs → olds' ≡ olds + old_len (x ∷ []) → news' ≡ news + new_len (x ∷ []) → old_len ps + old_len (x ∷ []) ≤ 2147483647 → new_len ps + new_len (x ∷ []) ≤ 2147483647 → IsKept qs olds' news'
kept_pushed ps qs x olds news olds' news' k p e f g h =
    let o : old_len qs ≡ old_len ps + old_len (x ∷ []) = ap old_len p.value ∙ (old_len-normal (ps ++ x ∷ []) ∙ old_len-append ps (x ∷ [])) in
    let n : new_len qs ≡ new_len ps + new_len (x ∷ []) = ap new_len p.value ∙ (new_len-normal (ps ++ x ∷ []) ∙ new_len-append ps (x ∷ [])) in
    record { olds_is = omega (arith, o, e, k.olds_is); news_is = omega (arith, n, f, k.news_is); olds_few = omega (arith, e, k.olds_is, g); news_few = omega (arith, f, k.news_is, h); normal = p.normal }

pub normal_keep : (ps : List Piece) (n : ℕ) → IsNormal ps → IsNormal (ps ++ identity n)
normal_keep ps n h = normal_undeleted ps (identity n) h (begins_kept n) (identity_normal n)

pub kept_more : (ps qs : List Piece) (olds news n : ℕ) → IsKept ps olds news → qs ≡ ps ++ identity n → old_len ps + old_len (identity n) ≤ 2147483647 → new_len ps + new_len (identity n) ≤ 2147483647 → IsKept qs (olds + n) (news + n)
kept_more ps qs olds news n k e f g =
    let N : List Piece → Type 0 = IsNormal in
    let o : old_len qs ≡ old_len ps + old_len (identity n) = ap old_len e ∙ old_len-append ps (identity n) in
    let m : new_len qs ≡ new_len ps + new_len (identity n) = ap new_len e ∙ new_len-append ps (identity n) in
    record {
      olds_is = omega (arith, o, old_len-identity n, k.olds_is);
      news_is = omega (arith, m, new_len-identity n, k.news_is);
      olds_few = omega (arith, old_len-identity n, k.olds_is, f);
      news_few = omega (arith, new_len-identity n, k.news_is, g);
      normal = subst N (sym e) (normal_keep ps n k.normal);
    }

pub keeps_fit : (ps : List Piece) (olds news n : ℕ) → IsKept ps olds news → old_len ps + old_len (identity n) ≤ 2147483647 → new_len ps + new_len (identity n) ≤ 2147483647 → (length ps + n ≤ 4294967294) × (olds + n ≤ 2147483647) × (news + n ≤ 2147483647)
keeps_fit ps olds news n k f g =
    (omega (arith, length_few ps, old_len-identity n, new_len-identity n, f, g), omega (arith, k.olds_is, old_len-identity n, f), omega (arith, k.news_is, new_len-identity n, g))

-- a bound on the pieces that contracts see and a cell is one on the pieces inside and what the cell is
pub fits_at : (F : List Piece → ℕ) (ps ts : List Piece) (k c : Cell) → ps ≡ ts → k ≡ c → F ts + F (pieces_in (cell_of k)) ≤ 2147483647 → F ps + F (pieces_in (cell_of c)) ≤ 2147483647
fits_at F ps ts k c e f h =
    let P : List Piece → Type 0 = λ xs. F xs + F (pieces_in (cell_of c)) ≤ 2147483647 in
    let Q : Cell → Type 0 = λ x. F ts + F (pieces_in (cell_of x)) ≤ 2147483647 in
    subst P (sym e) (subst Q f h)
