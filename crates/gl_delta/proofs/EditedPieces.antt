-- Edits of a list of pieces, and the compositions that they are.
use Rattle.std.proofs.Common.{◌≡◌, ◌∙◌, ℕ, suc, ◌≤◌, List, [], ◌∷◌, ◌++◌, length, take, drop, Some, slice_get, true, false, refl, ap, sym, subst}
use Rattle.std.specs.List.{insert, remove}
use Rattle.std.proofs.lemmas.List.{take-append-drop}
use Rattle.spec_value.specs.Tree.{Tree}
use Rattle.spec_lists.specs.Piece.{Piece, kept, updated, deleted, inserted, new_len, normal, IsNormal, BeginsUndeleted}
use Rattle.spec_lists.specs.Delta.{composed, one_insert, one_set, one_remove}
use Rattle.spec_lists.proofs.Normal.{normal_is, IsNormal-normal}
use Rattle.spec_lists.proofs.DeltaChanges.{insert_is, set_kept, set_updated, set_inserted, remove_kept, remove_updated, remove_inserted}
use Rattle.gl_delta.specs.declared.mark.Side.TheVariants.{New}
use Rattle.gl_delta.specs.declared.mark.Changed.{Changed}
use Rattle.gl_delta.specs.declared.mark.Changed.TheVariants.{Updated, Deleted, Inserted}
use Rattle.gl_delta.specs.Marks.{BeginsOn, IsSelected, IsOn, piece_of}
use Rattle.gl_delta.specs.Pieces.{is_inserted_piece, first_of, with_new, IsComposed}
use Rattle.gl_delta.proofs.Cuts.{cut_at, taken_put, drop_get, replaced_ends, inserted_from_test}
use Rattle.gl_delta.proofs.Forms.{normal_insert, normal_pair, normal_lone, normal_gone, normal_prefix, normal_back}

begins_new : (ps : List Piece) → BeginsOn New ps → BeginsUndeleted ps
begins_new [] h = tt
begins_new (kept ∷ ps) h = tt
begins_new (updated v w ∷ ps) h = tt
begins_new (deleted v ∷ ps) h = h
begins_new (inserted w ∷ ps) h = tt

-- a value inserted at a place
pub inserted_at : (ps : List Piece) (at i : ℕ) (v : Tree) → IsSelected New ps at i → IsNormal ps → (insert ps i (inserted v) ≡ composed ps (one_insert (new_len ps) at v)) × IsNormal (insert ps i (inserted v))
inserted_at ps at i v s h =
    let whole : take i ps ++ drop i ps ≡ ps = take-append-drop i ps in
    let N : List Piece → Type 0 = IsNormal in
    let normal_new : IsNormal (take i ps ++ inserted v ∷ drop i ps) = normal_insert (take i ps) (drop i ps) v (subst N (sym whole) h) (begins_new (drop i ps) s.here) in
    let made : composed (take i ps ++ drop i ps) (one_insert (new_len ps) at v) ≡ normal (take i ps ++ inserted v ∷ drop i ps) = insert_is (take i ps) (drop i ps) (new_len ps) at v (ap new_len (sym whole)) (sym s.before) in
    (sym (ap (λ qs. composed qs (one_insert (new_len ps) at v)) (sym whole) ∙ (made ∙ normal_is _ normal_new)), normal_new)

-- the element at a place of the new list, set or removed: by what became of it
module _ (ps : List Piece) (at i : ℕ) (selected : IsSelected New ps at i) (normal_form : IsNormal ps) where
  whole_cut : (x : Piece) → slice_get ps i ≡ Some x → IsNormal (take i ps ++ x ∷ drop (suc i) ps)
  whole_cut x e = let N : List Piece → Type 0 = IsNormal in subst N (sym (cut_at ps i x e)) normal_form

  len_cut : (x : Piece) → slice_get ps i ≡ Some x → new_len ps ≡ new_len (take i ps ++ x ∷ drop (suc i) ps)
  len_cut x e = ap new_len (sym (cut_at ps i x e))

  pub set_at_kept : (v w : Tree) → slice_get ps i ≡ Some kept → (take i ps ++ updated v w ∷ drop (suc i) ps ≡ composed ps (one_set (new_len ps) at v w)) × IsNormal (take i ps ++ updated v w ∷ drop (suc i) ps)
  set_at_kept v w e =
      let form = normal_pair (take i ps) (drop (suc i) ps) kept v w (whole_cut kept e) in
      (sym (ap (λ qs. composed qs (one_set (new_len ps) at v w)) (sym (cut_at ps i kept e)) ∙ (set_kept (take i ps) (drop (suc i) ps) (new_len ps) at v w (len_cut kept e) (sym selected.before) ∙ normal_is _ form)), form)

  pub set_at_updated : (x y v w : Tree) → slice_get ps i ≡ Some (updated x y) → (take i ps ++ updated x w ∷ drop (suc i) ps ≡ composed ps (one_set (new_len ps) at v w)) × IsNormal (take i ps ++ updated x w ∷ drop (suc i) ps)
  set_at_updated x y v w e =
      let form = normal_pair (take i ps) (drop (suc i) ps) (updated x y) x w (whole_cut (updated x y) e) in
      (sym (ap (λ qs. composed qs (one_set (new_len ps) at v w)) (sym (cut_at ps i (updated x y) e)) ∙ (set_updated (take i ps) (drop (suc i) ps) (new_len ps) at x y v w (len_cut (updated x y) e) (sym selected.before) ∙ normal_is _ form)), form)

  pub set_at_inserted : (y v w : Tree) → slice_get ps i ≡ Some (inserted y) → (take i ps ++ inserted w ∷ drop (suc i) ps ≡ composed ps (one_set (new_len ps) at v w)) × IsNormal (take i ps ++ inserted w ∷ drop (suc i) ps)
  set_at_inserted y v w e =
      let form = normal_lone (take i ps) (drop (suc i) ps) y w (whole_cut (inserted y) e) in
      (sym (ap (λ qs. composed qs (one_set (new_len ps) at v w)) (sym (cut_at ps i (inserted y) e)) ∙ (set_inserted (take i ps) (drop (suc i) ps) (new_len ps) at y v w (len_cut (inserted y) e) (sym selected.before) ∙ normal_is _ form)), form)

  pub removed_kept : (v : Tree) → slice_get ps i ≡ Some kept → normal (take i ps ++ deleted v ∷ drop (suc i) ps) ≡ composed ps (one_remove (new_len ps) at v)
  removed_kept v e = sym (ap (λ qs. composed qs (one_remove (new_len ps) at v)) (sym (cut_at ps i kept e)) ∙ remove_kept (take i ps) (drop (suc i) ps) (new_len ps) at v (len_cut kept e) (sym selected.before))

  pub removed_updated : (x y v : Tree) → slice_get ps i ≡ Some (updated x y) → normal (take i ps ++ deleted x ∷ drop (suc i) ps) ≡ composed ps (one_remove (new_len ps) at v)
  removed_updated x y v e = sym (ap (λ qs. composed qs (one_remove (new_len ps) at v)) (sym (cut_at ps i (updated x y) e)) ∙ remove_updated (take i ps) (drop (suc i) ps) (new_len ps) at x y v (len_cut (updated x y) e) (sym selected.before))

  pub removed_inserted : (y v : Tree) → slice_get ps i ≡ Some (inserted y) → (remove ps i ≡ composed ps (one_remove (new_len ps) at v)) × IsNormal (remove ps i)
  removed_inserted y v e =
      let form : IsNormal (take i ps ++ drop (suc i) ps) = normal_gone (take i ps) (drop (suc i) ps) y (whole_cut (inserted y) e) in
      (sym (ap (λ qs. composed qs (one_remove (new_len ps) at v)) (sym (cut_at ps i (inserted y) e)) ∙ (remove_inserted (take i ps) (drop (suc i) ps) (new_len ps) at y v (len_cut (inserted y) e) (sym selected.before) ∙ normal_is _ form)), form)

not_deleted : (ps : List Piece) (at i : ℕ) (v : Tree) → IsSelected New ps at i → slice_get ps i ≡ Some (deleted v) → ⊥
not_deleted ps at i v s e = let B : List Piece → Type 0 = BeginsOn New in let h : BeginsOn New (deleted v ∷ drop (suc i) ps) = subst B (drop_get ps i (deleted v) e) s.here in h

-- a changed element of the new list with another value
pub set_changed : (ps : List Piece) (at i : ℕ) (x : Changed) (v w : Tree) → IsSelected New ps at i → IsNormal ps → slice_get ps i ≡ Some (piece_of x) → IsComposed ps (one_set (new_len ps) at v w) (insert (remove ps i) i (piece_of (with_new x w)))
set_changed ps at i (Updated a b) v w s h e =
    let g = set_at_updated ps at i s h a b v w e in
    let put = taken_put ps i (updated a b) (updated a w) e in
    let N : List Piece → Type 0 = IsNormal in
    record { value = put ∙ g.0; normal = subst N (sym put) g.1 }
set_changed ps at i (Deleted a) v w s h e = absurd (not_deleted ps at i a s e)
set_changed ps at i (Inserted a) v w s h e =
    let g = set_at_inserted ps at i s h a v w e in
    let put = taken_put ps i (inserted a) (inserted w) e in
    let N : List Piece → Type 0 = IsNormal in
    record { value = put ∙ g.0; normal = subst N (sym put) g.1 }

pub set_fresh : (ps : List Piece) (at i : ℕ) (v w : Tree) → IsSelected New ps at i → IsNormal ps → slice_get ps i ≡ Some kept → IsComposed ps (one_set (new_len ps) at v w) (take i ps ++ updated v w ∷ drop (suc i) ps)
set_fresh ps at i v w s h e = let g = set_at_kept ps at i s h v w e in record { value = g.0; normal = g.1 }

pub on_new : (ps : List Piece) (at i : ℕ) (x : Changed) → IsSelected New ps at i → slice_get ps i ≡ Some (piece_of x) → IsOn New x ≡ true
on_new ps at i (Updated a b) s e = refl
on_new ps at i (Deleted a) s e = absurd (not_deleted ps at i a s e)
on_new ps at i (Inserted a) s e = refl

-- a deletion put in place of a piece: what stands before it and from it on is in normal form
pub struck_parts : (ps qs : List Piece) (i : ℕ) (v : Tree) → IsNormal ps → i ≤ length ps → qs ≡ take i ps ++ deleted v ∷ drop (suc i) ps → IsNormal (take i qs) × IsNormal (drop i qs)
struck_parts ps qs i v n h e =
    let N : List Piece → Type 0 = IsNormal in
    let ends = replaced_ends ps i (deleted v) h in
    let prefix : IsNormal (take i ps) = normal_prefix (take i ps) (drop i ps) (subst N (sym (take-append-drop i ps)) n) in
    let back : IsNormal (drop (suc i) ps) = normal_back (take (suc i) ps) (drop (suc i) ps) (subst N (sym (take-append-drop (suc i) ps)) n) in
    (subst N (sym (ap (take i) e ∙ ends.0)) prefix, subst N (sym (ap (drop i) e ∙ ends.1)) back)

pub struck_kept : (ps qs : List Piece) (at i : ℕ) (v : Tree) → IsSelected New ps at i → IsNormal ps → slice_get ps i ≡ Some kept → qs ≡ take i ps ++ deleted v ∷ drop (suc i) ps → IsComposed ps (one_remove (new_len ps) at v) (normal qs)
struck_kept ps qs at i v s n e f = record { value = ap normal f ∙ removed_kept ps at i s n v e; normal = IsNormal-normal qs }

pub struck_changed : (ps qs : List Piece) (at i : ℕ) (x : Changed) (v : Tree) → IsSelected New ps at i → IsNormal ps → slice_get ps i ≡ Some (piece_of x) → is_inserted_piece (slice_get ps i) ≡ false → qs ≡ take i ps ++ deleted (first_of x) ∷ drop (suc i) ps → IsComposed ps (one_remove (new_len ps) at v) (normal qs)
struck_changed ps qs at i (Updated a b) v s n e t f = record { value = ap normal f ∙ removed_updated ps at i s n a b v e; normal = IsNormal-normal qs }
struck_changed ps qs at i (Deleted a) v s n e t f = absurd (not_deleted ps at i a s e)
struck_changed ps qs at i (Inserted a) v s n e t f = let c : true ≡ false = sym (ap is_inserted_piece e) ∙ t in absurd (true_false c)
  where
    true_false : true ≡ false → ⊥
    true_false g = cc

pub struck_inserted : (ps : List Piece) (at i : ℕ) (v : Tree) → IsSelected New ps at i → IsNormal ps → is_inserted_piece (slice_get ps i) ≡ true → IsComposed ps (one_remove (new_len ps) at v) (remove ps i)
struck_inserted ps at i v s n t = let x = inserted_from_test ps i t in let g = removed_inserted ps at i s n x.0 v x.1 in record { value = g.0; normal = g.1 }
