-- What is told of the children is what the definition tells, and it is told part by part.
use Rattle.std.specs.Prelude.{◌≡◌, ℕ, zero, suc, ◌+◌, ◌≤◌, List, [], ◌∷◌, ◌++◌, length, map, flat_map, take, drop, sum, min, get_or, slice_get, Some, refl}
use Rattle.std.proofs.Common.{ap, sym, ◌∙◌, arith, subst, append_assoc}
use Rattle.std.proofs.lemmas.List.{replicate-append-replicate, append-nil, length-drop}
use Rattle.gl_joined.specs.Tree.{Tree}
use Rattle.gl_joined.specs.Piece.{Piece, kept, updated, deleted, inserted, identity, old_len, new_len, normal}
use Rattle.gl_joined.specs.Pairs.{pairs}
use Rattle.gl_joined.specs.Leads.{LeadsFrom, applied, IsDelta}
use Rattle.gl_joined.specs.Making.{pieces_by}
use Rattle.gl_joined.proofs.DeltaEdits.{identity_leads_by, all_inserted, clear_leads}
use Rattle.gl_joined.proofs.DeltaLeads.{length_from, length-applied}
use Rattle.gl_joined.proofs.Made.{leads_append}
use Rattle.spec_views.specs.Collection.{collection_follow}
use Rattle.gl_joined.proofs.Entries.{sum-first}
use Rattle.gl_joined.proofs.Joined.{joined_len}
use Rattle.gl_kernel.proofs.ReadValues.{drop_at}
use Rattle.gl_collection.specs.Told.{child_len, child_updates, told_children}
use Rattle.gl_collection.proofs.Made.{made_by}
use Rattle.gl_collection.proofs.Pairs.{pairs_are}

updates_lead : (xs ys : List Tree) → IsDelta (child_updates xs ys) xs ys
updates_lead [] ys = all_inserted ys
updates_lead (x ∷ xs) [] = clear_leads (x ∷ xs)
updates_lead (x ∷ xs) (y ∷ ys) = let h = updates_lead xs ys in record { starts = (refl, h.starts); ends = ap (λ zs. y ∷ zs) h.ends }

drop_nothing : (n : ℕ) → (let none : List ℕ = [] in drop n none ≡ none)
drop_nothing zero = refl
drop_nothing (suc n) = refl

drop_next : (n : ℕ) (ns : List ℕ) → drop n (drop 1 ns) ≡ drop (suc n) ns
drop_next n [] = drop_nothing n
drop_next n (m ∷ ns) = refl

drop_more : (m n k : ℕ) (ns : List ℕ) → k ≡ m + n → drop n (drop m ns) ≡ drop k ns
drop_more zero n k ns e = let g : n ≡ k = omega (arith, e) in ap (λ i. drop i ns) g
drop_more (suc m) n zero ns e = absurd (omega (arith, e))
drop_more (suc m) n (suc k) [] e = drop_nothing n
drop_more (suc m) n (suc k) (x ∷ ns) e = drop_more m n k ns (omega (arith, e))

module _ (f : Tree → List Tree) where
  -- it leads from the children of the old elements to those of the new ones
  pub children_lead : (ps : List Piece) (xs : List Tree) (lens : List ℕ) → LeadsFrom ps xs → lens ≡ map (child_len f) xs
      → IsDelta (told_children f lens ps) (flat_map f xs) (flat_map f (applied ps xs))
  children_lead [] [] lens h e = record { starts = tt; ends = refl }
  children_lead [] (x ∷ xs) lens h e = absurd h
  children_lead (kept ∷ ps) [] lens h e = absurd h
  children_lead (kept ∷ ps) (x ∷ xs) lens h e =
      leads_append _ _ _ _ _ _ (identity_leads_by (f x) (get_or lens 0 0) (sym (ap (λ ns. get_or ns 0 0) e))) (children_lead ps xs (drop 1 lens) h (ap (drop 1) e))
  children_lead (updated v w ∷ ps) [] lens h e = absurd h
  children_lead (updated v w ∷ ps) (x ∷ xs) lens h e =
      let P : Tree → Type 0 = λ z. IsDelta (child_updates (f z) (f w)) (f x) (f w) in
      leads_append _ _ _ _ _ _ (subst P h.0 (updates_lead (f x) (f w))) (children_lead ps xs (drop 1 lens) h.1 (ap (drop 1) e))
  children_lead (deleted v ∷ ps) [] lens h e = absurd h
  children_lead (deleted v ∷ ps) (x ∷ xs) lens h e =
      let P : Tree → Type 0 = λ z. IsDelta (map deleted (f z)) (f x) [] in
      leads_append (map deleted (f v)) _ (f x) [] _ _ (subst P h.0 (clear_leads (f x))) (children_lead ps xs (drop 1 lens) h.1 (ap (drop 1) e))
  children_lead (inserted w ∷ ps) xs lens h e = leads_append (map inserted (f w)) _ [] (f w) _ _ (all_inserted (f w)) (children_lead ps xs lens h e)

  pub follow_is : (ps : List Piece) (xs : List Tree) (lens : List ℕ) → LeadsFrom ps xs → lens ≡ map (child_len f) xs
      → normal (told_children f lens ps) ≡ collection_follow f xs ps
  follow_is ps xs lens h e =
      let d = children_lead ps xs lens h e in
      sym (made_by (told_children f lens ps) (flat_map f xs) d.starts)
      ∙ (ap (λ ys. pieces_by (flat_map f xs) ys (pairs (told_children f lens ps))) (sym d.ends)
      ∙ ap (pieces_by (flat_map f xs) (flat_map f (applied ps xs))) (pairs_are f ps xs lens h e))

  -- how many children there were and are
  pub old_children : (ps : List Piece) (xs : List Tree) (lens : List ℕ) → LeadsFrom ps xs → lens ≡ map (child_len f) xs → old_len (told_children f lens ps) ≡ sum lens
  old_children ps xs lens h e =
      let d = children_lead ps xs lens h e in
      sym (length_from (told_children f lens ps) (flat_map f xs) d.starts) ∙ sym (ap sum e ∙ joined_len f xs)

  pub new_children : (ps : List Piece) (xs ys : List Tree) (lens : List ℕ) → IsDelta ps xs ys → lens ≡ map (child_len f) xs → new_len (told_children f lens ps) ≡ length (flat_map f ys)
  new_children ps xs ys lens h e =
      let d = children_lead ps xs lens h.starts e in
      sym (length-applied (told_children f lens ps) (flat_map f xs) d.starts) ∙ (sym (ap length d.ends) ∙ ap (λ zs. length (flat_map f zs)) (sym h.ends))

  -- first the one part of the pieces is told, then the other
  pub told-append : (ps qs : List Piece) (lens : List ℕ) → told_children f lens (ps ++ qs) ≡ told_children f lens ps ++ told_children f (drop (old_len ps) lens) qs
  told-append [] qs lens = refl
  told-append (kept ∷ ps) qs lens = later (identity (get_or lens 0 0)) ps (told-append ps qs (drop 1 lens))
    where
      later : (a bs : List Piece) → told_children f (drop 1 lens) (ps ++ qs) ≡ told_children f (drop 1 lens) bs ++ told_children f (drop (old_len bs) (drop 1 lens)) qs
          → a ++ told_children f (drop 1 lens) (ps ++ qs) ≡ (a ++ told_children f (drop 1 lens) bs) ++ told_children f (drop (suc (old_len bs)) lens) qs
      later a bs g =
          ap (λ rs. a ++ rs) (g ∙ ap (λ ns. told_children f (drop 1 lens) bs ++ told_children f ns qs) (drop_next (old_len bs) lens)) ∙ sym (append_assoc a _ _)
  told-append (updated v w ∷ ps) qs lens =
      ap (λ rs. child_updates (f v) (f w) ++ rs) (told-append ps qs (drop 1 lens) ∙ ap (λ ns. told_children f (drop 1 lens) ps ++ told_children f ns qs) (drop_next (old_len ps) lens))
      ∙ sym (append_assoc (child_updates (f v) (f w)) _ _)
  told-append (deleted v ∷ ps) qs lens =
      ap (λ rs. map deleted (f v) ++ rs) (told-append ps qs (drop 1 lens) ∙ ap (λ ns. told_children f (drop 1 lens) ps ++ told_children f ns qs) (drop_next (old_len ps) lens))
      ∙ sym (append_assoc (map deleted (f v)) _ _)
  told-append (inserted w ∷ ps) qs lens = ap (λ rs. map inserted (f w) ++ rs) (told-append ps qs lens) ∙ sym (append_assoc (map inserted (f w)) _ _)

  pub told_split : (ps qs : List Piece) (lens : List ℕ) (i j : ℕ) → j ≡ i + old_len ps
      → told_children f (drop i lens) (ps ++ qs) ≡ told_children f (drop i lens) ps ++ told_children f (drop j lens) qs
  told_split ps qs lens i j e =
      told-append ps qs (drop i lens) ∙ ap (λ ns. told_children f (drop i lens) ps ++ told_children f ns qs) (drop_more i (old_len ps) j lens e)

  -- kept elements keep all their children
  pub keeps_told : (n : ℕ) (lens : List ℕ) → n ≤ length lens → told_children f lens (identity n) ≡ identity (sum (take n lens))
  keeps_told zero lens h = refl
  keeps_told (suc n) [] h = absurd (omega (arith, h))
  keeps_told (suc n) (m ∷ lens) h =
      ap (λ ps. identity m ++ ps) (keeps_told n lens (omega (arith, h)))
      ∙ (replicate-append-replicate m (sum (take n lens)) kept ∙ ap identity (sym (sum-first m (take n lens))))

-- one child of either more, and what is left where one of both has no more
pub updates_split : (xs ys : List Tree) (i : ℕ) (x y : Tree) → slice_get xs i ≡ Some x → slice_get ys i ≡ Some y
    → child_updates (drop i xs) (drop i ys) ≡ (updated x y ∷ []) ++ child_updates (drop (i + 1) xs) (drop (i + 1) ys)
updates_split xs ys i x y e g =
    ap (λ us. child_updates us (drop i ys)) (drop_at xs i x e) ∙ ap (λ vs. child_updates (x ∷ drop (i + 1) xs) vs) (drop_at ys i y g)

one_empty : (xs ys : List Tree) → min (length xs) (length ys) ≡ 0 → child_updates xs ys ≡ map deleted xs ++ map inserted ys
one_empty [] ys h = refl
one_empty (x ∷ xs) [] h = sym (append-nil (map deleted (x ∷ xs)))
one_empty (x ∷ xs) (y ∷ ys) h = absurd (omega (arith, h))

pub updates_rest : (xs ys : List Tree) (i : ℕ) → i ≡ min (length xs) (length ys) → child_updates (drop i xs) (drop i ys) ≡ map deleted (drop i xs) ++ map inserted (drop i ys)
updates_rest xs ys i e = one_empty (drop i xs) (drop i ys) (omega (arith, e, length-drop i xs, length-drop i ys))

pub updates_news : (xs ys : List Tree) → new_len (child_updates xs ys) ≡ length ys
updates_news xs ys = let h = updates_lead xs ys in sym (ap length h.ends ∙ length-applied (child_updates xs ys) xs h.starts)

-- the lengths from one position to another
pub sum_between : (ns : List ℕ) (i n k : ℕ) → k ≡ i + n → sum (take k ns) ≡ sum (take i ns) + sum (take n (drop i ns))
sum_between ns zero n k e = let g : k ≡ n = omega (arith, e) in omega (arith, ap (λ j. sum (take j ns)) g)
sum_between ns (suc i) n zero e = absurd (omega (arith, e))
sum_between [] (suc i) zero (suc k) e = refl
sum_between [] (suc i) (suc n) (suc k) e = refl
sum_between (m ∷ ns) (suc i) n (suc k) e = omega (arith, sum-first m (take k ns), sum-first m (take i ns), sum_between ns i n k (omega (arith, e)))
