-- All elements deleted, and all inserted.
use Rattle.std.proofs.Common.{◌≡◌, ◌+◌, ◌≤◌, ◌++◌, ℕ, zero, suc, List, [], ◌∷◌, length, map, take, Some, refl, sym, ap, ◌∙◌, arith, append_assoc}
use Rattle.std.specs.List.{slice_get}
use Rattle.std.proofs.lemmas.List.{map-append, length-map, length-take-le}
use Rattle.spec_sorting.specs.Tree.{Tree}
use Rattle.spec_sorting.specs.Piece.{Piece, kept, updated, deleted, inserted, old_len, new_len, normal}
use Rattle.spec_sorting.specs.Source.{element_at}
use Rattle.gl_sorted.specs.Replaced.{AreDeleted}

-- the values of the elements at these places
abbrev pub values_at : List Tree → List ℕ → List Tree
values_at xs is = map (element_at xs) is

normal_deleted : (vs : List Tree) → normal (map deleted vs) ≡ map deleted vs
normal_deleted [] = refl
normal_deleted (v ∷ vs) = ap (λ ps. deleted v ∷ ps) (normal_deleted vs)

normal_inserted : (vs : List Tree) → normal (map inserted vs) ≡ map inserted vs
normal_inserted [] = refl
normal_inserted (v ∷ []) = refl
normal_inserted (v ∷ w ∷ vs) = insert_is v w vs (normal_inserted (w ∷ vs))
  where
    insert_is : (v w : Tree) (vs : List Tree) → normal (map inserted (w ∷ vs)) ≡ map inserted (w ∷ vs) → normal (map inserted (v ∷ w ∷ vs)) ≡ map inserted (v ∷ w ∷ vs)
    insert_is v w vs e = rw e refl

normal_both : (ps : List Piece) (vs : List Tree) → AreDeleted ps → normal (ps ++ map inserted vs) ≡ ps ++ map inserted vs
normal_both [] vs d = normal_inserted vs
normal_both (kept ∷ ps) vs d = absurd d
normal_both (updated v w ∷ ps) vs d = absurd d
normal_both (deleted v ∷ ps) vs d = ap (λ qs. deleted v ∷ qs) (normal_both ps vs d)
normal_both (inserted w ∷ ps) vs d = absurd d

-- the first of them, and one more
take_one : (is : List ℕ) (place i : ℕ) → slice_get is place ≡ Some i → take (place + 1) is ≡ take place is ++ i ∷ []
take_one [] place i e = absurd cc
take_one (j ∷ is) zero i e = let same : j ≡ i = cc in ap (λ k. k ∷ []) same
take_one (j ∷ is) (suc place) i e = let n : suc place + 1 ≡ suc (place + 1) = omega arith in ap (λ k. take k (j ∷ is)) n ∙ ap (λ ks. j ∷ ks) (take_one is place i e)

one_value : (xs : List Tree) (i : ℕ) (v : Tree) → slice_get xs i ≡ Some v → v ≡ element_at xs i
one_value [] i v e = absurd cc
one_value (x ∷ xs) zero v e = cc
one_value (x ∷ xs) (suc i) v e = one_value xs i v e

values_more : (xs : List Tree) (is : List ℕ) (place i : ℕ) (v : Tree) → slice_get is place ≡ Some i → slice_get xs i ≡ Some v → values_at xs (take place is) ++ v ∷ [] ≡ values_at xs (take (place + 1) is)
values_more xs is place i v at value =
    ap (λ w. values_at xs (take place is) ++ w ∷ []) (one_value xs i v value)
    ∙ (sym (map-append (element_at xs) (take place is) (i ∷ [])) ∙ ap (values_at xs) (sym (take_one is place i at)))

pub deleted_more : (xs : List Tree) (is : List ℕ) (place i : ℕ) (v w : Tree) (out more : List Piece) → out ≡ map deleted (values_at xs (take place is)) → slice_get is place ≡ Some i → slice_get xs i ≡ Some v → w ≡ v → more ≡ normal (out ++ deleted w ∷ []) → more ≡ map deleted (values_at xs (take (place + 1) is))
deleted_more xs is place i v w out more was at value copied told =
    let vs = values_at xs (take place is) in
    told ∙ (ap (λ ps. normal (ps ++ deleted w ∷ [])) was ∙ (ap (λ u. normal (map deleted vs ++ deleted u ∷ [])) copied
    ∙ (ap normal (sym (map-append deleted vs (v ∷ []))) ∙ (normal_deleted (vs ++ v ∷ []) ∙ ap (map deleted) (values_more xs is place i v at value)))))

pub inserted_more : (start : List Piece) (xs : List Tree) (is : List ℕ) (place i : ℕ) (v w : Tree) (out more : List Piece) → AreDeleted start → out ≡ start ++ map inserted (values_at xs (take place is)) → slice_get is place ≡ Some i → slice_get xs i ≡ Some v → w ≡ v → more ≡ normal (out ++ inserted w ∷ []) → more ≡ start ++ map inserted (values_at xs (take (place + 1) is))
inserted_more start xs is place i v w out more d was at value copied told =
    let vs = values_at xs (take place is) in
    told ∙ (ap (λ ps. normal (ps ++ inserted w ∷ [])) was ∙ (ap (λ u. normal ((start ++ map inserted vs) ++ inserted u ∷ [])) copied
    ∙ (ap normal (append_assoc start (map inserted vs) (inserted v ∷ []) ∙ ap (λ ps. start ++ ps) (sym (map-append inserted vs (v ∷ []))))
    ∙ (normal_both start (vs ++ v ∷ []) d ∙ ap (λ us. start ++ map inserted us) (values_more xs is place i v at value)))))

pub old_deleted : (vs : List Tree) → old_len (map deleted vs) ≡ length vs
old_deleted [] = refl
old_deleted (v ∷ vs) = ap suc (old_deleted vs)

pub new_deleted : (vs : List Tree) → new_len (map deleted vs) ≡ 0
new_deleted [] = refl
new_deleted (v ∷ vs) = new_deleted vs

pub old_both : (ps : List Piece) (vs : List Tree) → old_len (ps ++ map inserted vs) ≡ old_len ps
old_both [] [] = refl
old_both [] (v ∷ vs) = old_both [] vs
old_both (kept ∷ ps) vs = ap suc (old_both ps vs)
old_both (updated v w ∷ ps) vs = ap suc (old_both ps vs)
old_both (deleted v ∷ ps) vs = ap suc (old_both ps vs)
old_both (inserted w ∷ ps) vs = old_both ps vs

pub new_both : (ps : List Piece) (vs : List Tree) → AreDeleted ps → new_len (ps ++ map inserted vs) ≡ length vs
new_both [] [] d = refl
new_both [] (v ∷ vs) d = ap suc (new_both [] vs d)
new_both (kept ∷ ps) vs d = absurd d
new_both (updated v w ∷ ps) vs d = absurd d
new_both (deleted v ∷ ps) vs d = new_both ps vs d
new_both (inserted w ∷ ps) vs d = absurd d

pub deleted_only : (vs : List Tree) → AreDeleted (map deleted vs)
deleted_only [] = tt
deleted_only (v ∷ vs) = deleted_only vs

pub few_values : (xs : List Tree) (is : List ℕ) (place : ℕ) → place ≤ length is → length (values_at xs (take place is)) ≡ place
few_values xs is place within = length-map (take place is) (element_at xs) ∙ length-take-le place is within
