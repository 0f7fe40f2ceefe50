-- What edits tell, built a change at a time.
use Rattle.std.specs.Prelude.{◌≡◌, ℕ, zero, suc, ◌+◌, ◌-◌, ◌<◌, ◌≤◌, List, [], ◌∷◌, ◌++◌, length, map, take, slice_get, Some, unwrap_or, pos}
use Rattle.std.proofs.Common.{ap, sym, ◌∙◌, arith, append_assoc}
use Rattle.spec_value.specs.Tree.{Tree, num}
use Rattle.spec_lists.specs.Piece.{Piece, updated, deleted, inserted, identity, old_len, new_len, normal, IsNormal}
use Rattle.spec_lists.specs.Delta.{composed, one_insert, one_set, one_remove}
use Rattle.spec_lists.proofs.Normal.{normal_is}
use Rattle.spec_lists.proofs.Composition.{identity_is_neutral}
use Rattle.spec_lists.proofs.Lengths.{old_len-identity, new_len-identity, old_len-one_insert, old_len-one_set, old_len-one_remove, old_len-inserted, new_len-inserted, old_len-deleted, new_len-deleted}
use Rattle.spec_lists.proofs.DeltaChanges.{old_len-append, new_len-append}
use Rattle.spec_lists.proofs.DeltaEdits.{around_normal, append_normal, clear_normal}
use Rattle.spec_views.specs.Source.{element_at}
use Rattle.gl_kernel.specs.Plans.{CanTell}
use Rattle.spec_lists.proofs.Made.{length-take_to}

-- a change made to a list that didn't change before
first_change : (n : ℕ) (c : List Piece) → IsNormal c → old_len c ≡ n → composed (identity n) c ≡ c
first_change n c h e = ap (λ k. composed (identity k) c) (sym e) ∙ (identity_is_neutral c h).0

pub one_inserted : (ps qs : List Piece) (n at : ℕ) (v : Tree) → ps ≡ identity n → at ≤ n → qs ≡ composed ps (one_insert (new_len ps) at v) → qs ≡ one_insert n at v
one_inserted ps qs n at v e h f =
    f ∙ (ap (λ rs. composed rs (one_insert (new_len rs) at v)) e
    ∙ (ap (λ k. composed (identity n) (one_insert k at v)) (new_len-identity n)
    ∙ first_change n (one_insert n at v) (around_normal at (n - at) (inserted v)) (old_len-one_insert n at v h)))

pub one_updated : (ps qs : List Piece) (n at : ℕ) (v w : Tree) → ps ≡ identity n → at < n → qs ≡ composed ps (one_set (new_len ps) at v w) → qs ≡ one_set n at v w
one_updated ps qs n at v w e h f =
    f ∙ (ap (λ rs. composed rs (one_set (new_len rs) at v w)) e
    ∙ (ap (λ k. composed (identity n) (one_set k at v w)) (new_len-identity n)
    ∙ first_change n (one_set n at v w) (around_normal at (n - suc at) (updated v w)) (old_len-one_set n at v w h)))

pub one_removed : (ps qs : List Piece) (n at : ℕ) (v : Tree) → ps ≡ identity n → at < n → qs ≡ composed ps (one_remove (new_len ps) at v) → qs ≡ one_remove n at v
one_removed ps qs n at v e h f =
    f ∙ (ap (λ rs. composed rs (one_remove (new_len rs) at v)) e
    ∙ (ap (λ k. composed (identity n) (one_remove k at v)) (new_len-identity n)
    ∙ first_change n (one_remove n at v) (around_normal at (n - suc at) (deleted v)) (old_len-one_remove n at v h)))

pub unchanged_len : (ps : List Piece) (n : ℕ) → ps ≡ identity n → new_len ps ≡ n
unchanged_len ps n e = ap new_len e ∙ new_len-identity n

pub element_is : (xs : List Tree) (at : ℕ) (v : Tree) → slice_get xs at ≡ Some v → v ≡ element_at xs at
element_is xs at v e = ap (λ o. unwrap_or o (num (pos 0))) (sym e)

-- one element further on
next_mapped : (f : Tree → Piece) (xs : List Tree) (i : ℕ) (x : Tree) → slice_get xs i ≡ Some x → map f (take i xs) ++ f x ∷ [] ≡ map f (take (suc i) xs)
next_mapped f [] zero x e = cc
next_mapped f [] (suc i) x e = cc
next_mapped f (y ∷ xs) zero x e = first x y e
  where
    first : (a b : Tree) → Some b ≡ Some a → f a ∷ [] ≡ f b ∷ []
    first a b g = cc
next_mapped f (y ∷ xs) (suc i) x e = ap (λ ps. f y ∷ ps) (next_mapped f xs i x e)

pub appended_more : (n : ℕ) (xs : List Tree) (i : ℕ) (x : Tree) (ps qs : List Piece) → slice_get xs i ≡ Some x → ps ≡ identity n ++ map inserted (take i xs) → qs ≡ normal (ps ++ inserted x ∷ []) → qs ≡ identity n ++ map inserted (take (suc i) xs)
appended_more n xs i x ps qs e h f =
    let whole : ps ++ inserted x ∷ [] ≡ identity n ++ map inserted (take (suc i) xs) =
    ap (λ rs. rs ++ inserted x ∷ []) h ∙ (append_assoc (identity n) (map inserted (take i xs)) (inserted x ∷ []) ∙ ap (λ rs. identity n ++ rs) (next_mapped inserted xs i x e)) in
    f ∙ (ap normal whole ∙ normal_is (identity n ++ map inserted (take (suc i) xs)) (append_normal n (take (suc i) xs)))

pub cleared_more : (xs : List Tree) (i : ℕ) (x : Tree) (ps qs : List Piece) → slice_get xs i ≡ Some x → ps ≡ map deleted (take i xs) → qs ≡ normal (ps ++ deleted x ∷ []) → qs ≡ map deleted (take (suc i) xs)
cleared_more xs i x ps qs e h f =
    let whole : ps ++ deleted x ∷ [] ≡ map deleted (take (suc i) xs) = ap (λ rs. rs ++ deleted x ∷ []) h ∙ next_mapped deleted xs i x e in
    f ∙ (ap normal whole ∙ normal_is (map deleted (take (suc i) xs)) (clear_normal (take (suc i) xs)))

pub can_append : (n : ℕ) (xs : List Tree) (i : ℕ) (x : Tree) (ps : List Piece) → ps ≡ identity n ++ map inserted (take i xs) → i < length xs → n + length xs ≤ 2147483647 → CanTell (inserted x ∷ []) ps
can_append n xs i x ps e h few = record {
  olds = omega (arith, ap old_len e, old_len-append (identity n) (map inserted (take i xs)), old_len-identity n, old_len-inserted (take i xs), few);
  news = omega (arith, ap new_len e, new_len-append (identity n) (map inserted (take i xs)), new_len-identity n, new_len-inserted (take i xs), length-take_to xs i h, h, few);
}

pub can_clear : (xs : List Tree) (i : ℕ) (x : Tree) (ps : List Piece) → ps ≡ map deleted (take i xs) → i < length xs → length xs ≤ 2147483647 → CanTell (deleted x ∷ []) ps
can_clear xs i x ps e h few = record {
  olds = omega (arith, ap old_len e, old_len-deleted (take i xs), length-take_to xs i h, h, few);
  news = omega (arith, ap new_len e, new_len-deleted (take i xs));
}
