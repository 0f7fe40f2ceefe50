-- What is told by the results that are kept is what the definition tells.
use Rattle.std.specs.Prelude.{◌≡◌, ℕ, zero, suc, pos, ◌+◌, ◌≤◌, List, [], ◌∷◌, ◌++◌, map, drop, slice_get, Some, refl}
use Rattle.std.proofs.Common.{ap, ◌∙◌, arith}
use Rattle.std.proofs.lemmas.Option.{get_or_from_slice_get}
use Rattle.spec_views.specs.Tree.{Tree, num}
use Rattle.spec_views.specs.Piece.{Piece, kept, updated, deleted, inserted, identity, old_len, new_len, normal, IsNormal}
use Rattle.spec_views.specs.Leads.{LeadsFrom}
use Rattle.spec_views.proofs.Normal.{normal_is}
use Rattle.spec_views.specs.Function.{function_follow}
use Rattle.spec_views.proofs.Follows.{function_normal}
use Rattle.gl_kernel.specs.Plans.{CanTell}
use Rattle.gl_kernel.proofs.Spreads.{can_tell_whole}
use Rattle.gl_kernel.proofs.ReadValues.{drop_first}
use Rattle.gl_function.specs.Told.{result_at, told_results}

same_updated : (v x w : Tree) (r s : List Piece) → v ≡ x → r ≡ s → updated v w ∷ r ≡ updated x w ∷ s
same_updated v x w r s e h = cc

same_deleted : (v x : Tree) (r s : List Piece) → v ≡ x → r ≡ s → deleted v ∷ r ≡ deleted x ∷ s
same_deleted v x r s e h = cc

told_is : (f : Tree → Tree) (vs xs : List Tree) (ps : List Piece) (i : ℕ) → LeadsFrom ps xs → drop i vs ≡ map f xs → told_results f vs i ps ≡ function_follow f ps
told_is f vs xs [] i h e = refl
told_is f vs [] (kept ∷ ps) i h e = absurd h
told_is f vs (x ∷ xs) (kept ∷ ps) i h e = let next = drop_first (num (pos 0)) vs i (f x) (map f xs) e in ap (λ qs. kept ∷ qs) (told_is f vs xs ps (suc i) h next.1)
told_is f vs [] (updated v w ∷ ps) i h e = absurd h
told_is f vs (x ∷ xs) (updated v w ∷ ps) i h e =
    let next = drop_first (num (pos 0)) vs i (f x) (map f xs) e in
    same_updated _ _ (f w) _ _ (next.0 ∙ ap f h.0) (told_is f vs xs ps (suc i) h.1 next.1)
told_is f vs [] (deleted v ∷ ps) i h e = absurd h
told_is f vs (x ∷ xs) (deleted v ∷ ps) i h e =
    let next = drop_first (num (pos 0)) vs i (f x) (map f xs) e in
    same_deleted _ _ _ _ (next.0 ∙ ap f h.0) (told_is f vs xs ps (suc i) h.1 next.1)
told_is f vs xs (inserted w ∷ ps) i h e = ap (λ qs. inserted (f w) ∷ qs) (told_is f vs xs ps i h e)

pub follow_is : (f : Tree → Tree) (xs : List Tree) (ps : List Piece) → LeadsFrom ps xs → IsNormal ps → normal (told_results f (map f xs) 0 ps) ≡ function_follow f ps
follow_is f xs ps h n = ap normal (told_is f (map f xs) xs ps 0 h refl) ∙ normal_is (function_follow f ps) (function_normal f ps n)

from_same : (f : Tree → Tree) (vs : List Tree) (i k : ℕ) (ps : List Piece) → i ≡ k → told_results f vs i ps ≡ told_results f vs k ps
from_same f vs i k ps e = ap (λ n. told_results f vs n ps) e

-- first the one part of the pieces is told, then the other
pub told-append : (f : Tree → Tree) (vs : List Tree) (i : ℕ) (ps qs : List Piece) → told_results f vs i (ps ++ qs) ≡ told_results f vs i ps ++ told_results f vs (i + old_len ps) qs
told-append f vs i [] qs = from_same f vs i (i + 0) qs (omega arith)
told-append f vs i (kept ∷ ps) qs =
    let shift = from_same f vs (suc i + old_len ps) (i + suc (old_len ps)) qs (omega arith) in
    ap (λ rs. kept ∷ rs) (told-append f vs (suc i) ps qs ∙ ap (λ rs. told_results f vs (suc i) ps ++ rs) shift)
told-append f vs i (updated v w ∷ ps) qs =
    let shift = from_same f vs (suc i + old_len ps) (i + suc (old_len ps)) qs (omega arith) in
    ap (λ rs. updated (result_at vs i) (f w) ∷ rs) (told-append f vs (suc i) ps qs ∙ ap (λ rs. told_results f vs (suc i) ps ++ rs) shift)
told-append f vs i (deleted v ∷ ps) qs =
    let shift = from_same f vs (suc i + old_len ps) (i + suc (old_len ps)) qs (omega arith) in
    ap (λ rs. deleted (result_at vs i) ∷ rs) (told-append f vs (suc i) ps qs ∙ ap (λ rs. told_results f vs (suc i) ps ++ rs) shift)
told-append f vs i (inserted w ∷ ps) qs = ap (λ rs. inserted (f w) ∷ rs) (told-append f vs i ps qs)

-- as much is told as there is
told_old : (f : Tree → Tree) (vs : List Tree) (i : ℕ) (ps : List Piece) → old_len (told_results f vs i ps) ≡ old_len ps
told_old f vs i [] = refl
told_old f vs i (kept ∷ ps) = ap suc (told_old f vs (suc i) ps)
told_old f vs i (updated v w ∷ ps) = ap suc (told_old f vs (suc i) ps)
told_old f vs i (deleted v ∷ ps) = ap suc (told_old f vs (suc i) ps)
told_old f vs i (inserted w ∷ ps) = told_old f vs i ps

told_new : (f : Tree → Tree) (vs : List Tree) (i : ℕ) (ps : List Piece) → new_len (told_results f vs i ps) ≡ new_len ps
told_new f vs i [] = refl
told_new f vs i (kept ∷ ps) = ap suc (told_new f vs (suc i) ps)
told_new f vs i (updated v w ∷ ps) = ap suc (told_new f vs (suc i) ps)
told_new f vs i (deleted v ∷ ps) = told_new f vs (suc i) ps
told_new f vs i (inserted w ∷ ps) = ap suc (told_new f vs i ps)

pub can_tell : (f : Tree → Tree) (vs : List Tree) (ps out told rest : List Piece) → old_len ps ≤ 2147483647 → new_len ps ≤ 2147483647 → normal (out ++ (told ++ rest)) ≡ normal (told_results f vs 0 ps) → CanTell told out
can_tell f vs ps out told rest h k e =
    can_tell_whole (told_results f vs 0 ps) out told rest (omega (arith, told_old f vs 0 ps, h)) (omega (arith, told_new f vs 0 ps, k)) e

-- kept elements are told as they are
pub keeps_told : (f : Tree → Tree) (vs : List Tree) (i n : ℕ) → told_results f vs i (identity n) ≡ identity n
keeps_told f vs i zero = refl
keeps_told f vs i (suc n) = ap (λ ps. kept ∷ ps) (keeps_told f vs (suc i) n)

-- an updated and a deleted element, by the result at their place
pub update_told : (f : Tree → Tree) (vs : List Tree) (i : ℕ) (r v w : Tree) → slice_get vs i ≡ Some r → told_results f vs i (updated v w ∷ []) ≡ updated r (f w) ∷ []
update_told f vs i r v w e = ap (λ x. updated x (f w) ∷ []) (get_or_from_slice_get vs i r _ e)

pub delete_told : (f : Tree → Tree) (vs : List Tree) (i : ℕ) (r v : Tree) → slice_get vs i ≡ Some r → told_results f vs i (deleted v ∷ []) ≡ deleted r ∷ []
delete_told f vs i r v e = ap (λ x. deleted x ∷ []) (get_or_from_slice_get vs i r _ e)
