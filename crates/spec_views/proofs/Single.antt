-- A filter follows one change of its input by one change of its own, or by none.
use Rattle.std.proofs.Common.{◌≡◌, ◌∙◌, ℕ, zero, suc, ◌+◌, ◌-◌, ◌<◌, ◌≤◌, Bool, true, false, cond, List, [], ◌∷◌, ◌++◌, length, take, drop, filter, refl, ap, sym, arith}
use Rattle.std.proofs.lemmas.List.{length-drop}
use Rattle.spec_value.specs.Tree.{Tree}
use Rattle.spec_lists.specs.Piece.{Piece, kept, updated, deleted, inserted, identity, normal, IsNormal}
use Rattle.spec_lists.specs.Leads.{LeadsFrom}
use Rattle.spec_lists.specs.Delta.{one_insert, one_set, one_remove}
use Rattle.spec_lists.proofs.Normal.{normal_is}
use Rattle.spec_views.specs.Chosen.{told_of_pair, told_of_old, told_of_new, told_from}
use Rattle.spec_views.specs.Filter.{by_value, filter_follow}

-- kept pieces alone, and with one other piece among them, are in normal form
pub identity_normal : (n : ℕ) → IsNormal (identity n)
identity_normal zero = tt
identity_normal (suc n) = identity_normal n

pub around_normal : (at r : ℕ) (x : Piece) → IsNormal (identity at ++ x ∷ identity r)
around_normal zero r kept = identity_normal r
around_normal zero r (updated v w) = identity_normal r
around_normal zero r (deleted v) = identity_normal r
around_normal zero zero (inserted w) = (tt, tt)
around_normal zero (suc r) (inserted w) = (tt, identity_normal r)
around_normal (suc at) r x = around_normal at r x

-- how many of the elements ahead of a place are accepted: the place of the next accepted one in the filter
abbrev pub rank : (Tree → Bool) → List Tree → ℕ → ℕ
rank accepts xs at = length (filter accepts (take at xs))

-- what is told of pieces by their values
abbrev told : (Tree → Bool) → ℕ → ℕ → List Tree → List Piece → List Piece
told accepts i j xs ps = told_from (by_value accepts) (by_value accepts) i j xs ps

told_kept : (accepts : Tree → Bool) (xs : List Tree) (i j : ℕ) → told accepts i j xs (identity (length xs)) ≡ identity (length (filter accepts xs))
told_kept accepts [] i j = refl
told_kept accepts (x ∷ xs) i j = by_case (accepts x) refl (told_kept accepts xs (suc i) (suc j))
  where
    by_case : (t : Bool) → accepts x ≡ t → told accepts (suc i) (suc j) xs (identity (length xs)) ≡ identity (length (filter accepts xs)) → told accepts i j (x ∷ xs) (identity (length (x ∷ xs))) ≡ identity (length (filter accepts (x ∷ xs)))
    by_case true e others = rw e (ap (λ ps. kept ∷ ps) others)
    by_case false e others = rw e others

-- kept pieces ahead of others
told_prefix : (accepts : Tree → Bool) (xs : List Tree) (at : ℕ) (ps : List Piece) (i j : ℕ) → at ≤ length xs → told accepts i j xs (identity at ++ ps) ≡ identity (rank accepts xs at) ++ told accepts (i + at) (j + at) (drop at xs) ps
told_prefix accepts xs zero ps i j h = start xs
  where
    start : (ys : List Tree) → told accepts i j ys ps ≡ identity (rank accepts ys 0) ++ told accepts (i + 0) (j + 0) (drop 0 ys) ps
    start [] = let e : i + 0 ≡ i = omega arith in let f : j + 0 ≡ j = omega arith in rw (e, f) refl
    start (y ∷ ys) = let e : i + 0 ≡ i = omega arith in let f : j + 0 ≡ j = omega arith in rw (e, f) refl
told_prefix accepts [] (suc at) ps i j h = absurd (omega arith)
told_prefix accepts (x ∷ xs) (suc at) ps i j h = by_case (accepts x) refl (told_prefix accepts xs at ps (suc i) (suc j) (omega arith))
  where
    by_case : (t : Bool) → accepts x ≡ t → told accepts (suc i) (suc j) xs (identity at ++ ps) ≡ identity (rank accepts xs at) ++ told accepts (suc i + at) (suc j + at) (drop at xs) ps
        → told accepts i j (x ∷ xs) (identity (suc at) ++ ps) ≡ identity (rank accepts (x ∷ xs) (suc at)) ++ told accepts (i + suc at) (j + suc at) (drop (suc at) (x ∷ xs)) ps
    by_case true e others = let a : i + suc at ≡ suc i + at = omega arith in let b : j + suc at ≡ suc j + at = omega arith in rw (e, a, b) (ap (λ qs. kept ∷ qs) others)
    by_case false e others = let a : i + suc at ≡ suc i + at = omega arith in let b : j + suc at ≡ suc j + at = omega arith in rw (e, a, b) others

-- how the accepted elements split at a place
parts_whole : (a : Tree → Bool) (ys : List Tree) (k : ℕ) → k ≤ length ys → length (filter a ys) ≡ rank a ys k + length (filter a (drop k ys))
parts_whole a [] zero g = refl
parts_whole a [] (suc k) g = refl
parts_whole a (y ∷ ys) zero g = omega arith
parts_whole a (y ∷ ys) (suc k) g = elim (a y) as (λ t. length (cond t (y ∷ filter a ys) (filter a ys)) ≡ length (cond t (y ∷ filter a (take k ys)) (filter a (take k ys))) + length (filter a (drop k ys))) [
  | true ↦ omega (arith, parts_whole a ys k (omega arith))
  | false ↦ parts_whole a ys k (omega arith)
]

parts_at : (accepts : Tree → Bool) (xs : List Tree) (at : ℕ) → at ≤ length xs → length (filter accepts xs) - rank accepts xs at ≡ length (filter accepts (drop at xs))
parts_at accepts xs at h = omega (arith, parts_whole accepts xs at h)

length_after : (xs : List Tree) (at : ℕ) → length xs - at ≡ length (drop at xs)
length_after xs at = sym (length-drop at xs)

identity_append : (m n k : ℕ) → m + n ≡ k → identity m ++ identity n ≡ identity k
identity_append zero n k e = let f : n ≡ k = omega (arith, e) in ap identity f
identity_append (suc m) n zero e = absurd (omega (arith, e))
identity_append (suc m) n (suc k) e = ap (λ ps. kept ∷ ps) (identity_append m n k (omega (arith, e)))

-- an inserted element is inserted at its rank, where it is accepted
pub insert_follow : (accepts : Tree → Bool) (xs : List Tree) (at : ℕ) (v : Tree) → at ≤ length xs
    → filter_follow accepts xs (one_insert (length xs) at v) ≡ cond (accepts v) (one_insert (length (filter accepts xs)) (rank accepts xs at) v) (identity (length (filter accepts xs)))
insert_follow accepts xs at v h =
    let n : ℕ = length (filter accepts xs) in
    let r : ℕ = rank accepts xs at in
    let rest : told accepts (0 + at) (suc (0 + at)) (drop at xs) (identity (length xs - at)) ≡ identity (n - r) =
    ap (λ m. told accepts (0 + at) (suc (0 + at)) (drop at xs) (identity m)) (length_after xs at) ∙ told_kept accepts (drop at xs) (0 + at) (suc (0 + at)) ∙ ap identity (sym (parts_at accepts xs at h)) in
    let prefix : told accepts 0 0 xs (one_insert (length xs) at v) ≡ identity r ++ told_of_new (accepts v) v (told accepts (0 + at) (suc (0 + at)) (drop at xs) (identity (length xs - at))) = told_prefix accepts xs at (inserted v ∷ identity (length xs - at)) 0 0 h in
    ap normal (prefix ∙ ap (λ ps. identity r ++ told_of_new (accepts v) v ps) rest) ∙ by_case (accepts v) n r (within accepts xs at h)
  where
    by_case : (t : Bool) (n r : ℕ) → r ≤ n → normal (identity r ++ told_of_new t v (identity (n - r))) ≡ cond t (one_insert n r v) (identity n)
    by_case true n r le = normal_is _ (around_normal r (n - r) (inserted v))
    by_case false n r le = ap normal (identity_append r (n - r) n (omega (arith, le))) ∙ normal_is _ (identity_normal n)

    within : (a : Tree → Bool) (ys : List Tree) (k : ℕ) → k ≤ length ys → rank a ys k ≤ length (filter a ys)
    within a ys k g = omega (arith, parts_whole a ys k g)

-- the element that a change is of stands at its place
pub starts_at_update : (xs : List Tree) (at : ℕ) (v w : Tree) (ps : List Piece) → LeadsFrom (identity at ++ updated v w ∷ ps) xs → (at < length xs) × (drop at xs ≡ v ∷ drop (suc at) xs)
starts_at_update [] zero v w ps h = absurd h
starts_at_update (x ∷ xs) zero v w ps h = (omega arith, ap (λ y. y ∷ xs) h.0)
starts_at_update [] (suc at) v w ps h = absurd h
starts_at_update (x ∷ xs) (suc at) v w ps h = let g = starts_at_update xs at v w ps h in (omega (arith, g.0), g.1)

pub starts_at_delete : (xs : List Tree) (at : ℕ) (v : Tree) (ps : List Piece) → LeadsFrom (identity at ++ deleted v ∷ ps) xs → (at < length xs) × (drop at xs ≡ v ∷ drop (suc at) xs)
starts_at_delete [] zero v ps h = absurd h
starts_at_delete (x ∷ xs) zero v ps h = (omega arith, ap (λ y. y ∷ xs) h.0)
starts_at_delete [] (suc at) v ps h = absurd h
starts_at_delete (x ∷ xs) (suc at) v ps h = let g = starts_at_delete xs at v ps h in (omega (arith, g.0), g.1)

-- the accepted elements of a list: those ahead of one, that one where it is accepted, and those after it
counted : (accepts : Tree → Bool) (xs : List Tree) (at : ℕ) (v : Tree) → at < length xs → drop at xs ≡ v ∷ drop (suc at) xs → length (filter accepts xs) ≡ rank accepts xs at + (cond (accepts v) 1 0 + length (filter accepts (drop (suc at) xs)))
counted accepts xs at v h is = parts_whole accepts xs at (omega (arith, h)) ∙ ap (λ ys. rank accepts xs at + length (filter accepts ys)) is ∙ by_case (accepts v) refl
  where
    by_case : (t : Bool) → accepts v ≡ t → rank accepts xs at + length (filter accepts (v ∷ drop (suc at) xs)) ≡ rank accepts xs at + (cond (accepts v) 1 0 + length (filter accepts (drop (suc at) xs)))
    by_case true e = rw e (omega arith)
    by_case false e = rw e (omega arith)

pub starts_at_insert : (xs : List Tree) (at : ℕ) (v : Tree) (ps : List Piece) → LeadsFrom (identity at ++ inserted v ∷ ps) xs → at ≤ length xs
starts_at_insert xs zero v ps h = omega arith
starts_at_insert [] (suc at) v ps h = absurd h
starts_at_insert (x ∷ xs) (suc at) v ps h = omega (arith, starts_at_insert xs at v ps h)

-- an updated element is updated, deleted, inserted or nothing, by which of its values are accepted
pub set_follow : (accepts : Tree → Bool) (xs : List Tree) (at : ℕ) (v w : Tree) → LeadsFrom (one_set (length xs) at v w) xs
    → filter_follow accepts xs (one_set (length xs) at v w)
    ≡ cond (accepts v) (cond (accepts w) (one_set (length (filter accepts xs)) (rank accepts xs at) v w) (one_remove (length (filter accepts xs)) (rank accepts xs at) v)) (cond (accepts w) (one_insert (length (filter accepts xs)) (rank accepts xs at) w) (identity (length (filter accepts xs))))
set_follow accepts xs at v w h =
    let there = starts_at_update xs at v w _ h in
    let n : ℕ = length (filter accepts xs) in
    let r : ℕ = rank accepts xs at in
    let m : ℕ = length (filter accepts (drop (suc at) xs)) in
    let ps : List Piece = updated v w ∷ identity (length xs - suc at) in
    let prefix : told accepts 0 0 xs (one_set (length xs) at v w) ≡ identity r ++ told accepts (0 + at) (0 + at) (drop at xs) ps = told_prefix accepts xs at ps 0 0 (omega (arith, there.0)) in
    let rest : told accepts (suc (0 + at)) (suc (0 + at)) (drop (suc at) xs) (identity (length xs - suc at)) ≡ identity m =
    ap (λ k. told accepts (suc (0 + at)) (suc (0 + at)) (drop (suc at) xs) (identity k)) (length_after xs (suc at)) ∙ told_kept accepts (drop (suc at) xs) (suc (0 + at)) (suc (0 + at)) in
    let here : told accepts (0 + at) (0 + at) (drop at xs) ps ≡ told_of_pair (accepts v) (accepts w) (updated v w) v w (identity m) =
    ap (λ ys. told accepts (0 + at) (0 + at) ys ps) there.1 ∙ ap (told_of_pair (accepts v) (accepts w) (updated v w) v w) rest in
    ap normal (prefix ∙ ap (λ qs. identity r ++ qs) here) ∙ by_case (accepts v) (accepts w) n r m (counted accepts xs at v there.0 there.1)
  where
    by_case : (t u : Bool) (n r m : ℕ) → n ≡ r + (cond t 1 0 + m)
        → normal (identity r ++ told_of_pair t u (updated v w) v w (identity m)) ≡ cond t (cond u (one_set n r v w) (one_remove n r v)) (cond u (one_insert n r w) (identity n))
    by_case true true n r m e = let f : n - suc r ≡ m = omega (arith, e) in rw f (normal_is _ (around_normal r m (updated v w)))
    by_case true false n r m e = let f : n - suc r ≡ m = omega (arith, e) in rw f (normal_is _ (around_normal r m (deleted v)))
    by_case false true n r m e = let f : n - r ≡ m = omega (arith, e) in rw f (normal_is _ (around_normal r m (inserted w)))
    by_case false false n r m e = ap normal (identity_append r m n (omega (arith, e))) ∙ normal_is _ (identity_normal n)

-- a deleted element is deleted at its rank, where it was accepted
pub remove_follow : (accepts : Tree → Bool) (xs : List Tree) (at : ℕ) (v : Tree) → LeadsFrom (one_remove (length xs) at v) xs
    → filter_follow accepts xs (one_remove (length xs) at v) ≡ cond (accepts v) (one_remove (length (filter accepts xs)) (rank accepts xs at) v) (identity (length (filter accepts xs)))
remove_follow accepts xs at v h =
    let there = starts_at_delete xs at v _ h in
    let n : ℕ = length (filter accepts xs) in
    let r : ℕ = rank accepts xs at in
    let m : ℕ = length (filter accepts (drop (suc at) xs)) in
    let ps : List Piece = deleted v ∷ identity (length xs - suc at) in
    let prefix : told accepts 0 0 xs (one_remove (length xs) at v) ≡ identity r ++ told accepts (0 + at) (0 + at) (drop at xs) ps = told_prefix accepts xs at ps 0 0 (omega (arith, there.0)) in
    let rest : told accepts (suc (0 + at)) (0 + at) (drop (suc at) xs) (identity (length xs - suc at)) ≡ identity m =
    ap (λ k. told accepts (suc (0 + at)) (0 + at) (drop (suc at) xs) (identity k)) (length_after xs (suc at)) ∙ told_kept accepts (drop (suc at) xs) (suc (0 + at)) (0 + at) in
    let here : told accepts (0 + at) (0 + at) (drop at xs) ps ≡ told_of_old (accepts v) v (identity m) =
    ap (λ ys. told accepts (0 + at) (0 + at) ys ps) there.1 ∙ ap (told_of_old (accepts v) v) rest in
    ap normal (prefix ∙ ap (λ qs. identity r ++ qs) here) ∙ by_case (accepts v) n r m (counted accepts xs at v there.0 there.1)
  where
    by_case : (t : Bool) (n r m : ℕ) → n ≡ r + (cond t 1 0 + m) → normal (identity r ++ told_of_old t v (identity m)) ≡ cond t (one_remove n r v) (identity n)
    by_case true n r m e = let f : n - suc r ≡ m = omega (arith, e) in rw f (normal_is _ (around_normal r m (deleted v)))
    by_case false n r m e = ap normal (identity_append r m n (omega (arith, e))) ∙ normal_is _ (identity_normal n)

-- where the input doesn't change, neither does the filter
pub identity_follow : (accepts : Tree → Bool) (xs : List Tree) → filter_follow accepts xs (identity (length xs)) ≡ identity (length (filter accepts xs))
identity_follow accepts xs = ap normal (told_kept accepts xs 0 0) ∙ normal_is _ (identity_normal (length (filter accepts xs)))
