-- The marks of a filter count what it shows.
use Rattle.std.specs.Prelude.{◌≡◌, ℕ, zero, suc, ◌+◌, ◌-◌, ◌≤◌, Bool, true, false, cond, List, [], ◌∷◌, length, take, drop, map, filter, replicate, slice_get, Some, None, refl}
use Rattle.std.proofs.Common.{ap, sym, ◌∙◌, arith}
use Rattle.std.proofs.lemmas.List.{length-drop}
use Rattle.spec_views.specs.Tree.{Tree}
use Rattle.spec_views.specs.Piece.{kept, updated, deleted}
use Rattle.spec_views.specs.Chosen.{told_of_pair, told_of_old}
use Rattle.gl_barcode.specs.Bars.{count_shown, IsKthShown}
use Rattle.gl_kernel.proofs.ReadValues.{drop_at}
use Rattle.gl_filter.specs.Told.{told_kept, told_marks}

pub count-cons : (b : Bool) (bs : List Bool) → count_shown (b ∷ bs) ≡ cond b 1 0 + count_shown bs
unfolding count_shown
count-cons b bs = refl

pub count-none : count_shown [] ≡ 0
unfolding count_shown
count-none = refl

take_none : (k : ℕ) → let none : List Bool = [] in take k none ≡ none
take_none zero = refl
take_none (suc k) = refl

pub count-split : (n m : ℕ) (bs : List Bool) → count_shown (take (n + m) bs) ≡ count_shown (take n bs) + count_shown (take m (drop n bs))
count-split zero m bs =
    let e : 0 + m ≡ m = omega arith in
    ap (λ k. count_shown (take k bs)) e ∙ omega (arith, first_none bs)
  where
    first_none : (cs : List Bool) → count_shown (take 0 cs) ≡ 0
    first_none cs = count-none
count-split (suc n) m [] = omega (arith, count-none, ap count_shown (take_none (suc n + m)), ap count_shown (take_none (suc n)), ap count_shown (take_none m))
count-split (suc n) m (b ∷ bs) =
    let e : suc n + m ≡ suc (n + m) = omega arith in
    ap (λ k. count_shown (take k (b ∷ bs))) e
    ∙ omega (arith, count-cons b (take (n + m) bs), count-cons b (take n bs), count-split n m bs)

-- of kept elements those that are shown are kept
pub keeps_told : (accepts : Tree → Bool) (n : ℕ) (bs : List Bool) → n ≤ length bs → told_marks accepts bs (replicate n kept) ≡ replicate (count_shown (take n bs)) kept
keeps_told accepts zero bs h = ap (λ k. replicate k kept) (sym count-none)
keeps_told accepts (suc n) [] h = absurd (omega (arith, h))
keeps_told accepts (suc n) (b ∷ bs) h =
    ap (told_kept b) (keeps_told accepts n bs (omega (arith, h))) ∙ (first b (count_shown (take n bs)) ∙ ap (λ k. replicate k kept) (sym (count-cons b (take n bs))))
  where
    first : (c : Bool) (k : ℕ) → told_kept c (replicate k kept) ≡ replicate (cond c 1 0 + k) kept
    first true k = let e : suc k ≡ 1 + k = omega arith in ap (λ n. replicate n kept) e
    first false k = let e : k ≡ 0 + k = omega arith in ap (λ n. replicate n kept) e

-- an updated and a deleted element, by the mark at their place
pub update_told : (accepts : Tree → Bool) (bs : List Bool) (i : ℕ) (b : Bool) (v w : Tree) → slice_get bs i ≡ Some b → told_marks accepts (drop i bs) (updated v w ∷ []) ≡ told_of_pair b (accepts w) (updated v w) v w []
update_told accepts bs i b v w e = ap (λ cs. told_marks accepts cs (updated v w ∷ [])) (drop_at bs i b e)

pub delete_told : (accepts : Tree → Bool) (bs : List Bool) (i : ℕ) (b : Bool) (v : Tree) → slice_get bs i ≡ Some b → told_marks accepts (drop i bs) (deleted v ∷ []) ≡ told_of_old b v []
delete_told accepts bs i b v e = ap (λ cs. told_marks accepts cs (deleted v ∷ [])) (drop_at bs i b e)

shown_first : (b : Bool) (x : Tree) (xs : List Tree) (n : ℕ) → n ≡ length xs → cond b 1 0 + n ≡ length (cond b (x ∷ xs) xs)
shown_first true x xs n e = omega (arith, e)
shown_first false x xs n e = omega (arith, e)

-- as many places are shown as elements are accepted
pub count-filter : (accepts : Tree → Bool) (xs : List Tree) → count_shown (map accepts xs) ≡ length (filter accepts xs)
count-filter accepts [] = count-none
count-filter accepts (x ∷ xs) = count-cons (accepts x) (map accepts xs) ∙ shown_first (accepts x) x (filter accepts xs) (count_shown (map accepts xs)) (count-filter accepts xs)

-- the k-th shown place is that of the k-th accepted element
pub kth_accepted : (accepts : Tree → Bool) (xs : List Tree) (k position : ℕ) → IsKthShown k (map accepts xs) position → slice_get xs position ≡ slice_get (filter accepts xs) k
kth_accepted accepts [] k zero h = nothing_at k
  where
    nothing_at : (n : ℕ) → slice_get {X = Tree} [] 0 ≡ slice_get [] n
    nothing_at zero = refl
    nothing_at (suc n) = refl
kth_accepted accepts [] k (suc position) h = nothing_at k
  where
    nothing_at : (n : ℕ) → slice_get {X = Tree} [] (suc position) ≡ slice_get [] n
    nothing_at zero = refl
    nothing_at (suc n) = refl
kth_accepted accepts (x ∷ xs) k zero h = here (accepts x) k (filter accepts xs) h.shown (sym h.before ∙ count-none)
  where
    here : (b : Bool) (n : ℕ) (ys : List Tree) → Some b ≡ Some true → n ≡ 0 → Some x ≡ slice_get (cond b (x ∷ ys) ys) n
    here true zero ys e f = refl
    here true (suc n) ys e f = absurd (omega (arith, f))
    here false n ys e f = cc
kth_accepted accepts (x ∷ xs) k (suc position) h = later (accepts x) k (filter accepts xs) (h.before) (λ n e. kth_accepted accepts xs n position (record { shown = h.shown; before = e }))
  where
    later : (b : Bool) (n : ℕ) (ys : List Tree) → count_shown (b ∷ take position (map accepts xs)) ≡ n → ((m : ℕ) → count_shown (take position (map accepts xs)) ≡ m → slice_get xs position ≡ slice_get ys m) → slice_get xs position ≡ slice_get (cond b (x ∷ ys) ys) n
    later true zero ys e f = absurd (omega (arith, e, count-cons true (take position (map accepts xs))))
    later true (suc n) ys e f = f n (omega (arith, e, count-cons true (take position (map accepts xs))))
    later false n ys e f = f n (omega (arith, e, count-cons false (take position (map accepts xs))))

-- what is kept of so many kept elements from a place on, by two ranks
pub keep_told : (accepts : Tree → Bool) (bs : List Bool) (position n r0 r1 : ℕ) → position + n ≤ length bs → r0 ≡ count_shown (take position bs) → r1 ≡ count_shown (take (position + n) bs) → told_marks accepts (drop position bs) (replicate n kept) ≡ replicate (r1 - r0) kept
keep_told accepts bs position n r0 r1 h e f =
    let inside : n ≤ length (drop position bs) = omega (arith, h, length-drop position bs) in
    let count : count_shown (take n (drop position bs)) ≡ r1 - r0 = omega (arith, e, f, count-split position n bs) in
    keeps_told accepts n (drop position bs) inside ∙ ap (λ k. replicate k kept) count

pub ranks_grow : (bs : List Bool) (position n r0 r1 : ℕ) → r0 ≡ count_shown (take position bs) → r1 ≡ count_shown (take (position + n) bs) → r0 ≤ r1
ranks_grow bs position n r0 r1 e f = omega (arith, e, f, count-split position n bs)

-- nothing is found past the end
pub none_past : (accepts : Tree → Bool) (xs : List Tree) (k : ℕ) → length (filter accepts xs) ≤ k → None ≡ slice_get (filter accepts xs) k
none_past accepts xs k h = past (filter accepts xs) k h
  where
    past : (ys : List Tree) (n : ℕ) → length ys ≤ n → None ≡ slice_get ys n
    past [] zero g = refl
    past [] (suc n) g = refl
    past (y ∷ ys) zero g = absurd (omega (arith, g))
    past (y ∷ ys) (suc n) g = past ys n (omega (arith, g))
