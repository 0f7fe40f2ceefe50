-- The part of a sorted list that has one key.
use Rattle.std.proofs.Common.{◌≡◌, ℕ, ◌+◌, ◌<◌, ◌≤◌, Bool, true, false, cond, ltb, leb, List, [], ◌∷◌, ◌++◌, length, get_or, take, drop, refl, sym, ap, ◌∙◌, arith, length-drop}
use Rattle.std.specs.Prelude.{All, filter, ◌==◌}
use Rattle.std.specs.List.Sorted.{IsPartitionPoint}
use Rattle.std.proofs.lemmas.Bool.{ltb-true, ltb-false, leb-true, leb-false, eq-eqb, ne_eqb}
use Rattle.std.proofs.lemmas.List.{append-nil, take-append-drop, get_or-drop, get_or-take, length-take-le}
use Rattle.std.proofs.lemmas.List.Elements.{filter-append, All-head, All-tail}

filter_none : {X : Type 0} (p : X → Bool) (xs : List X) → All (λ x. p x ≡ false) xs → filter p xs ≡ []
filter_none p [] h = refl
filter_none p (x ∷ xs) h =
    ap (λ b. cond b (x ∷ filter p xs) (filter p xs)) (All-head (λ x. p x ≡ false) x xs h) ∙ filter_none p xs (All-tail (λ x. p x ≡ false) x xs h)

filter_all : {X : Type 0} (p : X → Bool) (xs : List X) → All (λ x. p x ≡ true) xs → filter p xs ≡ xs
filter_all p [] h = refl
filter_all p (x ∷ xs) h =
    ap (λ b. cond b (x ∷ filter p xs) (filter p xs)) (All-head (λ x. p x ≡ true) x xs h) ∙ ap (λ ys. x ∷ ys) (filter_all p xs (All-tail (λ x. p x ≡ true) x xs h))

-- those up to a key, and of these those from the key on, are those with the key
pub part_of_key : {X : Type 0} (n : X → ℕ) (key i j : ℕ) (xs ys : List X) → i ≤ length xs → ys ≡ take i xs → j ≤ length ys
    → IsPartitionPoint (λ y. leb (n y) key ≡ true) (λ y. leb (n y) key ≡ false) xs i
    → IsPartitionPoint (λ y. ltb (n y) key ≡ true) (λ y. ltb (n y) key ≡ false) ys j
    → drop j ys ≡ filter (λ y. n y == key) xs
part_of_key {X} n key i j xs ys i_in ys_is j_in high low =
    let p : X → Bool = λ y. n y == key in
    let past : filter p (drop i xs) ≡ [] = filter_none p (drop i xs) (λ k d l. past_at k d l) in
    let prefix : filter p (take j ys) ≡ [] = filter_none p (take j ys) (λ k d l. prefix_at k d l) in
    let mid : filter p (drop j ys) ≡ drop j ys = filter_all p (drop j ys) (λ k d l. mid_at k d l) in
    let split_xs : filter p (take i xs) ++ filter p (drop i xs) ≡ filter p xs = sym (filter-append p (take i xs) (drop i xs)) ∙ ap (filter p) (take-append-drop i xs) in
    let split_ys : filter p (take j ys) ++ filter p (drop j ys) ≡ filter p ys = sym (filter-append p (take j ys) (drop j ys)) ∙ ap (filter p) (take-append-drop j ys) in
    let shorter : filter p (take i xs) ≡ filter p xs =
    sym (append-nil (filter p (take i xs))) ∙ (ap (λ zs. filter p (take i xs) ++ zs) (sym past) ∙ split_xs) in
    let longer : drop j ys ≡ filter p ys =
    sym mid ∙ (ap (λ zs. zs ++ filter p (drop j ys)) (sym prefix) ∙ split_ys) in
    longer ∙ (ap (filter p) ys_is ∙ shorter)
  where
    past_at : (k : ℕ) (d : X) → k < length (drop i xs) → (n (get_or (drop i xs) k d) == key) ≡ false
    past_at k d l =
        let e = get_or-drop i xs k d in
        let size = length-drop i xs in
        let above = leb-false (n (get_or xs (i + k) d)) key (high.1 (i + k) d (omega arith) (omega arith)) in
        ap (λ x. n x == key) e ∙ ne_eqb (n (get_or xs (i + k) d)) key (λ q. omega arith)

    prefix_at : (k : ℕ) (d : X) → k < length (take j ys) → (n (get_or (take j ys) k d) == key) ≡ false
    prefix_at k d l =
        let size = length-take-le j ys j_in in
        let lt : k < j = omega arith in
        let e = get_or-take j ys k d lt in
        let below = ltb-true (n (get_or ys k d)) key (low.0 k d (omega arith) lt) in
        ap (λ x. n x == key) e ∙ ne_eqb (n (get_or ys k d)) key (λ q. omega arith)

    mid_at : (k : ℕ) (d : X) → k < length (drop j ys) → (n (get_or (drop j ys) k d) == key) ≡ true
    mid_at k d l =
        let size_j = length-drop j ys in
        let size_i = ap length ys_is ∙ length-take-le i xs i_in in
        let e = get_or-drop j ys k d in
        let lt : j + k < i = omega arith in
        let f : get_or ys (j + k) d ≡ get_or xs (j + k) d = ap (λ zs. get_or zs (j + k) d) ys_is ∙ get_or-take i xs (j + k) d lt in
        let above = ltb-false (n (get_or ys (j + k) d)) key (low.1 (j + k) d (omega arith) (omega arith)) in
        let upto = leb-true (n (get_or xs (j + k) d)) key (high.0 (j + k) d (omega arith) lt) in
        let g = ap n f in
        ap (λ x. n x == key) e ∙ eq-eqb (n (get_or ys (j + k) d)) key (omega arith)
