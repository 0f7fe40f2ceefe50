-- Laws on what is placed, and that there is one order at most.
use Rattle.std.proofs.Common.{◌≡◌, ℕ, zero, suc, ◌+◌, ◌<◌, ◌≤◌, inl, inr, List, [], ◌∷◌, ◌++◌, length, take, refl, sym, ap, ◌∙◌, subst, arith, length-append}
use Rattle.std.specs.Prelude.{All, Contains, slice_index}
use Rattle.std.proofs.lemmas.Bool.{cases_lt, cases_eq, cases_order}
use Rattle.std.proofs.lemmas.List.{take_more, take_all, take-append-le, take_at, get_or_append_left, get_or_at}
use Rattle.std.proofs.lemmas.List.Elements.{All-from_get_or}
use Rattle.spec_order.specs.Order.{IsNext, IsPrefix, IsOrder}
use Rattle.spec_order.proofs.Members.{hit_other, hit_same, times, times-append, times_none}

take_next : (xs : List ℕ) (i : ℕ) → i < length xs → take (suc i) xs ≡ take i xs ++ slice_index xs i ∷ []
take_next xs i l = let e : suc i ≡ i + 1 = omega arith in ap (λ m. take m xs) e ∙ take_more xs i 0 l

-- the numbers placed are all different
prefix_once_at : (n : ℕ) (edges : List (ℕ × ℕ)) (xs : List ℕ) → IsPrefix n edges xs → (j i : ℕ) → i ≤ length xs → times j (take i xs) ≤ 1
prefix_once_at n edges xs f j zero l = omega arith
prefix_once_at n edges xs f j (suc i) l =
    let x = slice_index xs i in
    let same : times j (take (suc i) xs) ≡ times j (take i xs) + times j (x ∷ []) =
    ap (times j) (take_next xs i (omega arith)) ∙ times-append j (take i xs) (x ∷ []) in
    let before = prefix_once_at n edges xs f j i (omega arith) in
    elim (cases_eq x j) as (λ _. times j (take (suc i) xs) ≤ 1) [
      | inl e ↦
          let fresh : ¬ Contains (take i xs) j = subst (λ (z : ℕ). ¬ Contains (take i xs) z) e (f i (omega arith)).ready.waits in
          omega (arith, same, hit_same x j e, times_none j (take i xs) fresh)
      | inr ne ↦ omega (arith, same, hit_other x j ne, before)
    ]

pub prefix_once : (n : ℕ) (edges : List (ℕ × ℕ)) (xs : List ℕ) → IsPrefix n edges xs → (j : ℕ) → times j xs ≤ 1
prefix_once n edges xs f j =
    subst (λ (ys : List ℕ). times j ys ≤ 1) (take_all (length xs) xs (omega arith)) (prefix_once_at n edges xs f j (length xs) (omega arith))

pub prefix_below : (n : ℕ) (edges : List (ℕ × ℕ)) (xs : List ℕ) → IsPrefix n edges xs → All (λ x. x < n) xs
prefix_below n edges xs f = All-from_get_or (λ x. x < n) xs 0 (λ i l. (f i l).below)

-- one more number that comes next
pub prefix_push : (n : ℕ) (edges : List (ℕ × ℕ)) (xs : List ℕ) (k : ℕ) → IsPrefix n edges xs → IsNext n edges xs k → IsPrefix n edges (xs ++ k ∷ [])
prefix_push n edges xs k f next i l =
    elim (cases_lt i (length xs)) as (λ _. IsNext n edges (take i (xs ++ k ∷ [])) (slice_index (xs ++ k ∷ []) i)) [
      | inl lt ↦
          let e : take i (xs ++ k ∷ []) ≡ take i xs = take-append-le i xs (k ∷ []) (omega arith) in
          let v : slice_index (xs ++ k ∷ []) i ≡ slice_index xs i = get_or_append_left xs (k ∷ []) 0 i lt in
          subst (λ (ys : List ℕ). IsNext n edges ys (slice_index (xs ++ k ∷ []) i)) (sym e) (subst (λ (z : ℕ). IsNext n edges (take i xs) z) (sym v) (f i lt))
      | inr ge ↦
          let at_end : length xs ≡ i = omega (arith, length-append xs (k ∷ [])) in
          let e : take i (xs ++ k ∷ []) ≡ xs = take_at xs (k ∷ []) i at_end in
          let v : slice_index (xs ++ k ∷ []) i ≡ k = get_or_at xs k [] 0 i at_end in
          subst (λ (ys : List ℕ). IsNext n edges ys (slice_index (xs ++ k ∷ []) i)) (sym e) (subst (λ (z : ℕ). IsNext n edges xs z) (sym v) next)
    ]

pub prefix_nil : (n : ℕ) (edges : List (ℕ × ℕ)) → IsPrefix n edges []
prefix_nil n edges i l = absurd (omega arith)

next_unique : (n : ℕ) (edges : List (ℕ × ℕ)) (placed : List ℕ) (a b : ℕ) → IsNext n edges placed a → IsNext n edges placed b → a ≡ b
next_unique n edges placed a b p q =
    elim (cases_order a b) as (λ _. a ≡ b) [
      | inl e ↦ e
      | inr o ↦ elim o as (λ _. a ≡ b) [ inl l ↦ absurd (q.least a l p.ready) | inr g ↦ absurd (p.least b g q.ready) ]
    ]

same_prefix : (n : ℕ) (edges : List (ℕ × ℕ)) (xs ys : List ℕ) → IsPrefix n edges xs → IsPrefix n edges ys → (i : ℕ) → i ≤ length xs → i ≤ length ys → take i xs ≡ take i ys
same_prefix n edges xs ys f g zero l m = refl
same_prefix n edges xs ys f g (suc i) l m =
    let before : take i xs ≡ take i ys = same_prefix n edges xs ys f g i (omega arith) (omega arith) in
    let there : IsNext n edges (take i ys) (slice_index xs i) = subst (λ (zs : List ℕ). IsNext n edges zs (slice_index xs i)) before (f i (omega arith)) in
    let here : slice_index xs i ≡ slice_index ys i = next_unique n edges (take i ys) (slice_index xs i) (slice_index ys i) there (g i (omega arith)) in
    let ex = take_next xs i (omega arith) in
    let ey = take_next ys i (omega arith) in
    cc

pub IsOrder-unique : (n : ℕ) (edges : List (ℕ × ℕ)) (xs ys : List ℕ) → IsOrder n edges xs → IsOrder n edges ys → xs ≡ ys
IsOrder-unique n edges xs ys p q =
    let same : take n xs ≡ take n ys = same_prefix n edges xs ys p.prefix q.prefix n (omega (arith, p.whole)) (omega (arith, q.whole)) in
    sym (take_all n xs (omega (arith, p.whole))) ∙ same ∙ take_all n ys (omega (arith, q.whole))
