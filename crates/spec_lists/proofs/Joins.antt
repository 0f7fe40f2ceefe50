-- The pairs of a composition are those of both deltas, joined where they meet.
use Rattle.std.proofs.Common.{◌≡◌, ◌∙◌, ◌⊎◌, inl, inr, ℕ, zero, suc, ◌+◌, ◌≤◌, ◌↔◌, List, [], ◌∷◌, length, Bool, true, false, ◌||◌, refl, ap, sym, subst, arith}
use Rattle.std.specs.List.{Contains}
use Rattle.spec_value.specs.Tree.{Tree}
use Rattle.spec_lists.specs.Piece.{Piece, kept, updated, deleted, inserted, insert_first, normal}
use Rattle.spec_lists.specs.Pairs.{Pair, pairs_from, pairs, IsIncreasing, IsJoined}
use Rattle.spec_lists.specs.Delta.{composed}
use Rattle.spec_lists.specs.Laws.{CompositionJoinsPairs}
use Rattle.spec_lists.proofs.Pairs.{rising}
use Rattle.spec_lists.proofs.Merge.{Merge, merge_of, composed_merge, done, gone, come, keep_keep, keep_set, keep_drop, set_keep, set_set, set_drop, new_keep, new_set, new_drop}

-- a pair is the first of some or one of the others
in_rest : (x y : Pair) (xs : List Pair) → Contains (x ∷ xs) y → (x ≡ y) ⊎ Contains xs y
in_rest x y xs (zero, lt, e) = inl e
in_rest x y xs (suc k, lt, e) = inr (k, omega arith, e)

at_first : (x : Pair) (xs : List Pair) → Contains (x ∷ xs) x
at_first x xs = (0, omega arith, refl)

after_first : (x y : Pair) (xs : List Pair) → Contains xs y → Contains (x ∷ xs) y
after_first x y xs h = (suc h.0, (let lt = h.1 in omega arith), h.2)

in_none : (y : Pair) → Contains [] y → ⊥
in_none y h = let lt = h.1 in absurd (omega arith)

-- pairs that rise from two places on have no lower places
from_positions : (us : List Pair) (i j : ℕ) (u : Pair) → IsIncreasing i j us → Contains us u → (i ≤ u.old) × (j ≤ u.new)
from_positions [] i j u h c = absurd (in_none u c)
from_positions (x ∷ us) i j u h c = by_cases (in_rest x u us c) (from_positions us (suc x.old) (suc x.new) u h.2)
  where
    by_cases : (x ≡ u) ⊎ Contains us u → (Contains us u → (suc x.old ≤ u.old) × (suc x.new ≤ u.new)) → (i ≤ u.old) × (j ≤ u.new)
    by_cases (inl e) r = let P : Pair → Type 0 = λ z. (i ≤ z.old) × (j ≤ z.new) in subst P e (h.0, h.1)
    by_cases (inr d) r = let g = r d in (omega (arith, g.0, h.0), omega (arith, g.1, h.1))

-- some pair of each list that make this one
abbrev Join : List Pair → List Pair → Pair → Type 0
Join ps qs u = (first second : Pair) × Contains ps first × Contains qs second × IsJoined first second u

pair_from : (i j k l : ℕ) (b c : Bool) → i ≡ j → k ≡ l → b ≡ c → let u : Pair = record { old = i; new = k; updated = b } in let z : Pair = record { old = j; new = l; updated = c } in u ≡ z
pair_from i j k l b c e f g = cc

-- two pairs make one
one_join : (x y u z : Pair) → IsJoined x y u → IsJoined x y z → z ≡ u
one_join x y u z h g = pair_from z.old u.old z.new u.new z.updated u.updated (g.from ∙ sym h.from) (g.to ∙ sym h.to) (g.is_updated ∙ sym h.is_updated)

-- both lists have one more pair in front, and these meet
both_more : (x y z u : Pair) (ps qs ms : List Pair) → IsJoined x y z → IsIncreasing (suc x.old) (suc x.new) ps → IsIncreasing (suc y.old) (suc y.new) qs → (Contains ms u ↔ Join ps qs u) → Contains (z ∷ ms) u ↔ Join (x ∷ ps) (y ∷ qs) u
both_more x y z u ps qs ms j hp hq e = (λ c. there (in_rest z u ms c), λ g. back g.0 g.1 g.4 (in_rest x g.0 ps g.2) (in_rest y g.1 qs g.3))
  where
    there : (z ≡ u) ⊎ Contains ms u → Join (x ∷ ps) (y ∷ qs) u
    there (inl f) = let P : Pair → Type 0 = λ v. IsJoined x y v in (x, y, at_first x ps, at_first y qs, subst P f j)
    there (inr c) = let g = e.0 c in (g.0, g.1, after_first x g.0 ps g.2, after_first y g.1 qs g.3, g.4)

    back : (a b : Pair) → IsJoined a b u → (x ≡ a) ⊎ Contains ps a → (y ≡ b) ⊎ Contains qs b → Contains (z ∷ ms) u
    back a b g (inl f) (inl h) =
        let P : Pair → Type 0 = λ v. IsJoined v b u in
        let Q : Pair → Type 0 = λ v. IsJoined x v u in
        let M : Pair → Type 0 = λ v. Contains (z ∷ ms) v in
        subst M (one_join x y u z (subst Q (sym h) (subst P (sym f) g)) j) (at_first z ms)
    back a b g (inl f) (inr d) =
        let n : x.new ≡ a.new = ap (λ (v : Pair). v.new) f in
        let l = from_positions qs (suc y.old) (suc y.new) b hq d in absurd (omega (arith, n, l.0, g.meet, j.meet))
    back a b g (inr c) (inl h) =
        let n : y.old ≡ b.old = ap (λ (v : Pair). v.old) h in
        let l = from_positions ps (suc x.old) (suc x.new) a hp c in absurd (omega (arith, n, l.1, g.meet, j.meet))
    back a b g (inr c) (inr d) = after_first z u ms (e.1 (a, b, c, d, g))

-- one list has one more pair in front, which meets none of the other
first_more : (x u : Pair) (ps qs ms : List Pair) (k : ℕ) → IsIncreasing (suc x.new) k qs → (Contains ms u ↔ Join ps qs u) → Contains ms u ↔ Join (x ∷ ps) qs u
first_more x u ps qs ms k hq e = (λ c. let g = e.0 c in (g.0, g.1, after_first x g.0 ps g.2, g.3, g.4), λ g. back g.0 g.1 g.4 (in_rest x g.0 ps g.2) g.3)
  where
    back : (a b : Pair) → IsJoined a b u → (x ≡ a) ⊎ Contains ps a → Contains qs b → Contains ms u
    back a b g (inl f) d =
        let n : x.new ≡ a.new = ap (λ (v : Pair). v.new) f in
        let l = from_positions qs (suc x.new) k b hq d in absurd (omega (arith, n, l.0, g.meet))
    back a b g (inr c) d = e.1 (a, b, c, d, g)

second_more : (y u : Pair) (ps qs ms : List Pair) (i : ℕ) → IsIncreasing i (suc y.old) ps → (Contains ms u ↔ Join ps qs u) → Contains ms u ↔ Join ps (y ∷ qs) u
second_more y u ps qs ms i hp e = (λ c. let g = e.0 c in (g.0, g.1, g.2, after_first y g.1 qs g.3, g.4), λ g. back g.0 g.1 g.4 g.2 (in_rest y g.1 qs g.3))
  where
    back : (a b : Pair) → IsJoined a b u → Contains ps a → (y ≡ b) ⊎ Contains qs b → Contains ms u
    back a b g c (inl h) =
        let n : y.old ≡ b.old = ap (λ (v : Pair). v.old) h in
        let l = from_positions ps i (suc y.old) a hp c in absurd (omega (arith, n, l.1, g.meet))
    back a b g c (inr d) = e.1 (a, b, c, d, g)

meets : (i j k : ℕ) (b c : Bool) → let x : Pair = record { old = i; new = j; updated = b } in let y : Pair = record { old = j; new = k; updated = c } in let z : Pair = record { old = i; new = k; updated = b || c } in IsJoined x y z
meets i j k b c = record { meet = refl; from = refl; to = refl; is_updated = refl }

joins : {p q m : List Piece} → Merge p q m → (i j k : ℕ) (u : Pair) → Contains (pairs_from i k m) u ↔ Join (pairs_from i j p) (pairs_from j k q) u
joins done i j k u = (λ c. absurd (in_none u c), λ g. absurd (in_none g.0 g.2))
joins (gone h) i j k u = joins h (suc i) j k u
joins (come h) i j k u = joins h i j (suc k) u
joins (keep_keep {p = p} {q = q} h) i j k u = both_more _ _ _ u _ _ _ (meets i j k false false) (rising p (suc i) (suc j)) (rising q (suc j) (suc k)) (joins h (suc i) (suc j) (suc k) u)
joins (keep_set {p = p} {q = q} h) i j k u = both_more _ _ _ u _ _ _ (meets i j k false true) (rising p (suc i) (suc j)) (rising q (suc j) (suc k)) (joins h (suc i) (suc j) (suc k) u)
joins (keep_drop {q = q} h) i j k u = first_more _ u _ _ _ k (rising q (suc j) k) (joins h (suc i) (suc j) k u)
joins (set_keep {p = p} {q = q} h) i j k u = both_more _ _ _ u _ _ _ (meets i j k true false) (rising p (suc i) (suc j)) (rising q (suc j) (suc k)) (joins h (suc i) (suc j) (suc k) u)
joins (set_set {p = p} {q = q} h) i j k u = both_more _ _ _ u _ _ _ (meets i j k true true) (rising p (suc i) (suc j)) (rising q (suc j) (suc k)) (joins h (suc i) (suc j) (suc k) u)
joins (set_drop {q = q} h) i j k u = first_more _ u _ _ _ k (rising q (suc j) k) (joins h (suc i) (suc j) k u)
joins (new_keep {p = p} h) i j k u = second_more _ u _ _ _ i (rising p i (suc j)) (joins h i (suc j) (suc k) u)
joins (new_set {p = p} h) i j k u = second_more _ u _ _ _ i (rising p i (suc j)) (joins h i (suc j) (suc k) u)
joins (new_drop h) i j k u = joins h i (suc j) k u

-- the normal form has the same pairs
pairs_first : (w : Tree) (ps : List Piece) (i j : ℕ) → pairs_from i j (insert_first w ps) ≡ pairs_from i (suc j) ps
pairs_first w [] i j = refl
pairs_first w (kept ∷ ps) i j = refl
pairs_first w (updated v x ∷ ps) i j = refl
pairs_first w (deleted v ∷ ps) i j = pairs_first w ps (suc i) j
pairs_first w (inserted x ∷ ps) i j = refl

pairs_normal : (ps : List Piece) (i j : ℕ) → pairs_from i j (normal ps) ≡ pairs_from i j ps
pairs_normal [] i j = refl
pairs_normal (kept ∷ ps) i j = ap (λ us. record { old = i; new = j; updated = false } ∷ us) (pairs_normal ps (suc i) (suc j))
pairs_normal (updated v w ∷ ps) i j = ap (λ us. record { old = i; new = j; updated = true } ∷ us) (pairs_normal ps (suc i) (suc j))
pairs_normal (deleted v ∷ ps) i j = pairs_normal ps (suc i) j
pairs_normal (inserted w ∷ ps) i j = pairs_first w (normal ps) i j ∙ pairs_normal ps i (suc j)

pub composition_joins_pairs : CompositionJoinsPairs
composition_joins_pairs p q e u =
    let h : (m : List Piece) × Merge p q m = merge_of (length p + length q) p q (omega arith) e in
    let is : pairs (composed p q) ≡ pairs h.0 = ap pairs (composed_merge h.1) ∙ pairs_normal h.0 0 0 in
    let j = joins h.1 0 0 0 u in
    let P : List Pair → Type 0 = λ us. Contains us u in
    (λ c. j.0 (subst P is c), λ g. subst P (sym is) (j.1 g))
