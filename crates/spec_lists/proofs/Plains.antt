-- The pairs of a list that stays: each element with itself, plainly. The delta with these pairs is the identity.
use Rattle.std.proofs.Common.{◌≡◌, ◌∙◌, ℕ, zero, suc, ◌+◌, ◌-◌, true, false, List, [], ◌∷◌, ◌++◌, length, take, drop, refl, ap, arith}
use Rattle.std.specs.Prelude.{Some, nat_le}
use Rattle.std.proofs.lemmas.Bool.Decides.{nat_tests}
use Rattle.std.specs.Cmp.{tied_itself}
use Rattle.spec_value.specs.Tree.{Tree}
use Rattle.spec_value.proofs.Order.{cmp_total}
use Rattle.spec_lists.specs.Piece.{kept, identity}
use Rattle.spec_lists.specs.Pairs.{Pair, pairs_from, pairs}
use Rattle.spec_lists.specs.Making.{replaced, is_same, next_piece, told_to, rest_after, pieces_from, pieces_by}

-- so many elements, the first of which stands at this place
abbrev pub plains : ℕ → ℕ → List Pair
plains at zero = []
plains at (suc n) = record { old = at; new = at; updated = false } ∷ plains (suc at) n

pub pairs_identity_from : (at n : ℕ) → pairs_from at at (identity n) ≡ plains at n
pairs_identity_from at zero = refl
pairs_identity_from at (suc n) = ap (λ ps. record { old = at; new = at; updated = false } ∷ ps) (pairs_identity_from (suc at) n)

pub pairs_identity : (n : ℕ) → pairs (identity n) ≡ plains 0 n
pairs_identity n = pairs_identity_from 0 n

pub plains_append : (at m k : ℕ) → plains at m ++ plains (at + m) k ≡ plains at (m + k)
plains_append at zero k = both at (at + 0) k (0 + k) (omega arith) (omega arith)
  where
    both : (a b m n : ℕ) → a ≡ b → m ≡ n → plains b m ≡ plains a n
    both a b m n e f = cc
plains_append at (suc m) k =
    let e : at + suc m ≡ suc at + m = omega arith in
    let f : suc m + k ≡ suc (m + k) = omega arith in
    rw (e, f) (ap (λ ps. record { old = at; new = at; updated = false } ∷ ps) (plains_append (suc at) m k))

pub same_itself : (x : Tree) → is_same x x ≡ true
same_itself x = rw (tied_itself cmp_total x)

kept_here : (x : Tree) (xs : List Tree) (at : ℕ)
    → next_piece (record { old_position = at; new_position = at; old = x ∷ xs; new = x ∷ xs }) (record { old = at; new = at; updated = false })
    ≡ Some kept
kept_here x xs at =
    let here : nat_le at at ≡ true = grind (arith, nat_tests) in
    let none : at - at ≡ 0 = omega arith in
    rw (here, none, same_itself x) refl

stays_from : (xs : List Tree) (at : ℕ)
    → pieces_from (record { old_position = at; new_position = at; old = xs; new = xs }) (plains at (length xs))
    ≡ identity (length xs)
stays_from [] at = refl
stays_from (x ∷ xs) at =
    let none : at - at ≡ 0 = omega arith in
    ap (λ o. told_to (record { old_position = at; new_position = at; old = x ∷ xs; new = x ∷ xs }) (record { old = at; new = at; updated = false }) o
    ++ pieces_from (rest_after (record { old_position = at; new_position = at; old = x ∷ xs; new = x ∷ xs }) (record { old = at; new = at; updated = false }) o) (plains (suc at) (length xs))) (kept_here x xs at)
    ∙ ap (λ k. (replaced (take k (x ∷ xs)) (take k (x ∷ xs)) ++ kept ∷ []) ++ pieces_from (record { old_position = suc at; new_position = suc at; old = drop (suc k) (x ∷ xs); new = drop (suc k) (x ∷ xs) }) (plains (suc at) (length xs))) none
    ∙ ap (λ ps. kept ∷ ps) (stays_from xs (suc at))

pub pieces_by_plains : (xs : List Tree) (ps : List Pair) → ps ≡ plains 0 (length xs)
    → pieces_by xs xs ps ≡ identity (length xs)
pieces_by_plains xs ps e = ap (pieces_by xs xs) e ∙ stays_from xs 0
