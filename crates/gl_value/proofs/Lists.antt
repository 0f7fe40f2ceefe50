-- Comparing lists element by element, and the sizes of elements.
use Rattle.std.specs.Prelude.{◌≡◌, ℕ, ◌+◌, ◌<◌, ◌≤◌, min, List, [], ◌∷◌, length, get_or, drop, suc, zero}
use Rattle.std.proofs.Common.{arith}
use Rattle.std.specs.Ordering.{MatchOrdering, nat_cmp}
use Rattle.std.specs.Cmp.{nat_cmp_is}
use Rattle.std.specs.Cmp.Lexicographic.{slice_cmp}
use Rattle.std.proofs.lemmas.List.{length-drop}
use Rattle.spec_value.specs.Tree.{Tree, tree_size, trees, trees_size}
use Rattle.spec_value.specs.Order.{cmp}

ranked_ends : (us vs : List Tree) (m n i : ℕ) → length us + i ≡ m → length vs + i ≡ n → i ≡ min m n → MatchOrdering (slice_cmp cmp us vs) (m < n) (m ≡ n) (n < m)
ranked_ends [] [] m n i p q e = omega arith
ranked_ends [] (v ∷ vs) m n i p q e = omega arith
ranked_ends (u ∷ us) [] m n i p q e = omega arith
ranked_ends (u ∷ us) (v ∷ vs) m n i p q e = absurd (omega arith)

-- where one of two lists ends, the lengths decide
pub slice_cmp-ends : (xs ys : List Tree) (i : ℕ) → i ≡ min (length xs) (length ys) → slice_cmp cmp (drop i xs) (drop i ys) ≡ nat_cmp (length xs) (length ys)
slice_cmp-ends xs ys i e =
    let p : length (drop i xs) + i ≡ length xs = omega (arith, length-drop i xs) in
    let q : length (drop i ys) + i ≡ length ys = omega (arith, length-drop i ys) in
    nat_cmp_is (length xs) (length ys) (slice_cmp cmp (drop i xs) (drop i ys)) (ranked_ends (drop i xs) (drop i ys) (length xs) (length ys) i p q e)

-- an element is smaller than its list
pub tree_size-at : (xs : List Tree) (i : ℕ) (x : Tree) → i < length xs → x ≡ get_or xs i x → tree_size x + 1 ≤ trees_size (trees xs)
tree_size-at [] i x h e = absurd (omega arith)
tree_size-at (y ∷ ys) zero x h e = rw e (omega arith)
tree_size-at (y ∷ ys) (suc i) x h e = omega (arith, tree_size-at ys i x (omega arith) e)
