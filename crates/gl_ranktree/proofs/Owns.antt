-- Lemmas for another own summary in one entry.
use Rattle.std.proofs.Common.{◌≡◌, ℕ, zero, suc, ◌+◌, ◌<◌, ◌≤◌, List, [], ◌∷◌, ◌++◌, length, refl, sym, ap, ◌∙◌, arith}
use Rattle.gl_ranktree.specs.Summary.{Sums}
use Rattle.gl_ranktree.specs.Tree.{Tree, fork, tree_size, inorder, times, hit, hits, with_own, DifferByAtMost, left_of, right_of}
use Rattle.gl_ranktree.specs.Nodes.{node_at, Sides, Becomes, Joins, Puts}
use Rattle.gl_ranktree.specs.Edits.{Stands, SetsOwn}
use Rattle.gl_ranktree.specs.declared.node.Node.{Node}
use Rattle.gl_ranktree.proofs.Trees.{hit_same, other_slot, other_from_hit}
use Rattle.gl_ranktree.proofs.Links.{Realizes-kept}
use Rattle.gl_ranktree.proofs.Edits.{hits-inorder, length-inorder, Below, over_left, joined_left, over_right, joined_right}

module _ {S : Type 0} where
  with_own_left : (xs ys : List (ℕ × S)) (position : ℕ) (own : S) → position < length xs → with_own (xs ++ ys) position own ≡ with_own xs position own ++ ys
  with_own_left [] ys position own within = absurd (omega (arith, within))
  with_own_left (x ∷ xs) ys zero own within = refl
  with_own_left (x ∷ xs) ys (suc position) own within = ap (λ zs. x ∷ zs) (with_own_left xs ys position own (omega (arith, within)))

  with_own_past : (xs ys : List (ℕ × S)) (e : ℕ × S) (k : ℕ) (own : S) → with_own (xs ++ e ∷ ys) (length xs + suc k) own ≡ xs ++ e ∷ with_own ys k own
  with_own_past [] ys e k own = let is : 0 + suc k ≡ suc k = omega arith in rw is
  with_own_past (x ∷ xs) ys e k own =
      let is : suc (length xs) + suc k ≡ suc (length xs + suc k) = omega arith in
      rw is (ap (λ zs. x ∷ zs) (with_own_past xs ys e k own))

  with_own_here : (xs ys : List (ℕ × S)) (e : ℕ × S) (own : S) → with_own (xs ++ e ∷ ys) (length xs) own ≡ xs ++ (e.0, own) ∷ ys
  with_own_here [] ys e own = refl
  with_own_here (x ∷ xs) ys e own = ap (λ zs. x ∷ zs) (with_own_here xs ys e own)

  pub hits-with_own : (j : ℕ) (xs : List (ℕ × S)) (position : ℕ) (own : S) → hits j (with_own xs position own) ≡ hits j xs
  hits-with_own j [] position own = refl
  hits-with_own j (x ∷ xs) zero own = refl
  hits-with_own j (x ∷ xs) (suc position) own = ap (λ n. hit x.0 j + n) (hits-with_own j xs position own)

  pub length-with_own : (xs : List (ℕ × S)) (position : ℕ) (own : S) → length (with_own xs position own) ≡ length xs
  length-with_own [] position own = refl
  length-with_own (x ∷ xs) zero own = refl
  length-with_own (x ∷ xs) (suc position) own = ap suc (length-with_own xs position own)

  pub times_of_own : (j : ℕ) (t u : Tree S) (position : ℕ) (own : S) → inorder u ≡ with_own (inorder t) position own → times j u ≡ times j t
  times_of_own j t u position own order = omega (arith, hits-inorder j u, hits-inorder j t, ap (hits j) order, hits-with_own j (inorder t) position own)

  pub size_of_own : (t u : Tree S) (position : ℕ) (own : S) → inorder u ≡ with_own (inorder t) position own → tree_size u ≡ tree_size t
  size_of_own t u position own order = omega (arith, length-inorder u, length-inorder t, ap length order, length-with_own (inorder t) position own)

module _ {S : Type 0} (m : Sums S) where
  -- a node made over its sides has joined them
  pub made_joins : (old new : List (Node S)) (slot : ℕ) (l r : Tree S) → DifferByAtMost 1 l r → Becomes m old new slot (fork l slot (node_at m old slot).own r) → Joins m old new slot slot l r
  made_joins old new slot l r near becomes =
      record { tree = _; becomes = becomes; order = refl; settled = record { low = omega arith; high = omega arith; level = λ _. refl } }

  pub own_left_sides : (old n1 : List (Node S)) (top left position : ℕ) (own : S) (t : Tree S) (here : Node S) → Stands m old top t → Below m old top t here → (so : SetsOwn m old n1 left position own (left_of t)) → Sides m n1 left top here.right so.tree (right_of t) × DifferByAtMost 1 so.tree (right_of t)
  own_left_sides old n1 top left position own t here s b so = (
    over_left m old n1 top left t so.tree here b so.becomes
        (λ j. omega (arith, s.apart j, b.apart j, times_of_own j (left_of t) so.tree position own so.order))
        s.addressed
        (omega (arith, s.small, b.size, size_of_own (left_of t) so.tree position own so.order)),
    (omega (arith, b.at.balanced, so.height), omega (arith, b.at.balanced, so.height)),
  )

  pub own_left_done : (old n1 new : List (Node S)) (top left position : ℕ) (own : S) (t : Tree S) (here : Node S) → Stands m old top t → Below m old top t here → position < tree_size (left_of t) → (so : SetsOwn m old n1 left position own (left_of t)) → Becomes m n1 new top (fork so.tree top (node_at m n1 top).own (right_of t)) → SetsOwn m old new top position own t
  own_left_done old n1 new top left position own t here s b within so made =
      let near : DifferByAtMost 1 so.tree (right_of t) = (omega (arith, b.at.balanced, so.height), omega (arith, b.at.balanced, so.height)) in
      let jn = made_joins n1 new top so.tree (right_of t) near made in
      let joined = joined_left m old n1 new top left top t so.tree here b so.becomes (λ j. omega (arith, s.apart j, b.apart j, times_of_own j (left_of t) so.tree position own so.order)) jn in
      record {
        tree = jn.tree;
        becomes = joined.becomes;
        order = joined.order ∙ (ap (λ xs. xs ++ (top, b.w) ∷ inorder (right_of t)) so.order ∙ (sym (with_own_left (inorder (left_of t)) ((top, b.w) ∷ inorder (right_of t)) position own (omega (arith, within, length-inorder (left_of t)))) ∙ ap (λ xs. with_own xs position own) (sym b.order)));
        height = omega (arith, b.height, so.height);
      }

  pub own_right_sides : (old n1 : List (Node S)) (top right k : ℕ) (own : S) (t : Tree S) (here : Node S) → Stands m old top t → Below m old top t here → (so : SetsOwn m old n1 right k own (right_of t)) → Sides m n1 here.left top right (left_of t) so.tree × DifferByAtMost 1 (left_of t) so.tree
  own_right_sides old n1 top right k own t here s b so = (
    over_right m old n1 top right t so.tree here b so.becomes
        (λ j. omega (arith, s.apart j, b.apart j, times_of_own j (right_of t) so.tree k own so.order))
        s.addressed
        (omega (arith, s.small, b.size, size_of_own (right_of t) so.tree k own so.order)),
    (omega (arith, b.at.balanced, so.height), omega (arith, b.at.balanced, so.height)),
  )

  pub own_right_done : (old n1 new : List (Node S)) (top right position k : ℕ) (own : S) (t : Tree S) (here : Node S) → Stands m old top t → Below m old top t here → position ≡ tree_size (left_of t) + suc k → (so : SetsOwn m old n1 right k own (right_of t)) → Becomes m n1 new top (fork (left_of t) top (node_at m n1 top).own so.tree) → SetsOwn m old new top position own t
  own_right_done old n1 new top right position k own t here s b is so made =
      let near : DifferByAtMost 1 (left_of t) so.tree = (omega (arith, b.at.balanced, so.height), omega (arith, b.at.balanced, so.height)) in
      let jn = made_joins n1 new top (left_of t) so.tree near made in
      let joined = joined_right m old n1 new top right top t so.tree here b so.becomes (λ j. omega (arith, s.apart j, b.apart j, times_of_own j (right_of t) so.tree k own so.order)) jn in
      let at : position ≡ length (inorder (left_of t)) + suc k = omega (arith, is, length-inorder (left_of t)) in
      record {
        tree = jn.tree;
        becomes = joined.becomes;
        order = joined.order ∙ (ap (λ xs. inorder (left_of t) ++ (top, b.w) ∷ xs) so.order ∙ (sym (with_own_past (inorder (left_of t)) (inorder (right_of t)) (top, b.w) k own) ∙ (ap (λ p. with_own (inorder (left_of t) ++ (top, b.w) ∷ inorder (right_of t)) p own) (sym at) ∙ ap (λ xs. with_own xs position own) (sym b.order))));
        height = omega (arith, b.height, so.height);
      }

  pub own_here_sides : (old n1 : List (Node S)) (top : ℕ) (node : Node S) (t : Tree S) (here : Node S) → Stands m old top t → Below m old top t here → Puts m old n1 top node → Sides m n1 here.left top here.right (left_of t) (right_of t)
  own_here_sides old n1 top node t here s b puts =
      let same_left : (j : ℕ) → 1 ≤ times j (left_of t) → node_at m n1 j ≡ node_at m old j =
      λ j some. puts.others j (other_slot top j (left_of t) (omega (arith, s.apart top, b.apart top, hit_same top)) some) in
      let same_right : (j : ℕ) → 1 ≤ times j (right_of t) → node_at m n1 j ≡ node_at m old j =
      λ j some. puts.others j (other_slot top j (right_of t) (omega (arith, s.apart top, b.apart top, hit_same top)) some) in
      record {
        left_is = b.left_is;
        right_is = b.right_is;
        left_stands = Realizes-kept m old n1 (left_of t) puts.len same_left b.left_stands;
        right_stands = Realizes-kept m old n1 (right_of t) puts.len same_right b.right_stands;
        apart = λ j. omega (arith, s.apart j, b.apart j);
        within = omega (arith, b.at.within, puts.len);
        addressed = omega (arith, s.addressed, puts.len);
        small = omega (arith, s.small, b.size);
      }

  pub own_here_done : (old n1 new : List (Node S)) (top position : ℕ) (node : Node S) (t : Tree S) (here : Node S) → Stands m old top t → Below m old top t here → position ≡ tree_size (left_of t) → Puts m old n1 top node → Becomes m n1 new top (fork (left_of t) top (node_at m n1 top).own (right_of t)) → SetsOwn m old new top position node.own t
  own_here_done old n1 new top position node t here s b is puts made =
      let own_is : (node_at m n1 top).own ≡ node.own = ap (λ (n : Node S). n.own) puts.at in
      let at : position ≡ length (inorder (left_of t)) = omega (arith, is, length-inorder (left_of t)) in
      record {
        tree = fork (left_of t) top (node_at m n1 top).own (right_of t);
        becomes = record {
          top_is = refl;
          stands = made.stands;
          frame = λ j none. made.frame j none ∙ puts.others j (other_from_hit top j (omega (arith, none)));
          len = made.len ∙ puts.len;
        };
        order = ap (λ v. inorder (left_of t) ++ (top, v) ∷ inorder (right_of t)) own_is ∙ (sym (with_own_here (inorder (left_of t)) (inorder (right_of t)) (top, b.w) node.own) ∙ (ap (λ p. with_own (inorder (left_of t) ++ (top, b.w) ∷ inorder (right_of t)) p node.own) (sym at) ∙ ap (λ xs. with_own xs position node.own) (sym b.order)));
        height = sym b.height;
      }
