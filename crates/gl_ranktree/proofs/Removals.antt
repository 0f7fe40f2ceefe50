-- Lemmas for taking an entry out of a tree, and for another own summary in one.
use Rattle.std.proofs.Common.{◌≡◌, ℕ, suc, ◌+◌, ◌<◌, ◌≤◌, max, List, ◌∷◌, ◌++◌, length, append-nil, refl, sym, ap, ◌∙◌, inl, inr, arith, remove}
use Rattle.std.proofs.lemmas.List.Edits.{remove-append_left}
use Rattle.std.proofs.lemmas.Bool.{cases_lt, cases_eq}
use Rattle.gl_ranktree.specs.Summary.{Sums}
use Rattle.gl_ranktree.specs.Tree.{Tree, leaf, fork, absent, tree_size, tree_height, inorder, times, hit, DifferByAtMost, left_of, right_of}
use Rattle.gl_ranktree.specs.Nodes.{node_at, Realizes, Sides, Joins}
use Rattle.gl_ranktree.specs.Edits.{Stands, TakesFirst, CanMerge, Merges, Removes}
use Rattle.gl_ranktree.specs.declared.node.Node.{Node}
use Rattle.gl_ranktree.proofs.Trees.{hit_same, hit_other}
use Rattle.gl_ranktree.proofs.Links.{Realizes-apart}
use Rattle.gl_ranktree.proofs.Edits.{shrunk, length-inorder, times_between, times_of_first, size_of_first, times_of_remove, size_of_remove, remove_past, remove_here, absent_is_leaf, Below, over_left, joined_left, over_right, joined_right}

-- the height over two sides of which the second one shrank, against the higher of them
merged : (a b c s : ℕ) → a ≤ b + 1 → b ≤ a + 1 → c ≤ b → b ≤ c + 1 → max a c ≤ s → s ≤ max a c + 1 → ((a ≤ c + 1) × (c ≤ a + 1) → s ≡ max a c + 1) → (max a b ≤ s) × (s ≤ max a b + 1)
merged a b c s n1 n2 g1 g2 low high level =
    elim (cases_lt (c + 1) a) [
      | inl far ↦ (omega arith, omega arith)
      | inr near ↦ let e = level (near, omega arith) in (omega arith, omega arith)
    ]

module _ {S : Type 0} (m : Sums S) where
  -- a slot of the tree is one of the vector
  pub within_from_times : (nodes : List (Node S)) (t : Tree S) (j : ℕ) → Realizes m nodes t → 1 ≤ times j t → j < length nodes
  within_from_times nodes leaf j stands some = absurd (omega (arith, some))
  within_from_times nodes (fork l i w r) j stands some =
      elim (cases_lt 0 (times j l)) [
        | inl left ↦ within_from_times nodes l j stands.1 left
        | inr no_left ↦
            elim (cases_lt 0 (times j r)) [
              | inl right ↦ within_from_times nodes r j stands.2 right
              | inr no_right ↦
                  elim (cases_eq i j) [
                    | inl same ↦ omega (arith, same, stands.0.within)
                    | inr other ↦ absurd (omega (arith, hit_other i j other, some))
                  ]
            ]
      ]

  pub left_part : (nodes : List (Node S)) (top : ℕ) (t : Tree S) (here : Node S) → Stands m nodes top t → Below m nodes top t here → Stands m nodes here.left (left_of t)
  left_part nodes top t here s b =
      record { top_is = b.left_is; stands = b.left_stands; apart = λ j. omega (arith, s.apart j, b.apart j); addressed = s.addressed; small = omega (arith, s.small, b.size) }

  pub right_part : (nodes : List (Node S)) (top : ℕ) (t : Tree S) (here : Node S) → Stands m nodes top t → Below m nodes top t here → Stands m nodes here.right (right_of t)
  right_part nodes top t here s b =
      record { top_is = b.right_is; stands = b.right_stands; apart = λ j. omega (arith, s.apart j, b.apart j); addressed = s.addressed; small = omega (arith, s.small, b.size) }

  -- take_first
  pub take_here : (old : List (Node S)) (top : ℕ) (t : Tree S) (here : Node S) → Stands m old top t → Below m old top t here → here.left ≡ absent → TakesFirst m old old top here.right t
  take_here old top t here s b none =
      let no_left = absent_is_leaf m old here.left (left_of t) s.addressed b.left_is b.left_stands none in
      record {
        tree = right_of t;
        becomes = record { top_is = b.right_is; stands = b.right_stands; frame = λ j _. refl; len = refl };
        order = b.order ∙ (ap (λ u. inorder u ++ (top, b.w) ∷ inorder (right_of t)) no_left ∙ ap (λ v. (top, v) ∷ inorder (right_of t)) (sym b.at.own));
        height = (omega (arith, b.height, ap tree_height no_left), omega (arith, b.height, ap tree_height no_left));
      }

  pub take_left_sides : (old n1 : List (Node S)) (top first left : ℕ) (t : Tree S) (here : Node S) → Stands m old top t → Below m old top t here → (tk : TakesFirst m old n1 first left (left_of t)) → Sides m n1 left top here.right tk.tree (right_of t) × DifferByAtMost 2 tk.tree (right_of t)
  take_left_sides old n1 top first left t here s b tk = (
    over_left m old n1 top left t tk.tree here b tk.becomes
        (λ j. omega (arith, s.apart j, b.apart j, times_of_first j (left_of t) tk.tree first _ tk.order))
        s.addressed
        (omega (arith, s.small, b.size, size_of_first (left_of t) tk.tree first _ tk.order)),
    (omega (arith, b.at.balanced, tk.height), omega (arith, b.at.balanced, tk.height)),
  )

  pub take_left_done : (old n1 new : List (Node S)) (top first left result : ℕ) (t : Tree S) (here : Node S) → Stands m old top t → Below m old top t here → (tk : TakesFirst m old n1 first left (left_of t)) → Joins m n1 new result top tk.tree (right_of t) → TakesFirst m old new first result t
  take_left_done old n1 new top first left result t here s b tk jn =
      let joined = joined_left m old n1 new top left result t tk.tree here b tk.becomes (λ j. omega (arith, s.apart j, b.apart j, times_of_first j (left_of t) tk.tree first _ tk.order)) jn in
      let h = shrunk (tree_height (left_of t)) (tree_height (right_of t)) (tree_height tk.tree) (tree_height jn.tree) b.at.balanced.0 b.at.balanced.1 tk.height.0 tk.height.1 jn.settled.low jn.settled.high jn.settled.level in
      record {
        tree = jn.tree;
        becomes = joined.becomes;
        order = b.order ∙ (ap (λ xs. xs ++ (top, b.w) ∷ inorder (right_of t)) tk.order ∙ ap (λ xs. (first, (node_at m old first).own) ∷ xs) (sym joined.order));
        height = (omega (arith, h, b.height), omega (arith, h, b.height));
      }

  -- merge
  pub merge_left_alone : (old : List (Node S)) (left right : ℕ) (l r : Tree S) → CanMerge m old left right l r → right ≡ absent → Merges m old old left l r
  merge_left_alone old left right l r can none =
      let no_right = absent_is_leaf m old right r can.addressed can.right_is can.right_stands none in
      record {
        tree = l;
        becomes = record { top_is = can.left_is; stands = can.left_stands; frame = λ j _. refl; len = refl };
        order = sym (ap (λ u. inorder l ++ inorder u) no_right ∙ append-nil (inorder l));
        height = (omega (arith, ap tree_height no_right), omega (arith, ap tree_height no_right));
      }

  pub merge_right_part : (old : List (Node S)) (left right : ℕ) (l r : Tree S) → CanMerge m old left right l r → Stands m old right r
  merge_right_part old left right l r can =
      record { top_is = can.right_is; stands = can.right_stands; apart = λ j. omega (arith, can.apart j); addressed = can.addressed; small = omega (arith, can.small) }

  pub merge_sides : (old n1 : List (Node S)) (left right first rest : ℕ) (l r : Tree S) → CanMerge m old left right l r → (tk : TakesFirst m old n1 first rest r) → Sides m n1 left first rest l tk.tree × DifferByAtMost 2 l tk.tree
  merge_sides old n1 left right first rest l r can tk =
      let count : (j : ℕ) → times j r ≡ hit first j + times j tk.tree = λ j. times_of_first j r tk.tree first _ tk.order in (
        record {
          left_is = can.left_is;
          right_is = tk.becomes.top_is;
          left_stands = Realizes-apart m old n1 l tk.tree tk.becomes.len tk.becomes.frame (λ j. omega (arith, can.apart j, count j)) can.left_stands;
          right_stands = tk.becomes.stands;
          apart = λ j. omega (arith, can.apart j, count j);
          within = omega (arith, within_from_times old r first can.right_stands (omega (arith, count first, hit_same first)), tk.becomes.len);
          addressed = omega (arith, can.addressed, tk.becomes.len);
          small = omega (arith, can.small, size_of_first r tk.tree first _ tk.order);
        },
        (omega (arith, can.near, tk.height), omega (arith, can.near, tk.height)),
      )

  pub merge_done : (old n1 new : List (Node S)) (left right first rest result : ℕ) (l r : Tree S) → CanMerge m old left right l r → (tk : TakesFirst m old n1 first rest r) → Joins m n1 new result first l tk.tree → Merges m old new result l r
  merge_done old n1 new left right first rest result l r can tk jn =
      let count : (j : ℕ) → times j r ≡ hit first j + times j tk.tree = λ j. times_of_first j r tk.tree first _ tk.order in
      let own_is : (node_at m n1 first).own ≡ (node_at m old first).own = ap (λ (n : Node S). n.own) (tk.becomes.frame first (omega (arith, can.apart first, count first, hit_same first))) in
      let order = jn.order ∙ ap (λ v. inorder l ++ (first, v) ∷ inorder tk.tree) own_is in
      record {
        tree = jn.tree;
        becomes = record {
          top_is = jn.becomes.top_is;
          stands = jn.becomes.stands;
          frame = λ j none. jn.becomes.frame j none ∙ tk.becomes.frame j (omega (arith, none, times_between j jn.tree l tk.tree first _ order));
          len = jn.becomes.len ∙ tk.becomes.len;
        };
        order = order ∙ ap (λ xs. inorder l ++ xs) (sym tk.order);
        height = merged (tree_height l) (tree_height r) (tree_height tk.tree) (tree_height jn.tree) can.near.0 can.near.1 tk.height.0 tk.height.1 jn.settled.low jn.settled.high jn.settled.level;
      }

  -- remove
  pub remove_left_sides : (old n1 : List (Node S)) (top left position : ℕ) (t : Tree S) (here : Node S) → Stands m old top t → Below m old top t here → position < tree_size (left_of t) → (rm : Removes m old n1 left position (left_of t)) → Sides m n1 left top here.right rm.tree (right_of t) × DifferByAtMost 2 rm.tree (right_of t)
  remove_left_sides old n1 top left position t here s b within rm = (
    over_left m old n1 top left t rm.tree here b rm.becomes
        (λ j. omega (arith, s.apart j, b.apart j, times_of_remove j (left_of t) rm.tree position rm.order))
        s.addressed
        (omega (arith, s.small, b.size, size_of_remove (left_of t) rm.tree position within rm.order)),
    (omega (arith, b.at.balanced, rm.height), omega (arith, b.at.balanced, rm.height)),
  )

  pub remove_left_done : (old n1 new : List (Node S)) (top left position result : ℕ) (t : Tree S) (here : Node S) → Stands m old top t → Below m old top t here → position < tree_size (left_of t) → (rm : Removes m old n1 left position (left_of t)) → Joins m n1 new result top rm.tree (right_of t) → Removes m old new result position t
  remove_left_done old n1 new top left position result t here s b within rm jn =
      let joined = joined_left m old n1 new top left result t rm.tree here b rm.becomes (λ j. omega (arith, s.apart j, b.apart j, times_of_remove j (left_of t) rm.tree position rm.order)) jn in
      let h = shrunk (tree_height (left_of t)) (tree_height (right_of t)) (tree_height rm.tree) (tree_height jn.tree) b.at.balanced.0 b.at.balanced.1 rm.height.0 rm.height.1 jn.settled.low jn.settled.high jn.settled.level in
      record {
        tree = jn.tree;
        becomes = joined.becomes;
        order = joined.order ∙ (ap (λ xs. xs ++ (top, b.w) ∷ inorder (right_of t)) rm.order ∙ (sym (remove-append_left (inorder (left_of t)) ((top, b.w) ∷ inorder (right_of t)) position (omega (arith, within, length-inorder (left_of t)))) ∙ ap (λ xs. remove xs position) (sym b.order)));
        height = (omega (arith, h, b.height), omega (arith, h, b.height));
      }

  pub remove_right_sides : (old n1 : List (Node S)) (top right position k : ℕ) (t : Tree S) (here : Node S) → Stands m old top t → Below m old top t here → position ≡ tree_size (left_of t) + suc k → position < tree_size t → (rm : Removes m old n1 right k (right_of t)) → Sides m n1 here.left top right (left_of t) rm.tree × DifferByAtMost 2 (left_of t) rm.tree
  remove_right_sides old n1 top right position k t here s b is within rm = (
    over_right m old n1 top right t rm.tree here b rm.becomes
        (λ j. omega (arith, s.apart j, b.apart j, times_of_remove j (right_of t) rm.tree k rm.order))
        s.addressed
        (omega (arith, s.small, b.size, size_of_remove (right_of t) rm.tree k (omega (arith, is, within, b.size)) rm.order)),
    (omega (arith, b.at.balanced, rm.height), omega (arith, b.at.balanced, rm.height)),
  )

  pub remove_right_done : (old n1 new : List (Node S)) (top right position k result : ℕ) (t : Tree S) (here : Node S) → Stands m old top t → Below m old top t here → position ≡ tree_size (left_of t) + suc k → (rm : Removes m old n1 right k (right_of t)) → Joins m n1 new result top (left_of t) rm.tree → Removes m old new result position t
  remove_right_done old n1 new top right position k result t here s b is rm jn =
      let joined = joined_right m old n1 new top right result t rm.tree here b rm.becomes (λ j. omega (arith, s.apart j, b.apart j, times_of_remove j (right_of t) rm.tree k rm.order)) jn in
      let h = shrunk (tree_height (right_of t)) (tree_height (left_of t)) (tree_height rm.tree) (tree_height jn.tree) b.at.balanced.1 b.at.balanced.0 rm.height.0 rm.height.1 (omega (arith, jn.settled.low)) (omega (arith, jn.settled.high)) (λ near. omega (arith, jn.settled.level (near.1, near.0))) in
      record {
        tree = jn.tree;
        becomes = joined.becomes;
        order = joined.order ∙ (ap (λ xs. inorder (left_of t) ++ (top, b.w) ∷ xs) rm.order ∙ (sym (remove_past (inorder (left_of t)) (inorder (right_of t)) (top, b.w) position k (omega (arith, is, length-inorder (left_of t)))) ∙ ap (λ xs. remove xs position) (sym b.order)));
        height = (omega (arith, h, b.height), omega (arith, h, b.height));
      }

  pub remove_merge_can : (old : List (Node S)) (top : ℕ) (t : Tree S) (here : Node S) → Stands m old top t → Below m old top t here → CanMerge m old here.left here.right (left_of t) (right_of t)
  remove_merge_can old top t here s b =
      record {
        left_is = b.left_is;
        right_is = b.right_is;
        left_stands = b.left_stands;
        right_stands = b.right_stands;
        apart = λ j. omega (arith, s.apart j, b.apart j);
        addressed = s.addressed;
        small = omega (arith, s.small, b.size);
        near = b.at.balanced;
      }

  pub remove_here_done : (old new : List (Node S)) (top position result : ℕ) (t : Tree S) (here : Node S) → Below m old top t here → position ≡ tree_size (left_of t) → Merges m old new result (left_of t) (right_of t) → Removes m old new result position t
  remove_here_done old new top position result t here b is mg =
      record {
        tree = mg.tree;
        becomes = mg.becomes;
        order = mg.order ∙ (sym (remove_here (inorder (left_of t)) (inorder (right_of t)) (top, b.w) position (omega (arith, is, length-inorder (left_of t)))) ∙ ap (λ xs. remove xs position) (sym b.order));
        height = (omega (arith, mg.height, b.height), omega (arith, mg.height, b.height));
      }
