-- Lemmas for the recursions that edit a tree.
use Rattle.std.proofs.Common.{◌≡◌, ◌≢◌, ℕ, zero, suc, ◌+◌, ◌-◌, ◌<◌, ◌≤◌, ◌^◌, max, List, [], ◌∷◌, ◌++◌, length, take, drop, refl, sym, ap, ◌∙◌, inl, inr, arith, insert, remove, length-append}
use Rattle.std.proofs.lemmas.List.{take-append-drop}
use Rattle.std.proofs.lemmas.List.Edits.{length-insert, length-remove, insert-append_left, insert-append_right, remove-append_right}
use Rattle.std.proofs.lemmas.Bool.{cases_lt}
use Rattle.gl_ranktree.specs.Summary.{Sums}
use Rattle.gl_ranktree.specs.Tree.{Tree, leaf, fork, absent, root, tree_size, tree_height, inorder, times, hit, hits, DifferByAtMost, left_of, right_of}
use Rattle.gl_ranktree.specs.Nodes.{node_at, IsFork, Realizes, IsAddressed, Sides, Becomes, Joins}
use Rattle.gl_ranktree.specs.Edits.{CanInsert, Inserts}
use Rattle.gl_ranktree.specs.declared.node.Node.{Node}
use Rattle.gl_ranktree.proofs.Trees.{hit_same}
use Rattle.gl_ranktree.proofs.Links.{Realizes-apart, head}

-- the height over a side that grew by at most one
pub grown : (a b c s : ℕ) → a ≤ b + 1 → b ≤ a + 1 → a ≤ c → c ≤ a + 1 → max c b ≤ s → s ≤ max c b + 1 → ((c ≤ b + 1) × (b ≤ c + 1) → s ≡ max c b + 1) → (max a b + 1 ≤ s) × (s ≤ max a b + 1 + 1)
grown a b c s n1 n2 g1 g2 low high level =
    elim (cases_lt (b + 1) c) [
      | inl far ↦ (omega arith, omega arith)
      | inr near ↦ let e = level (near, omega arith) in (omega arith, omega arith)
    ]

-- the height over a side that shrank by at most one
pub shrunk : (a b c s : ℕ) → a ≤ b + 1 → b ≤ a + 1 → c ≤ a → a ≤ c + 1 → max c b ≤ s → s ≤ max c b + 1 → ((c ≤ b + 1) × (b ≤ c + 1) → s ≡ max c b + 1) → (s ≤ max a b + 1) × (max a b + 1 ≤ s + 1)
shrunk a b c s n1 n2 g1 g2 low high level =
    elim (cases_lt (c + 1) b) [
      | inl far ↦ (omega arith, omega arith)
      | inr near ↦ let e = level (omega arith, near) in (omega arith, omega arith)
    ]

module _ {S : Type 0} where
  pub hits-append : (j : ℕ) (xs ys : List (ℕ × S)) → hits j (xs ++ ys) ≡ hits j xs + hits j ys
  hits-append j [] ys = omega arith
  hits-append j (x ∷ xs) ys = omega (arith, hits-append j xs ys)

  pub hits-inorder : (j : ℕ) (t : Tree S) → hits j (inorder t) ≡ times j t
  hits-inorder j leaf = refl
  hits-inorder j (fork l i w r) = omega (arith, hits-append j (inorder l) ((i, w) ∷ inorder r), hits-inorder j l, hits-inorder j r)

  pub length-inorder : (t : Tree S) → length (inorder t) ≡ tree_size t
  length-inorder leaf = refl
  length-inorder (fork l i w r) = omega (arith, length-append (inorder l) ((i, w) ∷ inorder r), length-inorder l, length-inorder r)

  pub hits-insert : (j : ℕ) (xs : List (ℕ × S)) (position : ℕ) (e : ℕ × S) → hits j (insert xs position e) ≡ hits j xs + hit e.0 j
  hits-insert j xs position e =
      omega (arith, hits-append j (take position xs) (e ∷ drop position xs), hits-append j (take position xs) (drop position xs), ap (hits j) (take-append-drop position xs))

  pub insert_past : (xs ys : List (ℕ × S)) (x y : ℕ × S) (position k : ℕ) → position ≡ length xs + suc k → insert (xs ++ x ∷ ys) position y ≡ xs ++ x ∷ insert ys k y
  insert_past xs ys x y position k is =
      let more : position - length xs ≡ suc k = omega arith in
      rw (insert-append_right xs (x ∷ ys) (length xs) position y refl (omega arith), more)

  pub remove_past : (xs ys : List (ℕ × S)) (x : ℕ × S) (position k : ℕ) → position ≡ length xs + suc k → remove (xs ++ x ∷ ys) position ≡ xs ++ x ∷ remove ys k
  remove_past xs ys x position k is =
      let more : position - length xs ≡ suc k = omega arith in
      rw (remove-append_right xs (x ∷ ys) (length xs) position refl (omega arith), more)

  pub hits-remove-le : (j : ℕ) (xs : List (ℕ × S)) (position : ℕ) → hits j (remove xs position) ≤ hits j xs
  hits-remove-le j [] zero = omega arith
  hits-remove-le j [] (suc position) = omega arith
  hits-remove-le j (x ∷ xs) zero = omega arith
  hits-remove-le j (x ∷ xs) (suc position) = omega (arith, hits-remove-le j xs position)

  pub remove_here : (xs ys : List (ℕ × S)) (x : ℕ × S) (position : ℕ) → position ≡ length xs → remove (xs ++ x ∷ ys) position ≡ xs ++ ys
  remove_here xs ys x position is =
      let none : position - length xs ≡ 0 = omega arith in
      rw (remove-append_right xs (x ∷ ys) (length xs) position refl (omega arith), none)

  -- the slots and the size of a tree whose order is known
  pub times_of_insert : (j : ℕ) (t u : Tree S) (position : ℕ) (e : ℕ × S) → inorder u ≡ insert (inorder t) position e → times j u ≡ times j t + hit e.0 j
  times_of_insert j t u position e order =
      omega (arith, hits-inorder j u, hits-inorder j t, ap (hits j) order, hits-insert j (inorder t) position e)

  pub size_of_insert : (t u : Tree S) (position : ℕ) (e : ℕ × S) → position ≤ tree_size t → inorder u ≡ insert (inorder t) position e → tree_size u ≡ tree_size t + 1
  size_of_insert t u position e within order =
      omega (arith, length-inorder u, length-inorder t, ap length order, length-insert (inorder t) position e (omega (arith, length-inorder t)))

  pub times_between : (j : ℕ) (t a b : Tree S) (i : ℕ) (w : S) → inorder t ≡ inorder a ++ (i, w) ∷ inorder b → times j t ≡ times j a + hit i j + times j b
  times_between j t a b i w order =
      omega (arith, hits-inorder j t, hits-inorder j a, hits-inorder j b, ap (hits j) order, hits-append j (inorder a) ((i, w) ∷ inorder b))

  pub times_of_first : (j : ℕ) (t u : Tree S) (i : ℕ) (w : S) → inorder t ≡ (i, w) ∷ inorder u → times j t ≡ hit i j + times j u
  times_of_first j t u i w order = omega (arith, hits-inorder j t, hits-inorder j u, ap (hits j) order)

  pub size_of_first : (t u : Tree S) (i : ℕ) (w : S) → inorder t ≡ (i, w) ∷ inorder u → tree_size t ≡ tree_size u + 1
  size_of_first t u i w order = omega (arith, length-inorder t, length-inorder u, ap length order)

  pub times_of_remove : (j : ℕ) (t u : Tree S) (position : ℕ) → inorder u ≡ remove (inorder t) position → times j u ≤ times j t
  times_of_remove j t u position order = omega (arith, hits-inorder j u, hits-inorder j t, ap (hits j) order, hits-remove-le j (inorder t) position)

  pub size_of_remove : (t u : Tree S) (position : ℕ) → position < tree_size t → inorder u ≡ remove (inorder t) position → tree_size u + 1 ≡ tree_size t
  size_of_remove t u position within order =
      omega (arith, length-inorder u, length-inorder t, ap length order, length-remove (inorder t) position (omega (arith, length-inorder t)))

module _ {S : Type 0} (m : Sums S) where
  -- a root in no slot is that of the empty tree
  pub absent_is_leaf : (nodes : List (Node S)) (top : ℕ) (t : Tree S) → IsAddressed nodes → top ≡ root t → Realizes m nodes t → top ≡ absent → t ≡ leaf
  absent_is_leaf nodes top leaf addressed is stands none = refl
  absent_is_leaf nodes top (fork l i w r) addressed is stands none = absurd (omega (arith, stands.0.within))

  pub filled_from_slot : (top : ℕ) (t : Tree S) → top ≡ root t → top ≢ absent → 1 ≤ tree_height t
  filled_from_slot top leaf is some = absurd (some is)
  filled_from_slot top (fork l i w r) is some = omega arith

  pub insert_leaf : (old new : List (Node S)) (top position slot : ℕ) (t : Tree S) → CanInsert m old top position slot t → top ≡ absent → Becomes m old new slot (fork leaf slot (node_at m old slot).own leaf) → Inserts m old new slot position slot t
  insert_leaf old new top position slot leaf can none becomes =
      let first : position ≡ 0 = omega (arith, can.in_range) in
      record { tree = _; becomes = becomes; order = rw first; height = (omega arith, omega arith) }
  insert_leaf old new top position slot (fork l i w r) can none becomes =
      absurd (omega (arith, can.stands.0.within, can.addressed, can.top_is))

  -- what is known below the root of a tree that isn't empty
  pub record Below (nodes : List (Node S)) (top : ℕ) (t : Tree S) (here : Node S) : Type 0 where
    pub w : S
    pub is : t ≡ fork (left_of t) top w (right_of t)
    pub left_is : here.left ≡ root (left_of t)
    pub right_is : here.right ≡ root (right_of t)
    pub at : IsFork m nodes (left_of t) top w (right_of t)
    pub left_stands : Realizes m nodes (left_of t)
    pub right_stands : Realizes m nodes (right_of t)
    pub apart : (j : ℕ) → times j t ≡ times j (left_of t) + hit top j + times j (right_of t)
    pub size : tree_size t ≡ tree_size (left_of t) + tree_size (right_of t) + 1
    pub height : tree_height t ≡ max (tree_height (left_of t)) (tree_height (right_of t)) + 1
    pub order : inorder t ≡ inorder (left_of t) ++ (top, w) ∷ inorder (right_of t)

  pub below : (nodes : List (Node S)) (top : ℕ) (t : Tree S) (here : Node S) → 1 ≤ tree_height t → top ≡ root t → Realizes m nodes t → here ≡ node_at m nodes top → Below nodes top t here
  below nodes top leaf here filled is stands read = absurd (omega (arith, filled))
  below nodes top (fork l i w r) here filled is stands read =
      let at = stands.0 in
      record {
        w = w;
        is = rw is;
        left_is = ap (λ (x : Node S). x.left) read ∙ rw is at.left;
        right_is = ap (λ (x : Node S). x.right) read ∙ rw is at.right;
        at = rw is at;
        left_stands = stands.1;
        right_stands = stands.2;
        apart = λ j. rw is;
        size = refl;
        height = refl;
        order = rw is;
      }

  -- a tree in place of the left side
  pub over_left : (old n1 : List (Node S)) (top left : ℕ) (t u : Tree S) (here : Node S) → Below old top t here → Becomes m old n1 left u → ((j : ℕ) → times j u + hit top j + times j (right_of t) ≤ 1) → IsAddressed old → tree_size u + tree_size (right_of t) + 1 < 2 ^ 32 → Sides m n1 left top here.right u (right_of t)
  over_left old n1 top left t u here b becomes apart addressed small =
      record {
        left_is = becomes.top_is;
        right_is = b.right_is;
        left_stands = becomes.stands;
        right_stands = Realizes-apart m old n1 (right_of t) u becomes.len becomes.frame (λ j. omega (arith, apart j)) b.right_stands;
        apart = apart;
        within = omega (arith, b.at.within, becomes.len);
        addressed = omega (arith, addressed, becomes.len);
        small = small;
      }

  pub record Joined (old new : List (Node S)) (result top : ℕ) (w : S) (a b tree : Tree S) : Type 0 where
    pub becomes : Becomes m old new result tree
    pub order : inorder tree ≡ inorder a ++ (top, w) ∷ inorder b

  pub joined_left : (old n1 new : List (Node S)) (top left result : ℕ) (t u : Tree S) (here : Node S) (b : Below old top t here) → Becomes m old n1 left u → ((j : ℕ) → times j u + hit top j + times j (right_of t) ≤ 1) → (jn : Joins m n1 new result top u (right_of t)) → Joined old new result top b.w u (right_of t) jn.tree
  joined_left old n1 new top left result t u here b becomes apart jn =
      let own_is : (node_at m n1 top).own ≡ b.w = ap (λ (n : Node S). n.own) (becomes.frame top (omega (arith, apart top, hit_same top))) ∙ b.at.own in
      record {
        becomes = record {
          top_is = jn.becomes.top_is;
          stands = jn.becomes.stands;
          frame = λ j none. jn.becomes.frame j none ∙ becomes.frame j (omega (arith, none, times_between j jn.tree u (right_of t) top _ jn.order));
          len = jn.becomes.len ∙ becomes.len;
        };
        order = jn.order ∙ ap (λ v. inorder u ++ (top, v) ∷ inorder (right_of t)) own_is;
      }

  -- a tree in place of the right side
  pub over_right : (old n1 : List (Node S)) (top right : ℕ) (t u : Tree S) (here : Node S) → Below old top t here → Becomes m old n1 right u → ((j : ℕ) → times j (left_of t) + hit top j + times j u ≤ 1) → IsAddressed old → tree_size (left_of t) + tree_size u + 1 < 2 ^ 32 → Sides m n1 here.left top right (left_of t) u
  over_right old n1 top right t u here b becomes apart addressed small =
      record {
        left_is = b.left_is;
        right_is = becomes.top_is;
        left_stands = Realizes-apart m old n1 (left_of t) u becomes.len becomes.frame (λ j. omega (arith, apart j)) b.left_stands;
        right_stands = becomes.stands;
        apart = apart;
        within = omega (arith, b.at.within, becomes.len);
        addressed = omega (arith, addressed, becomes.len);
        small = small;
      }

  pub joined_right : (old n1 new : List (Node S)) (top right result : ℕ) (t u : Tree S) (here : Node S) (b : Below old top t here) → Becomes m old n1 right u → ((j : ℕ) → times j (left_of t) + hit top j + times j u ≤ 1) → (jn : Joins m n1 new result top (left_of t) u) → Joined old new result top b.w (left_of t) u jn.tree
  joined_right old n1 new top right result t u here b becomes apart jn =
      let own_is : (node_at m n1 top).own ≡ b.w = ap (λ (n : Node S). n.own) (becomes.frame top (omega (arith, apart top, hit_same top))) ∙ b.at.own in
      record {
        becomes = record {
          top_is = jn.becomes.top_is;
          stands = jn.becomes.stands;
          frame = λ j none. jn.becomes.frame j none ∙ becomes.frame j (omega (arith, none, times_between j jn.tree (left_of t) u top _ jn.order));
          len = jn.becomes.len ∙ becomes.len;
        };
        order = jn.order ∙ ap (λ v. inorder (left_of t) ++ (top, v) ∷ inorder u) own_is;
      }

  -- insert: what each step needs and leaves
  pub insert_left_can : (old : List (Node S)) (top position slot : ℕ) (t : Tree S) (here : Node S) → CanInsert m old top position slot t → Below old top t here → position ≤ tree_size (left_of t) → CanInsert m old here.left position slot (left_of t)
  insert_left_can old top position slot t here can b within =
      record {
        top_is = b.left_is;
        stands = b.left_stands;
        apart = λ j. omega (arith, can.apart j, b.apart j);
        within = can.within;
        addressed = can.addressed;
        small = omega (arith, can.small, b.size);
        in_range = within;
      }

  pub insert_left_sides : (old n1 : List (Node S)) (top left position slot : ℕ) (t : Tree S) (here : Node S) → CanInsert m old top position slot t → Below old top t here → position ≤ tree_size (left_of t) → (ins : Inserts m old n1 left position slot (left_of t)) → Sides m n1 left top here.right ins.tree (right_of t) × DifferByAtMost 2 ins.tree (right_of t)
  insert_left_sides old n1 top left position slot t here can b within ins = (
    over_left old n1 top left t ins.tree here b ins.becomes
        (λ j. omega (arith, can.apart j, b.apart j, times_of_insert j (left_of t) ins.tree position _ ins.order))
        can.addressed
        (omega (arith, can.small, b.size, size_of_insert (left_of t) ins.tree position _ within ins.order)),
    (omega (arith, b.at.balanced, ins.height), omega (arith, b.at.balanced, ins.height)),
  )

  pub insert_left_done : (old n1 new : List (Node S)) (top left position slot result : ℕ) (t : Tree S) (here : Node S) → CanInsert m old top position slot t → Below old top t here → position ≤ tree_size (left_of t) → (ins : Inserts m old n1 left position slot (left_of t)) → Joins m n1 new result top ins.tree (right_of t) → Inserts m old new result position slot t
  insert_left_done old n1 new top left position slot result t here can b within ins jn =
      let joined = joined_left old n1 new top left result t ins.tree here b ins.becomes (λ j. omega (arith, can.apart j, b.apart j, times_of_insert j (left_of t) ins.tree position _ ins.order)) jn in
      let h = grown (tree_height (left_of t)) (tree_height (right_of t)) (tree_height ins.tree) (tree_height jn.tree) b.at.balanced.0 b.at.balanced.1 ins.height.0 ins.height.1 jn.settled.low jn.settled.high jn.settled.level in
      record {
        tree = jn.tree;
        becomes = joined.becomes;
        order = joined.order ∙ (ap (λ xs. xs ++ (top, b.w) ∷ inorder (right_of t)) ins.order ∙ (sym (insert-append_left (inorder (left_of t)) ((top, b.w) ∷ inorder (right_of t)) position (slot, (node_at m old slot).own) (omega (arith, within, length-inorder (left_of t)))) ∙ ap (λ xs. insert xs position (slot, (node_at m old slot).own)) (sym b.order)));
        height = (omega (arith, h, b.height), omega (arith, h, b.height));
      }

  pub insert_right_can : (old : List (Node S)) (top position k slot : ℕ) (t : Tree S) (here : Node S) → CanInsert m old top position slot t → Below old top t here → position ≡ tree_size (left_of t) + suc k → CanInsert m old here.right k slot (right_of t)
  insert_right_can old top position k slot t here can b is =
      record {
        top_is = b.right_is;
        stands = b.right_stands;
        apart = λ j. omega (arith, can.apart j, b.apart j);
        within = can.within;
        addressed = can.addressed;
        small = omega (arith, can.small, b.size);
        in_range = omega (arith, can.in_range, b.size, is);
      }

  pub insert_right_sides : (old n1 : List (Node S)) (top right position k slot : ℕ) (t : Tree S) (here : Node S) → CanInsert m old top position slot t → Below old top t here → position ≡ tree_size (left_of t) + suc k → (ins : Inserts m old n1 right k slot (right_of t)) → Sides m n1 here.left top right (left_of t) ins.tree × DifferByAtMost 2 (left_of t) ins.tree
  insert_right_sides old n1 top right position k slot t here can b is ins = (
    over_right old n1 top right t ins.tree here b ins.becomes
        (λ j. omega (arith, can.apart j, b.apart j, times_of_insert j (right_of t) ins.tree k _ ins.order))
        can.addressed
        (omega (arith, can.small, b.size, size_of_insert (right_of t) ins.tree k _ (omega (arith, can.in_range, b.size, is)) ins.order)),
    (omega (arith, b.at.balanced, ins.height), omega (arith, b.at.balanced, ins.height)),
  )

  pub insert_right_done : (old n1 new : List (Node S)) (top right position k slot result : ℕ) (t : Tree S) (here : Node S) → CanInsert m old top position slot t → Below old top t here → position ≡ tree_size (left_of t) + suc k → (ins : Inserts m old n1 right k slot (right_of t)) → Joins m n1 new result top (left_of t) ins.tree → Inserts m old new result position slot t
  insert_right_done old n1 new top right position k slot result t here can b is ins jn =
      let joined = joined_right old n1 new top right result t ins.tree here b ins.becomes (λ j. omega (arith, can.apart j, b.apart j, times_of_insert j (right_of t) ins.tree k _ ins.order)) jn in
      let h = grown (tree_height (right_of t)) (tree_height (left_of t)) (tree_height ins.tree) (tree_height jn.tree) b.at.balanced.1 b.at.balanced.0 ins.height.0 ins.height.1 (omega (arith, jn.settled.low)) (omega (arith, jn.settled.high)) (λ near. omega (arith, jn.settled.level (near.1, near.0))) in
      record {
        tree = jn.tree;
        becomes = joined.becomes;
        order = joined.order ∙ (ap (λ xs. inorder (left_of t) ++ (top, b.w) ∷ xs) ins.order ∙ (sym (insert_past (inorder (left_of t)) (inorder (right_of t)) (top, b.w) (slot, (node_at m old slot).own) position k (omega (arith, is, length-inorder (left_of t)))) ∙ ap (λ xs. insert xs position (slot, (node_at m old slot).own)) (sym b.order)));
        height = (omega (arith, h, b.height), omega (arith, h, b.height));
      }

  -- the heights that are stored fall on the way down
  pub left_lower : (nodes : List (Node S)) (top : ℕ) (t : Tree S) (here : Node S) → IsAddressed nodes → top ≡ root t → Realizes m nodes t → Below nodes top t here → (node_at m nodes here.left).height < (node_at m nodes top).height
  left_lower nodes top t here addressed is stands b =
      omega (arith, (head m nodes here.left (left_of t) addressed b.left_is b.left_stands).height, (head m nodes top t addressed is stands).height, b.height)

  pub right_lower : (nodes : List (Node S)) (top : ℕ) (t : Tree S) (here : Node S) → IsAddressed nodes → top ≡ root t → Realizes m nodes t → Below nodes top t here → (node_at m nodes here.right).height < (node_at m nodes top).height
  right_lower nodes top t here addressed is stands b =
      omega (arith, (head m nodes here.right (right_of t) addressed b.right_is b.right_stands).height, (head m nodes top t addressed is stands).height, b.height)
