-- What each step of a rotation needs, and what the last one leaves.
use Rattle.std.proofs.Common.{◌≡◌, ℕ, ◌+◌, ◌<◌, ◌≤◌, List, ◌∷◌, ◌++◌, refl, sym, ap, ◌∙◌, arith, append_assoc}
use Rattle.gl_ranktree.specs.Summary.{Sums}
use Rattle.gl_ranktree.specs.Tree.{Tree, leaf, fork, root, tree_height, inorder, times, hit, DifferByAtMost, left_of, right_of}
use Rattle.gl_ranktree.specs.Nodes.{node_at, Realizes, IsAddressed, Sides, Becomes, Joins}
use Rattle.gl_ranktree.specs.declared.node.Node.{Node}
use Rattle.gl_ranktree.proofs.Trees.{hit_same}
use Rattle.gl_ranktree.proofs.Links.{Realizes-apart, head_read}

module _ {S : Type 0} (m : Sums S) where
  -- the children of a node that was read at the root of a tree
  pub top_left : (nodes : List (Node S)) (slot : ℕ) (t : Tree S) (n : Node S) → 1 ≤ tree_height t → slot ≡ root t → Realizes m nodes t → n ≡ node_at m nodes slot → n.left ≡ root (left_of t)
  top_left nodes slot leaf n high is stands read = absurd (omega (arith, high))
  top_left nodes slot (fork l i w r) n high is stands read = ap (λ (x : Node S). x.left) read ∙ rw is stands.0.left

  pub top_right : (nodes : List (Node S)) (slot : ℕ) (t : Tree S) (n : Node S) → 1 ≤ tree_height t → slot ≡ root t → Realizes m nodes t → n ≡ node_at m nodes slot → n.right ≡ root (right_of t)
  top_right nodes slot leaf n high is stands read = absurd (omega (arith, high))
  top_right nodes slot (fork l i w r) n high is stands read = ap (λ (x : Node S). x.right) read ∙ rw is stands.0.right

  pub left_stands : (nodes : List (Node S)) (t : Tree S) → Realizes m nodes t → Realizes m nodes (left_of t)
  left_stands nodes leaf stands = tt
  left_stands nodes (fork l i w r) stands = stands.1

  pub right_stands : (nodes : List (Node S)) (t : Tree S) → Realizes m nodes t → Realizes m nodes (right_of t)
  right_stands nodes leaf stands = tt
  right_stands nodes (fork l i w r) stands = stands.2

  -- the own summary of a node outside what was changed
  own_kept : (old new : List (Node S)) (top slot : ℕ) (t : Tree S) → Becomes m old new top t → times slot t ≡ 0 → (node_at m new slot).own ≡ (node_at m old slot).own
  own_kept old new top slot t becomes none = ap (λ (n : Node S). n.own) (becomes.frame slot none)

  pub right1_first : (nodes : List (Node S)) (left slot right : ℕ) (l r : Tree S) (top : Node S) → Sides m nodes left slot right l r → tree_height l ≡ tree_height r + 2 → tree_height (right_of l) ≤ tree_height (left_of l) → top ≡ node_at m nodes left → Sides m nodes top.right slot right (right_of l) r × DifferByAtMost 1 (right_of l) r
  right1_first nodes left slot right leaf r top s tilt test read = absurd (omega (arith, tilt))
  right1_first nodes left slot right (fork a j v b) r top s tilt test read =
      let at = s.left_stands.0 in (
        record {
          left_is = top_right nodes left (fork a j v b) top (omega arith) s.left_is s.left_stands read;
          right_is = s.right_is;
          left_stands = s.left_stands.2;
          right_stands = s.right_stands;
          apart = λ k. omega (arith, s.apart k);
          within = s.within;
          addressed = s.addressed;
          small = omega (arith, s.small);
        },
        (omega (arith, tilt, at.balanced), omega (arith, tilt, at.balanced)),
      )

  pub right1_second : (nodes n1 : List (Node S)) (left slot right : ℕ) (l r : Tree S) (top : Node S) (w : S) → Sides m nodes left slot right l r → tree_height l ≡ tree_height r + 2 → tree_height (right_of l) ≤ tree_height (left_of l) → top ≡ node_at m nodes left → Becomes m nodes n1 slot (fork (right_of l) slot w r) → Sides m n1 top.left left slot (left_of l) (fork (right_of l) slot w r) × DifferByAtMost 1 (left_of l) (fork (right_of l) slot w r)
  right1_second nodes n1 left slot right leaf r top w s tilt test read made = absurd (omega (arith, tilt))
  right1_second nodes n1 left slot right (fork a j v b) r top w s tilt test read made =
      let at = s.left_stands.0 in (
        record {
          left_is = top_left nodes left (fork a j v b) top (omega arith) s.left_is s.left_stands read;
          right_is = refl;
          left_stands = Realizes-apart m nodes n1 a (fork b slot w r) made.len made.frame (λ k. omega (arith, s.apart k)) s.left_stands.1;
          right_stands = made.stands;
          apart = λ k. rw s.left_is (omega (arith, s.apart k));
          within = rw s.left_is (omega (arith, at.within, made.len));
          addressed = omega (arith, s.addressed, made.len);
          small = omega (arith, s.small);
        },
        (omega (arith, tilt, at.balanced), omega (arith, tilt, at.balanced)),
      )

  pub right1_done : (nodes n1 n2 : List (Node S)) (left slot right : ℕ) (l r : Tree S) → Sides m nodes left slot right l r → tree_height l ≡ tree_height r + 2 → tree_height (right_of l) ≤ tree_height (left_of l) → Becomes m nodes n1 slot (fork (right_of l) slot (node_at m nodes slot).own r) → Becomes m n1 n2 left (fork (left_of l) left (node_at m n1 left).own (fork (right_of l) slot (node_at m nodes slot).own r)) → Joins m nodes n2 left slot l r
  right1_done nodes n1 n2 left slot right leaf r s tilt test first second = absurd (omega (arith, tilt))
  right1_done nodes n1 n2 left slot right (fork a j v b) r s tilt test first second =
      let at = s.left_stands.0 in
      let w = (node_at m nodes slot).own in
      let inner = fork b slot w r in
      let here : hit j left ≡ 1 = ap (hit j) s.left_is ∙ hit_same j in
      let apart : times left inner ≡ 0 = omega (arith, s.apart left, here) in
      let own_is : (node_at m n1 left).own ≡ v = own_kept nodes n1 slot left inner first apart ∙ rw s.left_is at.own in
      record {
        tree = fork a left (node_at m n1 left).own inner;
        becomes = record {
          top_is = refl;
          stands = second.stands;
          frame = λ k none. second.frame k none ∙ first.frame k (omega arith);
          len = second.len ∙ first.len;
        };
        order = rw (own_is, s.left_is) (sym (append_assoc (inorder a) ((j, v) ∷ inorder b) ((slot, w) ∷ inorder r)));
        settled = record { low = omega (arith, tilt, at.balanced); high = omega (arith, tilt, at.balanced); level = λ near. absurd (omega (arith, tilt, near)) };
      }

  double_order_right : (a c d r : Tree S) (j k left top slot : ℕ) (v u w v' u' w' : S) → left ≡ j → top ≡ k → v' ≡ v → u' ≡ u → w' ≡ w → (inorder a ++ (left, v') ∷ inorder c) ++ (top, u') ∷ (inorder d ++ (slot, w') ∷ inorder r) ≡ (inorder a ++ (j, v) ∷ (inorder c ++ (k, u) ∷ inorder d)) ++ (slot, w) ∷ inorder r
  double_order_right a c d r j k left top slot v u w v' u' w' left_is top_is v_is u_is w_is =
      rw (left_is, top_is, v_is, u_is, w_is) (simp append_assoc)

  pub right2_first : (nodes : List (Node S)) (left slot right : ℕ) (l r : Tree S) (top inner : Node S) → Sides m nodes left slot right l r → tree_height l ≡ tree_height r + 2 → tree_height (left_of l) < tree_height (right_of l) → top ≡ node_at m nodes left → inner ≡ node_at m nodes top.right → Sides m nodes top.left left inner.left (left_of l) (left_of (right_of l)) × DifferByAtMost 1 (left_of l) (left_of (right_of l))
  right2_first nodes left slot right leaf r top inner s tilt test read read2 = absurd (omega (arith, tilt))
  right2_first nodes left slot right (fork a j v leaf) r top inner s tilt test read read2 = absurd (omega (arith, test))
  right2_first nodes left slot right (fork a j v (fork c k u d)) r top inner s tilt test read read2 =
      let at = s.left_stands.0 in
      let deep = s.left_stands.2.0 in
      let right_is = top_right nodes left (fork a j v (fork c k u d)) top (omega arith) s.left_is s.left_stands read in (
        record {
          left_is = top_left nodes left (fork a j v (fork c k u d)) top (omega arith) s.left_is s.left_stands read;
          right_is = top_left nodes top.right (fork c k u d) inner (omega arith) right_is s.left_stands.2 read2;
          left_stands = s.left_stands.1;
          right_stands = s.left_stands.2.1;
          apart = λ i. rw s.left_is (omega (arith, s.apart i));
          within = rw s.left_is (omega (arith, at.within));
          addressed = s.addressed;
          small = omega (arith, s.small);
        },
        (omega (arith, tilt, at.balanced, deep.balanced, test), omega (arith, tilt, at.balanced, deep.balanced, test)),
      )

  pub right2_second : (nodes n1 : List (Node S)) (left slot right : ℕ) (l r : Tree S) (top inner : Node S) (v' : S) → Sides m nodes left slot right l r → tree_height l ≡ tree_height r + 2 → tree_height (left_of l) < tree_height (right_of l) → top ≡ node_at m nodes left → inner ≡ node_at m nodes top.right → Becomes m nodes n1 left (fork (left_of l) left v' (left_of (right_of l))) → Sides m n1 inner.right slot right (right_of (right_of l)) r × DifferByAtMost 1 (right_of (right_of l)) r
  right2_second nodes n1 left slot right leaf r top inner v' s tilt test read read2 made = absurd (omega (arith, tilt))
  right2_second nodes n1 left slot right (fork a j v leaf) r top inner v' s tilt test read read2 made = absurd (omega (arith, test))
  right2_second nodes n1 left slot right (fork a j v (fork c k u d)) r top inner v' s tilt test read read2 made =
      let at = s.left_stands.0 in
      let deep = s.left_stands.2.0 in
      let right_is = top_right nodes left (fork a j v (fork c k u d)) top (omega arith) s.left_is s.left_stands read in (
        record {
          left_is = top_right nodes top.right (fork c k u d) inner (omega arith) right_is s.left_stands.2 read2;
          right_is = s.right_is;
          left_stands = Realizes-apart m nodes n1 d (fork a left v' c) made.len made.frame (λ i. omega (arith, s.apart i, ap (λ x. hit x i) s.left_is)) s.left_stands.2.2;
          right_stands = Realizes-apart m nodes n1 r (fork a left v' c) made.len made.frame (λ i. omega (arith, s.apart i, ap (λ x. hit x i) s.left_is)) s.right_stands;
          apart = λ i. omega (arith, s.apart i);
          within = omega (arith, s.within, made.len);
          addressed = omega (arith, s.addressed, made.len);
          small = omega (arith, s.small);
        },
        (omega (arith, tilt, at.balanced, deep.balanced, test), omega (arith, tilt, at.balanced, deep.balanced, test)),
      )

  pub right2_third : (nodes n1 n2 : List (Node S)) (left slot right : ℕ) (l r : Tree S) (top : Node S) (v' w' : S) → Sides m nodes left slot right l r → tree_height l ≡ tree_height r + 2 → tree_height (left_of l) < tree_height (right_of l) → top ≡ node_at m nodes left → Becomes m nodes n1 left (fork (left_of l) left v' (left_of (right_of l))) → Becomes m n1 n2 slot (fork (right_of (right_of l)) slot w' r) → Sides m n2 left top.right slot (fork (left_of l) left v' (left_of (right_of l))) (fork (right_of (right_of l)) slot w' r) × DifferByAtMost 1 (fork (left_of l) left v' (left_of (right_of l))) (fork (right_of (right_of l)) slot w' r)
  right2_third nodes n1 n2 left slot right leaf r top v' w' s tilt test read made made2 = absurd (omega (arith, tilt))
  right2_third nodes n1 n2 left slot right (fork a j v leaf) r top v' w' s tilt test read made made2 = absurd (omega (arith, test))
  right2_third nodes n1 n2 left slot right (fork a j v (fork c k u d)) r top v' w' s tilt test read made made2 =
      let at = s.left_stands.0 in
      let deep = s.left_stands.2.0 in
      let right_is = top_right nodes left (fork a j v (fork c k u d)) top (omega arith) s.left_is s.left_stands read in (
        record {
          left_is = refl;
          right_is = refl;
          left_stands = Realizes-apart m n1 n2 (fork a left v' c) (fork d slot w' r) made2.len made2.frame (λ i. omega (arith, s.apart i, ap (λ x. hit x i) s.left_is)) made.stands;
          right_stands = made2.stands;
          apart = λ i. omega (arith, s.apart i, ap (λ x. hit x i) s.left_is, ap (λ x. hit x i) right_is);
          within = rw right_is (omega (arith, deep.within, made.len, made2.len));
          addressed = omega (arith, s.addressed, made.len, made2.len);
          small = omega (arith, s.small);
        },
        (omega (arith, tilt, at.balanced, deep.balanced, test), omega (arith, tilt, at.balanced, deep.balanced, test)),
      )

  pub right2_done : (nodes n1 n2 n3 : List (Node S)) (left slot right : ℕ) (l r : Tree S) (top : Node S) → Sides m nodes left slot right l r → tree_height l ≡ tree_height r + 2 → tree_height (left_of l) < tree_height (right_of l) → top ≡ node_at m nodes left → Becomes m nodes n1 left (fork (left_of l) left (node_at m nodes left).own (left_of (right_of l))) → Becomes m n1 n2 slot (fork (right_of (right_of l)) slot (node_at m n1 slot).own r) → Becomes m n2 n3 top.right (fork (fork (left_of l) left (node_at m nodes left).own (left_of (right_of l))) top.right (node_at m n2 top.right).own (fork (right_of (right_of l)) slot (node_at m n1 slot).own r)) → Joins m nodes n3 top.right slot l r
  right2_done nodes n1 n2 n3 left slot right leaf r top s tilt test read first second third = absurd (omega (arith, tilt))
  right2_done nodes n1 n2 n3 left slot right (fork a j v leaf) r top s tilt test read first second third = absurd (omega (arith, test))
  right2_done nodes n1 n2 n3 left slot right (fork a j v (fork c k u d)) r top s tilt test read first second third =
      let at = s.left_stands.0 in
      let deep = s.left_stands.2.0 in
      let right_is = top_right nodes left (fork a j v (fork c k u d)) top (omega arith) s.left_is s.left_stands read in
      let w = (node_at m nodes slot).own in
      let v' = (node_at m nodes left).own in
      let w' = (node_at m n1 slot).own in
      let u' = (node_at m n2 top.right).own in
      let slot_out : times slot (fork a left v' c) ≡ 0 = omega (arith, s.apart slot, hit_same slot, ap (λ x. hit x slot) s.left_is) in
      let here : hit k top.right ≡ 1 = ap (hit k) right_is ∙ hit_same k in
      let top_out1 : times top.right (fork a left v' c) ≡ 0 = omega (arith, s.apart top.right, here, ap (λ x. hit x top.right) s.left_is) in
      let top_out2 : times top.right (fork d slot w' r) ≡ 0 = omega (arith, s.apart top.right, here) in
      let v_is : v' ≡ v = rw s.left_is at.own in
      let w_is : w' ≡ w = own_kept nodes n1 left slot (fork a left v' c) first slot_out in
      let u_is : u' ≡ u = own_kept n1 n2 slot top.right (fork d slot w' r) second top_out2 ∙ (own_kept nodes n1 left top.right (fork a left v' c) first top_out1 ∙ rw right_is deep.own) in
      record {
        tree = fork (fork a left v' c) top.right u' (fork d slot w' r);
        becomes = record {
          top_is = refl;
          stands = third.stands;
          frame = λ i none. third.frame i none ∙ (second.frame i (omega (arith, none)) ∙ first.frame i (omega (arith, none)));
          len = third.len ∙ (second.len ∙ first.len);
        };
        order = double_order_right a c d r j k left top.right slot v u w v' u' w' s.left_is right_is v_is u_is w_is;
        settled = record {
          low = omega (arith, tilt, at.balanced, deep.balanced, test);
          high = omega (arith, tilt, at.balanced, deep.balanced, test);
          level = λ near. absurd (omega (arith, tilt, near));
        };
      }

  pub left1_first : (nodes : List (Node S)) (left slot right : ℕ) (l r : Tree S) (top : Node S) → Sides m nodes left slot right l r → tree_height r ≡ tree_height l + 2 → tree_height (left_of r) ≤ tree_height (right_of r) → top ≡ node_at m nodes right → Sides m nodes left slot top.left l (left_of r) × DifferByAtMost 1 l (left_of r)
  left1_first nodes left slot right l leaf top s tilt test read = absurd (omega (arith, tilt))
  left1_first nodes left slot right l (fork b j v a) top s tilt test read =
      let at = s.right_stands.0 in (
        record {
          left_is = s.left_is;
          right_is = top_left nodes right (fork b j v a) top (omega arith) s.right_is s.right_stands read;
          left_stands = s.left_stands;
          right_stands = s.right_stands.1;
          apart = λ k. omega (arith, s.apart k);
          within = s.within;
          addressed = s.addressed;
          small = omega (arith, s.small);
        },
        (omega (arith, tilt, at.balanced), omega (arith, tilt, at.balanced)),
      )

  pub left1_second : (nodes n1 : List (Node S)) (left slot right : ℕ) (l r : Tree S) (top : Node S) (w : S) → Sides m nodes left slot right l r → tree_height r ≡ tree_height l + 2 → tree_height (left_of r) ≤ tree_height (right_of r) → top ≡ node_at m nodes right → Becomes m nodes n1 slot (fork l slot w (left_of r)) → Sides m n1 slot right top.right (fork l slot w (left_of r)) (right_of r) × DifferByAtMost 1 (fork l slot w (left_of r)) (right_of r)
  left1_second nodes n1 left slot right l leaf top w s tilt test read made = absurd (omega (arith, tilt))
  left1_second nodes n1 left slot right l (fork b j v a) top w s tilt test read made =
      let at = s.right_stands.0 in (
        record {
          left_is = refl;
          right_is = top_right nodes right (fork b j v a) top (omega arith) s.right_is s.right_stands read;
          left_stands = made.stands;
          right_stands = Realizes-apart m nodes n1 a (fork l slot w b) made.len made.frame (λ k. omega (arith, s.apart k)) s.right_stands.2;
          apart = λ k. rw s.right_is (omega (arith, s.apart k));
          within = rw s.right_is (omega (arith, at.within, made.len));
          addressed = omega (arith, s.addressed, made.len);
          small = omega (arith, s.small);
        },
        (omega (arith, tilt, at.balanced), omega (arith, tilt, at.balanced)),
      )

  single_order_left : (l b a : Tree S) (j right slot : ℕ) (v w v' : S) → right ≡ j → v' ≡ v → (inorder l ++ (slot, w) ∷ inorder b) ++ (right, v') ∷ inorder a ≡ inorder l ++ (slot, w) ∷ (inorder b ++ (j, v) ∷ inorder a)
  single_order_left l b a j right slot v w v' right_is v_is = rw (right_is, v_is) (simp append_assoc)

  pub left1_done : (nodes n1 n2 : List (Node S)) (left slot right : ℕ) (l r : Tree S) → Sides m nodes left slot right l r → tree_height r ≡ tree_height l + 2 → tree_height (left_of r) ≤ tree_height (right_of r) → Becomes m nodes n1 slot (fork l slot (node_at m nodes slot).own (left_of r)) → Becomes m n1 n2 right (fork (fork l slot (node_at m nodes slot).own (left_of r)) right (node_at m n1 right).own (right_of r)) → Joins m nodes n2 right slot l r
  left1_done nodes n1 n2 left slot right l leaf s tilt test first second = absurd (omega (arith, tilt))
  left1_done nodes n1 n2 left slot right l (fork b j v a) s tilt test first second =
      let at = s.right_stands.0 in
      let w = (node_at m nodes slot).own in
      let inner = fork l slot w b in
      let here : hit j right ≡ 1 = ap (hit j) s.right_is ∙ hit_same j in
      let apart : times right inner ≡ 0 = omega (arith, s.apart right, here) in
      let own_is : (node_at m n1 right).own ≡ v = own_kept nodes n1 slot right inner first apart ∙ rw s.right_is at.own in
      record {
        tree = fork inner right (node_at m n1 right).own a;
        becomes = record {
          top_is = refl;
          stands = second.stands;
          frame = λ k none. second.frame k none ∙ first.frame k (omega (arith, none));
          len = second.len ∙ first.len;
        };
        order = single_order_left l b a j right slot v w (node_at m n1 right).own s.right_is own_is;
        settled = record { low = omega (arith, tilt, at.balanced); high = omega (arith, tilt, at.balanced); level = λ near. absurd (omega (arith, tilt, near)) };
      }

  double_order_left : (l d c a : Tree S) (j k slot top right : ℕ) (v u w v' u' w' : S) → right ≡ j → top ≡ k → v' ≡ v → u' ≡ u → w' ≡ w → (inorder l ++ (slot, w') ∷ inorder d) ++ (top, u') ∷ (inorder c ++ (right, v') ∷ inorder a) ≡ inorder l ++ (slot, w) ∷ ((inorder d ++ (k, u) ∷ inorder c) ++ (j, v) ∷ inorder a)
  double_order_left l d c a j k slot top right v u w v' u' w' right_is top_is v_is u_is w_is =
      rw (right_is, top_is, v_is, u_is, w_is) (simp append_assoc)

  pub left2_first : (nodes : List (Node S)) (left slot right : ℕ) (l r : Tree S) (top inner : Node S) → Sides m nodes left slot right l r → tree_height r ≡ tree_height l + 2 → tree_height (right_of r) < tree_height (left_of r) → top ≡ node_at m nodes right → inner ≡ node_at m nodes top.left → Sides m nodes inner.right right top.right (right_of (left_of r)) (right_of r) × DifferByAtMost 1 (right_of (left_of r)) (right_of r)
  left2_first nodes left slot right l leaf top inner s tilt test read read2 = absurd (omega (arith, tilt))
  left2_first nodes left slot right l (fork leaf j v a) top inner s tilt test read read2 = absurd (omega (arith, test))
  left2_first nodes left slot right l (fork (fork d k u c) j v a) top inner s tilt test read read2 =
      let at = s.right_stands.0 in
      let deep = s.right_stands.1.0 in
      let left_is = top_left nodes right (fork (fork d k u c) j v a) top (omega arith) s.right_is s.right_stands read in (
        record {
          left_is = top_right nodes top.left (fork d k u c) inner (omega arith) left_is s.right_stands.1 read2;
          right_is = top_right nodes right (fork (fork d k u c) j v a) top (omega arith) s.right_is s.right_stands read;
          left_stands = s.right_stands.1.2;
          right_stands = s.right_stands.2;
          apart = λ i. rw s.right_is (omega (arith, s.apart i));
          within = rw s.right_is (omega (arith, at.within));
          addressed = s.addressed;
          small = omega (arith, s.small);
        },
        (omega (arith, tilt, at.balanced, deep.balanced, test), omega (arith, tilt, at.balanced, deep.balanced, test)),
      )

  pub left2_second : (nodes n1 : List (Node S)) (left slot right : ℕ) (l r : Tree S) (top inner : Node S) (v' : S) → Sides m nodes left slot right l r → tree_height r ≡ tree_height l + 2 → tree_height (right_of r) < tree_height (left_of r) → top ≡ node_at m nodes right → inner ≡ node_at m nodes top.left → Becomes m nodes n1 right (fork (right_of (left_of r)) right v' (right_of r)) → Sides m n1 left slot inner.left l (left_of (left_of r)) × DifferByAtMost 1 l (left_of (left_of r))
  left2_second nodes n1 left slot right l leaf top inner v' s tilt test read read2 made = absurd (omega (arith, tilt))
  left2_second nodes n1 left slot right l (fork leaf j v a) top inner v' s tilt test read read2 made = absurd (omega (arith, test))
  left2_second nodes n1 left slot right l (fork (fork d k u c) j v a) top inner v' s tilt test read read2 made =
      let at = s.right_stands.0 in
      let deep = s.right_stands.1.0 in
      let left_is = top_left nodes right (fork (fork d k u c) j v a) top (omega arith) s.right_is s.right_stands read in (
        record {
          left_is = s.left_is;
          right_is = top_left nodes top.left (fork d k u c) inner (omega arith) left_is s.right_stands.1 read2;
          left_stands = Realizes-apart m nodes n1 l (fork c right v' a) made.len made.frame (λ i. omega (arith, s.apart i, ap (λ x. hit x i) s.right_is)) s.left_stands;
          right_stands = Realizes-apart m nodes n1 d (fork c right v' a) made.len made.frame (λ i. omega (arith, s.apart i, ap (λ x. hit x i) s.right_is)) s.right_stands.1.1;
          apart = λ i. omega (arith, s.apart i);
          within = omega (arith, s.within, made.len);
          addressed = omega (arith, s.addressed, made.len);
          small = omega (arith, s.small);
        },
        (omega (arith, tilt, at.balanced, deep.balanced, test), omega (arith, tilt, at.balanced, deep.balanced, test)),
      )

  pub left2_third : (nodes n1 n2 : List (Node S)) (left slot right : ℕ) (l r : Tree S) (top : Node S) (v' w' : S) → Sides m nodes left slot right l r → tree_height r ≡ tree_height l + 2 → tree_height (right_of r) < tree_height (left_of r) → top ≡ node_at m nodes right → Becomes m nodes n1 right (fork (right_of (left_of r)) right v' (right_of r)) → Becomes m n1 n2 slot (fork l slot w' (left_of (left_of r))) → Sides m n2 slot top.left right (fork l slot w' (left_of (left_of r))) (fork (right_of (left_of r)) right v' (right_of r)) × DifferByAtMost 1 (fork l slot w' (left_of (left_of r))) (fork (right_of (left_of r)) right v' (right_of r))
  left2_third nodes n1 n2 left slot right l leaf top v' w' s tilt test read made made2 = absurd (omega (arith, tilt))
  left2_third nodes n1 n2 left slot right l (fork leaf j v a) top v' w' s tilt test read made made2 = absurd (omega (arith, test))
  left2_third nodes n1 n2 left slot right l (fork (fork d k u c) j v a) top v' w' s tilt test read made made2 =
      let at = s.right_stands.0 in
      let deep = s.right_stands.1.0 in
      let left_is = top_left nodes right (fork (fork d k u c) j v a) top (omega arith) s.right_is s.right_stands read in (
        record {
          left_is = refl;
          right_is = refl;
          left_stands = made2.stands;
          right_stands = Realizes-apart m n1 n2 (fork c right v' a) (fork l slot w' d) made2.len made2.frame (λ i. omega (arith, s.apart i, ap (λ x. hit x i) s.right_is)) made.stands;
          apart = λ i. omega (arith, s.apart i, ap (λ x. hit x i) s.right_is, ap (λ x. hit x i) left_is);
          within = rw left_is (omega (arith, deep.within, made.len, made2.len));
          addressed = omega (arith, s.addressed, made.len, made2.len);
          small = omega (arith, s.small);
        },
        (omega (arith, tilt, at.balanced, deep.balanced, test), omega (arith, tilt, at.balanced, deep.balanced, test)),
      )

  pub left2_done : (nodes n1 n2 n3 : List (Node S)) (left slot right : ℕ) (l r : Tree S) (top : Node S) → Sides m nodes left slot right l r → tree_height r ≡ tree_height l + 2 → tree_height (right_of r) < tree_height (left_of r) → top ≡ node_at m nodes right → Becomes m nodes n1 right (fork (right_of (left_of r)) right (node_at m nodes right).own (right_of r)) → Becomes m n1 n2 slot (fork l slot (node_at m n1 slot).own (left_of (left_of r))) → Becomes m n2 n3 top.left (fork (fork l slot (node_at m n1 slot).own (left_of (left_of r))) top.left (node_at m n2 top.left).own (fork (right_of (left_of r)) right (node_at m nodes right).own (right_of r))) → Joins m nodes n3 top.left slot l r
  left2_done nodes n1 n2 n3 left slot right l leaf top s tilt test read first second third = absurd (omega (arith, tilt))
  left2_done nodes n1 n2 n3 left slot right l (fork leaf j v a) top s tilt test read first second third = absurd (omega (arith, test))
  left2_done nodes n1 n2 n3 left slot right l (fork (fork d k u c) j v a) top s tilt test read first second third =
      let at = s.right_stands.0 in
      let deep = s.right_stands.1.0 in
      let left_is = top_left nodes right (fork (fork d k u c) j v a) top (omega arith) s.right_is s.right_stands read in
      let w = (node_at m nodes slot).own in
      let v' = (node_at m nodes right).own in
      let w' = (node_at m n1 slot).own in
      let u' = (node_at m n2 top.left).own in
      let slot_out : times slot (fork c right v' a) ≡ 0 = omega (arith, s.apart slot, hit_same slot, ap (λ x. hit x slot) s.right_is) in
      let here : hit k top.left ≡ 1 = ap (hit k) left_is ∙ hit_same k in
      let top_out1 : times top.left (fork c right v' a) ≡ 0 = omega (arith, s.apart top.left, here, ap (λ x. hit x top.left) s.right_is) in
      let top_out2 : times top.left (fork l slot w' d) ≡ 0 = omega (arith, s.apart top.left, here) in
      let v_is : v' ≡ v = rw s.right_is at.own in
      let w_is : w' ≡ w = own_kept nodes n1 right slot (fork c right v' a) first slot_out in
      let u_is : u' ≡ u = own_kept n1 n2 slot top.left (fork l slot w' d) second top_out2 ∙ (own_kept nodes n1 right top.left (fork c right v' a) first top_out1 ∙ rw left_is deep.own) in
      record {
        tree = fork (fork l slot w' d) top.left u' (fork c right v' a);
        becomes = record {
          top_is = refl;
          stands = third.stands;
          frame = λ i none. third.frame i none ∙ (second.frame i (omega (arith, none)) ∙ first.frame i (omega (arith, none)));
          len = third.len ∙ (second.len ∙ first.len);
        };
        order = double_order_left l d c a j k slot top.left right v u w v' u' w' s.right_is left_is v_is u_is w_is;
        settled = record {
          low = omega (arith, tilt, at.balanced, deep.balanced, test);
          high = omega (arith, tilt, at.balanced, deep.balanced, test);
          level = λ near. absurd (omega (arith, tilt, near));
        };
      }

  -- the heights that are read below the root of a tree
  pub heights_below : (nodes : List (Node S)) (slot : ℕ) (t : Tree S) (top x y : Node S) → IsAddressed nodes → 1 ≤ tree_height t → slot ≡ root t → Realizes m nodes t → top ≡ node_at m nodes slot → x ≡ node_at m nodes top.left → y ≡ node_at m nodes top.right → (x.height ≡ tree_height (left_of t)) × (y.height ≡ tree_height (right_of t))
  heights_below nodes slot t top x y addressed high is stands read read_x read_y = (
    (head_read m nodes top.left (left_of t) x addressed (top_left nodes slot t top high is stands read) (left_stands nodes t stands) read_x).height,
    (head_read m nodes top.right (right_of t) y addressed (top_right nodes slot t top high is stands read) (right_stands nodes t stands) read_y).height,
  )
