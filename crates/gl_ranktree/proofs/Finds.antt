-- Lemmas for the searches in a tree.
use Rattle.std.proofs.Common.{◌≡◌, ◌≢◌, ◌⊎◌, ℕ, suc, ◌+◌, ◌-◌, ◌<◌, ◌≤◌, ◌^◌, List, [], ◌∷◌, ◌++◌, length, refl, sym, ap, ◌∙◌, subst, inl, inr, arith, append_assoc, append-nil, length-append}
use Rattle.gl_ranktree.specs.Summary.{Sums}
use Rattle.gl_ranktree.specs.Tree.{Tree, leaf, fork, absent, root, tree_size, tree_height, inorder, times, left_of, right_of, Inside, SplitsAt}
use Rattle.gl_ranktree.specs.Tree.Inside.{whole, on_left, on_right}
use Rattle.gl_ranktree.specs.Nodes.{node_at, IsUnder, Realizes, IsAddressed}
use Rattle.gl_ranktree.specs.Finds.{IsWithin, IsEntryAt}
use Rattle.gl_ranktree.specs.declared.node.Node.{Node}
use Rattle.gl_ranktree.proofs.Trees.{times_root, height-le-size}
use Rattle.gl_ranktree.proofs.Links.{head}
use Rattle.gl_ranktree.proofs.Removals.{within_from_times}
use Rattle.gl_ranktree.proofs.Edits.{length-inorder, Below}

module _ {S : Type 0} where
  pub splits_left : (xs ys : List (ℕ × S)) (position : ℕ) (e : ℕ × S) → SplitsAt xs position e → SplitsAt (xs ++ ys) position e
  splits_left xs ys position e s =
      record { prefix = s.prefix; back = s.back ++ ys; is = ap (λ zs. zs ++ ys) s.is ∙ append_assoc s.prefix (e ∷ s.back) ys; len = s.len }

  pub splits_right : (xs ys : List (ℕ × S)) (x : ℕ × S) (position k : ℕ) (e : ℕ × S) → position ≡ length xs + suc k → SplitsAt ys k e → SplitsAt (xs ++ x ∷ ys) position e
  splits_right xs ys x position k e is s =
      record {
        prefix = xs ++ x ∷ s.prefix;
        back = s.back;
        is = ap (λ zs. xs ++ x ∷ zs) s.is ∙ sym (append_assoc xs (x ∷ s.prefix) (e ∷ s.back));
        len = omega (arith, length-append xs (x ∷ s.prefix), s.len, is);
      }

  pub inside_times : (t u : Tree S) (before : List (ℕ × S)) → Inside t u before → (j : ℕ) → times j u ≤ times j t
  inside_times t u before whole j = omega arith
  inside_times t u before (on_left {l = l} {r = r} {i = i} {w = w} {before = b} h) j = omega (arith, inside_times t (fork l i w r) b h j)
  inside_times t u before (on_right {l = l} {r = r} {i = i} {w = w} {before = b} h) j = omega (arith, inside_times t (fork l i w r) b h j)

  pub inside_height : (t u : Tree S) (before : List (ℕ × S)) → Inside t u before → tree_height u ≤ tree_height t
  inside_height t u before whole = omega arith
  inside_height t u before (on_left {l = l} {r = r} {i = i} {w = w} {before = b} h) = omega (arith, inside_height t (fork l i w r) b h)
  inside_height t u before (on_right {l = l} {r = r} {i = i} {w = w} {before = b} h) = omega (arith, inside_height t (fork l i w r) b h)

  pub inside_size : (t u : Tree S) (before : List (ℕ × S)) → Inside t u before → tree_size u + length before ≤ tree_size t
  inside_size t u before whole = omega arith
  inside_size t u before (on_left {l = l} {r = r} {i = i} {w = w} {before = b} h) = omega (arith, inside_size t (fork l i w r) b h)
  inside_size t u before (on_right {l = l} {r = r} {i = i} {w = w} {before = b} h) =
      omega (arith, inside_size t (fork l i w r) b h, length-append b (inorder l ++ (i, w) ∷ []), length-append (inorder l) ((i, w) ∷ []), length-inorder l)

  -- what stands after the inner tree
  pub inside_order : (t u : Tree S) (before : List (ℕ × S)) → Inside t u before → (after : List (ℕ × S)) × (inorder t ≡ before ++ (inorder u ++ after))
  inside_order t u before whole = ([], sym (append-nil (inorder t)))
  inside_order t u before (on_left {l = l} {r = r} {i = i} {w = w} {before = b} h) =
      let o = inside_order t (fork l i w r) b h in
      ((i, w) ∷ inorder r ++ o.0, o.1 ∙ ap (λ zs. b ++ zs) (append_assoc (inorder l) ((i, w) ∷ inorder r) o.0))
  inside_order t u before (on_right {l = l} {r = r} {i = i} {w = w} {before = b} h) =
      let o = inside_order t (fork l i w r) b h in
      (o.0, o.1 ∙ simp append_assoc)

module _ {S : Type 0} (m : Sums S) where
  pub inside_stands : (nodes : List (Node S)) (t u : Tree S) (before : List (ℕ × S)) → Inside t u before → Realizes m nodes t → Realizes m nodes u
  inside_stands nodes t u before whole stands = stands
  inside_stands nodes t u before (on_left {l = l} {r = r} {i = i} {w = w} {before = b} h) stands = (inside_stands nodes t (fork l i w r) b h stands).1
  inside_stands nodes t u before (on_right {l = l} {r = r} {i = i} {w = w} {before = b} h) stands = (inside_stands nodes t (fork l i w r) b h stands).2

  pub entry_left : (nodes : List (Node S)) (top position slot : ℕ) (t : Tree S) (here : Node S) → Below m nodes top t here → IsEntryAt m nodes (left_of t) position slot → IsEntryAt m nodes t position slot
  entry_left nodes top position slot t here b e =
      rw b.order (splits_left (inorder (left_of t)) ((top, b.w) ∷ inorder (right_of t)) position (slot, (node_at m nodes slot).own) e)

  pub entry_right : (nodes : List (Node S)) (top position k slot : ℕ) (t : Tree S) (here : Node S) → Below m nodes top t here → position ≡ tree_size (left_of t) + suc k → IsEntryAt m nodes (right_of t) k slot → IsEntryAt m nodes t position slot
  entry_right nodes top position k slot t here b is e =
      rw b.order (splits_right (inorder (left_of t)) (inorder (right_of t)) (top, b.w) position k (slot, (node_at m nodes slot).own) (omega (arith, is, length-inorder (left_of t))) e)

  pub entry_here : (nodes : List (Node S)) (top position : ℕ) (t : Tree S) (here : Node S) → Below m nodes top t here → position ≡ tree_size (left_of t) → IsEntryAt m nodes t position top
  entry_here nodes top position t here b is =
      record {
        prefix = inorder (left_of t);
        back = inorder (right_of t);
        is = b.order ∙ ap (λ v. inorder (left_of t) ++ (top, v) ∷ inorder (right_of t)) (sym b.at.own);
        len = omega (arith, is, length-inorder (left_of t));
      }

  under_parent : (nodes : List (Node S)) (slot parent : ℕ) (u : Tree S) → slot ≡ root u → 1 ≤ tree_height u → IsUnder m nodes u parent → (node_at m nodes slot).parent ≡ parent
  under_parent nodes slot parent leaf is filled under = absurd (omega (arith, filled))
  under_parent nodes slot parent (fork l i w r) is filled under = rw is under

  times_at_root : (slot : ℕ) (u : Tree S) → slot ≡ root u → 1 ≤ tree_height u → 1 ≤ times slot u
  times_at_root slot leaf is filled = absurd (omega (arith, filled))
  times_at_root slot (fork l i w r) is filled = omega (arith, times_root l i w r, ap (λ k. times k (fork l i w r)) is)

  -- the root of the left side is another slot than that of the right one
  left_differs : (slot : ℕ) (l r : Tree S) → ((j : ℕ) → times j l + times j r ≤ 1) → slot ≡ root r → 1 ≤ tree_height r → slot < absent → root l ≢ slot
  left_differs slot leaf r apart is filled below same = absurd (omega (arith, below, same))
  left_differs slot (fork a j v b) r apart is filled below same =
      absurd (omega (arith, apart slot, times_at_root slot r is filled, times_root a j v b, ap (λ k. times k (fork a j v b)) same))

  -- one step up from a subtree
  pub record Up (nodes : List (Node S)) (slot parent : ℕ) (t u : Tree S) (before : List (ℕ × S)) : Type 0 where
    pub p : Tree S
    pub prefix : List (ℕ × S)
    pub within : IsWithin m nodes parent t p prefix
    pub higher : (node_at m nodes slot).height < (node_at m nodes parent).height
    pub bounded : (node_at m nodes parent).height < 2 ^ 32
    pub side : (((node_at m nodes parent).left ≡ slot) × (before ≡ prefix)) ⊎ (((node_at m nodes parent).left ≢ slot) × (length before ≡ length prefix + ((node_at m nodes (node_at m nodes parent).left).size + 1)))

  height_at : (nodes : List (Node S)) (slot : ℕ) (u : Tree S) → IsAddressed nodes → slot ≡ root u → Realizes m nodes u → (node_at m nodes slot).height ≡ tree_height u
  height_at nodes slot u addressed is stands = (head m nodes slot u addressed is stands).height

  pub up : (nodes : List (Node S)) (slot : ℕ) (t u : Tree S) (before : List (ℕ × S)) → IsWithin m nodes slot t u before → (node_at m nodes slot).parent ≢ absent → Up nodes slot (node_at m nodes slot).parent t u before
  up nodes slot t u before w some = by_inside u before w.inside w.slot_is w.filled
    where
      by_inside : (u : Tree S) (before : List (ℕ × S)) → Inside t u before → slot ≡ root u → 1 ≤ tree_height u → Up nodes slot (node_at m nodes slot).parent t u before
      by_inside u before whole is filled = absurd (some (under_parent nodes slot absent t is filled w.alone))
      by_inside u before (on_left {l = l} {r = r} {i = i} {w = v} {before = b} h) is filled =
          let s = inside_stands nodes t (fork l i v r) b h w.stands.stands in
          let parent_is = under_parent nodes slot i l is filled s.0.left_under in
          let parent = (node_at m nodes slot).parent in
          let addressed = w.stands.addressed in
          let above = height_at nodes parent (fork l i v r) addressed parent_is s in
          let here = height_at nodes slot l addressed is s.1 in
          record {
            p = fork l i v r;
            prefix = b;
            within = record { stands = w.stands; alone = w.alone; inside = h; slot_is = parent_is; filled = omega arith };
            higher = omega (arith, above, here);
            bounded = omega (arith, above, inside_height t (fork l i v r) b h, height-le-size t, w.stands.small);
            side = inl (rw parent_is (s.0.left ∙ sym is), refl);
          }
      by_inside u before (on_right {l = l} {r = r} {i = i} {w = v} {before = b} h) is filled =
          let s = inside_stands nodes t (fork l i v r) b h w.stands.stands in
          let parent_is = under_parent nodes slot i r is filled s.0.right_under in
          let parent = (node_at m nodes slot).parent in
          let addressed = w.stands.addressed in
          let above = height_at nodes parent (fork l i v r) addressed parent_is s in
          let here = height_at nodes slot r addressed is s.2 in
          let left_is : (node_at m nodes parent).left ≡ root l = rw parent_is s.0.left in
          let apart : (j : ℕ) → times j l + times j r ≤ 1 = λ j. omega (arith, w.stands.apart j, inside_times t (fork l i v r) b h j) in
          let slot_small : slot < absent = omega (arith, within_from_times m nodes r slot s.2 (times_at_root slot r is filled), addressed) in
          record {
            p = fork l i v r;
            prefix = b;
            within = record { stands = w.stands; alone = w.alone; inside = h; slot_is = parent_is; filled = omega arith };
            higher = omega (arith, above, here);
            bounded = omega (arith, above, inside_height t (fork l i v r) b h, height-le-size t, w.stands.small);
            side = inr (
              λ same. left_differs slot l r apart is filled slot_small (sym left_is ∙ same),
              omega (arith, length-append b (inorder l ++ (i, v) ∷ []), length-append (inorder l) ((i, v) ∷ []), length-inorder l, (head m nodes (node_at m nodes parent).left l addressed left_is s.1).size),
            );
          }

  -- a subtree whose root has no parent is the whole tree
  pub up_none : (nodes : List (Node S)) (slot : ℕ) (t u : Tree S) (before : List (ℕ × S)) → IsWithin m nodes slot t u before → (node_at m nodes slot).parent ≡ absent → before ≡ []
  up_none nodes slot t u before w none = by_inside u before w.inside w.slot_is w.filled
    where
      by_inside : (u : Tree S) (before : List (ℕ × S)) → Inside t u before → slot ≡ root u → 1 ≤ tree_height u → before ≡ []
      by_inside u before whole is filled = refl
      by_inside u before (on_left {l = l} {r = r} {i = i} {w = v} {before = b} h) is filled =
          let s = inside_stands nodes t (fork l i v r) b h w.stands.stands in
          absurd (omega (arith, under_parent nodes slot i l is filled s.0.left_under, s.0.within, w.stands.addressed, none))
      by_inside u before (on_right {l = l} {r = r} {i = i} {w = v} {before = b} h) is filled =
          let s = inside_stands nodes t (fork l i v r) b h w.stands.stands in
          absurd (omega (arith, under_parent nodes slot i r is filled s.0.right_under, s.0.within, w.stands.addressed, none))

  -- the same of nodes that were read
  pub record UpRead (nodes : List (Node S)) (slot : ℕ) (n a : Node S) (t : Tree S) (before : List (ℕ × S)) : Type 0 where
    pub p : Tree S
    pub prefix : List (ℕ × S)
    pub within : IsWithin m nodes n.parent t p prefix
    pub nearer : 4294967296 - (node_at m nodes n.parent).height < 4294967296 - (node_at m nodes slot).height
    pub if_left : a.left ≡ slot → length before ≡ length prefix
    pub if_right : a.left ≢ slot → length before ≡ length prefix + ((node_at m nodes a.left).size + 1)

  pub up_read : (nodes : List (Node S)) (slot : ℕ) (t u : Tree S) (before : List (ℕ × S)) (n a : Node S) → IsWithin m nodes slot t u before → n ≡ node_at m nodes slot → n.parent ≢ absent → a ≡ node_at m nodes n.parent → UpRead nodes slot n a t before
  up_read nodes slot t u before n a w read some read_above =
      let parent_is : (node_at m nodes slot).parent ≡ n.parent = ap (λ (x : Node S). x.parent) (sym read) in
      let step = up nodes slot t u before w (λ none. some (sym parent_is ∙ none)) in
      let left_is : (node_at m nodes (node_at m nodes slot).parent).left ≡ a.left = ap (λ q. (node_at m nodes q).left) parent_is ∙ ap (λ (x : Node S). x.left) (sym read_above) in
      let height_is = ap (λ q. (node_at m nodes q).height) parent_is in
      record {
        p = step.p;
        prefix = step.prefix;
        within = subst (λ q. IsWithin m nodes q t step.p step.prefix) parent_is step.within;
        nearer = omega (arith, step.higher, step.bounded, height_is);
        if_left = λ same.
            elim step.side [
              | inl left ↦ ap length left.1
              | inr right ↦ absurd (right.0 (left_is ∙ same))
            ];
        if_right = λ other.
            elim step.side [
              | inl left ↦ absurd (other (sym left_is ∙ left.0))
              | inr right ↦ right.1 ∙ ap (λ q. length step.prefix + ((node_at m nodes q).size + 1)) left_is
            ];
      }
