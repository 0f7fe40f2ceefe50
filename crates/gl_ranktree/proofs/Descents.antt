-- Lemmas for a way down from the root.
use Rattle.std.proofs.Common.{◌≡◌, ◌≢◌, ℕ, ◌+◌, ◌<◌, ◌≤◌, List, [], ◌∷◌, ◌++◌, length, Some, refl, sym, ap, ◌∙◌, subst, arith, length-append}
use Rattle.std.specs.List.{slice_get}
use Rattle.gl_ranktree.specs.Summary.{Sums}
use Rattle.gl_ranktree.specs.Tree.{Tree, leaf, fork, absent, root, tree_size, tree_height, inorder, Inside}
use Rattle.gl_ranktree.specs.Tree.Inside.{on_left, on_right}
use Rattle.gl_ranktree.specs.Nodes.{node_at, IsHead}
use Rattle.gl_ranktree.specs.Ranked.{slots_of}
use Rattle.gl_ranktree.specs.Descending.{Descending, descending, IsDescent, ForksAt}
use Rattle.gl_ranktree.specs.declared.node.Node.{Node}
use Rattle.gl_ranktree.proofs.Links.{head}
use Rattle.gl_ranktree.proofs.Edits.{length-inorder}
use Rattle.gl_ranktree.proofs.Vacancies.{entries_are}
use Rattle.gl_ranktree.proofs.Finds.{inside_stands, inside_size}
use Rattle.gl_ranktree.proofs.Seen.{Found, found_at, slot_get_split}

module _ {S : Type 0} (m : Sums S) where
  -- what is read at a node at which the way forks
  pub record Fork (nodes : List (Node S)) (whole top first : ℕ) : Type 0 where
    pub forks : ForksAt (descending m nodes whole top first) top
    pub before : IsDescent m nodes whole (node_at m nodes top).left first
    pub after : IsDescent m nodes whole (node_at m nodes top).right (first + (node_at m nodes (node_at m nodes top).left).size + 1)
    pub size : (node_at m nodes top).size ≡ (node_at m nodes (node_at m nodes top).left).size + 1 + (node_at m nodes (node_at m nodes top).right).size
    pub lower_before : (node_at m nodes (node_at m nodes top).left).height < (node_at m nodes top).height
    pub lower_after : (node_at m nodes (node_at m nodes top).right).height < (node_at m nodes top).height
    pub few : first + (node_at m nodes (node_at m nodes top).left).size + 1 < 4294967296

  pub at_end : (nodes : List (Node S)) (whole top first : ℕ) → IsDescent m nodes whole top first → top ≡ absent → (node_at m nodes top).size ≡ 0
  at_end nodes whole top first d none = by_part d.part d.before d.inside d.top_is
    where
      by_part : (part : Tree S) (before : List (ℕ × S)) → Inside d.tree part before → top ≡ root part → (node_at m nodes top).size ≡ 0
      by_part leaf before inside top_is = (head m nodes top leaf d.stands.addressed top_is tt).size
      by_part (fork l i w r) before inside top_is =
          let s = inside_stands m nodes d.tree (fork l i w r) before inside d.stands.stands in
          absurd (omega (arith, s.0.within, d.stands.addressed, top_is, none))

  pub at_fork : (nodes : List (Node S)) (whole top first : ℕ) → IsDescent m nodes whole top first → 1 ≤ (node_at m nodes top).size → Fork nodes whole top first
  at_fork nodes whole top first d some = by_part d.part d.before d.inside d.top_is d.first_is
    where
      by_part : (part : Tree S) (before : List (ℕ × S)) → Inside d.tree part before → top ≡ root part → first ≡ length before → Fork nodes whole top first
      by_part leaf before inside top_is first_is =
          absurd (omega (arith, some, (head m nodes top leaf d.stands.addressed top_is tt).size))
      by_part (fork l i w r) before inside top_is first_is =
          let s = inside_stands m nodes d.tree (fork l i w r) before inside d.stands.stands in
          let addressed = d.stands.addressed in
          let here = node_at m nodes top in
          let left_is : here.left ≡ root l = rw top_is s.0.left in
          let right_is : here.right ≡ root r = rw top_is s.0.right in
          let above = head m nodes top (fork l i w r) addressed top_is s in
          let left = head m nodes here.left l addressed left_is s.1 in
          let right = head m nodes here.right r addressed right_is s.2 in
          let f : Found i d.tree = record { l = l; w = w; r = r; prefix = before; inside = inside } in
          let entries = entries_are m nodes whole d.tree d.stands in
          let position_is : first + (node_at m nodes here.left).size ≡ length before + tree_size l = omega (arith, first_is, left.size) in
          let at = slot_get_split (inorder d.tree) (length before + tree_size l) (i, w) (found_at i d.tree f) in
          record {
            forks = record {
              at = ap (λ es. slice_get (slots_of es) (first + (node_at m nodes here.left).size)) entries ∙ (ap (slice_get (slots_of (inorder d.tree))) position_is ∙ (at ∙ ap Some (sym top_is)));
              low = omega arith;
              high = omega (arith, above.size, left.size);
            };
            before = record { tree = d.tree; part = l; before = before; stands = d.stands; inside = on_left inside; top_is = left_is; first_is = first_is };
            after = record {
              tree = d.tree;
              part = r;
              before = _;
              stands = d.stands;
              inside = on_right inside;
              top_is = right_is;
              first_is = omega (arith, first_is, left.size, length-append before (inorder l ++ (i, w) ∷ []), length-append (inorder l) ((i, w) ∷ []), length-inorder l);
            };
            size = omega (arith, above.size, left.size, right.size);
            lower_before = omega (arith, above.height, left.height);
            lower_after = omega (arith, above.height, right.height);
            few = omega (arith, inside_size d.tree (fork l i w r) before inside, d.stands.small, position_is);
          }

  -- where the way does not end, the subtree has entries
  pub some_left : (nodes : List (Node S)) (whole top first : ℕ) → IsDescent m nodes whole top first → top ≢ absent → 1 ≤ (node_at m nodes top).size
  some_left nodes whole top first d some = by_part d.part d.before d.inside d.top_is
    where
      by_part : (part : Tree S) (before : List (ℕ × S)) → Inside d.tree part before → top ≡ root part → 1 ≤ (node_at m nodes top).size
      by_part leaf before inside top_is = absurd (some top_is)
      by_part (fork l i w r) before inside top_is =
          let s = inside_stands m nodes d.tree (fork l i w r) before inside d.stands.stands in
          omega (arith, (head m nodes top (fork l i w r) d.stands.addressed top_is s).size)
