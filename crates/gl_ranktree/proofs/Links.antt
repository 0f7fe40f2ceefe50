-- Lemmas on nodes that stand for a tree: what they say, what leaves them standing, and what `make` makes.
use Rattle.std.proofs.Common.{◌≡◌, ℕ, ◌+◌, ◌<◌, ◌≤◌, List, length, get_or, set, refl, sym, ap, ◌∙◌, arith}
use Rattle.std.proofs.lemmas.List.{get_or-set_same, get_or-set_other, length-set, get_or_read, get_or_past}
use Rattle.gl_ranktree.specs.Summary.{Sums}
use Rattle.gl_ranktree.specs.Tree.{Tree, leaf, fork, root, times, DifferByAtMost}
use Rattle.gl_ranktree.specs.Nodes.{blank, node_at, IsUnder, IsFork, Realizes, IsAddressed, Puts, Reparents, Sides, Becomes, IsHead, IsJoint}
use Rattle.gl_ranktree.specs.declared.node.Node.{Node}
use Rattle.gl_ranktree.proofs.Trees.{hit_same, other_from_hit, times_root, other_slot}

module _ {S : Type 0} (m : Sums S) where
  pub read_at : (nodes : List (Node S)) (slot : ℕ) (n : Node S) → slot < length nodes → n ≡ get_or nodes slot n → n ≡ node_at m nodes slot
  unfolding node_at
  read_at nodes slot n within is = get_or_read nodes slot n within is (blank m)

  pub read_past : (nodes : List (Node S)) (slot : ℕ) → length nodes ≤ slot → node_at m nodes slot ≡ blank m
  unfolding node_at
  read_past nodes slot past = get_or_past nodes slot (blank m) past

  pub Puts-set : (nodes : List (Node S)) (slot : ℕ) (n : Node S) → slot < length nodes → Puts m nodes (set nodes slot n) slot n
  unfolding node_at
  Puts-set nodes slot n within =
      record {
        at = get_or-set_same nodes slot n (blank m) within;
        others = λ j differs. get_or-set_other nodes slot j n (blank m) differs;
        len = length-set nodes slot n;
      }

  pub Reparents-set : (nodes : List (Node S)) (slot parent : ℕ) (n : Node S) → slot < length nodes → n ≡ get_or nodes slot n → Reparents m nodes (set nodes slot (record n { parent = parent })) slot parent
  Reparents-set nodes slot parent n within is =
      let puts = Puts-set nodes slot (record n { parent = parent }) within in
      record {
        at = λ _. puts.at ∙ ap (λ (x : Node S). record x { parent = parent }) (read_at nodes slot n within is);
        others = puts.others;
        past = λ past. absurd (omega arith);
        len = puts.len;
      }

  pub head : (nodes : List (Node S)) (slot : ℕ) (t : Tree S) → IsAddressed nodes → slot ≡ root t → Realizes m nodes t → IsHead m (node_at m nodes slot) t
  head nodes slot leaf addressed is stands =
      let past = read_past nodes slot (omega arith) in
      record { size = ap (λ (n : Node S). n.size) past; height = ap (λ (n : Node S). n.height) past; sum = λ _. ap (λ (n : Node S). n.sum) past }
  head nodes slot (fork l i w r) addressed is stands =
      rw is (record { size = stands.0.size; height = stands.0.height; sum = stands.0.sum })

  pub IsUnder-kept : (old new : List (Node S)) (t : Tree S) (parent : ℕ) → ((j : ℕ) → 1 ≤ times j t → node_at m new j ≡ node_at m old j) → IsUnder m old t parent → IsUnder m new t parent
  IsUnder-kept old new leaf parent same under = tt
  IsUnder-kept old new (fork l i w r) parent same under =
      ap (λ (n : Node S). n.parent) (same i (times_root l i w r)) ∙ under

  -- the node in the root is as it was but for its parent, and the children's parents are as they were
  fork_kept : (old new : List (Node S)) (l : Tree S) (i : ℕ) (w : S) (r : Tree S) → length old ≤ length new → ((n : Node S) → (n.left ≡ (node_at m old i).left) × (n.right ≡ (node_at m old i).right) × (n.size ≡ (node_at m old i).size) × (n.height ≡ (node_at m old i).height) × (n.own ≡ (node_at m old i).own) × (n.sum ≡ (node_at m old i).sum) → IsUnder m new l i → IsUnder m new r i → n ≡ node_at m new i → IsFork m old l i w r → IsFork m new l i w r)
  fork_kept old new l i w r len n same left_under right_under is at =
      record {
        within = omega (arith, at.within);
        left = ap (λ (x : Node S). x.left) (sym is) ∙ (same.0 ∙ at.left);
        right = ap (λ (x : Node S). x.right) (sym is) ∙ (same.1 ∙ at.right);
        left_under = left_under;
        right_under = right_under;
        size = ap (λ (x : Node S). x.size) (sym is) ∙ (same.2 ∙ at.size);
        height = ap (λ (x : Node S). x.height) (sym is) ∙ (same.3 ∙ at.height);
        own = ap (λ (x : Node S). x.own) (sym is) ∙ (same.4 ∙ at.own);
        sum = λ fits. ap (λ (x : Node S). x.sum) (sym is) ∙ (same.5 ∙ at.sum fits);
        balanced = at.balanced;
      }

  -- nodes that are as they were stand for the same tree, also where there are more of them
  pub Realizes-grown : (old new : List (Node S)) (t : Tree S) → length old ≤ length new → ((j : ℕ) → 1 ≤ times j t → node_at m new j ≡ node_at m old j) → Realizes m old t → Realizes m new t
  Realizes-grown old new leaf len same stands = tt
  Realizes-grown old new (fork l i w r) len same stands =
      let same_left : (j : ℕ) → 1 ≤ times j l → node_at m new j ≡ node_at m old j = λ j some. same j (omega arith) in
      let same_right : (j : ℕ) → 1 ≤ times j r → node_at m new j ≡ node_at m old j = λ j some. same j (omega arith) in
      let at = stands.0 in (
        fork_kept old new l i w r len (node_at m old i) (refl, refl, refl, refl, refl, refl)
            (IsUnder-kept old new l i same_left at.left_under)
            (IsUnder-kept old new r i same_right at.right_under)
            (sym (same i (times_root l i w r)))
            at,
        Realizes-grown old new l len same_left stands.1,
        Realizes-grown old new r len same_right stands.2,
      )

  pub Realizes-kept : (old new : List (Node S)) (t : Tree S) → length new ≡ length old → ((j : ℕ) → 1 ≤ times j t → node_at m new j ≡ node_at m old j) → Realizes m old t → Realizes m new t
  Realizes-kept old new t len same stands = Realizes-grown old new t (omega (arith, len)) same stands

  -- what becomes of a tree apart from one that was changed
  pub Realizes-apart : (old new : List (Node S)) (t u : Tree S) → length new ≡ length old → ((j : ℕ) → times j u ≡ 0 → node_at m new j ≡ node_at m old j) → ((j : ℕ) → times j t + times j u ≤ 1) → Realizes m old t → Realizes m new t
  Realizes-apart old new t u len frame apart stands =
      Realizes-kept old new t len (λ j some. frame j (omega (arith, apart j))) stands

  -- a new parent for the root of a tree changes no other node
  pub Reparents-frame : (old new : List (Node S)) (slot parent : ℕ) (t : Tree S) → IsAddressed old → slot ≡ root t → Reparents m old new slot parent → (j : ℕ) → times j t ≡ 0 → node_at m new j ≡ node_at m old j
  Reparents-frame old new slot parent leaf addressed is wrote j none = wrote.past (omega arith) j
  Reparents-frame old new slot parent (fork l i w r) addressed is wrote j none =
      wrote.others j (λ same. absurd (omega (arith, times_root l i w r, ap (λ k. times k (fork l i w r)) (same ∙ is))))

  -- and leaves the tree standing, under that parent
  pub Reparents-stands : (old new : List (Node S)) (slot parent : ℕ) (t : Tree S) → slot ≡ root t → Reparents m old new slot parent → ((j : ℕ) → times j t ≤ 1) → Realizes m old t → Realizes m new t × IsUnder m new t parent
  Reparents-stands old new slot parent leaf is wrote apart stands = (tt, tt)
  Reparents-stands old new slot parent (fork l i w r) is wrote apart stands =
      let at = stands.0 in
      let here : node_at m new i ≡ record (node_at m old i) { parent = parent } = rw is at (wrote.at (omega (arith, at.within))) in
      let same_left : (j : ℕ) → 1 ≤ times j l → node_at m new j ≡ node_at m old j =
      λ j some. wrote.others j (rw is (other_slot i j l (omega (arith, apart i, hit_same i)) some)) in
      let same_right : (j : ℕ) → 1 ≤ times j r → node_at m new j ≡ node_at m old j =
      λ j some. wrote.others j (rw is (other_slot i j r (omega (arith, apart i, hit_same i)) some)) in (
        (
          fork_kept old new l i w r (omega (arith, wrote.len)) (record (node_at m old i) { parent = parent }) (refl, refl, refl, refl, refl, refl)
              (IsUnder-kept old new l i same_left at.left_under)
              (IsUnder-kept old new r i same_right at.right_under)
              (sym here)
              at,
          Realizes-kept old new l wrote.len same_left stands.1,
          Realizes-kept old new r wrote.len same_right stands.2,
        ),
        ap (λ (n : Node S). n.parent) here,
      )

  -- the three writes of `make`
  pub made : (old n1 n2 new : List (Node S)) (left slot right : ℕ) (l r : Tree S) (above : Node S) → Sides m old left slot right l r → DifferByAtMost 1 l r → IsJoint m old slot l r above → Reparents m old n1 left slot → Reparents m n1 n2 right slot → Puts m n2 new slot above → Becomes m old new slot (fork l slot (node_at m old slot).own r)
  made old n1 n2 new left slot right l r above s near joint first second third =
      let own = (node_at m old slot).own in
      let frame1 = Reparents-frame old n1 left slot l s.addressed s.left_is first in
      let addressed1 : IsAddressed n1 = omega (arith, s.addressed, first.len) in
      let frame2 = Reparents-frame n1 n2 right slot r addressed1 s.right_is second in
      let l1 = Reparents-stands old n1 left slot l s.left_is first (λ j. omega (arith, s.apart j)) s.left_stands in
      let r1 = Realizes-apart old n1 r l first.len frame1 (λ j. omega (arith, s.apart j)) s.right_stands in
      let r2 = Reparents-stands n1 n2 right slot r s.right_is second (λ j. omega (arith, s.apart j)) r1 in
      let l2 = Realizes-apart n1 n2 l r second.len frame2 (λ j. omega (arith, s.apart j)) l1.0 in
      let same_left2 : (j : ℕ) → 1 ≤ times j l → node_at m n2 j ≡ node_at m n1 j = λ j some. frame2 j (omega (arith, s.apart j)) in
      let under2 = IsUnder-kept n1 n2 l slot same_left2 l1.1 in
      let same_left3 : (j : ℕ) → 1 ≤ times j l → node_at m new j ≡ node_at m n2 j =
      λ j some. third.others j (other_slot slot j l (omega (arith, s.apart slot, hit_same slot)) some) in
      let same_right3 : (j : ℕ) → 1 ≤ times j r → node_at m new j ≡ node_at m n2 j =
      λ j some. third.others j (other_slot slot j r (omega (arith, s.apart slot, hit_same slot)) some) in
      record {
        top_is = refl;
        stands = (
          record {
            within = omega (arith, s.within, first.len, second.len, third.len);
            left = ap (λ (n : Node S). n.left) third.at ∙ joint.left;
            right = ap (λ (n : Node S). n.right) third.at ∙ joint.right;
            left_under = IsUnder-kept n2 new l slot same_left3 under2;
            right_under = IsUnder-kept n2 new r slot same_right3 r2.1;
            size = ap (λ (n : Node S). n.size) third.at ∙ joint.size;
            height = ap (λ (n : Node S). n.height) third.at ∙ joint.height;
            own = ap (λ (n : Node S). n.own) third.at ∙ joint.own;
            sum = λ fits. ap (λ (n : Node S). n.sum) third.at ∙ joint.sum fits;
            balanced = near;
          },
          Realizes-kept n2 new l third.len same_left3 l2,
          Realizes-kept n2 new r third.len same_right3 r2.0,
        );
        frame = λ j none. third.others j (other_from_hit slot j (omega arith)) ∙ (frame2 j (omega arith) ∙ frame1 j (omega arith));
        len = third.len ∙ (second.len ∙ first.len);
      }

  -- the same of a node that was read
  pub head_read : (nodes : List (Node S)) (slot : ℕ) (t : Tree S) (n : Node S) → IsAddressed nodes → slot ≡ root t → Realizes m nodes t → n ≡ node_at m nodes slot → IsHead m n t
  head_read nodes slot t n addressed is stands read = rw read (head nodes slot t addressed is stands)
