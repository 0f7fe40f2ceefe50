use Rattle.std.proofs.Common.{ap, arith}
use Rattle.gl_ranktree.specs.declared.node.Node.{Node}
use Rattle.gl_ranktree.proofs.Trees.{height-le-size, sum_up}
use Rattle.gl_ranktree.proofs.Links.{head_read}
use Rattle.gl_ranktree.proofs.node.joint.Goals as goal

pub overflow_add-result : goal.overflow_add-result
overflow_add-result g c =
    let s = c.requires.sides in
    let hl = head_read _ _ _ _ _ s.addressed s.left_is s.left_stands c.read-below_left.ensures in
    let hr = head_read _ _ _ _ _ s.addressed s.right_is s.right_stands c.read-below_right.ensures in
    omega (arith, s.small, hl.size, hr.size)

pub overflow_add-result-2 : goal.overflow_add-result-2
overflow_add-result-2 g c =
    let s = c.requires.sides in
    let hl = head_read _ _ _ _ _ s.addressed s.left_is s.left_stands c.read-below_left.ensures in
    let hr = head_read _ _ _ _ _ s.addressed s.right_is s.right_stands c.read-below_right.ensures in
    omega (arith, s.small, hl.size, hr.size)

pub overflow_add-result-3 : goal.overflow_add-result-3
overflow_add-result-3 g c =
    let s = c.requires.sides in
    let hl = head_read _ _ _ _ _ s.addressed s.left_is s.left_stands c.read-below_left.ensures in
    let hr = head_read _ _ _ _ _ s.addressed s.right_is s.right_stands c.read-below_right.ensures in
    omega (arith, s.small, hl.height, hr.height, c.max.ensures, height-le-size c.requires.l, height-le-size c.requires.r)

pub returns : goal.returns
returns g c =
    λ l r s.
    let hl = head_read _ _ _ _ _ s.addressed s.left_is s.left_stands c.read-below_left.ensures in
    let hr = head_read _ _ _ _ _ s.addressed s.right_is s.right_stands c.read-below_right.ensures in
    let own_is = ap (λ (n : Node g.row.S.Denot). n.own) c.read-own.ensures in
    record {
      left = s.left_is;
      right = s.right_is;
      size = omega (arith, hl.size, hr.size);
      height = omega (arith, hl.height, hr.height, c.max.ensures);
      own = own_is;
      sum = rw (← own_is) (sum_up g.S.Summary.sums g.met.S.Summary.laws _ _ _ _ _ _ _ hl.sum hr.sum c.plus.ensures c.plus-2.ensures);
    }
