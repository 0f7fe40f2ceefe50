use Rattle.std.proofs.Common.{◌≤◌, ◌<◌, arith}
use Rattle.gl_ranktree.specs.Tree.{fork, tree_height, left_of, right_of}
use Rattle.gl_ranktree.specs.Nodes.{node_at}
use Rattle.gl_ranktree.proofs.Rotations.{heights_below, right1_first, right1_second, right1_done, right2_first, right2_second, right2_third, right2_done}
use Rattle.gl_ranktree.proofs.join.rotate_right.Goals as goal

pub make-requires : goal.make-requires
make-requires g c =
    let l = c.requires.l in
    let r = c.requires.r in
    let s = c.requires.sides in
    let tilt = c.requires.tilt in
    let m = g.S.Summary.sums in
    let h = heights_below m _ _ l _ _ _ s.addressed (omega (arith, tilt)) s.left_is s.left_stands c.read-top.ensures c.read-outer.ensures c.read-inner.ensures in
    let test : tree_height (right_of l) ≤ tree_height (left_of l) = omega (arith, h.0, h.1, c.if-outer-inner.true) in
    let first = right1_first m c.args.nodes.now c.args.left c.args.slot c.args.right l r c.read-top.result s tilt test c.read-top.ensures in
    record { l = _; r = _; sides = first.0; near = first.1 }

pub make-requires-then-outer-inner : goal.make-requires-then-outer-inner
make-requires-then-outer-inner g c =
    let l = c.requires.l in
    let r = c.requires.r in
    let s = c.requires.sides in
    let tilt = c.requires.tilt in
    let m = g.S.Summary.sums in
    let h = heights_below m _ _ l _ _ _ s.addressed (omega (arith, tilt)) s.left_is s.left_stands c.read-top.ensures c.read-outer.ensures c.read-inner.ensures in
    let test : tree_height (right_of l) ≤ tree_height (left_of l) = omega (arith, h.0, h.1, c.if-outer-inner.true) in
    let first = right1_first m c.args.nodes.now c.args.left c.args.slot c.args.right l r c.read-top.result s tilt test c.read-top.ensures in
    let made = c.make.ensures (right_of l) r first.0 first.1 in
    let second = right1_second m c.args.nodes.now c.make.new.nodes c.args.left c.args.slot c.args.right l r c.read-top.result _ s tilt test c.read-top.ensures made in
    record { l = _; r = _; sides = second.0; near = second.1 }

pub returns-then-outer-inner : goal.returns-then-outer-inner
returns-then-outer-inner g c =
    λ l r s tilt.
    let m = g.S.Summary.sums in
    let h = heights_below m _ _ l _ _ _ s.addressed (omega (arith, tilt)) s.left_is s.left_stands c.read-top.ensures c.read-outer.ensures c.read-inner.ensures in
    let test : tree_height (right_of l) ≤ tree_height (left_of l) = omega (arith, h.0, h.1, c.if-outer-inner.true) in
    let first = right1_first m c.args.nodes.now c.args.left c.args.slot c.args.right l r c.read-top.result s tilt test c.read-top.ensures in
    let made = c.make.ensures (right_of l) r first.0 first.1 in
    let second = right1_second m c.args.nodes.now c.make.new.nodes c.args.left c.args.slot c.args.right l r c.read-top.result _ s tilt test c.read-top.ensures made in
    let made2 = c.make-then-outer-inner.ensures (left_of l) (fork (right_of l) c.args.slot (node_at m c.args.nodes.now c.args.slot).own r) second.0 second.1 in
    right1_done m c.args.nodes.now c.make.new.nodes c.make-then-outer-inner.new.nodes c.args.left c.args.slot c.args.right l r s tilt test made made2

pub make-requires-2 : goal.make-requires-2
make-requires-2 g c =
    let l = c.requires.l in
    let r = c.requires.r in
    let s = c.requires.sides in
    let tilt = c.requires.tilt in
    let m = g.S.Summary.sums in
    let h = heights_below m _ _ l _ _ _ s.addressed (omega (arith, tilt)) s.left_is s.left_stands c.read-top.ensures c.read-outer.ensures c.read-inner.ensures in
    let test : tree_height (left_of l) < tree_height (right_of l) = omega (arith, h.0, h.1, c.if-outer-inner.false) in
    let first = right2_first m c.args.nodes.now c.args.left c.args.slot c.args.right l r c.read-top.result c.read-inner.result s tilt test c.read-top.ensures c.read-inner.ensures in
    record { l = _; r = _; sides = first.0; near = first.1 }

pub make-requires-3 : goal.make-requires-3
make-requires-3 g c =
    let l = c.requires.l in
    let r = c.requires.r in
    let s = c.requires.sides in
    let tilt = c.requires.tilt in
    let m = g.S.Summary.sums in
    let h = heights_below m _ _ l _ _ _ s.addressed (omega (arith, tilt)) s.left_is s.left_stands c.read-top.ensures c.read-outer.ensures c.read-inner.ensures in
    let test : tree_height (left_of l) < tree_height (right_of l) = omega (arith, h.0, h.1, c.if-outer-inner.false) in
    let first = right2_first m c.args.nodes.now c.args.left c.args.slot c.args.right l r c.read-top.result c.read-inner.result s tilt test c.read-top.ensures c.read-inner.ensures in
    let made = c.make-2.ensures (left_of l) (left_of (right_of l)) first.0 first.1 in
    let second = right2_second m c.args.nodes.now c.make-2.new.nodes c.args.left c.args.slot c.args.right l r c.read-top.result c.read-inner.result _ s tilt test c.read-top.ensures c.read-inner.ensures made in
    record { l = _; r = _; sides = second.0; near = second.1 }

pub make-requires-4 : goal.make-requires-4
make-requires-4 g c =
    let l = c.requires.l in
    let r = c.requires.r in
    let s = c.requires.sides in
    let tilt = c.requires.tilt in
    let m = g.S.Summary.sums in
    let h = heights_below m _ _ l _ _ _ s.addressed (omega (arith, tilt)) s.left_is s.left_stands c.read-top.ensures c.read-outer.ensures c.read-inner.ensures in
    let test : tree_height (left_of l) < tree_height (right_of l) = omega (arith, h.0, h.1, c.if-outer-inner.false) in
    let first = right2_first m c.args.nodes.now c.args.left c.args.slot c.args.right l r c.read-top.result c.read-inner.result s tilt test c.read-top.ensures c.read-inner.ensures in
    let made = c.make-2.ensures (left_of l) (left_of (right_of l)) first.0 first.1 in
    let second = right2_second m c.args.nodes.now c.make-2.new.nodes c.args.left c.args.slot c.args.right l r c.read-top.result c.read-inner.result _ s tilt test c.read-top.ensures c.read-inner.ensures made in
    let made2 = c.make-3.ensures (right_of (right_of l)) r second.0 second.1 in
    let third = right2_third m c.args.nodes.now c.make-2.new.nodes c.make-3.new.nodes c.args.left c.args.slot c.args.right l r c.read-top.result _ _ s tilt test c.read-top.ensures made made2 in
    record { l = _; r = _; sides = third.0; near = third.1 }

pub returns : goal.returns
returns g c =
    λ l r s tilt.
    let m = g.S.Summary.sums in
    let h = heights_below m _ _ l _ _ _ s.addressed (omega (arith, tilt)) s.left_is s.left_stands c.read-top.ensures c.read-outer.ensures c.read-inner.ensures in
    let test : tree_height (left_of l) < tree_height (right_of l) = omega (arith, h.0, h.1, c.if-outer-inner.false) in
    let first = right2_first m c.args.nodes.now c.args.left c.args.slot c.args.right l r c.read-top.result c.read-inner.result s tilt test c.read-top.ensures c.read-inner.ensures in
    let made = c.make-2.ensures (left_of l) (left_of (right_of l)) first.0 first.1 in
    let second = right2_second m c.args.nodes.now c.make-2.new.nodes c.args.left c.args.slot c.args.right l r c.read-top.result c.read-inner.result _ s tilt test c.read-top.ensures c.read-inner.ensures made in
    let made2 = c.make-3.ensures (right_of (right_of l)) r second.0 second.1 in
    let third = right2_third m c.args.nodes.now c.make-2.new.nodes c.make-3.new.nodes c.args.left c.args.slot c.args.right l r c.read-top.result _ _ s tilt test c.read-top.ensures made made2 in
    let made3 = c.make-4.ensures (fork (left_of l) c.args.left (node_at m c.args.nodes.now c.args.left).own (left_of (right_of l))) (fork (right_of (right_of l)) c.args.slot (node_at m c.make-2.new.nodes c.args.slot).own r) third.0 third.1 in
    right2_done m c.args.nodes.now c.make-2.new.nodes c.make-3.new.nodes c.make-4.new.nodes c.args.left c.args.slot c.args.right l r c.read-top.result s tilt test c.read-top.ensures made made2 made3
