use Rattle.std.proofs.Common.{◌≡◌, suc, ◌+◌, ◌-◌, ◌≤◌, refl, arith, rules}
use Rattle.gl_ranktree.specs.Tree.{leaf, left_of, right_of, tree_size}
use Rattle.gl_ranktree.specs.Edits.{SomeCanInsert}
use Rattle.gl_ranktree.proofs.Links.{head_read}
use Rattle.gl_ranktree.proofs.Edits.{insert_leaf, filled_from_slot, below, left_lower, right_lower, insert_left_can, insert_left_sides, insert_left_done, insert_right_can, insert_right_sides, insert_right_done}
use Rattle.gl_ranktree.proofs.edit.+insert.Goals as goal

pub make-requires : goal.make-requires
make-requires g t c =
    let can = c.requires.can in
    record {
      l = leaf;
      r = leaf;
      sides = record {
        left_is = refl;
        right_is = refl;
        left_stands = tt;
        right_stands = tt;
        apart = λ j. omega (arith, can.apart j);
        within = can.within;
        addressed = can.addressed;
        small = omega arith;
      };
      near = (omega arith, omega arith);
    }

pub returns-then-top-eq-ABSENT : goal.returns-then-top-eq-ABSENT
returns-then-top-eq-ABSENT g t c =
    λ u can.
    insert_leaf g.S.Summary.sums _ _ _ _ _ u can c.if-top-eq-ABSENT.true
    (
    c.make.ensures leaf leaf
    (
    record {
      left_is = refl;
      right_is = refl;
      left_stands = tt;
      right_stands = tt;
      apart = λ j. omega (arith, can.apart j);
      within = can.within;
      addressed = can.addressed;
      small = omega arith;
    }
    )
    (omega arith, omega arith)
    )

pub insert-left-requires : goal.insert-left-requires
insert-left-requires g t c =
    let m = g.S.Summary.sums in
    let u = c.requires.tree in
    let can = c.requires.can in
    let b = below m c.args.nodes.now c.args.top u c.read-here.result (filled_from_slot m c.args.top u can.top_is c.if-top-eq-ABSENT.false) can.top_is can.stands c.read-here.ensures in
    let h = head_read m _ _ (left_of u) _ can.addressed b.left_is b.left_stands c.read.ensures in
    let lower = left_lower m c.args.nodes.now c.args.top u c.read-here.result can.addressed can.top_is can.stands b in
    let needs : SomeCanInsert m c.args.nodes.now c.read-here.result.left c.args.position c.args.slot = record { tree = left_of u; can = insert_left_can m _ _ _ _ u _ can b (omega (arith, h.size, c.if-position-before.true)) } in
    search (rules, lower, needs)

pub join-requires : goal.join-requires
join-requires g t c =
    let m = g.S.Summary.sums in
    let u = c.requires.tree in
    let can = c.requires.can in
    let b = below m c.args.nodes.now c.args.top u c.read-here.result (filled_from_slot m c.args.top u can.top_is c.if-top-eq-ABSENT.false) can.top_is can.stands c.read-here.ensures in
    let h = head_read m _ _ (left_of u) _ can.addressed b.left_is b.left_stands c.read.ensures in
    let within : c.args.position ≤ tree_size (left_of u) = omega (arith, h.size, c.if-position-before.true) in
    let ins = c.insert-left.ensures (left_of u) (insert_left_can m _ _ _ _ u _ can b within) in
    let s = insert_left_sides m _ _ _ _ _ _ u _ can b within ins in
    record { l = ins.tree; r = right_of u; sides = s.0; near = s.1 }

pub overflow_sub-position-else-position-before : goal.overflow_sub-position-else-position-before
overflow_sub-position-else-position-before g t c = omega (arith, c.if-position-before.false)

pub insert-right-requires : goal.insert-right-requires
insert-right-requires g t c =
    let m = g.S.Summary.sums in
    let u = c.requires.tree in
    let can = c.requires.can in
    let b = below m c.args.nodes.now c.args.top u c.read-here.result (filled_from_slot m c.args.top u can.top_is c.if-top-eq-ABSENT.false) can.top_is can.stands c.read-here.ensures in
    let h = head_read m _ _ (left_of u) _ can.addressed b.left_is b.left_stands c.read.ensures in
    let lower = right_lower m c.args.nodes.now c.args.top u c.read-here.result can.addressed can.top_is can.stands b in
    let k = c.args.position - c.read.result.size - 1 in
    let needs : SomeCanInsert m c.args.nodes.now c.read-here.result.right k c.args.slot = record { tree = right_of u; can = insert_right_can m _ _ _ k _ u _ can b (omega (arith, h.size, c.if-position-before.false)) } in
    search (rules, lower, needs)

pub join-requires-else-position-before : goal.join-requires-else-position-before
join-requires-else-position-before g t c =
    let m = g.S.Summary.sums in
    let u = c.requires.tree in
    let can = c.requires.can in
    let b = below m c.args.nodes.now c.args.top u c.read-here.result (filled_from_slot m c.args.top u can.top_is c.if-top-eq-ABSENT.false) can.top_is can.stands c.read-here.ensures in
    let h = head_read m _ _ (left_of u) _ can.addressed b.left_is b.left_stands c.read.ensures in
    let k = c.args.position - c.read.result.size - 1 in
    let past : c.args.position ≡ tree_size (left_of u) + suc k = omega (arith, h.size, c.if-position-before.false) in
    let ins = c.insert-right.ensures (right_of u) (insert_right_can m _ _ _ k _ u _ can b past) in
    let s = insert_right_sides m _ _ _ _ _ k _ u _ can b past ins in
    record { l = left_of u; r = ins.tree; sides = s.0; near = s.1 }

pub returns-then-position-before : goal.returns-then-position-before
returns-then-position-before g t c =
    λ u can.
    let m = g.S.Summary.sums in
    let b = below m c.args.nodes.now c.args.top u c.read-here.result (filled_from_slot m c.args.top u can.top_is c.if-top-eq-ABSENT.false) can.top_is can.stands c.read-here.ensures in
    let h = head_read m _ _ (left_of u) _ can.addressed b.left_is b.left_stands c.read.ensures in
    let within : c.args.position ≤ tree_size (left_of u) = omega (arith, h.size, c.if-position-before.true) in
    let ins = c.insert-left.ensures (left_of u) (insert_left_can m _ _ _ _ u _ can b within) in
    let s = insert_left_sides m _ _ _ _ _ _ u _ can b within ins in
    insert_left_done m _ _ _ _ _ _ _ _ u _ can b within ins (c.join.ensures ins.tree (right_of u) s.0)

pub returns-else-position-before : goal.returns-else-position-before
returns-else-position-before g t c =
    λ u can.
    let m = g.S.Summary.sums in
    let b = below m c.args.nodes.now c.args.top u c.read-here.result (filled_from_slot m c.args.top u can.top_is c.if-top-eq-ABSENT.false) can.top_is can.stands c.read-here.ensures in
    let h = head_read m _ _ (left_of u) _ can.addressed b.left_is b.left_stands c.read.ensures in
    let k = c.args.position - c.read.result.size - 1 in
    let past : c.args.position ≡ tree_size (left_of u) + suc k = omega (arith, h.size, c.if-position-before.false) in
    let ins = c.insert-right.ensures (right_of u) (insert_right_can m _ _ _ k _ u _ can b past) in
    let s = insert_right_sides m _ _ _ _ _ k _ u _ can b past ins in
    insert_right_done m _ _ _ _ _ _ k _ _ u _ can b past ins (c.join-else-position-before.ensures (left_of u) ins.tree s.0)
