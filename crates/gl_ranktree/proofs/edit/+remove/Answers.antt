use Rattle.std.proofs.Common.{◌≡◌, suc, ◌+◌, ◌-◌, ◌<◌, arith, rules}
use Rattle.gl_ranktree.specs.Tree.{left_of, right_of, tree_size}
use Rattle.gl_ranktree.specs.Edits.{SomeWithPlace}
use Rattle.gl_ranktree.proofs.Trees.{filled_from_place}
use Rattle.gl_ranktree.proofs.Links.{head_read}
use Rattle.gl_ranktree.proofs.Edits.{below, left_lower, right_lower}
use Rattle.gl_ranktree.proofs.Removals.{left_part, right_part, remove_left_sides, remove_left_done, remove_right_sides, remove_right_done, remove_merge_can, remove_here_done}
use Rattle.gl_ranktree.proofs.edit.+remove.Goals as goal

pub remove-left-requires : goal.remove-left-requires
remove-left-requires g t c =
    let u = c.requires.tree in
    let s = c.requires.stands in
    let in_range = c.requires.in_range in
    let m = g.S.Summary.sums in
    let b = below m c.args.nodes.now c.args.top u c.read-here.result (filled_from_place u _ in_range) s.top_is s.stands c.read-here.ensures in
    let h = head_read m _ _ (left_of u) _ s.addressed b.left_is b.left_stands c.read.ensures in
    let within : c.args.position < tree_size (left_of u) = omega (arith, h.size, c.if-position-before.true) in
    let lower = left_lower m c.args.nodes.now c.args.top u c.read-here.result s.addressed s.top_is s.stands b in
    let needs : SomeWithPlace m c.args.nodes.now c.read-here.result.left c.args.position = record { tree = left_of u; stands = left_part m _ _ u _ s b; in_range = within } in
    search (rules, lower, needs)

pub join-requires : goal.join-requires
join-requires g t c =
    let u = c.requires.tree in
    let s = c.requires.stands in
    let in_range = c.requires.in_range in
    let m = g.S.Summary.sums in
    let b = below m c.args.nodes.now c.args.top u c.read-here.result (filled_from_place u _ in_range) s.top_is s.stands c.read-here.ensures in
    let h = head_read m _ _ (left_of u) _ s.addressed b.left_is b.left_stands c.read.ensures in
    let within : c.args.position < tree_size (left_of u) = omega (arith, h.size, c.if-position-before.true) in
    let rm = c.remove-left.ensures (left_of u) (left_part m _ _ u _ s b) within in
    let sides = remove_left_sides m _ _ _ _ _ u _ s b within rm in
    record { l = rm.tree; r = right_of u; sides = sides.0; near = sides.1 }

pub overflow_sub-position-then-position-before-2 : goal.overflow_sub-position-then-position-before-2
overflow_sub-position-then-position-before-2 g t c = omega (arith, c.if-position-before-2.true)

pub remove-right-requires : goal.remove-right-requires
remove-right-requires g t c =
    let u = c.requires.tree in
    let s = c.requires.stands in
    let in_range = c.requires.in_range in
    let m = g.S.Summary.sums in
    let b = below m c.args.nodes.now c.args.top u c.read-here.result (filled_from_place u _ in_range) s.top_is s.stands c.read-here.ensures in
    let h = head_read m _ _ (left_of u) _ s.addressed b.left_is b.left_stands c.read.ensures in
    let k = c.args.position - c.read.result.size - 1 in
    let past : c.args.position ≡ tree_size (left_of u) + suc k = omega (arith, h.size, c.if-position-before-2.true) in
    let lower = right_lower m c.args.nodes.now c.args.top u c.read-here.result s.addressed s.top_is s.stands b in
    let needs : SomeWithPlace m c.args.nodes.now c.read-here.result.right k = record { tree = right_of u; stands = right_part m _ _ u _ s b; in_range = omega (arith, past, in_range, b.size) } in
    search (rules, lower, needs)

pub join-requires-then-position-before-2 : goal.join-requires-then-position-before-2
join-requires-then-position-before-2 g t c =
    let u = c.requires.tree in
    let s = c.requires.stands in
    let in_range = c.requires.in_range in
    let m = g.S.Summary.sums in
    let b = below m c.args.nodes.now c.args.top u c.read-here.result (filled_from_place u _ in_range) s.top_is s.stands c.read-here.ensures in
    let h = head_read m _ _ (left_of u) _ s.addressed b.left_is b.left_stands c.read.ensures in
    let k = c.args.position - c.read.result.size - 1 in
    let past : c.args.position ≡ tree_size (left_of u) + suc k = omega (arith, h.size, c.if-position-before-2.true) in
    let rm = c.remove-right.ensures (right_of u) (right_part m _ _ u _ s b) (omega (arith, past, in_range, b.size)) in
    let sides = remove_right_sides m _ _ _ _ _ k u _ s b past in_range rm in
    record { l = left_of u; r = rm.tree; sides = sides.0; near = sides.1 }

pub merge-requires : goal.merge-requires
merge-requires g t c =
    let u = c.requires.tree in
    let s = c.requires.stands in
    let in_range = c.requires.in_range in
    let m = g.S.Summary.sums in
    let b = below m c.args.nodes.now c.args.top u c.read-here.result (filled_from_place u _ in_range) s.top_is s.stands c.read-here.ensures in
    let h = head_read m _ _ (left_of u) _ s.addressed b.left_is b.left_stands c.read.ensures in
    record { l = left_of u; r = right_of u; can = remove_merge_can m _ _ u _ s b }

pub returns-then-position-before : goal.returns-then-position-before
returns-then-position-before g t c =
    λ u s in_range.
    let m = g.S.Summary.sums in
    let b = below m c.args.nodes.now c.args.top u c.read-here.result (filled_from_place u _ in_range) s.top_is s.stands c.read-here.ensures in
    let h = head_read m _ _ (left_of u) _ s.addressed b.left_is b.left_stands c.read.ensures in
    let within : c.args.position < tree_size (left_of u) = omega (arith, h.size, c.if-position-before.true) in
    let rm = c.remove-left.ensures (left_of u) (left_part m _ _ u _ s b) within in
    let sides = remove_left_sides m _ _ _ _ _ u _ s b within rm in
    remove_left_done m _ _ _ _ _ _ _ u _ s b within rm (c.join.ensures rm.tree (right_of u) sides.0)

pub returns-then-position-before-2 : goal.returns-then-position-before-2
returns-then-position-before-2 g t c =
    λ u s in_range.
    let m = g.S.Summary.sums in
    let b = below m c.args.nodes.now c.args.top u c.read-here.result (filled_from_place u _ in_range) s.top_is s.stands c.read-here.ensures in
    let h = head_read m _ _ (left_of u) _ s.addressed b.left_is b.left_stands c.read.ensures in
    let k = c.args.position - c.read.result.size - 1 in
    let past : c.args.position ≡ tree_size (left_of u) + suc k = omega (arith, h.size, c.if-position-before-2.true) in
    let rm = c.remove-right.ensures (right_of u) (right_part m _ _ u _ s b) (omega (arith, past, in_range, b.size)) in
    let sides = remove_right_sides m _ _ _ _ _ k u _ s b past in_range rm in
    remove_right_done m _ _ _ _ _ _ k _ u _ s b past rm (c.join-then-position-before-2.ensures (left_of u) rm.tree sides.0)

pub returns-else-position-before-2 : goal.returns-else-position-before-2
returns-else-position-before-2 g t c =
    λ u s in_range.
    let m = g.S.Summary.sums in
    let b = below m c.args.nodes.now c.args.top u c.read-here.result (filled_from_place u _ in_range) s.top_is s.stands c.read-here.ensures in
    let h = head_read m _ _ (left_of u) _ s.addressed b.left_is b.left_stands c.read.ensures in
    remove_here_done m _ _ _ _ _ u _ b (omega (arith, h.size, c.if-position-before.false, c.if-position-before-2.false)) (c.merge.ensures (left_of u) (right_of u) (remove_merge_can m _ _ u _ s b))
