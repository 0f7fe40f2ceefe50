use Rattle.std.proofs.Common.{◌≡◌, suc, ◌+◌, ◌-◌, ◌<◌, arith, rules}
use Rattle.gl_ranktree.specs.Tree.{left_of, right_of, tree_size}
use Rattle.gl_ranktree.specs.Edits.{SomeWithPlace}
use Rattle.gl_ranktree.proofs.Trees.{filled_from_place}
use Rattle.gl_ranktree.proofs.Links.{head_read}
use Rattle.gl_ranktree.proofs.Edits.{below, left_lower, right_lower}
use Rattle.gl_ranktree.proofs.Removals.{left_part, right_part}
use Rattle.gl_ranktree.proofs.Owns.{own_left_sides, own_left_done, own_right_sides, own_right_done, own_here_sides, own_here_done}
use Rattle.gl_ranktree.proofs.edit.+set_own.Goals as goal

pub set_own-requires : goal.set_own-requires
set_own-requires g t c =
    let u = c.requires.tree in
    let s = c.requires.stands in
    let in_range = c.requires.in_range in
    let m = g.S.Summary.sums in
    let b = below m c.args.nodes.now c.args.top u c.read-here.result (filled_from_place u _ in_range) s.top_is s.stands c.read-here.ensures in
    let h = head_read m _ _ (left_of u) _ s.addressed b.left_is b.left_stands c.read.ensures in
    let within : c.args.position < tree_size (left_of u) = omega (arith, h.size, c.if-position-before.true) in
    let lower = left_lower m c.args.nodes.now c.args.top u c.read-here.result s.addressed s.top_is s.stands b in
    let needs : SomeWithPlace m c.args.nodes.now c.read-here.result.left c.args.position = record { tree = left_of u; stands = left_part m _ _ u _ s b; in_range = within } in
    search (rules, lower, needs)

pub make-requires : goal.make-requires
make-requires g t c =
    let u = c.requires.tree in
    let s = c.requires.stands in
    let in_range = c.requires.in_range in
    let m = g.S.Summary.sums in
    let b = below m c.args.nodes.now c.args.top u c.read-here.result (filled_from_place u _ in_range) s.top_is s.stands c.read-here.ensures in
    let h = head_read m _ _ (left_of u) _ s.addressed b.left_is b.left_stands c.read.ensures in
    let within : c.args.position < tree_size (left_of u) = omega (arith, h.size, c.if-position-before.true) in
    let so = c.set_own.ensures (left_of u) (left_part m _ _ u _ s b) within in
    let sides = own_left_sides m _ _ _ _ _ _ u _ s b so in
    record { l = so.tree; r = right_of u; sides = sides.0; near = sides.1 }

pub overflow_sub-position-then-position-before-2 : goal.overflow_sub-position-then-position-before-2
overflow_sub-position-then-position-before-2 g t c = omega (arith, c.if-position-before-2.true)

pub set_own-requires-then-position-before-2 : goal.set_own-requires-then-position-before-2
set_own-requires-then-position-before-2 g t c =
    let u = c.requires.tree in
    let s = c.requires.stands in
    let in_range = c.requires.in_range in
    let m = g.S.Summary.sums in
    let b = below m c.args.nodes.now c.args.top u c.read-here.result (filled_from_place u _ in_range) s.top_is s.stands c.read-here.ensures in
    let h = head_read m _ _ (left_of u) _ s.addressed b.left_is b.left_stands c.read.ensures in
    let k = c.args.position - c.read.result.size - 1 in
    let past : c.args.position ≡ tree_size (left_of u) + suc k = omega (arith, h.size, c.if-position-before-2.true) in
    let lower = right_lower m c.args.nodes.now c.args.top u c.read-here.result s.addressed s.top_is s.stands b in
    let needs : SomeWithPlace m c.args.nodes.now c.read-here.result.right k = record { tree = right_of u; stands = right_part m _ _ u _ s b; in_range = omega (arith, past, in_range, b.size) } in
    search (rules, lower, needs)

pub make-requires-then-position-before-2 : goal.make-requires-then-position-before-2
make-requires-then-position-before-2 g t c =
    let u = c.requires.tree in
    let s = c.requires.stands in
    let in_range = c.requires.in_range in
    let m = g.S.Summary.sums in
    let b = below m c.args.nodes.now c.args.top u c.read-here.result (filled_from_place u _ in_range) s.top_is s.stands c.read-here.ensures in
    let h = head_read m _ _ (left_of u) _ s.addressed b.left_is b.left_stands c.read.ensures in
    let k = c.args.position - c.read.result.size - 1 in
    let past : c.args.position ≡ tree_size (left_of u) + suc k = omega (arith, h.size, c.if-position-before-2.true) in
    let so = c.set_own-then-position-before-2.ensures (right_of u) (right_part m _ _ u _ s b) (omega (arith, past, in_range, b.size)) in
    let sides = own_right_sides m _ _ _ _ k _ u _ s b so in
    record { l = left_of u; r = so.tree; sides = sides.0; near = sides.1 }

pub put-requires : goal.put-requires
put-requires g t c =
    let u = c.requires.tree in
    let s = c.requires.stands in
    let in_range = c.requires.in_range in
    let m = g.S.Summary.sums in
    let b = below m c.args.nodes.now c.args.top u c.read-here.result (filled_from_place u _ in_range) s.top_is s.stands c.read-here.ensures in
    let h = head_read m _ _ (left_of u) _ s.addressed b.left_is b.left_stands c.read.ensures in
    omega (arith, b.at.within)

pub make-requires-else-position-before-2 : goal.make-requires-else-position-before-2
make-requires-else-position-before-2 g t c =
    let u = c.requires.tree in
    let s = c.requires.stands in
    let in_range = c.requires.in_range in
    let m = g.S.Summary.sums in
    let b = below m c.args.nodes.now c.args.top u c.read-here.result (filled_from_place u _ in_range) s.top_is s.stands c.read-here.ensures in
    let h = head_read m _ _ (left_of u) _ s.addressed b.left_is b.left_stands c.read.ensures in
    record { l = left_of u; r = right_of u; sides = own_here_sides m _ _ _ _ u _ s b c.put.ensures; near = b.at.balanced }

pub returns-then-position-before : goal.returns-then-position-before
returns-then-position-before g t c =
    λ u s in_range.
    let m = g.S.Summary.sums in
    let b = below m c.args.nodes.now c.args.top u c.read-here.result (filled_from_place u _ in_range) s.top_is s.stands c.read-here.ensures in
    let h = head_read m _ _ (left_of u) _ s.addressed b.left_is b.left_stands c.read.ensures in
    let within : c.args.position < tree_size (left_of u) = omega (arith, h.size, c.if-position-before.true) in
    let so = c.set_own.ensures (left_of u) (left_part m _ _ u _ s b) within in
    let sides = own_left_sides m _ _ _ _ _ _ u _ s b so in
    own_left_done m _ _ _ _ _ _ _ u _ s b within so (c.make.ensures so.tree (right_of u) sides.0 sides.1)

pub returns-then-position-before-2 : goal.returns-then-position-before-2
returns-then-position-before-2 g t c =
    λ u s in_range.
    let m = g.S.Summary.sums in
    let b = below m c.args.nodes.now c.args.top u c.read-here.result (filled_from_place u _ in_range) s.top_is s.stands c.read-here.ensures in
    let h = head_read m _ _ (left_of u) _ s.addressed b.left_is b.left_stands c.read.ensures in
    let k = c.args.position - c.read.result.size - 1 in
    let past : c.args.position ≡ tree_size (left_of u) + suc k = omega (arith, h.size, c.if-position-before-2.true) in
    let so = c.set_own-then-position-before-2.ensures (right_of u) (right_part m _ _ u _ s b) (omega (arith, past, in_range, b.size)) in
    let sides = own_right_sides m _ _ _ _ k _ u _ s b so in
    own_right_done m _ _ _ _ _ _ k _ u _ s b past so (c.make-then-position-before-2.ensures (left_of u) so.tree sides.0 sides.1)

pub returns-else-position-before-2 : goal.returns-else-position-before-2
returns-else-position-before-2 g t c =
    λ u s in_range.
    let m = g.S.Summary.sums in
    let b = below m c.args.nodes.now c.args.top u c.read-here.result (filled_from_place u _ in_range) s.top_is s.stands c.read-here.ensures in
    let h = head_read m _ _ (left_of u) _ s.addressed b.left_is b.left_stands c.read.ensures in
    own_here_done m _ _ _ _ _ _ u _ s b (omega (arith, h.size, c.if-position-before.false, c.if-position-before-2.false)) c.put.ensures (c.make-else-position-before-2.ensures (left_of u) (right_of u) (own_here_sides m _ _ _ _ u _ s b c.put.ensures) b.at.balanced)
