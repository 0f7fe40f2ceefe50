use Rattle.std.proofs.Common.{◌≡◌, suc, ◌+◌, ◌-◌, ◌<◌, arith, rules}
use Rattle.gl_ranktree.specs.Tree.{left_of, right_of, tree_size}
use Rattle.gl_ranktree.specs.Edits.{SomeWithPlace}
use Rattle.gl_ranktree.proofs.Trees.{filled_from_place}
use Rattle.gl_ranktree.proofs.Links.{head_read}
use Rattle.gl_ranktree.proofs.Edits.{below, left_lower, right_lower}
use Rattle.gl_ranktree.proofs.Removals.{left_part, right_part}
use Rattle.gl_ranktree.proofs.Finds.{entry_left, entry_right, entry_here}
use Rattle.gl_ranktree.proofs.find.+slot_at.Goals as goal

pub slot_at-requires : goal.slot_at-requires
slot_at-requires g t c =
    let u = c.requires.tree in
    let s = c.requires.stands in
    let in_range = c.requires.in_range in
    let m = g.S.Summary.sums in
    let b = below m c.args.nodes.now c.args.top u c.read-here.result (filled_from_place u _ in_range) s.top_is s.stands c.read-here.ensures in
    let h = head_read m _ _ (left_of u) _ s.addressed b.left_is b.left_stands c.read.ensures in
    let within : c.args.position < tree_size (left_of u) = omega (arith, h.size, c.if-position-before.true) in
    let lower = left_lower m c.args.nodes.now c.args.top u c.read-here.result s.addressed s.top_is s.stands b in
    let needs : SomeWithPlace m c.args.nodes.now c.read-here.result.left c.args.position = record { tree = left_of u; stands = left_part m _ _ u _ s b; in_range = within } in
    search (rules, lower, needs)

pub overflow_sub-position-then-position-before-2 : goal.overflow_sub-position-then-position-before-2
overflow_sub-position-then-position-before-2 g t c = omega (arith, c.if-position-before-2.true)

pub slot_at-requires-then-position-before-2 : goal.slot_at-requires-then-position-before-2
slot_at-requires-then-position-before-2 g t c =
    let u = c.requires.tree in
    let s = c.requires.stands in
    let in_range = c.requires.in_range in
    let m = g.S.Summary.sums in
    let b = below m c.args.nodes.now c.args.top u c.read-here.result (filled_from_place u _ in_range) s.top_is s.stands c.read-here.ensures in
    let h = head_read m _ _ (left_of u) _ s.addressed b.left_is b.left_stands c.read.ensures in
    let k = c.args.position - c.read.result.size - 1 in
    let past : c.args.position ≡ tree_size (left_of u) + suc k = omega (arith, h.size, c.if-position-before-2.true) in
    let lower = right_lower m c.args.nodes.now c.args.top u c.read-here.result s.addressed s.top_is s.stands b in
    let needs : SomeWithPlace m c.args.nodes.now c.read-here.result.right k = record { tree = right_of u; stands = right_part m _ _ u _ s b; in_range = omega (arith, past, in_range, b.size) } in
    search (rules, lower, needs)

pub returns-then-position-before : goal.returns-then-position-before
returns-then-position-before g t c =
    λ u s in_range.
    let m = g.S.Summary.sums in
    let b = below m c.args.nodes.now c.args.top u c.read-here.result (filled_from_place u _ in_range) s.top_is s.stands c.read-here.ensures in
    let h = head_read m _ _ (left_of u) _ s.addressed b.left_is b.left_stands c.read.ensures in
    let within : c.args.position < tree_size (left_of u) = omega (arith, h.size, c.if-position-before.true) in
    entry_left m _ _ _ _ u _ b (c.slot_at.ensures (left_of u) (left_part m _ _ u _ s b) within)

pub returns-then-position-before-2 : goal.returns-then-position-before-2
returns-then-position-before-2 g t c =
    λ u s in_range.
    let m = g.S.Summary.sums in
    let b = below m c.args.nodes.now c.args.top u c.read-here.result (filled_from_place u _ in_range) s.top_is s.stands c.read-here.ensures in
    let h = head_read m _ _ (left_of u) _ s.addressed b.left_is b.left_stands c.read.ensures in
    let k = c.args.position - c.read.result.size - 1 in
    let past : c.args.position ≡ tree_size (left_of u) + suc k = omega (arith, h.size, c.if-position-before-2.true) in
    entry_right m _ _ _ k _ u _ b past (c.slot_at-then-position-before-2.ensures (right_of u) (right_part m _ _ u _ s b) (omega (arith, past, in_range, b.size)))

pub returns-else-position-before-2 : goal.returns-else-position-before-2
returns-else-position-before-2 g t c =
    λ u s in_range.
    let m = g.S.Summary.sums in
    let b = below m c.args.nodes.now c.args.top u c.read-here.result (filled_from_place u _ in_range) s.top_is s.stands c.read-here.ensures in
    let h = head_read m _ _ (left_of u) _ s.addressed b.left_is b.left_stands c.read.ensures in
    entry_here m _ _ _ u _ b (omega (arith, h.size, c.if-position-before.false, c.if-position-before-2.false))
