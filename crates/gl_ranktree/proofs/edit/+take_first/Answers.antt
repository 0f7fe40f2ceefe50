use Rattle.std.proofs.Common.{rules}
use Rattle.gl_ranktree.specs.Tree.{left_of, right_of}
use Rattle.gl_ranktree.specs.Edits.{SomeFilled}
use Rattle.gl_ranktree.proofs.Edits.{filled_from_slot, below, left_lower}
use Rattle.gl_ranktree.proofs.Removals.{left_part, take_here, take_left_sides, take_left_done}
use Rattle.gl_ranktree.proofs.edit.+take_first.Goals as goal

pub returns-then-here : goal.returns-then-here
returns-then-here g t c =
    λ u s filled.
    let m = g.S.Summary.sums in
    take_here m _ _ u _ s (below m c.args.nodes.now c.args.top u c.read-here.result filled s.top_is s.stands c.read-here.ensures) c.if-here.true

pub take_first-first-requires : goal.take_first-first-requires
take_first-first-requires g t c =
    let m = g.S.Summary.sums in
    let u = c.requires.tree in
    let s = c.requires.stands in
    let b = below m c.args.nodes.now c.args.top u c.read-here.result c.requires.filled s.top_is s.stands c.read-here.ensures in
    let lower = left_lower m c.args.nodes.now c.args.top u c.read-here.result s.addressed s.top_is s.stands b in
    let needs : SomeFilled m c.args.nodes.now c.read-here.result.left = record { tree = left_of u; stands = left_part m _ _ u _ s b; filled = filled_from_slot m _ (left_of u) b.left_is c.if-here.false } in
    search (rules, lower, needs)

pub join-rest-requires : goal.join-rest-requires
join-rest-requires g t c =
    let m = g.S.Summary.sums in
    let u = c.requires.tree in
    let s = c.requires.stands in
    let b = below m c.args.nodes.now c.args.top u c.read-here.result c.requires.filled s.top_is s.stands c.read-here.ensures in
    let tk = c.take_first-first.ensures (left_of u) (left_part m _ _ u _ s b) (filled_from_slot m _ (left_of u) b.left_is c.if-here.false) in
    let sides = take_left_sides m _ _ _ _ _ u _ s b tk in
    record { l = tk.tree; r = right_of u; sides = sides.0; near = sides.1 }

pub returns : goal.returns
returns g t c =
    λ u s filled.
    let m = g.S.Summary.sums in
    let b = below m c.args.nodes.now c.args.top u c.read-here.result filled s.top_is s.stands c.read-here.ensures in
    let tk = c.take_first-first.ensures (left_of u) (left_part m _ _ u _ s b) (filled_from_slot m _ (left_of u) b.left_is c.if-here.false) in
    let sides = take_left_sides m _ _ _ _ _ u _ s b tk in
    take_left_done m _ _ _ _ _ _ _ u _ s b tk (c.join-rest.ensures tk.tree (right_of u) sides.0)
