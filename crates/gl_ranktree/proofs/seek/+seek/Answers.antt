use Rattle.std.proofs.Common.{◌≡◌, ◌+◌, ◌-◌, length, ap, ◌∙◌, arith, rules, length-append}
use Rattle.gl_ranktree.specs.Tree.{left_of, right_of, inorder, list_sum}
use Rattle.gl_ranktree.specs.Sought.{SomeFitting}
use Rattle.gl_ranktree.proofs.Edits.{below, left_lower, right_lower, filled_from_slot}
use Rattle.gl_ranktree.proofs.Removals.{left_part, right_part}
use Rattle.gl_ranktree.proofs.Seeks.{sought_left, sought_here, sought_right, read_below, rest_fits}
use Rattle.gl_ranktree.proofs.seek.+seek.Goals as goal

pub seek-requires : goal.seek-requires
seek-requires g t c κs within =
    let u = c.requires.tree in
    let s = c.requires.stands in
    let m = g.S.Summary.sums in
    let b = below m c.args.nodes.now c.args.top u c.read-here.result (filled_from_slot m _ u s.top_is c.if-top-eq-ABSENT.false) s.top_is s.stands c.read-here.ensures in
    let r = read_below m g.met.S.Summary.laws _ _ u _ c.read-left.result s b c.requires.fits c.read-here.ensures c.read-left.ensures in
    let lower = left_lower m c.args.nodes.now c.args.top u c.read-here.result s.addressed s.top_is s.stands b in
    let needs : SomeFitting m c.args.nodes.now c.read-here.result.left = record { tree = left_of u; stands = left_part m _ _ u _ s b; fits = r.left_fits } in
    search (rules, lower, needs)

pub returns-then-k-of : goal.returns-then-k-of
returns-then-k-of g t c =
    λ u s fits.
    let m = g.S.Summary.sums in
    let laws = g.met.S.Summary.laws in
    let by = c.args.by in
    let b = below m c.args.nodes.now c.args.top u c.read-here.result (filled_from_slot m _ u s.top_is c.if-top-eq-ABSENT.false) s.top_is s.stands c.read-here.ensures in
    let r = read_below m laws _ _ u _ c.read-left.result s b fits c.read-here.ensures c.read-left.ensures in
    let left = c.seek.ensures (left_of u) (left_part m _ _ u _ s b) r.left_fits in
    rw r.order (sought_left m laws (g.M.Measure.measured by) (g.met.M.Measure.empty by) (g.met.M.Measure.additive by) _ _ _ c.args.k _ _ _ (omega (arith, c.if-k-of.true, c.of.ensures, ap (g.M.Measure.measured by) r.left_sum)) left)

pub returns-then-k-reached : goal.returns-then-k-reached
returns-then-k-reached g t c =
    λ u s fits.
    let m = g.S.Summary.sums in
    let laws = g.met.S.Summary.laws in
    let by = c.args.by in
    let b = below m c.args.nodes.now c.args.top u c.read-here.result (filled_from_slot m _ u s.top_is c.if-top-eq-ABSENT.false) s.top_is s.stands c.read-here.ensures in
    let r = read_below m laws _ _ u _ c.read-left.result s b fits c.read-here.ensures c.read-left.ensures in
    let measured = g.M.Measure.measured by in
    let through_is = c.plus-through.ensures r.through_fits ∙ ap (λ v. m.plus v c.read-here.result.own) r.left_sum in
    let here = sought_here m laws measured (g.met.M.Measure.empty by) (g.met.M.Measure.additive by) (inorder (left_of u)) (inorder (right_of u)) (c.args.top, c.read-here.result.own) c.args.k (omega (arith, c.if-k-of.false, c.of.ensures, ap measured r.left_sum)) (omega (arith, c.if-k-reached.true, c.of-reached.ensures, ap measured through_is)) in
    rw (r.order, r.left_size, r.left_sum) here

pub seek-rest-requires : goal.seek-rest-requires
seek-rest-requires g t c κs within =
    let u = c.requires.tree in
    let s = c.requires.stands in
    let m = g.S.Summary.sums in
    let b = below m c.args.nodes.now c.args.top u c.read-here.result (filled_from_slot m _ u s.top_is c.if-top-eq-ABSENT.false) s.top_is s.stands c.read-here.ensures in
    let r = read_below m g.met.S.Summary.laws _ _ u _ c.read-left.result s b c.requires.fits c.read-here.ensures c.read-left.ensures in
    let lower = right_lower m c.args.nodes.now c.args.top u c.read-here.result s.addressed s.top_is s.stands b in
    let needs : SomeFitting m c.args.nodes.now c.read-here.result.right = record { tree = right_of u; stands = right_part m _ _ u _ s b; fits = r.right_fits } in
    search (rules, lower, needs)

pub overflow_add-result-2 : goal.overflow_add-result-2
overflow_add-result-2 g t c =
    let u = c.requires.tree in
    let s = c.requires.stands in
    let m = g.S.Summary.sums in
    let b = below m c.args.nodes.now c.args.top u c.read-here.result (filled_from_slot m _ u s.top_is c.if-top-eq-ABSENT.false) s.top_is s.stands c.read-here.ensures in
    let r = read_below m g.met.S.Summary.laws _ _ u _ c.read-left.result s b c.requires.fits c.read-here.ensures c.read-left.ensures in
    let right = c.seek-rest.ensures (right_of u) (right_part m _ _ u _ s b) r.right_fits in
    omega (arith, r.left_size, r.size, s.small, right.position_is, ap length right.is, length-append right.prefix right.back)

pub returns : goal.returns
returns g t c =
    λ u s fits.
    let m = g.S.Summary.sums in
    let laws = g.met.S.Summary.laws in
    let by = c.args.by in
    let b = below m c.args.nodes.now c.args.top u c.read-here.result (filled_from_slot m _ u s.top_is c.if-top-eq-ABSENT.false) s.top_is s.stands c.read-here.ensures in
    let r = read_below m laws _ _ u _ c.read-left.result s b fits c.read-here.ensures c.read-left.ensures in
    let measured = g.M.Measure.measured by in
    let right = c.seek-rest.ensures (right_of u) (right_part m _ _ u _ s b) r.right_fits in
    let through_is = c.plus-through.ensures r.through_fits in
    let sum_is : c.plus-through.result ≡ m.plus (list_sum m (inorder (left_of u))) c.read-here.result.own = through_is ∙ ap (λ v. m.plus v c.read-here.result.own) r.left_sum in
    let before_fits = rest_fits m laws (m.plus c.read-left.result.sum c.read-here.result.own) (inorder (right_of u)) measured _ _ _ _ r.whole_fits right in
    let before_is = c.plus.ensures (rw through_is before_fits) ∙ ap (λ v. m.plus v c.seek-rest.result.before) sum_is in
    let there = sought_right m laws measured (g.met.M.Measure.empty by) (g.met.M.Measure.additive by) (inorder (left_of u)) (inorder (right_of u)) (c.args.top, c.read-here.result.own) c.args.k (c.args.k - c.of-reached.result) (c.read-left.result.size + 1 + c.seek-rest.result.position) c.seek-rest.result.position c.plus.result c.seek-rest.result.before c.seek-rest.result.own (omega (arith, c.if-k-reached.false, c.of-reached.ensures, ap measured sum_is)) (omega (arith, r.left_size)) before_is right in
    rw r.order there
