use Rattle.std.proofs.Common.{◌≡◌, ◌+◌, ◌≤◌, ◌<◌, min, length, arith, sym, ◌∙◌}
use Rattle.spec_value.specs.Tree.{tree_size, trees, trees_size}
use Rattle.spec_value.specs.Order as order
use Rattle.spec_value.proofs.Order.{cmp_trees-trees}
use Rattle.gl_value.proofs.Lists.{slice_cmp-ends, tree_size-at}
use Rattle.gl_value.proofs.order.+order.Goals as goal

-- an element is smaller than its list
pub cmp_lists-cmp_values-requires : goal.cmp_lists-cmp_values-requires
cmp_lists-cmp_values-requires t c =
    let within : c.loop-i.i < length c.args.a.now = omega arith in
    let smaller : tree_size c.index-a-i.result + 1 ≤ trees_size (trees c.args.a.now) = tree_size-at c.args.a.now c.loop-i.i c.index-a-i.result within c.index-a-i.is in
    (omega arith, tt)

-- the lists agree as far as the shorter one goes
pub cmp_lists-returns : goal.cmp_lists-returns
cmp_lists-returns t c =
    let at_end : c.loop-i.i ≡ min (length c.args.a.now) (length c.args.b.now) = omega arith in
    c.cmp.ensures ∙ sym (slice_cmp-ends c.args.a.now c.args.b.now c.loop-i.i at_end) ∙ sym c.loop-i.invariant

pub cmp_values-returns-in-Items-Items : goal.cmp_values-returns-in-Items-Items
cmp_values-returns-in-Items-Items t c =
    let lists = cmp_trees-trees c.in-Items-Items.vs.now c.in-Items-Items.ws.now in
    c.cmp_lists.ensures ∙ sym lists ∙ (λ j. order.cmp (c.in-Items-Items.ensures j) (c.in-Items-Items.ensures' j))
