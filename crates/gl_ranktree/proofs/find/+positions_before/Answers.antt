use Rattle.std.proofs.Common.{◌-◌, ◌<◌, length, sym, ap, ◌∙◌, arith, rules}
use Rattle.gl_ranktree.specs.declared.node.Node.{Node}
use Rattle.gl_ranktree.specs.Nodes.{node_at}
use Rattle.gl_ranktree.specs.Finds.{SomeWithin}
use Rattle.gl_ranktree.proofs.Finds.{up_none, up_read, inside_size}
use Rattle.gl_ranktree.proofs.find.+positions_before.Goals as goal

pub returns-then-parent : goal.returns-then-parent
returns-then-parent g t c =
    λ whole u before w.
    let none = ap (λ (n : Node g.row.S.Denot). n.parent) (sym c.read-parent.ensures) ∙ c.if-parent.true in
    sym (ap length (up_none g.S.Summary.sums _ _ whole u before w none))

pub positions_before-requires : goal.positions_before-requires
positions_before-requires g t c =
    let m = g.S.Summary.sums in
    let r = c.requires in
    let step = up_read m c.args.nodes.now c.args.slot r.t r.u r.before c.read-parent.result c.read-above.result r.within c.read-parent.ensures c.if-parent.false c.read-above.ensures in
    let nearer : 4294967296 - (node_at m c.args.nodes.now c.read-parent.result.parent).height < 4294967296 - (node_at m c.args.nodes.now c.args.slot).height = step.nearer in
    let needs : SomeWithin m c.args.nodes.now c.read-parent.result.parent = record { t = r.t; u = step.p; before = step.prefix; within = step.within } in
    search (rules, nearer, needs)

pub returns-then-above-slot : goal.returns-then-above-slot
returns-then-above-slot g t c =
    λ whole u before w.
    let m = g.S.Summary.sums in
    let step = up_read m c.args.nodes.now c.args.slot whole u before c.read-parent.result c.read-above.result w c.read-parent.ensures c.if-parent.false c.read-above.ensures in
    c.positions_before.ensures whole step.p step.prefix step.within ∙ sym (step.if_left c.if-above-slot.true)

pub positions_before-requires-2 : goal.positions_before-requires-2
positions_before-requires-2 g t c =
    let m = g.S.Summary.sums in
    let r = c.requires in
    let step = up_read m c.args.nodes.now c.args.slot r.t r.u r.before c.read-parent.result c.read-above.result r.within c.read-parent.ensures c.if-parent.false c.read-above.ensures in
    let nearer : 4294967296 - (node_at m c.args.nodes.now c.read-parent.result.parent).height < 4294967296 - (node_at m c.args.nodes.now c.args.slot).height = step.nearer in
    let needs : SomeWithin m c.args.nodes.now c.read-parent.result.parent = record { t = r.t; u = step.p; before = step.prefix; within = step.within } in
    search (rules, nearer, needs)

pub overflow_add-result : goal.overflow_add-result
overflow_add-result g t c =
    let m = g.S.Summary.sums in
    let r = c.requires in
    let step = up_read m c.args.nodes.now c.args.slot r.t r.u r.before c.read-parent.result c.read-above.result r.within c.read-parent.ensures c.if-parent.false c.read-above.ensures in
    let size_is = ap (λ (n : Node g.row.S.Denot). n.size) c.read.ensures in
    omega (arith, c.positions_before-2.ensures r.t step.p step.prefix step.within, step.if_right c.if-above-slot.false, size_is, inside_size r.t r.u r.before r.within.inside, r.within.stands.small)

pub returns : goal.returns
returns g t c =
    λ whole u before w.
    let m = g.S.Summary.sums in
    let step = up_read m c.args.nodes.now c.args.slot whole u before c.read-parent.result c.read-above.result w c.read-parent.ensures c.if-parent.false c.read-above.ensures in
    let size_is = ap (λ (n : Node g.row.S.Denot). n.size) c.read.ensures in
    omega (arith, c.positions_before-2.ensures whole step.p step.prefix step.within, step.if_right c.if-above-slot.false, size_is)
