use Rattle.std.proofs.Common.{length, ap, arith}
use Rattle.spec_sorting.proofs.Arrangements.{arrangement_is}
use Rattle.gl_arranged.specs.Sorting.{order_cmp}
use Rattle.gl_arranged.proofs.Sortings.{order_cmp_total}
use Rattle.gl_classes.proofs.classes.Classes.make.Goals as goal

pub firsts_of-requires-clause-few : goal.firsts_of-requires-clause-few
firsts_of-requires-clause-few g c =
    let h = c.in_ok-list.ensures.stands in
    omega (arith, ap length h.places, (arrangement_is (order_cmp c.in_ok-list.list.order) (order_cmp_total c.in_ok-list.list.order) (g.S.Shelf.items c.args.input.now)).long, c.requires.few)
