use Rattle.std.proofs.Common.{◌≡◌, length, ap, arith}
use Rattle.gl_grouping.specs.Kept.{Kept}
use Rattle.gl_grouping.specs.Following.{groups_of}
use Rattle.gl_grouping.proofs.Groups.{few_groups}
use Rattle.gl_grouping.proofs.grouping.Grouping.change.Goals as goal

pub replaced-requires-clause-before : goal.replaced-requires-clause-before
replaced-requires-clause-before g c =
    let xs = g.S.Shelf.items c.args.input.now in
    let k = c.args.self.now in
    let groups : k.groups.values ≡ groups_of k.classes xs = c.requires.stands.groups in
    omega (arith, ap (λ (a : Kept). length a.groups.values) c.self.view_is, ap length groups, few_groups k.classes xs, c.requires.few)

pub replaced-requires-clause-after : goal.replaced-requires-clause-after
replaced-requires-clause-after g c =
    let xs = g.S.Shelf.items c.args.input.now in
    let k = c.in_ok-other.other in
    let groups : k.groups.values ≡ groups_of k.classes xs = c.in_ok-other.ensures.stands.groups in
    omega (arith, ap (λ (a : Kept). length a.groups.values) c.other.view_is, ap length groups, few_groups k.classes xs, c.requires.few)
