use Rattle.std.proofs.Common.{◌≡◌, length, refl, sym, ap, ◌∙◌, arith}
use Rattle.gl_ranktree.specs.Tree.Inside.{whole}
use Rattle.gl_ranktree.specs.Nodes.{node_at}
use Rattle.gl_ranktree.proofs.Links.{head}
use Rattle.gl_ranktree.proofs.Edits.{length-inorder}
use Rattle.gl_ranktree.proofs.Seen.{seen, shallow}
use Rattle.gl_ranktree.proofs.tree.RankTree.descend.Goals as goal

pub invariant_of-result : goal.invariant_of-result
invariant_of-result g c =
    let r = c.self.invariant in
    record { tree = r.tree; part = r.tree; before = _; stands = rw c.as_slice.ensures.value r.ranks.stands; inside = whole; top_is = r.ranks.stands.top_is; first_is = refl }

pub returns-clause-end : goal.returns-clause-end
returns-clause-end g c =
    let m = g.S.Summary.sums in
    let r = c.self.invariant in
    let is = seen m _ _ _ r.tree r.free c.args.self.now _ _ r.ranks c.self.view_is in
    let len_is = ap length is in
    let h = head m c.self.inside.nodes.items c.self.inside.root r.tree r.ranks.stands.addressed r.ranks.stands.top_is r.ranks.stands.stands in
    rw c.as_slice.ensures.value (omega (arith, h.size, length-inorder r.tree, len_is))

pub returns-clause-shallow : goal.returns-clause-shallow
returns-clause-shallow g c =
    λ digits few.
    let m = g.S.Summary.sums in
    let r = c.self.invariant in
    let is = seen m _ _ _ r.tree r.free c.args.self.now _ _ r.ranks c.self.view_is in
    let len_is = ap length is in
    let h = head m c.self.inside.nodes.items c.self.inside.root r.tree r.ranks.stands.addressed r.ranks.stands.top_is r.ranks.stands.stands in
    rw c.as_slice.ensures.value (omega (arith, h.height, shallow m digits _ r.tree r.ranks.stands.stands (omega (arith, few, length-inorder r.tree, len_is))))
