use Rattle.std.proofs.Common.{◌<◌, ◌^◌, length, sym, ap, subst, ◌∙◌, arith}
use Rattle.gl_ranktree.specs.Nodes.{node_at}
use Rattle.gl_ranktree.proofs.Links.{head_read}
use Rattle.gl_ranktree.proofs.Edits.{length-inorder}
use Rattle.gl_ranktree.proofs.Seen.{seen, shallow, size_below_pow}
use Rattle.gl_ranktree.proofs.tree.RankTree.height.Goals as goal

pub returns : goal.returns
returns g c =
    let m = g.S.Summary.sums in
    let r = c.self.invariant in
    let is = seen m _ _ _ r.tree r.free c.args.self.now _ _ r.ranks c.self.view_is in
    let size = length-inorder r.tree in
    let len_is = ap length is in
    let h = head_read m _ _ r.tree _ r.ranks.stands.addressed r.ranks.stands.top_is r.ranks.stands.stands (c.read.ensures ∙ ap (λ xs. node_at m xs c.self.inside.root) c.as_slice.ensures.value) in
    record { deep = subst (λ k. length c.args.self.now.entries < 2 ^ k) (sym h.height) (omega (arith, size, len_is, size_below_pow r.tree)); shallow = λ digits few. omega (arith, h.height, shallow m digits _ r.tree r.ranks.stands.stands (omega (arith, few, size, len_is))) }
