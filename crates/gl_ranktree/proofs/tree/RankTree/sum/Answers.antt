use Rattle.std.proofs.Common.{sym, ap, ◌∙◌, IsTrue, subst}
use Rattle.gl_ranktree.specs.Tree.{list_sum}
use Rattle.gl_ranktree.specs.Nodes.{node_at}
use Rattle.gl_ranktree.proofs.Links.{head_read}
use Rattle.gl_ranktree.proofs.Seen.{seen}
use Rattle.gl_ranktree.proofs.Seeks.{list_sum-inorder}
use Rattle.gl_ranktree.proofs.tree.RankTree.sum.Goals as goal

pub returns : goal.returns
returns g c = λ fits.
    let m = g.S.Summary.sums in
    let r = c.self.invariant in
    let is = seen m _ _ _ r.tree r.free c.args.self.now _ _ r.ranks c.self.view_is in
    let F : g.row.S.Denot → Type 0 = λ v. IsTrue (m.fits v) in
    let sum_is = ap (list_sum m) is ∙ list_sum-inorder m g.met.S.Summary.laws r.tree in
    let h = head_read m _ _ r.tree _ r.ranks.stands.addressed r.ranks.stands.top_is r.ranks.stands.stands (c.read.ensures ∙ ap (λ xs. node_at m xs c.self.inside.root) c.as_slice.ensures.value) in
    h.sum (subst F sum_is fits) ∙ sym sum_is
