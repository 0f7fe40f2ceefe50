use Rattle.std.proofs.Common.{ap, ◌∙◌, IsTrue, subst}
use Rattle.gl_ranktree.specs.Tree.{list_sum}
use Rattle.gl_ranktree.proofs.Seen.{seen}
use Rattle.gl_ranktree.proofs.Seeks.{list_sum-inorder}
use Rattle.gl_ranktree.proofs.tree.RankTree.seek.Goals as goal

pub seek-requires : goal.seek-requires
seek-requires g c =
    let m = g.S.Summary.sums in
    let r = c.self.invariant in
    let is = seen m _ _ _ r.tree r.free c.args.self.now _ _ r.ranks c.self.view_is in
    let F : g.row.S.Denot → Type 0 = λ v. IsTrue (m.fits v) in
    record { tree = r.tree; stands = rw c.as_slice.ensures.value r.ranks.stands; fits = subst F (ap (list_sum m) is ∙ list_sum-inorder m g.met.S.Summary.laws r.tree) c.requires }

pub returns : goal.returns
returns g c =
    let m = g.S.Summary.sums in
    let r = c.self.invariant in
    let is = seen m _ _ _ r.tree r.free c.args.self.now _ _ r.ranks c.self.view_is in
    let F : g.row.S.Denot → Type 0 = λ v. IsTrue (m.fits v) in
    let fits = subst F (ap (list_sum m) is ∙ list_sum-inorder m g.met.S.Summary.laws r.tree) c.requires in
    rw is (c.seek.ensures r.tree (rw c.as_slice.ensures.value r.ranks.stands) fits)
