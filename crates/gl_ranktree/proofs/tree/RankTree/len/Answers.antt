use Rattle.std.proofs.Common.{length, ap, ◌∙◌, arith}
use Rattle.gl_ranktree.specs.Nodes.{node_at}
use Rattle.gl_ranktree.specs.Ranked.{Ranked}
use Rattle.gl_ranktree.proofs.Links.{head_read}
use Rattle.gl_ranktree.proofs.Edits.{length-inorder}
use Rattle.gl_ranktree.proofs.Seen.{seen}
use Rattle.gl_ranktree.proofs.tree.RankTree.len.Goals as goal

pub returns-clause-value : goal.returns-clause-value
returns-clause-value g c =
    let m = g.S.Summary.sums in
    let r = c.self.invariant in
    let is = seen m _ _ _ r.tree r.free c.args.self.now _ _ r.ranks c.self.view_is in
    let size = length-inorder r.tree in
    let len_is = ap length is in
    let h = head_read m _ _ r.tree _ r.ranks.stands.addressed r.ranks.stands.top_is r.ranks.stands.stands (c.read.ensures ∙ ap (λ xs. node_at m xs c.self.inside.root) c.as_slice.ensures.value) in
    omega (arith, h.size, size, len_is)

pub returns-clause-in_slots : goal.returns-clause-in_slots
returns-clause-in_slots g c =
    let m = g.S.Summary.sums in
    let r = c.self.invariant in
    let is = seen m _ _ _ r.tree r.free c.args.self.now _ _ r.ranks c.self.view_is in
    let size = length-inorder r.tree in
    let len_is = ap length is in
    let h = head_read m _ _ r.tree _ r.ranks.stands.addressed r.ranks.stands.top_is r.ranks.stands.stands (c.read.ensures ∙ ap (λ xs. node_at m xs c.self.inside.root) c.as_slice.ensures.value) in
    let slots_is = ap (λ (x : Ranked g.row.S.Denot). x.slots) c.self.view_is in
    omega (arith, h.size, r.ranks.counted, slots_is, c.self.inside.nodes.ok.0)
