use Rattle.std.proofs.Common.{Some, length, sym, ap, ◌∙◌, arith}
use Rattle.std.specs.List.{slice_get}
use Rattle.std.proofs.lemmas.Option.{slice_get_past}
use Rattle.gl_ranktree.specs.Nodes.{node_at}
use Rattle.gl_ranktree.specs.declared.node.Node.{Node}
use Rattle.gl_ranktree.proofs.Links.{head_read}
use Rattle.gl_ranktree.proofs.Edits.{length-inorder}
use Rattle.gl_ranktree.proofs.Seen.{seen, slice_get_split}
use Rattle.gl_ranktree.proofs.tree.RankTree.get.Goals as goal

pub slot_at-slot-requires : goal.slot_at-slot-requires
slot_at-slot-requires g c =
    let m = g.S.Summary.sums in
    let r = c.self.invariant in
    let h = head_read m _ _ r.tree _ r.ranks.stands.addressed r.ranks.stands.top_is r.ranks.stands.stands (c.read.ensures ∙ ap (λ xs. node_at m xs c.self.inside.root) c.as_slice-nodes.ensures.value) in
    record { tree = r.tree; stands = rw c.as_slice-nodes.ensures.value r.ranks.stands; in_range = omega (arith, h.size, c.if-position-read.true) }

pub returns-then-position-read : goal.returns-then-position-read
returns-then-position-read g c =
    let m = g.S.Summary.sums in
    let r = c.self.invariant in
    let is = seen m _ _ _ r.tree r.free c.args.self.now _ _ r.ranks c.self.view_is in
    let size = length-inorder r.tree in
    let len_is = ap length is in
    let h = head_read m _ _ r.tree _ r.ranks.stands.addressed r.ranks.stands.top_is r.ranks.stands.stands (c.read.ensures ∙ ap (λ xs. node_at m xs c.self.inside.root) c.as_slice-nodes.ensures.value) in
    let entry = c.slot_at-slot.ensures r.tree (rw c.as_slice-nodes.ensures.value r.ranks.stands) (omega (arith, h.size, c.if-position-read.true)) in
    let own_is = ap (λ (n : Node g.row.S.Denot). n.own) c.read-then-position-read.ensures in
    ap (λ v. Some (c.slot_at-slot.result, v)) own_is ∙ (sym (slice_get_split _ c.args.position _ entry) ∙ ap (λ xs. slice_get xs c.args.position) (sym is))

pub returns-else-position-read : goal.returns-else-position-read
returns-else-position-read g c =
    let m = g.S.Summary.sums in
    let r = c.self.invariant in
    let is = seen m _ _ _ r.tree r.free c.args.self.now _ _ r.ranks c.self.view_is in
    let size = length-inorder r.tree in
    let len_is = ap length is in
    let h = head_read m _ _ r.tree _ r.ranks.stands.addressed r.ranks.stands.top_is r.ranks.stands.stands (c.read.ensures ∙ ap (λ xs. node_at m xs c.self.inside.root) c.as_slice-nodes.ensures.value) in
    sym (slice_get_past c.args.self.now.entries c.args.position (omega (arith, h.size, size, len_is, c.if-position-read.false)))
