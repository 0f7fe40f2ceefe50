use Rattle.std.proofs.Common.{length, ap, ◌∙◌, arith}
use Rattle.std.proofs.lemmas.Result.{on_ok_weaker}
use Rattle.gl_ranktree.specs.Nodes.{node_at}
use Rattle.gl_ranktree.specs.Ranked.{Ranked}
use Rattle.gl_ranktree.proofs.Links.{head_read}
use Rattle.gl_ranktree.proofs.Edits.{length-inorder}
use Rattle.gl_ranktree.proofs.Vacancies.{entries_are}
use Rattle.gl_ranktree.proofs.Seen.{seen}
use Rattle.gl_ranktree.proofs.tree.RankTree.reserve.Goals as goal

pub overflow_sub-capacity : goal.overflow_sub-capacity
overflow_sub-capacity g c =
    let m = g.S.Summary.sums in
    let r = c.self.invariant in
    let is = seen m _ _ _ r.tree r.free c.args.self.now _ _ r.ranks c.self.view_is in
    let size = length-inorder r.tree in
    let len_is = ap length is in
    let h = head_read m _ _ r.tree _ r.ranks.stands.addressed r.ranks.stands.top_is r.ranks.stands.stands (c.read.ensures ∙ ap (λ xs. node_at m xs c.self.inside.root) c.as_slice.ensures.value) in
    let room_is = ap (λ (x : Ranked g.row.S.Denot). x.room) c.self.view_is in
    let ok = c.self.inside.nodes.ok in
    omega (arith, h.size, r.ranks.counted, c.capacity.ensures, ok.0, ok.1)

pub returns-then-capacity-len-clause-spare : goal.returns-then-capacity-len-clause-spare
returns-then-capacity-len-clause-spare g c =
    let m = g.S.Summary.sums in
    let r = c.self.invariant in
    let is = seen m _ _ _ r.tree r.free c.args.self.now _ _ r.ranks c.self.view_is in
    let size = length-inorder r.tree in
    let len_is = ap length is in
    let h = head_read m _ _ r.tree _ r.ranks.stands.addressed r.ranks.stands.top_is r.ranks.stands.stands (c.read.ensures ∙ ap (λ xs. node_at m xs c.self.inside.root) c.as_slice.ensures.value) in
    let room_is = ap (λ (x : Ranked g.row.S.Denot). x.room) c.self.view_is in
    let ok = c.self.inside.nodes.ok in
    omega (arith, h.size, size, len_is, room_is, c.if-capacity-len.true, c.capacity.ensures)

pub overflow_sub-vacant : goal.overflow_sub-vacant
overflow_sub-vacant g c =
    let m = g.S.Summary.sums in
    let r = c.self.invariant in
    let is = seen m _ _ _ r.tree r.free c.args.self.now _ _ r.ranks c.self.view_is in
    let size = length-inorder r.tree in
    let len_is = ap length is in
    let h = head_read m _ _ r.tree _ r.ranks.stands.addressed r.ranks.stands.top_is r.ranks.stands.stands (c.read.ensures ∙ ap (λ xs. node_at m xs c.self.inside.root) c.as_slice.ensures.value) in
    let room_is = ap (λ (x : Ranked g.row.S.Denot). x.room) c.self.view_is in
    let ok = c.self.inside.nodes.ok in
    omega (arith, h.size, r.ranks.counted, c.len.ensures, ok.0)

pub overflow_sub-additional : goal.overflow_sub-additional
overflow_sub-additional g c =
    let m = g.S.Summary.sums in
    let r = c.self.invariant in
    let is = seen m _ _ _ r.tree r.free c.args.self.now _ _ r.ranks c.self.view_is in
    let size = length-inorder r.tree in
    let len_is = ap length is in
    let h = head_read m _ _ r.tree _ r.ranks.stands.addressed r.ranks.stands.top_is r.ranks.stands.stands (c.read.ensures ∙ ap (λ xs. node_at m xs c.self.inside.root) c.as_slice.ensures.value) in
    let room_is = ap (λ (x : Ranked g.row.S.Denot). x.room) c.self.view_is in
    let ok = c.self.inside.nodes.ok in
    omega (arith, h.size, r.ranks.counted, c.capacity.ensures, c.len.ensures, c.if-capacity-len.false, ok.0, ok.1)

pub invariant_of-self : goal.invariant_of-self
invariant_of-self g c = rw c.reserve.ensures.items c.self.invariant

pub returns-clause-spare : goal.returns-clause-spare
returns-clause-spare g c =
    let m = g.S.Summary.sums in
    let r = c.self.invariant in
    let is = seen m _ _ _ r.tree r.free c.args.self.now _ _ r.ranks c.self.view_is in
    let size = length-inorder r.tree in
    let len_is = ap length is in
    let h = head_read m _ _ r.tree _ r.ranks.stands.addressed r.ranks.stands.top_is r.ranks.stands.stands (c.read.ensures ∙ ap (λ xs. node_at m xs c.self.inside.root) c.as_slice.ensures.value) in
    let room_is = ap (λ (x : Ranked g.row.S.Denot). x.room) c.self.view_is in
    let ok = c.self.inside.nodes.ok in
    let shown = ap length (entries_are m c.self.inside.nodes.items c.self.inside.root r.tree r.ranks.stands) in
    on_ok_weaker c.reserve.result
    (λ enough. rw c.reserve.ensures.items (omega (arith, enough, shown, h.size, size, r.ranks.counted, c.len.ensures, c.reserve.ensures.len, c.capacity.ensures, c.if-capacity-len.false, ok.0, ok.1)))
    c.reserve.ensures.ok

pub returns-clause-entries : goal.returns-clause-entries
returns-clause-entries g c = rw c.reserve.ensures.items (ap (λ (x : Ranked g.row.S.Denot). x.entries) c.self.view_is)
