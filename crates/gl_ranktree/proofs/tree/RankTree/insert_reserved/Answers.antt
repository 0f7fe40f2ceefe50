use Rattle.std.proofs.Common.{length, insert, sym, ap, ◌∙◌, arith}
use Rattle.gl_ranktree.specs.Ranked.{Ranked}
use Rattle.gl_ranktree.proofs.Edits.{length-inorder, hits-inorder}
use Rattle.gl_ranktree.proofs.Vacancies.{entries_are}
use Rattle.gl_ranktree.proofs.Seen.{seen, hits_from_Contains}
use Rattle.gl_ranktree.specs.Tree.{hits}
use Rattle.gl_ranktree.proofs.tree.RankTree.insert_reserved.Goals as goal

pub put_in-placed-requires : goal.put_in-placed-requires
put_in-placed-requires g c =
    let m = g.S.Summary.sums in
    let r = c.self.invariant in
    let is = seen m _ _ _ r.tree r.free c.args.self.now _ _ r.ranks c.self.view_is in
    let size = length-inorder r.tree in
    let len_is = ap length is in
    let room_is = ap (λ (x : Ranked g.row.S.Denot). x.room) c.self.view_is in
    let slots_is = ap (λ (x : Ranked g.row.S.Denot). x.slots) c.self.view_is in
    record { tree = r.tree; free = r.free; can = record { ranks = r.ranks; in_range = omega (arith, c.requires.in_range, size, len_is); few = omega (arith, c.requires.few, size, len_is); spare = omega (arith, c.requires.spare, size, len_is, room_is) } }

pub invariant_of-self : goal.invariant_of-self
invariant_of-self g c =
    let m = g.S.Summary.sums in
    let r = c.self.invariant in
    let is = seen m _ _ _ r.tree r.free c.args.self.now _ _ r.ranks c.self.view_is in
    let size = length-inorder r.tree in
    let len_is = ap length is in
    let room_is = ap (λ (x : Ranked g.row.S.Denot). x.room) c.self.view_is in
    let slots_is = ap (λ (x : Ranked g.row.S.Denot). x.slots) c.self.view_is in
    let placed = c.put_in-placed.ensures.puts r.tree r.free (record { ranks = r.ranks; in_range = omega (arith, c.requires.in_range, size, len_is); few = omega (arith, c.requires.few, size, len_is); spare = omega (arith, c.requires.spare, size, len_is, room_is) }) in
    record { tree = placed.tree; free = placed.free; ranks = placed.ranks }

pub returns-clause-entries : goal.returns-clause-entries
returns-clause-entries g c =
    let m = g.S.Summary.sums in
    let r = c.self.invariant in
    let is = seen m _ _ _ r.tree r.free c.args.self.now _ _ r.ranks c.self.view_is in
    let size = length-inorder r.tree in
    let len_is = ap length is in
    let room_is = ap (λ (x : Ranked g.row.S.Denot). x.room) c.self.view_is in
    let slots_is = ap (λ (x : Ranked g.row.S.Denot). x.slots) c.self.view_is in
    let placed = c.put_in-placed.ensures.puts r.tree r.free (record { ranks = r.ranks; in_range = omega (arith, c.requires.in_range, size, len_is); few = omega (arith, c.requires.few, size, len_is); spare = omega (arith, c.requires.spare, size, len_is, room_is) }) in
    entries_are m _ _ placed.tree placed.ranks.stands ∙ (placed.order ∙ ap (λ xs. insert xs c.args.position (c.put_in-placed.result.slot, c.args.own)) (sym is))

pub returns-clause-fresh : goal.returns-clause-fresh
returns-clause-fresh g c =
    λ found.
    let m = g.S.Summary.sums in
    let r = c.self.invariant in
    let is = seen m _ _ _ r.tree r.free c.args.self.now _ _ r.ranks c.self.view_is in
    let size = length-inorder r.tree in
    let len_is = ap length is in
    let room_is = ap (λ (x : Ranked g.row.S.Denot). x.room) c.self.view_is in
    let slots_is = ap (λ (x : Ranked g.row.S.Denot). x.slots) c.self.view_is in
    let placed = c.put_in-placed.ensures.puts r.tree r.free (record { ranks = r.ranks; in_range = omega (arith, c.requires.in_range, size, len_is); few = omega (arith, c.requires.few, size, len_is); spare = omega (arith, c.requires.spare, size, len_is, room_is) }) in
    let slot = c.put_in-placed.result.slot in
    omega (arith, hits_from_Contains c.args.self.now.entries slot found, ap (hits slot) is, hits-inorder slot r.tree, placed.fresh)

pub returns-clause-next : goal.returns-clause-next
returns-clause-next g c =
    let m = g.S.Summary.sums in
    let r = c.self.invariant in
    let is = seen m _ _ _ r.tree r.free c.args.self.now _ _ r.ranks c.self.view_is in
    let size = length-inorder r.tree in
    let len_is = ap length is in
    let room_is = ap (λ (x : Ranked g.row.S.Denot). x.room) c.self.view_is in
    let slots_is = ap (λ (x : Ranked g.row.S.Denot). x.slots) c.self.view_is in
    let placed = c.put_in-placed.ensures.puts r.tree r.free (record { ranks = r.ranks; in_range = omega (arith, c.requires.in_range, size, len_is); few = omega (arith, c.requires.few, size, len_is); spare = omega (arith, c.requires.spare, size, len_is, room_is) }) in
    omega (arith, placed.next, slots_is, c.self.inside.nodes.ok.0)

pub returns-clause-new_if_full : goal.returns-clause-new_if_full
returns-clause-new_if_full g c =
    λ last.
    let m = g.S.Summary.sums in
    let r = c.self.invariant in
    let is = seen m _ _ _ r.tree r.free c.args.self.now _ _ r.ranks c.self.view_is in
    let size = length-inorder r.tree in
    let len_is = ap length is in
    let room_is = ap (λ (x : Ranked g.row.S.Denot). x.room) c.self.view_is in
    let slots_is = ap (λ (x : Ranked g.row.S.Denot). x.slots) c.self.view_is in
    let placed = c.put_in-placed.ensures.puts r.tree r.free (record { ranks = r.ranks; in_range = omega (arith, c.requires.in_range, size, len_is); few = omega (arith, c.requires.few, size, len_is); spare = omega (arith, c.requires.spare, size, len_is, room_is) }) in
    omega (arith, placed.full (omega (arith, last, slots_is, c.self.inside.nodes.ok.0)), size, len_is, slots_is, c.self.inside.nodes.ok.0)

pub returns-clause-slots : goal.returns-clause-slots
returns-clause-slots g c =
    let m = g.S.Summary.sums in
    let r = c.self.invariant in
    let is = seen m _ _ _ r.tree r.free c.args.self.now _ _ r.ranks c.self.view_is in
    let size = length-inorder r.tree in
    let len_is = ap length is in
    let room_is = ap (λ (x : Ranked g.row.S.Denot). x.room) c.self.view_is in
    let slots_is = ap (λ (x : Ranked g.row.S.Denot). x.slots) c.self.view_is in
    let placed = c.put_in-placed.ensures.puts r.tree r.free (record { ranks = r.ranks; in_range = omega (arith, c.requires.in_range, size, len_is); few = omega (arith, c.requires.few, size, len_is); spare = omega (arith, c.requires.spare, size, len_is, room_is) }) in
    omega (arith, placed.len, slots_is, c.self.inside.nodes.ok.0, c.put_in-placed.new.nodes.ok.0)
