use Rattle.std.proofs.Common.{◌<◌, Some, length, remove, sym, ap, ◌∙◌, arith}
use Rattle.std.specs.List.{slice_get}
use Rattle.std.proofs.lemmas.List.{with_items_is}
use Rattle.gl_ranktree.specs.Tree.{tree_size}
use Rattle.gl_ranktree.specs.Ranked.{Ranked}
use Rattle.gl_ranktree.specs.declared.node.Node.{Node}
use Rattle.gl_ranktree.proofs.Edits.{length-inorder}
use Rattle.gl_ranktree.proofs.Vacancies.{entries_are}
use Rattle.gl_ranktree.proofs.Seen.{seen, slice_get_split}
use Rattle.gl_ranktree.proofs.tree.RankTree.remove_at.Goals as goal

pub slot_at-slot-requires : goal.slot_at-slot-requires
slot_at-slot-requires g c =
    let m = g.S.Summary.sums in
    let r = c.self.invariant in
    let is = seen m _ _ _ r.tree r.free c.args.self.now _ _ r.ranks c.self.view_is in
    let size = length-inorder r.tree in
    let len_is = ap length is in
    let within : c.args.position < tree_size r.tree = omega (arith, c.requires, size, len_is) in
    record { tree = r.tree; stands = rw c.as_slice-nodes.ensures.value r.ranks.stands; in_range = within }

pub take_out-vacant-requires : goal.take_out-vacant-requires
take_out-vacant-requires g c =
    let m = g.S.Summary.sums in
    let r = c.self.invariant in
    let is = seen m _ _ _ r.tree r.free c.args.self.now _ _ r.ranks c.self.view_is in
    let size = length-inorder r.tree in
    let len_is = ap length is in
    let within : c.args.position < tree_size r.tree = omega (arith, c.requires, size, len_is) in
    record { tree = r.tree; free = r.free; ranks = rw c.as_mut_slice.ensures.value r.ranks; in_range = within }

pub invariant_of-self : goal.invariant_of-self
invariant_of-self g c =
    let m = g.S.Summary.sums in
    let r = c.self.invariant in
    let is = seen m _ _ _ r.tree r.free c.args.self.now _ _ r.ranks c.self.view_is in
    let size = length-inorder r.tree in
    let len_is = ap length is in
    let within : c.args.position < tree_size r.tree = omega (arith, c.requires, size, len_is) in
    let value = c.as_mut_slice.ensures.value in
    let out = rw value at (c.take_out-vacant.ensures r.tree r.free (rw value r.ranks) within) in
    rw (with_items_is c.self.inside.nodes c.take_out-vacant.new.nodes (omega (arith, out.len, c.self.inside.nodes.ok.0))) (record { tree = out.tree; free = out.free; ranks = out.ranks })

pub returns-clause-value : goal.returns-clause-value
returns-clause-value g c =
    let m = g.S.Summary.sums in
    let r = c.self.invariant in
    let is = seen m _ _ _ r.tree r.free c.args.self.now _ _ r.ranks c.self.view_is in
    let size = length-inorder r.tree in
    let len_is = ap length is in
    let within : c.args.position < tree_size r.tree = omega (arith, c.requires, size, len_is) in
    let entry = c.slot_at-slot.ensures r.tree (rw c.as_slice-nodes.ensures.value r.ranks.stands) within in
    let own_is = ap (λ (n : Node g.row.S.Denot). n.own) c.read-own.ensures in
    ap (λ xs. slice_get xs c.args.position) is ∙ (slice_get_split _ c.args.position _ entry ∙ ap (λ v. Some (c.slot_at-slot.result, v)) (sym own_is))

pub returns-clause-entries : goal.returns-clause-entries
returns-clause-entries g c =
    let m = g.S.Summary.sums in
    let r = c.self.invariant in
    let is = seen m _ _ _ r.tree r.free c.args.self.now _ _ r.ranks c.self.view_is in
    let size = length-inorder r.tree in
    let len_is = ap length is in
    let within : c.args.position < tree_size r.tree = omega (arith, c.requires, size, len_is) in
    let value = c.as_mut_slice.ensures.value in
    let out = rw value at (c.take_out-vacant.ensures r.tree r.free (rw value r.ranks) within) in
    rw (with_items_is c.self.inside.nodes c.take_out-vacant.new.nodes (omega (arith, out.len, c.self.inside.nodes.ok.0))) (entries_are m _ _ out.tree out.ranks.stands ∙ (out.order ∙ ap (λ xs. remove xs c.args.position) (sym is)))

pub returns-clause-slots : goal.returns-clause-slots
returns-clause-slots g c = ap (λ (x : Ranked g.row.S.Denot). x.slots) c.self.view_is
