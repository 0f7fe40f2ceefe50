use Rattle.std.proofs.Common.{ap, ◌∙◌, arith}
use Rattle.gl_ranktree.specs.Nodes.{node_at}
use Rattle.gl_ranktree.specs.Finds.{IsWithin}
use Rattle.gl_ranktree.proofs.Seen.{seen, place_of}
use Rattle.gl_ranktree.proofs.tree.RankTree.place.Goals as goal

pub positions_before-requires : goal.positions_before-requires
positions_before-requires g c =
    let m = g.S.Summary.sums in
    let r = c.self.invariant in
    let is = seen m _ _ _ r.tree r.free c.args.self.now _ _ r.ranks c.self.view_is in
    let p = place_of m c.self.inside.nodes.items c.self.inside.root c.self.inside.vacant c.args.slot r.tree r.free c.args.self.now.entries r.ranks is c.requires in
    let value = c.as_slice-nodes.ensures.value in
    let within : IsWithin m c.as_slice-nodes.result.now c.args.slot r.tree p.u p.prefix = rw value p.within in
    record { t = r.tree; u = p.u; before = p.prefix; within = within }

pub overflow_add-result : goal.overflow_add-result
overflow_add-result g c =
    let m = g.S.Summary.sums in
    let r = c.self.invariant in
    let is = seen m _ _ _ r.tree r.free c.args.self.now _ _ r.ranks c.self.view_is in
    let p = place_of m c.self.inside.nodes.items c.self.inside.root c.self.inside.vacant c.args.slot r.tree r.free c.args.self.now.entries r.ranks is c.requires in
    let value = c.as_slice-nodes.ensures.value in
    let within : IsWithin m c.as_slice-nodes.result.now c.args.slot r.tree p.u p.prefix = rw value p.within in
    let at = p.is c.read.result c.read-2.result (c.read.ensures ∙ ap (λ xs. node_at m xs c.args.slot) value) (c.read-2.ensures ∙ ap (λ xs. node_at m xs c.read.result.left) value) c.positions_before.result (c.positions_before.ensures r.tree p.u p.prefix within) in
    omega (arith, at.0)

pub returns-clause-at : goal.returns-clause-at
returns-clause-at g c =
    let m = g.S.Summary.sums in
    let r = c.self.invariant in
    let is = seen m _ _ _ r.tree r.free c.args.self.now _ _ r.ranks c.self.view_is in
    let p = place_of m c.self.inside.nodes.items c.self.inside.root c.self.inside.vacant c.args.slot r.tree r.free c.args.self.now.entries r.ranks is c.requires in
    let value = c.as_slice-nodes.ensures.value in
    let within : IsWithin m c.as_slice-nodes.result.now c.args.slot r.tree p.u p.prefix = rw value p.within in
    let at = p.is c.read.result c.read-2.result (c.read.ensures ∙ ap (λ xs. node_at m xs c.args.slot) value) (c.read-2.ensures ∙ ap (λ xs. node_at m xs c.read.result.left) value) c.positions_before.result (c.positions_before.ensures r.tree p.u p.prefix within) in
    at.1

pub returns-clause-only : goal.returns-clause-only
returns-clause-only g c =
    let m = g.S.Summary.sums in
    let r = c.self.invariant in
    let is = seen m _ _ _ r.tree r.free c.args.self.now _ _ r.ranks c.self.view_is in
    let p = place_of m c.self.inside.nodes.items c.self.inside.root c.self.inside.vacant c.args.slot r.tree r.free c.args.self.now.entries r.ranks is c.requires in
    let value = c.as_slice-nodes.ensures.value in
    let within : IsWithin m c.as_slice-nodes.result.now c.args.slot r.tree p.u p.prefix = rw value p.within in
    let at = p.is c.read.result c.read-2.result (c.read.ensures ∙ ap (λ xs. node_at m xs c.args.slot) value) (c.read-2.ensures ∙ ap (λ xs. node_at m xs c.read.result.left) value) c.positions_before.result (c.positions_before.ensures r.tree p.u p.prefix within) in
    at.2
