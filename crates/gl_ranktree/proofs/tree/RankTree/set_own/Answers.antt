use Rattle.std.proofs.Common.{◌<◌, length, sym, ap, ◌∙◌, arith}
use Rattle.std.proofs.lemmas.List.{with_items_is}
use Rattle.gl_ranktree.specs.Tree.{tree_size, with_own}
use Rattle.gl_ranktree.proofs.Edits.{length-inorder}
use Rattle.gl_ranktree.proofs.Vacancies.{entries_are}
use Rattle.gl_ranktree.proofs.Seen.{seen}
use Rattle.gl_ranktree.proofs.tree.RankTree.set_own.Goals as goal

pub set_in-requires : goal.set_in-requires
set_in-requires g c =
    let m = g.S.Summary.sums in
    let r = c.self.invariant in
    let is = seen m _ _ _ r.tree r.free c.args.self.now _ _ r.ranks c.self.view_is in
    let size = length-inorder r.tree in
    let len_is = ap length is in
    let within : c.args.position < tree_size r.tree = omega (arith, c.requires, size, len_is) in
    record { tree = r.tree; stands = rw c.as_mut_slice.ensures.value r.ranks.stands; in_range = within }

pub invariant_of-self : goal.invariant_of-self
invariant_of-self g c =
    let m = g.S.Summary.sums in
    let r = c.self.invariant in
    let is = seen m _ _ _ r.tree r.free c.args.self.now _ _ r.ranks c.self.view_is in
    let size = length-inorder r.tree in
    let len_is = ap length is in
    let within : c.args.position < tree_size r.tree = omega (arith, c.requires, size, len_is) in
    let value = c.as_mut_slice.ensures.value in
    let out = rw value at (c.set_in.ensures r.tree c.self.inside.vacant r.free (rw value r.ranks) within) in
    rw (with_items_is c.self.inside.nodes c.set_in.new.nodes (omega (arith, out.len, c.self.inside.nodes.ok.0))) (record { tree = out.tree; free = out.free; ranks = out.ranks })

pub returns-clause-entries : goal.returns-clause-entries
returns-clause-entries g c =
    let m = g.S.Summary.sums in
    let r = c.self.invariant in
    let is = seen m _ _ _ r.tree r.free c.args.self.now _ _ r.ranks c.self.view_is in
    let size = length-inorder r.tree in
    let len_is = ap length is in
    let within : c.args.position < tree_size r.tree = omega (arith, c.requires, size, len_is) in
    let value = c.as_mut_slice.ensures.value in
    let out = rw value at (c.set_in.ensures r.tree c.self.inside.vacant r.free (rw value r.ranks) within) in
    rw (with_items_is c.self.inside.nodes c.set_in.new.nodes (omega (arith, out.len, c.self.inside.nodes.ok.0))) (entries_are m _ _ out.tree out.ranks.stands ∙ (out.order ∙ ap (λ xs. with_own xs c.args.position c.args.own) (sym is)))
