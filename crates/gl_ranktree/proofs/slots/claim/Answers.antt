use Rattle.std.proofs.Common.{◌≡◌, length, ap, ◌∙◌, arith}
use Rattle.gl_ranktree.specs.declared.node.Node.{Node}
use Rattle.gl_ranktree.specs.Nodes.{node_at}
use Rattle.gl_ranktree.proofs.Vacancies.{Claims-push, Claims-set}
use Rattle.gl_ranktree.proofs.slots.claim.Goals as goal

pub returns-then-vacant-eq-ABSENT-clause-claims : goal.returns-then-vacant-eq-ABSENT-clause-claims
returns-then-vacant-eq-ABSENT-clause-claims g c =
    let items = c.args.nodes.now.items in
    let none = c.if-vacant-eq-ABSENT.true in
    let len_is : c.len-slot.result ≡ length items = omega (arith, c.len-slot.ensures, c.args.nodes.now.ok.0) in
    rw (c.push_reserved.ensures.items, len_is) (Claims-push g.S.Summary.sums items c.args.vacant _ none (omega (arith, c.requires.few none, c.args.nodes.now.ok.0)))

pub returns-clause-claims : goal.returns-clause-claims
returns-clause-claims g c =
    let m = g.S.Summary.sums in
    let items = c.args.nodes.now.items in
    let some = c.if-vacant-eq-ABSENT.false in
    let next = ap (λ (n : Node g.row.S.Denot). n.left) c.read-next.ensures ∙ ap (λ xs. (node_at m xs c.args.vacant).left) c.as_slice.ensures.value in
    Claims-set m items c.args.vacant c.read-next.result.left _ some (omega (arith, c.requires.known some, c.args.nodes.now.ok.0)) next
