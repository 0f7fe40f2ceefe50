use Rattle.std.proofs.Common.{rules, ◌≡◌, ◌∙◌, Some, [], length, ap, sym, subst}
use Rattle.gl_graph.specs.Waves.{before_all, by_position, HaveRoomBack}
use Rattle.gl_graph.proofs.Progress.{room_on}
use Rattle.gl_graph.proofs.Taken.{AreLeft, last_can, last_left, last_room, numbers_back, none_back, none_room}
use Rattle.gl_graph.proofs.graph.take_back.Goals as goal

pub go_back-requires : goal.go_back-requires
go_back-requires c =
    let n = length c.args.nodes.now.items in
    let back = before_all (by_position n c.args.made.items) c.args.nodes.now.items in
    let nodes = c.made.nodes.items in
    last_can n c.pop.new.self.items (c.in-Some.position, c.in-Some.undo) nodes back (subst (λ ms. AreLeft n ms nodes back) c.in-Some.ensures.items c.made.invariant.left)

pub made-preserved : goal.made-preserved
made-preserved c =
    let n = length c.args.nodes.now.items in
    let back = before_all (by_position n c.args.made.items) c.args.nodes.now.items in
    let old = c.made.nodes.items in
    let new = c.go_back.new.nodes.items in
    let rest = c.pop.new.self.items in
    let first = by_position n c.args.made.items in
    record {
      left = last_left n c.pop.new.self.items (c.in-Some.position, c.in-Some.undo) old new back
          (subst (λ ms. AreLeft n ms old back) c.in-Some.ensures.items c.made.invariant.left) c.go_back.ensures;
      same = numbers_back (Some c.in-Some.undo) c.in-Some.position old new c.go_back.ensures ∙ c.made.invariant.same;
      room = room_on first (by_position n c.made.made.items) (by_position n rest) c.args.nodes.now.items old new (sym c.made.invariant.same) c.made.invariant.room
          (subst (λ ms. HaveRoomBack (by_position n ms) old (by_position n rest) new) (sym c.in-Some.ensures.items)
          (last_room n rest (c.in-Some.position, c.in-Some.undo) old new back (subst (λ ms. AreLeft n ms old back) c.in-Some.ensures.items c.made.invariant.left) c.go_back.ensures));
    }

pub returns-clause-back : goal.returns-clause-back
returns-clause-back c =
    let n = length c.args.nodes.now.items in
    let nodes = c.made.nodes.items in
    let empty : c.made.made.items ≡ [] = search rules in
    sym (none_back n nodes) ∙ (ap (λ ms. before_all (by_position n ms) nodes) (sym empty) ∙ c.made.invariant.left.left)

pub returns-clause-room : goal.returns-clause-room
returns-clause-room c =
    let n = length c.args.nodes.now.items in
    let nodes = c.made.nodes.items in
    let empty : c.made.made.items ≡ [] = search rules in
    none_room n (by_position n c.args.made.items) c.args.nodes.now.items nodes
    (subst (λ ms. HaveRoomBack (by_position n c.args.made.items) c.args.nodes.now.items (by_position n ms) nodes) empty c.made.invariant.room)
