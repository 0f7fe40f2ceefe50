use Rattle.std.proofs.Common.{length, refl, sym, subst, arith}
use Rattle.spec_states.specs.State.{State, own_at}
use Rattle.gl_graph.proofs.Progress.{contents_same_state}
use Rattle.gl_world.specs.Due.{MayQueue}
use Rattle.gl_world.proofs.Backs.{like_same, like_on}
use Rattle.gl_world.proofs.Dues.{due_none_yet, room_none_yet, due_next, due_all, item_at}
use Rattle.gl_world.proofs.due.due_of.Goals as goal

pub loop-list-init : goal.loop-list-init
loop-list-init c = record {
  like = like_same c.args.graph.now;
  due = due_none_yet c.args.lists.now c.args.deltas.now c.in_ok-due.due (length c.args.lists.now) refl c.in_ok-due.ensures;
  room = room_none_yet c.in_ok-due.due (length c.args.lists.now) c.args.graph.now c.in_ok-due.ensures;
}

pub add_due-requires-clause-within : goal.add_due-requires-clause-within
add_due-requires-clause-within c = omega (arith, c.loop-list-test.true, c.loop-list.invariant.due.long)

pub add_due-requires-clause-may : goal.add_due-requires-clause-may
add_due-requires-clause-may c =
    let l = c.loop-list in
    let d = c.index-lists-list.result in
    let P : State → Type 0 = λ s. MayQueue (length c.args.deltas.now) d.kind (own_at s l.list) in
    subst P (sym (contents_same_state l.graph c.args.graph.now l.invariant.like.same))
    (c.requires.may l.list d (item_at c.args.lists.now l.list d c.loop-list-test.true c.index-lists-list.is))

pub add_due-requires-clause-none : goal.add_due-requires-clause-none
add_due-requires-clause-none c = c.loop-list.invariant.due.rest c.loop-list.list (omega arith)

pub loop-list-preserved : goal.loop-list-preserved
loop-list-preserved c =
    let l = c.loop-list in
    let d = c.index-lists-list.result in
    let e = c.in_ok-add_due.ensures in
    record {
      like = like_on c.args.graph.now l.graph c.add_due.new.graph l.invariant.like e.like;
      due = due_next c.args.lists.now c.args.deltas.now l.due c.add_due.new.due l.list d
          (item_at c.args.lists.now l.list d c.loop-list-test.true c.index-lists-list.is) l.invariant.due e.due;
      room = e.room l.invariant.room;
    }

pub returns-in_err-add_due-clause-like : goal.returns-in_err-add_due-clause-like
returns-in_err-add_due-clause-like c =
    like_on c.args.graph.now c.loop-list.graph c.add_due.new.graph c.loop-list.invariant.like c.add_due.ensures.like

pub returns-clause-due : goal.returns-clause-due
returns-clause-due c =
    due_all c.args.lists.now c.args.deltas.now c.loop-list.due c.loop-list.list (omega arith) c.loop-list.invariant.due
