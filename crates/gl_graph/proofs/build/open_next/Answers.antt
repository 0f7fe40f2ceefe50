use Rattle.std.proofs.Common.{◌≡◌, ◌≤◌, length, refl, sym, subst}
use Rattle.spec_states.specs.State.{opening_of}
use Rattle.spec_states.specs.Shown.{shown_of}
use Rattle.gl_source.specs.declared.fault.OpenFault.TheVariants.{TooLong}
use Rattle.gl_graph.specs.Nodes.{own_of, shown_by, StandsFor, AreSettled}
use Rattle.gl_graph.specs.Opening.{IsOver}
use Rattle.gl_graph.proofs.build.open_next.Goals as goal

pub opened-requires-clause-settled : goal.opened-requires-clause-settled
opened-requires-clause-settled g c =
    subst (λ xs. AreSettled xs c.args.positions.now) (sym c.as_slice.ensures.value) c.requires.settled

pub returns-in_ok-push-in-Ok-clause-more : goal.returns-in_ok-push-in-Ok-clause-more
returns-in_ok-push-in-Ok-clause-more g c =
    let positions = c.args.positions.now in
    let kind = c.args.kind.now in
    record {
      node = record { list = c.args.list; keeps = c.in-Ok.keeps };
      is = c.in_ok-push-in-Ok.ensures;
      list_is = refl;
      own_is = subst (λ xs. own_of c.in-Ok.keeps ≡ opening_of (shown_by xs positions) kind) c.as_slice.ensures.value c.in-Ok.ensures.own;
      stands = subst (λ xs. StandsFor c.in-Ok.keeps (shown_by xs positions)) c.as_slice.ensures.value c.in-Ok.ensures.stands;
      limited = c.in-Ok.ensures.limited;
      within = subst (λ xs. length (shown_of (opening_of (shown_by xs positions) kind) (shown_by xs positions)) ≤ c.args.limit) c.as_slice.ensures.value c.in-Ok.ensures.within;
    }

pub returns-in-Err-TooLong-clause-fault : goal.returns-in-Err-TooLong-clause-fault
returns-in-Err-TooLong-clause-fault g c =
    let positions = c.args.positions.now in
    let kind = c.args.kind.now in
    let over = subst (λ xs. IsOver c.args.limit (length (shown_of (opening_of (shown_by xs positions) kind) (shown_by xs positions))) (TooLong c.in-Err-TooLong.len)) c.as_slice.ensures.value
    (subst (IsOver c.args.limit (length (shown_of (opening_of (shown_by c.as_slice.result.now positions) kind) (shown_by c.as_slice.result.now positions)))) c.in-Err-TooLong.field-0-is c.in-Err-TooLong.ensures.over) in
    (refl, over.0, over.1)
