use Rattle.std.proofs.lemmas.List.Elements.{All-nil}
use Rattle.spec_runs.proofs.Ordered.{heard_within}
use Rattle.gl_tell.specs.Told.{IsFresh}
use Rattle.gl_tell.proofs.teller.Teller.make.Goals as goal

pub listeners_by_list-requires-clause-on : goal.listeners_by_list-requires-clause-on
listeners_by_list-requires-clause-on c =
    rw (c.lists.ensures.lists, c.listeners.ensures.listeners) (heard_within c.args.plan.now c.lists.ensures.plan.formed)

pub invariant_of-result : goal.invariant_of-result
invariant_of-result c =
    rw (c.in_ok-copy.ensures, c.new.ensures.items) (record {
      whole = c.lists.ensures.plan;
      listeners = rw (← c.lists.ensures.lists, ← c.listeners.ensures.listeners) c.in_ok-by_list.ensures;
      fresh = All-nil IsFresh;
    })
