use Rattle.gl_plan.proofs.Sound.{prepared_lists, prepared_listeners, listeners_round, whole}
use Rattle.gl_plan.proofs.making.acyclic_plan.Goals as goal

pub ordered_lists-requires-clause-within : goal.ordered_lists-requires-clause-within
ordered_lists-requires-clause-within c =
    (prepared_lists c.args.draft c.args.names.now c.args.listeners.now c.requires).within

pub ordered_listeners-requires-clause-within : goal.ordered_listeners-requires-clause-within
ordered_listeners-requires-clause-within c =
    (prepared_listeners c.args.draft c.args.names.now c.args.listeners.now c.requires).within

pub ordered_plan-requires-clause-whole : goal.ordered_plan-requires-clause-whole
ordered_plan-requires-clause-whole c =
    whole c.args.draft c.args.names.now c.args.listeners.now c.requires c.in-Ok.ensures.acyclic
    c.in-Ok-ordered_listeners.ensures.acyclic

pub returns-in-Err-ordered_listeners-clause-cycle : goal.returns-in-Err-ordered_listeners-clause-cycle
returns-in-Err-ordered_listeners-clause-cycle c =
    listeners_round c.args.draft c.args.names.now c.args.listeners.now c.in-Err-ordered_listeners.fault c.requires
    c.in-Ok.ensures.acyclic c.in-Err-ordered_listeners.ensures.cycle
