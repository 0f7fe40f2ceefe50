use Rattle.std.proofs.Common.{◌∙◌, ap}
use Rattle.spec_states.specs.ListenerDecl.{ListenerDecl}
use Rattle.gl_tell.specs.Told.{tellings_of}
use Rattle.gl_tell.proofs.Tellings.{echo_is, told_nothing, told_delta}
use Rattle.gl_tell.proofs.telling.tell.Goals as goal

pub returns-in-None-clause-told : goal.returns-in-None-clause-told
returns-in-None-clause-told c =
    told_nothing c.args.listeners.now c.args.place c.args.deltas.now c.args.listener
    (tellings_of c.args.told.now.items) c.in-None.ensures.taken

pub returns-in-Some-clause-told : goal.returns-in-Some-clause-told
returns-in-Some-clause-told c =
    let d = c.index-listeners-listener.result in
    told_delta c.args.listeners.now c.args.place c.args.deltas.now c.args.listener _ c.in-Some.delta
    (tellings_of c.args.told.now.items) (tellings_of c.tell_delta.new.told.items)
    (echo_is c.args.listeners.now c.args.listener d c.requires.known c.index-listeners-listener.is
    ∙ ap (λ (l : ListenerDecl). l.echo) c.index-listeners-listener.is)
    c.in-Some.ensures.taken c.tell_delta.ensures.told
