use Rattle.std.proofs.Common.{◌∙◌, ap, sym, subst}
use Rattle.std.specs.Option.{option_copied}
use Rattle.gl_graph.specs.Causes.{cause_of}
use Rattle.gl_graph.specs.Nodes.{own_of, shown_by}
use Rattle.gl_graph.specs.Rollbacks.{IsDeltaFor}
use Rattle.gl_graph.proofs.Parts.{not_source, source_ok, source_stopped, own_stopped, other_stopped}
use Rattle.gl_graph.proofs.keeps.Keeps.turn.Goals as goal

pub returns-in-Some-clause-ok : goal.returns-in-Some-clause-ok
returns-in-Some-clause-ok g c =
    let shows = shown_by c.args.prefix.now c.args.positions.now in
    let delta = c.in-Some.delta.now in
    source_ok c.take_back.result c.args.rollback.now shows (cause_of c.args.cause.now) c.args.deltas.now c.args.list c.args.self.now c.take_back.new.self delta
    (subst (IsDeltaFor c.args.list c.args.rollback.now) (ap option_copied c.in-Some.is) c.delta_for.ensures) (c.take_back.ensures.ok shows)

pub returns-in-Some-clause-stopped : goal.returns-in-Some-clause-stopped
returns-in-Some-clause-stopped g c = λ limit limited.
    let shows = shown_by c.args.prefix.now c.args.positions.now in
    let delta = c.in-Some.delta.now in
    source_stopped c.take_back.result limit c.args.rollback.now shows (cause_of c.args.cause.now) c.args.deltas.now c.args.list (own_of c.args.self.now) delta
    (subst (IsDeltaFor c.args.list c.args.rollback.now) (ap option_copied c.in-Some.is) c.delta_for.ensures) (c.take_back.ensures.stopped limit shows limited)

pub returns-then-list-subject-clause-stopped : goal.returns-then-list-subject-clause-stopped
returns-then-list-subject-clause-stopped g c = λ limit limited.
    let shows = shown_by c.args.prefix.now c.args.positions.now in
    other_stopped c.follow.result limit c.args.rollback.now shows (cause_of c.args.cause.now) c.args.deltas.now c.args.list (own_of c.args.self.now)
    (λ e. c.if-list-subject.true (e ∙ sym c.subject.ensures))
    (not_source c.args.list c.args.rollback.now (subst (IsDeltaFor c.args.list c.args.rollback.now) (ap option_copied c.in_default.is) c.delta_for.ensures)) (c.follow.ensures.stopped limit limited)

pub returns-in-None-clause-stopped : goal.returns-in-None-clause-stopped
returns-in-None-clause-stopped g c = λ limit limited.
    let shows = shown_by c.args.prefix.now c.args.positions.now in
    own_stopped c.begin.result limit c.args.rollback.now shows (cause_of c.args.cause.now) c.args.deltas.now c.args.list (own_of c.args.self.now) (c.if-list-subject.false ∙ c.subject.ensures) (c.begin.ensures.stopped limit limited)
