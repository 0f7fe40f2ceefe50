use Rattle.std.proofs.Common.{◌∙◌, ap}
use Rattle.std.specs.Prelude.{Some, None}
use Rattle.gl_syntax.proofs.LineCuts.{cut_shorter}
use Rattle.gl_app.proofs.SpelledWords.{actor_more, no_actor, last_actor}
use Rattle.gl_app.proofs.words.read_actors.Goals as goal

pub returns-in_default-read_actor : goal.returns-in_default-read_actor
returns-in_default-read_actor c = no_actor c.loop-piece.order.items c.loop-piece.rest.now c.in-Some.piece.now
    c.in-Some.others.now _ c.in-Some.ensures c.in_default-read_actor.ensures c.loop-piece.invariant

pub loop-piece-smaller : goal.loop-piece-smaller
loop-piece-smaller c = cut_shorter 44 c.loop-piece.rest.now c.in-Some.piece.now c.in-Some.others.now c.in-Some.ensures

pub loop-piece-preserved : goal.loop-piece-preserved
loop-piece-preserved c = rw c.in_ok-push.ensures.items
    (actor_more c.loop-piece.order.items c.loop-piece.rest.now c.in-Some.piece.now c.in-Some.others.now
    c.in-Some-read_actor.actor _ c.in-Some.ensures c.in-Some-read_actor.ensures c.loop-piece.invariant)

pub returns-in_default-read_actor-2 : goal.returns-in_default-read_actor-2
returns-in_default-read_actor-2 c = last_actor c.loop-piece.order.items c.loop-piece.rest.now None _
    c.in_default.ensures c.in_default-read_actor-2.ensures c.loop-piece.invariant

pub returns : goal.returns
returns c = ap Some c.in_ok-push-2.ensures.items ∙ last_actor c.loop-piece.order.items c.loop-piece.rest.now
    (Some c.in-Some-read_actor-2.actor) _ c.in_default.ensures c.in-Some-read_actor-2.ensures c.loop-piece.invariant
