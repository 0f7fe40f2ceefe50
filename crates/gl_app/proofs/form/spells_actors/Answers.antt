use Rattle.std.proofs.Common.{◌∙◌}
use Rattle.gl_syntax.proofs.LineCuts.{cut_shorter}
use Rattle.gl_app.proofs.SpelledWords.{actor_skipped, no_actor_here, last_here}
use Rattle.gl_app.proofs.form.spells_actors.Goals as goal

pub returns-in_default-read_actor : goal.returns-in_default-read_actor
returns-in_default-read_actor c = no_actor_here c.piece.rest.now c.in-Some.piece.now c.in-Some.others.now
    c.in-Some.ensures c.in_default-read_actor.ensures ∙ c.piece.invariant

pub piece-smaller : goal.piece-smaller
piece-smaller c = cut_shorter 44 c.piece.rest.now c.in-Some.piece.now c.in-Some.others.now c.in-Some.ensures

pub piece-preserved : goal.piece-preserved
piece-preserved c = actor_skipped c.piece.rest.now c.in-Some.piece.now c.in-Some.others.now _ c.in-Some.ensures
    c.in-Some-read_actor.ensures ∙ c.piece.invariant

pub returns : goal.returns
returns c = c.is_some.ensures ∙ last_here c.piece.rest.now c.read_actor-2.result c.in_default.ensures
    c.read_actor-2.ensures ∙ c.piece.invariant
