use Rattle.std.proofs.Common.{◌≡◌, length}
use Rattle.std.specs.Prelude.{is_some}
use Rattle.gl_app.specs.Words.{pieces, actors_in}
use Rattle.gl_app.proofs.form.spells_actors.Given as goal

-- what is left answers for the whole
abbrev pub invariant-piece : goal.invariant-piece
invariant-piece l = is_some (actors_in (pieces l.rest)) ≡ is_some (actors_in (pieces l.bytes))

abbrev pub decreases-piece : goal.decreases-piece
decreases-piece l = length l.rest
