use Rattle.std.proofs.Common.{◌≡◌, ◌++◌, length}
use Rattle.std.specs.Prelude.{option_map}
use Rattle.gl_app.specs.Words.{pieces, actors_in}
use Rattle.gl_app.proofs.words.read_actors.Given as goal

-- the actors that were read and those that are left are the whole
abbrev pub invariant-loop-piece : goal.invariant-loop-piece
invariant-loop-piece l = option_map (λ more. l.order.items ++ more) (actors_in (pieces l.rest))
    ≡ actors_in (pieces l.bytes)

abbrev pub decreases-loop-piece : goal.decreases-loop-piece
decreases-loop-piece l = length l.rest
