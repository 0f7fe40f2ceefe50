use Rattle.std.proofs.Common.{take}
use Rattle.gl_tell.specs.Handed.{AreGiven}
use Rattle.gl_tell.proofs.handing.give_copies.Given as goal

-- those so far were given the delta
abbrev pub invariant-loop-listener : goal.invariant-loop-listener
invariant-loop-listener l =
    AreGiven l.delta.pieces (take l.listener-index l.listeners) l.initial.heard l.heard
