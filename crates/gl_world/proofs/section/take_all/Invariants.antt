use Rattle.std.proofs.Common.{take}
use Rattle.gl_world.proofs.Sections.{AreTaken}
use Rattle.gl_world.proofs.section.take_all.Given as goal

abbrev pub invariant-loop-command : goal.invariant-loop-command
invariant-loop-command g l =
    AreTaken l.initial.graph (take l.command-index l.commands) l.graph l.taken.replies l.taken.deltas
    l.taken.undos.items
