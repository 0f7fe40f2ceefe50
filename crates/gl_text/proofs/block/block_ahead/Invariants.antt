use Rattle.std.proofs.Common.{length}
use Rattle.gl_text.specs.Blocks.{IsAfter}
use Rattle.gl_text.proofs.block.block_ahead.Given as goal

-- no line that was passed ends the block
abbrev pub invariant-lines : goal.invariant-lines
invariant-lines l = record { passed : IsAfter l.bytes l.rest l.lines }

abbrev pub decreases-lines : goal.decreases-lines
decreases-lines l = length l.rest
