use Rattle.std.proofs.Common.{take}
use Rattle.gl_tell.specs.Listeners.{AreByList}
use Rattle.gl_tell.proofs.listeners.listeners_by_list.Given as goal

-- the listeners so far are there
abbrev pub invariant-loop-number : goal.invariant-loop-number
invariant-loop-number l = AreByList l.lists (take l.number l.listeners) l.by_list.items
