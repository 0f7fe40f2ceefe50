use Rattle.gl_counted.proofs.Held.{held_empty}
use Rattle.gl_counted.proofs.counted.Counted.new.Goals as goal

pub invariant_of-result : goal.invariant_of-result
invariant_of-result g c = held_empty c.new.result c.new-2.result.items c.new.ensures.empty c.new.ensures.no_slots c.new-2.ensures.items

pub returns-clause-empty : goal.returns-clause-empty
returns-clause-empty g c = rw c.new.ensures.empty
