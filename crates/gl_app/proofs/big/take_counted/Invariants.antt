use Rattle.std.proofs.Common.{◌≡◌}
use Rattle.gl_app.proofs.AllSections.{turns}
use Rattle.gl_app.proofs.big.take_counted.Given as goal

-- the sections so far
abbrev pub invariant-sections : goal.invariant-sections
invariant-sections g l = l.world ≡ record { plan = l.initial.world.plan; order = turns l.counter }
