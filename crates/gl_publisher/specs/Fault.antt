-- What an `OrderFault` says.
use Rattle.std.specs.Prelude.{ℕ, List, ⊤}
use Rattle.gl_publisher.specs.declared.fault.OrderFault.{OrderFault}
use Rattle.gl_publisher.specs.declared.fault.OrderFault.TheVariants.{Cycle, Memory}

-- the fact holds of the cycle handed back, if the fault is one
abbrev pub IfCycle : OrderFault → (List ℕ → Type 0) → Type 0
IfCycle (Cycle items) P = P items
IfCycle Memory P = ⊤
