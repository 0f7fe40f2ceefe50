-- What the faults of lists come to in a graph.
use Rattle.std.specs.Prelude.{◌≡◌, ℕ}
use Rattle.gl_source.specs.declared.fault.EditFault.{EditFault}
use Rattle.gl_source.specs.declared.fault.EditFault.TheVariants as f
use Rattle.gl_kernels.specs.KernelFault.{KernelFault}
use Rattle.gl_kernels.specs.KernelFault.TheVariants as k
use Rattle.gl_held.specs.declared.fault.CloseFault.{CloseFault}
use Rattle.gl_held.specs.declared.fault.CloseFault.TheVariants as cf
use Rattle.gl_graph.specs.declared.graph.Refused.{Refused}
use Rattle.gl_graph.specs.declared.graph.Refused.TheVariants.{OutOfRange, TooLong, NotOpen, Memory}

-- the refusal of the graph that a source's fault comes to
abbrev pub IsRefusalByEdit : ℕ → EditFault → Refused → Type 0
IsRefusalByEdit list (f.OutOfRange index len) why = why ≡ OutOfRange index len
IsRefusalByEdit list (f.TooLong len) why = why ≡ TooLong list len
IsRefusalByEdit list f.Memory why = why ≡ Memory

-- and that a fault of a list over another comes to
abbrev pub IsRefusalBy : ℕ → KernelFault → Refused → Type 0
IsRefusalBy list (k.TooLong len) why = why ≡ TooLong list len
IsRefusalBy list k.Memory why = why ≡ Memory

-- and that a fault of closing a level comes to
abbrev pub IsRefusalByClose : CloseFault → Refused → Type 0
IsRefusalByClose cf.NotOpen why = why ≡ NotOpen
IsRefusalByClose cf.Memory why = why ≡ Memory
