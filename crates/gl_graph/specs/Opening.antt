-- What a list is opened after, and why it isn't opened.
use Rattle.std.specs.Prelude.{◌≡◌, ◌<◌, ◌++◌, ⊤, ℕ}
use Rattle.std.specs.List.{All}
use Rattle.spec_states.specs.ListKind.{ListKind}
use Rattle.spec_states.specs.ListKind.TheVariants as kinds
use Rattle.gl_source.specs.declared.fault.OpenFault.{OpenFault}
use Rattle.gl_source.specs.declared.fault.OpenFault.TheVariants.{TooLong, Memory}
use Rattle.gl_kernels.specs.KernelFault.{KernelFault}
use Rattle.gl_kernels.specs.KernelFault.TheVariants as k

-- said of each list that a list of a plan depends on
abbrev pub OnInputs : (ℕ → Type 0) → ListKind → Type 0
OnInputs P (kinds.Source rows) = ⊤
OnInputs P (kinds.Filter input matcher) = P input
OnInputs P (kinds.Sorted input order) = P input
OnInputs P (kinds.Unique input order) = P input
OnInputs P (kinds.Grouping input order) = P input
OnInputs P (kinds.Range input bounds) = P input
OnInputs P (kinds.Function input func) = P input
OnInputs P (kinds.Collection input kids) = P input
OnInputs P (kinds.Composite members may) = All P (members ++ may)
OnInputs P (kinds.Transaction input) = P input
OnInputs P (kinds.Freezable input) = P input
OnInputs P (kinds.Proxy input) = P input

-- the list would have so many elements, which are too many
abbrev pub IsOver : ℕ → ℕ → OpenFault → Type 0
IsOver limit len (TooLong n) = (n ≡ len) × (limit < len)
IsOver limit len Memory = ⊤

-- what a fault of a list over another comes to
abbrev pub IsFaultBy : KernelFault → OpenFault → Type 0
IsFaultBy (k.TooLong len) fault = fault ≡ TooLong len
IsFaultBy k.Memory fault = fault ≡ Memory
