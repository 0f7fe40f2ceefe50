-- How many elements a list shows that says so by itself or by another list.
use Rattle.std.specs.Prelude.{⊤, ℕ, List, length}
use Rattle.spec_states.specs.Tree.{Tree}
use Rattle.gl_graph.specs.declared.len.Len.{Len}
use Rattle.gl_graph.specs.declared.len.Len.TheVariants.{Is, As}

-- by what each number's list shows
abbrev pub measured : Len → (ℕ → List Tree) → ℕ
measured (Is len) shows = len
measured (As list) shows = length (shows list)

-- said of the list that says it, if that is another one
abbrev pub OnLen : (ℕ → Type 0) → Len → Type 0
OnLen P (Is len) = ⊤
OnLen P (As list) = P list
