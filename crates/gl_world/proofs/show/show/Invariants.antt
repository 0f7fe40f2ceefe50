use Rattle.std.proofs.Common.{◌≡◌, take}
use Rattle.spec_states.specs.Shown.{shown}
use Rattle.gl_graph.specs.Graph.{state_of}
use Rattle.gl_world.proofs.show.show.Given as goal

abbrev pub invariant-loop-place : goal.invariant-loop-place
invariant-loop-place l = l.values ≡ take l.place (shown (state_of l.graph) l.list)
