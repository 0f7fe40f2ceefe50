use Rattle.std.proofs.Common.{◌≡◌, ◌++◌, take}
use Rattle.std.specs.List.{flat_map}
use Rattle.gl_line_writer.specs.Pieces.{step_after_dot}
use Rattle.gl_line_writer.proofs.path.add_steps.Given as goal

abbrev pub invariant-steps : goal.invariant-steps
invariant-steps l = l.out ≡ l.initial.out ++ flat_map step_after_dot (take l.step-index l.steps)
