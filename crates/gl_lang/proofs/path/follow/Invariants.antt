use Rattle.std.proofs.Common.{◌≡◌, drop}
use Rattle.spec_lang.specs.Path as path_to
use Rattle.gl_lang.proofs.path.follow.Given as goal

-- what is left of the path leads from here to where the whole path leads
abbrev pub invariant-loop-step : goal.invariant-loop-step
invariant-loop-step l = path_to.follow l.path l.v ≡ path_to.follow (drop l.step-index l.path) l.at
