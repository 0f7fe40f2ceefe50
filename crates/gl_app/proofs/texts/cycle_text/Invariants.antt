use Rattle.std.proofs.Common.{◌≡◌, ◌++◌, drop}
use Rattle.std.specs.Prelude.{codes}
use Rattle.spec_reports.specs.Answer.{spaced}
use Rattle.gl_app.proofs.texts.cycle_text.Given as goal

-- what is written and the names that are left are the whole
abbrev pub invariant-loop-name : goal.invariant-loop-name
invariant-loop-name l = l.text ++ spaced (drop l.name-index l.names) ≡ codes "plan: cycle" ++ spaced l.names
