-- What each status stands for.
use Rattle.std.specs.Prelude.{ℕ}
use Rattle.gl_app.specs.declared.status.Status.{Status}
use Rattle.gl_app.specs.declared.status.Status.TheVariants.{Done, Usage, Plan, Read, Write, Memory, Order, TooLarge, TooLong}
use Rattle.spec_reports.specs.Answer.{Outcome, usage, too_large, faulty, circular, written, too_long, misfit, reported}

-- the status of the process
abbrev pub code_of : Status → ℕ
code_of Done = 0
code_of Usage = 2
code_of Plan = 3
code_of Read = 4
code_of Write = 5
code_of Memory = 6
code_of Order = 7
code_of TooLarge = 8
code_of TooLong = 9

-- the status of what a call came to
abbrev pub status_of : Outcome → Status
status_of usage = Usage
status_of too_large = TooLarge
status_of (faulty fault) = Plan
status_of (circular names) = Plan
status_of (written text) = Done
status_of (too_long name len) = TooLong
status_of (misfit bad) = Order
status_of (reported text) = Done
