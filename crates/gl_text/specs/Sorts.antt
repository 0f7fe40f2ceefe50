-- Sorts of lists and commands that are written alike.
use Rattle.std.specs.Prelude.{Bool, true, false}
use Rattle.gl_lines.specs.declared.plan.ListKind.{ListKind}
use Rattle.gl_lines.specs.declared.plan.ListKind.TheVariants as kinds
use Rattle.gl_lines.specs.declared.plan.Command.{Command}
use Rattle.gl_lines.specs.declared.plan.Command.TheVariants as commands

-- a kind of list that names no more than its input and numbers
abbrev pub is_plain_kind : ListKind → Bool
is_plain_kind (kinds.Range input bounds) = true
is_plain_kind (kinds.Transaction input) = true
is_plain_kind (kinds.Freezable input) = true
is_plain_kind (kinds.Proxy input) = true
is_plain_kind other = false

-- a command that gives a list another matcher, order, function or bounds
abbrev pub is_change : Command → Bool
is_change (commands.Match list matcher) = true
is_change (commands.Order list order) = true
is_change (commands.Bounds list bounds) = true
is_change (commands.Apply list func) = true
is_change other = false

-- another command that holds numbers alone
abbrev pub is_plain_command : Command → Bool
is_plain_command (commands.Attach list member) = true
is_plain_command (commands.Detach list index) = true
is_plain_command (commands.Begin list) = true
is_plain_command (commands.Commit list) = true
is_plain_command (commands.Rollback list) = true
is_plain_command (commands.Freeze list) = true
is_plain_command (commands.Thaw list) = true
is_plain_command (commands.Show list) = true
is_plain_command other = false
