use Rattle.std.proofs.Common.{◌≡◌, ◌++◌, take}
use Rattle.std.specs.List.{flat_map}
use Rattle.gl_text.specs.Texts.{names_of_decls, command_text}
use Rattle.gl_text.proofs.command.add_commands.Given as goal

abbrev pub invariant-commands : goal.invariant-commands
invariant-commands l = l.out ≡ l.initial.out ++ flat_map (command_text (names_of_decls l.lists))
    (take l.command-index l.commands)
