use Rattle.std.proofs.Common.{◌≡◌, ◌++◌, take}
use Rattle.std.specs.List.{flat_map}
use Rattle.gl_text.specs.Texts.{names_of_decls, listener_names, listener_text}
use Rattle.gl_text.proofs.listener.add_listeners.Given as goal

abbrev pub invariant-listeners : goal.invariant-listeners
invariant-listeners l =
    l.out ≡ l.initial.out ++ flat_map (listener_text (names_of_decls l.lists) (listener_names l.listeners))
    (take l.decl-index l.listeners)
