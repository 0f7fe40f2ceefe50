use Rattle.std.proofs.Common.{◌≡◌, ◌++◌, take}
use Rattle.std.specs.List.{flat_map}
use Rattle.gl_text.specs.Texts.{names_of_decls, list_text}
use Rattle.gl_text.proofs.list.add_lists.Given as goal

abbrev pub invariant-lists : goal.invariant-lists
invariant-lists l = l.out ≡ l.initial.out ++ flat_map (list_text (names_of_decls l.lists)) (take l.decl-index l.lists)
