-- The text of an event.
use Rattle.std.specs.Prelude.{ℕ, List, [], ◌∷◌, ◌++◌, codes, decimal}
use Rattle.spec_states.specs.Delta.{Delta}
use Rattle.spec_states.specs.Changes.{Change, delete, insertion, update, changes}
use Rattle.spec_syntax.specs.ValueText.{spelled_value}

-- `delete AT OLD`, `insert AT NEW` or `update AT OLD NEW`
abbrev pub change_text : Change → List ℕ
change_text (delete at v) = codes "delete " ++ decimal at ++ codes " " ++ spelled_value v
change_text (insertion at w) = codes "insert " ++ decimal at ++ codes " " ++ spelled_value w
change_text (update at v w) =
    codes "update " ++ decimal at ++ codes " " ++ spelled_value v ++ codes " " ++ spelled_value w

-- the changes after the first one, a semicolon and a space before each
abbrev pub other_changes : List Change → List ℕ
other_changes [] = []
other_changes (c ∷ cs) = codes "; " ++ change_text c ++ other_changes cs

-- the text of an event: its changes, semicolons between them
abbrev pub changes_text : List Change → List ℕ
changes_text [] = []
changes_text (c ∷ cs) = change_text c ++ other_changes cs

abbrev pub event_text : Delta → List ℕ
event_text delta = changes_text (changes delta)
