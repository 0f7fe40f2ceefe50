-- The grammar of paths and of orders by keys.
use Rattle.std.specs.Prelude.{ℕ, true, false, List, [], codes}
use Rattle.spec_syntax.specs.Grammar.{Grammar, mapped, either, optional, after, more_of, upto}
use Rattle.spec_lang.specs.Sorting.{Key}
use Rattle.spec_syntax.specs.Number.{natural}

abbrev pub path_index : Grammar ℕ
path_index = natural 65535

-- path = "." | "." index {"." index}, with at most 16 steps
abbrev pub path : Grammar (List ℕ)
path = after (codes ".") (optional [] (more_of path_index (upto 15 (after (codes ".") path_index))))

abbrev pub upward : List ℕ → Key
upward p = record { path = p; down = false }

abbrev pub downward : List ℕ → Key
downward p = record { path = p; down = true }

-- key = ["desc "] path
abbrev pub key : Grammar Key
key = either (mapped downward (after (codes "desc ") path)) (mapped upward path)

-- order = key {", " key}, of 1 to 8 keys
abbrev pub order : Grammar (List Key)
order = more_of key (upto 7 (after (codes ", ") key))
