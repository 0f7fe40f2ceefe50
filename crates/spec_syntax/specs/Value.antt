-- The grammar of values.
use Rattle.std.specs.Prelude.{ℕ, zero, suc, List, [], codes}
use Rattle.spec_value.specs.Tree.{Tree, num, text, items_of}
use Rattle.spec_syntax.specs.Grammar.{Grammar, mapped, either, optional, after, closed, listed}
use Rattle.spec_syntax.specs.Number.{number}
use Rattle.spec_syntax.specs.Text.{texts}

-- things between brackets, with commas between them
abbrev pub bracketed : {A : Type 0} → Grammar A → Grammar (List A)
bracketed V = after (codes "[") (closed (optional [] (listed V (codes ","))) (codes "]"))

-- list = "[" [value {"," value}] "]"
abbrev pub list_of : Grammar Tree → Grammar Tree
list_of V = mapped items_of (bracketed V)

-- a number or a text
abbrev pub leaf : Grammar Tree
leaf = either (mapped text texts) (mapped num number)

-- value = number | text | list, nested at most so deep
unfoldable pub value : ℕ → Grammar Tree
value zero t bs = leaf t bs
value (suc depth) t bs = either (list_of (value depth)) leaf t bs

-- a value, however deep
abbrev pub any_value : Grammar Tree
any_value t bs = (depth : ℕ) × value depth t bs
