-- The grammar of functions.
use Rattle.std.specs.Prelude.{ℕ, zero, suc, List, codes}
use Rattle.spec_syntax.specs.Grammar.{Grammar, mapped, either, after, closed, apart}
use Rattle.spec_lang.specs.Func.{Func, at_path, number, bytes, count, total, sum, list, funcs}
use Rattle.spec_syntax.specs.Number as numbers
use Rattle.spec_syntax.specs.Text.{texts}
use Rattle.spec_syntax.specs.Value.{bracketed}
use Rattle.spec_syntax.specs.Path.{path}

-- "count(" path ")"
abbrev pub counting : Grammar Func
counting = mapped count (after (codes "count(") (closed path (codes ")")))

-- "sum(" path "," path ")"
abbrev pub totalling : Grammar Func
totalling =
    mapped (λ ab. total ab.0 ab.1)
    (after (codes "sum(") (closed (apart path (codes ",") path) (codes ")")))

-- a function with no function in it
abbrev pub flat_func : Grammar Func
flat_func =
    either (mapped at_path path)
    (either (mapped bytes texts)
    (either counting (either totalling (mapped number numbers.number))))

-- "add(" func "," func ")"
abbrev pub adding : Grammar Func → Grammar Func
adding V =
    mapped (λ ab. sum ab.0 ab.1) (after (codes "add(") (closed (apart V (codes ",") V) (codes ")")))

abbrev pub list_func : List Func → Func
list_func fs = list (funcs fs)

-- "[" [func {"," func}] "]"
abbrev pub listing : Grammar Func → Grammar Func
listing V = mapped list_func (bracketed V)

-- func = path | number | text | count | sum | add | list, the last two nested at most so deep
unfoldable pub func : ℕ → Grammar Func
func zero f bs = flat_func f bs
func (suc depth) f bs = either (adding (func depth)) (either (listing (func depth)) flat_func) f bs
