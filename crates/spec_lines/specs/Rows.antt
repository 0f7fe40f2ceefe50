-- Worked rows of the reader of lines, each by computing.
use Rattle.std.specs.Prelude.{◌≡◌, ℕ, pos, true, List, [], ◌∷◌, refl, codes}
use Rattle.std.specs.Fmt.{digits}
use Rattle.spec_value.specs.Tree.{num}
use Rattle.spec_syntax.specs.Reader.{Verdict, read, fault, whole}
use Rattle.spec_syntax.specs.LanguageReader.{read_unit, read_func}
use Rattle.spec_syntax.specs.ValueReader.{read_nested}
use Rattle.spec_lines.specs.Line.{at}
use Rattle.spec_lines.specs.Reader.{read_line}
use Rattle.spec_lines.specs.Spelled.{spelled_line}
use Rattle.gl_lines.specs.declared.line.Line.{Line}
use Rattle.gl_lines.specs.declared.line.Line.TheVariants.{Composite, Listen, Insert, Writer}

a_listener : whole (read_line (codes "listen a on f after b,c echo"))
    ≡ read (Listen (at 8 (codes "a")) (at 13 (codes "f"))
    (at 21 (codes "b") ∷ at 23 (codes "c") ∷ []) true)
a_listener = refl

-- ` may ` ends the members, and a name may begin with it
a_composite : whole (read_line (codes "composite c s maya may t u"))
    ≡ read (Composite (at 11 (codes "c")) (at 13 (codes "s") ∷ at 15 (codes "maya") ∷ [])
    (at 24 (codes "t") ∷ at 26 (codes "u") ∷ []))
a_composite = refl

an_edit : whole (read_line (codes "insert s 0 7"))
    ≡ read (Insert (at 8 (codes "s")) 0 (num (pos 7)))
unfolding read_nested
an_edit = refl

a_writer : whole (read_line (codes "writer")) ≡ read Writer
a_writer = refl

-- a third word is a fault in the column of its space, a limit of 0 in that of the 0
third_word : whole (read_line (codes "source s t")) ≡ fault 2
third_word = refl

no_limit : whole (read_line (codes "limit 0")) ≡ fault 1
no_limit = refl

-- a row that is cut is a fault after its end
cut_row : whole (read_line (codes "row s [1,\"a")) ≡ fault 0
unfolding read_nested
cut_row = refl

-- `may` is no name, but might go on to be one
may_alone : whole (read_line (codes "source may")) ≡ fault 0
may_alone = refl

second_may : whole (read_line (codes "composite c may s may t")) ≡ fault 2
second_may = refl

-- what a text spells, spelled again
abbrev spelled_again : Verdict Line → List ℕ
spelled_again (read l) = spelled_line l
spelled_again (fault left) = []

-- parentheses that aren't needed are not kept
needless : spelled_again (whole (read_line (codes "filter f s (. = 1 or not (.0 < 2)) and all")))
    ≡ codes "filter f s (. = 1 or not .0 < 2) and all"
unfolding read_nested read_unit digits
needless = refl

-- a line of many parts is spelled as it was read
same_again : spelled_again (whole (read_line (codes "listen a on f after b,c echo")))
    ≡ codes "listen a on f after b,c echo"
same_again = refl

composite_again : spelled_again (whole (read_line (codes "composite c s maya may t u")))
    ≡ codes "composite c s maya may t u"
composite_again = refl

order_again : spelled_again (whole (read_line (codes "sorted o f .0.1, desc .")))
    ≡ codes "sorted o f .0.1, desc ."
unfolding digits
order_again = refl

func_again : spelled_again (whole (read_line (codes "apply n [add(-1,sum(.,.1)),\"a\\n\"]")))
    ≡ codes "apply n [add(-1,sum(.,.1)),\"a\\n\"]"
unfolding read_func digits
func_again = refl
