-- The one spelling of lines.
use Rattle.std.specs.Prelude.{ℕ, if◌then◌else◌, List, [], ◌∷◌, ◌++◌, codes, decimal}
use Rattle.spec_syntax.specs.ValueText.{spelled_value, spelled_list}
use Rattle.spec_syntax.specs.Spelled.{spelled_path, spelled_order, spelled_bounds, spelled_func, spelled_matcher}
use Rattle.gl_lines.specs.declared.named.Named.{Named}
use Rattle.gl_lines.specs.declared.line.Line.{Line}
use Rattle.gl_lines.specs.declared.line.Line.TheVariants as line

-- names with a space before each
abbrev pub spelled_names : List Named → List ℕ
spelled_names [] = []
spelled_names (n ∷ ns) = codes " " ++ n.name ++ spelled_names ns

-- the lists after `may`, where there are some
abbrev pub spelled_may : List Named → List ℕ
spelled_may [] = []
spelled_may (n ∷ ns) = codes " may" ++ spelled_names (n ∷ ns)

-- the names after the first one, with a comma before each
abbrev pub spelled_others : List Named → List ℕ
spelled_others [] = []
spelled_others (n ∷ ns) = codes "," ++ n.name ++ spelled_others ns

abbrev pub spelled_after : List Named → List ℕ
spelled_after [] = []
spelled_after (n ∷ ns) = codes " after " ++ n.name ++ spelled_others ns

-- a word and the names after it
abbrev pub spelled_with : List ℕ → List Named → List ℕ
spelled_with w names = w ++ spelled_names names

abbrev pub spelled_line : Line → List ℕ
spelled_line (line.Limit limit) = codes "limit " ++ decimal limit
spelled_line (line.Source name) = spelled_with (codes "source") (name ∷ [])
spelled_line (line.Row list value) =
    spelled_with (codes "row") (list ∷ []) ++ codes " " ++ spelled_value value
spelled_line (line.Csv list) = spelled_with (codes "csv") (list ∷ [])
spelled_line line.EndCsv = codes "end csv"
spelled_line (line.Filter name input matcher) =
    spelled_with (codes "filter") (name ∷ input ∷ []) ++ codes " " ++ spelled_matcher matcher
spelled_line (line.Sorted name input order) =
    spelled_with (codes "sorted") (name ∷ input ∷ []) ++ codes " " ++ spelled_order order
spelled_line (line.Unique name input order) =
    spelled_with (codes "unique") (name ∷ input ∷ []) ++ codes " " ++ spelled_order order
spelled_line (line.Grouping name input order) =
    spelled_with (codes "grouping") (name ∷ input ∷ []) ++ codes " " ++ spelled_order order
spelled_line (line.Range name input bounds) =
    spelled_with (codes "range") (name ∷ input ∷ []) ++ codes " " ++ spelled_bounds bounds
spelled_line (line.Function name input func) =
    spelled_with (codes "function") (name ∷ input ∷ []) ++ codes " " ++ spelled_func func
spelled_line (line.Collection name input kids) =
    spelled_with (codes "collection") (name ∷ input ∷ []) ++ codes " " ++ spelled_path kids
spelled_line (line.Composite name members may) =
    spelled_with (codes "composite") (name ∷ members) ++ spelled_may may
spelled_line (line.Transaction name input) = spelled_with (codes "transaction") (name ∷ input ∷ [])
spelled_line (line.Freezable name input) = spelled_with (codes "freezable") (name ∷ input ∷ [])
spelled_line (line.Proxy name input) = spelled_with (codes "proxy") (name ∷ input ∷ [])
spelled_line (line.Listen name list after echo) =
    spelled_with (codes "listen") (name ∷ []) ++ codes " on" ++ spelled_names (list ∷ [])
    ++ spelled_after after ++ (if echo then codes " echo" else [])
spelled_line line.Writer = codes "writer"
spelled_line line.Section = codes "section"
spelled_line (line.Add list value) =
    spelled_with (codes "add") (list ∷ []) ++ codes " " ++ spelled_value value
spelled_line (line.AddAll list values) =
    spelled_with (codes "addall") (list ∷ []) ++ codes " " ++ spelled_list values
spelled_line (line.Insert list index value) =
    spelled_with (codes "insert") (list ∷ []) ++ codes " " ++ decimal index ++ codes " "
    ++ spelled_value value
spelled_line (line.Set list index value) =
    spelled_with (codes "set") (list ∷ []) ++ codes " " ++ decimal index ++ codes " "
    ++ spelled_value value
spelled_line (line.Remove list index) =
    spelled_with (codes "remove") (list ∷ []) ++ codes " " ++ decimal index
spelled_line (line.Clear list) = spelled_with (codes "clear") (list ∷ [])
spelled_line (line.Match list matcher) =
    spelled_with (codes "match") (list ∷ []) ++ codes " " ++ spelled_matcher matcher
spelled_line (line.Order list order) =
    spelled_with (codes "order") (list ∷ []) ++ codes " " ++ spelled_order order
spelled_line (line.Bounds list bounds) =
    spelled_with (codes "bounds") (list ∷ []) ++ codes " " ++ spelled_bounds bounds
spelled_line (line.Apply list func) =
    spelled_with (codes "apply") (list ∷ []) ++ codes " " ++ spelled_func func
spelled_line (line.Attach list member) = spelled_with (codes "attach") (list ∷ member ∷ [])
spelled_line (line.Detach list index) =
    spelled_with (codes "detach") (list ∷ []) ++ codes " " ++ decimal index
spelled_line (line.Begin list) = spelled_with (codes "begin") (list ∷ [])
spelled_line (line.Commit list) = spelled_with (codes "commit") (list ∷ [])
spelled_line (line.Rollback list) = spelled_with (codes "rollback") (list ∷ [])
spelled_line (line.Freeze list) = spelled_with (codes "freeze") (list ∷ [])
spelled_line (line.Thaw list) = spelled_with (codes "thaw") (list ∷ [])
spelled_line (line.Show list) = spelled_with (codes "show") (list ∷ [])
