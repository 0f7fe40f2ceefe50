-- The columns in which the names of a line stand in its one spelling.
use Rattle.std.proofs.Common.{◌≡◌, ℕ, ◌+◌, List, [], ◌∷◌, length, refl, ap, ◌∙◌}
use Rattle.gl_lines.specs.declared.named.Named.{Named}
use Rattle.gl_lines.specs.declared.line.Line.{Line}
use Rattle.gl_lines.specs.declared.line.Line.TheVariants as line
use Rattle.spec_lines.specs.Line.{at, in_row, past, composite_line, listen_line}
use Rattle.spec_lines.specs.Same.{moved, all_moved, AreSame}

abbrev pub names_of : List Named → List (List ℕ)
names_of [] = []
names_of (n ∷ ns) = n.name ∷ names_of ns

-- the line with each name in the column where it stands in the one spelling
abbrev pub placed : Line → Line
placed (line.Limit limit) = line.Limit limit
placed (line.Source name) = line.Source (at 8 name.name)
placed (line.Row list value) = line.Row (at 5 list.name) value
placed (line.Csv list) = line.Csv (at 5 list.name)
placed line.EndCsv = line.EndCsv
placed (line.Filter name input matcher) = line.Filter (at 8 name.name) (at (8 + length name.name + 1) input.name) matcher
placed (line.Sorted name input order) = line.Sorted (at 8 name.name) (at (8 + length name.name + 1) input.name) order
placed (line.Unique name input order) = line.Unique (at 8 name.name) (at (8 + length name.name + 1) input.name) order
placed (line.Grouping name input order) = line.Grouping (at 10 name.name) (at (10 + length name.name + 1) input.name) order
placed (line.Range name input bounds) = line.Range (at 7 name.name) (at (7 + length name.name + 1) input.name) bounds
placed (line.Function name input func) = line.Function (at 10 name.name) (at (10 + length name.name + 1) input.name) func
placed (line.Collection name input path) = line.Collection (at 12 name.name) (at (12 + length name.name + 1) input.name) path
placed (line.Composite name members may) = composite_line 11 (name.name, (names_of members, names_of may))
placed (line.Transaction name input) = line.Transaction (at 13 name.name) (at (13 + length name.name + 1) input.name)
placed (line.Freezable name input) = line.Freezable (at 11 name.name) (at (11 + length name.name + 1) input.name)
placed (line.Proxy name input) = line.Proxy (at 7 name.name) (at (7 + length name.name + 1) input.name)
placed (line.Listen name list after echo) = listen_line 8 (name.name, (list.name, (names_of after, echo)))
placed line.Writer = line.Writer
placed line.Section = line.Section
placed (line.Add list value) = line.Add (at 5 list.name) value
placed (line.AddAll list values) = line.AddAll (at 8 list.name) values
placed (line.Insert list index value) = line.Insert (at 8 list.name) index value
placed (line.Set list index value) = line.Set (at 5 list.name) index value
placed (line.Remove list index) = line.Remove (at 8 list.name) index
placed (line.Clear list) = line.Clear (at 7 list.name)
placed (line.Match list matcher) = line.Match (at 7 list.name) matcher
placed (line.Order list order) = line.Order (at 7 list.name) order
placed (line.Bounds list bounds) = line.Bounds (at 8 list.name) bounds
placed (line.Apply list func) = line.Apply (at 7 list.name) func
placed (line.Attach list member) = line.Attach (at 8 list.name) (at (8 + length list.name + 1) member.name)
placed (line.Detach list index) = line.Detach (at 8 list.name) index
placed (line.Begin list) = line.Begin (at 7 list.name)
placed (line.Commit list) = line.Commit (at 8 list.name)
placed (line.Rollback list) = line.Rollback (at 10 list.name)
placed (line.Freeze list) = line.Freeze (at 8 list.name)
placed (line.Thaw list) = line.Thaw (at 6 list.name)
placed (line.Show list) = line.Show (at 6 list.name)

row_moved : (column : ℕ) (ns : List Named) → all_moved (in_row column (names_of ns)) ≡ all_moved ns
row_moved column [] = refl
row_moved column (n ∷ ns) = ap (λ x. moved n ∷ x) (row_moved (column + length n.name + 1) ns)

-- nothing but columns changes
pub placed_same : (l : Line) → AreSame (placed l) l
placed_same (line.Limit limit) = refl
placed_same (line.Source name) = refl
placed_same (line.Row list value) = refl
placed_same (line.Csv list) = refl
placed_same line.EndCsv = refl
placed_same (line.Filter name input matcher) = refl
placed_same (line.Sorted name input order) = refl
placed_same (line.Unique name input order) = refl
placed_same (line.Grouping name input order) = refl
placed_same (line.Range name input bounds) = refl
placed_same (line.Function name input func) = refl
placed_same (line.Collection name input path) = refl
placed_same (line.Composite n ms may) =
    let after_word = past (11 + length n.name) (names_of ms) + 5 in
    ap (λ x. line.Composite (moved n) x (all_moved (in_row after_word (names_of may)))) (row_moved (11 + length n.name + 1) ms) ∙ ap (λ x. line.Composite (moved n) (all_moved ms) x) (row_moved after_word may)
placed_same (line.Transaction name input) = refl
placed_same (line.Freezable name input) = refl
placed_same (line.Proxy name input) = refl
placed_same (line.Listen n m ns e) = ap (λ x. line.Listen (moved n) (moved m) x e) (row_moved (8 + length n.name + 4 + length m.name + 7) ns)
placed_same line.Writer = refl
placed_same line.Section = refl
placed_same (line.Add list value) = refl
placed_same (line.AddAll list values) = refl
placed_same (line.Insert list index value) = refl
placed_same (line.Set list index value) = refl
placed_same (line.Remove list index) = refl
placed_same (line.Clear list) = refl
placed_same (line.Match list matcher) = refl
placed_same (line.Order list order) = refl
placed_same (line.Bounds list bounds) = refl
placed_same (line.Apply list func) = refl
placed_same (line.Attach list member) = refl
placed_same (line.Detach list index) = refl
placed_same (line.Begin list) = refl
placed_same (line.Commit list) = refl
placed_same (line.Rollback list) = refl
placed_same (line.Freeze list) = refl
placed_same (line.Thaw list) = refl
placed_same (line.Show list) = refl
