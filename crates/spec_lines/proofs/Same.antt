-- Lines that are the same but for columns have the same spelling, which reads back as the line that is spelled at all.
use Rattle.std.proofs.Common.{◌≡◌, List, [], ◌∷◌, ◌++◌, refl, sym, ap, ◌∙◌, subst, codes}
use Rattle.std.specs.Prelude.{if◌then◌else◌}
use Rattle.gl_lines.specs.declared.named.Named.{Named}
use Rattle.gl_lines.specs.declared.line.Line.{Line}
use Rattle.gl_lines.specs.declared.line.Line.TheVariants as line
use Rattle.spec_lines.specs.Line.{line_of_text}
use Rattle.spec_lines.specs.Spelled.{spelled_names, spelled_may, spelled_others, spelled_after, spelled_line}
use Rattle.spec_lines.specs.Same.{all_moved, unplaced, AreSame, ReadsBack, IsLine}
use Rattle.spec_lines.proofs.Lines.{one_line}
use Rattle.spec_lines.proofs.Placed.{line_again}

names_moved : (ns : List Named) → spelled_names (all_moved ns) ≡ spelled_names ns
names_moved [] = refl
names_moved (n ∷ ns) = ap (λ x. 32 ∷ (n.name ++ x)) (names_moved ns)

may_moved : (ns : List Named) → spelled_may (all_moved ns) ≡ spelled_may ns
may_moved [] = refl
may_moved (n ∷ ns) = ap (λ x. codes " may" ++ x) (names_moved (n ∷ ns))

others_moved : (ns : List Named) → spelled_others (all_moved ns) ≡ spelled_others ns
others_moved [] = refl
others_moved (n ∷ ns) = ap (λ x. 44 ∷ (n.name ++ x)) (others_moved ns)

after_moved : (ns : List Named) → spelled_after (all_moved ns) ≡ spelled_after ns
after_moved [] = refl
after_moved (n ∷ ns) = ap (λ x. codes " after " ++ (n.name ++ x)) (others_moved ns)

-- columns play no part in the spelling
spelled_unplaced : (l : Line) → spelled_line (unplaced l) ≡ spelled_line l
spelled_unplaced (line.Limit limit) = refl
spelled_unplaced (line.Source name) = refl
spelled_unplaced (line.Row list value) = refl
spelled_unplaced (line.Csv list) = refl
spelled_unplaced line.EndCsv = refl
spelled_unplaced (line.Filter name input matcher) = refl
spelled_unplaced (line.Sorted name input order) = refl
spelled_unplaced (line.Unique name input order) = refl
spelled_unplaced (line.Grouping name input order) = refl
spelled_unplaced (line.Range name input bounds) = refl
spelled_unplaced (line.Function name input func) = refl
spelled_unplaced (line.Collection name input kids) = refl
spelled_unplaced (line.Composite name members may) = ap (λ x. (codes "composite" ++ 32 ∷ (name.name ++ x)) ++ spelled_may (all_moved may)) (names_moved members) ∙ ap (λ x. (codes "composite" ++ 32 ∷ (name.name ++ spelled_names members)) ++ x) (may_moved may)
spelled_unplaced (line.Transaction name input) = refl
spelled_unplaced (line.Freezable name input) = refl
spelled_unplaced (line.Proxy name input) = refl
spelled_unplaced (line.Listen name list after echo) = ap (λ x. ((codes "listen " ++ ((name.name ++ []) ++ codes " on")) ++ 32 ∷ (list.name ++ [])) ++ x ++ (if echo then codes " echo" else [])) (after_moved after)
spelled_unplaced line.Writer = refl
spelled_unplaced line.Section = refl
spelled_unplaced (line.Add list value) = refl
spelled_unplaced (line.AddAll list values) = refl
spelled_unplaced (line.Insert list index value) = refl
spelled_unplaced (line.Set list index value) = refl
spelled_unplaced (line.Remove list index) = refl
spelled_unplaced (line.Clear list) = refl
spelled_unplaced (line.Match list matcher) = refl
spelled_unplaced (line.Order list order) = refl
spelled_unplaced (line.Bounds list bounds) = refl
spelled_unplaced (line.Apply list func) = refl
spelled_unplaced (line.Attach list member) = refl
spelled_unplaced (line.Detach list index) = refl
spelled_unplaced (line.Begin list) = refl
spelled_unplaced (line.Commit list) = refl
spelled_unplaced (line.Rollback list) = refl
spelled_unplaced (line.Freeze list) = refl
spelled_unplaced (line.Thaw list) = refl
spelled_unplaced (line.Show list) = refl

same_spelling : (l k : Line) → AreSame l k → spelled_line k ≡ spelled_line l
same_spelling l k same = sym (spelled_unplaced k) ∙ ap spelled_line (sym same) ∙ spelled_unplaced l

-- the one spelling of whatever was read is spelled, and is that of the same line
pub respelled : (l : Line) → IsLine l → (m : Line) × line_of_text m (spelled_line l) × (unplaced m ≡ unplaced l)
respelled l is = (l, line_again l is.0 is.1, refl)

pub line_back : (l : Line) → ReadsBack l
line_back l k is same =
    let spelled : line_of_text k (spelled_line l) = subst (line_of_text k) (same_spelling l k same) (line_again k is.0 is.1) in
    record { spelled = spelled; alone = λ m s. one_line (spelled_line l) m k s spelled }
