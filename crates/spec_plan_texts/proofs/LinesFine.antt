-- The one spelling of a line within the limits of the language may stand in a line of a text.
use Rattle.std.proofs.Common.{◌≤◌, ◌<◌, ◌^◌, ℕ, Bool, true, false, cond, List, [], ◌∷◌, ◌++◌, refl, arith, codes}
use Rattle.std.specs.Prelude.{decimal}
use Rattle.std.specs.List.{AllByRecursion}
use Rattle.spec_plans.specs.Tree.{items_of}
use Rattle.spec_syntax.specs.ValueText.{spelled_value, spelled_list}
use Rattle.spec_syntax.specs.Spelled.{spelled_path, spelled_order, spelled_bounds, spelled_func, spelled_matcher}
use Rattle.gl_lines.specs.declared.named.Named.{Named}
use Rattle.gl_lines.specs.declared.line.Line.{Line}
use Rattle.gl_lines.specs.declared.line.Line.TheVariants as line
use Rattle.spec_lines.specs.Spelled.{spelled_names, spelled_may, spelled_others, spelled_after, spelled_with}
use Rattle.spec_lines.specs.Within.{IsNamed, IsWithin}
use Rattle.spec_plan_texts.proofs.Fine.{IsFine, fine_nil, fine_append}
use Rattle.spec_plan_texts.proofs.Cut.{IsFineLine}
use Rattle.spec_plan_texts.proofs.Leaves.{word_fine, name_fine, decimal_fine}
use Rattle.spec_plan_texts.proofs.Spellings.{value_fine, path_fine, order_fine, short_fine, bounds_fine, func_fine, matcher_fine}

names_fine : (ns : List Named) → AllByRecursion IsNamed ns → IsFine (spelled_names ns)
names_fine [] h = fine_nil
names_fine (n ∷ ns) h = fine_append (32 ∷ n.name) (spelled_names ns)
    (fine_append (32 ∷ []) n.name (word_fine (32 ∷ []) refl) (name_fine n.name h.0)) (names_fine ns h.1)

may_fine : (ns : List Named) → AllByRecursion IsNamed ns → IsFine (spelled_may ns)
may_fine [] h = fine_nil
may_fine (n ∷ ns) h = fine_append (codes " may") (spelled_names (n ∷ ns)) (word_fine (codes " may") refl)
    (names_fine (n ∷ ns) h)

others_fine : (ns : List Named) → AllByRecursion IsNamed ns → IsFine (spelled_others ns)
others_fine [] h = fine_nil
others_fine (n ∷ ns) h = fine_append (44 ∷ n.name) (spelled_others ns)
    (fine_append (44 ∷ []) n.name (word_fine (44 ∷ []) refl) (name_fine n.name h.0)) (others_fine ns h.1)

after_fine : (ns : List Named) → AllByRecursion IsNamed ns → IsFine (spelled_after ns)
after_fine [] h = fine_nil
after_fine (n ∷ ns) h = fine_append (codes " after " ++ n.name) (spelled_others ns)
    (fine_append (codes " after ") n.name (word_fine (codes " after ") refl) (name_fine n.name h.0))
    (others_fine ns h.1)

echo_fine : (e : Bool) → IsFine (cond e (codes " echo") [])
echo_fine true = word_fine (codes " echo") refl
echo_fine false = fine_nil

with_fine : (w : List ℕ) (ns : List Named) → IsFine w → AllByRecursion IsNamed ns → IsFine (spelled_with w ns)
with_fine w ns k h = fine_append w (spelled_names ns) k (names_fine ns h)

-- a space and more after
spaced : (u t : List ℕ) → IsFine u → IsFine t → IsFine (u ++ codes " " ++ t)
spaced u t h k = fine_append (u ++ codes " ") t (fine_append u (codes " ") h (word_fine (codes " ") refl)) k

one : (w : List ℕ) (n : Named) → IsFine w → IsNamed n → IsFine (spelled_with w (n ∷ []))
one w n k h = with_fine w (n ∷ []) k (h, tt)

two : (w : List ℕ) (n m : Named) → IsFine w → IsNamed n → IsNamed m → IsFine (spelled_with w (n ∷ m ∷ []))
two w n m k h g = with_fine w (n ∷ m ∷ []) k (h, (g, tt))

limit_low : (n : ℕ) → n ≤ 16777216 → n < 2 ^ 64
limit_low n l = omega (arith, l)

pub line_fine : (l : Line) → IsWithin l → IsFineLine l
line_fine (line.Limit limit) h = fine_append (codes "limit ") (decimal limit) (word_fine (codes "limit ") refl)
    (decimal_fine limit (limit_low limit h.1))
line_fine (line.Source n) h = one (codes "source") n (word_fine (codes "source") refl) h
line_fine (line.Row n x) h = spaced (spelled_with (codes "row") (n ∷ [])) (spelled_value x)
    (one (codes "row") n (word_fine (codes "row") refl) h.0) (value_fine x h.1.0)
line_fine (line.Csv n) h = one (codes "csv") n (word_fine (codes "csv") refl) h
line_fine line.EndCsv h = word_fine (codes "end csv") refl
line_fine (line.Filter n m x) h = spaced (spelled_with (codes "filter") (n ∷ m ∷ [])) (spelled_matcher x)
    (two (codes "filter") n m (word_fine (codes "filter") refl) h.0 h.1) (matcher_fine x h.2.0)
line_fine (line.Sorted n m x) h = spaced (spelled_with (codes "sorted") (n ∷ m ∷ [])) (spelled_order x)
    (two (codes "sorted") n m (word_fine (codes "sorted") refl) h.0 h.1) (order_fine x h.2)
line_fine (line.Unique n m x) h = spaced (spelled_with (codes "unique") (n ∷ m ∷ [])) (spelled_order x)
    (two (codes "unique") n m (word_fine (codes "unique") refl) h.0 h.1) (order_fine x h.2)
line_fine (line.Grouping n m x) h = spaced (spelled_with (codes "grouping") (n ∷ m ∷ [])) (spelled_order x)
    (two (codes "grouping") n m (word_fine (codes "grouping") refl) h.0 h.1) (order_fine x h.2)
line_fine (line.Range n m x) h = spaced (spelled_with (codes "range") (n ∷ m ∷ [])) (spelled_bounds x)
    (two (codes "range") n m (word_fine (codes "range") refl) h.0 h.1) (bounds_fine x h.2)
line_fine (line.Function n m x) h = spaced (spelled_with (codes "function") (n ∷ m ∷ [])) (spelled_func x)
    (two (codes "function") n m (word_fine (codes "function") refl) h.0 h.1) (func_fine x 8 h.2)
line_fine (line.Collection n m x) h = spaced (spelled_with (codes "collection") (n ∷ m ∷ [])) (spelled_path x)
    (two (codes "collection") n m (word_fine (codes "collection") refl) h.0 h.1) (path_fine x h.2)
line_fine (line.Composite n ms may) h = fine_append (spelled_with (codes "composite") (n ∷ ms)) (spelled_may may)
    (with_fine (codes "composite") (n ∷ ms) (word_fine (codes "composite") refl) (h.0, h.1)) (may_fine may h.2)
line_fine (line.Transaction n m) h = two (codes "transaction") n m (word_fine (codes "transaction") refl) h.0 h.1
line_fine (line.Freezable n m) h = two (codes "freezable") n m (word_fine (codes "freezable") refl) h.0 h.1
line_fine (line.Proxy n m) h = two (codes "proxy") n m (word_fine (codes "proxy") refl) h.0 h.1
line_fine (line.Listen n m ns e) h =
    fine_append (((spelled_with (codes "listen") (n ∷ []) ++ codes " on") ++ spelled_names (m ∷ [])) ++ spelled_after
    ns) (cond e (codes " echo") [])
    (fine_append ((spelled_with (codes "listen") (n ∷ []) ++ codes " on") ++ spelled_names (m ∷ [])) (spelled_after ns)
    (fine_append (spelled_with (codes "listen") (n ∷ []) ++ codes " on") (spelled_names (m ∷ []))
    (fine_append (spelled_with (codes "listen") (n ∷ [])) (codes " on")
    (one (codes "listen") n (word_fine (codes "listen") refl) h.0) (word_fine (codes " on") refl))
    (names_fine (m ∷ []) (h.1, tt))) (after_fine ns h.2)) (echo_fine e)
line_fine line.Writer h = word_fine (codes "writer") refl
line_fine line.Section h = word_fine (codes "section") refl
line_fine (line.Add n x) h = spaced (spelled_with (codes "add") (n ∷ [])) (spelled_value x)
    (one (codes "add") n (word_fine (codes "add") refl) h.0) (value_fine x h.1.0)
line_fine (line.AddAll n x) h = spaced (spelled_with (codes "addall") (n ∷ [])) (spelled_list x)
    (one (codes "addall") n (word_fine (codes "addall") refl) h.0) (value_fine (items_of x) h.1.0)
line_fine (line.Insert n i x) h = spaced ((spelled_with (codes "insert") (n ∷ []) ++ codes " ") ++ decimal i)
    (spelled_value x)
    (spaced (spelled_with (codes "insert") (n ∷ [])) (decimal i)
    (one (codes "insert") n (word_fine (codes "insert") refl) h.0) (short_fine i h.1)) (value_fine x h.2.0)
line_fine (line.Set n i x) h = spaced ((spelled_with (codes "set") (n ∷ []) ++ codes " ") ++ decimal i)
    (spelled_value x)
    (spaced (spelled_with (codes "set") (n ∷ [])) (decimal i)
    (one (codes "set") n (word_fine (codes "set") refl) h.0) (short_fine i h.1)) (value_fine x h.2.0)
line_fine (line.Remove n x) h = spaced (spelled_with (codes "remove") (n ∷ [])) (decimal x)
    (one (codes "remove") n (word_fine (codes "remove") refl) h.0) (short_fine x h.1)
line_fine (line.Clear n) h = one (codes "clear") n (word_fine (codes "clear") refl) h
line_fine (line.Match n x) h = spaced (spelled_with (codes "match") (n ∷ [])) (spelled_matcher x)
    (one (codes "match") n (word_fine (codes "match") refl) h.0) (matcher_fine x h.1.0)
line_fine (line.Order n x) h = spaced (spelled_with (codes "order") (n ∷ [])) (spelled_order x)
    (one (codes "order") n (word_fine (codes "order") refl) h.0) (order_fine x h.1)
line_fine (line.Bounds n x) h = spaced (spelled_with (codes "bounds") (n ∷ [])) (spelled_bounds x)
    (one (codes "bounds") n (word_fine (codes "bounds") refl) h.0) (bounds_fine x h.1)
line_fine (line.Apply n x) h = spaced (spelled_with (codes "apply") (n ∷ [])) (spelled_func x)
    (one (codes "apply") n (word_fine (codes "apply") refl) h.0) (func_fine x 8 h.1)
line_fine (line.Attach n m) h = two (codes "attach") n m (word_fine (codes "attach") refl) h.0 h.1
line_fine (line.Detach n x) h = spaced (spelled_with (codes "detach") (n ∷ [])) (decimal x)
    (one (codes "detach") n (word_fine (codes "detach") refl) h.0) (short_fine x h.1)
line_fine (line.Begin n) h = one (codes "begin") n (word_fine (codes "begin") refl) h
line_fine (line.Commit n) h = one (codes "commit") n (word_fine (codes "commit") refl) h
line_fine (line.Rollback n) h = one (codes "rollback") n (word_fine (codes "rollback") refl) h
line_fine (line.Freeze n) h = one (codes "freeze") n (word_fine (codes "freeze") refl) h
line_fine (line.Thaw n) h = one (codes "thaw") n (word_fine (codes "thaw") refl) h
line_fine (line.Show n) h = one (codes "show") n (word_fine (codes "show") refl) h
