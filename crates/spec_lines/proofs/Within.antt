-- The one spelling of a line within the limits spells it, with its names in their columns, and nothing else.
use Rattle.std.proofs.Common.{◌≡◌, ℕ, zero, suc, ◌+◌, ◌<◌, ◌≤◌, Bool, true, false, List, [], ◌∷◌, ◌++◌, length, refl, sym, ap, ◌∙◌, subst, inl, inr, arith, append_assoc, append-nil, codes}
use Rattle.std.specs.Prelude.{IsTrue, decimal, if◌then◌else◌}
use Rattle.std.specs.List.{AllByRecursion}
use Rattle.spec_value.specs.Name.{is_name}
use Rattle.spec_value.specs.Tree.{Tree}
use Rattle.spec_syntax.specs.Grammar.{Grammar, after, optional, many, words}
use Rattle.spec_syntax.specs.ValueText.{spelled_value, spelled_list}
use Rattle.spec_syntax.specs.Value.{value, bracketed}
use Rattle.spec_syntax.specs.Name.{name}
use Rattle.spec_syntax.specs.Path.{path, order}
use Rattle.spec_syntax.specs.Bounds as ranges
use Rattle.spec_syntax.specs.Func.{func}
use Rattle.spec_syntax.specs.Matcher.{matcher}
use Rattle.spec_syntax.specs.Spelled.{spelled_path, spelled_order, spelled_bounds, spelled_func, spelled_matcher}
use Rattle.spec_syntax.proofs.Spelled.{natural_decimal, positive_decimal, value_spelled, values_spelled}
use Rattle.spec_syntax.proofs.Within.{path_spelled, order_spelled, bounds_spelled, func_spelled}
use Rattle.spec_syntax.proofs.Parentheses.{matcher_spelled}
use Rattle.gl_lines.specs.declared.named.Named.{Named}
use Rattle.gl_lines.specs.declared.line.Line.{Line}
use Rattle.gl_lines.specs.declared.line.Line.TheVariants as line
use Rattle.spec_lines.specs.Line.{at, Form, bare, limited, one_name, two_names, name_value, name_values, name_matcher, name_order, name_bounds, name_func, name_index, name_index_value, names_matcher, names_order, names_bounds, names_func, names_path, with_name, with_names, index_value, members, may_part, composed, after_names, only_echo, echo, ending, endings, listened, formed, line_words, line_of_text}
use Rattle.spec_lines.specs.Spelled.{spelled_names, spelled_may, spelled_others, spelled_after, spelled_line}
use Rattle.spec_lines.specs.Same.{SpellsSame}
use Rattle.spec_lines.specs.Within.{IsNamed, IsLiteral, AreLiterals, IsShort, IsWithin}
use Rattle.spec_lines.proofs.Columns.{names_of, placed, placed_same}
use Rattle.spec_lines.proofs.Lines.{one_line}

value_in : (v : Tree) → IsLiteral v → value 64 v (spelled_value v)
value_in v h = value_spelled v h.0 64 h.1

values_in : (vs : List Tree) → AreLiterals vs → bracketed (value 63) vs (spelled_list vs)
values_in vs h = values_spelled vs h.0 63 h.1

short_in : (n : ℕ) → IsShort n → ranges.short_number n (decimal n)
short_in n h = natural_decimal 4294967295 n h (omega arith)

-- a row of the table at its place
abbrev Stands : List (List ℕ × (ℕ × Form)) → ℕ → List ℕ × (ℕ × Form) → Type 0
Stands [] i row = ⊥
Stands (first ∷ rows) zero row = first ≡ row
Stands (first ∷ rows) (suc i) row = Stands rows i row

in_table : (rows : List (List ℕ × (ℕ × Form))) (i : ℕ) (row : List ℕ × (ℕ × Form)) → Stands rows i row → (l : Line) (t : List ℕ) → after row.0 (formed row.1) l t → words formed rows l t
in_table [] i row h l t s = absurd h
in_table (first ∷ rows) zero row h l t s = inl (subst (λ r. after r.0 (formed r.1) l t) (sym h) s)
in_table (first ∷ rows) (suc i) row h l t s = inr (in_table rows i row h l t s)

after_in : {A : Type 0} (w : List ℕ) (S : Grammar A) (a : A) (u : List ℕ) → S a u → after w S a (w ++ u)
after_in w S a u s = ((tt, a), (w, u, refl, s, refl), refl)

limit_in : (limit : ℕ) → 0 < limit → limit ≤ 16777216 → after (codes "limit ") (formed (7, limited)) (line.Limit limit) (spelled_line (line.Limit limit))
limit_in limit l m = after_in (codes "limit ") (formed (7, limited)) (line.Limit limit) (decimal limit) (limit, positive_decimal limit 16777216 limit (omega arith) l m (omega arith), refl)

bare_in : (w : List ℕ) (column : ℕ) (l : Line) → after w (formed (column, bare l)) l (w ++ [])
bare_in w column l = after_in w (formed (column, bare l)) l [] (tt, refl, refl)

one_in : (w : List ℕ) (column : ℕ) (k : Named → Line) (n : List ℕ) → IsTrue (is_name n) → after w (formed (column, one_name k)) (k (at column n)) (w ++ (n ++ []))
one_in w column k n h = after_in w (formed (column, one_name k)) (k (at column n)) (n ++ []) (n, (h, append-nil n), refl)

two_in : (w : List ℕ) (column : ℕ) (k : Named → Named → Line) (n m : List ℕ) → IsTrue (is_name n) → IsTrue (is_name m) → after w (formed (column, two_names k)) (k (at column n) (at (column + length n + 1) m)) (w ++ (n ++ 32 ∷ (m ++ [])))
two_in w column k n m h g =
    after_in w (formed (column, two_names k)) (k (at column n) (at (column + length n + 1) m)) (n ++ 32 ∷ (m ++ []))
    ((n, m), (n, 32 ∷ (m ++ []), (h, refl), after_in (codes " ") name m (m ++ []) (g, append-nil m), refl), refl)

with_in : {A : Type 0} (w : List ℕ) (column : ℕ) (k : Named → A → Line) (S : Grammar A) (spell : A → List ℕ) (n : List ℕ) (a : A) → IsTrue (is_name n) → S a (spell a) → after w (with_name column k S) (k (at column n) a) (w ++ (((n ++ []) ++ codes " ") ++ spell a))
with_in w column k S spell n a h s =
    after_in w (with_name column k S) (k (at column n) a) (((n ++ []) ++ codes " ") ++ spell a)
    ((n, a), (n ++ [], 32 ∷ spell a, (h, append-nil n), after_in (codes " ") S a (spell a) s, append_assoc (n ++ []) (codes " ") (spell a)), refl)

both_in : {A : Type 0} (w : List ℕ) (column : ℕ) (k : Named → Named → A → Line) (S : Grammar A) (spell : A → List ℕ) (n m : List ℕ) (a : A) → IsTrue (is_name n) → IsTrue (is_name m) → S a (spell a) → after w (with_names column k S) (k (at column n) (at (column + length n + 1) m) a) (w ++ (((n ++ 32 ∷ (m ++ [])) ++ codes " ") ++ spell a))
both_in w column k S spell n m a h g s =
    after_in w (with_names column k S) (k (at column n) (at (column + length n + 1) m) a) (((n ++ 32 ∷ (m ++ [])) ++ codes " ") ++ spell a) (
      (n, (m, a)),
      (
        n,
        32 ∷ ((m ++ []) ++ 32 ∷ spell a),
        (h, refl),
        ((tt, (m, a)), (codes " ", (m ++ []) ++ 32 ∷ spell a, refl, (m ++ [], 32 ∷ spell a, (g, append-nil m), after_in (codes " ") S a (spell a) s, refl), refl), refl),
        append_assoc (n ++ 32 ∷ (m ++ [])) (codes " ") (spell a) ∙ append_assoc n (32 ∷ (m ++ [])) (32 ∷ spell a),
      ),
      refl,
    )

abbrev spelled_index_value : ℕ × Tree → List ℕ
spelled_index_value iv = decimal iv.0 ++ codes " " ++ spelled_value iv.1

index_value_text : (w n d v : List ℕ) → w ++ ((((n ++ codes " ") ++ d) ++ codes " ") ++ v) ≡ w ++ ((n ++ codes " ") ++ ((d ++ codes " ") ++ v))
index_value_text w n d v = ap (λ x. w ++ x) (ap (λ x. x ++ v) (append_assoc (n ++ codes " ") d (codes " ")) ∙ append_assoc (n ++ codes " ") (d ++ codes " ") v)

index_value_in : (w : List ℕ) (column : ℕ) (k : Named → ℕ → Tree → Line) (n : List ℕ) (index : ℕ) (v : Tree) → IsTrue (is_name n) → IsShort index → IsLiteral v
    → after w (formed (column, name_index_value k)) (k (at column n) index v) (w ++ (((((n ++ []) ++ codes " ") ++ decimal index) ++ codes " ") ++ spelled_value v))
index_value_in w column k n index v h g s =
    subst (after w (formed (column, name_index_value k)) (k (at column n) index v)) (sym (index_value_text w (n ++ []) (decimal index) (spelled_value v)))
    (with_in w column (λ m iv. k m iv.0 iv.1) index_value spelled_index_value n (index, v) h
    (decimal index, 32 ∷ spelled_value v, short_in index g, after_in (codes " ") (value 64) v (spelled_value v) (value_in v s), append_assoc (decimal index) (codes " ") (spelled_value v)))

members_in : (ns : List Named) → AllByRecursion IsNamed ns → members (names_of ns) (spelled_names ns)
members_in [] h = refl
members_in (n ∷ ns) h = (32 ∷ n.name, spelled_names ns, after_in (codes " ") name n.name n.name (h.0, refl), members_in ns h.1, refl)

may_in : (ns : List Named) → AllByRecursion IsNamed ns → optional [] may_part (names_of ns) (spelled_may ns)
may_in [] h = inr (tt, refl, refl)
may_in (n ∷ ns) h = inl ((tt, n.name ∷ names_of ns), (codes " may ", n.name ++ spelled_names ns, refl, ((n.name, names_of ns), (n.name, spelled_names ns, (h.0, refl), members_in ns h.1, refl), refl), refl), refl)

composite_in : (n : Named) (ms may : List Named) → IsNamed n → AllByRecursion IsNamed ms → AllByRecursion IsNamed may → after (codes "composite ") (formed (11, composed)) (placed (line.Composite n ms may)) (spelled_line (line.Composite n ms may))
composite_in n ms may h g f =
    after_in (codes "composite ") (formed (11, composed)) (placed (line.Composite n ms may)) ((n.name ++ spelled_names ms) ++ spelled_may may)
    ((n.name, (names_of ms, names_of may)), (n.name, spelled_names ms ++ spelled_may may, (h, refl), (spelled_names ms, spelled_may may, members_in ms g, may_in may f, refl), append_assoc n.name (spelled_names ms) (spelled_may may)), refl)

others_in : (ns : List Named) → AllByRecursion IsNamed ns → many (after (codes ",") name) (names_of ns) (spelled_others ns)
others_in [] h = refl
others_in (n ∷ ns) h = (44 ∷ n.name, spelled_others ns, after_in (codes ",") name n.name n.name (h.0, refl), others_in ns h.1, refl)

abbrev spelled_echo : Bool → List ℕ
spelled_echo e = if e then codes " echo" else []

echo_in : (e : Bool) → optional false echo e (spelled_echo e)
echo_in true = inl (tt, refl, refl)
echo_in false = inr (tt, refl, refl)

endings_in : (ns : List Named) (e : Bool) → AllByRecursion IsNamed ns → endings (names_of ns, e) (spelled_after ns ++ spelled_echo e)
endings_in [] false h = inr (tt, refl, refl)
endings_in [] true h = inl (inr (inl (after_in (codes " echo") (ending only_echo) ([], true) [] (tt, refl, refl))))
endings_in (n ∷ ns) e h =
    inl (inl (after_in (codes " after ") (ending after_names) (n.name ∷ names_of ns, e) ((n.name ++ spelled_others ns) ++ spelled_echo e)
    (n.name ++ spelled_others ns, spelled_echo e, ((n.name, names_of ns), (n.name, spelled_others ns, (h.0, refl), others_in ns h.1, refl), refl), echo_in e, refl)))

-- the text of a listener, as it is spelled and as its grammar cuts it
listen_text : (n m a e : List ℕ) → n ++ codes " on " ++ (m ++ (a ++ e)) ≡ ((((n ++ []) ++ codes " on") ++ 32 ∷ (m ++ [])) ++ a) ++ e
listen_text n m a e =
    append_assoc n (codes " on ") (m ++ (a ++ e))
    ∙ sym (
    ap (λ x. (((x ++ codes " on") ++ 32 ∷ (m ++ [])) ++ a) ++ e) (append-nil n)
    ∙ ap (λ x. (((n ++ codes " on") ++ 32 ∷ x) ++ a) ++ e) (append-nil m)
    ∙ append_assoc ((n ++ codes " on") ++ 32 ∷ m) a e
    ∙ append_assoc (n ++ codes " on") (32 ∷ m) (a ++ e)
    ∙ append_assoc n (codes " on") (32 ∷ (m ++ (a ++ e)))
    )

listen_in : (n m : Named) (others : List Named) (e : Bool) → IsNamed n → IsNamed m → AllByRecursion IsNamed others → after (codes "listen ") (formed (8, listened)) (placed (line.Listen n m others e)) (spelled_line (line.Listen n m others e))
listen_in n m others e h g f =
    let ends = spelled_after others ++ spelled_echo e in
    after_in (codes "listen ") (formed (8, listened)) (placed (line.Listen n m others e)) (((((n.name ++ []) ++ codes " on") ++ 32 ∷ (m.name ++ [])) ++ spelled_after others) ++ spelled_echo e) (
      (n.name, (m.name, (names_of others, e))),
      (
        n.name,
        codes " on " ++ (m.name ++ ends),
        (h, refl),
        ((tt, (m.name, (names_of others, e))), (codes " on ", m.name ++ ends, refl, (m.name, ends, (g, refl), endings_in others e f, refl), refl), refl),
        sym (listen_text n.name m.name (spelled_after others) (spelled_echo e)) ∙ append_assoc n.name (codes " on ") (m.name ++ ends),
      ),
      refl,
    )

pub within_spelled : (l : Line) → IsWithin l → line_of_text (placed l) (spelled_line l)
within_spelled (line.Limit limit) h = in_table line_words 0 (codes "limit ", (7, limited)) refl (line.Limit limit) (spelled_line (line.Limit limit)) (limit_in limit h.0 h.1)
within_spelled (line.Source n) h = in_table line_words 1 (codes "source ", (8, one_name line.Source)) refl (line.Source (at 8 n.name)) (spelled_line (line.Source n)) (one_in (codes "source ") 8 line.Source n.name h)
within_spelled (line.Row n x) h = in_table line_words 2 (codes "row ", (5, name_value line.Row)) refl (line.Row (at 5 n.name) x) (spelled_line (line.Row n x)) (with_in (codes "row ") 5 line.Row (value 64) spelled_value n.name x h.0 (value_in x h.1))
within_spelled (line.Csv n) h = in_table line_words 3 (codes "csv ", (5, one_name line.Csv)) refl (line.Csv (at 5 n.name)) (spelled_line (line.Csv n)) (one_in (codes "csv ") 5 line.Csv n.name h)
within_spelled line.EndCsv h = in_table line_words 4 (codes "end csv", (8, bare line.EndCsv)) refl line.EndCsv (spelled_line line.EndCsv) (bare_in (codes "end csv") 8 line.EndCsv)
within_spelled (line.Filter n m x) h = in_table line_words 5 (codes "filter ", (8, names_matcher line.Filter)) refl (line.Filter (at 8 n.name) (at (8 + length n.name + 1) m.name) x) (spelled_line (line.Filter n m x)) (both_in (codes "filter ") 8 line.Filter matcher spelled_matcher n.name m.name x h.0 h.1 (matcher_spelled x h.2.0 h.2.1))
within_spelled (line.Sorted n m x) h = in_table line_words 6 (codes "sorted ", (8, names_order line.Sorted)) refl (line.Sorted (at 8 n.name) (at (8 + length n.name + 1) m.name) x) (spelled_line (line.Sorted n m x)) (both_in (codes "sorted ") 8 line.Sorted order spelled_order n.name m.name x h.0 h.1 (order_spelled x h.2))
within_spelled (line.Unique n m x) h = in_table line_words 7 (codes "unique ", (8, names_order line.Unique)) refl (line.Unique (at 8 n.name) (at (8 + length n.name + 1) m.name) x) (spelled_line (line.Unique n m x)) (both_in (codes "unique ") 8 line.Unique order spelled_order n.name m.name x h.0 h.1 (order_spelled x h.2))
within_spelled (line.Grouping n m x) h = in_table line_words 8 (codes "grouping ", (10, names_order line.Grouping)) refl (line.Grouping (at 10 n.name) (at (10 + length n.name + 1) m.name) x) (spelled_line (line.Grouping n m x)) (both_in (codes "grouping ") 10 line.Grouping order spelled_order n.name m.name x h.0 h.1 (order_spelled x h.2))
within_spelled (line.Range n m x) h = in_table line_words 9 (codes "range ", (7, names_bounds line.Range)) refl (line.Range (at 7 n.name) (at (7 + length n.name + 1) m.name) x) (spelled_line (line.Range n m x)) (both_in (codes "range ") 7 line.Range ranges.bounds spelled_bounds n.name m.name x h.0 h.1 (bounds_spelled x h.2))
within_spelled (line.Function n m x) h = in_table line_words 10 (codes "function ", (10, names_func line.Function)) refl (line.Function (at 10 n.name) (at (10 + length n.name + 1) m.name) x) (spelled_line (line.Function n m x)) (both_in (codes "function ") 10 line.Function (func 8) spelled_func n.name m.name x h.0 h.1 (func_spelled x 8 h.2))
within_spelled (line.Collection n m x) h = in_table line_words 11 (codes "collection ", (12, names_path line.Collection)) refl (line.Collection (at 12 n.name) (at (12 + length n.name + 1) m.name) x) (spelled_line (line.Collection n m x)) (both_in (codes "collection ") 12 line.Collection path spelled_path n.name m.name x h.0 h.1 (path_spelled x h.2))
within_spelled (line.Composite n ms may) h = in_table line_words 12 (codes "composite ", (11, composed)) refl (placed (line.Composite n ms may)) (spelled_line (line.Composite n ms may)) (composite_in n ms may h.0 h.1 h.2)
within_spelled (line.Transaction n m) h = in_table line_words 13 (codes "transaction ", (13, two_names line.Transaction)) refl (line.Transaction (at 13 n.name) (at (13 + length n.name + 1) m.name)) (spelled_line (line.Transaction n m)) (two_in (codes "transaction ") 13 line.Transaction n.name m.name h.0 h.1)
within_spelled (line.Freezable n m) h = in_table line_words 14 (codes "freezable ", (11, two_names line.Freezable)) refl (line.Freezable (at 11 n.name) (at (11 + length n.name + 1) m.name)) (spelled_line (line.Freezable n m)) (two_in (codes "freezable ") 11 line.Freezable n.name m.name h.0 h.1)
within_spelled (line.Proxy n m) h = in_table line_words 15 (codes "proxy ", (7, two_names line.Proxy)) refl (line.Proxy (at 7 n.name) (at (7 + length n.name + 1) m.name)) (spelled_line (line.Proxy n m)) (two_in (codes "proxy ") 7 line.Proxy n.name m.name h.0 h.1)
within_spelled (line.Listen n m ns e) h = in_table line_words 16 (codes "listen ", (8, listened)) refl (placed (line.Listen n m ns e)) (spelled_line (line.Listen n m ns e)) (listen_in n m ns e h.0 h.1 h.2)
within_spelled line.Writer h = in_table line_words 17 (codes "writer", (7, bare line.Writer)) refl line.Writer (spelled_line line.Writer) (bare_in (codes "writer") 7 line.Writer)
within_spelled line.Section h = in_table line_words 18 (codes "section", (8, bare line.Section)) refl line.Section (spelled_line line.Section) (bare_in (codes "section") 8 line.Section)
within_spelled (line.Add n x) h = in_table line_words 19 (codes "add ", (5, name_value line.Add)) refl (line.Add (at 5 n.name) x) (spelled_line (line.Add n x)) (with_in (codes "add ") 5 line.Add (value 64) spelled_value n.name x h.0 (value_in x h.1))
within_spelled (line.AddAll n x) h = in_table line_words 20 (codes "addall ", (8, name_values line.AddAll)) refl (line.AddAll (at 8 n.name) x) (spelled_line (line.AddAll n x)) (with_in (codes "addall ") 8 line.AddAll (bracketed (value 63)) spelled_list n.name x h.0 (values_in x h.1))
within_spelled (line.Insert n i x) h = in_table line_words 21 (codes "insert ", (8, name_index_value line.Insert)) refl (line.Insert (at 8 n.name) i x) (spelled_line (line.Insert n i x)) (index_value_in (codes "insert ") 8 line.Insert n.name i x h.0 h.1 h.2)
within_spelled (line.Set n i x) h = in_table line_words 22 (codes "set ", (5, name_index_value line.Set)) refl (line.Set (at 5 n.name) i x) (spelled_line (line.Set n i x)) (index_value_in (codes "set ") 5 line.Set n.name i x h.0 h.1 h.2)
within_spelled (line.Remove n x) h = in_table line_words 23 (codes "remove ", (8, name_index line.Remove)) refl (line.Remove (at 8 n.name) x) (spelled_line (line.Remove n x)) (with_in (codes "remove ") 8 line.Remove ranges.short_number decimal n.name x h.0 (short_in x h.1))
within_spelled (line.Clear n) h = in_table line_words 24 (codes "clear ", (7, one_name line.Clear)) refl (line.Clear (at 7 n.name)) (spelled_line (line.Clear n)) (one_in (codes "clear ") 7 line.Clear n.name h)
within_spelled (line.Match n x) h = in_table line_words 25 (codes "match ", (7, name_matcher line.Match)) refl (line.Match (at 7 n.name) x) (spelled_line (line.Match n x)) (with_in (codes "match ") 7 line.Match matcher spelled_matcher n.name x h.0 (matcher_spelled x h.1.0 h.1.1))
within_spelled (line.Order n x) h = in_table line_words 26 (codes "order ", (7, name_order line.Order)) refl (line.Order (at 7 n.name) x) (spelled_line (line.Order n x)) (with_in (codes "order ") 7 line.Order order spelled_order n.name x h.0 (order_spelled x h.1))
within_spelled (line.Bounds n x) h = in_table line_words 27 (codes "bounds ", (8, name_bounds line.Bounds)) refl (line.Bounds (at 8 n.name) x) (spelled_line (line.Bounds n x)) (with_in (codes "bounds ") 8 line.Bounds ranges.bounds spelled_bounds n.name x h.0 (bounds_spelled x h.1))
within_spelled (line.Apply n x) h = in_table line_words 28 (codes "apply ", (7, name_func line.Apply)) refl (line.Apply (at 7 n.name) x) (spelled_line (line.Apply n x)) (with_in (codes "apply ") 7 line.Apply (func 8) spelled_func n.name x h.0 (func_spelled x 8 h.1))
within_spelled (line.Attach n m) h = in_table line_words 29 (codes "attach ", (8, two_names line.Attach)) refl (line.Attach (at 8 n.name) (at (8 + length n.name + 1) m.name)) (spelled_line (line.Attach n m)) (two_in (codes "attach ") 8 line.Attach n.name m.name h.0 h.1)
within_spelled (line.Detach n x) h = in_table line_words 30 (codes "detach ", (8, name_index line.Detach)) refl (line.Detach (at 8 n.name) x) (spelled_line (line.Detach n x)) (with_in (codes "detach ") 8 line.Detach ranges.short_number decimal n.name x h.0 (short_in x h.1))
within_spelled (line.Begin n) h = in_table line_words 31 (codes "begin ", (7, one_name line.Begin)) refl (line.Begin (at 7 n.name)) (spelled_line (line.Begin n)) (one_in (codes "begin ") 7 line.Begin n.name h)
within_spelled (line.Commit n) h = in_table line_words 32 (codes "commit ", (8, one_name line.Commit)) refl (line.Commit (at 8 n.name)) (spelled_line (line.Commit n)) (one_in (codes "commit ") 8 line.Commit n.name h)
within_spelled (line.Rollback n) h = in_table line_words 33 (codes "rollback ", (10, one_name line.Rollback)) refl (line.Rollback (at 10 n.name)) (spelled_line (line.Rollback n)) (one_in (codes "rollback ") 10 line.Rollback n.name h)
within_spelled (line.Freeze n) h = in_table line_words 34 (codes "freeze ", (8, one_name line.Freeze)) refl (line.Freeze (at 8 n.name)) (spelled_line (line.Freeze n)) (one_in (codes "freeze ") 8 line.Freeze n.name h)
within_spelled (line.Thaw n) h = in_table line_words 35 (codes "thaw ", (6, one_name line.Thaw)) refl (line.Thaw (at 6 n.name)) (spelled_line (line.Thaw n)) (one_in (codes "thaw ") 6 line.Thaw n.name h)
within_spelled (line.Show n) h = in_table line_words 36 (codes "show ", (6, one_name line.Show)) refl (line.Show (at 6 n.name)) (spelled_line (line.Show n)) (one_in (codes "show ") 6 line.Show n.name h)

pub within_back : (l : Line) → IsWithin l → SpellsSame l
within_back l h =
    let spelled : line_of_text (placed l) (spelled_line l) = within_spelled l h in
    (placed l, placed_same l, record { spelled = spelled; alone = λ m s. one_line (spelled_line l) m (placed l) s spelled })
