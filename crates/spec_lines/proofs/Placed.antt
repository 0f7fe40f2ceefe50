-- A line that is spelled is within the limits, and its names stand in the columns of its one spelling.
use Rattle.std.proofs.Common.{◌≡◌, ℕ, ◌+◌, Bool, List, [], ◌∷◌, length, refl, sym, ap, ◌∙◌, subst, inl, inr, arith, codes}
use Rattle.std.specs.Prelude.{IsTrue}
use Rattle.std.specs.List.{AllByRecursion}
use Rattle.spec_value.specs.Name.{is_name}
use Rattle.spec_value.specs.Tree.{Tree}
use Rattle.spec_syntax.specs.Grammar.{Grammar, both, after, apart, optional, many, listed, words}
use Rattle.spec_syntax.specs.Value.{value, bracketed}
use Rattle.spec_syntax.specs.Name.{name}
use Rattle.spec_syntax.specs.Path.{path, order}
use Rattle.spec_syntax.specs.Bounds as ranges
use Rattle.spec_syntax.specs.Func.{func}
use Rattle.spec_syntax.specs.Matcher.{matcher}
use Rattle.spec_syntax.specs.Proper.{IsPath, IsOrder, IsBounds, IsFunc}
use Rattle.spec_syntax.proofs.Spellings.{positive_least, positive_most, natural_most}
use Rattle.spec_syntax.proofs.Limits.{of_after, value_within, values_within, path_within, order_within, bounds_within, func_within}
use Rattle.spec_syntax.proofs.Nestings.{matcher_within}
use Rattle.gl_lines.specs.declared.named.Named.{Named}
use Rattle.gl_lines.specs.declared.line.Line.{Line}
use Rattle.gl_lines.specs.declared.line.Line.TheVariants as line
use Rattle.spec_lines.specs.Line.{at, in_row, past, Form, bare, limited, one_name, two_names, with_name, with_names, index_value, may_part, composite_part, composite_line, composed, after_names, only_echo, ending, endings, listen_line, listened, formed, row, line_words, line_of_text}
use Rattle.spec_lines.specs.Spelled.{spelled_line}
use Rattle.spec_lines.specs.Within.{IsNamed, IsLiteral, AreLiterals, IsRule, IsShort, IsWithin}
use Rattle.spec_lines.proofs.Columns.{names_of, placed}
use Rattle.spec_lines.proofs.Within.{within_spelled}

abbrev IsPlaced : Line → Type 0
IsPlaced l = IsWithin l × (placed l ≡ l)

abbrev AllPlaced : Grammar Line → Type 0
AllPlaced S = (l : Line) (t : List ℕ) → S l t → IsPlaced l

-- the lines of a row of the table
abbrev ArePlaced : List ℕ × (ℕ × Form) → Type 0
ArePlaced row = AllPlaced (after row.0 (formed row.1))

-- a name as its grammar has it
abbrev NameIs : List ℕ → Type 0
NameIs n = IsTrue (is_name n)

name_within : (n t : List ℕ) → name n t → NameIs n
name_within n t s = s.0

short_within : (n : ℕ) (t : List ℕ) → ranges.short_number n t → IsShort n
short_within n t s = natural_most 4294967295 n t (omega arith) s

values_literal : (vs : List Tree) (t : List ℕ) → bracketed (value 63) vs t → AreLiterals vs
values_literal = values_within 63

index_value_within : (iv : ℕ × Tree) (t : List ℕ) → index_value iv t → IsShort iv.0 × IsLiteral iv.1
index_value_within iv t s = (short_within iv.0 s.0 s.2, of_after IsLiteral (codes " ") (value 64) (value_within 64) iv.1 s.1 s.3)

bare_placed : (w : List ℕ) (column : ℕ) (l : Line) → IsPlaced l → ArePlaced (w, (column, bare l))
bare_placed w column l h = of_after IsPlaced w (formed (column, bare l)) (λ k t s. subst IsPlaced (sym s.2) h)

limit_placed : ArePlaced (codes "limit ", (7, limited))
limit_placed =
    of_after IsPlaced (codes "limit ") (formed (7, limited))
    (λ k t s. subst IsPlaced (sym s.2) ((positive_least 16777216 s.0 t s.1, positive_most 16777216 s.0 t (omega arith) s.1), refl))

one_placed : (w : List ℕ) (column : ℕ) (k : Named → Line) → ((n : List ℕ) → NameIs n → IsPlaced (k (at column n))) → ArePlaced (w, (column, one_name k))
one_placed w column k e = of_after IsPlaced w (formed (column, one_name k)) (λ l t s. subst IsPlaced (sym s.2) (e s.0 s.1.0))

two_placed : (w : List ℕ) (column : ℕ) (k : Named → Named → Line) → ((n m : List ℕ) → NameIs n → NameIs m → IsPlaced (k (at column n) (at (column + length n + 1) m))) → ArePlaced (w, (column, two_names k))
two_placed w column k e =
    of_after IsPlaced w (formed (column, two_names k))
    (λ l t s. subst IsPlaced (sym s.2) (e s.0.0 s.0.1 s.1.2.0 (of_after NameIs (codes " ") name name_within s.0.1 s.1.1 s.1.3)))

with_placed : {A : Type 0} (w : List ℕ) (column : ℕ) (k : Named → A → Line) (S : Grammar A) (P : A → Type 0) → ((a : A) (t : List ℕ) → S a t → P a) → ((n : List ℕ) (a : A) → NameIs n → P a → IsPlaced (k (at column n) a)) → AllPlaced (after w (with_name column k S))
with_placed w column k S P h e =
    of_after IsPlaced w (with_name column k S) (λ l t s. subst IsPlaced (sym s.2) (e s.0.0 s.0.1 s.1.2.0 (of_after P (codes " ") S h s.0.1 s.1.1 s.1.3)))

both_placed : {A : Type 0} (w : List ℕ) (column : ℕ) (k : Named → Named → A → Line) (S : Grammar A) (P : A → Type 0) → ((a : A) (t : List ℕ) → S a t → P a) → ((n m : List ℕ) (a : A) → NameIs n → NameIs m → P a → IsPlaced (k (at column n) (at (column + length n + 1) m) a)) → AllPlaced (after w (with_names column k S))
both_placed {A = A} w column k S P h e =
    of_after IsPlaced w (with_names column k S) (λ l t s.
    let others = of_after (λ ma. NameIs ma.0 × P ma.1) (codes " ") (apart name (codes " ") S) (λ ma u r. (r.2.0, of_after P (codes " ") S h ma.1 r.1 r.3)) s.0.1 s.1.1 s.1.3 in
    subst IsPlaced (sym s.2) (e s.0.0 s.0.1.0 s.0.1.1 s.1.2.0 others.0 others.1))

names_in_row : (column : ℕ) (ns : List (List ℕ)) → names_of (in_row column ns) ≡ ns
names_in_row column [] = refl
names_in_row column (n ∷ ns) = ap (λ x. n ∷ x) (names_in_row (column + length n + 1) ns)

many_named : (w : List ℕ) (column : ℕ) (ns : List (List ℕ)) (t : List ℕ) → many (after w name) ns t → AllByRecursion IsNamed (in_row column ns)
many_named w column [] t s = tt
many_named w column (n ∷ ns) t s = (of_after NameIs w name name_within n s.0 s.2, many_named w (column + length n + 1) ns s.1 s.3)

listed_named : (w : List ℕ) (column : ℕ) (ns : List (List ℕ)) (t : List ℕ) → listed name w ns t → AllByRecursion IsNamed (in_row column ns)
listed_named w column ns t s = subst (λ x. AllByRecursion IsNamed (in_row column x)) (sym s.2) (s.1.2.0, many_named w (column + length s.0.0 + 1) s.0.1 s.1.1 s.1.3)

may_named : (column : ℕ) (ns : List (List ℕ)) (t : List ℕ) → optional [] may_part ns t → AllByRecursion IsNamed (in_row column ns)
may_named column ns t s = elim s as (λ _. AllByRecursion IsNamed (in_row column ns)) [
  | inl g ↦ of_after (λ x. AllByRecursion IsNamed (in_row column x)) (codes " may ") (listed name (codes " ")) (listed_named (codes " ") column) ns t g
  | inr g ↦ subst (λ x. AllByRecursion IsNamed (in_row column x)) (sym g.2) tt
]

composite_placed : ArePlaced (codes "composite ", (11, composed))
composite_placed = of_after IsPlaced (codes "composite ") (formed (11, composed)) (λ l t s. subst IsPlaced (sym s.2) (whole s.0 t s.1))
  where
    whole : (c : List ℕ × (List (List ℕ) × List (List ℕ))) (t : List ℕ) → both name composite_part c t → IsPlaced (composite_line 11 c)
    whole c t s =
        let column = 11 + length c.0 + 1 in
        let after_word = past (11 + length c.0) c.1.0 + 5 in (
          (s.2.0, many_named (codes " ") column c.1.0 s.3.0 s.3.2, may_named after_word c.1.1 s.3.1 s.3.3),
          ap (λ x. composite_line 11 (c.0, (x, names_of (in_row after_word c.1.1)))) (names_in_row column c.1.0) ∙ ap (λ x. composite_line 11 (c.0, (c.1.0, x))) (names_in_row after_word c.1.1),
        )

endings_named : (column : ℕ) (e : List (List ℕ) × Bool) (t : List ℕ) → endings e t → AllByRecursion IsNamed (in_row column e.0)
endings_named column e t s = elim s as (λ _. AllByRecursion IsNamed (in_row column e.0)) [
  | inl g ↦ elim g as (λ _. AllByRecursion IsNamed (in_row column e.0)) [
    | inl h ↦ of_after (λ x. AllByRecursion IsNamed (in_row column x.0)) (codes " after ") (ending after_names) (λ x u r. listed_named (codes ",") column x.0 r.0 r.2) e t h
    | inr h ↦ elim h as (λ _. AllByRecursion IsNamed (in_row column e.0)) [
      | inl i ↦ of_after (λ x. AllByRecursion IsNamed (in_row column x.0)) (codes " echo") (ending only_echo) (λ x u r. subst (λ y. AllByRecursion IsNamed (in_row column y.0)) (sym r.2) tt) e t i
      | inr i ↦ absurd i
    ]
  ]
  | inr g ↦ subst (λ y. AllByRecursion IsNamed (in_row column y.0)) (sym g.2) tt
]

listen_placed : ArePlaced (codes "listen ", (8, listened))
listen_placed = of_after IsPlaced (codes "listen ") (formed (8, listened)) (λ l t s. subst IsPlaced (sym s.2) (whole s.0 t s.1))
  where
    whole : (c : List ℕ × (List ℕ × (List (List ℕ) × Bool))) (t : List ℕ) → apart name (codes " on ") (both name endings) c t → IsPlaced (listen_line 8 c)
    whole c t s =
        let column = 8 + length c.0 + 4 + length c.1.0 + 7 in
        let others = of_after (λ x. NameIs x.0 × AllByRecursion IsNamed (in_row column x.1.0)) (codes " on ") (both name endings) (λ x u r. (r.2.0, endings_named column x.1 r.1 r.3)) c.1 s.1 s.3 in
        ((s.2.0, others.0, others.1), ap (λ x. listen_line 8 (c.0, (c.1.0, (x, c.1.1.1)))) (names_in_row column c.1.1.0))

rows_placed : AllByRecursion ArePlaced line_words
rows_placed = (
  limit_placed,
  (
    one_placed (codes "source ") 8 line.Source (λ n h. (h, refl)),
    (
      with_placed (codes "row ") 5 line.Row (value 64) IsLiteral (value_within 64) (λ n x h g. ((h, g), refl)),
      (
        one_placed (codes "csv ") 5 line.Csv (λ n h. (h, refl)),
        (
          bare_placed (codes "end csv") 8 line.EndCsv (tt, refl),
          (
            both_placed (codes "filter ") 8 line.Filter matcher IsRule matcher_within (λ n m x h g f. ((h, g, f), refl)),
            (
              both_placed (codes "sorted ") 8 line.Sorted order IsOrder order_within (λ n m x h g f. ((h, g, f), refl)),
              (
                both_placed (codes "unique ") 8 line.Unique order IsOrder order_within (λ n m x h g f. ((h, g, f), refl)),
                (
                  both_placed (codes "grouping ") 10 line.Grouping order IsOrder order_within (λ n m x h g f. ((h, g, f), refl)),
                  (
                    both_placed (codes "range ") 7 line.Range ranges.bounds IsBounds bounds_within (λ n m x h g f. ((h, g, f), refl)),
                    (
                      both_placed (codes "function ") 10 line.Function (func 8) (IsFunc 8) (func_within 8) (λ n m x h g f. ((h, g, f), refl)),
                      (
                        both_placed (codes "collection ") 12 line.Collection path IsPath path_within (λ n m x h g f. ((h, g, f), refl)),
                        (
                          composite_placed,
                          (
                            two_placed (codes "transaction ") 13 line.Transaction (λ n m h g. ((h, g), refl)),
                            (
                              two_placed (codes "freezable ") 11 line.Freezable (λ n m h g. ((h, g), refl)),
                              (
                                two_placed (codes "proxy ") 7 line.Proxy (λ n m h g. ((h, g), refl)),
                                (
                                  listen_placed,
                                  (
                                    bare_placed (codes "writer") 7 line.Writer (tt, refl),
                                    (
                                      bare_placed (codes "section") 8 line.Section (tt, refl),
                                      (
                                        with_placed (codes "add ") 5 line.Add (value 64) IsLiteral (value_within 64) (λ n x h g. ((h, g), refl)),
                                        (
                                          with_placed (codes "addall ") 8 line.AddAll (bracketed (value 63)) AreLiterals values_literal (λ n x h g. ((h, g), refl)),
                                          (
                                            with_placed (codes "insert ") 8 (λ n iv. line.Insert n iv.0 iv.1) index_value (λ iv. IsShort iv.0 × IsLiteral iv.1) index_value_within (λ n iv h g. ((h, g.0, g.1), refl)),
                                            (
                                              with_placed (codes "set ") 5 (λ n iv. line.Set n iv.0 iv.1) index_value (λ iv. IsShort iv.0 × IsLiteral iv.1) index_value_within (λ n iv h g. ((h, g.0, g.1), refl)),
                                              (
                                                with_placed (codes "remove ") 8 line.Remove ranges.short_number IsShort short_within (λ n x h g. ((h, g), refl)),
                                                (
                                                  one_placed (codes "clear ") 7 line.Clear (λ n h. (h, refl)),
                                                  (
                                                    with_placed (codes "match ") 7 line.Match matcher IsRule matcher_within (λ n x h g. ((h, g), refl)),
                                                    (
                                                      with_placed (codes "order ") 7 line.Order order IsOrder order_within (λ n x h g. ((h, g), refl)),
                                                      (
                                                        with_placed (codes "bounds ") 8 line.Bounds ranges.bounds IsBounds bounds_within (λ n x h g. ((h, g), refl)),
                                                        (
                                                          with_placed (codes "apply ") 7 line.Apply (func 8) (IsFunc 8) (func_within 8) (λ n x h g. ((h, g), refl)),
                                                          (
                                                            two_placed (codes "attach ") 8 line.Attach (λ n m h g. ((h, g), refl)),
                                                            (
                                                              with_placed (codes "detach ") 8 line.Detach ranges.short_number IsShort short_within (λ n x h g. ((h, g), refl)),
                                                              (
                                                                one_placed (codes "begin ") 7 line.Begin (λ n h. (h, refl)),
                                                                (
                                                                  one_placed (codes "commit ") 8 line.Commit (λ n h. (h, refl)),
                                                                  (
                                                                    one_placed (codes "rollback ") 10 line.Rollback (λ n h. (h, refl)),
                                                                    (
                                                                      one_placed (codes "freeze ") 8 line.Freeze (λ n h. (h, refl)),
                                                                      (
                                                                        one_placed (codes "thaw ") 6 line.Thaw (λ n h. (h, refl)),
                                                                        (
                                                                          one_placed (codes "show ") 6 line.Show (λ n h. (h, refl)),
                                                                          tt,
                                                                        ),
                                                                      ),
                                                                    ),
                                                                  ),
                                                                ),
                                                              ),
                                                            ),
                                                          ),
                                                        ),
                                                      ),
                                                    ),
                                                  ),
                                                ),
                                              ),
                                            ),
                                          ),
                                        ),
                                      ),
                                    ),
                                  ),
                                ),
                              ),
                            ),
                          ),
                        ),
                      ),
                    ),
                  ),
                ),
              ),
            ),
          ),
        ),
      ),
    ),
  ),
)

words_placed : (rows : List (List ℕ × (ℕ × Form))) → AllByRecursion ArePlaced rows → AllPlaced (words formed rows)
words_placed [] h l t s = absurd s
words_placed (row ∷ rows) h l t s = elim s as (λ _. IsPlaced l) [
  | inl g ↦ h.0 l t g
  | inr g ↦ words_placed rows h.1 l t g
]

pub line_placed : (l : Line) (t : List ℕ) → line_of_text l t → IsWithin l × (placed l ≡ l)
line_placed l t s = words_placed line_words rows_placed l t s

-- the one spelling of a line spells it wherever any bytes do, its names in the same columns
pub line_again : (l : Line) (t : List ℕ) → line_of_text l t → line_of_text l (spelled_line l)
line_again l t s = let h = line_placed l t s in subst (λ k. line_of_text k (spelled_line l)) h.1 (within_spelled l h.0)
