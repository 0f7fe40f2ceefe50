-- Tables of words, no one of which begins another.
use Rattle.std.proofs.Common.{◌≡◌, ◌⊎◌, ℕ, ◌<◌, min, true, cond, List, [], ◌∷◌, ◌++◌, length, sym, ap, ◌∙◌, inl, inr, arith, append_assoc, length-append, IsTrue, eq-eqb}
use Rattle.std.specs.List.{AllByRecursion}
use Rattle.std.proofs.lemmas.Bool.{cases_eq, ne_eqb, false≢true, cases_lt}
use Rattle.spec_syntax.specs.Grammar.{Grammar, after, words, differ, AreApart}
use Rattle.spec_syntax.specs.Reader.{Step, found, stopped, Reader, after_word, nearer, table}
use Rattle.spec_syntax.proofs.Missed.{missed, missed-same, missed-other, missed_most}
use Rattle.spec_syntax.proofs.ReadSteps.{Tails, Stops, IsStep, Reads, Has, HasTail}
use Rattle.spec_syntax.proofs.Sequences.{missed_text, after_reads}

-- after a word that differs a text misses all of what is after the word
differ_missed : (w x y t : List ℕ) → differ w x ≡ true → length y < missed (x ++ t) (w ++ y)
differ_missed [] x y t h = absurd (false≢true h)
differ_missed (c ∷ w) [] y t h = absurd (false≢true h)
differ_missed (c ∷ w) (d ∷ x) y t h = elim (cases_eq c d) as (λ _. length y < missed ((d ∷ x) ++ t) ((c ∷ w) ++ y)) [
  | inl e ↦ omega (arith, missed-same d c (x ++ t) (w ++ y) (sym e), differ_missed w x y t (sym (ap (λ b. cond b (differ w x) true) (eq-eqb c d e)) ∙ h))
  | inr ne ↦ omega (arith, missed-other d c (x ++ t) (w ++ y) (λ e. ne (sym e)), length-append w y)
]

pub differ_inverse : (w x : List ℕ) → differ w x ≡ true → differ x w ≡ true
differ_inverse [] x h = absurd (false≢true h)
differ_inverse (c ∷ w) [] h = absurd (false≢true h)
differ_inverse (c ∷ w) (d ∷ x) h = elim (cases_eq c d) as (λ _. differ (d ∷ x) (c ∷ w) ≡ true) [
  | inl e ↦ ap (λ b. cond b (differ x w) true) (eq-eqb d c (sym e)) ∙ differ_inverse w x (sym (ap (λ b. cond b (differ w x) true) (eq-eqb c d e)) ∙ h)
  | inr ne ↦ ap (λ b. cond b (differ x w) true) (ne_eqb d c (λ e. ne (sym e)))
]

-- bytes after a word, of a text that is the word and more
word_first : {A : Type 0} (w : List ℕ) (S : Grammar A) (a : A) (t : List ℕ) → after w S a t → (u : List ℕ) × (t ≡ w ++ u)
word_first w S a t s = (s.1.1, s.1.4 ∙ ap (λ x. x ++ s.1.1) s.1.2)

-- two texts of rows whose words differ
rows_missed : {A B : Type 0} (w x : List ℕ) (S : Grammar A) (T : Grammar B) (a : A) (b : B) (prefix t v rest bs : List ℕ) → differ w x ≡ true → after w S a prefix → after x T b t → bs ≡ prefix ++ rest → length rest < missed (t ++ v) bs
rows_missed w x S T a b prefix t v rest bs d s r e =
    let f = word_first w S a prefix s in
    let g = word_first x T b t r in
    let parts : bs ≡ w ++ (f.0 ++ rest) = e ∙ ap (λ y. y ++ rest) f.1 ∙ append_assoc w f.0 rest in
    omega (arith, differ_missed w x (f.0 ++ rest) (g.0 ++ v) d, ap (missed (x ++ (g.0 ++ v))) parts, missed_text t x g.0 v bs g.1, length-append f.0 rest)

-- a text of one row, and a text of one of the others
later_missed : {K A : Type 0} (form : K → Grammar A) (w : List ℕ) (k : K) (rows : List (List ℕ × K)) (a b : A) (prefix t v rest bs : List ℕ) → AllByRecursion (λ other. IsTrue (differ w other.0)) rows → after w (form k) a prefix → words form rows b t → bs ≡ prefix ++ rest → length rest < missed (t ++ v) bs
later_missed form w k [] a b prefix t v rest bs d s r e = absurd r
later_missed form w k (row ∷ rows) a b prefix t v rest bs d s r e = elim r as (λ _. length rest < missed (t ++ v) bs) [
  | inl g ↦ rows_missed w row.0 (form k) (form row.1) a b prefix t v rest bs d.0 s g e
  | inr g ↦ later_missed form w k rows a b prefix t v rest bs d.1 s g e
]

earlier_missed : {K A : Type 0} (form : K → Grammar A) (w : List ℕ) (k : K) (rows : List (List ℕ × K)) (a b : A) (prefix t v rest bs : List ℕ) → AllByRecursion (λ other. IsTrue (differ w other.0)) rows → words form rows a prefix → after w (form k) b t → bs ≡ prefix ++ rest → length rest < missed (t ++ v) bs
earlier_missed form w k [] a b prefix t v rest bs d s r e = absurd s
earlier_missed form w k (row ∷ rows) a b prefix t v rest bs d s r e = elim s as (λ _. length rest < missed (t ++ v) bs) [
  | inl g ↦ rows_missed row.0 w (form row.1) (form k) a b prefix t v rest bs (differ_inverse w row.0 d.0) g r e
  | inr g ↦ earlier_missed form w k rows a b prefix t v rest bs d.1 g r e
]

-- the row whose word stands, or another row, or the nearer of them
nearer_step : {K A : Type 0} (form : K → Grammar A) (row : List ℕ × K) (rows : List (List ℕ × K)) (F : Tails) (bs : List ℕ) (one more : Step A) → AllByRecursion (λ other. IsTrue (differ row.0 other.0)) rows → IsStep (after row.0 (form row.1)) F bs one → IsStep (words form rows) F bs more → IsStep (words form (row ∷ rows)) F bs (nearer one more)
nearer_step form row rows F bs (found a rest) more d f g = record {
  prefix = f.prefix;
  spelled = inl f.spelled;
  are = f.are;
  others = λ b t v s tail. elim s as (λ _. ((b ≡ a) × (t ≡ f.prefix)) ⊎ (length rest < missed (t ++ v) bs)) [
    | inl h ↦ f.others b t v h tail
    | inr h ↦ inr (later_missed form row.0 row.1 rows a b f.prefix t v rest bs d f.spelled h f.are)
  ];
}
nearer_step form row rows F bs (stopped left) (found a rest) d f g = record {
  prefix = g.prefix;
  spelled = inr g.spelled;
  are = g.are;
  others = λ b t v s tail. elim s as (λ _. ((b ≡ a) × (t ≡ g.prefix)) ⊎ (length rest < missed (t ++ v) bs)) [
    | inl h ↦ inr (earlier_missed form row.0 row.1 rows a b g.prefix t v rest bs d g.spelled h g.are)
    | inr h ↦ g.others b t v h tail
  ];
}
nearer_step form row rows F bs (stopped left) (stopped least) d f g = elim (cases_lt left least) as (λ _. Stops (words form (row ∷ rows)) F bs (min left least)) [
  | inl h ↦ record {
    thing = f.thing;
    text = f.text;
    tail = f.tail;
    spelled = inl f.spelled;
    follows = f.follows;
    near = omega (arith, f.near);
    nearest = λ b t v s tail. elim s as (λ _. min left least < missed (t ++ v) bs) [ inl r ↦ omega (arith, f.nearest b t v r tail) | inr r ↦ omega (arith, g.nearest b t v r tail) ];
  }
  | inr h ↦ record {
    thing = g.thing;
    text = g.text;
    tail = g.tail;
    spelled = inr g.spelled;
    follows = g.follows;
    near = omega (arith, g.near);
    nearest = λ b t v s tail. elim s as (λ _. min left least < missed (t ++ v) bs) [ inl r ↦ omega (arith, f.nearest b t v r tail) | inr r ↦ omega (arith, g.nearest b t v r tail) ];
  }
]

-- a table of one row
last_step : {K A : Type 0} (form : K → Grammar A) (row : List ℕ × K) (F : Tails) (bs : List ℕ) (one : Step A) → IsStep (after row.0 (form row.1)) F bs one → IsStep (words form (row ∷ [])) F bs (nearer one (stopped (length bs)))
last_step form row F bs (found a rest) f = record {
  prefix = f.prefix;
  spelled = inl f.spelled;
  are = f.are;
  others = λ b t v s tail. elim s as (λ _. ((b ≡ a) × (t ≡ f.prefix)) ⊎ (length rest < missed (t ++ v) bs)) [ inl h ↦ f.others b t v h tail | inr h ↦ absurd h ];
}
last_step form row F bs (stopped left) f = record {
  thing = f.thing;
  text = f.text;
  tail = f.tail;
  spelled = inl f.spelled;
  follows = f.follows;
  near = omega (arith, f.near, missed_most (f.text ++ f.tail) bs);
  nearest = λ b t v s tail. elim s as (λ _. min left (length bs) < missed (t ++ v) bs) [ inl h ↦ omega (arith, f.nearest b t v h tail) | inr h ↦ absurd h ];
}

-- a table of words
pub table_reads : {K A : Type 0} (n : ℕ) (form : K → Grammar A) (readers : K → Reader A) (F : Tails) → HasTail F → ((k : K) → Has (form k)) → ((k : K) → Reads n (form k) F (readers k)) → (row : List ℕ × K) (rows : List (List ℕ × K)) → AreApart (row ∷ rows) → Reads n (words form (row ∷ rows)) F (table readers (row ∷ rows))
table_reads n form readers F some has reads row [] d bs h = last_step form row F bs (after_word row.0 (readers row.1) bs) (after_reads n n row.0 (form row.1) F (readers row.1) (omega arith) (has row.1) some (reads row.1) bs h)
table_reads n form readers F some has reads row (next ∷ rows) d bs h =
    nearer_step form row (next ∷ rows) F bs (after_word row.0 (readers row.1) bs) (table readers (next ∷ rows) bs) d.0
    (after_reads n n row.0 (form row.1) F (readers row.1) (omega arith) (has row.1) some (reads row.1) bs h)
    (table_reads n form readers F some has reads next rows d.1 bs h)
