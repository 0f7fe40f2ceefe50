-- How many bytes are after a word.
use Rattle.std.proofs.Common.{◌≡◌, ℕ, ◌+◌, ◌≤◌, cond, eqb, List, [], ◌∷◌, length, refl, sym, ap, ◌∙◌, inl, inr, arith}
use Rattle.std.proofs.lemmas.Bool.{cases_Bool}
use Rattle.spec_syntax.specs.Reader.{Step, found, stopped, read_word, nearer, table}
use Rattle.spec_syntax.proofs.Joints.{after_on, later_stops}

pub word_length : (w bs rest : List ℕ) → read_word w bs ≡ found tt rest → length bs ≡ length w + length rest
word_length [] bs rest h = let e : bs ≡ rest = cc in omega (arith, ap length e)
word_length (c ∷ w) [] rest h = cc
word_length (c ∷ w) (b ∷ bs) rest h = elim (cases_Bool (eqb c b)) as (λ _. length (b ∷ bs) ≡ length (c ∷ w) + length rest) [
  | inl e ↦ omega (arith, word_length w bs rest (sym (ap (λ x. cond x (read_word w bs) (stopped (length bs + 1))) e) ∙ h))
  | inr e ↦ let clash : stopped (length bs + 1) ≡ found tt rest = sym (ap (λ x. cond x (read_word w bs) (stopped (length bs + 1))) e) ∙ h in cc
]

-- after a word of a table
pub table_rest : {K : Type 0} (rows : List (List ℕ × K)) (bs : List ℕ) (k : K) (rest : List ℕ) → table found rows bs ≡ found k rest → length rest ≤ length bs
table_rest [] bs k rest h = cc
table_rest {K = K} (row ∷ rows) bs k rest h = by_word (read_word row.0 bs) refl (table_rest rows bs k rest)
  where
    rest_is : (a : K) (r : List ℕ) → found a r ≡ found k rest → r ≡ rest
    rest_is a r e = cc

    later : (left : ℕ) (st : Step K) → nearer (stopped left) st ≡ found k rest → st ≡ found k rest
    later left (found a r) e = e
    later left (stopped c) e = cc

    by_word : (st : Step (Unit {0})) → read_word row.0 bs ≡ st → (table found rows bs ≡ found k rest → length rest ≤ length bs) → length rest ≤ length bs
    by_word (found u r) g ahead =
        let same : r ≡ rest = rest_is row.1 r (sym (ap (λ x. nearer x (table found rows bs)) (after_on row.0 (found row.1) bs r g)) ∙ h) in
        omega (arith, word_length row.0 bs r g, ap length same)
    by_word (stopped left) g ahead = ahead (later left (table found rows bs) (sym (ap (λ x. nearer x (table found rows bs)) (later_stops row.0 (found row.1) bs left g)) ∙ h))
