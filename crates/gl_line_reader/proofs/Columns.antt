-- Names in their columns, one after another.
use Rattle.std.proofs.Common.{◌≡◌, ℕ, zero, suc, ◌+◌, ◌-◌, ◌≤◌, true, false, cond, List, [], ◌∷◌, ◌++◌, length, refl, sym, ap, ◌∙◌, subst, arith, append_assoc, append-nil, length-append}
use Rattle.spec_value.specs.Name.{is_name_byte}
use Rattle.spec_syntax.specs.Reader.{Step, found, stopped, Reader, first_is, made, on, read_word, after_word, repeated, all_of}
use Rattle.spec_syntax.proofs.ReadSteps.{no_more, Finds, IsStep}
use Rattle.spec_syntax.proofs.Joints.{after_on, later_stops}
use Rattle.spec_syntax.specs.Name.{name, read_name}
use Rattle.spec_syntax.specs.ValueReader.{is}
use Rattle.spec_syntax.proofs.Names.{name_reads}
use Rattle.spec_lines.specs.Line.{at, in_row}
use Rattle.spec_lines.specs.Reader.{read_names}
use Rattle.spec_lines.proofs.Composites.{ends, nothing_follows}
use Rattle.gl_lines.specs.declared.named.Named.{Named}
use Rattle.gl_line_reader.specs.Named.{read_named, read_more}
use Rattle.gl_line_reader.proofs.Names.{first_some}
use Rattle.gl_line_reader.proofs.Joins.{word_length}

length_of : (bs n rest : List ℕ) → Finds name no_more bs n rest → length bs ≡ length n + length rest
length_of bs n rest f = omega (arith, ap length f.are, ap length f.spelled.1, length-append f.prefix rest)

pub name_length : (bs n rest : List ℕ) → read_name bs ≡ found n rest → length bs ≡ length n + length rest
name_length bs n rest h = length_of bs n rest (subst (λ st. IsStep name no_more bs st) h (name_reads (length bs) no_more nothing_follows (ends is_name_byte) bs (omega arith)))

-- what is made of a thing is made after the word too
pub made_after : {A B : Type 0} (f : A → B) (w : List ℕ) (r : Reader A) (bs : List ℕ) → after_word w (λ rest. made f (r rest)) bs ≡ made f (after_word w r bs)
made_after {A = A} {B = B} f w r bs = by_word (read_word w bs)
  where
    by_thing : (u : Unit {0}) (st : Step A) → made {A = Unit {0} × B} (λ ab. ab.1) (made (λ b. (u, b)) (made f st)) ≡ made f (made {A = Unit {0} × A} (λ ab. ab.1) (made (λ b. (u, b)) st))
    by_thing u (found a rest) = refl
    by_thing u (stopped left) = refl

    by_word : (st : Step (Unit {0})) → made {A = Unit {0} × B} (λ ab. ab.1) (on st (λ u rest. made (λ b. (u, b)) (made f (r rest)))) ≡ made f (made {A = Unit {0} × A} (λ ab. ab.1) (on st (λ u rest. made (λ b. (u, b)) (r rest))))
    by_word (found u rest) = by_thing u (r rest)
    by_word (stopped left) = refl

-- a name after a word
pub after_length : (w bs rest : List ℕ) (column : ℕ) (n : Named) → after_word w (read_named column) bs ≡ found n rest → length bs ≡ length w + length n.name + length rest
after_length w bs rest column n h = by_word (read_word w bs) refl
  where
    bytes_of : Step Named → ℕ
    bytes_of (found x r) = length x.name + length r
    bytes_of (stopped left) = 0

    of_name : (r1 : List ℕ) (st : Step (List ℕ)) → read_name r1 ≡ st → made (at column) st ≡ found n rest → length r1 ≡ length n.name + length rest
    of_name r1 (found a r2) k g = omega (arith, name_length r1 a r2 k, ap bytes_of g)
    of_name r1 (stopped left) k g = cc

    by_word : (st : Step (Unit {0})) → read_word w bs ≡ st → length bs ≡ length w + length n.name + length rest
    by_word (found u r1) k = omega (arith, word_length w bs r1 k, of_name r1 (read_name r1) refl (sym (after_on w (read_named column) bs r1 k) ∙ h))
    by_word (stopped left) k = let clash : stopped left ≡ found n rest = sym (later_stops w (read_named column) bs left k) ∙ h in cc

-- one name more, and what is read after it
abbrev after_name : ℕ → List Named → ℕ → ℕ → Named → Reader (List Named)
after_name c names column most n rest = read_more c (names ++ n ∷ []) (column + 1 + length n.name) most rest

more_is : (c : ℕ) (names : List Named) (column most : ℕ) (bs : List ℕ) → length bs ≤ most → first_is (is c) bs ≡ true → read_more c names column most bs ≡ on (after_word (c ∷ []) (read_named (column + 1)) bs) (after_name c names column (most - 1))
more_is c names column zero bs l h = absurd (omega (arith, l, first_some (is c) bs h))
more_is c names column (suc m) bs l h =
    ap (λ x. made (λ more. names ++ in_row (column + 1) more) (cond x (made {A = List ℕ × List (List ℕ)} (λ ab. ab.0 ∷ ab.1) (on (after_word (c ∷ []) read_name bs) (λ a rest. made (λ b. (a, b)) (others rest)))) (found [] bs))) h
    ∙ by_name (after_word (c ∷ []) read_name bs)
    ∙ ap (λ st. on st (after_name c names column m)) (sym (made_after (at (column + 1)) (c ∷ []) read_name bs))
    ∙ ap (λ n. on (after_word (c ∷ []) (read_named (column + 1)) bs) (after_name c names column n)) (let e : m ≡ suc m - 1 = omega arith in e)
  where
    others : Reader (List (List ℕ))
    others = repeated m (is c) (after_word (c ∷ []) read_name)

    by_more : (a : List ℕ) (st : Step (List (List ℕ))) → made (λ more. names ++ in_row (column + 1) more) (made {A = List ℕ × List (List ℕ)} (λ ab. ab.0 ∷ ab.1) (made (λ b. (a, b)) st)) ≡ made (λ more. (names ++ at (column + 1) a ∷ []) ++ in_row (column + 1 + length a + 1) more) st
    by_more a (found more rest) = ap (λ l. found l rest) (sym (append_assoc names (at (column + 1) a ∷ []) (in_row (column + 1 + length a + 1) more)))
    by_more a (stopped left) = refl

    by_name : (st : Step (List ℕ)) → made (λ more. names ++ in_row (column + 1) more) (made {A = List ℕ × List (List ℕ)} (λ ab. ab.0 ∷ ab.1) (on st (λ a rest. made (λ b. (a, b)) (others rest)))) ≡ on (made (at (column + 1)) st) (after_name c names column m)
    by_name (found a rest) = by_more a (others rest)
    by_name (stopped left) = refl

pub more_on : (c : ℕ) (names : List Named) (column most : ℕ) (bs : List ℕ) (n : Named) (rest : List ℕ) → length bs ≤ most → first_is (is c) bs ≡ true → after_word (c ∷ []) (read_named (column + 1)) bs ≡ found n rest → read_more c names column most bs ≡ read_more c (names ++ n ∷ []) (column + 1 + length n.name) (most - 1) rest
more_on c names column most bs n rest l h g = more_is c names column most bs l h ∙ ap (λ st. on st (after_name c names column (most - 1))) g

pub more_stops : (c : ℕ) (names : List Named) (column most : ℕ) (bs : List ℕ) (left : ℕ) → length bs ≤ most → first_is (is c) bs ≡ true → after_word (c ∷ []) (read_named (column + 1)) bs ≡ stopped left → read_more c names column most bs ≡ stopped left
more_stops c names column most bs left l h g = more_is c names column most bs l h ∙ ap (λ st. on st (after_name c names column (most - 1))) g

pub more_ends : (c : ℕ) (names : List Named) (column most : ℕ) (bs : List ℕ) → first_is (is c) bs ≡ false → read_more c names column most bs ≡ found names bs
more_ends c names column zero bs h = ap (λ l. found l bs) (append-nil names)
more_ends c names column (suc m) bs h =
    ap (λ x. made (λ more. names ++ in_row (column + 1) more) (cond x (made {A = List ℕ × List (List ℕ)} (λ ab. ab.0 ∷ ab.1) (on (after_word (c ∷ []) read_name bs) (λ a rest. made (λ b. (a, b)) (repeated m (is c) (after_word (c ∷ []) read_name) rest)))) (found [] bs))) h
    ∙ ap (λ l. found l bs) (append-nil names)

-- a first name, and those after it
names_are : (c column : ℕ) (bs : List ℕ) → made (in_row column) (read_names c (c ∷ []) bs) ≡ on (read_named column bs) (λ n rest. read_more c (n ∷ []) (column + length n.name) (length rest) rest)
names_are c column bs = by_name (read_name bs)
  where
    by_more : (a : List ℕ) (st : Step (List (List ℕ))) → made (in_row column) (made {A = List ℕ × List (List ℕ)} (λ b. b.0 ∷ b.1) (made (λ b. (a, b)) st)) ≡ made (λ more. at column a ∷ in_row (column + length a + 1) more) st
    by_more a (found more rest) = refl
    by_more a (stopped left) = refl

    by_name : (st : Step (List ℕ)) → made (in_row column) (made {A = List ℕ × List (List ℕ)} (λ b. b.0 ∷ b.1) (on st (λ a rest. made (λ b. (a, b)) (all_of (is c) (after_word (c ∷ []) read_name) rest)))) ≡ on (made (at column) st) (λ n rest. read_more c (n ∷ []) (column + length n.name) (length rest) rest)
    by_name (found a rest) = by_more a (all_of (is c) (after_word (c ∷ []) read_name) rest)
    by_name (stopped left) = refl

pub names_on : (c column : ℕ) (bs : List ℕ) (n : Named) (names : List Named) (rest : List ℕ) → read_named column bs ≡ found n rest → names ≡ n ∷ [] → made (in_row column) (read_names c (c ∷ []) bs) ≡ read_more c names (column + length n.name) (length rest) rest
names_on c column bs n names rest h e =
    names_are c column bs ∙ ap (λ st. on st (λ n rest. read_more c (n ∷ []) (column + length n.name) (length rest) rest)) h
    ∙ ap (λ l. read_more c l (column + length n.name) (length rest) rest) (sym e)

pub names_stop : (c column : ℕ) (bs : List ℕ) (left : ℕ) → read_named column bs ≡ stopped left → made (in_row column) (read_names c (c ∷ []) bs) ≡ stopped left
names_stop c column bs left h = names_are c column bs ∙ ap (λ st. on st (λ n rest. read_more c (n ∷ []) (column + length n.name) (length rest) rest)) h
