-- Things after names.
use Rattle.std.proofs.Common.{◌≡◌, ℕ, ◌+◌, List, length, refl, ap, ◌∙◌, codes}
use Rattle.spec_syntax.specs.Reader.{Step, found, stopped, Reader, made, on, read_word, sep}
use Rattle.spec_syntax.specs.Name.{read_name}
use Rattle.spec_lines.specs.Line.{at, two_names}
use Rattle.spec_lines.specs.Reader.{read_with_name, read_with_names, read_formed}
use Rattle.gl_lines.specs.declared.named.Named.{Named}
use Rattle.gl_lines.specs.declared.line.Line.{Line}
use Rattle.gl_line_reader.specs.Named.{read_named, read_spaced, read_two_spaced}
use Rattle.gl_line_reader.specs.Keywords.{about_two}
use Rattle.gl_line_reader.specs.declared.keyword.TwoNames.{TwoNames}

-- a name and a space first, and then what is after them
with_is : {A : Type 0} (column : ℕ) (k : Named → A → Line) (r : Reader A) (bs : List ℕ) → read_with_name column k r bs ≡ on (read_spaced column bs) (λ n rest. made (k n) (r rest))
with_is {A = A} column k r bs = by_name (read_name bs)
  where
    by_thing : (n : List ℕ) (u : Unit {0}) (st : Step A) → made {A = List ℕ × A} (λ ab. k (at column ab.0) ab.1) (made (λ b. (n, b)) (made {A = Unit {0} × A} (λ ab. ab.1) (made (λ b. (u, b)) st))) ≡ made (k (at column n)) st
    by_thing n u (found a rest) = refl
    by_thing n u (stopped left) = refl

    by_word : (n : List ℕ) (st : Step (Unit {0})) → made {A = List ℕ × A} (λ ab. k (at column ab.0) ab.1) (made (λ b. (n, b)) (made {A = Unit {0} × A} (λ ab. ab.1) (on st (λ u rest. made (λ b. (u, b)) (r rest))))) ≡ on (made {A = Named × Unit {0}} (λ ab. ab.0) (made (λ b. (at column n, b)) st)) (λ n rest. made (k n) (r rest))
    by_word n (found u rest) = by_thing n u (r rest)
    by_word n (stopped left) = refl

    by_name : (st : Step (List ℕ)) → made {A = List ℕ × A} (λ ab. k (at column ab.0) ab.1) (on st (λ n rest. made (λ b. (n, b)) (made {A = Unit {0} × A} (λ ab. ab.1) (on (read_word (codes " ") rest) (λ u more. made (λ b. (u, b)) (r more)))))) ≡ on (made {A = Named × Unit {0}} (λ ab. ab.0) (on (made (at column) st) (λ n rest. made (λ b. (n, b)) (read_word (codes " ") rest)))) (λ n rest. made (k n) (r rest))
    by_name (found n rest) = by_word n (read_word (codes " ") rest)
    by_name (stopped left) = refl

pub with_found : {A : Type 0} (column : ℕ) (k : Named → A → Line) (r : Reader A) (bs r1 rest : List ℕ) (n : Named) (a : A) → read_spaced column bs ≡ found n r1 → r r1 ≡ found a rest → read_with_name column k r bs ≡ found (k n a) rest
with_found column k r bs r1 rest n a h g = with_is column k r bs ∙ ap (λ st. on st (λ n rest. made (k n) (r rest))) h ∙ ap (made (k n)) g

pub with_ends : {A : Type 0} (column : ℕ) (k : Named → A → Line) (r : Reader A) (bs r1 : List ℕ) (n : Named) (left : ℕ) → read_spaced column bs ≡ found n r1 → r r1 ≡ stopped left → read_with_name column k r bs ≡ stopped left
with_ends column k r bs r1 n left h g = with_is column k r bs ∙ ap (λ st. on st (λ n rest. made (k n) (r rest))) h ∙ ap (made (k n)) g

on_same : {A B : Type 0} (st : Step A) (f g : A → Reader B) → ((a : A) (rest : List ℕ) → f a rest ≡ g a rest) → on st f ≡ on st g
on_same (found a rest) f g h = h a rest
on_same (stopped left) f g h = refl

-- two names, each with its space, and then what is after them
both_are : {A : Type 0} (column : ℕ) (k : Named → Named → A → Line) (r : Reader A) (bs : List ℕ) → read_with_names column k r bs ≡ on (read_two_spaced column bs) (λ nm rest. made (k nm.0 nm.1) (r rest))
both_are {A = A} column k r bs =
    with_is column (λ n ab. k n (at (column + length n.name + 1) ab.0) ab.1) (sep read_name (codes " ") r) bs
    ∙ on_same (read_spaced column bs) (λ n rest. read_with_name (column + length n.name + 1) (k n) r rest) (λ n rest. on (read_spaced (column + length n.name + 1) rest) (λ m more. made (k n m) (r more))) (λ n rest. with_is (column + length n.name + 1) (k n) r rest)
    ∙ by_first (read_spaced column bs)
  where
    by_second : (n : Named) (st : Step Named) → on st (λ m more. made (k n m) (r more)) ≡ on {A = Named × Named} (made (λ m. (n, m)) st) (λ nm rest. made (k nm.0 nm.1) (r rest))
    by_second n (found m rest) = refl
    by_second n (stopped left) = refl

    by_first : (st : Step Named) → on st (λ n rest. on (read_spaced (column + length n.name + 1) rest) (λ m more. made (k n m) (r more))) ≡ on {A = Named × Named} (on st (λ n rest. made (λ m. (n, m)) (read_spaced (column + length n.name + 1) rest))) (λ nm rest. made (k nm.0 nm.1) (r rest))
    by_first (found n rest) = by_second n (read_spaced (column + length n.name + 1) rest)
    by_first (stopped left) = refl

pub both_found : {A : Type 0} (column : ℕ) (k : Named → Named → A → Line) (r : Reader A) (bs r1 rest : List ℕ) (n m : Named) (a : A) → read_two_spaced column bs ≡ found (n, m) r1 → r r1 ≡ found a rest → read_with_names column k r bs ≡ found (k n m a) rest
both_found column k r bs r1 rest n m a h g = both_are column k r bs ∙ ap (λ st. on st (λ nm rest. made (k nm.0 nm.1) (r rest))) h ∙ ap (made (k n m)) g

pub both_end : {A : Type 0} (column : ℕ) (k : Named → Named → A → Line) (r : Reader A) (bs r1 : List ℕ) (n m : Named) (left : ℕ) → read_two_spaced column bs ≡ found (n, m) r1 → r r1 ≡ stopped left → read_with_names column k r bs ≡ stopped left
both_end column k r bs r1 n m left h g = both_are column k r bs ∙ ap (λ st. on st (λ nm rest. made (k nm.0 nm.1) (r rest))) h ∙ ap (made (k n m)) g

pub two_end : (column second : ℕ) (w : TwoNames) (bs r1 : List ℕ) (n : Named) → second ≡ column + length n.name + 1 → (left : ℕ) → read_spaced column bs ≡ found n r1 → read_named second r1 ≡ stopped left → read_formed (column, two_names (about_two w)) bs ≡ stopped left
two_end column second w bs r1 n e left h g = with_ends column (λ n b. about_two w n (at (column + length n.name + 1) b)) read_name bs r1 n left h (by_name (read_name r1) g)
  where
    by_name : (st : Step (List ℕ)) → made (at second) st ≡ stopped left → st ≡ stopped left
    by_name (found a rest) e = cc
    by_name (stopped other) e = cc
