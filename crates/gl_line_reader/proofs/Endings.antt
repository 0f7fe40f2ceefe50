-- What stands after the list of a listener.
use Rattle.std.proofs.Common.{◌≡◌, ℕ, ◌+◌, Bool, true, false, cond, List, [], length, refl, sym, ap, ◌∙◌, codes}
use Rattle.spec_syntax.specs.Reader.{Step, found, stopped, Reader, first_is, made, on, seq, sep, read_word, close, maybe, table}
use Rattle.spec_syntax.proofs.ReadSteps.{no_more}
use Rattle.spec_syntax.specs.Name.{read_name}
use Rattle.spec_syntax.specs.ValueReader.{is}
use Rattle.spec_lines.specs.Line as grammar
use Rattle.spec_lines.specs.Line.{at, in_row, ending_words, listen_line}
use Rattle.spec_lines.specs.Reader.{read_names, read_echo, read_ending, read_endings}
use Rattle.spec_lines.proofs.Apart.{apart_from}
use Rattle.spec_lines.proofs.Lines.{ending_reads}
use Rattle.gl_lines.specs.declared.named.Named.{Named}
use Rattle.gl_lines.specs.declared.line.Line.{Line}
use Rattle.gl_lines.specs.declared.line.Line.TheVariants as line
use Rattle.gl_line_reader.specs.Named.{read_named}
use Rattle.gl_line_reader.specs.Endings.{ending_of, endings, told}
use Rattle.gl_line_reader.specs.declared.listener.Ending.{Ending}
use Rattle.gl_line_reader.proofs.Tables.{table_on, reads_short}

pub endings_none : (column : ℕ) (bs : List ℕ) → first_is (is 32) bs ≡ false → made (told column) (read_endings bs) ≡ found ([], false) bs
endings_none column bs h = ap (λ x. made (told column) (cond x (table read_ending ending_words bs) (found ([], false) bs))) h

endings_are : (column : ℕ) (bs : List ℕ) → first_is (is 32) bs ≡ true → made (told column) (read_endings bs) ≡ made (told column) (on (table found endings bs) (λ e rest. read_ending (ending_of e) rest))
endings_are column bs h =
    ap (λ x. made (told column) (cond x (table read_ending ending_words bs) (found ([], false) bs))) h
    ∙ ap (made (told column)) (table_on ending_of read_ending endings bs (apart_from endings refl) (λ e. reads_short (grammar.ending e) no_more (read_ending e) (λ n. ending_reads n e)))

pub endings_on : (column : ℕ) (bs rest : List ℕ) (e : Ending) → first_is (is 32) bs ≡ true → table found endings bs ≡ found e rest → made (told column) (read_endings bs) ≡ made (told column) (read_ending (ending_of e) rest)
endings_on column bs rest e h g = endings_are column bs h ∙ ap (λ st. made (told column) (on st (λ e rest. read_ending (ending_of e) rest))) g

pub endings_stop : (column : ℕ) (bs : List ℕ) (left : ℕ) → first_is (is 32) bs ≡ true → table found endings bs ≡ stopped left → made (told column) (read_endings bs) ≡ stopped left
endings_stop column bs left h g = endings_are column bs h ∙ ap (λ st. made (told column) (on st (λ e rest. read_ending (ending_of e) rest))) g

-- names, and then the echo
after_is : (column : ℕ) (bs : List ℕ) → made (told column) (seq (read_names 44 (codes ",")) (maybe false (is 32) read_echo) bs) ≡ on (made (in_row column) (read_names 44 (codes ",") bs)) (λ names rest. made (λ echo. (names, echo)) (maybe false (is 32) read_echo rest))
after_is column bs = by_names (read_names 44 (codes ",") bs)
  where
    by_echo : (names : List (List ℕ)) (st : Step Bool) → made (told column) (made (λ echo. (names, echo)) st) ≡ made (λ echo. (in_row column names, echo)) st
    by_echo names (found echo rest) = refl
    by_echo names (stopped left) = refl

    by_names : (st : Step (List (List ℕ))) → made (told column) (on st (λ names rest. made (λ echo. (names, echo)) (maybe false (is 32) read_echo rest))) ≡ on (made (in_row column) st) (λ names rest. made (λ echo. (names, echo)) (maybe false (is 32) read_echo rest))
    by_names (found names rest) = by_echo names (maybe false (is 32) read_echo rest)
    by_names (stopped left) = refl

pub after_found : (column : ℕ) (bs r1 rest : List ℕ) (names : List Named) (echo : Bool) → made (in_row column) (read_names 44 (codes ",") bs) ≡ found names r1 → maybe false (is 32) read_echo r1 ≡ found echo rest → made (told column) (seq (read_names 44 (codes ",")) (maybe false (is 32) read_echo) bs) ≡ found (names, echo) rest
after_found column bs r1 rest names echo h g =
    after_is column bs ∙ ap (λ st. on st (λ names rest. made {B = List Named × Bool} (λ echo. (names, echo)) (maybe false (is 32) read_echo rest))) h ∙ ap (made {B = List Named × Bool} (λ echo. (names, echo))) g

pub after_stops : (column : ℕ) (bs : List ℕ) (left : ℕ) → made (in_row column) (read_names 44 (codes ",") bs) ≡ stopped left → made (told column) (seq (read_names 44 (codes ",")) (maybe false (is 32) read_echo) bs) ≡ stopped left
after_stops column bs left h = after_is column bs ∙ ap (λ st. on st (λ names rest. made {B = List Named × Bool} (λ echo. (names, echo)) (maybe false (is 32) read_echo rest))) h

pub after_ends : (column : ℕ) (bs r1 : List ℕ) (names : List Named) (left : ℕ) → made (in_row column) (read_names 44 (codes ",") bs) ≡ found names r1 → maybe false (is 32) read_echo r1 ≡ stopped left → made (told column) (seq (read_names 44 (codes ",")) (maybe false (is 32) read_echo) bs) ≡ stopped left
after_ends column bs r1 names left h g =
    after_is column bs ∙ ap (λ st. on st (λ names rest. made {B = List Named × Bool} (λ echo. (names, echo)) (maybe false (is 32) read_echo rest))) h ∙ ap (made {B = List Named × Bool} (λ echo. (names, echo))) g

-- a listener, after its name
abbrev listening : ℕ → Named → Reader Line
listening column n rest =
    let list = column + length n.name + 4 in
    on (read_named list rest) (λ l more. made (λ ends. line.Listen n l ends.0 ends.1) (made (told (list + length l.name + 7)) (read_endings more)))

listened_is : (column : ℕ) (bs : List ℕ) → made (listen_line column) (sep read_name (codes " on ") (seq read_name read_endings) bs) ≡ on (close (read_named column) (codes " on ") bs) (listening column)
listened_is column bs = by_name (read_name bs)
  where
    by_endings : (a b : List ℕ) (u : Unit {0}) (st : Step (List (List ℕ) × Bool)) → made (listen_line column) (made (λ c. (a, c)) (made {A = Unit {0} × (List ℕ × (List (List ℕ) × Bool))} (λ ab. ab.1) (made (λ c. (u, c)) (made (λ c. (b, c)) st)))) ≡ made (λ ends. line.Listen (at column a) (at (column + length a + 4) b) ends.0 ends.1) (made (told (column + length a + 4 + length b + 7)) st)
    by_endings a b u (found ends rest) = refl
    by_endings a b u (stopped left) = refl

    by_list : (a : List ℕ) (u : Unit {0}) (st : Step (List ℕ)) → made (listen_line column) (made (λ c. (a, c)) (made {A = Unit {0} × (List ℕ × (List (List ℕ) × Bool))} (λ ab. ab.1) (made (λ c. (u, c)) (on st (λ b rest. made (λ c. (b, c)) (read_endings rest)))))) ≡ on (made (at (column + length a + 4)) st) (λ l more. made (λ ends. line.Listen (at column a) l ends.0 ends.1) (made (told (column + length a + 4 + length l.name + 7)) (read_endings more)))
    by_list a u (found b rest) = by_endings a b u (read_endings rest)
    by_list a u (stopped left) = refl

    by_word : (a : List ℕ) (st : Step (Unit {0})) → made (listen_line column) (made (λ c. (a, c)) (made {A = Unit {0} × (List ℕ × (List (List ℕ) × Bool))} (λ ab. ab.1) (on st (λ u rest. made (λ c. (u, c)) (seq read_name read_endings rest))))) ≡ on (made {A = Named × Unit {0}} (λ ab. ab.0) (made (λ b. (at column a, b)) st)) (listening column)
    by_word a (found u rest) = by_list a u (read_name rest)
    by_word a (stopped left) = refl

    by_name : (st : Step (List ℕ)) → made (listen_line column) (on st (λ a rest. made (λ c. (a, c)) (made {A = Unit {0} × (List ℕ × (List (List ℕ) × Bool))} (λ ab. ab.1) (on (read_word (codes " on ") rest) (λ u more. made (λ c. (u, c)) (seq read_name read_endings more)))))) ≡ on (made {A = Named × Unit {0}} (λ ab. ab.0) (on (made (at column) st) (λ a rest. made (λ b. (a, b)) (read_word (codes " on ") rest)))) (listening column)
    by_name (found a rest) = by_word a (read_word (codes " on ") rest)
    by_name (stopped left) = refl

pub listened_stops : (column : ℕ) (bs : List ℕ) (left : ℕ) → close (read_named column) (codes " on ") bs ≡ stopped left → made (listen_line column) (sep read_name (codes " on ") (seq read_name read_endings) bs) ≡ stopped left
listened_stops column bs left h = listened_is column bs ∙ ap (λ st. on st (listening column)) h

-- after the name and ` on `
listened_on : (column : ℕ) (bs r1 : List ℕ) (n : Named) → close (read_named column) (codes " on ") bs ≡ found n r1 → made (listen_line column) (sep read_name (codes " on ") (seq read_name read_endings) bs) ≡ listening column n r1
listened_on column bs r1 n h = listened_is column bs ∙ ap (λ st. on st (listening column)) h

pub listened_lone : (column position : ℕ) (bs r1 : List ℕ) (n : Named) → position ≡ column + length n.name + 4 → (left : ℕ) → close (read_named column) (codes " on ") bs ≡ found n r1 → read_named position r1 ≡ stopped left → made (listen_line column) (sep read_name (codes " on ") (seq read_name read_endings) bs) ≡ stopped left
listened_lone column position bs r1 n e left h g =
    let list = column + length n.name + 4 in
    listened_on column bs r1 n h
    ∙ ap (λ st. on st (λ l more. made {A = List Named × Bool} (λ ends. line.Listen n l ends.0 ends.1) (made (told (list + length l.name + 7)) (read_endings more)))) (ap (λ c. read_named c r1) (sym e) ∙ g)

pub listened_ends : (column : ℕ) (bs r1 r2 : List ℕ) (n l : Named) (left : ℕ) → close (read_named column) (codes " on ") bs ≡ found n r1 → read_named (column + length n.name + 4) r1 ≡ found l r2 → made (told (column + length n.name + 4 + length l.name + 7)) (read_endings r2) ≡ stopped left → made (listen_line column) (sep read_name (codes " on ") (seq read_name read_endings) bs) ≡ stopped left
listened_ends column bs r1 r2 n l left h g k =
    let list = column + length n.name + 4 in
    listened_on column bs r1 n h
    ∙ ap (λ st. on st (λ l more. made {A = List Named × Bool} (λ ends. line.Listen n l ends.0 ends.1) (made (told (list + length l.name + 7)) (read_endings more)))) g
    ∙ ap (made {A = List Named × Bool} (λ ends. line.Listen n l ends.0 ends.1)) k

pub listened_found : (column : ℕ) (bs r1 r2 rest : List ℕ) (n l : Named) (after : List Named) (echo : Bool) → close (read_named column) (codes " on ") bs ≡ found n r1 → read_named (column + length n.name + 4) r1 ≡ found l r2 → made (told (column + length n.name + 4 + length l.name + 7)) (read_endings r2) ≡ found (after, echo) rest → made (listen_line column) (sep read_name (codes " on ") (seq read_name read_endings) bs) ≡ found (line.Listen n l after echo) rest
listened_found column bs r1 r2 rest n l after echo h g k =
    let list = column + length n.name + 4 in
    listened_on column bs r1 n h
    ∙ ap (λ st. on st (λ l more. made {A = List Named × Bool} (λ ends. line.Listen n l ends.0 ends.1) (made (told (list + length l.name + 7)) (read_endings more)))) g
    ∙ ap (made {A = List Named × Bool} (λ ends. line.Listen n l ends.0 ends.1)) k
