-- The reader of functions reads its grammar.
use Rattle.std.proofs.Common.{◌≡◌, ℕ, zero, suc, Bool, false, eqb, [], ◌∷◌, ◌++◌, refl, inl, inr, arith, codes}
use Rattle.spec_syntax.specs.Grammar.{Grammar, mapped, word, either, after, closed, apart}
use Rattle.spec_syntax.specs.Reader.{Reader, made_of, after_word, close, sep, or_else}
use Rattle.spec_syntax.proofs.ReadSteps.{Tails, followed, Reads, Has, HasTail}
use Rattle.spec_syntax.proofs.Sequences.{followed_has, made_of_reads, after_reads, close_reads, sep_reads}
use Rattle.spec_syntax.proofs.Choices.{NoneStarts, or_else_reads}
use Rattle.spec_syntax.proofs.Repetitions.{Begun, begun_word, starts_begun, unbegun_word}
use Rattle.spec_lang.specs.Func.{Func, at_path, number, bytes, count, total, sum}
use Rattle.spec_syntax.specs.Number as numbers
use Rattle.spec_syntax.specs.Number.{between}
use Rattle.spec_syntax.specs.Text.{texts}
use Rattle.spec_syntax.specs.Path.{path}
use Rattle.spec_syntax.specs.Func.{counting, totalling, flat_func, adding, list_func, listing, func}
use Rattle.spec_syntax.specs.Value.{bracketed}
use Rattle.spec_syntax.specs.ValueReader.{read_bracketed, is, read_number, read_text}
use Rattle.spec_syntax.specs.LanguageReader.{read_path, read_counting, read_totalling, read_flat_func, read_adding, read_listing, read_func}
use Rattle.spec_syntax.proofs.Firsts.{begun_mapped, none_mapped, none_either, none_outside}
use Rattle.spec_syntax.proofs.Numbers.{number_reads, none_number}
use Rattle.spec_syntax.proofs.Texts.{text_reads, begun_texts}
use Rattle.spec_syntax.proofs.Lists.{Unclosing, ReadsAhead, bracketed_reads}
use Rattle.spec_syntax.proofs.Ahead.{has_after, unbegun_after}
use Rattle.spec_syntax.proofs.Paths.{on_path, digitless, begun_path, has_path, path_reads}

-- two things between parentheses
pub has_pair : {A : Type 0} (V : Grammar A) → Has V → Has (closed (apart V (codes ",") V) (codes ")"))
has_pair V some =
    let a = some.0 in
    let t = some.1 in
    ((a, a), (t ++ 44 ∷ t) ++ 41 ∷ [], (((a, a), tt), (t ++ 44 ∷ t, 41 ∷ [], (t, 44 ∷ t, some.2, ((tt, a), (44 ∷ [], t, refl, some.2, refl), refl), refl), refl, refl), refl))

pub pair_reads : {A : Type 0} (n : ℕ) (p : ℕ → Bool) (V : Grammar A) (r : Reader A) (F : Tails) → p 44 ≡ false → p 41 ≡ false → Has V → HasTail F → ReadsAhead n p V r → Reads n (closed (apart V (codes ",") V) (codes ")")) F (close (sep r (codes ",") r) (codes ")"))
pair_reads n p V r F comma parenthesis has some reads =
    let after_it : Tails = followed (word (codes ")")) F in
    let more : HasTail after_it = followed_has (word (codes ")")) F (tt, 41 ∷ [], refl) some in
    close_reads n (apart V (codes ",") V) (codes ")") F (sep r (codes ",") r) some
    (sep_reads n V (codes ",") V after_it r r has more
    (reads (followed (after (codes ",") V) after_it) (followed_has (after (codes ",") V) after_it (has_after (codes ",") V has) more) (unbegun_after p 44 [] V after_it comma))
    (reads after_it more (unbegun_word p 41 [] F parenthesis)))

begun_counting : Begun (is 99) counting
begun_counting = begun_mapped (is 99) count (after (codes "count(") (closed path (codes ")"))) (begun_word (is 99) 99 (codes "ount(") (closed path (codes ")")) refl)

begun_totalling : Begun (is 115) totalling
begun_totalling = begun_mapped (is 115) (λ ab. total ab.0 ab.1) (after (codes "sum(") (closed (apart path (codes ",") path) (codes ")"))) (begun_word (is 115) 115 (codes "um(") (closed (apart path (codes ",") path) (codes ")")) refl)

has_closed_path : Has (closed path (codes ")"))
has_closed_path = ([], 46 ∷ 41 ∷ [], (([], tt), (46 ∷ [], 41 ∷ [], has_path.2, refl, refl), refl))

counting_reads : (n : ℕ) (F : Tails) → HasTail F → Reads n counting F read_counting
counting_reads n F some =
    made_of_reads n count (after (codes "count(") (closed path (codes ")"))) F (after_word (codes "count(") (close read_path (codes ")")))
    (after_reads n n (codes "count(") (closed path (codes ")")) F (close read_path (codes ")")) (omega arith) has_closed_path some
    (close_reads n path (codes ")") F read_path some (path_reads n (followed (word (codes ")")) F) (followed_has (word (codes ")")) F (tt, 41 ∷ [], refl) some) (unbegun_word on_path 41 [] F refl))))

totalling_reads : (n : ℕ) (F : Tails) → HasTail F → Reads n totalling F read_totalling
totalling_reads n F some =
    made_of_reads n (λ ab. total ab.0 ab.1) (after (codes "sum(") (closed (apart path (codes ",") path) (codes ")"))) F (after_word (codes "sum(") (close (sep read_path (codes ",") read_path) (codes ")")))
    (after_reads n n (codes "sum(") (closed (apart path (codes ",") path) (codes ")")) F (close (sep read_path (codes ",") read_path) (codes ")")) (omega arith) (has_pair path has_path) some
    (pair_reads n on_path path read_path F refl refl has_path some (path_reads n)))

-- a function with no function in it begins with none of the other bytes
none_totalling : (c : ℕ) (F : Tails) → eqb c 115 ≡ false → eqb 45 c ≡ false → eqb 48 c ≡ false → between 49 57 c ≡ false → NoneStarts (is c) (either totalling (mapped number numbers.number)) F
none_totalling c F no_total minusless zeroless h =
    none_either (is c) totalling (mapped number numbers.number) F (none_outside (is 115) c totalling F no_total begun_totalling)
    (none_mapped (is c) number numbers.number F (none_number c F minusless zeroless h))

none_counting : (c : ℕ) (F : Tails) → eqb c 99 ≡ false → eqb c 115 ≡ false → eqb 45 c ≡ false → eqb 48 c ≡ false → between 49 57 c ≡ false → NoneStarts (is c) (either counting (either totalling (mapped number numbers.number))) F
none_counting c F no_count no_total minusless zeroless h =
    none_either (is c) counting (either totalling (mapped number numbers.number)) F (none_outside (is 99) c counting F no_count begun_counting) (none_totalling c F no_total minusless zeroless h)

none_bytes : (c : ℕ) (F : Tails) → eqb c 34 ≡ false → eqb c 99 ≡ false → eqb c 115 ≡ false → eqb 45 c ≡ false → eqb 48 c ≡ false → between 49 57 c ≡ false → NoneStarts (is c) (either (mapped bytes texts) (either counting (either totalling (mapped number numbers.number)))) F
none_bytes c F quoteless no_count no_total minusless zeroless h =
    none_either (is c) (mapped bytes texts) (either counting (either totalling (mapped number numbers.number))) F
    (none_mapped (is c) bytes texts F (none_outside (is 34) c texts F quoteless begun_texts)) (none_counting c F no_count no_total minusless zeroless h)

none_flat : (c : ℕ) (F : Tails) → eqb c 46 ≡ false → eqb c 34 ≡ false → eqb c 99 ≡ false → eqb c 115 ≡ false → eqb 45 c ≡ false → eqb 48 c ≡ false → between 49 57 c ≡ false → NoneStarts (is c) flat_func F
none_flat c F pathless quoteless no_count no_total minusless zeroless h =
    none_either (is c) (mapped at_path path) (either (mapped bytes texts) (either counting (either totalling (mapped number numbers.number)))) F
    (none_mapped (is c) at_path path F (none_outside (is 46) c path F pathless begun_path)) (none_bytes c F quoteless no_count no_total minusless zeroless h)

flat_reads : (n : ℕ) → ReadsAhead n on_path flat_func read_flat_func
flat_reads n F some un =
    or_else_reads n (is 46) (mapped at_path path) (either (mapped bytes texts) (either counting (either totalling (mapped number numbers.number)))) F (made_of at_path read_path)
    (or_else (is 34) (made_of bytes read_text) (or_else (is 99) read_counting (or_else (is 115) read_totalling (made_of number read_number))))
    (starts_begun (is 46) (mapped at_path path) F (begun_mapped (is 46) at_path path begun_path)) (none_bytes 46 F refl refl refl refl refl refl)
    (made_of_reads n at_path path F read_path (path_reads n F some un))
    (or_else_reads n (is 34) (mapped bytes texts) (either counting (either totalling (mapped number numbers.number))) F (made_of bytes read_text) (or_else (is 99) read_counting (or_else (is 115) read_totalling (made_of number read_number)))
    (starts_begun (is 34) (mapped bytes texts) F (begun_mapped (is 34) bytes texts begun_texts)) (none_counting 34 F refl refl refl refl refl)
    (made_of_reads n bytes texts F read_text (text_reads n F some))
    (or_else_reads n (is 99) counting (either totalling (mapped number numbers.number)) F read_counting (or_else (is 115) read_totalling (made_of number read_number))
    (starts_begun (is 99) counting F begun_counting) (none_totalling 99 F refl refl refl refl)
    (counting_reads n F some)
    (or_else_reads n (is 115) totalling (mapped number numbers.number) F read_totalling (made_of number read_number)
    (starts_begun (is 115) totalling F begun_totalling) (none_mapped (is 115) number numbers.number F (none_number 115 F refl refl refl))
    (totalling_reads n F some)
    (made_of_reads n number numbers.number F read_number (number_reads n F some (digitless F un))))))

begun_adding : (V : Grammar Func) → Begun (is 97) (adding V)
begun_adding V = begun_mapped (is 97) (λ ab. sum ab.0 ab.1) (after (codes "add(") (closed (apart V (codes ",") V) (codes ")"))) (begun_word (is 97) 97 (codes "dd(") (closed (apart V (codes ",") V) (codes ")")) refl)

begun_listing : (V : Grammar Func) → Begun (is 91) (listing V)
begun_listing V = begun_mapped (is 91) list_func (bracketed V) (λ a t s. begun_word (is 91) 91 [] _ refl a t s)

none_deep : (depth c : ℕ) (F : Tails) → eqb c 91 ≡ false → NoneStarts (is c) flat_func F → NoneStarts (is c) (either (listing (func depth)) flat_func) F
none_deep depth c F h flat = none_either (is c) (listing (func depth)) flat_func F (none_outside (is 91) c (listing (func depth)) F h (begun_listing (func depth))) flat

unclosing_func : (depth : ℕ) → Unclosing (func depth)
unfolding func
unclosing_func zero F = none_flat 93 F refl refl refl refl refl refl refl
unclosing_func (suc depth) F =
    none_either (is 93) (adding (func depth)) (either (listing (func depth)) flat_func) F (none_outside (is 97) 93 (adding (func depth)) F refl (begun_adding (func depth)))
    (none_deep depth 93 F refl (none_flat 93 F refl refl refl refl refl refl refl))

pub has_func : (depth : ℕ) → Has (func depth)
unfolding func
has_func zero = (at_path [], 46 ∷ [], inl ([], has_path.2, refl))
has_func (suc depth) = (at_path [], 46 ∷ [], inr (inr (inl ([], has_path.2, refl))))

adding_reads : (n : ℕ) (V : Grammar Func) (r : Reader Func) (F : Tails) → Has V → HasTail F → ReadsAhead n on_path V r → Reads n (adding V) F (read_adding r)
adding_reads n V r F has some reads =
    made_of_reads n (λ ab. sum ab.0 ab.1) (after (codes "add(") (closed (apart V (codes ",") V) (codes ")"))) F (after_word (codes "add(") (close (sep r (codes ",") r) (codes ")")))
    (after_reads n n (codes "add(") (closed (apart V (codes ",") V) (codes ")")) F (close (sep r (codes ",") r) (codes ")")) (omega arith) (has_pair V has) some
    (pair_reads n on_path V r F refl refl has some reads))

listing_reads : (n : ℕ) (V : Grammar Func) (r : Reader Func) (F : Tails) → Has V → Unclosing V → HasTail F → ReadsAhead n on_path V r → Reads n (listing V) F (read_listing r)
listing_reads n V r F has unclosing some reads =
    made_of_reads n list_func (bracketed V) F (read_bracketed r) (λ bs h. bracketed_reads n on_path V r F refl refl has unclosing some reads bs (omega arith))

-- a function nested at most so deep
pub func_reads : (n depth : ℕ) → ReadsAhead n on_path (func depth) (read_func depth)
unfolding func read_func
func_reads n zero F some un bs h = flat_reads n F some un bs h
func_reads n (suc depth) F some un bs h =
    or_else_reads n (is 97) (adding (func depth)) (either (listing (func depth)) flat_func) F (read_adding (read_func depth)) (or_else (is 91) (read_listing (read_func depth)) read_flat_func)
    (starts_begun (is 97) (adding (func depth)) F (begun_adding (func depth)))
    (none_deep depth 97 F refl (none_flat 97 F refl refl refl refl refl refl refl))
    (adding_reads n (func depth) (read_func depth) F (has_func depth) some (func_reads n depth))
    (or_else_reads n (is 91) (listing (func depth)) flat_func F (read_listing (read_func depth)) read_flat_func
    (starts_begun (is 91) (listing (func depth)) F (begun_listing (func depth))) (none_flat 91 F refl refl refl refl refl refl refl)
    (listing_reads n (func depth) (read_func depth) F (has_func depth) (unclosing_func depth) some (func_reads n depth))
    (flat_reads n F some un)) bs h
