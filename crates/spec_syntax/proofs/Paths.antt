-- The readers of paths, of orders and of bounds read their grammars.
use Rattle.std.proofs.Common.{◌≡◌, ℕ, Bool, true, false, ◌||◌, List, [], ◌∷◌, ◌++◌, refl, inl, inr, arith, codes}
use Rattle.std.proofs.lemmas.Bool.{false≢true}
use Rattle.spec_syntax.specs.Grammar.{Grammar, mapped, both, optional, after, apart, more_of, upto}
use Rattle.spec_syntax.specs.Reader.{made_of, seq, after_word, sep, repeated, maybe}
use Rattle.spec_syntax.proofs.ReadSteps.{Tails, followed, Reads, Has, HasTail}
use Rattle.spec_syntax.proofs.Sequences.{followed_has, made_of_reads, seq_reads, after_reads, sep_reads}
use Rattle.spec_syntax.proofs.Choices.{or_else_reads}
use Rattle.spec_syntax.proofs.Repetitions.{Begun, Unbegun, begun_word, starts_begun, maybe_reads, upto_reads}
use Rattle.spec_syntax.proofs.Tables.{table_reads}
use Rattle.spec_lang.specs.declared.Bounds.{Bounds}
use Rattle.spec_lang.specs.declared.Bounds.TheVariants.{Head, Tail, Middle}
use Rattle.spec_lang.specs.Sorting.{Key}
use Rattle.spec_syntax.specs.Number.{is_digit}
use Rattle.spec_syntax.specs.Path.{path_index, path, upward, downward, key, order}
use Rattle.spec_syntax.specs.Bounds.{short_number, two_numbers, bounds}
use Rattle.spec_syntax.specs.ValueReader.{is}
use Rattle.spec_syntax.specs.LanguageReader.{read_index, read_steps, read_path, read_key, read_order, read_short, read_two_numbers, read_bounds}
use Rattle.spec_syntax.proofs.Firsts.{begun_mapped, none_mapped, none_outside}
use Rattle.spec_syntax.proofs.Numbers.{natural_reads, begun_natural, has_natural}
use Rattle.spec_syntax.proofs.Lists.{ReadsAhead}
use Rattle.spec_syntax.proofs.Ahead.{unbegun_less, has_upto, has_after, begun_more_of, unbegun_after, unbegun_upto}
use Rattle.spec_basics.proofs.Booleans.{or_left}

-- the bytes that go on with a path
abbrev pub on_path : ℕ → Bool
on_path b = is_digit b || is 46 b

or_second : (a b : Bool) → b ≡ true → (a || b) ≡ true
or_second true b h = refl
or_second false b h = h

pub digitless : (F : Tails) → Unbegun on_path F → Unbegun is_digit F
digitless F un = unbegun_less on_path is_digit F (λ b h. or_left (is_digit b) (is 46 b) h) un

dotless : (F : Tails) → Unbegun on_path F → Unbegun (is 46) F
dotless F un = unbegun_less on_path (is 46) F (λ b h. or_second (is_digit b) (is 46 b) h) un

abbrev one_step : Grammar ℕ
one_step = after (codes ".") path_index

abbrev steps : Grammar (List ℕ)
steps = more_of path_index (upto 15 one_step)

pub begun_path : Begun (is 46) path
begun_path = begun_word (is 46) 46 [] (optional [] steps) refl

abbrev pub has_path : Has path
has_path = ([], 46 ∷ [], ((tt, []), (46 ∷ [], [], refl, inr (tt, refl, refl), refl), refl))

index_reads : (n k : ℕ) (F : Tails) → HasTail F → Unbegun is_digit F → Reads n path_index (followed (upto k one_step) F) read_index
index_reads n k F some un = natural_reads n 65535 (followed (upto k one_step) F) (has_upto k one_step F some) (unbegun_upto is_digit 46 [] path_index k F refl un)

pub path_reads : (n : ℕ) → ReadsAhead n on_path path read_path
path_reads n F some un =
    after_reads n n (codes ".") (optional [] steps) F (maybe [] is_digit read_steps) (omega arith) ([], [], inr (tt, refl, refl)) some
    (maybe_reads n [] is_digit steps F read_steps (begun_more_of is_digit path_index (upto 15 one_step) (begun_natural 65535)) (digitless F un)
    (made_of_reads n (λ b. b.0 ∷ b.1) (both path_index (upto 15 one_step)) F (seq read_index (repeated 15 (is 46) (after_word (codes ".") read_index)))
    (seq_reads n path_index (upto 15 one_step) F read_index (repeated 15 (is 46) (after_word (codes ".") read_index))
    (index_reads n 15 F some (digitless F un))
    (upto_reads n (is 46) one_step F (after_word (codes ".") read_index) (begun_word (is 46) 46 [] path_index refl) (dotless F un) 15
    (λ k l. after_reads n n (codes ".") path_index (followed (upto k one_step) F) read_index (omega arith) (has_natural 65535) (has_upto k one_step F some) (index_reads n k F some (digitless F un)))))))

pub key_reads : (n : ℕ) → ReadsAhead n on_path key read_key
key_reads n F some un =
    or_else_reads n (is 100) (mapped downward (after (codes "desc ") path)) (mapped upward path) F (made_of downward (after_word (codes "desc ") read_path)) (made_of upward read_path)
    (starts_begun (is 100) (mapped downward (after (codes "desc ") path)) F (begun_mapped (is 100) downward (after (codes "desc ") path) (begun_word (is 100) 100 (codes "esc ") path refl)))
    (none_mapped (is 100) upward path F (none_outside (is 46) 100 path F refl begun_path))
    (made_of_reads n downward (after (codes "desc ") path) F (after_word (codes "desc ") read_path) (after_reads n n (codes "desc ") path F read_path (omega arith) has_path some (path_reads n F some un)))
    (made_of_reads n upward path F read_path (path_reads n F some un))

-- the bytes that go on with an order
abbrev pub on_order : ℕ → Bool
on_order b = is 44 b || on_path b

pathless : (F : Tails) → Unbegun on_order F → Unbegun on_path F
pathless F un = unbegun_less on_order on_path F (λ b h. or_second (is 44 b) (on_path b) h) un

commaless : (F : Tails) → Unbegun on_order F → Unbegun (is 44) F
commaless F un = unbegun_less on_order (is 44) F (λ b h. or_left (is 44 b) (on_path b) h) un

abbrev one_key : Grammar Key
one_key = after (codes ", ") key

abbrev has_key : Has key
has_key = (upward [], 46 ∷ [], inr ([], has_path.2, refl))

keys_reads : (n k : ℕ) (F : Tails) → HasTail F → Unbegun on_path F → Reads n key (followed (upto k one_key) F) read_key
keys_reads n k F some un = key_reads n (followed (upto k one_key) F) (has_upto k one_key F some) (unbegun_upto on_path 44 (32 ∷ []) key k F refl un)

pub has_order : Has order
has_order = (upward [] ∷ [], 46 ∷ [], ((upward [], []), (46 ∷ [], [], has_key.2, refl, refl), refl))

pub order_reads : (n : ℕ) → ReadsAhead n on_order order read_order
order_reads n F some un =
    made_of_reads n (λ b. b.0 ∷ b.1) (both key (upto 7 one_key)) F (seq read_key (repeated 7 (is 44) (after_word (codes ", ") read_key)))
    (seq_reads n key (upto 7 one_key) F read_key (repeated 7 (is 44) (after_word (codes ", ") read_key))
    (keys_reads n 7 F some (pathless F un))
    (upto_reads n (is 44) one_key F (after_word (codes ", ") read_key) (begun_word (is 44) 44 (32 ∷ []) key refl) (commaless F un) 7
    (λ k l. after_reads n n (codes ", ") key (followed (upto k one_key) F) read_key (omega arith) has_key (has_upto k one_key F some) (keys_reads n k F some (pathless F un)))))

has_two : (k : ℕ → ℕ → Bounds) → Has (two_numbers k)
has_two k =
    let zero_is = (has_natural 4294967295).2 in
    (k 0 0, 48 ∷ 32 ∷ 48 ∷ [], ((0, 0), (48 ∷ [], 32 ∷ 48 ∷ [], zero_is, ((tt, 0), (32 ∷ [], 48 ∷ [], refl, zero_is, refl), refl), refl), refl))

pub two_reads : (n : ℕ) (F : Tails) → HasTail F → Unbegun is_digit F → (k : ℕ → ℕ → Bounds) → Reads n (two_numbers k) F (read_two_numbers k)
two_reads n F some un k =
    made_of_reads n (λ ab. k ab.0 ab.1) (apart short_number (codes " ") short_number) F (sep read_short (codes " ") read_short)
    (sep_reads n short_number (codes " ") short_number F read_short read_short (has_natural 4294967295) some
    (natural_reads n 4294967295 (followed (after (codes " ") short_number) F) (followed_has (after (codes " ") short_number) F (has_after (codes " ") short_number (has_natural 4294967295)) some) (unbegun_after is_digit 32 [] short_number F refl))
    (natural_reads n 4294967295 F some un))

pub bounds_reads : (n : ℕ) → ReadsAhead n is_digit bounds read_bounds
bounds_reads n F some un =
    table_reads n two_numbers read_two_numbers F some has_two (two_reads n F some un) (codes "head ", Head) ((codes "tail ", Tail) ∷ (codes "middle ", Middle) ∷ [])
    ((refl, (refl, tt)), ((refl, tt), (tt, tt)))

pub has_bounds : Has bounds
has_bounds = let some : Has (two_numbers Head) = has_two Head in (some.0, codes "head " ++ some.1, inl ((tt, some.0), (codes "head ", some.1, refl, some.2, refl), refl))
