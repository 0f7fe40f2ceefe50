-- The readers of texts read their grammars.
use Rattle.std.proofs.Common.{◌≡◌, ℕ, ◌+◌, ◌*◌, ◌≤◌, Bool, true, false, ◌&&◌, ◌||◌, not, cond, eqb, leb, List, [], ◌∷◌, ◌++◌, refl, inr, arith, codes}
use Rattle.std.specs.List.{AllByRecursion}
use Rattle.std.proofs.lemmas.Bool.{false≢true}
use Rattle.std.proofs.lemmas.Bool.Decides.{nat_tests}
use Rattle.spec_syntax.specs.Grammar.{empty, class, mapped, word, both, after, closed, many, led}
use Rattle.spec_syntax.specs.Reader.{nothing, byte_of, made_of, seq, after_word, close, all_of, lead}
use Rattle.spec_syntax.proofs.ReadSteps.{Tails, followed, Reads, Has, HasTail}
use Rattle.spec_syntax.proofs.Sequences.{followed_has, made_of_step, made_of_reads, nothing_step, seq_reads, after_reads, close_reads}
use Rattle.spec_syntax.proofs.Choices.{HasByte, or_else_reads, class_reads, led_reads}
use Rattle.spec_syntax.proofs.Repetitions.{Begun, begun_word, starts_begun, many_reads, unbegun_word}
use Rattle.spec_syntax.specs.Number.{between}
use Rattle.spec_syntax.specs.Text.{continued, is_lead, after_lead, plain, hex_value, second_hex, hex_byte, is_short, short_for, escape, char, joined, texts}
use Rattle.spec_syntax.specs.ValueReader.{is, read_continued, read_plain, read_hex_byte, read_escape, read_char, begins_char, read_text}
use Rattle.spec_syntax.proofs.Firsts.{begun_led, begun_mapped, begun_either, begun_more, none_outside}
use Rattle.spec_basics.proofs.Booleans.{or_left}

-- the ranges have bytes
abbrev AreRanges : List (ℕ × ℕ) → Type 0
AreRanges ranges = AllByRecursion (λ r. r.0 ≤ r.1) ranges

low_between : (low high : ℕ) → low ≤ high → between low high low ≡ true
low_between low high l = grind (arith, nat_tests)

has_continued : (ranges : List (ℕ × ℕ)) → AreRanges ranges → Has (continued ranges)
has_continued [] h = ([], [], (tt, refl, refl))
has_continued (r ∷ ranges) h =
    let rest : Has (continued ranges) = has_continued ranges h.1 in
    (r.0 ∷ rest.0, (r.0 ∷ []) ++ rest.1, ((r.0, rest.0), (r.0 ∷ [], rest.1, (low_between r.0 r.1 h.0, refl), rest.2, refl), refl))

continued_reads : (n : ℕ) (ranges : List (ℕ × ℕ)) (F : Tails) → AreRanges ranges → HasTail F → Reads n (continued ranges) F (read_continued ranges)
continued_reads n [] F h some bs l = made_of_step (λ _. []) empty F bs (nothing bs) (nothing_step F bs)
continued_reads n (r ∷ ranges) F h some bs l =
    made_of_reads n (λ b. b.0 ∷ b.1) (both (class (between r.0 r.1)) (continued ranges)) F (seq (byte_of (between r.0 r.1)) (read_continued ranges))
    (seq_reads n (class (between r.0 r.1)) (continued ranges) F (byte_of (between r.0 r.1)) (read_continued ranges)
    (class_reads n (between r.0 r.1) (followed (continued ranges) F) (r.0, low_between r.0 r.1 h.0) (followed_has (continued ranges) F (has_continued ranges h.1) some))
    (continued_reads n ranges F h.1 some)) bs l

either_way : (b : Bool) (xs ys : List (ℕ × ℕ)) → AreRanges xs → AreRanges ys → AreRanges (cond b xs ys)
either_way true xs ys h g = h
either_way false xs ys h g = g

ranges_after : (b : ℕ) → AreRanges (after_lead b)
ranges_after b =
    either_way (leb b 127) _ _ tt
    (either_way (leb b 223) _ _ (omega arith, tt)
    (either_way (eqb b 224) _ _ (omega arith, (omega arith, tt))
    (either_way (eqb b 237) _ _ (omega arith, (omega arith, tt))
    (either_way (leb b 239) _ _ (omega arith, (omega arith, tt))
    (either_way (eqb b 240) _ _ (omega arith, (omega arith, (omega arith, tt)))
    (either_way (eqb b 244) _ _ (omega arith, (omega arith, (omega arith, tt))) (omega arith, (omega arith, (omega arith, tt)))))))))

has_led : Has (led is_lead (λ b. continued (after_lead b)))
has_led = ((32, []), 32 ∷ [], (refl, [], (tt, refl, refl), refl))

pub plain_reads : (n : ℕ) (F : Tails) → HasTail F → Reads n plain F read_plain
plain_reads n F some =
    made_of_reads n (λ b. b.0 ∷ b.1) (led is_lead (λ b. continued (after_lead b))) F (lead is_lead (λ b. read_continued (after_lead b)))
    (led_reads n is_lead (λ b. continued (after_lead b)) F (λ b. read_continued (after_lead b)) has_led some
    (λ b e. continued_reads n (after_lead b) F (ranges_after b) some))

-- a byte of two hex digits has a second digit
second_one : (b : Bool) → (not (b && false)) ≡ true
second_one true = refl
second_one false = refl

has_second : (c : ℕ) → HasByte (second_hex c)
has_second c = (49, second_one (eqb c 48))

has_hex_byte : Has hex_byte
has_hex_byte = (1, 48 ∷ 49 ∷ [], ((48, 49), (refl, 49 ∷ [], (refl, refl), refl), refl))

pub hex_byte_reads : (n : ℕ) (F : Tails) → HasTail F → Reads n hex_byte F read_hex_byte
hex_byte_reads n F some =
    made_of_reads n (λ cd. hex_value cd.0 * 16 + hex_value cd.1) (led (between 48 49) (λ c. class (second_hex c))) F (lead (between 48 49) (λ c. byte_of (second_hex c)))
    (led_reads n (between 48 49) (λ c. class (second_hex c)) F (λ c. byte_of (second_hex c)) ((48, 49), 48 ∷ 49 ∷ [], (refl, 49 ∷ [], (refl, refl), refl)) some
    (λ c e. class_reads n (second_hex c) F (has_second c) some))

begun_class : (p : ℕ → Bool) → Begun p (class p)
begun_class p b t s = let e = s.1 in rw e s.0

has_escape : Has escape
has_escape = (34, 34 ∷ [], inr (34, (refl, refl), refl))

pub escape_reads : (n : ℕ) (F : Tails) → HasTail F → Reads n escape F read_escape
escape_reads n F some =
    or_else_reads n (is 120) (after (codes "x") hex_byte) (mapped short_for (class is_short)) F (after_word (codes "x") read_hex_byte) (made_of short_for (byte_of is_short))
    (starts_begun (is 120) (after (codes "x") hex_byte) F (begun_word (is 120) 120 [] hex_byte refl))
    (none_outside is_short 120 (mapped short_for (class is_short)) F refl (begun_mapped is_short short_for (class is_short) (begun_class is_short)))
    (after_reads n n (codes "x") hex_byte F read_hex_byte (omega arith) has_hex_byte some (hex_byte_reads n F some))
    (made_of_reads n short_for (class is_short) F (byte_of is_short) (class_reads n is_short F (34, refl) some))

abbrev one_byte : ℕ → List ℕ
one_byte b = b ∷ []

begun_plain : Begun is_lead plain
begun_plain = begun_mapped is_lead (λ b. b.0 ∷ b.1) (led is_lead (λ b. continued (after_lead b))) (begun_led is_lead (λ b. continued (after_lead b)))

pub char_reads : (n : ℕ) (F : Tails) → HasTail F → Reads n char F read_char
char_reads n F some =
    or_else_reads n (is 92) (mapped one_byte (after (codes "\\") escape)) plain F (made_of one_byte (after_word (codes "\\") read_escape)) read_plain
    (starts_begun (is 92) (mapped one_byte (after (codes "\\") escape)) F (begun_mapped (is 92) one_byte (after (codes "\\") escape) (begun_word (is 92) 92 [] escape refl)))
    (none_outside is_lead 92 plain F refl begun_plain)
    (made_of_reads n one_byte (after (codes "\\") escape) F (after_word (codes "\\") read_escape)
    (after_reads n n (codes "\\") escape F read_escape (omega arith) has_escape some (escape_reads n F some)))
    (plain_reads n F some)

pub begun_char : Begun begins_char char
begun_char = begun_either begins_char (mapped one_byte (after (codes "\\") escape)) plain
    (begun_mapped begins_char one_byte (after (codes "\\") escape) (begun_word begins_char 92 [] escape refl))
    (begun_more is_lead begins_char plain (λ b h. or_left (is_lead b) (is 92 b) h) begun_plain)

has_closed : Has (closed (many char) (codes "\""))
has_closed = ([], 34 ∷ [], (([], tt), ([], 34 ∷ [], refl, refl, refl), refl))

pub text_reads : (n : ℕ) (F : Tails) → HasTail F → Reads n texts F read_text
text_reads n F some =
    let quote : Tails = followed (word (codes "\"")) F in
    let more : HasTail quote = followed_has (word (codes "\"")) F (tt, 34 ∷ [], refl) some in
    made_of_reads n joined (after (codes "\"") (closed (many char) (codes "\""))) F (after_word (codes "\"") (close (all_of begins_char read_char) (codes "\"")))
    (after_reads n n (codes "\"") (closed (many char) (codes "\"")) F (close (all_of begins_char read_char) (codes "\"")) (omega arith) has_closed some
    (close_reads n (many char) (codes "\"") F (all_of begins_char read_char) some
    (many_reads n begins_char char quote read_char begun_char (unbegun_word begins_char 34 [] F refl)
    (char_reads n (followed (many char) quote) (followed_has (many char) quote ([], [], refl) more)))))

pub begun_texts : Begun (is 34) texts
begun_texts = begun_mapped (is 34) joined (after (codes "\"") (closed (many char) (codes "\""))) (begun_word (is 34) 34 [] (closed (many char) (codes "\"")) refl)
