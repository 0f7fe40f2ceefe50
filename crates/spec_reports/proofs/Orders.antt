-- Bytes spell one order, or none, and it is known which.
use Rattle.std.proofs.Common.{◌≡◌, ◌∙◌, ◌⊎◌, ℕ, ◌≤◌, Bool, true, false, not, eqb, List, [], ◌∷◌, ◌++◌, length, codes, refl, sym, ap, subst, inl, inr, arith}
use Rattle.std.specs.Prelude.{decimal}
use Rattle.std.specs.List.{AllByRecursion}
use Rattle.std.proofs.lemmas.Bool.Decides.{nat_tests}
use Rattle.spec_syntax.specs.Grammar.{Grammar, word, mapped, either, after, many, listed, words}
use Rattle.spec_syntax.specs.Reader.{Reader, Verdict, read, fault, whole, first_is, read_word, made_of, seq, after_word, all_of, or_else, table}
use Rattle.spec_syntax.proofs.ReadSteps.{Tails, no_more, Reads, Has, HasTail}
use Rattle.spec_syntax.proofs.Sequences.{made_of_reads, word_reads}
use Rattle.spec_syntax.proofs.Choices.{or_else_reads}
use Rattle.spec_syntax.proofs.Repetitions.{Begun, Unbegun, starts_begun, none_begun}
use Rattle.spec_syntax.proofs.Tables.{table_reads}
use Rattle.spec_syntax.proofs.Wholes.{IsVerdict, verdict_of}
use Rattle.spec_syntax.specs.Number.{is_digit}
use Rattle.spec_syntax.specs.Bounds.{short_number}
use Rattle.spec_syntax.specs.ValueReader.{is}
use Rattle.spec_syntax.specs.LanguageReader.{read_short}
use Rattle.spec_syntax.proofs.Ahead.{begun_words, begun_more_of}
use Rattle.spec_syntax.proofs.Lists.{ReadsAhead, listed_reads}
use Rattle.spec_syntax.proofs.Numbers.{has_natural, natural_reads}
use Rattle.spec_syntax.proofs.Spelled.{natural_decimal}
use Rattle.spec_syntax.proofs.Spellings.{natural_is, natural_most}
use Rattle.spec_lines.proofs.Composites.{ends, nothing_follows}
use Rattle.gl_outside.specs.declared.gate.Actor.{Actor}
use Rattle.gl_outside.specs.declared.gate.Actor.TheVariants.{Writer, Proxy}
use Rattle.spec_reports.specs.Order.{spelled_actor, spelled_rest, spelled_order, IsActor}

-- Orders as a grammar: a dash, or actors with commas between them.
abbrev numbered : (ℕ → Actor) → Grammar Actor
numbered k = mapped k short_number

abbrev actor_words : List (List ℕ × (ℕ → Actor))
actor_words = (codes "w", Writer) ∷ (codes "p", Proxy) ∷ []

abbrev actor : Grammar Actor
actor = words numbered actor_words

abbrev dash : Grammar (List Actor)
dash = mapped (λ _. []) (word (codes "-"))

abbrev actors : Grammar (List Actor)
actors = listed actor (codes ",")

abbrev pub order : Grammar (List Actor)
order = either dash actors

-- and its reader
abbrev read_numbered : (ℕ → Actor) → Reader Actor
read_numbered k = made_of k read_short

abbrev read_actor : Reader Actor
read_actor = table read_numbered actor_words

abbrev read_dash : Reader (List Actor)
read_dash = made_of (λ _. []) (read_word (codes "-"))

abbrev read_actors : Reader (List Actor)
read_actors = made_of (λ b. b.0 ∷ b.1) (seq read_actor (all_of (is 44) (after_word (codes ",") read_actor)))

abbrev read_order : Reader (List Actor)
read_order = or_else (is 45) read_dash read_actors

has_numbered : (k : ℕ → Actor) → Has (numbered k)
has_numbered k = let some : Has short_number = has_natural 4294967295 in (k some.0, some.1, (some.0, some.2, refl))

numbered_reads : (n : ℕ) (F : Tails) → HasTail F → Unbegun is_digit F → (k : ℕ → Actor)
    → Reads n (numbered k) F (read_numbered k)
numbered_reads n F some un k = made_of_reads n k short_number F read_short (natural_reads n 4294967295 F some un)

actor_reads : (n : ℕ) → ReadsAhead n is_digit actor read_actor
actor_reads n F some un =
    table_reads n numbered read_numbered F some has_numbered (numbered_reads n F some un) (codes "w", Writer)
    ((codes "p", Proxy) ∷ []) ((refl, tt), (tt, tt))

has_actor : Has actor
has_actor =
    let zero_is = (has_natural 4294967295).2 in
    (Writer 0, codes "w0", inl ((tt, Writer 0), (codes "w", codes "0", refl, (0, zero_is, refl), refl), refl))

actors_reads : (n : ℕ) → Reads n actors no_more read_actors
actors_reads n =
    listed_reads n is_digit actor read_actor no_more refl has_actor nothing_follows (ends (is 44)) (ends is_digit)
    (actor_reads n)

dash_reads : (n : ℕ) → Reads n dash no_more read_dash
dash_reads n =
    made_of_reads n (λ _. []) (word (codes "-")) no_more (read_word (codes "-"))
    (word_reads n (codes "-") no_more nothing_follows)

begun_dash : Begun (is 45) dash
begun_dash a t s = subst (λ bs. first_is (is 45) bs ≡ true) (sym s.1) refl

abbrev is_other : ℕ → Bool
is_other b = not (eqb b 45)

begun_actors : Begun is_other actors
begun_actors =
    begun_more_of is_other actor (many (after (codes ",") actor))
    (begun_words is_other numbered actor_words (refl, (refl, tt)))

no_dash : (b : ℕ) → is_other b ≡ true → is 45 b ≡ false
no_dash b h = grind (arith, nat_tests)

order_reads : (n : ℕ) → Reads n order no_more read_order
order_reads n =
    or_else_reads n (is 45) dash actors no_more read_dash read_actors
    (starts_begun (is 45) dash no_more begun_dash) (none_begun is_other (is 45) actors no_more no_dash begun_actors)
    (dash_reads n) (actors_reads n)

order_verdict : (bs : List ℕ) → IsVerdict order bs (whole (read_order bs))
order_verdict bs = verdict_of order bs (read_order bs) (order_reads (length bs) bs (omega arith))

-- the bytes are the spelling of this order, whose numbers are in range
abbrev pub Spelled : List ℕ → List Actor → Type 0
Spelled bs entries = (bs ≡ spelled_order entries) × AllByRecursion IsActor entries

-- a letter and a number
kind_is : (k : ℕ → Actor) (w : List ℕ) (a : Actor) (u : List ℕ)
    → ((n : ℕ) → n ≤ 4294967295 → (w ++ decimal n ≡ spelled_actor (k n)) × IsActor (k n))
    → after w (numbered k) a u → (u ≡ spelled_actor a) × IsActor a
kind_is k w a u is g =
    let n : ℕ = g.1.3.0 in
    let digits : g.1.1 ≡ decimal n = natural_is 4294967295 n g.1.1 (omega arith) (omega arith) g.1.3.1 in
    let made = is n (natural_most 4294967295 n g.1.1 (omega arith) g.1.3.1) in
    let same : k n ≡ a = sym (g.2 ∙ g.1.3.2) in
    subst (λ (x : Actor). (u ≡ spelled_actor x) × IsActor x) same
    (g.1.4 ∙ ap (λ x. x ++ g.1.1) g.1.2 ∙ ap (λ x. w ++ x) digits ∙ made.0, made.1)

actor_is : (a : Actor) (u : List ℕ) → actor a u → (u ≡ spelled_actor a) × IsActor a
actor_is a u (inl g) = kind_is Writer (codes "w") a u (λ n l. (refl, omega (arith, l))) g
actor_is a u (inr (inl g)) = kind_is Proxy (codes "p") a u (λ n l. (refl, omega (arith, l))) g
actor_is a u (inr (inr g)) = absurd g

rest_is : (entries : List Actor) (v : List ℕ) → many (after (codes ",") actor) entries v
    → (v ≡ spelled_rest entries) × AllByRecursion IsActor entries
rest_is [] v s = (s, tt)
rest_is (a ∷ entries) v s =
    let one = actor_is s.2.0.1 s.2.1.1 s.2.1.3 in
    let others = rest_is entries s.1 s.3 in
    let after_comma : s.0 ≡ 44 ∷ spelled_actor s.2.0.1 =
    s.2.1.4 ∙ ap (λ x. x ++ s.2.1.1) s.2.1.2 ∙ ap (λ x. 44 ∷ x) one.0 in
    let first : s.0 ≡ 44 ∷ spelled_actor a = after_comma ∙ ap (λ x. 44 ∷ spelled_actor x) (sym s.2.2) in
    let whole_is = s.4 ∙ ap (λ x. x ++ s.1) first ∙ ap (λ x. (44 ∷ spelled_actor a) ++ x) others.0 in
    (whole_is, (subst IsActor (sym s.2.2) one.1, others.1))

spelled_from : (bs : List ℕ) (entries : List Actor) → order entries bs → Spelled bs entries
spelled_from bs entries (inl g) = subst (Spelled bs) (sym g.2) (g.1, tt)
spelled_from bs entries (inr g) =
    let one = actor_is g.0.0 g.1.0 g.1.2 in
    let others = rest_is g.0.1 g.1.1 g.1.3 in
    subst (Spelled bs) (sym g.2)
    (g.1.4 ∙ ap (λ x. x ++ g.1.1) one.0 ∙ ap (λ x. spelled_actor g.0.0 ++ x) others.0, (one.1, others.1))

actor_again : (a : Actor) → IsActor a → actor a (spelled_actor a)
actor_again (Writer n) l =
    inl (
      (tt, Writer n),
      (codes "w", decimal n, refl, (n, natural_decimal 4294967295 n (omega (arith, l)) (omega arith), refl), refl),
      refl,
    )
actor_again (Proxy n) l =
    inr (inl (
      (tt, Proxy n),
      (codes "p", decimal n, refl, (n, natural_decimal 4294967295 n (omega (arith, l)) (omega arith), refl), refl),
      refl,
    ))

rest_again : (entries : List Actor) → AllByRecursion IsActor entries
    → many (after (codes ",") actor) entries (spelled_rest entries)
rest_again [] all = refl
rest_again (a ∷ entries) all = (
  44 ∷ spelled_actor a,
  spelled_rest entries,
  ((tt, a), (codes ",", spelled_actor a, refl, actor_again a all.0, refl), refl),
  rest_again entries all.1,
  refl,
)

order_again : (entries : List Actor) → AllByRecursion IsActor entries → order entries (spelled_order entries)
order_again [] all = inl (tt, refl, refl)
order_again (a ∷ entries) all =
    inr (
      (a, entries),
      (spelled_actor a, spelled_rest entries, actor_again a all.0, rest_again entries all.1, refl),
      refl,
    )

order_from : (bs : List ℕ) (entries : List Actor) → Spelled bs entries → order entries bs
order_from bs entries s = subst (order entries) (sym s.0) (order_again entries s.1)

one_of : (bs : List ℕ) (v : Verdict (List Actor)) → IsVerdict order bs v → (p q : List Actor) → order p bs → order q bs
    → p ≡ q
one_of bs (read c) v p q s t = v.alone p s ∙ sym (v.alone q t)
one_of bs (fault left) v p q s t = absurd (v.0 p s)

-- bytes are the spelling of one order at most
pub one_order : (bs : List ℕ) (p q : List Actor) → Spelled bs p → Spelled bs q → p ≡ q
one_order bs p q s t = one_of bs (whole (read_order bs)) (order_verdict bs) p q (order_from bs p s) (order_from bs q t)

some_of : (bs : List ℕ) (v : Verdict (List Actor)) → IsVerdict order bs v
    → ((p : List Actor) × Spelled bs p) ⊎ ((p : List Actor) → ¬ Spelled bs p)
some_of bs (read c) v = inl (c, spelled_from bs c v.spelled)
some_of bs (fault left) v = inr (λ p s. v.0 p (order_from bs p s))

-- and they are the spelling of one, or of none
pub order_or_none : (bs : List ℕ) → ((p : List Actor) × Spelled bs p) ⊎ ((p : List Actor) → ¬ Spelled bs p)
order_or_none bs = some_of bs (whole (read_order bs)) (order_verdict bs)
