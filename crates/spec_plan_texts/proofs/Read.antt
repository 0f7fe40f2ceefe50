-- The lines that are read from a text are within the limits of the language.
use Rattle.std.proofs.Common.{◌≡◌, ◌∙◌, ◌+◌, ◌==◌, ◌≤◌, ℕ, Bool, true, false, cond, List, [], ◌∷◌, ◌++◌, max, Some, refl, sym, ap, subst, arith, append_assoc, append-nil}
use Rattle.std.specs.Str.{IsUtf8}
use Rattle.std.specs.List.{All, AllByRecursion}
use Rattle.std.proofs.lemmas.Option.{same_Some, none-some}
use Rattle.std.proofs.lemmas.List.Elements.{All-from_recursion}
use Rattle.std.proofs.lemmas.Str.{IsUtf8-append, IsUtf8-nil}
use Rattle.std.proofs.lemmas.Bool.Decides.{nat_tests}
use Rattle.csv.specs.Reading.{Reached, default_config, strip_bom}
use Rattle.csv.specs.Records.{AllText}
use Rattle.csv.specs.declared.parser.State.{State}
use Rattle.csv.specs.declared.parser.State.TheVariants.{StartRecord}
use Rattle.spec_plans.specs.Tree.{Tree, num, text, items, trees, trees_nesting}
use Rattle.spec_syntax.specs.Block.{AreFields, AreRows, BlockHas}
use Rattle.spec_syntax.proofs.BlockTexts.{IsDefault, OfText, record_texts, without_mark}
use Rattle.spec_syntax.specs.Proper.{AreProper}
use Rattle.spec_syntax.proofs.Utf8.{ascii_utf8}
use Rattle.spec_syntax.specs.Cuts.{with_prefix, lines_in}
use Rattle.gl_lines.specs.declared.named.Named.{Named}
use Rattle.gl_lines.specs.declared.line.Line.{Line}
use Rattle.gl_lines.specs.declared.line.Line.TheVariants as line
use Rattle.gl_lines.specs.declared.line.NumberedLine.{NumberedLine}
use Rattle.spec_lines.specs.Within.{IsNamed, IsLiteral, IsWithin}
use Rattle.spec_lines.proofs.Placed.{line_placed}
use Rattle.spec_plan_texts.specs.Reading.{Outcome, all_read, stopped, Mode, outside, inside, Comes, at_end, long, skipped, formless, misplaced, plain, opening, in_block, closing, endless, SpellsLine, opened_by, numbered, rows_of}
use Rattle.spec_plan_texts.specs.Text.{ReadsTo}
use Rattle.spec_plan_texts.proofs.CutLines.{utf8_cut}
use Rattle.spec_plan_texts.proofs.Fine.{HasNoFeed, no_feed_append}
use Rattle.spec_plan_texts.proofs.Cut.{line_first}
use Rattle.spec_plan_texts.proofs.Good.{AllWithin}
use Rattle.spec_basics.proofs.Lists.{all_weaker, all_map, all_append}

-- the lines of a text are texts: those of what was gone over without a line feed, and of the rest
last_line : (u : List ℕ) → HasNoFeed u → IsUtf8 u → AllByRecursion IsUtf8 (lines_in u)
last_line [] h t = tt
last_line (b ∷ u) h t = subst (AllByRecursion IsUtf8) (sym (alone b u h)) (t, tt)
  where
    alone : (b : ℕ) (u : List ℕ) → HasNoFeed (b ∷ u) → lines_in (b ∷ u) ≡ (b ∷ u) ∷ []
    alone b [] h = ap (λ t. cond t ([] ∷ []) ((b ∷ []) ∷ [])) h.0
    alone b (c ∷ u) h = ap (λ t. cond t ([] ∷ lines_in (c ∷ u)) (with_prefix b (lines_in (c ∷ u)))) h.0
        ∙ ap (with_prefix b) (alone c u h.1)

lines_utf8_after : (u rest : List ℕ) → HasNoFeed u → IsUtf8 (u ++ rest) → AllByRecursion IsUtf8 (lines_in (u ++ rest))
lines_utf8_after u [] h t = last_line_nil (append-nil u)
  where
    last_line_nil : u ++ [] ≡ u → AllByRecursion IsUtf8 (lines_in (u ++ []))
    last_line_nil e = subst (λ w. AllByRecursion IsUtf8 (lines_in w)) (sym e) (last_line u h (subst IsUtf8 e t))
lines_utf8_after u (b ∷ rest) h t = by (λ w. lines_utf8_after w rest) (b == 10) refl
  where
    by : ((w : List ℕ) → HasNoFeed w → IsUtf8 (w ++ rest) → AllByRecursion IsUtf8 (lines_in (w ++ rest))) → (s : Bool)
        → (b == 10) ≡ s
        → AllByRecursion IsUtf8 (lines_in (u ++ b ∷ rest))
    by remaining true e =
        let is : b ≡ 10 = grind (arith, nat_tests) in
        let cut : IsUtf8 u × IsUtf8 rest =
        utf8_cut 10 u rest (omega arith) (subst (λ c. IsUtf8 (u ++ c ∷ rest)) is t) in
        subst (λ c. AllByRecursion IsUtf8 (lines_in (u ++ c ∷ rest))) (sym is)
        (subst (AllByRecursion IsUtf8) (sym (line_first u rest h)) (cut.0, remaining [] tt cut.1))
    by remaining false e =
        subst (λ w. AllByRecursion IsUtf8 (lines_in w)) (append_assoc u (b ∷ []) rest)
        (remaining (u ++ b ∷ []) (no_feed_append u (b ∷ []) h (e, tt))
        (subst IsUtf8 (sym (append_assoc u (b ∷ []) rest)) t))

pub lines_utf8 : (bytes : List ℕ) → IsUtf8 bytes → AllByRecursion IsUtf8 (lines_in bytes)
lines_utf8 bytes t = lines_utf8_after [] bytes tt t

-- the fields of the records of a text
records_texts : (rows : List (List (List ℕ))) (s t : State) (xs ys : List ℕ) → IsDefault s → IsUtf8 xs
    → Reached default_config s xs rows t ys → AllByRecursion AllText rows
unfolding Reached
records_texts [] s t xs ys h u r = tt
records_texts (row ∷ rows) s t xs ys h u r =
    let of = subst OfText r.1 (record_texts s xs h u) in
    (subst AllText (sym r.2) of.0, records_texts rows r.0.1 t r.0.2 ys of.1 of.2 r.3)

fields_literal : (fs : List (List ℕ)) (vs : List Tree) → AllText fs → AreFields fs vs
    → AreProper (trees vs) × (trees_nesting (trees vs) ≡ 0)
unfolding AllText
fields_literal [] [] h g = (tt, refl)
fields_literal [] (v ∷ vs) h g = absurd g
fields_literal (f ∷ fs) [] h g = absurd g
fields_literal (f ∷ fs) (num n ∷ vs) h g = let more =
    fields_literal fs vs h.1 g.1 in ((g.0.0, more.0), ap (λ k. max 0 k) more.1)
fields_literal (f ∷ fs) (text bytes ∷ vs) h g = let more =
    fields_literal fs vs h.1 g.1 in ((subst IsUtf8 (sym g.0.0) h.0, more.0), ap (λ k. max 0 k) more.1)
fields_literal (f ∷ fs) (items ts ∷ vs) h g = absurd g.0

rows_literal : (records : List (List (List ℕ))) (rows : List Tree) → AllByRecursion AllText records
    → AreRows records rows → AllByRecursion IsLiteral rows
rows_literal [] [] h g = tt
rows_literal [] (v ∷ vs) h g = absurd g
rows_literal (r ∷ rs) [] h g = absurd g
rows_literal (r ∷ rs) (v ∷ vs) h g =
    let fields = fields_literal r g.0.0 h.0 g.0.1 in
    (subst IsLiteral (sym g.0.2) (fields.0, low (trees_nesting (trees g.0.0)) fields.1), rows_literal rs vs h.1 g.1)
  where
    low : (n : ℕ) → n ≡ 0 → n + 1 ≤ 64
    low n e = omega (arith, e)

block_literal : (block : List ℕ) (rows : List Tree) → IsUtf8 block → BlockHas block rows → AllByRecursion IsLiteral rows
block_literal block rows t h =
    rows_literal h.0 rows
    (records_texts h.0 StartRecord h.1.0 (strip_bom block) h.1.1 tt (without_mark block t) h.1.2) h.2

-- the name of a line that opens a block
opened_named : (l : Line) (named : Named) → opened_by l ≡ Some named → IsWithin l → IsNamed named
opened_named (line.Csv n) named e h = subst IsNamed (same_Some n named e) h
opened_named line.Writer named e h = absurd (none-some named e)
opened_named other named e h = absurd (none-some named e)

spelled_within : (raw : List ℕ) (l : Line) → SpellsLine raw l → IsWithin l
unfolding SpellsLine
spelled_within raw l s = (line_placed l raw s.spelled).0

abbrev IsFineMode : Mode → Type 0
IsFineMode outside = Unit {0}
IsFineMode (inside m named block) = IsNamed named × IsUtf8 block

abbrev IsFineOutcome : Outcome → Type 0
IsFineOutcome (all_read lines) = AllWithin lines
IsFineOutcome (stopped f) = Unit {0}

with_line : (before : List NumberedLine) (n : ℕ) (l : Line) → AllWithin before → IsWithin l
    → AllWithin (before ++ numbered n l ∷ [])
with_line before n l h w = all_append (λ (k : NumberedLine). IsWithin k.what) before (numbered n l ∷ []) h (w, tt)

comes_within : {mode : Mode} {before : List NumberedLine} {n : ℕ} {raws : List (List ℕ)} {out : Outcome}
    → Comes mode before n raws out
    → IsFineMode mode → AllWithin before → AllByRecursion IsUtf8 raws → IsFineOutcome out
comes_within at_end m h t = h
comes_within (long l) m h t = tt
comes_within (skipped l s c) m h t = comes_within c tt h t.1
comes_within (formless column l s f) m h t = tt
comes_within (misplaced k l s p) m h t = tt
comes_within {before = before} {n = n} {raws = raw ∷ raws} (plain k l s p o c) m h t =
    comes_within c tt (with_line before n k h (spelled_within raw k s)) t.1
comes_within {before = before} {n = n} {raws = raw ∷ raws} (opening k {named} l s p o c) m h t =
    let w : IsWithin k = spelled_within raw k s in
    comes_within c (opened_named k named o w, IsUtf8-nil) (with_line before n k h w) t.1
comes_within {mode = inside i named block} {raws = raw ∷ raws} (in_block e c) m h t =
    comes_within c
    (m.0, IsUtf8-append (block ++ raw) (10 ∷ []) (IsUtf8-append block raw m.1 t.0) (ascii_utf8 10 (omega arith)))
    h t.1
comes_within {mode = inside i named block} {before = before} (closing {rows = rows} b c) m h t =
    comes_within c tt
    (all_append (λ (k : NumberedLine). IsWithin k.what) before (rows_of i named rows) h
    (all_map (λ (k : NumberedLine). IsWithin k.what) (λ row. numbered i (line.Row named row)) rows
    (all_weaker IsLiteral (λ row. IsWithin (line.Row named row)) (λ row g. (m.0, g)) rows
    (block_literal block rows m.1 b)))) t.1
comes_within endless m h t = tt

-- all lines that texts of UTF-8 come to, after the first one
pub lines_within : (bytes : List ℕ) (lines : List NumberedLine) → IsUtf8 bytes
    → Comes outside [] 2 (lines_in bytes) (all_read lines) → All (λ l. IsWithin l.what) lines
lines_within bytes lines t comes =
    All-from_recursion (λ (l : NumberedLine). IsWithin l.what) lines (comes_within comes tt tt (lines_utf8 bytes t))

pub read_within : (bytes : List ℕ) (lines : List NumberedLine) → ReadsTo bytes (all_read lines) → AllWithin lines
read_within bytes lines r =
    comes_within r.3 tt tt (subst (AllByRecursion IsUtf8) r.2 (lines_utf8 bytes r.0)).1
