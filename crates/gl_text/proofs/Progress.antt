-- How the reading of a text goes on with a line, and with a block.
use Rattle.std.proofs.Common.{Bor, Result, Ok, Err, inl, inr, ◌≡◌, ◌∙◌, ℕ, suc, ◌+◌, ◌<◌, ◌≤◌, Bool, true, false, cond, ◌||◌, ◌&&◌, ◌==◌, List, [], ◌∷◌, ◌++◌, length, Some, None, refl, sym, ap, subst, arith, true≢false}
use Rattle.std.specs.Prelude.{MatchResult}
use Rattle.std.specs.Str.{IsUtf8}
use Rattle.std.proofs.lemmas.Str.{IsUtf8-nil}
use Rattle.std.proofs.lemmas.Bool.Decides.{nat_tests}
use Rattle.std.proofs.lemmas.Option.{none-some}
use Rattle.std.proofs.lemmas.List.Sums.{sum_by-append}
use Rattle.gl_value.specs.Tree.{Tree}
use Rattle.spec_plan_texts.specs.Cuts.{lines_in, IsFirstLine}
use Rattle.spec_plan_texts.specs.Block.{BlockHas}
use Rattle.spec_plan_texts.specs.Reading.{Outcome, stopped, outside, inside, Comes, at_end, long, formless, plain, opening, misplaced, skipped, all_read, SpellsLine, LeavesLines, most_bytes, IsSkipped, opened_by, rows_of, numbered}
use Rattle.spec_plan_texts.proofs.CutLines.{utf8_cut}
use Rattle.spec_plan_texts.specs.Lines.{is_list, is_listener, is_writer}
use Rattle.spec_plan_texts.specs.Place.{place_fault, is_out_of_place, is_too_many, count_lines}
use Rattle.gl_lines.specs.declared.named.Named.{Named}
use Rattle.gl_lines.specs.declared.line.Line.{Line}
use Rattle.gl_lines.specs.declared.line.NumberedLine.{NumberedLine}
use Rattle.gl_lines.specs.declared.fault.PlanKind.{PlanKind}
use Rattle.gl_lines.specs.declared.fault.PlanKind.TheVariants.{Place, Many, Block, LongLine, Form}
use Rattle.gl_plan.specs.Before.{StandsAfter}
use Rattle.gl_plan.specs.PlanFaultsBefore.{Before}
use Rattle.gl_text.specs.declared.reading.Reading.{Reading}
use Rattle.gl_text.specs.declared.stop.Stop.{Stop}
use Rattle.gl_text.specs.declared.stop.Stop.TheVariants.{Fault, Memory}
use Rattle.gl_text.specs.Goes.{IsReading, StopsAfter, GoesOn, GoesOnWith, StopsWith}
use Rattle.gl_text.specs.Blocks.{IsBlock, IsEndless, BlockGoesOn, BlockStops}
use Rattle.spec_plan_texts.proofs.Booleans.{left_false, right_false}
use Rattle.spec_plan_texts.proofs.SoundFew.{not_many, one_more}

few_more : (p : Line → Bool) (most : ℕ) (before : List NumberedLine) (l : NumberedLine) → count_lines p before ≤ most
    → (p l.what && (count_lines p before == most)) ≡ false → count_lines p (before ++ l ∷ []) ≤ most
few_more p most before l few e =
    omega (arith, sum_by-append (λ (k : NumberedLine). cond (p k.what) 1 0) before (l ∷ []), one_more (count_lines p before) most (p l.what) few e)

-- what is false of a line of which there are not too many
abbrev none_of : (Line → Bool) → ℕ → List NumberedLine → Line → Bool
none_of p most before line = p line && (count_lines p before == most)

-- the reading with a line more
pub reading_more : (r more : Reading) (lines : List NumberedLine) (l : NumberedLine) → IsReading r → is_too_many r.lines l.what ≡ false → lines ≡ r.lines
    → more.lines ≡ lines ++ l ∷ [] → StandsAfter more.before (lines ++ l ∷ []) → IsReading more
reading_more r more lines l h few same are stands =
    let before = r.lines in
    let s = subst (λ ls. StandsAfter more.before ls) (ap (λ ls. ls ++ l ∷ []) same) stands in
    let pair = left_false (none_of is_list 256 before l.what || none_of is_listener 256 before l.what) (none_of is_writer 64 before l.what) few in
    let writers = right_false (none_of is_list 256 before l.what || none_of is_listener 256 before l.what) (none_of is_writer 64 before l.what) few in
    record {
      stands = subst (λ ls. StandsAfter more.before ls) (sym are) stands;
      lists = omega (arith, s.lists, few_more is_list 256 before l (omega (arith, h.lists, h.stands.lists)) (left_false (none_of is_list 256 before l.what) (none_of is_listener 256 before l.what) pair));
      listeners = omega (arith, s.listeners, few_more is_listener 256 before l (omega (arith, h.listeners, h.stands.listeners)) (right_false (none_of is_list 256 before l.what) (none_of is_listener 256 before l.what) pair));
      writers = omega (arith, s.writers, few_more is_writer 64 before l (omega (arith, h.writers, h.stands.writers)) writers);
    }

-- a line that may stand there isn't one too many
pub placed_few : (before : List NumberedLine) (l : Line) → None ≡ place_fault before l → is_too_many before l ≡ false
placed_few before l e = not_many (is_out_of_place before l) (is_too_many before l) (sym e)

-- a line that opens no block
pub plain_goes : (a b : Reading) (l : Line) (others : List ℕ) → b.lines ≡ a.lines ++ numbered a.number l ∷ [] → b.number ≡ a.number + 1 → IsReading b
    → None ≡ place_fault a.lines l → None ≡ opened_by l → IsUtf8 others → GoesOnWith a l others b others
plain_goes a b l others lines number is placed none u = λ raw of. record {
  is = is;
  leads = λ out c.
      let next : b.number ≡ suc a.number = omega (arith, number) in
      plain l of.fits of.spells (sym placed) (sym none)
      (subst (λ ls. Comes outside ls (suc a.number) (lines_in others) out) lines (subst (λ n. Comes outside b.lines n (lines_in others) out) next c));
  utf8 = u;
  shorter = omega arith;
  few = omega (arith, number);
}

-- a line that opens a block, which was read
pub opening_goes : (a m b : Reading) (l : Line) (named : Named) (others rest : List ℕ) → m.lines ≡ a.lines ++ numbered a.number l ∷ [] → m.number ≡ a.number + 1
    → None ≡ place_fault a.lines l → Some named ≡ opened_by l → BlockGoesOn m a.number named others b rest → GoesOnWith a l others b rest
opening_goes a m b l named others rest lines number placed some h = λ raw of. record {
  is = h.is;
  leads = λ out c. opening l of.fits of.spells (sym placed) (sym some) (ahead out (h.leads out c));
  utf8 = h.utf8;
  shorter = h.shorter;
  few = omega (arith, number, h.few);
}
  where
    ahead : (out : Outcome) → Comes (inside a.number named []) m.lines m.number (lines_in others) out
        → Comes (inside a.number named []) (a.lines ++ numbered a.number l ∷ []) (suc a.number) (lines_in others) out
    ahead out c =
        let next : m.number ≡ suc a.number = omega (arith, number) in
        subst (λ ls. Comes (inside a.number named []) ls (suc a.number) (lines_in others) out) lines
        (subst (λ n. Comes (inside a.number named []) m.lines n (lines_in others) out) next c)

pub opening_stops : (a m : Reading) (l : Line) (named : Named) (others : List ℕ) (stop : Stop) → m.lines ≡ a.lines ++ numbered a.number l ∷ [] → m.number ≡ a.number + 1
    → None ≡ place_fault a.lines l → Some named ≡ opened_by l → BlockStops m a.number named others stop → StopsWith a l others stop
opening_stops a m l named others Memory lines number placed some h = λ raw of. tt
opening_stops a m l named others (Fault f) lines number placed some h = λ raw of.
    let next : m.number ≡ suc a.number = omega (arith, number) in
    opening l of.fits of.spells (sym placed) (sym some)
    (subst (λ ls. Comes (inside a.number named []) ls (suc a.number) (lines_in others) (stopped f)) lines
    (subst (λ n. Comes (inside a.number named []) m.lines n (lines_in others) (stopped f)) next h))

pub misplaced_stops : (a : Reading) (l : Line) (others : List ℕ) (k : PlanKind) → Some k ≡ place_fault a.lines l
    → StopsWith a l others (Fault (record { line = a.number; column = 1; kind = k }))
misplaced_stops a l others k e = λ raw of. misplaced l of.fits of.spells (sym e)

-- the block that a line opened
pub block_goes : (a r b : Reading) (m : ℕ) (named : Named) (others block after : List ℕ) (lines : ℕ) (rows : List Tree) → IsBlock others block after lines → BlockHas block rows
    → IsUtf8 others → r.lines ≡ a.lines ++ rows_of m named rows → r.number ≡ a.number → IsReading r
    → b.lines ≡ r.lines → b.before ≡ r.before → b.number ≡ r.number + lines → BlockGoesOn a m named others b after
block_goes a r b m named others block after lines rows h has u are number is same before more = record {
  is = record {
    stands = subst (λ (x : Before). StandsAfter x b.lines) (sym before) (subst (λ ls. StandsAfter r.before ls) (sym same) is.stands);
    lists = omega (arith, is.lists, ap (λ (x : Before). x.lists) before);
    listeners = omega (arith, is.listeners, ap (λ (x : Before). x.listeners) before);
    writers = omega (arith, is.writers, ap (λ (x : Before). x.writers) before);
  };
  leads = λ out c.
      h.leads a.lines m a.number named rows out has
      (subst (λ n. Comes outside (a.lines ++ rows_of m named rows) n (lines_in after) out) (more ∙ ap (λ n. n + lines) number)
      (subst (λ ls. Comes outside ls b.number (lines_in after) out) (same ∙ are) c));
  utf8 = (h.utf8 u).1;
  shorter = omega (arith, h.few);
  few = omega (arith, h.few, more, number);
}

pub block_endless : (a : Reading) (m : ℕ) (named : Named) (others : List ℕ) → IsEndless others
    → BlockStops a m named others (Fault (record { line = m; column = 1; kind = Block }))
block_endless a m named others h = h a.lines m a.number named

-- want of memory stops any reading
pub block_memory : (a : Reading) (m : ℕ) (named : Named) (others : List ℕ) (stop : Stop) → stop ≡ Memory → BlockStops a m named others stop
block_memory a m named others Memory e = tt
block_memory a m named others (Fault f) e = absurd cc

pub line_memory : (a : Reading) (l : Line) (others : List ℕ) (stop : Stop) → stop ≡ Memory → StopsWith a l others stop
line_memory a l others Memory e = λ raw of. tt
line_memory a l others (Fault f) e = absurd cc

-- a line that says nothing
pub skipped_goes : (a b : Reading) (raw others : List ℕ) → IsReading a → length raw ≤ most_bytes → IsSkipped raw → IsUtf8 others → b.lines ≡ a.lines → b.before ≡ a.before → b.number ≡ a.number + 1
    → GoesOn a raw others b others
skipped_goes a b raw others is few says u same before number = record {
  is = record {
    stands = subst (λ (x : Before). StandsAfter x b.lines) (sym before) (subst (λ ls. StandsAfter a.before ls) (sym same) is.stands);
    lists = omega (arith, is.lists, ap (λ (x : Before). x.lists) before);
    listeners = omega (arith, is.listeners, ap (λ (x : Before). x.listeners) before);
    writers = omega (arith, is.writers, ap (λ (x : Before). x.writers) before);
  };
  leads = λ out c.
      let next : b.number ≡ suc a.number = omega (arith, number) in
      skipped few says (subst (λ ls. Comes outside ls (suc a.number) (lines_in others) out) same (subst (λ n. Comes outside b.lines n (lines_in others) out) next c));
  utf8 = u;
  shorter = omega arith;
  few = omega (arith, number);
}

-- the number of the next line is no part of what is kept
pub later : (r : Reading) (n : ℕ) → IsReading r → IsReading (record { lines = r.lines; before = r.before; number = n })
later r n h = record { stands = h.stands; lists = h.lists; listeners = h.listeners; writers = h.writers }

pub opening_either : (a m b : Reading) (l : Line) (named : Named) (others : List ℕ) (result : Result (Bor (List ℕ)) Stop) → m.lines ≡ a.lines ++ numbered a.number l ∷ [] → m.number ≡ a.number + 1
    → None ≡ place_fault a.lines l → Some named ≡ opened_by l
    → MatchResult result (λ rest. BlockGoesOn m a.number named others b rest.now) (BlockStops m a.number named others)
    → MatchResult result (λ rest. GoesOnWith a l others b rest.now) (StopsWith a l others)
opening_either a m b l named others (Ok rest) lines number placed some h = opening_goes a m b l named others rest.now lines number placed some h
opening_either a m b l named others (Err stop) lines number placed some h = opening_stops a m l named others stop lines number placed some h

pub long_stops : (a : Reading) (raw others : List ℕ) (stop : Stop) → most_bytes < length raw
    → stop ≡ Fault (record { line = a.number; column = most_bytes + 1; kind = LongLine }) → StopsAfter a.lines a.number (raw ∷ lines_in others) stop
long_stops a raw others stop far e = subst (λ (s : Stop). StopsAfter a.lines a.number (raw ∷ lines_in others) s) (sym e) (long far)

pub formless_stops : (a : Reading) (raw others : List ℕ) (column : ℕ) (stop : Stop) → length raw ≤ most_bytes → ¬ IsSkipped raw → LeavesLines raw column
    → stop ≡ Fault (record { line = a.number; column = column; kind = Form }) → StopsAfter a.lines a.number (raw ∷ lines_in others) stop
formless_stops a raw others column stop few says leaves e =
    subst (λ (s : Stop). StopsAfter a.lines a.number (raw ∷ lines_in others) s) (sym e) (formless column few says leaves)

pub line_either : (a b : Reading) (l : Line) (raw others : List ℕ) (result : Result (Bor (List ℕ)) Stop) → length raw ≤ most_bytes → SpellsLine raw l
    → MatchResult result (λ rest. GoesOnWith a l others b rest.now) (StopsWith a l others)
    → MatchResult result (λ rest. GoesOn a raw others b rest.now) (StopsAfter a.lines a.number (raw ∷ lines_in others))
line_either a b l raw others (Ok rest) few spells h = h raw (record { fits = few; spells = spells })
line_either a b l raw others (Err stop) few spells h = h raw (record { fits = few; spells = spells })

-- what is after the first line of a text is a text
pub rest_text : (bytes raw others : List ℕ) → IsUtf8 bytes → IsFirstLine bytes raw others → IsUtf8 others
rest_text bytes raw others u (inl e) = (utf8_cut 10 raw others (omega arith) (subst IsUtf8 e u)).1
rest_text bytes raw others u (inr e) = subst IsUtf8 (sym e.1) IsUtf8-nil

-- all lines were read
pub all_lines : (a : Reading) (bytes rest : List ℕ) → ((out : Outcome) → Comes outside a.lines a.number (lines_in rest) out → Comes outside [] 2 (lines_in bytes) out) → lines_in rest ≡ []
    → Comes outside [] 2 (lines_in bytes) (all_read a.lines)
all_lines a bytes rest h e = h (all_read a.lines) (subst (λ ls. Comes outside a.lines a.number ls (all_read a.lines)) (sym e) at_end)

-- a line that goes on where the lines after it lead to the whole
pub leads_more : (a b : Reading) (bytes rest raw others after : List ℕ) → ((out : Outcome) → Comes outside a.lines a.number (lines_in rest) out → Comes outside [] 2 (lines_in bytes) out)
    → lines_in rest ≡ raw ∷ lines_in others → GoesOn a raw others b after → (out : Outcome) → Comes outside b.lines b.number (lines_in after) out → Comes outside [] 2 (lines_in bytes) out
leads_more a b bytes rest raw others after h e goes out c = h out (subst (λ ls. Comes outside a.lines a.number ls out) (sym e) (goes.leads out c))
