use Rattle.std.proofs.Common.{Bor, List, ℕ, ◌∙◌, sym, refl, inl, inr, Some, ◌∷◌, ◌++◌, []}
use Rattle.csv.specs.Reading.{Reached, default_config, strip_bom}
use Rattle.csv.specs.Records.{fields_of}
use Rattle.csv.specs.declared.parser.State.TheVariants as st
use Rattle.csv.proofs.ReadFacts.{rows-end, rows-more}
use Rattle.spec_plan_texts.proofs.BlockTexts.{last_texts, without_mark}
use Rattle.gl_text.proofs.RecordRows.{rows_more}
use Rattle.gl_text.proofs.records.block_rows.Goals as goal

pub loop-entry-init : goal.loop-entry-init
unfolding Reached
loop-entry-init c =
    let fr = c.from_reader-reader.ensures in
    let f = c.flexible.ensures in
    let h = c.has_headers.ensures in
    let start = c.into_iter-entry-iterator.ensures.into_iter_gives ∙ refl in
    let rdr = c.into_byte_records-entry-items.ensures.rdr in
    let left = c.into_byte_records-entry-items.ensures.left in
    rw (start, rdr, c.new-rows.ensures) (
      rw (f, h) at fr.trim ∙ c.new.ensures.trim,
      inr (inr (rw (f, h) at fr.has_headers, fr.headers)),
      left,
      rw (f, h) at fr.config ∙ c.new.ensures.config,
      strip_bom c.args.block.now,
      fr.source,
      [],
      (sym fr.state, refl),
      tt,
    )

pub row-requires : goal.row-requires
row-requires c =
    let inv = c.loop-entry.invariant in
    let s = rw (c.in-Some.is, c.in-Ok.is) at ((c.next.ensures.steps inv.2 inv.0).0 inv.1) in
    let m = rows-more (λ (s : Bor (List ℕ)). Some s.now) c.loop-entry.entry-iterator.rdr c.next.new.self.rdr (fields_of c.in-Ok.entry) default_config st.StartRecord (strip_bom c.args.block.now) inv.4 inv.6 inv.3 inv.5 inv.7 s.0 in
    last_texts inv.6 (fields_of c.in-Ok.entry) st.StartRecord c.next.new.self.rdr.state (strip_bom c.args.block.now) m.0 tt (without_mark c.args.block.now c.requires) m.2

pub loop-entry-preserved : goal.loop-entry-preserved
loop-entry-preserved c =
    let inv = c.loop-entry.invariant in
    let s = rw (c.in-Some.is, c.in-Ok.is) at ((c.next.ensures.steps inv.2 inv.0).0 inv.1) in
    let fields = fields_of c.in-Ok.entry in
    let m = rows-more (λ (s : Bor (List ℕ)). Some s.now) c.loop-entry.entry-iterator.rdr c.next.new.self.rdr fields default_config st.StartRecord (strip_bom c.args.block.now) inv.4 inv.6 inv.3 inv.5 inv.7 s.0 in
    let row_is = rw c.in_ok-row.was at c.row.ensures in
    let grown = rw c.in_ok-push.was at c.push.ensures in
    (s.0.3 ∙ inv.0, inl s.1, s.2, s.0.2 ∙ inv.3, m.0, m.1, inv.6 ++ fields ∷ [], m.2, rw grown (rows_more inv.6 c.loop-entry.rows fields c.in_ok-row.field-0 inv.8 row_is))

pub returns : goal.returns
returns c =
    let inv = c.loop-entry.invariant in
    let s = rw c.in-None.is at ((c.next.ensures.steps inv.2 inv.0).0 inv.1) in
    (inv.6, (c.loop-entry.entry-iterator.rdr.state, inv.4, inv.7, rows-end (λ (s : Bor (List ℕ)). Some s.now) c.loop-entry.entry-iterator.rdr c.next.new.self.rdr [] default_config inv.4 inv.3 inv.5 s), inv.8)
