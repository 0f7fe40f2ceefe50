use Rattle.std.proofs.Common.{◌≡◌, ◌<◌, ℕ, List, Some}
use Rattle.csv.specs.Reading.{Reached, Ready, default_config, source_of, strip_bom}
use Rattle.csv.specs.declared.parser.State.TheVariants as st
use Rattle.csv.specs.declared.reader.Trim.TheVariants as trim
use Rattle.spec_plan_texts.specs.Block.{AreRows}
use Rattle.gl_text.proofs.records.block_rows.Given as goal

abbrev pub invariant-loop-entry : goal.invariant-loop-entry
invariant-loop-entry l = (l.entry-iterator.rdr.trim ≡ trim.None) × Ready l.entry-iterator.rdr × (0 < l.entry-iterator.left) × (l.entry-iterator.rdr.config ≡ default_config)
    × (y : List ℕ) × (source_of (λ s. Some s.now) l.entry-iterator.rdr ≡ Some y)
    × (records : List (List (List ℕ))) × Reached default_config st.StartRecord (strip_bom l.fn.block) records l.entry-iterator.rdr.state y
    × AreRows records l.rows
