use Rattle.std.proofs.Common.{◌≡◌, ◌≤◌, ◌+◌, ◌-◌, ◌==◌, drop}
use Rattle.std.specs.Prelude.{count_by}
use Rattle.spec_plan_texts.specs.Text.{after_last}
use Rattle.gl_text.proofs.plan_reader.place_behind.Given as goal

-- the line feeds that are left and those that were passed are all; the column goes on after the last one
abbrev pub invariant-bytes : goal.invariant-bytes
invariant-bytes l = record {
  some : 1 ≤ l.column;
  few : l.column ≤ l.byte-index + 1;
  line : l.line + count_by (λ b. b == 10) (drop l.byte-index l.bytes) ≡ count_by (λ b. b == 10) l.bytes + 1;
  column : after_last (l.column - 1) (drop l.byte-index l.bytes) ≡ after_last 0 l.bytes;
}
