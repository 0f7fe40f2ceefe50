use Rattle.std.proofs.Common.{◌≡◌, ◌-◌, ◌≤◌, length}
use Rattle.std.specs.Io.KnownBytes.{Consumes}
use Rattle.gl_outside.specs.Faults.{GoesOn}
use Rattle.gl_app.proofs.reading.read_all.Given as goal

abbrev pub invariant-reading : goal.invariant-reading
invariant-reading g l = record {
  read : Consumes (g.S.Source.remaining l.initial.source) (g.S.Source.remaining l.source) l.bytes;
  within : length l.bytes ≤ l.limit;
  count : GoesOn (g.S.Source.faults l.initial.source) (g.S.Source.faults l.source);
  sound : g.S.Source.never_fails l.initial.source → g.S.Source.never_fails l.source × (g.S.Source.faults l.source
      ≡ g.S.Source.faults l.initial.source);
}

abbrev pub decreases-reading : goal.decreases-reading
decreases-reading g l = l.limit - length l.bytes
