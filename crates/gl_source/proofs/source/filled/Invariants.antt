use Rattle.std.proofs.Common.{◌≡◌, ◌≤◌, length, take}
use Rattle.gl_source.proofs.source.filled.Given as goal

abbrev pub invariant-values : goal.invariant-values
invariant-values l = record {
  values : l.list.values ≡ take l.position l.values;
  room : length l.values ≤ l.list.room;
}
