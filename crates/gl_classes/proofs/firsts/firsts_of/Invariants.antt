use Rattle.std.proofs.Common.{◌≡◌, map, take}
use Rattle.std.specs.Prelude.{not}
use Rattle.gl_classes.proofs.firsts.firsts_of.Given as goal

abbrev pub invariant-loop-place : goal.invariant-loop-place
invariant-loop-place l = record {
  marks : l.firsts.shown ≡ map not (take l.place l.list.tree.marks);
}
