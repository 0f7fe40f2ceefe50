use Rattle.std.proofs.Common.{◌≡◌, ◌≤◌, length, map, take}
use Rattle.spec_lang.specs.Func.{eval}
use Rattle.gl_function.proofs.function.Function.make.Given as goal

-- the results so far, and room for those of all elements
abbrev pub invariant-loop-position : goal.invariant-loop-position
invariant-loop-position g l = record {
  values : l.results.values ≡ map (eval l.fn.param) (take l.position (g.S.Shelf.items l.input));
  room : length (g.S.Shelf.items l.input) ≤ l.results.room;
}
