use Rattle.std.proofs.Common.{◌≡◌, ◌+◌, map, take}
use Rattle.spec_views.specs.Matcher.{accepts}
use Rattle.gl_filter.specs.Marked.{marked}
use Rattle.gl_filter.proofs.filter.Filter.make.Given as goal

abbrev pub invariant-loop-position : goal.invariant-loop-position
invariant-loop-position g l = record {
  marks : marked l.marking ≡ map (accepts l.fn.param) (take l.position (g.S.Shelf.items l.input));
  counted : l.steps ≡ l.initial.steps + l.position;
}
