use Rattle.std.proofs.Common.{◌≡◌, ◌≤◌, ◌+◌, ◌-◌, ◌++◌, length, drop}
use Rattle.spec_views.specs.Piece.{normal}
use Rattle.spec_views.specs.Matcher.{accepts}
use Rattle.gl_kernel.specs.Fates.{edits_of}
use Rattle.gl_filter.specs.Told.{told_change, switches, questions}
use Rattle.gl_filter.proofs.filter.Filter.replan.Given as goal

-- what is told so far and what is left to tell is the whole, and so with the edits and with the questions
abbrev pub invariant-visited : goal.invariant-visited
invariant-visited g l = record {
  told : normal (l.plan.out.pieces ++ told_change (accepts l.self.matcher) (accepts l.param) (drop l.plan.position (g.S.Shelf.items l.input))) ≡ normal (told_change (accepts l.self.matcher) (accepts l.param) (g.S.Shelf.items l.input));
  edits : l.plan.log.items ++ edits_of l.plan.position (switches (accepts l.self.matcher) (accepts l.param) (drop l.plan.position (g.S.Shelf.items l.input))) ≡ edits_of 0 (switches (accepts l.self.matcher) (accepts l.param) (g.S.Shelf.items l.input));
  counted : l.steps + questions l.kind (drop l.plan.position l.self.shown) ≡ l.initial.steps + questions l.kind l.self.shown;
  position : l.plan.position ≤ length l.self.shown;
}

abbrev pub decreases-visited : goal.decreases-visited
decreases-visited g l = length l.self.shown - l.plan.position
