use Rattle.std.proofs.Common.{◌≡◌, ◌++◌, drop}
use Rattle.spec_views.specs.Piece.{normal}
use Rattle.spec_lang.specs.Func.{eval}
use Rattle.spec_views.specs.Function.{function_change}
use Rattle.gl_kernel.specs.Fates.{edits_of}
use Rattle.gl_function.specs.Told.{renewed}
use Rattle.gl_function.proofs.function.Function.replan.Given as goal

-- what is told so far and what is left to tell is the whole, and so with the edits
abbrev pub invariant-loop-position : goal.invariant-loop-position
invariant-loop-position g l = record {
  told : normal (l.plan.out.pieces ++ function_change (eval l.self.func) (eval l.param) (drop l.position (g.S.Shelf.items l.input)))
      ≡ normal (function_change (eval l.self.func) (eval l.param) (g.S.Shelf.items l.input));
  edits : l.plan.log.items ++ edits_of l.position (renewed (eval l.param) (drop l.position (g.S.Shelf.items l.input))) ≡ edits_of 0 (renewed (eval l.param) (g.S.Shelf.items l.input));
  position : l.plan.position ≡ l.position;
}
