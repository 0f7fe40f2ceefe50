use Rattle.std.proofs.Common.{◌≡◌, ◌∙◌, List, length, ap, sym, subst, arith}
use Rattle.spec_lists.specs.Delta.{Delta}
use Rattle.gl_held.specs.Kept.{Kept}
use Rattle.gl_held.specs.Levels.{AreJoined}
use Rattle.gl_held.proofs.Retreats.{closed_back}
use Rattle.gl_held.proofs.transaction.Transaction.drop_level.Goals as goal

pub returns-clause-undo : goal.returns-clause-undo
returns-clause-undo c =
    let Are : List Delta → Type 0 = λ ls. AreJoined ls in
    let same : c.self.inside.levels.levels ≡ c.args.self.now.levels = ap (λ (k : Kept). k.levels) c.self.view_is in
    closed_back c.args.self.now c.take-level.new.self c.take-level.result (sym same ∙ c.take-level.ensures.levels) (subst Are same c.self.invariant)
    (omega (arith, ap length same, c.take-level.ensures.fits, c.take-level.ensures.room))
