use Rattle.std.proofs.Common.{◌≡◌, ◌∙◌, List, ◌∷◌, ap, sym, subst}
use Rattle.spec_lists.specs.Delta.{Delta}
use Rattle.gl_held.specs.Kept.{Kept}
use Rattle.gl_held.specs.Levels.{AreJoined}
use Rattle.gl_held.proofs.Retreats.{joined_begun}
use Rattle.gl_held.proofs.transaction.Transaction.begin.Goals as goal

pub invariant_of-self-2 : goal.invariant_of-self-2
invariant_of-self-2 c =
    let Are : List Delta → Type 0 = λ ls. AreJoined ls in
    let same : c.self.inside.levels.levels ≡ c.args.self.now.levels = ap (λ (k : Kept). k.levels) c.self.view_is in
    let level = c.in_ok-level.level in
    let made : c.push.new.self.levels ≡ level ∷ c.args.self.now.levels =
    c.push.ensures.levels ∙ ap (λ ls. level ∷ ls) (c.in_ok-reserve.ensures.levels ∙ same) in
    subst Are (sym made) (joined_begun c.args.self.now.levels level c.args.len c.in_ok-level.ensures c.requires.begins (subst Are same c.self.invariant))
