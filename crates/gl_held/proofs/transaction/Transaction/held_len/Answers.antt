use Rattle.std.proofs.Common.{◌≡◌, ◌∙◌, ap, sym}
use Rattle.gl_held.specs.Kept.{Kept}
use Rattle.gl_held.specs.Levels.{held_len}
use Rattle.gl_held.proofs.LevelLists.{held_none, held_if}
use Rattle.gl_held.proofs.transaction.Transaction.held_len.Goals as goal

pub returns-clause-none : goal.returns-clause-none
returns-clause-none c =
    let is : c.held_len.result ≡ held_len c.args.self.now.levels = c.held_len.ensures ∙ ap (λ (k : Kept). held_len k.levels) c.self.view_is in
    (λ e. held_none c.args.self.now.levels (sym is ∙ e), λ e. is ∙ ap held_len e)

pub returns-clause-len : goal.returns-clause-len
returns-clause-len c =
    let is : c.held_len.result ≡ held_len c.args.self.now.levels = c.held_len.ensures ∙ ap (λ (k : Kept). held_len k.levels) c.self.view_is in
    λ ys led. held_if c.args.self.now.levels c.held_len.result ys is led
