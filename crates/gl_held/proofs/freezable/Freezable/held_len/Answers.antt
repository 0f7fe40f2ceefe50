use Rattle.std.proofs.Common.{◌≡◌, ◌∙◌, List, length, ap, sym, subst}
use Rattle.std.specs.Prelude.{Option, Some, None}
use Rattle.spec_states.specs.Tree.{Tree}
use Rattle.spec_lists.specs.Delta.{Delta}
use Rattle.spec_states.specs.Shown.{undone_all}
use Rattle.spec_states.specs.Laws.{LedTo, since_frozen}
use Rattle.gl_held.proofs.LevelLists.{length_undone}
use Rattle.gl_held.proofs.freezable.Freezable.held_len.Goals as goal

pub returns-in-Some-clause-len : goal.returns-in-Some-clause-len
returns-in-Some-clause-len c =
    let is : c.args.self.now ≡ Some c.in-Some.since = sym c.self.view_is ∙ c.in-Some.is in
    let P : Option Delta → Type 0 = λ s. (ys : List Tree) → LedTo (since_frozen s) ys → c.old_len.result ≡ length (undone_all (since_frozen s) ys) in
    subst P (sym is) (λ ys led. c.old_len.ensures.value ∙ sym (length_undone c.in-Some.since ys led.0))
