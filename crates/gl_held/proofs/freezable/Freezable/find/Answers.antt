use Rattle.std.proofs.Common.{◌≡◌, ◌∙◌, List, ap, sym, subst}
use Rattle.std.specs.List.{slice_get}
use Rattle.std.specs.Prelude.{Option, Some, None}
use Rattle.spec_states.specs.Tree.{Tree}
use Rattle.spec_lists.specs.Piece.{old_len}
use Rattle.spec_lists.specs.Delta.{Delta}
use Rattle.spec_states.specs.Shown.{undone_all}
use Rattle.spec_states.specs.Laws.{LedTo, since_frozen}
use Rattle.gl_held.specs.Levels.{held_len}
use Rattle.gl_held.proofs.OldElements.{kept_later, value_there}
use Rattle.gl_held.proofs.freezable.Freezable.find.Goals as goal

pub old_at-requires : goal.old_at-requires
old_at-requires c =
    let is : c.args.self.now ≡ Some c.in-Some.since = sym c.self.view_is ∙ c.in-Some.is in
    c.requires (old_len c.in-Some.since) (ap (λ s. held_len (since_frozen s)) is)

pub returns-in-Kept : goal.returns-in-Kept
returns-in-Kept c =
    let is : c.args.self.now ≡ Some c.in-Some.since = sym c.self.view_is ∙ c.in-Some.is in
    let P : Option Delta → Type 0 = λ s. (ys : List Tree) → LedTo (since_frozen s) ys → slice_get ys c.in-Kept.later ≡ slice_get (undone_all (since_frozen s) ys) c.args.position in
    subst P (sym is) (λ ys led. kept_later c.in-Some.since ys c.args.position c.in-Kept.later led.0 c.in-Kept.ensures)

pub returns-in-Value : goal.returns-in-Value
returns-in-Value c =
    let is : c.args.self.now ≡ Some c.in-Some.since = sym c.self.view_is ∙ c.in-Some.is in
    let P : Option Delta → Type 0 = λ s. (ys : List Tree) → LedTo (since_frozen s) ys → Some c.in-Value.v.now ≡ slice_get (undone_all (since_frozen s) ys) c.args.position in
    subst P (sym is) (λ ys led. value_there c.in-Some.since ys c.args.position c.in-Value.v led.0 c.in-Value.ensures)

pub returns-in-None : goal.returns-in-None
returns-in-None c =
    let is : c.args.self.now ≡ None = sym c.self.view_is ∙ c.in-None.is in
    λ ys led. ap (λ s. slice_get (undone_all (since_frozen s) ys) c.args.position) (sym is)
