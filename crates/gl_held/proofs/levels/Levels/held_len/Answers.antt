use Rattle.std.proofs.Common.{◌≡◌, ◌∙◌, List, ap, sym}
use Rattle.std.specs.List.{slice_get}
use Rattle.std.specs.Prelude.{Some}
use Rattle.spec_lists.specs.Delta.{Delta}
use Rattle.gl_held.specs.Kept.{Kept}
use Rattle.gl_held.specs.Levels.{held_len}
use Rattle.gl_held.proofs.LevelLists.{held_first}
use Rattle.gl_held.proofs.levels.Levels.held_len.Goals as goal

pub returns-in-Some : goal.returns-in-Some
returns-in-Some c =
    let first : slice_get c.self.inside.list.items 0 ≡ Some c.in-Some.level.now = ap (λ (ls : List Delta). slice_get ls 0) (sym c.deref.ensures.value) ∙ sym c.in-Some.ensures.value in
    ap Some c.old_len.ensures.value ∙ (sym (held_first c.self.inside.list.items c.in-Some.level.now first) ∙ ap (λ (k : Kept). held_len k.levels) c.self.view_is)
