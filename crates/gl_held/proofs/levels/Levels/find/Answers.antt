use Rattle.std.proofs.Common.{◌≡◌, ◌∙◌, ◌-◌, suc, List, take, ap, sym, arith}
use Rattle.std.specs.List.{slice_get}
use Rattle.std.specs.Prelude.{Some}
use Rattle.spec_lists.specs.Piece.{old_len}
use Rattle.spec_lists.specs.Leads.{undone}
use Rattle.spec_states.specs.Shown.{undone_all}
use Rattle.gl_held.specs.Levels.{held_len}
use Rattle.gl_held.proofs.OldElements.{kept_later, kept_within, value_there}
use Rattle.gl_held.proofs.LevelLists.{undone_more, led_more, held_more, shown_more}
use Rattle.gl_held.proofs.levels.Levels.find.Goals as goal

pub old_at-requires : goal.old_at-requires
old_at-requires c =
    let levels = c.args.self.now.levels in
    let n = c.levels.left - 1 in
    let more : c.levels.left ≡ suc n = omega (arith, c.levels-test.true) in
    c.levels.invariant.shown (old_len c.level.result.now) (ap (λ k. held_len (take k levels)) more ∙ held_more levels n c.level.result.now c.level.ensures)

pub levels-preserved : goal.levels-preserved
levels-preserved c =
    let levels = c.args.self.now.levels in
    let level = c.level.result.now in
    let n = c.levels.left - 1 in
    let more : c.levels.left ≡ suc n = omega (arith, c.levels-test.true) in
    record {
      within = omega (arith, c.levels.invariant.within);
      shown = shown_more levels n level c.in-Kept.later c.requires.joined c.level.ensures (kept_within level c.levels.at c.in-Kept.later c.in-Kept.ensures);
      same = λ ys led.
          kept_later level (undone_all (take n levels) ys) c.levels.at c.in-Kept.later (led_more levels n level ys c.level.ensures led) c.in-Kept.ensures
          ∙ (ap (λ zs. slice_get zs c.levels.at) (sym (ap (λ k. undone_all (take k levels) ys) more ∙ undone_more levels n level ys c.level.ensures)) ∙ c.levels.invariant.same ys led);
    }

pub returns-in-Value : goal.returns-in-Value
returns-in-Value c =
    let levels = c.args.self.now.levels in
    let level = c.level.result.now in
    let n = c.levels.left - 1 in
    let more : c.levels.left ≡ suc n = omega (arith, c.levels-test.true) in
    λ ys led.
    value_there level (undone_all (take n levels) ys) c.levels.at c.in-Value.v (led_more levels n level ys c.level.ensures led) c.in-Value.ensures
    ∙ (ap (λ zs. slice_get zs c.levels.at) (sym (ap (λ k. undone_all (take k levels) ys) more ∙ undone_more levels n level ys c.level.ensures)) ∙ c.levels.invariant.same ys led)
