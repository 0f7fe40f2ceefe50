use Rattle.std.proofs.Common.{◌≡◌, ◌∙◌, List, ap, sym, subst, arith}
use Rattle.spec_sorting.specs.Tree.{Tree}
use Rattle.spec_sorting.specs.Delta.{Delta}
use Rattle.gl_arranged.specs.declared.changed.Ranked.{Ranked}
use Rattle.gl_arranged.specs.declared.arrangement.ArrangementUndo.{ArrangementUndo}
use Rattle.gl_classes.specs.Firsts.{all_edits}
use Rattle.gl_classes.specs.Follows.{Follows}
use Rattle.gl_classes.specs.Kept.{Kept}
use Rattle.gl_classes.proofs.Following.{took_steps, gone_changed, touched_old, edits_within, edits_few, stands_new}
use Rattle.gl_classes.proofs.classes.Classes.follow.Goals as goal

inside : (k now : Kept) (xs ys : List Tree) (d : Delta) (gone came : List Ranked) (undo : ArrangementUndo) → k ≡ now → Follows now xs ys d gone came undo → Follows k xs ys d gone came undo
inside k now xs ys d gone came undo is f = subst (λ (a : Kept). Follows a xs ys d gone came undo) (sym is) f

pub find_touched-requires : goal.find_touched-requires
find_touched-requires g c =
    gone_changed _ _ _ c.requires.leads _ _ _ (inside _ _ _ _ _ _ _ _ c.self.view_is c.requires.follows) (omega (arith, c.old_len-olds.ensures.value, c.old_len-olds.ensures.few))

pub steps_of-requires : goal.steps_of-requires
steps_of-requires g c = took_steps c.args.undo.now _ _ c.requires.follows.steps

pub apply-requires-clause-within : goal.apply-requires-clause-within
apply-requires-clause-within g c =
    edits_within _ _ _ c.requires.leads _ _ _ (inside _ _ _ _ _ _ _ _ c.self.view_is c.requires.follows) c.in_ok-log.log.items (c.in_ok-log.ensures ∙ ap all_edits c.steps_of.ensures)

pub apply-requires-clause-few : goal.apply-requires-clause-few
apply-requires-clause-few g c =
    edits_few _ _ _ c.requires.leads _ _ _ (inside _ _ _ _ _ _ _ _ c.self.view_is c.requires.follows) c.in_ok-log.log.items (c.in_ok-log.ensures ∙ ap all_edits c.steps_of.ensures)
    (omega (arith, c.old_len-olds.ensures.value, c.old_len-olds.ensures.few)) (omega (arith, c.new_len-news.ensures.value, c.new_len-news.ensures.few))

pub slots-requires-clause-stands : goal.slots-requires-clause-stands
slots-requires-clause-stands g c =
    stands_new _ _ _ c.requires.leads _ _ _ (inside _ _ _ _ _ _ _ _ c.self.view_is c.requires.follows) c.in_ok-log.log.items (c.in_ok-log.ensures ∙ ap all_edits c.steps_of.ensures)
    c.apply.new.list c.in_ok-back.ensures.ok

pub slots-requires-clause-came : goal.slots-requires-clause-came
slots-requires-clause-came g c = (inside _ _ _ _ _ _ _ _ c.self.view_is c.requires.follows).came_are

pub slots-requires-clause-olds : goal.slots-requires-clause-olds
slots-requires-clause-olds g c =
    touched_old _ _ _ c.requires.leads _ _ _ (inside _ _ _ _ _ _ _ _ c.self.view_is c.requires.follows) c.in_ok-olds.olds.items c.in_ok-olds.ensures

pub returns-in-Ok-clause-stands : goal.returns-in-Ok-clause-stands
returns-in-Ok-clause-stands g c =
    stands_new _ _ _ c.requires.leads _ _ _ (inside _ _ _ _ _ _ _ _ c.self.view_is c.requires.follows) c.in_ok-log.log.items (c.in_ok-log.ensures ∙ ap all_edits c.steps_of.ensures)
    c.apply.new.list c.in_ok-back.ensures.ok
