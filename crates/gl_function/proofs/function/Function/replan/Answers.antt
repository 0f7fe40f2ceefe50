use Rattle.std.proofs.Common.{◌∙◌, ◌+◌, ◌≤◌, ◌++◌, ◌∷◌, [], length, drop, ap, sym, subst, arith}
use Rattle.std.proofs.lemmas.List.{drop_all}
use Rattle.spec_views.specs.Tree.{Tree}
use Rattle.spec_views.specs.Piece.{updated, normal}
use Rattle.spec_views.proofs.Normal.{normal_is}
use Rattle.spec_lang.specs.Func.{eval}
use Rattle.spec_views.specs.Function.{function_change}
use Rattle.spec_views.proofs.Follows.{function_change_normal}
use Rattle.gl_kernel.specs.declared.log_step.LogStep.TheVariants.{Set}
use Rattle.gl_kernel.specs.Fates.{edits_of}
use Rattle.gl_kernel.specs.Plans.{CanTell}
use Rattle.gl_kernel.proofs.Spreads.{told_more, logged_more}
use Rattle.gl_kernel.proofs.Made.{append_nothing}
use Rattle.gl_function.specs.Kept.{Kept}
use Rattle.gl_function.specs.Told.{renewed}
use Rattle.gl_kernel.proofs.ReadValues.{result_is}
use Rattle.gl_function.proofs.Changes.{change_split, edits_split, can_tell_change}
use Rattle.gl_function.proofs.function.Function.replan.Goals as goal

pub tell_updated-requires-clause-can : goal.tell_updated-requires-clause-can
tell_updated-requires-clause-can g c =
    let xs = g.S.Shelf.items c.args.input.now in
    let old = eval c.args.self.now.func in
    let new = eval c.args.param.now in
    let position = c.loop-position.position in
    let x = c.element.result.now in
    let out = c.loop-position.plan.out.pieces in
    let values = ap (λ (k : Kept). k.values) c.self.view_is ∙ c.requires.stands in
    let was = result_is old c.self.inside.results.values xs position x c.element-old.result.now values c.element.ensures c.element-old.ensures in
    let whole = ap (λ ps. normal (out ++ ps)) (sym (change_split old new xs position x c.element.ensures)) ∙ c.loop-position.invariant.told in
    let Can : Tree → Type 0 = λ r. CanTell (updated r (new x) ∷ []) out in
    subst Can (sym was) (can_tell_change old new xs out (updated (old x) (new x) ∷ []) (function_change old new (drop (position + 1) xs)) c.requires.few whole)

pub loop-position-preserved : goal.loop-position-preserved
loop-position-preserved g c =
    let xs = g.S.Shelf.items c.args.input.now in
    let old = eval c.args.self.now.func in
    let new = eval c.args.param.now in
    let position = c.loop-position.position in
    let x = c.element.result.now in
    let out = c.loop-position.plan.out.pieces in
    let log = c.loop-position.plan.log.items in
    let values = ap (λ (k : Kept). k.values) c.self.view_is ∙ c.requires.stands in
    let was = result_is old c.self.inside.results.values xs position x c.element-old.result.now values c.element.ensures c.element-old.ensures in
    let whole = ap (λ ps. normal (out ++ ps)) (sym (change_split old new xs position x c.element.ensures)) ∙ c.loop-position.invariant.told in
    let edits = ap (λ es. log ++ es) (sym (edits_split new xs position x c.element.ensures)) ∙ c.loop-position.invariant.edits in
    let goes = c.in_ok-tell_updated.ensures in
    record {
      told = told_more (normal (function_change old new xs)) out c.tell_updated.new.plan.out.pieces (updated (old x) (new x) ∷ []) (function_change old new (drop (position + 1) xs)) whole
          (goes.told_is ∙ ap (λ v. normal (out ++ updated v (new x) ∷ [])) was);
      edits = logged_more (edits_of 0 (renewed new xs)) log c.tell_updated.new.plan.log.items (Set position (new x)) (edits_of (position + 1) (renewed new (drop (position + 1) xs))) edits
          (goes.edits_are ∙ ap (λ k. log ++ Set k (new x) ∷ []) c.loop-position.invariant.position);
      position = omega (arith, goes.position_is, c.loop-position.invariant.position);
    }

pub returns-clause-told : goal.returns-clause-told
returns-clause-told g c =
    let xs = g.S.Shelf.items c.args.input.now in
    let old = eval c.args.self.now.func in
    let new = eval c.args.param.now in
    let position = c.loop-position.position in
    let out = c.loop-position.plan.out.pieces in
    let rest : length xs ≤ position = grind (arith, c.loop-position-test.false, c.len-position-end.ensures) in
    sym (normal_is out c.old_len-normal.ensures.normal)
    ∙ (ap normal (sym (append_nothing out))
    ∙ (ap (λ ys. normal (out ++ function_change old new ys)) (sym (drop_all position xs rest))
    ∙ (c.loop-position.invariant.told ∙ normal_is (function_change old new xs) (function_change_normal old new xs))))
