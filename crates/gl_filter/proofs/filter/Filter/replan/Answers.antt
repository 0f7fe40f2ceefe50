use Rattle.std.proofs.Common.{◌≡◌, ◌∙◌, ◌++◌, ◌+◌, ◌-◌, List, Bool, length, drop, ap, sym, refl, subst, arith}
use Rattle.std.proofs.lemmas.List.{length-drop, take_all}
use Rattle.spec_views.specs.Piece.{Piece, normal}
use Rattle.spec_views.specs.Matcher.{accepts}
use Rattle.gl_kernel.specs.Fates.{edits_of}
use Rattle.gl_kernel.specs.Plans.{CanTell}
use Rattle.gl_kernel.proofs.Made.{length-made}
use Rattle.gl_filter.specs.Kept.{Kept}
use Rattle.gl_filter.specs.Told.{told_change, switches, questions, AreAll, IsNext}
use Rattle.gl_filter.proofs.Changes.{walk_told, walk_can, walk_edits, walk_asked}
use Rattle.gl_filter.proofs.Passes.{passes_next, passes_rest}
use Rattle.gl_filter.proofs.filter.Filter.replan.Goals as goal

pub pass-requires-clause-can : goal.pass-requires-clause-can
pass-requires-clause-can g c =
    let xs = g.S.Shelf.items c.args.input.now in
    let old = c.args.self.now.matcher in
    let new = c.args.param.now in
    let bs = c.args.self.now.shown in
    let position = c.visited.plan.position in
    let out = c.visited.plan.out.pieces in
    let mark = c.left_mark-mark.result in
    let Next : List Bool → Type 0 = λ cs. IsNext mark cs position c.in-Some.position in
    let next = subst Next (ap (λ (k : Kept). k.shown) c.self.view_is) c.in-Some.ensures.next in
    let passed = passes_next c.args.kind old new xs bs mark c.requires.says c.requires.stands c.left_mark-mark.ensures position c.in-Some.position next in
    let Can : List Piece → Type 0 = λ qs. CanTell qs out in
    subst Can passed.told (walk_can (accepts old) (accepts new) xs position (c.in-Some.position - position) out c.requires.few c.visited.invariant.told)

pub visit-requires-clause-can : goal.visit-requires-clause-can
visit-requires-clause-can g c =
    let xs = g.S.Shelf.items c.args.input.now in
    let old = c.args.self.now.matcher in
    let new = c.args.param.now in
    let bs = c.args.self.now.shown in
    let position = c.visited.plan.position in
    let out = c.visited.plan.out.pieces in
    let mark = c.left_mark-mark.result in
    let n = c.in-Some.position - position in
    let at = c.pass.new.plan.position in
    let more = c.pass.new.plan.out.pieces in
    let whole = normal (told_change (accepts old) (accepts new) xs) in
    let Next : List Bool → Type 0 = λ cs. IsNext mark cs position c.in-Some.position in
    let next = subst Next (ap (λ (k : Kept). k.shown) c.self.view_is) c.in-Some.ensures.next in
    let passed = passes_next c.args.kind old new xs bs mark c.requires.says c.requires.stands c.left_mark-mark.ensures position c.in-Some.position next in
    let told = walk_told (accepts old) (accepts new) xs position n out more whole at c.visited.invariant.told
    (c.in_ok-pass.ensures.told_is ∙ ap (λ qs. normal (out ++ qs)) (sym passed.told)) c.in_ok-pass.ensures.position_is in
    walk_can (accepts old) (accepts new) xs at 1 more c.requires.few told

pub visited-preserved : goal.visited-preserved
visited-preserved g c =
    let xs = g.S.Shelf.items c.args.input.now in
    let old = c.args.self.now.matcher in
    let new = c.args.param.now in
    let kind = c.args.kind in
    let bs = c.args.self.now.shown in
    let position = c.visited.plan.position in
    let mark = c.left_mark-mark.result in
    let n = c.in-Some.position - position in
    let before = c.visited.plan in
    let passed_plan = c.pass.new.plan in
    let at = c.pass.new.plan.position in
    let after = c.visit.new.plan in
    let Next : List Bool → Type 0 = λ cs. IsNext mark cs position c.in-Some.position in
    let next = subst Next (ap (λ (k : Kept). k.shown) c.self.view_is) c.in-Some.ensures.next in
    let passed = passes_next kind old new xs bs mark c.requires.says c.requires.stands c.left_mark-mark.ensures position c.in-Some.position next in
    let goes = c.in_ok-pass.ensures in
    let visits = c.in_ok-visit.ensures.ok in
    let len : length bs ≡ length xs = ap length c.requires.stands ∙ length-made (accepts old) xs in
    let there : at ≡ c.in-Some.position = omega (arith, goes.position_is, next.from) in
    let told = walk_told (accepts old) (accepts new) xs position n before.out.pieces passed_plan.out.pieces (normal (told_change (accepts old) (accepts new) xs)) at c.visited.invariant.told
    (goes.told_is ∙ ap (λ qs. normal (before.out.pieces ++ qs)) (sym passed.told)) goes.position_is in
    let edits = walk_edits (accepts old) (accepts new) xs position n before.log.items passed_plan.log.items (edits_of 0 (switches (accepts old) (accepts new) xs)) at passed.inside c.visited.invariant.edits
    (goes.edits_are ∙ ap (λ es. before.log.items ++ es) (sym passed.edits)) goes.position_is in
    record {
      told = walk_told (accepts old) (accepts new) xs at 1 passed_plan.out.pieces after.out.pieces (normal (told_change (accepts old) (accepts new) xs)) after.position told visits.told_is visits.position_is;
      edits = walk_edits (accepts old) (accepts new) xs at 1 passed_plan.log.items after.log.items (edits_of 0 (switches (accepts old) (accepts new) xs)) after.position
          (omega (arith, there, next.within, len)) edits visits.edits_are visits.position_is;
      counted = omega (
        arith,
        c.visited.invariant.counted,
        c.in_ok-visit.ensures.counted,
        passed.asked,
        walk_asked kind bs position n,
        walk_asked kind bs at 1,
        ap (λ k. questions kind (drop k bs)) goes.position_is,
        ap (λ k. questions kind (drop k bs)) visits.position_is,
      );
      position = omega (arith, there, next.within, visits.position_is);
    }

pub returns-in_err-visit-clause-counted : goal.returns-in_err-visit-clause-counted
returns-in_err-visit-clause-counted g c =
    let xs = g.S.Shelf.items c.args.input.now in
    let kind = c.args.kind in
    let bs = c.args.self.now.shown in
    let position = c.visited.plan.position in
    let mark = c.left_mark-mark.result in
    let at = c.pass.new.plan.position in
    let Next : List Bool → Type 0 = λ cs. IsNext mark cs position c.in-Some.position in
    let next = subst Next (ap (λ (k : Kept). k.shown) c.self.view_is) c.in-Some.ensures.next in
    let passed = passes_next kind c.args.self.now.matcher c.args.param.now xs bs mark c.requires.says c.requires.stands c.left_mark-mark.ensures position c.in-Some.position next in
    omega (
      arith,
      c.visited.invariant.counted,
      c.in_err-visit.ensures.counted,
      passed.asked,
      walk_asked kind bs position (c.in-Some.position - position),
      walk_asked kind bs at 1,
      ap (λ k. questions kind (drop k bs)) c.in_ok-pass.ensures.position_is,
    )

pub pass-requires-2-clause-can : goal.pass-requires-2-clause-can
pass-requires-2-clause-can g c =
    let xs = g.S.Shelf.items c.args.input.now in
    let old = c.args.self.now.matcher in
    let new = c.args.param.now in
    let bs = c.args.self.now.shown in
    let position = c.visited.plan.position in
    let out = c.visited.plan.out.pieces in
    let mark = c.left_mark-mark.result in
    let marks = ap (λ (k : Kept). k.shown) c.self.view_is in
    let All : List Bool → Type 0 = λ cs. AreAll mark (drop position cs) in
    let passed = passes_rest c.args.kind old new xs bs mark c.requires.says c.requires.stands c.left_mark-mark.ensures position c.len.result (c.len.ensures ∙ ap length marks) c.visited.invariant.position
    (subst All marks (c.in_default.ensures.none refl)) in
    let Can : List Piece → Type 0 = λ qs. CanTell qs out in
    subst Can passed.told (walk_can (accepts old) (accepts new) xs position (c.len.result - position) out c.requires.few c.visited.invariant.told)

pub returns-clause-told : goal.returns-clause-told
returns-clause-told g c =
    let xs = g.S.Shelf.items c.args.input.now in
    let old = c.args.self.now.matcher in
    let new = c.args.param.now in
    let bs = c.args.self.now.shown in
    let position = c.visited.plan.position in
    let out = c.visited.plan.out.pieces in
    let mark = c.left_mark-mark.result in
    let marks = ap (λ (k : Kept). k.shown) c.self.view_is in
    let len : c.len.result ≡ length xs = c.len.ensures ∙ (ap length marks ∙ (ap length c.requires.stands ∙ length-made (accepts old) xs)) in
    let All : List Bool → Type 0 = λ cs. AreAll mark (drop position cs) in
    let passed = passes_rest c.args.kind old new xs bs mark c.requires.says c.requires.stands c.left_mark-mark.ensures position c.len.result (c.len.ensures ∙ ap length marks) c.visited.invariant.position
    (subst All marks (c.in_default.ensures.none refl)) in
    let all = take_all (c.len.result - position) (drop position xs) (omega (arith, len, length-drop position xs)) in
    c.in_ok-pass-2.ensures.told_is
    ∙ (ap (λ qs. normal (out ++ qs)) (sym passed.told)
    ∙ (ap (λ ys. normal (out ++ told_change (accepts old) (accepts new) ys)) all ∙ c.visited.invariant.told))

pub returns-clause-edits : goal.returns-clause-edits
returns-clause-edits g c =
    let xs = g.S.Shelf.items c.args.input.now in
    let old = c.args.self.now.matcher in
    let new = c.args.param.now in
    let bs = c.args.self.now.shown in
    let position = c.visited.plan.position in
    let log = c.visited.plan.log.items in
    let mark = c.left_mark-mark.result in
    let marks = ap (λ (k : Kept). k.shown) c.self.view_is in
    let len : c.len.result ≡ length xs = c.len.ensures ∙ (ap length marks ∙ (ap length c.requires.stands ∙ length-made (accepts old) xs)) in
    let All : List Bool → Type 0 = λ cs. AreAll mark (drop position cs) in
    let passed = passes_rest c.args.kind old new xs bs mark c.requires.says c.requires.stands c.left_mark-mark.ensures position c.len.result (c.len.ensures ∙ ap length marks) c.visited.invariant.position
    (subst All marks (c.in_default.ensures.none refl)) in
    let all = take_all (c.len.result - position) (drop position xs) (omega (arith, len, length-drop position xs)) in
    c.in_ok-pass-2.ensures.edits_are
    ∙ (ap (λ es. log ++ es) (sym passed.edits)
    ∙ (ap (λ ys. log ++ edits_of position (switches (accepts old) (accepts new) ys)) all ∙ c.visited.invariant.edits))
