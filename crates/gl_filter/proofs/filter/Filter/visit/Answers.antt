use Rattle.std.proofs.Common.{◌∙◌, ◌++◌, ◌∷◌, [], ◌+◌, List, length, slice_get, ap, sym, refl, subst, arith}
use Rattle.spec_views.specs.Piece.{Piece, kept, normal}
use Rattle.spec_views.specs.Matcher.{accepts}
use Rattle.spec_views.specs.Chosen.{told_of_pair}
use Rattle.gl_kernel.specs.Fates.{edits_of}
use Rattle.gl_kernel.specs.Plans.{CanTell}
use Rattle.gl_kernel.proofs.Made.{length-made}
use Rattle.gl_kernel.proofs.ReadValues.{result_is}
use Rattle.gl_filter.specs.Kept.{Kept}
use Rattle.gl_filter.specs.Told.{told_change, switch, switches, questions}
use Rattle.gl_filter.proofs.Changes.{says_here, first_of}
use Rattle.gl_filter.proofs.filter.Filter.visit.Goals as goal

pub shown-was-requires : goal.shown-was-requires
shown-was-requires g c =
    let old = accepts c.args.self.now.matcher in
    let marks = ap (λ (k : Kept). k.shown) c.self.view_is ∙ c.requires.stands in
    omega (arith, c.requires.within, ap length marks, length-made old (g.S.Shelf.items c.args.input.now))

pub decide-is-requires : goal.decide-is-requires
decide-is-requires g c =
    let old = accepts c.args.self.now.matcher in
    let x = c.element-v.result.now in
    let marks = ap (λ (k : Kept). k.shown) c.self.view_is ∙ c.requires.stands in
    let was = result_is old c.self.inside.marks.shown (g.S.Shelf.items c.args.input.now) c.args.plan.now.position x c.shown-was.result marks c.element-v.ensures c.shown-was.ensures in
    says_here c.args.kind c.args.self.now.matcher c.args.param.now x c.shown-was.result c.requires.says was

pub tell_kept-requires : goal.tell_kept-requires
tell_kept-requires g c =
    let xs = g.S.Shelf.items c.args.input.now in
    let old = accepts c.args.self.now.matcher in
    let new = accepts c.args.param.now in
    let position = c.args.plan.now.position in
    let x = c.element-v.result.now in
    let marks = ap (λ (k : Kept). k.shown) c.self.view_is ∙ c.requires.stands in
    let was = result_is old c.self.inside.marks.shown xs position x c.shown-was.result marks c.element-v.ensures c.shown-was.ensures in
    let told = ap (told_change old new) (first_of xs position x c.element-v.ensures)
    ∙ (ap (λ b. told_of_pair b (new x) kept x x []) (sym was) ∙ ap (λ b. told_of_pair c.shown-was.result b kept x x []) (sym c.decide-is.ensures.value)) in
    let Can : List Piece → Type 0 = λ qs. CanTell qs c.args.plan.now.out.pieces in
    subst Can told c.requires.can

pub returns-clause-ok : goal.returns-clause-ok
returns-clause-ok g c =
    let xs = g.S.Shelf.items c.args.input.now in
    let old = accepts c.args.self.now.matcher in
    let new = accepts c.args.param.now in
    let plan = c.args.plan.now in
    let x = c.element-v.result.now in
    let marks = ap (λ (k : Kept). k.shown) c.self.view_is ∙ c.requires.stands in
    let was = result_is old c.self.inside.marks.shown xs plan.position x c.shown-was.result marks c.element-v.ensures c.shown-was.ensures in
    let told = ap (told_change old new) (first_of xs plan.position x c.element-v.ensures)
    ∙ (ap (λ b. told_of_pair b (new x) kept x x []) (sym was) ∙ ap (λ b. told_of_pair c.shown-was.result b kept x x []) (sym c.decide-is.ensures.value)) in
    let edits = ap (λ ys. edits_of plan.position (switches old new ys)) (first_of xs plan.position x c.element-v.ensures)
    ∙ (ap (λ b. edits_of plan.position (switch b (new x) ∷ [])) (sym was) ∙ ap (λ b. edits_of plan.position (switch c.shown-was.result b ∷ [])) (sym c.decide-is.ensures.value)) in
    record {
      told_is = c.in_ok-tell_kept.ensures ∙ ap (λ qs. normal (plan.out.pieces ++ qs)) (sym told);
      edits_are = c.in_ok-note.ensures ∙ ap (λ es. plan.log.items ++ es) (sym edits);
      position_is = refl;
    }

pub returns-in_err-tell_kept-clause-counted : goal.returns-in_err-tell_kept-clause-counted
returns-in_err-tell_kept-clause-counted g c =
    let position = c.args.plan.now.position in
    let mark = ap (λ (k : Kept). slice_get k.shown position) (sym c.self.view_is) ∙ c.shown-was.ensures in
    omega (arith, c.decide-is.ensures.counted, ap (questions c.args.kind) (first_of c.args.self.now.shown position c.shown-was.result mark))

pub returns-in_err-note-clause-counted : goal.returns-in_err-note-clause-counted
returns-in_err-note-clause-counted g c =
    let position = c.args.plan.now.position in
    let mark = ap (λ (k : Kept). slice_get k.shown position) (sym c.self.view_is) ∙ c.shown-was.ensures in
    omega (arith, c.decide-is.ensures.counted, ap (questions c.args.kind) (first_of c.args.self.now.shown position c.shown-was.result mark))

pub returns-clause-counted : goal.returns-clause-counted
returns-clause-counted g c =
    let position = c.args.plan.now.position in
    let mark = ap (λ (k : Kept). slice_get k.shown position) (sym c.self.view_is) ∙ c.shown-was.ensures in
    omega (arith, c.decide-is.ensures.counted, ap (questions c.args.kind) (first_of c.args.self.now.shown position c.shown-was.result mark))
