use Rattle.std.proofs.Common.{◌≡◌, ◌∙◌, ℕ, List, ap, sym, subst, arith}
use Rattle.gl_kernel.specs.declared.log_step.LogStep.{LogStep}
use Rattle.gl_kernel.specs.Edits.{edited, played, CanPlay}
use Rattle.gl_kernel.proofs.Play.{played-append, fits_first, can_make_last, can_play_more}
use Rattle.gl_kernel.proofs.log.take_back.Goals as goal

abbrev Playable : {T : Type 0} → (List T → ℕ) → ℕ → List T → List (LogStep T) → Type 0
Playable need room xs es = CanPlay need room es xs

abbrev PlayableOn : {T : Type 0} → (List T → ℕ) → ℕ → List (LogStep T) → List T → Type 0
PlayableOn need room es xs = CanPlay need room es xs

pub made-requires-clause-fits : goal.made-requires-clause-fits
made-requires-clause-fits g c = fits_first g.E.Editable.need _ c.edits.log.items (g.E.Editable.items c.edits.list) c.edits.invariant.can

pub made-requires-clause-can : goal.made-requires-clause-can
made-requires-clause-can g c =
    let xs = g.E.Editable.items c.edits.list in
    let can = subst (Playable g.E.Editable.need (g.E.Editable.room c.edits.list) xs) c.in-Some.ensures.items c.edits.invariant.can in
    let step = can_make_last g.E.Editable.need (g.E.Editable.room c.edits.list) c.pop.new.self.items c.in-Some.edit xs can in
    step.0

pub edits-preserved : goal.edits-preserved
edits-preserved g c =
    let need = g.E.Editable.need in
    let room = g.E.Editable.room c.edits.list in
    let more = g.E.Editable.room c.made.new.list in
    let xs = g.E.Editable.items c.edits.list in
    let ys = g.E.Editable.items c.made.new.list in
    let rest = c.pop.new.self.items in
    let edit = c.in-Some.edit in
    let can = subst (Playable need room xs) c.in-Some.ensures.items c.edits.invariant.can in
    let step = can_make_last need room rest edit xs can in
    let here : edited edit xs ≡ ys = sym c.made.ensures.items in
    record {
      left = ap (played rest) c.made.ensures.items ∙ (sym (played-append rest edit xs) ∙ (ap (λ es. played es xs) (sym c.in-Some.ensures.items) ∙ c.edits.invariant.left));
      can = can_play_more need room more rest ys c.made.ensures.room (subst (PlayableOn need room rest) here step.1);
      more = omega (arith, c.edits.invariant.more, c.made.ensures.room);
    }
