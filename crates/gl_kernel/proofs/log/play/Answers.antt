use Rattle.std.proofs.Common.{◌≡◌, ◌∙◌, ◌∷◌, ◌++◌, ℕ, [], ◌+◌, List, length, ap, sym, subst, refl, arith}
use Rattle.gl_kernel.specs.declared.log_step.LogStep.{LogStep}
use Rattle.gl_kernel.specs.Edits.{edited, played, CanPlay}
use Rattle.gl_kernel.proofs.Play.{played-append, fits_first, can_make_last, can_play_last, can_play_more}
use Rattle.gl_kernel.proofs.log.play.Goals as goal

abbrev Playable : {T : Type 0} → (List T → ℕ) → ℕ → List T → List (LogStep T) → Type 0
Playable need room xs es = CanPlay need room es xs

abbrev PlayableOn : {T : Type 0} → (List T → ℕ) → ℕ → List (LogStep T) → List T → Type 0
PlayableOn need room es xs = CanPlay need room es xs

pub edits-init : goal.edits-init
edits-init g c =
    let xs = g.E.Editable.items c.args.list.now in
    record {
      left = refl;
      can = c.requires.can;
      back = ap (λ es. played es xs) c.requires.empty;
      can_go_back = subst (Playable g.E.Editable.need (g.E.Editable.room c.args.list.now) xs) (sym c.requires.empty) (fits_first g.E.Editable.need _ c.args.log.items xs c.requires.can);
      room = omega (arith, c.requires.room, ap length c.requires.empty);
      more = omega arith;
    }

pub made-requires-clause-fits : goal.made-requires-clause-fits
made-requires-clause-fits g c = fits_first g.E.Editable.need _ c.edits.log.items (g.E.Editable.items c.edits.list) c.edits.invariant.can

pub made-requires-clause-can : goal.made-requires-clause-can
made-requires-clause-can g c =
    let xs = g.E.Editable.items c.edits.list in
    let can = subst (Playable g.E.Editable.need (g.E.Editable.room c.edits.list) xs) c.in-Some.ensures.items c.edits.invariant.can in
    let step = can_make_last g.E.Editable.need (g.E.Editable.room c.edits.list) c.pop.new.self.items c.in-Some.edit xs can in
    step.0

pub edits-preserved : goal.edits-preserved
edits-preserved g c =
    let need = g.E.Editable.need in
    let room = g.E.Editable.room c.edits.list in
    let more = g.E.Editable.room c.made.new.list in
    let xs = g.E.Editable.items c.edits.list in
    let ys = g.E.Editable.items c.made.new.list in
    let rest = c.pop.new.self.items in
    let edit = c.in-Some.edit in
    let can = subst (Playable need room xs) c.in-Some.ensures.items c.edits.invariant.can in
    let step = can_make_last need room rest edit xs can in
    let here : edited edit xs ≡ ys = sym c.made.ensures.items in
    let go_back : CanPlay need more (c.edits.back.items ++ c.made.result ∷ []) ys = can_play_last need more c.edits.back.items c.made.result ys
    (fits_first need more rest ys (can_play_more need room more rest ys c.made.ensures.room (subst (PlayableOn need room rest) here step.1)))
    c.made.ensures.can_go_back
    (can_play_more need room more c.edits.back.items _ c.made.ensures.room (subst (PlayableOn need room c.edits.back.items) (sym c.made.ensures.back) c.edits.invariant.can_go_back)) in
    record {
      left = ap (played rest) c.made.ensures.items ∙ (sym (played-append rest edit xs) ∙ (ap (λ es. played es xs) (sym c.in-Some.ensures.items) ∙ c.edits.invariant.left));
      can = can_play_more need room more rest ys c.made.ensures.room (subst (PlayableOn need room rest) here step.1);
      back = ap (λ es. played es ys) c.push_reserved.ensures.items
          ∙ (played-append c.edits.back.items c.made.result ys ∙ (ap (played c.edits.back.items) c.made.ensures.back ∙ c.edits.invariant.back));
      can_go_back = subst (Playable need more ys) (sym c.push_reserved.ensures.items) go_back;
      room = omega (arith, c.edits.invariant.room, c.push_reserved.ensures.len, c.push_reserved.ensures.capacity, c.pop.ensures.len, c.in-Some.ensures.len);
      more = omega (arith, c.edits.invariant.more, c.made.ensures.room);
    }
