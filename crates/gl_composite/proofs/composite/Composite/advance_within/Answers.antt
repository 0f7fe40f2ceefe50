use Rattle.std.proofs.Common.{◌≡◌, ◌∙◌, length, sum, refl, ap, arith}
use Rattle.gl_joined.specs.Piece.{new_len}
use Rattle.gl_kernel.specs.Fates.{edits_of}
use Rattle.gl_composite.specs.Kept.{Kept}
use Rattle.gl_composite.specs.Stands.{contents}
use Rattle.gl_composite.specs.Told.{told_by, new_lens, fates}
use Rattle.gl_composite.proofs.Members.{lens_make, told_news, length-new_lens}
use Rattle.gl_composite.proofs.Attaching.{contents_same, within_same}
use Rattle.gl_composite.proofs.composite.Composite.advance_within.Goals as goal

pub apply-requires-clause-within : goal.apply-requires-clause-within
apply-requires-clause-within c =
    let deltas = c.args.deltas.now in
    let edits = c.in_ok-plan.ensures.edits ∙ ap (λ xs. edits_of 0 (fates deltas xs)) c.deref.ensures.value in
    (lens_make deltas c.self.inside.lists.items c.self.inside.lens.lens c.in_ok-plan.plan.log.items c.self.invariant.paired
    (omega (arith, c.len-few.ensures.value, c.len-few.ensures.few)) edits).within

pub apply-requires-clause-few : goal.apply-requires-clause-few
apply-requires-clause-few c =
    let deltas = c.args.deltas.now in
    let edits = c.in_ok-plan.ensures.edits ∙ ap (λ xs. edits_of 0 (fates deltas xs)) c.deref.ensures.value in
    (lens_make deltas c.self.inside.lists.items c.self.inside.lens.lens c.in_ok-plan.plan.log.items c.self.invariant.paired
    (omega (arith, c.len-few.ensures.value, c.len-few.ensures.few)) edits).few

pub invariant_of-self-2 : goal.invariant_of-self-2
invariant_of-self-2 c =
    let deltas = c.args.deltas.now in
    let lists = c.self.inside.lists.items in
    let lens = c.self.inside.lens.lens in
    let edits = c.in_ok-plan.ensures.edits ∙ ap (λ xs. edits_of 0 (fates deltas xs)) c.deref.ensures.value in
    let made : c.apply.new.list.lens ≡ new_lens deltas lists lens =
    c.in_ok-log.ensures.ok
    ∙ (lens_make deltas lists lens c.in_ok-plan.plan.log.items c.self.invariant.paired (omega (arith, c.len-few.ensures.value, c.len-few.ensures.few)) edits).made in
    record {
      paired = omega (arith, ap length made, length-new_lens deltas lists lens c.self.invariant.paired);
      within = omega (arith, ap sum made, told_news deltas lists lens, ap (λ (k : Kept). new_len (told_by deltas k.lists k.lens)) c.self.view_is, ap (λ (k : Kept). k.limit) c.self.view_is, c.requires.within);
      few = c.self.invariant.few;
    }

pub returns-clause-lens : goal.returns-clause-lens
returns-clause-lens c =
    let deltas = c.args.deltas.now in
    let lists = c.self.inside.lists.items in
    let lens = c.self.inside.lens.lens in
    let edits = c.in_ok-plan.ensures.edits ∙ ap (λ xs. edits_of 0 (fates deltas xs)) c.deref.ensures.value in
    c.in_ok-log.ensures.ok
    ∙ ((lens_make deltas lists lens c.in_ok-plan.plan.log.items c.self.invariant.paired (omega (arith, c.len-few.ensures.value, c.len-few.ensures.few)) edits).made
    ∙ ap (λ (k : Kept). new_lens deltas k.lists k.lens) c.self.view_is)

pub returns-clause-undo : goal.returns-clause-undo
returns-clause-undo c =
    let lists = c.self.inside.lists.items in
    let lens = c.self.inside.lens.lens in
    record {
      back = contents_same c.self.inside.limit lists lists _ lens refl c.in_ok-log.ensures.back ∙ ap contents c.self.view_is;
      can = record {
        within = within_same c.self.inside.limit lists lists _ lens refl c.in_ok-log.ensures.back c.self.invariant;
        can = c.in_ok-log.ensures.can_go_back;
      };
    }
