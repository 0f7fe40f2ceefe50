use Rattle.std.proofs.Common.{◌≡◌, ◌∙◌, ◌-◌, ℕ, List, length, drop, ap, sym, inl, inr, arith}
use Rattle.std.proofs.lemmas.Bool.{cases_lt}
use Rattle.spec_sorting.specs.Leads.{undone}
use Rattle.spec_sorting.proofs.DeltaLeads.{length_from, length-applied}
use Rattle.spec_sorting.proofs.Spreads.{next_from}
use Rattle.gl_arranged.specs.declared.changed.Ranked.{Ranked}
use Rattle.gl_sorted.specs.declared.leaving.Leaving.{Leaving}
use Rattle.gl_sorted.specs.Merging.{old_spots_of, new_spots_of}
use Rattle.gl_sorted.specs.Next.{next_leaving, next_ranked}
use Rattle.gl_sorted.proofs.Merges.{passed, can_pass, next_old_is, next_new_is}
use Rattle.gl_sorted.proofs.merged.pass.Goals as goal

low : (n x k : ℕ) (gs : List Leaving) (next old_len : ℕ) → next ≡ next_leaving old_len gs → old_len ≡ n → next ≡ next_leaving n gs
low n x k gs next old_len e f = e ∙ ap (λ m. next_leaving m gs) f

high : (n : ℕ) (cs : List Ranked) (next new_len : ℕ) → next ≡ next_ranked new_len cs → new_len ≡ n → next ≡ next_ranked n cs
high n cs next new_len e f = e ∙ ap (λ m. next_ranked m cs) f

pub overflow_sub-old : goal.overflow_sub-old
overflow_sub-old g c =
    let ys = g.S.Shelf.items c.args.input.now in
    let xs = undone c.args.d.now.pieces ys in
    let gs = drop c.args.told.now.gone c.args.gone.now in
    let next = next_from c.args.told.now.olds (length xs) (old_spots_of xs gs) c.requires.left.left.aligned.old_left in
    let first = next.0 in
    omega (arith, first, next_old_is xs (length xs) gs, low (length xs) 0 0 gs c.next_old-old.result c.old_len.result c.next_old-old.ensures (c.old_len.ensures.value ∙ sym (length_from c.args.d.now.pieces xs c.requires.merge.delta.starts)))

pub overflow_sub-new : goal.overflow_sub-new
overflow_sub-new g c =
    let ys = g.S.Shelf.items c.args.input.now in
    let xs = undone c.args.d.now.pieces ys in
    let cs = drop c.args.told.now.came c.args.came.now in
    let next = next_from c.args.told.now.news (length ys) (new_spots_of c.args.gone.now ys cs) c.requires.left.left.aligned.new_left in
    let first = next.0 in
    omega (
      arith,
      first,
      next_new_is c.args.gone.now ys (length ys) cs,
      high (length ys) cs c.next_new-new.result c.new_len.result c.next_new-new.ensures (c.new_len.ensures.value ∙ sym (ap length c.requires.merge.delta.ends ∙ length-applied c.args.d.now.pieces xs c.requires.merge.delta.starts)),
    )

pub tell-requires : goal.tell-requires
tell-requires g c =
    let ys = g.S.Shelf.items c.args.input.now in
    let xs = undone c.args.d.now.pieces ys in
    let gs = drop c.args.told.now.gone c.args.gone.now in
    let cs = drop c.args.told.now.came c.args.came.now in
    let next = next_from c.args.told.now.olds (length xs) (old_spots_of xs gs) c.requires.left.left.aligned.old_left in
    let first = next.0 in
    let next_too = next_from c.args.told.now.news (length ys) (new_spots_of c.args.gone.now ys cs) c.requires.left.left.aligned.new_left in
    let first_too = next_too.0 in
    let old_is = low (length xs) 0 0 gs c.next_old-old.result c.old_len.result c.next_old-old.ensures (c.old_len.ensures.value ∙ sym (length_from c.args.d.now.pieces xs c.requires.merge.delta.starts)) in
    let new_is = high (length ys) cs c.next_new-new.result c.new_len.result c.next_new-new.ensures (c.new_len.ensures.value ∙ sym (ap length c.requires.merge.delta.ends ∙ length-applied c.args.d.now.pieces xs c.requires.merge.delta.starts)) in
    can_pass xs ys c.args.gone.now c.args.came.now c.args.out.now.pieces c.args.told.now c.requires.left c.min-kept.result
    (omega (arith, first, next_old_is xs (length xs) gs, old_is, c.min-kept.ensures)) (omega (arith, first_too, next_new_is c.args.gone.now ys (length ys) cs, new_is, c.min-kept.ensures))

pub returns-clause-ok : goal.returns-clause-ok
returns-clause-ok g c =
    let ys = g.S.Shelf.items c.args.input.now in
    let xs = undone c.args.d.now.pieces ys in
    let gs = drop c.args.told.now.gone c.args.gone.now in
    let cs = drop c.args.told.now.came c.args.came.now in
    let next = next_from c.args.told.now.olds (length xs) (old_spots_of xs gs) c.requires.left.left.aligned.old_left in
    let first = next.0 in
    let next_too = next_from c.args.told.now.news (length ys) (new_spots_of c.args.gone.now ys cs) c.requires.left.left.aligned.new_left in
    let first_too = next_too.0 in
    let old_is = low (length xs) 0 0 gs c.next_old-old.result c.old_len.result c.next_old-old.ensures (c.old_len.ensures.value ∙ sym (length_from c.args.d.now.pieces xs c.requires.merge.delta.starts)) in
    let new_is = high (length ys) cs c.next_new-new.result c.new_len.result c.next_new-new.ensures (c.new_len.ensures.value ∙ sym (ap length c.requires.merge.delta.ends ∙ length-applied c.args.d.now.pieces xs c.requires.merge.delta.starts)) in
    passed xs ys c.args.gone.now c.args.came.now c.args.out.now.pieces c.args.told.now c.requires.left c.min-kept.result c.tell.new.out.pieces
    (omega (arith, first, next_old_is xs (length xs) gs, old_is, c.min-kept.ensures)) (omega (arith, first_too, next_new_is c.args.gone.now ys (length ys) cs, new_is, c.min-kept.ensures)) c.in_ok-tell.ensures

pub returns-clause-change : goal.returns-clause-change
returns-clause-change g c =
    let ys = g.S.Shelf.items c.args.input.now in
    let xs = undone c.args.d.now.pieces ys in
    let gs = drop c.args.told.now.gone c.args.gone.now in
    let cs = drop c.args.told.now.came c.args.came.now in
    let next = next_from c.args.told.now.olds (length xs) (old_spots_of xs gs) c.requires.left.left.aligned.old_left in
    let first = next.0 in
    let next_too = next_from c.args.told.now.news (length ys) (new_spots_of c.args.gone.now ys cs) c.requires.left.left.aligned.new_left in
    let first_too = next_too.0 in
    let old_is = low (length xs) 0 0 gs c.next_old-old.result c.old_len.result c.next_old-old.ensures (c.old_len.ensures.value ∙ sym (length_from c.args.d.now.pieces xs c.requires.merge.delta.starts)) in
    let new_is = high (length ys) cs c.next_new-new.result c.new_len.result c.next_new-new.ensures (c.new_len.ensures.value ∙ sym (ap length c.requires.merge.delta.ends ∙ length-applied c.args.d.now.pieces xs c.requires.merge.delta.starts)) in
    elim (cases_lt (c.next_old-old.result - c.args.told.now.olds) (c.next_new-new.result - c.args.told.now.news)) [
      | inl less ↦ inl (omega (arith, less, first, next_old_is xs (length xs) gs, old_is, c.min-kept.ensures))
      | inr more ↦ inr (omega (arith, more, first_too, next_new_is c.args.gone.now ys (length ys) cs, new_is, c.min-kept.ensures))
    ]
