use Rattle.std.proofs.Common.{◌≡◌, ◌+◌, ◌*◌, ◌<◌, ◌∷◌, ℕ, suc, List, length, drop, map, remove, None, refl, sym, ap, ◌∙◌, subst, arith}
use Rattle.std.specs.List.{slice_get, slice_index_or}
use Rattle.std.proofs.lemmas.List.Edits.{length-remove}
use Rattle.std.proofs.lemmas.Option.{slice_get-get_or, slice_get_within}
use Rattle.spec_sorting.specs.Tree.{Tree}
use Rattle.spec_sorting.specs.Piece.{Piece, inverted}
use Rattle.spec_sorting.specs.Sides.{sides}
use Rattle.spec_sorting.specs.Sorted.{index_of}
use Rattle.spec_sorting.proofs.Composition.{length-olds}
use Rattle.spec_lang.specs.Sorting.{order_cmp}
use Rattle.spec_lang.proofs.Sortings.{order_cmp_total}
use Rattle.gl_kernel.proofs.ReadValues.{drop_at}
use Rattle.gl_order.specs.Arranged.{mark_at, taken_out, IsOrdered}
use Rattle.gl_order.proofs.Edits.{length-ordered, steps_more, steps_zero}
use Rattle.gl_arranged.specs.declared.changed.Changed.{Changed}
use Rattle.gl_arranged.specs.declared.step.Step.TheVariants.{Inserted}
use Rattle.gl_arranged.specs.Changes.{changed_of, without}
use Rattle.gl_arranged.specs.Marks.{inserted_len}
use Rattle.gl_arranged.proofs.Lists.{is_part, IsPart, without_short}
use Rattle.gl_arranged.proofs.Backward.{leads_nowhere, leads_more, put_in_once}
use Rattle.gl_arranged.proofs.MarkSteps.{marks_long, inserted_is, lead_more, inserted_last}
use Rattle.gl_arranged.proofs.follow.put_in.Goals as goal

pub loop-changed-init : goal.loop-changed-init
loop-changed-init g c = record {
  ordered = c.requires.ordered;
  undo = leads_nowhere c.args.undo.now.items c.args.tree.now;
  marks = λ start led. led;
  inserted = omega arith;
  spare = omega (arith, c.requires.spare);
  room = refl;
  len = omega arith;
  capacity = refl;
  counted = λ digits few. steps_zero c.args.steps.now (3 * (digits + 1));
}

abbrev one_at : List Changed → ℕ → Changed
one_at came index = slice_index_or came index (record { source = 0; partner = None })

part : (ps : List Piece) (ys : List Tree) (came : List Changed) (index : ℕ) → came ≡ changed_of 0 (sides ps).new → length ys ≡ length (sides ps).new → index < length came → IsPart ps ys index (one_at came index)
part ps ys came index are long less =
    is_part ps ys index (one_at came index) (sym long) (ap (λ cs. slice_get cs index) (sym are) ∙ slice_get-get_or came index _ less)

pub overflow_add-changed : goal.overflow_add-changed
overflow_add-changed g c =
    let ys = g.S.Shelf.items c.args.input.now in
    let p = part c.args.d.now.pieces ys c.args.came.now c.loop-changed.changed-index c.requires.came (c.requires.new ∙ sym (length-olds (map inverted c.args.d.now.pieces) 0)) c.loop-changed-test.true in
    omega (arith, p.within, c.requires.few)

pub part-part-requires-clause-within : goal.part-part-requires-clause-within
part-part-requires-clause-within g c =
    let ys = g.S.Shelf.items c.args.input.now in
    let p = part c.args.d.now.pieces ys c.args.came.now c.loop-changed.changed-index c.requires.came (c.requires.new ∙ sym (length-olds (map inverted c.args.d.now.pieces) 0)) c.loop-changed-test.true in
    omega (arith, p.within, c.requires.new)

pub insert_reserved-place-requires-clause-in_range : goal.insert_reserved-place-requires-clause-in_range
insert_reserved-place-requires-clause-in_range g c =
    let ys = g.S.Shelf.items c.args.input.now in
    let p = part c.args.d.now.pieces ys c.args.came.now c.loop-changed.changed-index c.requires.came (c.requires.new ∙ sym (length-olds (map inverted c.args.d.now.pieces) 0)) c.loop-changed-test.true in
    omega (arith, p.long, ap length c.part-part.ensures)

pub insert_reserved-place-requires-clause-few : goal.insert_reserved-place-requires-clause-few
insert_reserved-place-requires-clause-few g c =
    let ys = g.S.Shelf.items c.args.input.now in
    let came = c.args.came.now in
    let index = c.loop-changed.changed-index in
    let p = part c.args.d.now.pieces ys came index c.requires.came (c.requires.new ∙ sym (length-olds (map inverted c.args.d.now.pieces) 0)) c.loop-changed-test.true in
    let is = c.part-part.ensures ∙ (p.part ∙ ap (λ cs. without (drop (index + 1) cs) ys) (sym c.requires.came)) in
    omega (arith, ap length is, without_short (drop (index + 1) came) ys, c.requires.few)

pub insert_reserved-place-requires-clause-ordered : goal.insert_reserved-place-requires-clause-ordered
insert_reserved-place-requires-clause-ordered g c =
    let ys = g.S.Shelf.items c.args.input.now in
    let came = c.args.came.now in
    let index = c.loop-changed.changed-index in
    let p = part c.args.d.now.pieces ys came index c.requires.came (c.requires.new ∙ sym (length-olds (map inverted c.args.d.now.pieces) 0)) c.loop-changed-test.true in
    let is = c.part-part.ensures ∙ (p.part ∙ ap (λ cs. without (drop (index + 1) cs) ys) (sym c.requires.came)) in
    let one = one_at came index in
    let split : drop index came ≡ one ∷ drop (index + 1) came = drop_at came index one (slice_get-get_or came index _ c.loop-changed-test.true) in
    let now = subst (λ cs. IsOrdered (order_cmp c.args.order.now) (without cs ys) c.loop-changed.tree) split c.loop-changed.invariant.ordered in
    subst (λ zs. IsOrdered (order_cmp c.args.order.now) (remove zs one.source) c.loop-changed.tree) (sym is) now

pub loop-changed-preserved : goal.loop-changed-preserved
loop-changed-preserved g c =
    let ys = g.S.Shelf.items c.args.input.now in
    let came = c.args.came.now in
    let index = c.loop-changed.changed-index in
    let i = c.loop-changed.invariant in
    let compare = order_cmp c.args.order.now in
    let p = part c.args.d.now.pieces ys came index c.requires.came (c.requires.new ∙ sym (length-olds (map inverted c.args.d.now.pieces) 0)) c.loop-changed-test.true in
    let is = c.part-part.ensures ∙ (p.part ∙ ap (λ cs. without (drop (index + 1) cs) ys) (sym c.requires.came)) in
    let one = one_at came index in
    let old = c.loop-changed.tree in
    let new = c.insert_reserved-place.new.self in
    let rest = without (drop (index + 1) came) ys in
    let split : drop index came ≡ one ∷ drop (index + 1) came = drop_at came index one (slice_get-get_or came index _ c.loop-changed-test.true) in
    let before = subst (λ cs. IsOrdered compare (without cs ys) old) split i.ordered in
    let after = subst (λ zs. IsOrdered compare zs new) is c.insert_reserved-place.ensures.ordered in
    let put = put_in_once compare rest one.source c.insert_reserved-place.result old new (order_cmp_total c.args.order.now) before after c.insert_reserved-place.ensures.place c.insert_reserved-place.ensures.room in
    let within = put.there.within in
    let long_old = length-ordered compare (remove rest one.source) old (order_cmp_total c.args.order.now) before in
    let long_new = length-ordered compare rest new (order_cmp_total c.args.order.now) after in
    let one_less = length-remove rest one.source (omega (arith, within, long_new)) in
    record {
      ordered = after;
      undo = leads_more c.args.undo.now.items c.args.tree.now c.loop-changed.undo.items c.push_reserved.new.self.items (Inserted one.source c.spot_at.result) old new i.undo c.push_reserved.ensures.items put.back put.there;
      spare = omega (arith, i.spare, long_old, long_new, one_less, c.insert_reserved-place.ensures.room, c.loop-changed-test.true);
      marks = λ start led.
          let spot = c.spot_at.result in
          let spot_is : spot.place ≡ c.insert_reserved-place.result = c.spot_at.ensures.place in
          let here = ap (slice_get new.places) spot_is ∙ c.insert_reserved-place.ensures.place in
          let index : index_of one.source new.places ≡ spot.place = sym (put.there.once spot.place here) in
          let back = ap (taken_out new one.source) (sym index) ∙ put.back in
          let m = inserted_is compare rest one.source spot old new (order_cmp_total c.args.order.now) after here back
          (c.spot_at.ensures.before ∙ ap (mark_at new.marks) (sym spot_is), c.spot_at.ensures.after ∙ ap (λ n. mark_at new.marks (suc n)) (sym spot_is)) in
          lead_more c.loop-changed.undo.items c.push_reserved.new.self.items (Inserted one.source spot) start old.marks new.marks (i.marks start led) c.push_reserved.ensures.items m.can m.is;
      inserted = omega (arith, i.inserted, ap inserted_len c.push_reserved.ensures.items, inserted_last c.loop-changed.undo.items (Inserted one.source c.spot_at.result));
      room = c.insert_reserved-place.ensures.room ∙ i.room;
      len = omega (arith, i.len, c.push_reserved.ensures.len);
      capacity = c.push_reserved.ensures.capacity ∙ i.capacity;
      counted = λ digits few.
          steps_more c.args.steps.now c.loop-changed.steps c.insert_reserved-place.new.steps index (3 * (digits + 1)) (i.counted digits few)
          (c.insert_reserved-place.ensures.counted digits (omega (arith, few, ap length is, without_short (drop (index + 1) came) ys)));
    }

pub spot_at-requires-clause-within : goal.spot_at-requires-clause-within
spot_at-requires-clause-within g c =
    slice_get_within c.insert_reserved-place.new.self.places c.insert_reserved-place.result _ c.insert_reserved-place.ensures.place

pub spot_at-requires-clause-long : goal.spot_at-requires-clause-long
spot_at-requires-clause-long g c =
    marks_long _ _ c.insert_reserved-place.new.self c.insert_reserved-place.ensures.ordered
