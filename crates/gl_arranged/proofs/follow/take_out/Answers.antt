use Rattle.std.proofs.Common.{◌≡◌, ◌+◌, ◌-◌, ◌<◌, ◌∷◌, ℕ, List, length, drop, remove, None, Some, refl, sym, ap, ◌∙◌, subst, arith}
use Rattle.std.specs.List.{slice_get, slice_index_or}
use Rattle.std.proofs.Math.Seq.{drop-length}
use Rattle.std.proofs.lemmas.List.{length-map}
use Rattle.std.proofs.lemmas.List.Edits.{length-remove}
use Rattle.std.proofs.lemmas.Option.{slice_get-get_or, slice_get_within}
use Rattle.gl_kernel.proofs.ReadValues.{drop_at}
use Rattle.gl_order.specs.Arranged.{Arranged, moved_down, IsOrdered}
use Rattle.gl_arranged.specs.declared.changed.Changed.{Changed}
use Rattle.gl_arranged.specs.declared.step.Step.TheVariants.{Removed}
use Rattle.gl_arranged.specs.Changes.{without}
use Rattle.gl_arranged.specs.Marks.{made, inserted_len}
use Rattle.gl_arranged.proofs.Lists.{rising_room}
use Rattle.gl_arranged.proofs.Backward.{leads_nowhere, leads_more}
use Rattle.gl_arranged.proofs.MarkSteps.{marks_long, removed_is, can_remove, lead_more, inserted_last}
use Rattle.gl_arranged.proofs.follow.take_out.Goals as goal

pub loop-left-init : goal.loop-left-init
loop-left-init c = record {
  within = omega arith;
  ordered = λ compare xs o h. subst (λ cs. IsOrdered compare (without cs xs) c.args.tree.now) (sym (drop-length c.args.gone.now)) h;
  undo = leads_nowhere c.args.undo.now.items c.args.tree.now;
  marks = λ compare xs start o h led. led;
  inserted = refl;
  spare = refl;
  places = refl;
  room = refl;
  len = refl;
  capacity = refl;
}

abbrev one_at : List Changed → ℕ → Changed
one_at gone left = slice_index_or gone (left - 1) (record { source = 0; partner = None })

pub remove-spot-requires : goal.remove-spot-requires
remove-spot-requires c =
    let gone = c.args.gone.now in
    let i = c.loop-left.invariant in
    let at : slice_get gone (c.loop-left.left - 1) ≡ Some (one_at gone c.loop-left.left) = slice_get-get_or gone (c.loop-left.left - 1) _ (omega (arith, i.within, c.loop-left-test.true)) in
    omega (arith, rising_room 0 (length c.args.tree.now.places) gone (c.loop-left.left - 1) (one_at gone c.loop-left.left) c.requires.rising at, i.places, i.within, c.loop-left-test.true)

pub loop-left-preserved : goal.loop-left-preserved
loop-left-preserved c =
    let gone = c.args.gone.now in
    let i = c.loop-left.invariant in
    let k = c.loop-left.left - 1 in
    let one = one_at gone c.loop-left.left in
    let more = c.loop-left-test.true in
    let at : slice_get gone k ≡ Some one = slice_get-get_or gone k _ (omega (arith, i.within, more)) in
    let next : k + 1 ≡ c.loop-left.left = omega (arith, more) in
    let split : drop k gone ≡ one ∷ drop c.loop-left.left gone = drop_at gone k one at ∙ ap (λ n. one ∷ drop n gone) next in
    let old = c.loop-left.tree in
    let new = c.remove-spot.new.self in
    let spot = c.remove-spot.result in
    let within = slice_get_within old.places spot.place one.source c.remove-spot.ensures.place in
    let fewer : length new.places + 1 ≡ length old.places =
    omega (arith, ap (λ (a : Arranged). length a.places) c.remove-spot.ensures.value, length-map (remove old.places spot.place) (moved_down one.source), length-remove old.places spot.place within) in
    let below : one.source < length old.places = omega (arith, rising_room 0 (length c.args.tree.now.places) gone k one c.requires.rising at, i.places, i.within, more) in
    let room : new.room ≡ old.room = ap (λ (a : Arranged). a.room) c.remove-spot.ensures.value in
    record {
      within = omega (arith, i.within);
      ordered = λ compare xs o h. subst (λ cs. IsOrdered compare (without cs xs) new) (sym split) (c.remove-spot.ensures.ordered compare (without (drop c.loop-left.left gone) xs) o (i.ordered compare xs o h));
      undo = leads_more c.args.undo.now.items c.args.tree.now c.loop-left.undo.items c.push_reserved.new.self.items (Removed one.source spot) old new i.undo c.push_reserved.ensures.items c.remove-spot.ensures.gives_back
          (record {
            source_in_range = omega (arith, below, fewer);
            position_in_range = omega (arith, within, fewer);
            few = omega (arith, fewer, i.places, i.within, c.requires.few);
            has_spare = omega (arith, c.remove-spot.ensures.spare);
            first = c.remove-spot.ensures.first;
          });
      marks = λ compare xs start o h led.
          let long = marks_long compare (without (drop c.loop-left.left gone) xs) old (i.ordered compare xs o h) in
          let value : new.marks ≡ made (Removed one.source spot) old.marks = ap (λ (a : Arranged). a.marks) c.remove-spot.ensures.value ∙ removed_is old.marks one.source spot c.remove-spot.ensures.before c.remove-spot.ensures.after in
          lead_more c.loop-left.undo.items c.push_reserved.new.self.items (Removed one.source spot) start old.marks new.marks (i.marks compare xs start o h led) c.push_reserved.ensures.items
          (can_remove old.marks one.source spot (omega (arith, within, long)) c.remove-spot.ensures.after) (sym value);
      inserted = omega (arith, i.inserted, ap inserted_len c.push_reserved.ensures.items, inserted_last c.loop-left.undo.items (Removed one.source spot));
      spare = omega (arith, i.spare, c.remove-spot.ensures.spare, more);
      places = omega (arith, i.places, fewer, more);
      room = room ∙ i.room;
      len = omega (arith, i.len, c.push_reserved.ensures.len, more);
      capacity = c.push_reserved.ensures.capacity ∙ i.capacity;
    }
