-- The marks of the first members follow the steps of the arrangement, and the classes are those of the new list then.
use Rattle.std.proofs.Common.{◌≡◌, ◌∙◌, ◌+◌, ◌≤◌, Bool, List, length, map, refl, ap, sym, subst, arith}
use Rattle.std.specs.Prelude.{not}
use Rattle.std.specs.Cmp.{IsTotalOrder}
use Rattle.spec_sorting.specs.Tree.{Tree}
use Rattle.spec_sorting.specs.Delta.{Delta}
use Rattle.spec_sorting.specs.Piece.{inverted, old_len, new_len}
use Rattle.spec_sorting.specs.Sides.{sides}
use Rattle.spec_sorting.specs.Leads.{LeadsTo, LeadsFrom, undone}
use Rattle.spec_sorting.specs.Arrangement.{Comparison, arrangement, same_key_marks}
use Rattle.spec_sorting.proofs.Composition.{length-olds}
use Rattle.spec_sorting.proofs.DeltaLeads.{leads_back_to, length_from}
use Rattle.spec_classes.specs.Classes.{classes}
use Rattle.spec_classes.specs.Members.{firsts}
use Rattle.spec_classes.proofs.Members.{are_classes}
use Rattle.gl_barcode.specs.Bars.{Bars}
use Rattle.gl_kernel.specs.declared.log_step.LogStep.{LogStep}
use Rattle.gl_kernel.specs.Edits.{played, AreWithin, insertions}
use Rattle.gl_arranged.specs.Sorting.{order_cmp}
use Rattle.gl_arranged.specs.Changes.{AreRanked, changed_of, fresh_len}
use Rattle.gl_arranged.specs.Kept as arrangements
use Rattle.gl_arranged.specs.Stands as arranged
use Rattle.gl_arranged.specs.Marks.{HasSteps, LeadMarks, inserted_len, inserted_by}
use Rattle.gl_arranged.specs.declared.changed.Ranked.{Ranked}
use Rattle.gl_arranged.specs.declared.arrangement.ArrangementUndo.{ArrangementUndo}
use Rattle.gl_arranged.specs.declared.arrangement.ArrangementUndo.TheVariants.{Steps, Whole}
use Rattle.gl_arranged.proofs.Lists.{rising_span, fresh_changed}
use Rattle.gl_arranged.proofs.Ranks.{changed_rise}
use Rattle.gl_arranged.proofs.Sortings.{order_cmp_total}
use Rattle.gl_classes.specs.declared.touched.Touched.{Touched}
use Rattle.gl_classes.specs.Firsts.{all_edits}
use Rattle.gl_classes.specs.Follows.{TookSteps, taken, Follows}
use Rattle.gl_classes.specs.Kept.{Kept}
use Rattle.gl_classes.specs.Stands.{StandsFor}
use Rattle.gl_classes.specs.Touching.{AreChangedIn, AreTouched}
use Rattle.gl_classes.specs.Unmet.{AreTouchedOld, first_marks_of}
use Rattle.gl_classes.proofs.ChangedIn.{marks_long, changed_in}
use Rattle.gl_classes.proofs.FirstMarks.{Plays, edits_make, edits_insert}

pub took_steps : (undo : ArrangementUndo) (old new : List Bool) → HasSteps undo old new → TookSteps undo
took_steps (Steps steps) old new h = tt
took_steps (Whole whole) old new h = absurd h

lead_marks : (undo : ArrangementUndo) (old new : List Bool) → HasSteps undo old new → LeadMarks (taken undo) old new
lead_marks (Steps steps) old new h = h
lead_marks (Whole whole) old new h = absurd h

taken_insert : (undo : ArrangementUndo) → inserted_len (taken undo) ≡ inserted_by undo
taken_insert (Steps steps) = refl
taken_insert (Whole whole) = refl

fresh_few : (d : Delta) → fresh_len d ≤ new_len d
fresh_few d = omega (arith, fresh_changed d 0 0, rising_span 0 _ (changed_of 0 (sides d).new) (changed_rise 0 (sides d).new), length-olds (map inverted d) 0)

-- the arrangement followed, of which the marks stand for the old list
pub follows : (k : Kept) (a : arrangements.Kept) (xs ys : List Tree) (d : Delta) (gone came : List Ranked) (undo : ArrangementUndo) → StandsFor k xs
    → (a.order ≡ k.list.order) × arranged.StandsFor a ys → AreRanked k.list.tree.places (sides d).old gone → AreRanked a.tree.places (sides d).new came
    → HasSteps undo k.list.tree.marks a.tree.marks → inserted_by undo ≡ fresh_len d → Follows (record { list = a; firsts = k.firsts }) xs ys d gone came undo
follows k a xs ys d gone came undo stands follow gone_are came_are steps inserted =
    let same : k.list.order ≡ a.order = sym follow.0 in
    let compare : Comparison = order_cmp k.list.order in
    let marks : k.list.tree.marks ≡ same_key_marks compare xs (arrangement compare xs) = stands.list.marks ∙ ap (same_key_marks compare xs) stands.list.places in
    record {
      list = follow.1;
      firsts = stands.firsts ∙ (ap (map not) marks ∙ ap (λ ks. first_marks_of (order_cmp ks) xs) same);
      gone_are = subst (λ ks. AreRanked (arrangement (order_cmp ks) xs) (sides d).old gone) same (subst (λ is. AreRanked is (sides d).old gone) stands.list.places gone_are);
      came_are = came_are;
      steps = subst (λ ks. HasSteps undo (same_key_marks (order_cmp ks) xs (arrangement (order_cmp ks) xs)) a.tree.marks) same (subst (λ ms. HasSteps undo ms a.tree.marks) marks steps);
      inserted = inserted;
    }

module _ (k : Kept) (ys : List Tree) (d : Delta) (leads_to : LeadsTo d ys) (gone came : List Ranked) (undo : ArrangementUndo)
    (f : Follows k (undone d ys) ys d gone came undo) where
  abbrev compare : Comparison
  compare = order_cmp k.list.order

  o : IsTotalOrder compare
  o = order_cmp_total k.list.order

  abbrev xs : List Tree
  xs = undone d ys

  leads : LeadsFrom d xs
  leads = (leads_back_to d ys leads_to).0

  shown_old : k.firsts.shown ≡ firsts (classes compare xs)
  shown_old = f.firsts ∙ (are_classes compare o xs).marks

  pub gone_changed : old_len d ≤ 2147483647 → AreChangedIn k.firsts.shown gone
  gone_changed few =
      subst (λ bs. AreChangedIn bs gone) (sym shown_old)
      (changed_in compare o xs (sides d).old (length-olds d 0 ∙ sym (length_from d xs leads)) gone f.gone_are (omega (arith, few, length_from d xs leads)))

  pub touched_old : (olds : List Touched) → AreTouched k.firsts.shown gone olds → AreTouchedOld compare xs d olds
  touched_old olds touched = record {
    gone = gone;
    gone_are = f.gone_are;
    touched = subst (λ bs. AreTouched bs gone olds) f.firsts touched;
  }

  abbrev marks : List Bool
  marks = same_key_marks compare xs (arrangement compare xs)

  edits_play : Plays (all_edits (taken undo)) marks k.list.tree.marks
  edits_play =
      let lead = lead_marks undo marks k.list.tree.marks f.steps in
      subst (Plays (all_edits (taken undo)) marks) lead.made_is (edits_make (taken undo) marks lead.can)

  module _ (log : List (LogStep Bool)) (are : log ≡ all_edits (taken undo)) where
    pub edits_within : AreWithin log k.firsts.shown
    edits_within = subst (AreWithin log) (sym f.firsts) (subst (λ us. AreWithin us (map not marks)) (sym are) edits_play.within)

    pub edits_few : old_len d ≤ 2147483647 → new_len d ≤ 2147483647 → length k.firsts.shown + insertions log ≤ 4294967294
    edits_few few_olds few_news =
        omega (arith, few_olds, few_news, length_from d xs leads, ap length shown_old, marks_long compare o xs, ap insertions are, edits_insert (taken undo), taken_insert undo, f.inserted, fresh_few d)

    -- the marks are those of the new list
    pub stands_new : (bars : Bars) → bars.shown ≡ played log k.firsts.shown → StandsFor (record { list = k.list; firsts = bars }) ys
    stands_new bars is = record {
      list = f.list;
      firsts = is ∙ (ap (played log) f.firsts ∙ (ap (λ us. played us (map not marks)) are ∙ edits_play.is));
    }
