-- Elements that are passed over, since a kind of change leaves them as they are.
use Rattle.std.specs.Prelude.{◌≡◌, ℕ, ◌+◌, ◌-◌, ◌≤◌, Bool, List, [], length, take, drop, map, Option, Some, refl}
use Rattle.std.proofs.Common.{ap, sym, ◌∙◌, arith, subst}
use Rattle.std.proofs.lemmas.List.{length-drop, length-take-le, take-map, drop-map, take_all}
use Rattle.spec_views.specs.Tree.{Tree}
use Rattle.spec_views.specs.Piece.{identity}
use Rattle.spec_views.specs.EditKind.{EditKind}
use Rattle.spec_views.specs.Matcher.{Matcher, accepts}
use Rattle.spec_views.specs.Kind.{Says}
use Rattle.gl_kernel.specs.declared.log_step.LogStep.{LogStep}
use Rattle.gl_kernel.specs.Fates.{edits_of}
use Rattle.gl_kernel.proofs.Made.{length-made}
use Rattle.gl_filter.specs.Told.{told_change, switches, questions, left_mark, AreAll, shown_among, IsNext}
use Rattle.gl_filter.proofs.Changes.{says_here}
use Rattle.gl_filter.proofs.Skips.{left_one, left_told, left_edits, left_questions}

-- n elements from a place on are told as kept ones, need no edit, and aren't asked about
pub record Passes (kind : EditKind) (old new : Matcher) (xs : List Tree) (bs : List Bool) (mark : Option Bool) (position n : ℕ) : Type 0 where
  pub told : told_change (accepts old) (accepts new) (take n (drop position xs)) ≡ identity (shown_among mark n)
  pub edits : let none : List (LogStep Bool) = [] in edits_of position (switches (accepts old) (accepts new) (take n (drop position xs))) ≡ none
  pub asked : questions kind (take n (drop position bs)) ≡ 0
  pub inside : position + n ≤ length xs

module _ (kind : EditKind) (old new : Matcher) (xs : List Tree) (bs : List Bool) (mark : Option Bool) (says : Says kind old new) (stands : bs ≡ map (accepts old) xs) (is : mark ≡ left_mark kind) where
  passes : (position n : ℕ) → position + n ≤ length xs → AreAll mark (take n (drop position bs)) → Passes kind old new xs bs mark position n
  passes position n inside all =
      let before = accepts old in
      let after = accepts new in
      let same : (x : Tree) → mark ≡ Some (before x) → after x ≡ before x = λ x e. left_one kind (before x) (after x) (sym is ∙ e) (says_here kind old new x (before x) says refl) in
      let marks : take n (drop position bs) ≡ map before (take n (drop position xs)) =
      ap (λ cs. take n (drop position cs)) stands ∙ (ap (take n) (drop-map before position xs) ∙ take-map before n (drop position xs)) in
      let ByMarks : List Bool → Type 0 = λ cs. AreAll mark cs in
      let ByMark : Option Bool → Type 0 = λ m. AreAll m (take n (drop position bs)) in
      let these = subst ByMarks marks all in
      let count = length-take-le n (drop position xs) (omega (arith, inside, length-drop position xs)) in
      record {
        told = left_told mark before after (take n (drop position xs)) same these ∙ ap (λ k. identity (shown_among mark k)) count;
        edits = left_edits mark before after (take n (drop position xs)) position same these;
        asked = left_questions kind (take n (drop position bs)) (subst ByMark is all);
        inside = inside;
      }

  -- those up to the next one that is visited
  pub passes_next : (position at : ℕ) → IsNext mark bs position at → Passes kind old new xs bs mark position (at - position)
  passes_next position at next = passes position (at - position) (omega (arith, next.from, next.within, ap length stands, length-made (accepts old) xs)) next.between

  -- those up to the end
  pub passes_rest : (position len : ℕ) → len ≡ length bs → position ≤ length bs → AreAll mark (drop position bs) → Passes kind old new xs bs mark position (len - position)
  passes_rest position len e h all =
      let whole : take (len - position) (drop position bs) ≡ drop position bs = take_all (len - position) (drop position bs) (omega (arith, e, h, length-drop position bs)) in
      let ByMarks : List Bool → Type 0 = λ cs. AreAll mark cs in
      passes position (len - position) (omega (arith, e, h, ap length stands, length-made (accepts old) xs)) (subst ByMarks (sym whole) all)
