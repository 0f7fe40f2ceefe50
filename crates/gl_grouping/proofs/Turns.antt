-- Telling one touched key more.
use Rattle.std.proofs.Common.{◌≡◌, ◌∙◌, ◌+◌, ◌-◌, ◌<◌, ◌≤◌, ◌++◌, ℕ, zero, suc, List, [], ◌∷◌, length, map, drop, refl, ap, sym, subst, arith}
use Rattle.std.specs.Prelude.{Option, Some, None, slice_get}
use Rattle.std.proofs.lemmas.List.{drop_all}
use Rattle.spec_sorting.specs.Tree.{Tree}
use Rattle.spec_sorting.specs.Piece.{Piece, identity, old_len, normal}
use Rattle.spec_sorting.specs.Delta.{Delta}
use Rattle.spec_sorting.proofs.Lengths.{old_len-identity}
use Rattle.spec_classes.specs.Slots.{kept_before, after_one, told_by}
use Rattle.spec_classes.specs.Told.{group_piece}
use Rattle.spec_classes.specs.declared.OldClass.{OldClass}
use Rattle.spec_classes.specs.declared.NewClass.{NewClass}
use Rattle.spec_classes.specs.declared.Slot.{Slot}
use Rattle.gl_kernel.specs.declared.log_step.LogStep.{LogStep}
use Rattle.gl_kernel.specs.declared.plan.Plan.{Plan}
use Rattle.gl_kernel.specs.Fates.{fate, edits_of}
use Rattle.gl_kernel.specs.Plans.{GoesOn, CanTell}
use Rattle.gl_kernel.proofs.Spreads.{told_more, can_tell_part, edits_more, no_edits}
use Rattle.gl_kernel.proofs.Made.{append_nothing}
use Rattle.gl_kernel.proofs.ReadValues.{drop_at}
use Rattle.gl_classes.specs.declared.telling.Reached.{Reached}
use Rattle.gl_classes.specs.InTurn.{IsNext, AreInTurn}
use Rattle.gl_classes.proofs.TouchedInTurn.{in_lists, kept_in_lists}
use Rattle.gl_grouping.specs.Following.{itself, told_groups, IsAmong, IsToldTo}

-- so many classes of the old list a touched key has
piece_olds : (olds news : List Tree) (o : Option OldClass) (e : Option NewClass) (at : ℕ) → (o ≡ None → e ≡ None → ⊥)
    → at + old_len (group_piece olds news (record { old = o; new = e }) ∷ []) ≡ after_one at o
piece_olds olds news None None at some = absurd (some refl refl)
piece_olds olds news None (Some e) at some = omega arith
piece_olds olds news (Some c) None at some = omega arith
piece_olds olds news (Some c) (Some e) at some = omega arith

module _ (olds news : List Tree) (ts : List Slot) (n : ℕ) (at : Reached) (plan : Plan Tree) (t : Slot)
    (so_far : IsToldTo olds news ts n at plan) (here : slice_get ts n ≡ Some t) where
  abbrev kept : ℕ
  kept = kept_before at.olds at.news t

  abbrev piece : Piece
  piece = group_piece olds news t

  -- what is left after it
  abbrev rest : Delta
  rest = told_by (group_piece olds news) (length olds) (after_one (at.olds + kept) t.old) (after_one (at.news + kept) t.new) (drop (n + 1) ts)

  split : drop n ts ≡ t ∷ drop (n + 1) ts
  split = drop_at ts n t here

  in_turn : AreInTurn (length olds) (length news) at.olds at.news (t ∷ drop (n + 1) ts)
  in_turn = subst (AreInTurn (length olds) (length news) at.olds at.news) split so_far.turn

  pub next_is : IsNext at.olds at.news t
  next_is = in_turn.0

  left : normal (plan.out.pieces ++ (identity kept ++ piece ∷ rest)) ≡ normal (told_groups olds news ts)
  left = ap (λ us. normal (plan.out.pieces ++ told_by (group_piece olds news) (length olds) at.olds at.news us)) (sym split) ∙ so_far.told

  left_edits : plan.log.items ++ edits_of plan.position (map (fate itself) (identity kept ++ piece ∷ rest)) ≡ edits_of 0 (map (fate itself) (told_groups olds news ts))
  left_edits =
      ap (λ us. plan.log.items ++ edits_of plan.position (map (fate itself) (told_by (group_piece olds news) (length olds) at.olds at.news us))) (sym split) ∙ so_far.edits

  pub among : IsAmong olds news t
  among =
      let after = in_lists (length olds) (length news) (after_one (at.olds + kept) t.old) (after_one (at.news + kept) t.new) (drop (n + 1) ts) in_turn.1 in
      record {
        some = next_is.some;
        old_in = λ c is. let low : suc (at.olds + kept) ≤ length olds = subst (λ o. after_one (at.olds + kept) o ≤ length olds) is after.0 in omega (arith, low, next_is.old_at c is);
        new_in = λ e is. let low : suc (at.news + kept) ≤ length news = subst (λ o. after_one (at.news + kept) o ≤ length news) is after.1 in omega (arith, low, next_is.new_at e is);
      }

  pub passes : (at.olds + kept ≤ length olds) × (at.news + kept ≤ length news)
  passes = kept_in_lists (length olds) (length news) at.olds at.news t (drop (n + 1) ts) in_turn

  pub can_pass : CanTell (told_groups olds news ts) [] → CanTell (identity kept) plan.out.pieces
  can_pass can = can_tell_part [] plan.out.pieces (told_groups olds news ts) (identity kept) (piece ∷ rest) can left

  module _ (passed : Plan Tree) (goes : GoesOn (identity kept) [] kept plan passed) where
    left_passed : normal (passed.out.pieces ++ piece ∷ rest) ≡ normal (told_groups olds news ts)
    left_passed = told_more (normal (told_groups olds news ts)) plan.out.pieces passed.out.pieces (identity kept) (piece ∷ rest) left goes.told_is

    passed_edits : passed.log.items ++ edits_of passed.position (map (fate itself) (piece ∷ rest)) ≡ edits_of 0 (map (fate itself) (told_groups olds news ts))
    passed_edits =
        edits_more itself (edits_of 0 (map (fate itself) (told_groups olds news ts))) plan.log.items passed.log.items (identity kept) (piece ∷ rest) plan.position passed.position left_edits
        (goes.edits_are ∙ ap (λ es. plan.log.items ++ es) (sym (no_edits itself kept plan.position)))
        (omega (arith, goes.position_is, old_len-identity kept))

    pub can_tell_piece : CanTell (told_groups olds news ts) [] → CanTell (piece ∷ []) passed.out.pieces
    can_tell_piece can = can_tell_part [] passed.out.pieces (told_groups olds news ts) (piece ∷ []) rest can left_passed

    pub one_more : (next : Reached) (told : Plan Tree) → next.olds ≡ after_one (at.olds + kept) t.old → next.news ≡ after_one (at.news + kept) t.new
        → GoesOn (piece ∷ []) (edits_of passed.position (map (fate itself) (piece ∷ []))) (old_len (piece ∷ [])) passed told
        → IsToldTo olds news ts (n + 1) next told
    one_more next told old new tells =
        let whole = normal (told_groups olds news ts) in
        let edits = edits_of 0 (map (fate itself) (told_groups olds news ts)) in
        let By : ℕ → ℕ → Delta = λ x y. told_by (group_piece olds news) (length olds) x y (drop (n + 1) ts) in
        let same : By next.olds next.news ≡ rest = ap (λ x. By x next.news) old ∙ ap (By (after_one (at.olds + kept) t.old)) new in
        record {
          told = ap (λ ps. normal (told.out.pieces ++ ps)) same ∙ told_more whole passed.out.pieces told.out.pieces (piece ∷ []) rest left_passed tells.told_is;
          edits = ap (λ ps. told.log.items ++ edits_of told.position (map (fate itself) ps)) same
              ∙ edits_more itself edits passed.log.items told.log.items (piece ∷ []) rest passed.position told.position passed_edits tells.edits_are tells.position_is;
          position = tells.position_is ∙ (ap (λ p. p + old_len (piece ∷ [])) (goes.position_is ∙ ap (λ p. p + kept) so_far.position) ∙ (piece_olds olds news t.old t.new (at.olds + kept) next_is.some ∙ sym old));
          turn = subst (λ x. AreInTurn (length olds) (length news) x next.news (drop (n + 1) ts)) (sym old)
              (subst (λ y. AreInTurn (length olds) (length news) (after_one (at.olds + kept) t.old) y (drop (n + 1) ts)) (sym new) in_turn.1);
        }

-- no touched key is left
module _ (olds news : List Tree) (ts : List Slot) (n : ℕ) (at : Reached) (plan : Plan Tree) (so_far : IsToldTo olds news ts n at plan) (all : length ts ≤ n) where
  abbrev kept_last : ℕ
  kept_last = length olds - at.olds

  none : drop n ts ≡ []
  none = drop_all n ts all

  pub reached_low : at.olds ≤ length olds
  reached_low = (in_lists (length olds) (length news) at.olds at.news (drop n ts) so_far.turn).0

  last_left : normal (plan.out.pieces ++ identity kept_last) ≡ normal (told_groups olds news ts)
  last_left = ap (λ us. normal (plan.out.pieces ++ told_by (group_piece olds news) (length olds) at.olds at.news us)) (sym none) ∙ so_far.told

  pub can_end : CanTell (told_groups olds news ts) [] → CanTell (identity kept_last) plan.out.pieces
  can_end can =
      can_tell_part [] plan.out.pieces (told_groups olds news ts) (identity kept_last) [] can (ap (λ ps. normal (plan.out.pieces ++ ps)) (append_nothing (identity kept_last)) ∙ last_left)

  pub edits_all : (told : Plan Tree) → GoesOn (identity kept_last) [] kept_last plan told → told.log.items ≡ edits_of 0 (map (fate itself) (told_groups olds news ts))
  edits_all told goes =
      goes.edits_are
      ∙ (sym (ap (λ us. plan.log.items ++ edits_of plan.position (map (fate itself) (told_by (group_piece olds news) (length olds) at.olds at.news us))) none
      ∙ ap (λ es. plan.log.items ++ es) (no_edits itself kept_last plan.position)) ∙ so_far.edits)
