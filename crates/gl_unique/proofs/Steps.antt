-- The steps in which a unique list tells the touched keys.
use Rattle.std.proofs.Common.{◌≡◌, ◌∙◌, ◌+◌, ◌-◌, ◌<◌, ◌≤◌, ◌++◌, ℕ, zero, suc, List, [], ◌∷◌, length, drop, refl, ap, sym, subst, arith, append_assoc, append-nil}
use Rattle.std.specs.Prelude.{None}
use Rattle.std.specs.List.{slice_index_or, AllByRecursion as Each}
use Rattle.std.proofs.lemmas.List.{drop_all}
use Rattle.spec_sorting.specs.Piece.{Piece, normal, identity, old_len, new_len}
use Rattle.spec_sorting.specs.Delta.{Delta}
use Rattle.spec_sorting.specs.Tree.{Tree}
use Rattle.spec_sorting.specs.Leads.{undone}
use Rattle.spec_sorting.proofs.Normal.{old_len-normal, new_len-normal}
use Rattle.spec_sorting.proofs.DeltaChanges.{old_len-append, new_len-append}
use Rattle.spec_classes.specs.declared.Slot.{Slot}
use Rattle.spec_classes.specs.Slots.{kept_before, after_one, told_by}
use Rattle.spec_classes.specs.Told.{unique_piece}
use Rattle.gl_kernel.specs.Plans.{CanTell}
use Rattle.gl_kernel.proofs.Spreads.{told_more, can_tell_whole}
use Rattle.gl_classes.specs.InTurn.{IsNext, AreInTurn}
use Rattle.gl_classes.specs.declared.telling.Reached.{Reached}
use Rattle.gl_classes.proofs.TouchedInTurn.{kept_in_lists}
use Rattle.gl_unique.specs.Reading.{CanRead, CanTellAll, told_next}

-- a touched key is told after the classes that are kept before it
module _ (k : ℕ) (p : Piece) (out : Delta) where
  pub can_keep : CanTell (identity k ++ p ∷ []) out → CanTell (identity k) out
  can_keep can = record {
    olds = omega (arith, can.olds, old_len-append (identity k) (p ∷ []));
    news = omega (arith, can.news, new_len-append (identity k) (p ∷ []));
  }

  pub can_then : (now : Delta) → now ≡ normal (out ++ identity k) → CanTell (identity k ++ p ∷ []) out → CanTell (p ∷ []) now
  can_then now is can = record {
    olds = omega (arith, can.olds, old_len-append (identity k) (p ∷ []), ap old_len is, old_len-normal (out ++ identity k), old_len-append out (identity k));
    news = omega (arith, can.news, new_len-append (identity k) (p ∷ []), ap new_len is, new_len-normal (out ++ identity k), new_len-append out (identity k));
  }

  pub both_told : (now more : Delta) → now ≡ normal (out ++ identity k) → more ≡ normal (now ++ p ∷ []) → more ≡ normal (out ++ (identity k ++ p ∷ []))
  both_told now more is then = then ∙ told_more (normal (out ++ (identity k ++ p ∷ []))) out now (identity k) (p ∷ []) refl is

-- Both lists were told so far, up to these touched keys: what was told and what is told of them are the whole.
pub record IsTold (piece : Slot → Piece) (d : Delta) (ys : List Tree) (m : ℕ) (ts : List Slot) (out : Delta)
    (at : Reached) (left : List Slot) : Type 0 where
  pub news : ℕ
  pub few : news ≤ 2147483647
  pub in_turn : AreInTurn m news at.olds at.news left
  pub read : Each (CanRead d ys) left
  pub told : normal (out ++ told_by piece m at.olds at.news left) ≡ normal (told_by piece m 0 0 ts)

-- at the start nothing was told
pub begins : (d : Delta) (ys : List Tree) (m : ℕ) (ts : List Slot) (out : Delta) (at : Reached) → CanTellAll d ys m ts
    → out ≡ [] → at.olds ≡ 0 → at.news ≡ 0 → IsTold (unique_piece (undone d ys) ys) d ys m ts out at ts
begins d ys m ts out at can none old new = record {
  news = can.news;
  few = can.few_news;
  in_turn = subst (λ x. AreInTurn m can.news x at.news ts) (sym old) (subst (λ y. AreInTurn m can.news 0 y ts) (sym new) can.in_turn);
  read = can.read;
  told = ap (λ ps. normal (ps ++ told_by (unique_piece (undone d ys) ys) m at.olds at.news ts)) none
      ∙ (ap (λ x. normal (told_by (unique_piece (undone d ys) ys) m x at.news ts)) old ∙ ap (λ y. normal (told_by (unique_piece (undone d ys) ys) m 0 y ts)) new);
}

-- the slot at an index, and those after it
abbrev pub slot_at : List Slot → ℕ → Slot
slot_at ts k = slice_index_or ts k (record { old = None; new = None })

slot_here : (ts : List Slot) (k : ℕ) → k < length ts → drop k ts ≡ slot_at ts k ∷ drop (k + 1) ts
slot_here [] k less = absurd (omega (arith, less))
slot_here (t ∷ ts) zero less = refl
slot_here (t ∷ ts) (suc k) less =
    let more : suc (k + 1) ≡ suc k + 1 = omega arith in
    slot_here ts k (omega (arith, less)) ∙ ap (λ n. slot_at ts k ∷ drop n (t ∷ ts)) more

module _ (piece : Slot → Piece) (d : Delta) (ys : List Tree) (m : ℕ) (ts : List Slot) (out : Delta) (at : Reached) where
  abbrev whole : Delta
  whole = told_by piece m 0 0 ts

  module _ (index : ℕ) (less : index < length ts) (told : IsTold piece d ys m ts out at (drop index ts)) where
    abbrev t : Slot
    t = slot_at ts index

    abbrev left : List Slot
    left = drop (index + 1) ts

    h : IsTold piece d ys m ts out at (t ∷ left)
    h = subst (IsTold piece d ys m ts out at) (slot_here ts index less) told

    abbrev kept : ℕ
    kept = kept_before at.olds at.news t

    abbrev later : Delta
    later = told_by piece m (after_one (at.olds + kept) t.old) (after_one (at.news + kept) t.new) left

    apart : normal (out ++ (told_next piece at.olds at.news t ++ later)) ≡ normal whole
    apart = ap (λ ps. normal (out ++ ps)) (append_assoc (identity kept) (piece t ∷ []) later) ∙ h.told

    pub is_next : IsNext at.olds at.news t
    is_next = h.in_turn.0

    pub can_read : CanRead d ys t
    can_read = h.read.0

    pub can_next : CanTell whole [] → CanTell (told_next piece at.olds at.news t) out
    can_next can =
        can_tell_whole whole out (told_next piece at.olds at.news t) later (omega (arith, can.olds)) (omega (arith, can.news)) apart

    pub few_olds : m ≤ 2147483647 → at.olds + kept ≤ 2147483647
    few_olds few = let old = (kept_in_lists m h.news at.olds at.news t left h.in_turn).0 in omega (arith, few, old)

    pub few_news : at.news + kept ≤ 2147483647
    few_news = let new = (kept_in_lists m h.news at.olds at.news t left h.in_turn).1 in omega (arith, h.few, new)

    pub goes_on : (now : Delta) (next : Reached) → now ≡ normal (out ++ told_next piece at.olds at.news t)
        → next.olds ≡ after_one (at.olds + kept) t.old → next.news ≡ after_one (at.news + kept) t.new → IsTold piece d ys m ts now next left
    goes_on now next is old new = record {
      news = h.news;
      few = h.few;
      in_turn = subst (λ x. AreInTurn m h.news x next.news left) (sym old) (subst (λ y. AreInTurn m h.news (after_one (at.olds + kept) t.old) y left) (sym new) h.in_turn.1);
      read = h.read.1;
      told = ap (λ x. normal (now ++ told_by piece m x next.news left)) old
          ∙ (ap (λ y. normal (now ++ told_by piece m (after_one (at.olds + kept) t.old) y left)) new
          ∙ told_more (normal whole) out now (told_next piece at.olds at.news t) later apart is);
    }

  -- after the last touched key
  module _ (index : ℕ) (past : length ts ≤ index) (told : IsTold piece d ys m ts out at (drop index ts)) where
    last : IsTold piece d ys m ts out at []
    last = subst (IsTold piece d ys m ts out at) (drop_all index ts past) told

    pub last_within : at.olds ≤ m
    last_within = last.in_turn.0

    pub can_last : CanTell whole [] → CanTell (identity (m - at.olds)) out
    can_last can =
        can_tell_whole whole out (identity (m - at.olds)) [] (omega (arith, can.olds)) (omega (arith, can.news)) (ap (λ ps. normal (out ++ ps)) (append-nil (identity (m - at.olds))) ∙ last.told)

    pub told_all : (now : Delta) → now ≡ normal (out ++ identity (m - at.olds)) → now ≡ normal whole
    told_all now is = is ∙ last.told
