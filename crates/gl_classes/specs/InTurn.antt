-- How touched keys follow one another, where some classes of the old list and some of the new one are told.
use Rattle.std.specs.Prelude.{◌≡◌, ◌+◌, ◌≤◌, ℕ, List, [], ◌∷◌, Some, None}
use Rattle.spec_classes.specs.declared.OldClass.{OldClass}
use Rattle.spec_classes.specs.declared.NewClass.{NewClass}
use Rattle.spec_classes.specs.declared.Slot.{Slot}
use Rattle.spec_classes.specs.Slots.{kept_before, after_one}

-- A touched key may be told next: it has a class, and as many classes are kept before its own in the one list as in the
-- other. Those of the old list from x on and of the new one from y on are left.
pub record IsNext (x y : ℕ) (t : Slot) : Type 0 where
  pub some : t.old ≡ None → t.new ≡ None → ⊥
  pub old_at : (c : OldClass) → t.old ≡ Some c → c.index ≡ x + kept_before x y t
  pub new_at : (e : NewClass) → t.new ≡ Some e → e.index ≡ y + kept_before x y t

-- these may be told one after another, of m classes of the old list and n of the new one
abbrev pub AreInTurn : ℕ → ℕ → ℕ → ℕ → List Slot → Type 0
AreInTurn m n x y [] = (x ≤ m) × (m + y ≡ n + x)
AreInTurn m n x y (t ∷ ts) =
    IsNext x y t
    × AreInTurn m n (after_one (x + kept_before x y t) t.old)
    (after_one (y + kept_before x y t) t.new) ts
