-- What a unique list reads of the touched keys of a change, and what it tells of them one after another.
use Rattle.std.specs.Prelude.{◌≤◌, ◌<◌, ◌≡◌, ◌++◌, ℕ, List, [], ◌∷◌, length, Some}
use Rattle.std.specs.List.{AllByRecursion}
use Rattle.spec_sorting.specs.Tree.{Tree}
use Rattle.spec_sorting.specs.Piece.{Piece, identity}
use Rattle.spec_sorting.specs.Delta.{Delta}
use Rattle.spec_sorting.specs.Leads.{LeadsTo, undone}
use Rattle.spec_classes.specs.declared.First.{First}
use Rattle.spec_classes.specs.declared.First.TheVariants.{Gone, Plain}
use Rattle.spec_classes.specs.declared.OldClass.{OldClass}
use Rattle.spec_classes.specs.declared.NewClass.{NewClass}
use Rattle.spec_classes.specs.declared.Slot.{Slot}
use Rattle.spec_classes.specs.Slots.{kept_before, told_by}
use Rattle.spec_classes.specs.Told.{unique_piece}
use Rattle.gl_kernel.specs.Plans.{CanTell}
use Rattle.gl_classes.specs.OldValues.{IsOldValue}
use Rattle.gl_classes.specs.InTurn.{AreInTurn}

-- an element can be read: the delta has its old value, or it is one of the new list
abbrev pub IsThere : Delta → List Tree → First → Type 0
IsThere d ys (Gone i) = IsOldValue d i
IsThere d ys (Plain j) = j < length ys

-- so can the first members of the classes of a touched key
pub record CanRead (d : Delta) (ys : List Tree) (t : Slot) : Type 0 where
  pub old : (c : OldClass) → t.old ≡ Some c → IsThere d ys c.first
  pub new : (e : NewClass) → t.new ≡ Some e → e.first < length ys

-- What is told up to a touched key and of it. The classes of the old list from x on and of the new one from y on are left.
abbrev pub told_next : (Slot → Piece) → ℕ → ℕ → Slot → Delta
told_next piece x y t = identity (kept_before x y t) ++ piece t ∷ []

-- the touched keys of a change that ends at ys can be told, where there were so many classes
pub record CanTellAll (d : Delta) (ys : List Tree) (olds : ℕ) (ts : List Slot) : Type 0 where
  pub leads : LeadsTo d ys
  pub news : ℕ
  pub in_turn : AreInTurn olds news 0 0 ts
  pub few_olds : olds ≤ 2147483647
  pub few_news : news ≤ 2147483647
  pub read : AllByRecursion (CanRead d ys) ts
  pub can : CanTell (told_by (unique_piece (undone d ys) ys) olds 0 0 ts) []
