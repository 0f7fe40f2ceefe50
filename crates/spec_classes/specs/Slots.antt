-- The keys that a change of a list touches: the meetings of its classes, but those in which no member was deleted, inserted
-- or updated.
use Rattle.std.specs.Prelude.{◌+◌, ◌-◌, ◌++◌, ℕ, suc, List, [], ◌∷◌, if◌then◌else◌, Option, Some, None, slice_get}
use Rattle.spec_value.specs.Tree.{Tree}
use Rattle.spec_lists.specs.Piece.{Piece, identity}
use Rattle.spec_lists.specs.Sides.{Item, sides, plain, changed, lone}
use Rattle.spec_lists.specs.Pairs.{pairs}
use Rattle.spec_lists.specs.Delta.{Delta}
use Rattle.spec_lists.specs.Leads.{applied}
use Rattle.spec_views.specs.Arrangement.{Comparison}
use Rattle.spec_views.specs.Classes.{Class, first_of, keeps_members}
use Rattle.spec_classes.specs.declared.First.{First}
use Rattle.spec_classes.specs.declared.First.TheVariants.{Gone, Plain}
use Rattle.spec_classes.specs.declared.OldClass.{OldClass}
use Rattle.spec_classes.specs.declared.NewClass.{NewClass}
use Rattle.spec_classes.specs.declared.Slot.{Slot}
use Rattle.spec_classes.specs.Meetings.{Meeting, goes, comes, meets, meetings}

-- an element of the old list as it is read after the change
abbrev pub read_by : ℕ → Option Item → First
read_by i None = Gone i
read_by i (Some (plain j)) = Plain j
read_by i (Some (changed j v)) = Gone i
read_by i (Some (lone v)) = Gone i

abbrev pub read_after : Delta → ℕ → First
read_after d i = read_by i (slice_get (sides d).old i)

abbrev pub old_class : Delta → ℕ → Class → Option OldClass
old_class d r c = Some (record { index = r; first = read_after d (first_of c) })

abbrev pub new_class : ℕ → Class → Option NewClass
new_class s e = Some (record { index = s; first = first_of e })

-- those of these meetings that the change touches, before which r classes of the old and s of the new list stand
abbrev pub slots_from : Delta → ℕ → ℕ → List Meeting → List Slot
slots_from d r s [] = []
slots_from d r s (goes c ∷ ms) =
    record { old = old_class d r c; new = None } ∷ slots_from d (suc r) s ms
slots_from d r s (comes e ∷ ms) =
    record { old = None; new = new_class s e } ∷ slots_from d r (suc s) ms
slots_from d r s (meets c e ∷ ms) =
    if keeps_members (pairs d) c e then slots_from d (suc r) (suc s) ms
    else record { old = old_class d r c; new = new_class s e } ∷ slots_from d (suc r) (suc s) ms

-- the touched keys of a list that changes by this delta from these elements, in key order
abbrev pub slots : Comparison → List Tree → Delta → List Slot
slots compare xs d = slots_from d 0 0 (meetings compare xs (applied d xs))

-- how many classes are kept before a slot, where those of the old list from x on and of the new one from y on are left
abbrev pub kept_before : ℕ → ℕ → Slot → ℕ
kept_before x y t = by t.old t.new
  where
    by : Option OldClass → Option NewClass → ℕ
    by (Some c) new = c.index - x
    by None (Some e) = e.index - y
    by None None = 0

-- where the next class stands, once so many were kept and the one of a slot was told, if it has one
abbrev pub after_one : {C : Type 0} → ℕ → Option C → ℕ
after_one at None = at
after_one at (Some c) = suc at

-- What is told by slots, of which each tells a piece: the classes between them are kept. Those of the old list from x on,
-- of n, and of the new one from y on are left.
abbrev pub told_by : (Slot → Piece) → ℕ → ℕ → ℕ → List Slot → Delta
told_by piece n x y [] = identity (n - x)
told_by piece n x y (t ∷ ts) =
    identity (kept_before x y t) ++ piece t
    ∷ told_by piece n (after_one (x + kept_before x y t) t.old)
    (after_one (y + kept_before x y t) t.new) ts
