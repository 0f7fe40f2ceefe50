-- The touched classes of both lists, and how far they were told.
use Rattle.std.specs.Prelude.{◌≡◌, ◌==◌, ◌∷◌, ◌⊎◌, ◌≤◌, ◌<◌, ◌+◌, ◌-◌, ◌↔◌, ℕ, true, false, List, length, map, drop, if◌then◌else◌, Option, Some, None, slice_get, unwrap_or}
use Rattle.std.specs.List.{list_any, list_all, AllByRecursion}
use Rattle.spec_sorting.specs.Tree.{Tree}
use Rattle.spec_sorting.specs.Delta.{Delta}
use Rattle.spec_sorting.specs.Pairs.{pairs}
use Rattle.spec_sorting.specs.Leads.{LeadsTo, undone}
use Rattle.spec_sorting.specs.Arrangement.{Comparison, arrangement}
use Rattle.spec_sorting.specs.Moves.{IsRising}
use Rattle.spec_sorting.proofs.SortedPositions.{In}
use Rattle.spec_classes.specs.Classes.{Class, first_of, classes, is_kept_old, is_kept_new}
use Rattle.spec_classes.specs.declared.First.{First}
use Rattle.spec_classes.specs.declared.First.TheVariants.{Gone, Plain}
use Rattle.spec_classes.specs.declared.Slot.{Slot}
use Rattle.spec_classes.specs.Meetings.{of_key, meetings_by}
use Rattle.spec_classes.specs.Slots.{read_after, slots_from}
use Rattle.gl_classes.specs.declared.touched.Touched.{Touched}
use Rattle.gl_classes.specs.declared.slots.Cursor.{Cursor}
use Rattle.gl_arranged.specs.Sorting.{order_cmp}
use Rattle.gl_classes.specs.Kept.{Kept}
use Rattle.gl_classes.specs.Stands.{StandsFor}

-- a touched class of the old list, and whether the new list has one of its key
pub record IsOld (compare : Comparison) (xs ys : List Tree) (d : Delta) (t : Touched) : Type 0 where
  pub class : Class
  pub at : slice_get (classes compare xs) t.class ≡ Some class
  pub stays_is : t.stays ≡ list_any (of_key compare xs ys class) (classes compare ys)
  pub changed : list_all (is_kept_old (pairs d)) class ≡ false
  pub first_changed : t.first ≡ true → read_after d (first_of class) ≡ Gone t.source
  pub first_kept : t.first ≡ false → is_kept_old (pairs d) (first_of class) ≡ true
  pub lone : t.stays ≡ false → t.first ≡ true

-- the first member of a class of the new list that isn't changed, by its sorted place; all are, where there is none
abbrev pub IsPlainNew : Comparison → List Tree → Delta → Class → Option ℕ → Type 0
IsPlainNew compare ys d e None = (j : ℕ) → In j e → is_kept_new (pairs d) j ≡ false
IsPlainNew compare ys d e (Some place) =
    (j : ℕ) × (slice_get (arrangement compare ys) place ≡ Some j) × In j e
    × (is_kept_new (pairs d) j ≡ true)
    × ((i : ℕ) → In i e → is_kept_new (pairs d) i ≡ true → j ≤ i)

-- and one of the new list
pub record IsNew (compare : Comparison) (xs ys : List Tree) (d : Delta) (u : Touched) : Type 0 where
  pub class : Class
  pub at : slice_get (classes compare ys) u.class ≡ Some class
  pub stays_is : u.stays
      ≡ list_any (λ c. of_key compare xs ys c class) (classes compare xs)
  pub changed : list_all (is_kept_new (pairs d)) class ≡ false
  pub lone : u.stays ≡ false → u.source ≡ first_of class
  pub plain_is : IsPlainNew compare ys d class u.plain

-- all touched classes of both lists, in key order
pub record AreSides (compare : Comparison) (xs ys : List Tree) (d : Delta)
    (olds news : List Touched) : Type 0 where
  pub olds_rise : IsRising 0 (map (λ t. t.class) olds)
  pub news_rise : IsRising 0 (map (λ u. u.class) news)
  pub olds_are : AllByRecursion (IsOld compare xs ys d) olds
  pub news_are : AllByRecursion (IsNew compare xs ys d) news
  pub other_olds : (r : ℕ) (c : Class) → slice_get (classes compare xs) r ≡ Some c
      → (In r (map (λ t. t.class) olds) → ⊥) → list_all (is_kept_old (pairs d)) c ≡ true
  pub other_news : (s : ℕ) (e : Class) → slice_get (classes compare ys) s ≡ Some e
      → (In s (map (λ u. u.class) news) → ⊥) → list_all (is_kept_new (pairs d)) e ≡ true

-- what is left of the touched keys
abbrev pub slots_left : Comparison → List Tree → List Tree → Delta → Cursor → List Slot
slots_left compare xs ys d at =
    slots_from d at.olds at.news
    (meetings_by (of_key compare xs ys) (drop at.olds (classes compare xs))
    (drop at.news (classes compare ys)))

-- classes of one key were told together
pub record IsAt (compare : Comparison) (xs ys : List Tree) (olds news : List Touched)
    (at : Cursor) : Type 0 where
  pub together : (p q : ℕ) (c e : Class) → slice_get (classes compare xs) p ≡ Some c
      → slice_get (classes compare ys) q ≡ Some e → of_key compare xs ys c e ≡ true
      → (p < at.olds) ↔ (q < at.news)
  pub gone_in : at.gone ≤ length olds
  pub came_in : at.came ≤ length news
  pub old_in : at.olds ≤ length (classes compare xs)
  pub new_in : at.news ≤ length (classes compare ys)
  pub olds_told : (t : Touched) (k : ℕ) → slice_get olds k ≡ Some t → (k < at.gone) ↔ (t.class < at.olds)
  pub news_told : (u : Touched) (k : ℕ) → slice_get news k ≡ Some u → (k < at.came) ↔ (u.class < at.news)

-- the next touched class, if no other one stands before it
abbrev pub if_at : ℕ → Option Touched → Option Touched
if_at class None = None
if_at class (Some t) = if t.class == class then Some t else None

abbrev pub next_at : List Touched → ℕ → ℕ → Option Touched
next_at ts index class = if_at class (slice_get ts index)

-- a touched class of the one list or of the other is next
abbrev pub AtTouched : List Touched → List Touched → Cursor → Type 0
AtTouched olds news at =
    ((t : Touched) × (slice_get olds at.gone ≡ Some t) × (t.class ≡ at.olds))
    ⊎ ((u : Touched) × (slice_get news at.came ≡ Some u) × (u.class ≡ at.news))

-- the classes stand for the new list, and both lists were told so far
pub record Walks (k : Kept) (ys : List Tree) (d : Delta) (olds news : List Touched)
    (at : Cursor) : Type 0 where
  pub leads : LeadsTo d ys
  pub stands : StandsFor k ys
  pub sides : AreSides (order_cmp k.list.order) (undone d ys) ys d olds news
  pub stands_at : IsAt (order_cmp k.list.order) (undone d ys) ys olds news at

-- a touched class is left
abbrev pub HasMore : List Touched → List Touched → Cursor → Type 0
HasMore olds news at = (at.gone < length olds) ⊎ (at.came < length news)

-- how many classes there are before the next touched one
abbrev pub gap_to : ℕ → Option Touched → Option ℕ
gap_to class None = None
gap_to class (Some t) = Some (t.class - class)

abbrev pub gap : List Touched → ℕ → ℕ → Option ℕ
gap ts index class = gap_to class (slice_get ts index)

-- the next touched class isn't before this one
abbrev pub IsAhead : List Touched → ℕ → ℕ → Type 0
IsAhead ts index class = (t : Touched) → slice_get ts index ≡ Some t → class ≤ t.class

-- the lower one of the numbers that there are
abbrev pub IsFewer : Option ℕ → Option ℕ → ℕ → Type 0
IsFewer None None k = k ≡ 0
IsFewer None (Some n) k = k ≡ n
IsFewer (Some m) None k = k ≡ m
IsFewer (Some m) (Some n) k = (k ≤ m) × (k ≤ n) × ((k ≡ m) ⊎ (k ≡ n))

-- classes were passed that are kept
pub record ArePassed (k : Kept) (ys : List Tree) (d : Delta) (olds news : List Touched)
    (at next : Cursor) : Type 0 where
  pub left : slots_left (order_cmp k.list.order) (undone d ys) ys d next
      ≡ slots_left (order_cmp k.list.order) (undone d ys) ys d at
  pub at_next : IsAt (order_cmp k.list.order) (undone d ys) ys olds news next
  pub touched : AtTouched olds news next
  pub gone : next.gone ≡ at.gone
  pub came : next.came ≡ at.came

-- a touched key was told
pub record IsTold (k : Kept) (ys : List Tree) (d : Delta) (olds news : List Touched)
    (at : Cursor) (slot : Slot) (next : Cursor) : Type 0 where
  pub left : slots_left (order_cmp k.list.order) (undone d ys) ys d at
      ≡ slot ∷ slots_left (order_cmp k.list.order) (undone d ys) ys d next
  pub at_next : IsAt (order_cmp k.list.order) (undone d ys) ys olds news next
  pub further : at.gone + at.came < next.gone + next.came

-- the first changed member of a touched class that the other list has none of the key of
abbrev pub alone : Option Touched → Option ℕ
alone None = None
alone (Some t) = if t.stays then None else Some t.source

-- the next touched classes, if they are next, and none of them is alone
pub record AreMet (olds news : List Touched) (at : Cursor) (gone came : Option Touched) : Type 0 where
  pub gone_is : gone ≡ next_at olds at.gone at.olds
  pub came_is : came ≡ next_at news at.came at.news
  pub old_stays : alone gone ≡ None
  pub new_stays : alone came ≡ None
  pub touched : AtTouched olds news at

abbrev pub how_many : Option Touched → ℕ
how_many None = 0
how_many (Some t) = 1

-- the first member of a class of the new list that isn't changed, where its first member is this one
abbrev pub at_place : List ℕ → ℕ → Option ℕ → ℕ
at_place places first None = first
at_place places first (Some place) = unwrap_or (slice_get places place) first

abbrev pub plain_first : List ℕ → ℕ → Option Touched → ℕ
plain_first places first None = first
plain_first places first (Some t) = at_place places first t.plain

abbrev pub IsPlaceIn : ℕ → Option ℕ → Type 0
IsPlaceIn n None = Unit {0}
IsPlaceIn n (Some place) = place < n

abbrev pub HasPlain : ℕ → Option Touched → Type 0
HasPlain n None = Unit {0}
HasPlain n (Some t) = IsPlaceIn n t.plain

-- the first member of a class of the old list as it is read after the change
abbrev pub old_first : List ℕ → ℕ → Option Touched → Option Touched → First
old_first places first None came = Plain (plain_first places first came)
old_first places first (Some t) came =
    if t.first then Gone t.source else Plain (plain_first places first came)
