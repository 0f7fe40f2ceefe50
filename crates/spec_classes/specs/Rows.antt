-- Small cases of the definitions, worked out. Elements are pairs of a key and a name.
use Rattle.std.specs.Prelude.{◌≡◌, ℕ, pos, List, [], ◌∷◌, length, refl, Some, None, false}
use Rattle.spec_value.specs.Tree.{Tree, num, items_of}
use Rattle.spec_lists.specs.Piece.{kept, updated, deleted, inserted}
use Rattle.spec_lists.specs.Delta.{Delta}
use Rattle.spec_lists.specs.Leads.{applied}
use Rattle.spec_lang.specs.Sorting.{order_cmp}
use Rattle.spec_views.specs.Arrangement.{Comparison}
use Rattle.spec_views.specs.Classes.{classes}
use Rattle.spec_views.specs.Unique.{unique_follow}
use Rattle.spec_views.specs.Grouping.{grouping_view, grouping_follow}
use Rattle.spec_classes.specs.declared.First.{First}
use Rattle.spec_classes.specs.declared.First.TheVariants.{Gone, Plain}
use Rattle.spec_classes.specs.declared.Slot.{Slot}
use Rattle.spec_classes.specs.Slots.{slots, told_by}
use Rattle.spec_classes.specs.Told.{unique_piece, group_piece}

-- an element of key k and of this name
abbrev e : ℕ → ℕ → Tree
e k name = items_of (num (pos k) ∷ num (pos name) ∷ [])

abbrev by_key : Comparison
by_key = order_cmp (record { path = 0 ∷ []; down = false } ∷ [])

abbrev both : ℕ → First → ℕ → ℕ → Slot
both r old s new =
    record { old = Some (record { index = r; first = old }); new = Some (record { index = s; first = new }) }

abbrev only_old : ℕ → First → Slot
only_old r old = record { old = Some (record { index = r; first = old }); new = None }

abbrev only_new : ℕ → ℕ → Slot
only_new s new = record { old = None; new = Some (record { index = s; first = new }) }

-- of three elements of one key the first goes: the shown element is another one
abbrev three : List Tree
three = e 1 10 ∷ e 1 11 ∷ e 1 12 ∷ []

abbrev first_goes : Delta
first_goes = deleted (e 1 10) ∷ kept ∷ kept ∷ []

first_goes_slots : slots by_key three first_goes ≡ both 0 (Gone 0) 0 0 ∷ []
first_goes_slots = refl

first_goes_told : unique_follow by_key three first_goes ≡ updated (e 1 10) (e 1 11) ∷ []
first_goes_told = refl

-- one that isn't shown goes: the key is touched, and the shown element is kept
abbrev last_goes : Delta
last_goes = kept ∷ kept ∷ deleted (e 1 12) ∷ []

last_goes_slots : slots by_key three last_goes ≡ both 0 (Plain 0) 0 0 ∷ []
last_goes_slots = refl

last_goes_told : unique_follow by_key three last_goes ≡ kept ∷ []
last_goes_told = refl

-- an element of key 2 gets key 1 and stands first there: its old class goes, and the one that it joins shows it
abbrev two : List Tree
two = e 2 20 ∷ e 1 21 ∷ []

abbrev joins : Delta
joins = updated (e 2 20) (e 1 22) ∷ kept ∷ []

joins_slots : slots by_key two joins ≡ both 0 (Plain 1) 0 0 ∷ only_old 1 (Gone 0) ∷ []
joins_slots = refl

joins_told : unique_follow by_key two joins
    ≡ updated (e 1 21) (e 1 22) ∷ deleted (e 2 20) ∷ []
joins_told = refl

joins_grouped : grouping_follow by_key two joins
    ≡ updated (items_of (e 1 21 ∷ [])) (items_of (e 1 22 ∷ e 1 21 ∷ [])) ∷ deleted (items_of (e 2 20 ∷ [])) ∷ []
joins_grouped = refl

-- Keys 1 to 5, of which 2 and 4 go, 3 comes between, and all of 5 are exchanged: a class whose members all change meets
-- the one of its key.
abbrev five : List Tree
five = e 5 50 ∷ e 4 40 ∷ e 1 10 ∷ e 2 20 ∷ e 1 11 ∷ []

abbrev mixed : Delta
mixed = updated (e 5 50) (e 5 51) ∷ deleted (e 4 40) ∷ kept ∷ updated (e 2 20) (e 3 30) ∷ kept ∷ []

mixed_slots : slots by_key five mixed
    ≡ only_old 1 (Gone 3) ∷ only_old 2 (Gone 1) ∷ only_new 1 2 ∷ both 3 (Gone 0) 2 0 ∷ []
mixed_slots = refl

mixed_unique : told_by (unique_piece five (applied mixed five)) (length (classes by_key five)) 0 0 (slots by_key five mixed)
    ≡ unique_follow by_key five mixed
mixed_unique = refl

mixed_told : unique_follow by_key five mixed
    ≡ kept ∷ deleted (e 2 20) ∷ deleted (e 4 40) ∷ inserted (e 3 30) ∷ updated (e 5 50) (e 5 51) ∷ []
mixed_told = refl

mixed_groups : told_by (group_piece (grouping_view by_key five) (grouping_view by_key (applied mixed five)))
    (length (classes by_key five)) 0 0 (slots by_key five mixed)
    ≡ grouping_follow by_key five mixed
mixed_groups = refl

-- nothing changes
quiet : slots by_key five (kept ∷ kept ∷ kept ∷ kept ∷ kept ∷ []) ≡ []
quiet = refl
