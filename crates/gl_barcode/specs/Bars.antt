-- What a contract sees of a `Barcode`: which places are shown.
use Rattle.std.specs.Prelude.{◌≡◌, ℕ, ◌+◌, ◌-◌, ◌/◌, ◌≤◌, ◌⊎◌, Bool, true, false, not, cond, List, [], ◌∷◌, take, Some, slice_get}

-- for each place whether it is shown, and how many stretches there is room for
pub record Bars : Type 0 where
  pub shown : List Bool
  pub room : ℕ

-- how many places are shown
unfoldable pub count_shown : List Bool → ℕ
count_shown [] = 0
count_shown (b ∷ bs) = cond b 1 0 + count_shown bs

abbrev pub same : Bool → Bool → Bool
same true b = b
same false b = not b

abbrev pub begins_alike : Bool → List Bool → Bool
begins_alike b [] = false
begins_alike b (c ∷ cs) = same c b

-- how many stretches there are, each as long as can be, whose places are all shown or all hidden
unfoldable pub stretch_count : List Bool → ℕ
stretch_count [] = 0
stretch_count (b ∷ bs) = cond (begins_alike b bs) 0 1 + stretch_count bs

-- this place is shown, and k places before it are
pub record IsKthShown (k : ℕ) (bs : List Bool) (position : ℕ) : Type 0 where
  pub shown : slice_get bs position ≡ Some true
  pub before : count_shown (take position bs) ≡ k

-- how many places are hidden
unfoldable pub count_hidden : List Bool → ℕ
count_hidden [] = 0
count_hidden (b ∷ bs) = cond b 0 1 + count_hidden bs

-- this place is hidden, and k places before it are
pub record IsKthHidden (k : ℕ) (bs : List Bool) (position : ℕ) : Type 0 where
  pub hidden : slice_get bs position ≡ Some false
  pub before : count_hidden (take position bs) ≡ k

-- how many more edits fit with no memory, since an edit makes at most two stretches more
abbrev pub spare : Bars → ℕ
spare b = (b.room - stretch_count b.shown) / 2

-- an edit with this outcome takes no memory
abbrev pub HasRoom : Bars → List Bool → Type 0
HasRoom b outcome = (1 ≤ spare b) ⊎ (stretch_count outcome ≤ b.room)
