-- What a contract sees of `Runs`: a list of colours, and what its edits and questions mean.
use Rattle.std.specs.Prelude.{◌≡◌, ℕ, ◌+◌, ◌-◌, ◌/◌, ◌%◌, ◌^◌, ◌<◌, ◌≤◌, ◌⊎◌, Bool, false, cond, ◌==◌, List, [], ◌∷◌, ◌++◌, length, take, drop, IsTrue, slice_index, replicate}

-- the colours in order, and how many runs there is room for
pub record Colours : Type 0 where
  pub colours : List ℕ
  pub room : ℕ

-- n places of a colour are put in at a place
unfoldable pub inserted : List ℕ → ℕ → ℕ → ℕ → List ℕ
inserted xs at colour n = take at xs ++ (replicate n colour ++ drop at xs)

-- n places are taken out
unfoldable pub removed : List ℕ → ℕ → ℕ → List ℕ
removed xs at n = take at xs ++ drop (at + n) xs

-- n places have a colour
unfoldable pub painted : List ℕ → ℕ → ℕ → ℕ → List ℕ
painted xs at n colour = take at xs ++ (replicate n colour ++ drop (at + n) xs)

abbrev pub begins_with : ℕ → List ℕ → Bool
begins_with colour [] = false
begins_with colour (x ∷ xs) = x == colour

-- how many maximal runs of one colour there are
unfoldable pub run_count : List ℕ → ℕ
run_count [] = 0
run_count (x ∷ xs) = cond (begins_with x xs) 0 1 + run_count xs

-- the set of colours that a mask stands for has this colour: its bit is set
unfoldable pub is_among : ℕ → ℕ → Bool
is_among mask colour = (mask / 2 ^ colour) % 2 == 1

-- how many places have a colour of the set
unfoldable pub count_among : ℕ → List ℕ → ℕ
count_among mask [] = 0
count_among mask (x ∷ xs) = cond (is_among mask x) 1 0 + count_among mask xs

-- this place has a colour of the set, and so have k places before it
pub record IsKth (mask k : ℕ) (xs : List ℕ) (position : ℕ) : Type 0 where
  pub in_range : position < length xs
  pub among : IsTrue (is_among mask (slice_index xs position))
  pub before : count_among mask (take position xs) ≡ k

-- how many more edits fit with no memory, since an edit makes at most two runs more
abbrev pub spare : Colours → ℕ
spare c = (c.room - run_count c.colours) / 2

-- an edit with this outcome takes no memory
abbrev pub HasRoom : Colours → List ℕ → Type 0
HasRoom c outcome = (1 ≤ spare c) ⊎ (run_count outcome ≤ c.room)

-- each place has one of the first so many colours
abbrev pub AllBelow : ℕ → List ℕ → Type 0
AllBelow bound [] = Unit {0}
AllBelow bound (x ∷ xs) = (x < bound) × AllBelow bound xs
