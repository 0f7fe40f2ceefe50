-- Lemmas on truth values that are kept as colours.
use Rattle.std.proofs.Common.{◌≡◌, ℕ, zero, suc, ◌+◌, ◌-◌, ◌<◌, ◌≤◌, Bool, true, false, cond, List, [], ◌∷◌, ◌++◌, length, take, drop, replicate, set, insert, remove, Option, Some, None, refl, sym, ap, ◌∙◌, inl, inr, subst, arith}
use Rattle.std.specs.List.{slice_get}
use Rattle.std.specs.Prelude.{slice_index, IsTrue, IfSome, Result, Ok, Err, OnOk}
use Rattle.gl_fourcolour.specs.Colours.{Colours, inserted, painted, removed, begins_with, run_count, is_among, count_among, IsKth, AllBelow}
use Rattle.gl_fourcolour.specs.Colours as colours
use Rattle.gl_barcode.specs.Bars.{Bars, count_shown, count_hidden, same, begins_alike, stretch_count, IsKthShown, IsKthHidden, spare, HasRoom}
use Rattle.gl_barcode.specs.Held.{is_shown, colour_of, shown_of}

pub length-shown : (xs : List ℕ) → length (shown_of xs) ≡ length xs
length-shown [] = refl
length-shown (x ∷ xs) = ap suc (length-shown xs)

pub shown-take : (n : ℕ) (xs : List ℕ) → shown_of (take n xs) ≡ take n (shown_of xs)
shown-take zero xs = refl
shown-take (suc n) [] = refl
shown-take (suc n) (x ∷ xs) = ap (λ bs. is_shown x ∷ bs) (shown-take n xs)

shown-colour : (b : Bool) → is_shown (colour_of b) ≡ b
shown-colour true = refl
shown-colour false = refl

colour-below : (b : Bool) → colour_of b < 2
colour-below true = omega arith
colour-below false = omega arith

pub colour_below : (c : ℕ) (b : Bool) → c ≡ colour_of b → c < 2
colour_below c b is = omega (arith, is, colour-below b)

-- the edits
pub shown-inserted : (xs : List ℕ) (at c : ℕ) (b : Bool) → c ≡ colour_of b → shown_of (inserted xs at c 1) ≡ insert (shown_of xs) at b
unfolding inserted
shown-inserted xs zero c b is = ap (λ x. x ∷ shown_of xs) (ap is_shown is ∙ shown-colour b)
shown-inserted [] (suc at) c b is = ap (λ x. x ∷ []) (ap is_shown is ∙ shown-colour b)
shown-inserted (x ∷ xs) (suc at) c b is = ap (λ bs. is_shown x ∷ bs) (shown-inserted xs at c b is)

painted_later : (x : ℕ) (xs : List ℕ) (at c : ℕ) → painted (x ∷ xs) (suc at) 1 c ≡ x ∷ painted xs at 1 c
unfolding painted
painted_later x xs at c =
    let index : suc at + 1 ≡ suc (at + 1) = omega arith in
    ap (λ k. take (suc at) (x ∷ xs) ++ (replicate 1 c ++ drop k (x ∷ xs))) index

painted_first : (x : ℕ) (xs : List ℕ) (c : ℕ) → painted (x ∷ xs) 0 1 c ≡ c ∷ xs
unfolding painted
painted_first x xs c = refl

pub shown-painted : (xs : List ℕ) (at c : ℕ) (b : Bool) → c ≡ colour_of b → at < length xs → shown_of (painted xs at 1 c) ≡ set (shown_of xs) at b
shown-painted [] at c b is inside = absurd (omega (arith, inside))
shown-painted (x ∷ xs) zero c b is inside = ap shown_of (painted_first x xs c) ∙ ap (λ y. y ∷ shown_of xs) (ap is_shown is ∙ shown-colour b)
shown-painted (x ∷ xs) (suc at) c b is inside = ap shown_of (painted_later x xs at c) ∙ ap (λ bs. is_shown x ∷ bs) (shown-painted xs at c b is (omega (arith, inside)))

removed_later : (x : ℕ) (xs : List ℕ) (at : ℕ) → removed (x ∷ xs) (suc at) 1 ≡ x ∷ removed xs at 1
unfolding removed
removed_later x xs at =
    let index : suc at + 1 ≡ suc (at + 1) = omega arith in
    ap (λ k. take (suc at) (x ∷ xs) ++ drop k (x ∷ xs)) index

removed_first : (x : ℕ) (xs : List ℕ) → removed (x ∷ xs) 0 1 ≡ xs
unfolding removed
removed_first x xs = refl

pub shown-removed : (xs : List ℕ) (at : ℕ) → at < length xs → shown_of (removed xs at 1) ≡ remove (shown_of xs) at
shown-removed [] at inside = absurd (omega (arith, inside))
shown-removed (x ∷ xs) zero inside = ap shown_of (removed_first x xs)
shown-removed (x ∷ xs) (suc at) inside = ap shown_of (removed_later x xs at) ∙ ap (λ bs. is_shown x ∷ bs) (shown-removed xs at (omega (arith, inside)))

-- the colours stay below two
inserted_later : (x : ℕ) (xs : List ℕ) (at c : ℕ) → inserted (x ∷ xs) (suc at) c 1 ≡ x ∷ inserted xs at c 1
unfolding inserted
inserted_later x xs at c = refl

inserted_first : (xs : List ℕ) (c : ℕ) → inserted xs 0 c 1 ≡ c ∷ xs
unfolding inserted
inserted_first xs c = refl

pub below-inserted : (xs : List ℕ) (at c : ℕ) → c < 2 → at ≤ length xs → AllBelow 2 xs → AllBelow 2 (inserted xs at c 1)
below-inserted xs zero c below within all = subst (λ ys. AllBelow 2 ys) (sym (inserted_first xs c)) (below, all)
below-inserted [] (suc at) c below within all = absurd (omega (arith, within))
below-inserted (x ∷ xs) (suc at) c below within all = subst (λ ys. AllBelow 2 ys) (sym (inserted_later x xs at c)) (all.0, below-inserted xs at c below (omega (arith, within)) all.1)

pub below-painted : (xs : List ℕ) (at c : ℕ) → c < 2 → at < length xs → AllBelow 2 xs → AllBelow 2 (painted xs at 1 c)
below-painted [] at c below inside all = absurd (omega (arith, inside))
below-painted (x ∷ xs) zero c below inside all = subst (λ ys. AllBelow 2 ys) (sym (painted_first x xs c)) (below, all.1)
below-painted (x ∷ xs) (suc at) c below inside all = subst (λ ys. AllBelow 2 ys) (sym (painted_later x xs at c)) (all.0, below-painted xs at c below (omega (arith, inside)) all.1)

pub below-removed : (xs : List ℕ) (at : ℕ) → at < length xs → AllBelow 2 xs → AllBelow 2 (removed xs at 1)
below-removed [] at inside all = absurd (omega (arith, inside))
below-removed (x ∷ xs) zero inside all = subst (λ ys. AllBelow 2 ys) (sym (removed_first x xs)) all.1
below-removed (x ∷ xs) (suc at) inside all = subst (λ ys. AllBelow 2 ys) (sym (removed_later x xs at)) (all.0, below-removed xs at (omega (arith, inside)) all.1)

below-take : (n : ℕ) (xs : List ℕ) → AllBelow 2 xs → AllBelow 2 (take n xs)
below-take zero xs all = tt
below-take (suc n) [] all = tt
below-take (suc n) (x ∷ xs) all = (all.0, below-take n xs all.1)

-- the counts
among-shown : (c : ℕ) → c < 2 → is_among 2 c ≡ is_shown c
unfolding is_among
among-shown zero below = refl
among-shown (suc zero) below = refl
among-shown (suc (suc c)) below = absurd (omega (arith, below))

pub count-shown : (xs : List ℕ) → AllBelow 2 xs → count_among 2 xs ≡ count_shown (shown_of xs)
unfolding count_among count_shown
count-shown [] all = refl
count-shown (x ∷ xs) all =
    let pick : Bool → ℕ = λ b. cond b 1 0 in
    omega (arith, ap pick (among-shown x all.0), count-shown xs all.1)

pub count-taken : (n : ℕ) (xs : List ℕ) → AllBelow 2 xs → count_among 2 (take n xs) ≡ count_shown (take n (shown_of xs))
count-taken n xs all = count-shown (take n xs) (below-take n xs all) ∙ ap count_shown (shown-take n xs)

-- the same for the hidden places
among-hidden : (c : ℕ) → c < 2 → let a : ℕ = cond (is_among 1 c) 1 0 in let b : ℕ = cond (is_shown c) 0 1 in a ≡ b
unfolding is_among
among-hidden zero below = refl
among-hidden (suc zero) below = refl
among-hidden (suc (suc c)) below = absurd (omega (arith, below))

pub count-hidden : (xs : List ℕ) → AllBelow 2 xs → count_among 1 xs ≡ count_hidden (shown_of xs)
unfolding count_among count_hidden
count-hidden [] all = refl
count-hidden (x ∷ xs) all = omega (arith, among-hidden x all.0, count-hidden xs all.1)

hidden-taken : (n : ℕ) (xs : List ℕ) → AllBelow 2 xs → count_among 1 (take n xs) ≡ count_hidden (take n (shown_of xs))
hidden-taken n xs all = count-hidden (take n xs) (below-take n xs all) ∙ ap count_hidden (shown-take n xs)

alike : (x y : ℕ) → x < 2 → y < 2 → begins_with x (y ∷ []) ≡ same (is_shown y) (is_shown x)
alike zero zero a b = refl
alike zero (suc zero) a b = refl
alike (suc zero) zero a b = refl
alike (suc zero) (suc zero) a b = refl
alike (suc (suc x)) y a b = absurd (omega (arith, a))
alike x (suc (suc y)) a b = absurd (omega (arith, b))

begins-alike : (x : ℕ) (xs : List ℕ) → x < 2 → AllBelow 2 xs → begins_with x xs ≡ begins_alike (is_shown x) (shown_of xs)
begins-alike x [] below all = refl
begins-alike x (y ∷ ys) below all = alike x y below all.0

pub stretches : (xs : List ℕ) → AllBelow 2 xs → run_count xs ≡ stretch_count (shown_of xs)
unfolding run_count stretch_count
stretches [] all = refl
stretches (x ∷ xs) all =
    let pick : Bool → ℕ = λ b. cond b 0 1 in
    omega (arith, ap pick (begins-alike x xs all.0 all.1), stretches xs all.1)

-- a place that is shown
pub get-shown : (xs : List ℕ) (position : ℕ) → position < length xs → slice_get (shown_of xs) position ≡ Some (is_shown (slice_index xs position))
get-shown [] position inside = absurd (omega (arith, inside))
get-shown (x ∷ xs) zero inside = refl
get-shown (x ∷ xs) (suc position) inside = get-shown xs position (omega (arith, inside))

below-index : (xs : List ℕ) (position : ℕ) → position < length xs → AllBelow 2 xs → slice_index xs position < 2
below-index [] position inside all = absurd (omega (arith, inside))
below-index (x ∷ xs) zero inside all = all.0
below-index (x ∷ xs) (suc position) inside all = below-index xs position (omega (arith, inside)) all.1

kth : (k : ℕ) (xs : List ℕ) (position : ℕ) → AllBelow 2 xs → IsKth 2 k xs position → IsKthShown k (shown_of xs) position
kth k xs position all h =
    let one = sym (among-shown (slice_index xs position) (below-index xs position h.in_range all)) ∙ h.among in
    record {
      shown = get-shown xs position h.in_range ∙ ap (λ b. Some b) one;
      before = sym (count-taken position xs all) ∙ h.before;
    }

pub kth_found : (k : ℕ) (xs : List ℕ) (bs : List Bool) (result : Option ℕ) → AllBelow 2 xs → shown_of xs ≡ bs → IfSome result (IsKth 2 k xs) → IfSome result (IsKthShown k bs)
kth_found k xs bs None all is h = tt
kth_found k xs bs (Some position) all is h = subst (λ cs. IsKthShown k cs position) is (kth k xs position all h)

not_shown : (c : ℕ) → c < 2 → IsTrue (is_among 1 c) → is_shown c ≡ false
unfolding is_among
not_shown zero below h = refl
not_shown (suc zero) below h = cc
not_shown (suc (suc c)) below h = absurd (omega (arith, below))

kth_hidden : (k : ℕ) (xs : List ℕ) (position : ℕ) → AllBelow 2 xs → IsKth 1 k xs position → IsKthHidden k (shown_of xs) position
kth_hidden k xs position all h =
    let one = not_shown (slice_index xs position) (below-index xs position h.in_range all) h.among in
    record {
      hidden = get-shown xs position h.in_range ∙ ap (λ b. Some b) one;
      before = sym (hidden-taken position xs all) ∙ h.before;
    }

pub hidden_found : (k : ℕ) (xs : List ℕ) (bs : List Bool) (result : Option ℕ) → AllBelow 2 xs → shown_of xs ≡ bs → IfSome result (IsKth 1 k xs) → IfSome result (IsKthHidden k bs)
hidden_found k xs bs None all is h = tt
hidden_found k xs bs (Some position) all is h = subst (λ cs. IsKthHidden k cs position) is (kth_hidden k xs position all h)

-- places put in at the end
shown-filled : (n c : ℕ) (b : Bool) → c ≡ colour_of b → shown_of (replicate n c ++ []) ≡ replicate n b
shown-filled zero c b is = refl
shown-filled (suc n) c b is = ap (λ x. x ∷ shown_of (replicate n c ++ [])) (ap is_shown is ∙ shown-colour b) ∙ ap (λ bs. b ∷ bs) (shown-filled n c b is)

pub shown-appended : (xs : List ℕ) (end c n : ℕ) (b : Bool) → end ≡ length xs → c ≡ colour_of b → shown_of (inserted xs end c n) ≡ shown_of xs ++ replicate n b
unfolding inserted
shown-appended [] zero c n b at is = shown-filled n c b is
shown-appended [] (suc end) c n b at is = absurd (omega (arith, at))
shown-appended (x ∷ xs) zero c n b at is = absurd (omega (arith, at))
shown-appended (x ∷ xs) (suc end) c n b at is = ap (λ bs. is_shown x ∷ bs) (shown-appended xs end c n b (omega (arith, at)) is)

below-filled : (n c : ℕ) → c < 2 → AllBelow 2 (replicate n c ++ [])
below-filled zero c below = tt
below-filled (suc n) c below = (below, below-filled n c below)

pub below-appended : (xs : List ℕ) (end c n : ℕ) → end ≡ length xs → c < 2 → AllBelow 2 xs → AllBelow 2 (inserted xs end c n)
unfolding inserted
below-appended [] zero c n at below all = below-filled n c below
below-appended [] (suc end) c n at below all = absurd (omega (arith, at))
below-appended (x ∷ xs) zero c n at below all = absurd (omega (arith, at))
below-appended (x ∷ xs) (suc end) c n at below all = (all.0, below-appended xs end c n (omega (arith, at)) below all.1)

-- what the value says of the colours
pub record Held (value : Bars) (held : Colours) : Type 0 where
  pub shown : shown_of held.colours ≡ value.shown
  pub room : held.room ≡ value.room
  pub len : length held.colours ≡ length value.shown
  pub spared : colours.spare held ≡ spare value
  pub count : count_among 2 held.colours ≡ count_shown value.shown
  pub hidden : count_among 1 held.colours ≡ count_hidden value.shown

pub held_is : (held : Colours) (value : Bars) → AllBelow 2 held.colours → record { shown = shown_of held.colours; room = held.room } ≡ value → Held value held
held_is held value all is =
    let shown_is = ap (λ (v : Bars). v.shown) is in
    let room_is = ap (λ (v : Bars). v.room) is in
    record {
      shown = shown_is;
      room = room_is;
      len = sym (length-shown held.colours) ∙ ap length shown_is;
      spared = omega (arith, room_is, stretches held.colours all, ap stretch_count shown_is);
      count = count-shown held.colours all ∙ ap count_shown shown_is;
      hidden = count-hidden held.colours all ∙ ap count_hidden shown_is;
    }

pub has_room : (held : Colours) (value : Bars) (outcome : List ℕ) (bars : List Bool) → Held value held → AllBelow 2 outcome → shown_of outcome ≡ bars → HasRoom value bars → colours.HasRoom held outcome
has_room held value outcome bars h all is room =
    elim room [
      | inl spared ↦ inl (omega (arith, spared, h.spared))
      | inr fits ↦ inr (omega (arith, fits, h.room, stretches outcome all, ap stretch_count is))
    ]

pub spare_is : (held : Colours) → AllBelow 2 held.colours → colours.spare held ≡ spare (record { shown = shown_of held.colours; room = held.room })
spare_is held all = omega (arith, stretches held.colours all)

pub reserved : {T E : Type 0} (edits : ℕ) (old new : Colours) (result : Result T E) → AllBelow 2 old.colours → new.colours ≡ old.colours → OnOk result (edits ≤ colours.spare new) → OnOk result (edits ≤ spare (record { shown = shown_of new.colours; room = new.room }))
reserved edits old new (Ok x) all same fits = omega (arith, fits, spare_is new (subst (λ xs. AllBelow 2 xs) (sym same) all))
reserved edits old new (Err e) all same fits = tt
