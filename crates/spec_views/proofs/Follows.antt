-- What becomes of a change of the input leads from the old view to the new one, kind by kind.
use Rattle.std.proofs.Common.{◌≡◌, ◌∙◌, ℕ, zero, suc, ◌+◌, ◌-◌, ◌&&◌, Bool, true, false, List, [], ◌∷◌, length, map, take, drop, refl, ap, sym, subst, arith, inl, inr}
use Rattle.std.specs.Prelude.{nat_le, nat_lt}
use Rattle.std.proofs.lemmas.Bool.{cases_lt}
use Rattle.std.proofs.lemmas.Bool.Decides.{nat_tests}
use Rattle.spec_value.specs.Tree.{Tree}
use Rattle.spec_lists.specs.Piece.{Piece, kept, updated, deleted, inserted, identity, new_len, BeginsUndeleted, IsNormal}
use Rattle.spec_lists.specs.Leads.{LeadsFrom, applied, IsDelta}
use Rattle.spec_lists.proofs.DeltaLeads.{length-applied}
use Rattle.spec_lists.proofs.Normal.{IsNormal-normal}
use Rattle.spec_lists.proofs.DeltaEdits.{identity_leads}
use Rattle.spec_lang.specs.declared.Bounds.{Bounds}
use Rattle.spec_views.specs.Chosen.{Choice, chosen, chosen_from, follow_chosen, told_from}
use Rattle.spec_views.specs.Filter.{by_value, filter_view, filter_change}
use Rattle.spec_views.specs.Function.{function_view, function_follow, function_change}
use Rattle.spec_views.specs.Range.{start_of, end_of, range_view, by_position, range_follow, range_change}
use Rattle.spec_views.proofs.Leads.{chosen_leads, chosen_by_value}
use Rattle.spec_lists.proofs.Made.{between}

-- what is told of chosen elements is in normal form
pub chosen_normal : (before after : Choice) (xs : List Tree) (ps : List Piece) → IsNormal (follow_chosen before after xs ps)
chosen_normal before after xs ps = IsNormal-normal (told_from before after 0 0 xs ps)

-- a filter that gets another matcher
pub filter_change_leads : (before after : Tree → Bool) (xs : List Tree) → IsDelta (filter_change before after xs) (filter_view before xs) (filter_view after xs)
filter_change_leads before after xs =
    between (chosen_leads (by_value before) (by_value after) (identity (length xs)) xs xs (identity_leads xs))
    (sym (chosen_by_value before 0 xs)) (sym (chosen_by_value after 0 xs))

-- whether a place is from s on and below e
abbrev within : ℕ → ℕ → Choice
within s e position value = nat_le s position && nat_lt position e

abbrev nothing : List Tree
nothing = []

nothing_left : (n m : ℕ) → take n (drop m nothing) ≡ nothing
nothing_left zero zero = refl
nothing_left zero (suc m) = refl
nothing_left (suc n) zero = refl
nothing_left (suc n) (suc m) = refl

-- the elements at places from s on and below e, where the first stands at place i
slice_from : (s e i : ℕ) (xs : List Tree) → chosen_from (within s e) i xs ≡ take (e - (i + (s - i))) (drop (s - i) xs)
slice_from s e i [] = sym (nothing_left (e - (i + (s - i))) (s - i))
slice_from s e i (x ∷ xs) = by (slice_from s e (suc i) xs)
  where
    by : chosen_from (within s e) (suc i) xs ≡ take (e - (suc i + (s - suc i))) (drop (s - suc i) xs) → chosen_from (within s e) i (x ∷ xs) ≡ take (e - (i + (s - i))) (drop (s - i) (x ∷ xs))
    by more = elim (cases_lt i s) [
      | inl before ↦
          let out : nat_le s i ≡ false = grind (arith, nat_tests) in
          let less : s - i ≡ suc (s - suc i) = omega arith in
          let same : i + suc (s - suc i) ≡ suc i + (s - suc i) = omega arith in
          rw (out, less, same) more
      | inr here ↦
          let inside : nat_le s i ≡ true = grind (arith, nat_tests) in
          let none : s - i ≡ 0 = omega arith in
          let none_more : s - suc i ≡ 0 = omega arith in
          let at : i + 0 ≡ i = omega arith in
          let next : suc i + 0 ≡ suc i = omega arith in
          let rest : chosen_from (within s e) (suc i) xs ≡ take (e - suc i) (drop 0 xs) = rw (none_more, next) at more in
          elim (cases_lt i e) [
            | inl low ↦
                let below : nat_lt i e ≡ true = grind (arith, nat_tests) in
                let more_left : e - i ≡ suc (e - suc i) = omega arith in
                rw (inside, below, none, at, more_left) (ap (λ ys. x ∷ ys) rest)
            | inr high ↦
                let above : nat_lt i e ≡ false = grind (arith, nat_tests) in
                let no_more : e - i ≡ 0 = omega arith in
                let nor_then : e - suc i ≡ 0 = omega arith in
                rw (inside, above, none, at, no_more) (rest ∙ ap (λ n. take n (drop 0 xs)) nor_then)
          ]
    ]

-- the elements chosen by their place are those that a range shows
pub chosen_by_position : (bounds : Bounds) (xs : List Tree) → chosen (by_position bounds (length xs)) xs ≡ range_view bounds xs
chosen_by_position bounds xs =
    let s = start_of bounds (length xs) in
    let e = end_of bounds (length xs) in
    let at : 0 + (s - 0) ≡ s = omega arith in
    let from : s - 0 ≡ s = omega arith in
    slice_from s e 0 xs ∙ ap (λ n. take (e - n) (drop (s - 0) xs)) at ∙ ap (λ n. take (e - s) (drop n xs)) from

-- a range whose input changes
pub range_leads : (bounds : Bounds) (ps : List Piece) (xs ys : List Tree) → IsDelta ps xs ys → IsDelta (range_follow bounds xs ps) (range_view bounds xs) (range_view bounds ys)
range_leads bounds ps xs ys h =
    let long : length ys ≡ new_len ps = ap length h.ends ∙ length-applied ps xs h.starts in
    let new : range_view bounds ys ≡ chosen (by_position bounds (new_len ps)) ys = sym (chosen_by_position bounds ys) ∙ ap (λ n. chosen (by_position bounds n) ys) long in
    between (chosen_leads (by_position bounds (length xs)) (by_position bounds (new_len ps)) ps xs ys h) (sym (chosen_by_position bounds xs)) new

-- a range that gets other bounds
pub range_change_leads : (before after : Bounds) (xs : List Tree) → IsDelta (range_change before after xs) (range_view before xs) (range_view after xs)
range_change_leads before after xs =
    between (chosen_leads (by_position before (length xs)) (by_position after (length xs)) (identity (length xs)) xs xs (identity_leads xs))
    (sym (chosen_by_position before xs)) (sym (chosen_by_position after xs))

-- a function list whose input changes
pub function_leads : (f : Tree → Tree) (ps : List Piece) (xs ys : List Tree) → IsDelta ps xs ys → IsDelta (function_follow f ps) (function_view f xs) (function_view f ys)
function_leads f ps xs ys h =
    let to = mapped f ps xs h.starts in
    record { starts = to.starts; ends = ap (map f) h.ends ∙ to.ends }
  where
    mapped : (f : Tree → Tree) (ps : List Piece) (xs : List Tree) → LeadsFrom ps xs → IsDelta (function_follow f ps) (map f xs) (map f (applied ps xs))
    mapped f [] [] h = record { starts = tt; ends = refl }
    mapped f [] (x ∷ xs) h = absurd h
    mapped f (kept ∷ ps) [] h = absurd h
    mapped f (kept ∷ ps) (x ∷ xs) h = let to = mapped f ps xs h in record { starts = to.starts; ends = ap (λ ys. f x ∷ ys) to.ends }
    mapped f (updated v w ∷ ps) [] h = absurd h
    mapped f (updated v w ∷ ps) (x ∷ xs) h = let to = mapped f ps xs h.1 in record { starts = (ap f h.0, to.starts); ends = ap (λ ys. f w ∷ ys) to.ends }
    mapped f (deleted v ∷ ps) [] h = absurd h
    mapped f (deleted v ∷ ps) (x ∷ xs) h = let to = mapped f ps xs h.1 in record { starts = (ap f h.0, to.starts); ends = to.ends }
    mapped f (inserted w ∷ ps) xs h = let to = mapped f ps xs h in record { starts = to.starts; ends = ap (λ ys. f w ∷ ys) to.ends }

pub function_normal : (f : Tree → Tree) (ps : List Piece) → IsNormal ps → IsNormal (function_follow f ps)
function_normal f [] h = tt
function_normal f (kept ∷ ps) h = function_normal f ps h
function_normal f (updated v w ∷ ps) h = function_normal f ps h
function_normal f (deleted v ∷ ps) h = function_normal f ps h
function_normal f (inserted w ∷ ps) h = (undeleted ps h.0, function_normal f ps h.1)
  where
    undeleted : (ps : List Piece) → BeginsUndeleted ps → BeginsUndeleted (function_follow f ps)
    undeleted [] h = tt
    undeleted (kept ∷ ps) h = tt
    undeleted (updated v w ∷ ps) h = tt
    undeleted (deleted v ∷ ps) h = absurd h
    undeleted (inserted w ∷ ps) h = tt

-- a function list that gets another function
pub function_change_leads : (before after : Tree → Tree) (xs : List Tree) → IsDelta (function_change before after xs) (function_view before xs) (function_view after xs)
function_change_leads before after [] = record { starts = tt; ends = refl }
function_change_leads before after (x ∷ xs) =
    let to = function_change_leads before after xs in
    record { starts = (refl, to.starts); ends = ap (λ ys. after x ∷ ys) to.ends }

pub function_change_normal : (before after : Tree → Tree) (xs : List Tree) → IsNormal (function_change before after xs)
function_change_normal before after [] = tt
function_change_normal before after (x ∷ xs) = function_change_normal before after xs
