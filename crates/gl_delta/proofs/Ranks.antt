-- Ranks and selects among the colours of pieces.
use Rattle.std.proofs.Common.{◌≡◌, ◌∙◌, ℕ, zero, suc, ◌+◌, ◌-◌, ◌*◌, ◌<◌, ◌≤◌, List, [], ◌∷◌, length, map, take, drop, refl, ap, sym, subst, arith, IsTrue, inr}
use Rattle.std.specs.Prelude.{◌↔◌, Option, Some, None, IsSome, IfSome, MatchOption, cond, true, false, Bool, nat_lt, slice_index, slice_get}
use Rattle.std.proofs.lemmas.Bool.Decides.{nat_tests}
use Rattle.std.proofs.lemmas.List.{take-map, take_all, drop_all}
use Rattle.spec_lists.specs.Piece.{Piece, kept, updated, deleted, inserted, old_len, new_len}
use Rattle.spec_lists.specs.Changes.{changed_len}
use Rattle.gl_fourcolour.specs.Colours.{Colours, run_count, begins_with, is_among, count_among, IsKth, HasRoom}
use Rattle.gl_delta.specs.Marks.{side_len, BeginsOn, IsSelected, kind_of}
use Rattle.gl_delta.specs.declared.mark.Side.{Side}
use Rattle.gl_delta.specs.declared.mark.Side.TheVariants.{Old, New}
use Rattle.gl_delta.specs.Plain.{kept_len, IsKeptAt}
use Rattle.gl_delta.specs.Store.{colour_of, kind_by, mask_of, old_values, new_values}
use Rattle.gl_delta.proofs.Stores.{length-colours}

-- each set of colours counts what its pieces are
pub counts_old : (ps : List Piece) → count_among 7 (map colour_of ps) ≡ old_len ps
unfolding count_among is_among
counts_old [] = refl
counts_old (kept ∷ ps) = omega (arith, counts_old ps)
counts_old (updated v w ∷ ps) = omega (arith, counts_old ps)
counts_old (deleted v ∷ ps) = omega (arith, counts_old ps)
counts_old (inserted w ∷ ps) = omega (arith, counts_old ps)

pub counts_new : (ps : List Piece) → count_among 11 (map colour_of ps) ≡ new_len ps
unfolding count_among is_among
counts_new [] = refl
counts_new (kept ∷ ps) = omega (arith, counts_new ps)
counts_new (updated v w ∷ ps) = omega (arith, counts_new ps)
counts_new (deleted v ∷ ps) = omega (arith, counts_new ps)
counts_new (inserted w ∷ ps) = omega (arith, counts_new ps)

pub counts_changed : (ps : List Piece) → count_among 14 (map colour_of ps) ≡ changed_len ps
unfolding count_among is_among
counts_changed [] = refl
counts_changed (kept ∷ ps) = omega (arith, counts_changed ps)
counts_changed (updated v w ∷ ps) = omega (arith, counts_changed ps)
counts_changed (deleted v ∷ ps) = omega (arith, counts_changed ps)
counts_changed (inserted w ∷ ps) = omega (arith, counts_changed ps)

pub counts_kept : (ps : List Piece) → count_among 1 (map colour_of ps) ≡ kept_len ps
unfolding count_among is_among
counts_kept [] = refl
counts_kept (kept ∷ ps) = omega (arith, counts_kept ps)
counts_kept (updated v w ∷ ps) = omega (arith, counts_kept ps)
counts_kept (deleted v ∷ ps) = omega (arith, counts_kept ps)
counts_kept (inserted w ∷ ps) = omega (arith, counts_kept ps)

pub counts_with_old : (ps : List Piece) → count_among 6 (map colour_of ps) ≡ length (old_values ps)
unfolding count_among is_among
counts_with_old [] = refl
counts_with_old (kept ∷ ps) = omega (arith, counts_with_old ps)
counts_with_old (updated v w ∷ ps) = omega (arith, counts_with_old ps)
counts_with_old (deleted v ∷ ps) = omega (arith, counts_with_old ps)
counts_with_old (inserted w ∷ ps) = omega (arith, counts_with_old ps)

pub counts_with_new : (ps : List Piece) → count_among 10 (map colour_of ps) ≡ length (new_values ps)
unfolding count_among is_among
counts_with_new [] = refl
counts_with_new (kept ∷ ps) = omega (arith, counts_with_new ps)
counts_with_new (updated v w ∷ ps) = omega (arith, counts_with_new ps)
counts_with_new (deleted v ∷ ps) = omega (arith, counts_with_new ps)
counts_with_new (inserted w ∷ ps) = omega (arith, counts_with_new ps)

pub counts_side : (side : Side) (ps : List Piece) → count_among (mask_of side) (map colour_of ps) ≡ side_len side ps
counts_side Old ps = counts_old ps
counts_side New ps = counts_new ps

-- a rank counts the pieces before a place
pub ranked : (mask : ℕ) (f : List Piece → ℕ) → ((qs : List Piece) → count_among mask (map colour_of qs) ≡ f qs) → (cs : List ℕ) (ps : List Piece) (at : ℕ) → cs ≡ map colour_of ps → count_among mask (take at cs) ≡ f (take at ps)
ranked mask f counts cs ps at e = ap (λ xs. count_among mask (take at xs)) e ∙ (ap (count_among mask) (take-map colour_of at ps) ∙ counts (take at ps))

pub ranked_by : (side : Side) (cs : List ℕ) (ps : List Piece) (at i mask : ℕ) → cs ≡ map colour_of ps → mask ≡ mask_of side → i ≡ count_among mask (take at cs) → i ≡ side_len side (take at ps)
ranked_by side cs ps at i mask e f g = g ∙ (ap (λ m. count_among m (take at cs)) f ∙ ranked (mask_of side) (side_len side) (counts_side side) cs ps at e)

pub counted : (mask : ℕ) (f : List Piece → ℕ) → ((qs : List Piece) → count_among mask (map colour_of qs) ≡ f qs) → (cs : List ℕ) (ps : List Piece) → cs ≡ map colour_of ps → count_among mask cs ≡ f ps
counted mask f counts cs ps e = ap (count_among mask) e ∙ counts ps

-- the colour of a piece tells what it is
pub kind_colour : (p : Piece) → kind_by (colour_of p) ≡ kind_of p
kind_colour kept = refl
kind_colour (updated v w) = refl
kind_colour (deleted v) = refl
kind_colour (inserted w) = refl

pub colour_at : (cs : List ℕ) (ps : List Piece) (at : ℕ) → cs ≡ map colour_of ps → at < length ps → (x : Piece) × ((slice_get ps at ≡ Some x) × (slice_index cs at ≡ colour_of x))
colour_at cs ps at e within =
    let r = there ps at within in
    (r.0, (r.1.0, ap (λ xs. slice_index xs at) e ∙ r.1.1))
  where
    there : (qs : List Piece) (i : ℕ) → i < length qs → (x : Piece) × ((slice_get qs i ≡ Some x) × (slice_index (map colour_of qs) i ≡ colour_of x))
    there [] i w = absurd (omega (arith, w))
    there (q ∷ qs) zero w = (q, (refl, refl))
    there (q ∷ qs) (suc i) w = there qs i (omega (arith, w))

-- a selected place
is_on : (side : Side) (p : Piece) (ps : List Piece) → IsTrue (is_among (mask_of side) (colour_of p)) → BeginsOn side (p ∷ ps)
unfolding is_among
is_on Old kept ps h = tt
is_on Old (updated v w) ps h = tt
is_on Old (deleted v) ps h = tt
is_on Old (inserted w) ps h = absurd (cc)
is_on New kept ps h = tt
is_on New (updated v w) ps h = tt
is_on New (deleted v) ps h = absurd (cc)
is_on New (inserted w) ps h = tt

begins_there : (side : Side) (ps : List Piece) (at : ℕ) → at < length ps → IsTrue (is_among (mask_of side) (slice_index (map colour_of ps) at)) → BeginsOn side (drop at ps)
begins_there side [] at w h = absurd (omega (arith, w))
begins_there side (p ∷ ps) zero w h = is_on side p ps h
begins_there side (p ∷ ps) (suc at) w h = begins_there side ps at (omega (arith, w)) h

pub selected : (side : Side) (cs : List ℕ) (ps : List Piece) (k position : ℕ) → cs ≡ map colour_of ps → IsKth (mask_of side) k cs position → IsSelected side ps k position
selected side cs ps k position e h =
    let P : List ℕ → Type 0 = λ xs. IsKth (mask_of side) k xs position in
    let g : IsKth (mask_of side) k (map colour_of ps) position = subst P e h in
    let within : position < length ps = omega (arith, g.in_range, length-colours ps) in
    record {
      within = omega (arith, within);
      before = sym (ranked (mask_of side) (side_len side) (counts_side side) (map colour_of ps) ps position refl) ∙ g.before;
      here = begins_there side ps position within g.among;
    }

pub selected_by : (side : Side) (cs : List ℕ) (ps : List Piece) (k position mask : ℕ) → cs ≡ map colour_of ps → mask ≡ mask_of side → IsKth mask k cs position → IsSelected side ps k position
selected_by side cs ps k position mask e f h = let P : ℕ → Type 0 = λ m. IsKth m k cs position in selected side cs ps k position e (subst P f h)

-- where no place is found, none is left
pub none_left : (k n : ℕ) → (false ≡ true → k < n) × (k < n → false ≡ true) → n ≤ k
none_left k n h = by_test (nat_lt k n) refl
  where
    by_test : (b : Bool) → nat_lt k n ≡ b → n ≤ k
    by_test true e = let less : k < n = grind (arith, nat_tests) in let no_way : false ≡ true = h.1 less in cc
    by_test false e = grind (arith, nat_tests)

pub selected_none : (side : Side) (cs : List ℕ) (ps : List Piece) (k mask : ℕ) → cs ≡ map colour_of ps → mask ≡ mask_of side → (false ≡ true → k < count_among mask cs) × (k < count_among mask cs → false ≡ true) → k ≤ side_len side ps → k ≡ side_len side ps
selected_none side cs ps k mask e f h le =
    omega (arith, none_left k (count_among mask cs) h, ap (λ m. count_among m cs) f, counted (mask_of side) (side_len side) (counts_side side) cs ps e, le)

begins_none : (side : Side) → BeginsOn side []
begins_none Old = tt
begins_none New = tt

pub selected_end : (side : Side) (ps : List Piece) (k position : ℕ) → position ≡ length ps → k ≡ side_len side ps → IsSelected side ps k position
selected_end side ps k position e f =
    let all : take position ps ≡ ps = take_all position ps (omega (arith, e)) in
    let B : List Piece → Type 0 = BeginsOn side in
    record {
      within = omega (arith, e);
      before = ap (side_len side) all ∙ sym f;
      here = subst B (sym (drop_all position ps (omega (arith, e)))) (begins_none side);
    }

-- the place of a kept piece
kept_colour : (p : Piece) → IsTrue (is_among 1 (colour_of p)) → Some p ≡ Some kept
unfolding is_among
kept_colour kept h = refl
kept_colour (updated v w) h = absurd (cc)
kept_colour (deleted v) h = absurd (cc)
kept_colour (inserted w) h = absurd (cc)

kept_there : (ps : List Piece) (at : ℕ) → at < length ps → IsTrue (is_among 1 (slice_index (map colour_of ps) at)) → slice_get ps at ≡ Some kept
kept_there [] at w h = absurd (omega (arith, w))
kept_there (p ∷ ps) zero w h = kept_colour p h
kept_there (p ∷ ps) (suc at) w h = kept_there ps at (omega (arith, w)) h

pub kept_position : (cs : List ℕ) (ps : List Piece) (k position : ℕ) → cs ≡ map colour_of ps → IsKth 1 k cs position → IsKeptAt ps k position
kept_position cs ps k position e h =
    let P : List ℕ → Type 0 = λ xs. IsKth 1 k xs position in
    let g : IsKth 1 k (map colour_of ps) position = subst P e h in
    record {
      got = kept_there ps position (omega (arith, g.in_range, length-colours ps)) g.among;
      before = sym (ranked 1 kept_len counts_kept (map colour_of ps) ps position refl) ∙ g.before;
    }

pub kept_choice : (r : Option ℕ) (cs : List ℕ) (ps : List Piece) (k : ℕ) → cs ≡ map colour_of ps → IsSome r ↔ (k < count_among 1 cs) → IfSome r (IsKth 1 k cs) → MatchOption r (kept_len ps ≤ k) (IsKeptAt ps k)
kept_choice None cs ps k e some kth = omega (arith, none_left k (count_among 1 cs) some, counted 1 kept_len counts_kept cs ps e)
kept_choice (Some found) cs ps k e some kth = kept_position cs ps k found e kth

-- pieces of which n are changed have at most 2 n + 1 runs
abbrev pub kept_first : List Piece → ℕ
kept_first [] = 0
kept_first (kept ∷ ps) = 1
kept_first (updated v w ∷ ps) = 0
kept_first (deleted v ∷ ps) = 0
kept_first (inserted w ∷ ps) = 0

first_few : (ps : List Piece) → kept_first ps ≤ 1
first_few [] = omega arith
first_few (kept ∷ ps) = omega arith
first_few (updated v w ∷ ps) = omega arith
first_few (deleted v ∷ ps) = omega arith
first_few (inserted w ∷ ps) = omega arith

one_run : (c : ℕ) (xs : List ℕ) → run_count (c ∷ xs) ≤ 1 + run_count xs
unfolding run_count
one_run c xs = by_test (begins_with c xs)
  where
    by_test : (b : Bool) → cond b 0 1 + run_count xs ≤ 1 + run_count xs
    by_test true = omega arith
    by_test false = omega arith

more_kept : (ps : List Piece) → run_count (0 ∷ map colour_of ps) + kept_first ps ≤ 1 + run_count (map colour_of ps)
unfolding run_count
more_kept [] = omega arith
more_kept (kept ∷ ps) = omega arith
more_kept (updated v w ∷ ps) = omega arith
more_kept (deleted v ∷ ps) = omega arith
more_kept (inserted w ∷ ps) = omega arith

no_runs : run_count [] ≡ 0
unfolding run_count
no_runs = refl

run_most : (ps : List Piece) → run_count (map colour_of ps) ≤ 2 * changed_len ps + kept_first ps
run_most [] = omega (arith, no_runs)
run_most (kept ∷ ps) = omega (arith, run_most ps, more_kept ps)
run_most (updated v w ∷ ps) = omega (arith, run_most ps, first_few ps, one_run 1 (map colour_of ps))
run_most (deleted v ∷ ps) = omega (arith, run_most ps, first_few ps, one_run 2 (map colour_of ps))
run_most (inserted w ∷ ps) = omega (arith, run_most ps, first_few ps, one_run 3 (map colour_of ps))

pub runs_few : (ps : List Piece) → run_count (map colour_of ps) ≤ 2 * changed_len ps + 1
runs_few ps = omega (arith, run_most ps, first_few ps)

-- an edit whose outcome has no more changed pieces than there is room for takes no memory
pub fits : (colours : Colours) (room : ℕ) (outcome : List ℕ) (ps : List Piece) → outcome ≡ map colour_of ps → changed_len ps ≤ room → 1 ≤ room → 2 * room ≤ colours.room - 1 → HasRoom colours outcome
fits colours room outcome ps e few some enough = inr (omega (arith, ap run_count e, runs_few ps, few, some, enough))
