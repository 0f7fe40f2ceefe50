-- Cells of pieces, and the places of changed pieces.
use Rattle.std.proofs.Common.{◌≡◌, ◌∙◌, ℕ, zero, suc, ◌+◌, ◌-◌, ◌<◌, ◌≤◌, List, [], ◌∷◌, ◌++◌, length, map, take, drop, refl, ap, sym, subst, arith, IsTrue}
use Rattle.std.specs.List.{slice_get}
use Rattle.std.specs.Prelude.{Some, false, nat_eq, slice_index}
use Rattle.std.proofs.lemmas.Bool.Decides.{nat_tests}
use Rattle.std.proofs.lemmas.List.{take_all}
use Rattle.std.proofs.lemmas.Option.{slice_get_past}
use Rattle.std.proofs.Math.Numerals.{add-one}
use Rattle.spec_lists.specs.Piece.{Piece, kept, updated, deleted, inserted, identity, old_len}
use Rattle.spec_lists.specs.Cells.{Cell, keep, update, delete, insert, keep_first, cells_of, pieces_in}
use Rattle.spec_lists.proofs.ChangeCounts.{changed_len-identity}
use Rattle.spec_lists.specs.Changes.{changed_len, after_changes}
use Rattle.gl_fourcolour.specs.Colours.{is_among, IsKth}
use Rattle.gl_delta.specs.Store.{colour_of}
use Rattle.gl_delta.specs.Pieces.{is_kept_piece, IsNextChanged}
use Rattle.gl_delta.proofs.Ranks.{counts_changed, ranked}

pub changed_few : (ps : List Piece) → changed_len ps ≤ length ps
changed_few [] = omega arith
changed_few (kept ∷ ps) = omega (arith, changed_few ps)
changed_few (updated v w ∷ ps) = omega (arith, changed_few ps)
changed_few (deleted v ∷ ps) = omega (arith, changed_few ps)
changed_few (inserted w ∷ ps) = omega (arith, changed_few ps)

-- no piece is changed exactly where all are kept
pub unchanged_is : (ps : List Piece) → changed_len ps ≡ 0 → ps ≡ identity (old_len ps)
unchanged_is [] e = refl
unchanged_is (kept ∷ ps) e = ap (λ qs. kept ∷ qs) (unchanged_is ps e)
unchanged_is (updated v w ∷ ps) e = absurd (omega (arith, e))
unchanged_is (deleted v ∷ ps) e = absurd (omega (arith, e))
unchanged_is (inserted w ∷ ps) e = absurd (omega (arith, e))

pub unchanged_from : (ps : List Piece) → ps ≡ identity (old_len ps) → changed_len ps ≡ 0
unchanged_from ps e = ap changed_len e ∙ changed_len-identity (old_len ps)

pub zero_from_test : (n : ℕ) → IsTrue (nat_eq n 0) → n ≡ 0
zero_from_test n e = grind (arith, nat_tests)

pub test_from_zero : (n : ℕ) → n ≡ 0 → IsTrue (nat_eq n 0)
test_from_zero n e = ap (λ k. nat_eq k 0) e

-- a place of the set of changed pieces
not_kept_colour : (p : Piece) → IsTrue (is_among 14 (colour_of p)) → is_kept_piece (Some p) ≡ false
unfolding is_among
not_kept_colour kept h = absurd (cc)
not_kept_colour (updated v w) h = refl
not_kept_colour (deleted v) h = refl
not_kept_colour (inserted w) h = refl

-- a changed piece and what stands before it
pub record ChangedAt (k : ℕ) (ps : List Piece) (at : ℕ) : Type 0 where
  pub within : at < length ps
  pub here : is_kept_piece (slice_get ps at) ≡ false
  pub before : changed_len (take at ps) ≡ k

pub changed_at : (k : ℕ) (cs : List ℕ) (ps : List Piece) (at : ℕ) → cs ≡ map colour_of ps → IsKth 14 k cs at → ChangedAt k ps at
changed_at k cs ps at e h =
    let P : List ℕ → Type 0 = λ xs. IsKth 14 k xs at in
    let g : IsKth 14 k (map colour_of ps) at = subst P e h in
    let within : at < length ps = omega (arith, g.in_range, same_length ps) in
    record {
      within = within;
      here = there ps at within g.among;
      before = sym (ranked 14 changed_len counts_changed (map colour_of ps) ps at refl) ∙ g.before;
    }
  where
    same_length : (qs : List Piece) → length (map colour_of qs) ≡ length qs
    same_length [] = refl
    same_length (q ∷ qs) = ap suc (same_length qs)

    there : (qs : List Piece) (i : ℕ) → i < length qs → IsTrue (is_among 14 (slice_index (map colour_of qs) i)) → is_kept_piece (slice_get qs i) ≡ false
    there [] i w t = absurd (omega (arith, w))
    there (q ∷ qs) zero w t = not_kept_colour q t
    there (q ∷ qs) (suc i) w t = there qs i (omega (arith, w)) t

-- a front with no changed piece
kept_prefix : (ps : List Piece) (n : ℕ) → n ≤ length ps → changed_len (take n ps) ≡ 0 → ps ≡ identity n ++ drop n ps
kept_prefix ps zero h e = refl
kept_prefix [] (suc n) h e = absurd (omega (arith, h))
kept_prefix (kept ∷ ps) (suc n) h e = ap (λ qs. kept ∷ qs) (kept_prefix ps n (omega (arith, h)) e)
kept_prefix (updated v w ∷ ps) (suc n) h e = absurd (omega (arith, e))
kept_prefix (deleted v ∷ ps) (suc n) h e = absurd (omega (arith, e))
kept_prefix (inserted w ∷ ps) (suc n) h e = absurd (omega (arith, e))

one_more : (p : Piece) (ps : List Piece) (n : ℕ) → is_kept_piece (Some p) ≡ false → changed_len (p ∷ take n ps) ≡ suc (changed_len (take n ps))
one_more kept ps n e = cc
one_more (updated v w) ps n e = refl
one_more (deleted v) ps n e = refl
one_more (inserted w) ps n e = refl

same_rest : (p : Piece) (qs rs : List Piece) → changed_len (p ∷ qs) ≡ changed_len (p ∷ rs) → changed_len qs ≡ changed_len rs
same_rest kept qs rs e = e
same_rest (updated v w) qs rs e = omega (arith, e)
same_rest (deleted v) qs rs e = omega (arith, e)
same_rest (inserted w) qs rs e = omega (arith, e)

kept_between : (qs : List Piece) (f n : ℕ) → f ≤ n → n ≤ length qs → changed_len (take n qs) ≡ changed_len (take f qs) → drop f qs ≡ identity (n - f) ++ drop n qs
kept_between qs zero n g l s = let all : n ≡ n - 0 = omega arith in kept_prefix qs n l s ∙ ap (λ k. identity k ++ drop n qs) all
kept_between [] (suc f) n g l s = absurd (omega (arith, g, l))
kept_between (q ∷ qs) (suc f) zero g l s = absurd (omega (arith, g))
kept_between (q ∷ qs) (suc f) (suc n) g l s =
    let less : n - f ≡ suc n - suc f = omega arith in
    kept_between qs f n (omega (arith, g)) (omega (arith, l)) (same_rest q (take n qs) (take f qs) s) ∙ ap (λ k. identity k ++ drop n qs) less

order_of : (qs : List Piece) (f n : ℕ) → n < length qs → is_kept_piece (slice_get qs n) ≡ false → changed_len (take n qs) ≡ changed_len (take f qs) → f ≤ n
order_of qs zero n w h s = omega arith
order_of [] (suc f) n w h s = absurd (omega (arith, w))
order_of (q ∷ qs) (suc f) zero w h s = absurd (omega (arith, s, one_more q qs f h))
order_of (q ∷ qs) (suc f) (suc n) w h s = omega (arith, order_of qs f n (omega (arith, w)) h (same_rest q (take n qs) (take f qs) s))

-- the first changed piece from a place on
pub next_found : (ps : List Piece) (from at k : ℕ) → ChangedAt k ps at → k ≡ changed_len (take from ps) → IsNextChanged ps from at
next_found ps from at k h e =
    let same : changed_len (take at ps) ≡ changed_len (take from ps) = h.before ∙ e in
    let order : from ≤ at = order_of ps from at h.within h.here same in
    record {
      order = order;
      within = omega (arith, h.within);
      keeps = kept_between ps from at order (omega (arith, h.within)) same;
      here = h.here;
    }

taken_few : (ps : List Piece) (n : ℕ) → changed_len (take n ps) ≤ changed_len ps
taken_few ps zero = omega arith
taken_few [] (suc n) = omega arith
taken_few (kept ∷ ps) (suc n) = taken_few ps n
taken_few (updated v w ∷ ps) (suc n) = omega (arith, taken_few ps n)
taken_few (deleted v ∷ ps) (suc n) = omega (arith, taken_few ps n)
taken_few (inserted w ∷ ps) (suc n) = omega (arith, taken_few ps n)

-- none stands from a place on
pub next_none : (ps : List Piece) (from at : ℕ) → from ≤ length ps → at ≡ length ps → changed_len ps ≤ changed_len (take from ps) → IsNextChanged ps from at
next_none ps from at h e few =
    let all : take at ps ≡ ps = take_all at ps (omega (arith, e)) in
    let same : changed_len (take at ps) ≡ changed_len (take from ps) = omega (arith, ap changed_len all, few, taken_few ps from) in
    record {
      order = omega (arith, h, e);
      within = omega (arith, e);
      keeps = kept_between ps from at (omega (arith, h, e)) (omega (arith, e)) same;
      here = ap is_kept_piece (slice_get_past ps at (omega (arith, e)));
    }

-- the cells of kept pieces and of a changed one
get_dropped : (ps : List Piece) (n : ℕ) → slice_get (drop n ps) 0 ≡ slice_get ps n
get_dropped ps zero = refl
get_dropped [] (suc n) = refl
get_dropped (p ∷ ps) (suc n) = get_dropped ps n

one_kept : (rest : List Piece) → is_kept_piece (slice_get rest 0) ≡ false → keep_first (cells_of rest) ≡ keep 1 ∷ cells_of rest
one_kept [] h = refl
one_kept (kept ∷ ps) h = cc
one_kept (updated v w ∷ ps) h = refl
one_kept (deleted v ∷ ps) h = refl
one_kept (inserted w ∷ ps) h = refl

cells_kept : (n : ℕ) (rest : List Piece) → is_kept_piece (slice_get rest 0) ≡ false → cells_of (identity (suc n) ++ rest) ≡ keep (suc n) ∷ cells_of rest
cells_kept zero rest h = one_kept rest h
cells_kept (suc n) rest h = ap keep_first (cells_kept n rest h)

pub cells_keep : (ps : List Piece) (from at : ℕ) → IsNextChanged ps from at → from < at → cells_of (drop from ps) ≡ keep (at - from) ∷ cells_of (drop at ps)
cells_keep ps from at h more =
    let n : at - from ≡ suc (at - from - 1) = omega (arith, more) in
    ap cells_of h.keeps
    ∙ (ap (λ k. cells_of (identity k ++ drop at ps)) n
    ∙ (cells_kept (at - from - 1) (drop at ps) (ap is_kept_piece (get_dropped ps at) ∙ h.here) ∙ ap (λ k. keep k ∷ cells_of (drop at ps)) (sym n)))

one_cell : (x : Piece) (qs : List Piece) (c : Cell) → is_kept_piece (Some x) ≡ false → cells_of (x ∷ []) ≡ c ∷ [] → cells_of (x ∷ qs) ≡ c ∷ cells_of qs
one_cell kept qs c h e = cc
one_cell (updated v w) qs c h e = ap (λ cs. cs ++ cells_of qs) e
one_cell (deleted v) qs c h e = ap (λ cs. cs ++ cells_of qs) e
one_cell (inserted w) qs c h e = ap (λ cs. cs ++ cells_of qs) e

pub cells_one : (ps : List Piece) (at : ℕ) (c : Cell) → at < length ps → is_kept_piece (slice_get ps at) ≡ false → ((x : Piece) → slice_get ps at ≡ Some x → cells_of (x ∷ []) ≡ c ∷ []) → cells_of (drop at ps) ≡ c ∷ cells_of (drop (at + 1) ps)
cells_one ps at c w h shows = there ps at w h shows ∙ ap (λ k. c ∷ cells_of (drop k ps)) (sym (add-one at))
  where
    there : (qs : List Piece) (i : ℕ) → i < length qs → is_kept_piece (slice_get qs i) ≡ false → ((x : Piece) → slice_get qs i ≡ Some x → cells_of (x ∷ []) ≡ c ∷ []) → cells_of (drop i qs) ≡ c ∷ cells_of (drop (suc i) qs)
    there [] i l g s = absurd (omega (arith, l))
    there (q ∷ qs) zero l g s = one_cell q qs c g (s q refl)
    there (q ∷ qs) (suc i) l g s = there qs i (omega (arith, l)) g s

pub cells_found : (ps : List Piece) (from at : ℕ) (c : Cell) → at ≡ from → from < length ps → IsNextChanged ps from at → ((x : Piece) → slice_get ps at ≡ Some x → cells_of (x ∷ []) ≡ c ∷ []) → cells_of (drop from ps) ≡ c ∷ cells_of (drop (from + 1) ps)
cells_found ps from at c e w h shows =
    let here : is_kept_piece (slice_get ps from) ≡ false = ap (λ n. is_kept_piece (slice_get ps n)) (sym e) ∙ h.here in
    cells_one ps from c w here (λ x got. shows x (ap (slice_get ps) e ∙ got))

-- a cell that is given leaves fewer
pub fewer : (cs ds : List Cell) (c : Cell) → cs ≡ c ∷ ds → length ds < length cs
fewer cs ds c e = omega (arith, ap length e)

-- what stands after a changed piece
pub after_changed : (ps : List Piece) (at k : ℕ) → ChangedAt k ps at → drop (at + 1) ps ≡ after_changes (suc k) ps
after_changed ps at k h = ap (λ n. drop n ps) (add-one at) ∙ there ps at k h.within h.here h.before
  where
    there : (qs : List Piece) (i n : ℕ) → i < length qs → is_kept_piece (slice_get qs i) ≡ false → changed_len (take i qs) ≡ n → drop (suc i) qs ≡ after_changes (suc n) qs
    there [] i n w g e = absurd (omega (arith, w))
    there (kept ∷ qs) zero n w g e = cc
    there (updated v x ∷ qs) zero n w g e = ap (λ m. after_changes m qs) e
    there (deleted v ∷ qs) zero n w g e = ap (λ m. after_changes m qs) e
    there (inserted x ∷ qs) zero n w g e = ap (λ m. after_changes m qs) e
    there (kept ∷ qs) (suc i) n w g e = there qs i n (omega (arith, w)) g e
    there (updated v x ∷ qs) (suc i) n w g e = there qs i (changed_len (take i qs)) (omega (arith, w)) g refl ∙ ap (λ m. after_changes m qs) e
    there (deleted v ∷ qs) (suc i) n w g e = there qs i (changed_len (take i qs)) (omega (arith, w)) g refl ∙ ap (λ m. after_changes m qs) e
    there (inserted x ∷ qs) (suc i) n w g e = there qs i (changed_len (take i qs)) (omega (arith, w)) g refl ∙ ap (λ m. after_changes m qs) e

-- the pieces of cells, one after another
abbrev pub pieces_of_cells : List Cell → List Piece
pieces_of_cells [] = []
pieces_of_cells (c ∷ cs) = pieces_in c ++ pieces_of_cells cs

first_kept : (cs : List Cell) → pieces_of_cells (keep_first cs) ≡ kept ∷ pieces_of_cells cs
first_kept [] = refl
first_kept (keep n ∷ cs) = refl
first_kept (update v w ∷ cs) = refl
first_kept (delete v ∷ cs) = refl
first_kept (insert w ∷ cs) = refl

pub pieces_again : (ps : List Piece) → pieces_of_cells (cells_of ps) ≡ ps
pieces_again [] = refl
pieces_again (kept ∷ ps) = first_kept (cells_of ps) ∙ ap (λ qs. kept ∷ qs) (pieces_again ps)
pieces_again (updated v w ∷ ps) = ap (λ qs. updated v w ∷ qs) (pieces_again ps)
pieces_again (deleted v ∷ ps) = ap (λ qs. deleted v ∷ qs) (pieces_again ps)
pieces_again (inserted w ∷ ps) = ap (λ qs. inserted w ∷ qs) (pieces_again ps)
