-- What became of an old element.
use Rattle.std.proofs.Common.{◌≡◌, ◌≢◌, ◌⊎◌, ◌∙◌, ℕ, zero, suc, ◌+◌, ◌<◌, ◌≤◌, List, [], ◌∷◌, length, take, drop, refl, ap, sym, subst, arith, inl, inr}
use Rattle.std.specs.List.{slice_get}
use Rattle.std.specs.Prelude.{Some, Bool, true, false, nat_lt, slice_index}
use Rattle.std.proofs.lemmas.Bool.Decides.{nat_tests}
use Rattle.std.proofs.lemmas.List.{take_all}
use Rattle.std.proofs.lemmas.Option.{same_Some, slice_get_within}
use Rattle.spec_value.specs.Tree.{Tree}
use Rattle.spec_lists.specs.Piece.{Piece, kept, updated, deleted, inserted, old_len, new_len}
use Rattle.spec_lists.specs.Sides.{Item, plain, changed, lone, olds}
use Rattle.gl_delta.specs.declared.mark.Side.TheVariants.{Old as OnOld}
use Rattle.gl_delta.specs.declared.cell.Old.TheVariants.{Kept}
use Rattle.gl_delta.specs.Old.{IsOldAt}
use Rattle.gl_delta.specs.Marks.{IsSelected, BeginsOn}
use Rattle.gl_delta.specs.Store.{colour_of, told_old, old_values, IsStored}
use Rattle.gl_fourcolour.specs.Colours.{Colours, count_among}
use Rattle.gl_delta.specs.Listed.{Listed}
use Rattle.gl_delta.proofs.Ranks.{colour_at, ranked, counts_with_old, counts_new}
use Rattle.gl_delta.proofs.Stores.{told_at, old_splits}

-- an old element that stands after j new ones
abbrev pub item_of : ℕ → Piece → Item
item_of j kept = plain j
item_of j (updated v w) = changed j v
item_of j (deleted v) = lone v
item_of j (inserted w) = plain j

same_item : (p y : Piece) (j : ℕ) → Some p ≡ Some y → Some (item_of j p) ≡ Some (item_of (j + 0) y)
same_item p y j e = let n : j ≡ j + 0 = omega arith in ap (λ z. Some (item_of j z)) (same_Some p y e) ∙ ap (λ k. Some (item_of k y)) n

olds_at : (ps : List Piece) (at j : ℕ) (x : Piece) → slice_get ps at ≡ Some x → BeginsOn OnOld (drop at ps) → slice_get (olds j ps) (old_len (take at ps)) ≡ Some (item_of (j + new_len (take at ps)) x)
olds_at [] at j x e on = cc
olds_at (kept ∷ ps) zero j x e on = same_item kept x j e
olds_at (updated v w ∷ ps) zero j x e on = same_item (updated v w) x j e
olds_at (deleted v ∷ ps) zero j x e on = same_item (deleted v) x j e
olds_at (inserted w ∷ ps) zero j x e on = absurd on
olds_at (kept ∷ ps) (suc at) j x e on = let n : suc j + new_len (take at ps) ≡ j + suc (new_len (take at ps)) = omega arith in olds_at ps at (suc j) x e on ∙ ap (λ k. Some (item_of k x)) n
olds_at (updated v w ∷ ps) (suc at) j x e on = let n : suc j + new_len (take at ps) ≡ j + suc (new_len (take at ps)) = omega arith in olds_at ps at (suc j) x e on ∙ ap (λ k. Some (item_of k x)) n
olds_at (deleted v ∷ ps) (suc at) j x e on = olds_at ps at j x e on
olds_at (inserted w ∷ ps) (suc at) j x e on = let n : suc j + new_len (take at ps) ≡ j + suc (new_len (take at ps)) = omega arith in olds_at ps at (suc j) x e on ∙ ap (λ k. Some (item_of k x)) n

-- an old element's piece isn't the end
pub old_within : (ps : List Piece) (position at : ℕ) → IsSelected OnOld ps position at → position < old_len ps → at < length ps
old_within ps position at s w = by_test (nat_lt at (length ps)) refl
  where
    by_test : (b : Bool) → nat_lt at (length ps) ≡ b → at < length ps
    by_test true e = grind (arith, nat_tests)
    by_test false e =
        let past : length ps ≤ at = grind (arith, nat_tests) in
        absurd (omega (arith, w, s.before, ap old_len (take_all at ps past)))

pub old_kept : (ps : List Piece) (position at j : ℕ) (x : Piece) → IsSelected OnOld ps position at → slice_get ps at ≡ Some x → colour_of x ≡ 0 → j ≡ new_len (take at ps) → IsOldAt (olds 0 ps) position (Kept j)
old_kept ps position at j x s got e f =
    let there = olds_at ps at 0 x got s.here in
    ap (slice_get (olds 0 ps)) (sym s.before) ∙ (there ∙ is_plain x e)
  where
    is_plain : (y : Piece) → colour_of y ≡ 0 → Some (item_of (0 + new_len (take at ps)) y) ≡ Some (plain j)
    is_plain kept g = let n : 0 + new_len (take at ps) ≡ j = omega (arith, f) in ap (λ k. Some (plain k)) n
    is_plain (updated v w) g = absurd (omega (arith, g))
    is_plain (deleted v) g = absurd (omega (arith, g))
    is_plain (inserted w) g = absurd (omega (arith, g))

pub old_value : (ps : List Piece) (position at : ℕ) (x : Piece) (v : Tree) → IsSelected OnOld ps position at → slice_get ps at ≡ Some x → BeginsOn OnOld (drop at ps) → told_old x ≡ v ∷ [] → (slice_get (olds 0 ps) position ≡ Some (lone v)) ⊎ ((j : ℕ) × (slice_get (olds 0 ps) position ≡ Some (changed j v)))
old_value ps position at x v s got on e =
    let there = olds_at ps at 0 x got on in
    is_told x e (ap (slice_get (olds 0 ps)) (sym s.before) ∙ there)
  where
    is_told : (y : Piece) → told_old y ≡ v ∷ [] → slice_get (olds 0 ps) position ≡ Some (item_of (0 + new_len (take at ps)) y) → (slice_get (olds 0 ps) position ≡ Some (lone v)) ⊎ ((j : ℕ) × (slice_get (olds 0 ps) position ≡ Some (changed j v)))
    is_told kept g h = cc
    is_told (updated x w) g h = let same : x ≡ v = cc in inr (0 + new_len (take at ps), h ∙ ap (λ y. Some (changed (0 + new_len (take at ps)) y)) same)
    is_told (deleted x) g h = let same : x ≡ v = cc in inl (h ∙ ap (λ y. Some (lone y)) same)
    is_told (inserted w) g h = cc

-- an old element that isn't kept tells its old value
pub tells_old : (ps : List Piece) (position at : ℕ) (x : Piece) → IsSelected OnOld ps position at → slice_get ps at ≡ Some x → colour_of x ≢ 0 → (v : Tree) × (told_old x ≡ v ∷ [])
tells_old ps position at x s got e = by_piece x e (on_old ps at x got s.here)
  where
    on_old : (qs : List Piece) (i : ℕ) (y : Piece) → slice_get qs i ≡ Some y → BeginsOn OnOld (drop i qs) → BeginsOn OnOld (y ∷ [])
    on_old [] i y g h = cc
    on_old (q ∷ qs) zero y g h = let same : q ≡ y = same_Some q y g in let P : Piece → Type 0 = λ z. BeginsOn OnOld (z ∷ []) in subst P same (one q h)
      where
        one : (z : Piece) → BeginsOn OnOld (z ∷ qs) → BeginsOn OnOld (z ∷ [])
        one kept k = tt
        one (updated v w) k = tt
        one (deleted v) k = tt
        one (inserted w) k = k
    on_old (q ∷ qs) (suc i) y g h = on_old qs i y g h

    by_piece : (y : Piece) → colour_of y ≢ 0 → BeginsOn OnOld (y ∷ []) → (v : Tree) × (told_old y ≡ v ∷ [])
    by_piece kept f h = absurd (f refl)
    by_piece (updated v w) f h = (v, refl)
    by_piece (deleted v) f h = (v, refl)
    by_piece (inserted w) f h = absurd h

-- the old value that is found at a rank
pub record OldThere (vs : List Tree) (ps : List Piece) (position i : ℕ) : Type 0 where
  pub value : Tree
  pub within : i < length vs
  pub found : slice_get vs i ≡ Some value
  pub item : (slice_get (olds 0 ps) position ≡ Some (lone value)) ⊎ ((j : ℕ) × (slice_get (olds 0 ps) position ≡ Some (changed j value)))

pub old_there : (cs : Colours) (vs ws : Listed) (room : ℕ) (ps : List Piece) (position at i : ℕ) → IsStored cs vs ws room ps → IsSelected OnOld ps position at → position < old_len ps → slice_index cs.colours at ≢ 0 → i ≡ count_among 6 (take at cs.colours) → OldThere vs.values ps position i
old_there cs vs ws room ps position at i s selected within changes rank =
    let x = colour_at cs.colours ps at s.colours_are (old_within ps position at selected within) in
    let t = tells_old ps position at x.0 selected x.1.0 (λ e. changes (x.1.1 ∙ e)) in
    let r : i ≡ length (old_values (take at ps)) = rank ∙ ranked 6 (λ qs. length (old_values qs)) counts_with_old cs.colours ps at s.colours_are in
    let found : slice_get vs.values i ≡ Some t.0 = ap (λ zs. slice_get zs i) s.olds_are ∙ (ap (slice_get (old_values ps)) r ∙ told_at old_values told_old old_splits ps at x.0 t.0 x.1.0 t.1) in
    record {
      value = t.0;
      within = slice_get_within vs.values i t.0 found;
      found = found;
      item = old_value ps position at x.0 t.0 selected x.1.0 selected.here t.1;
    }

pub old_kept_there : (cs : Colours) (vs ws : Listed) (room : ℕ) (ps : List Piece) (position at j mask : ℕ) → IsStored cs vs ws room ps → IsSelected OnOld ps position at → position < old_len ps → slice_index cs.colours at ≡ 0 → mask ≡ 11 → j ≡ count_among mask (take at cs.colours) → IsOldAt (olds 0 ps) position (Kept j)
old_kept_there cs vs ws room ps position at j mask s selected within plain_colour is rank =
    let x = colour_at cs.colours ps at s.colours_are (old_within ps position at selected within) in
    old_kept ps position at j x.0 selected x.1.0 (sym x.1.1 ∙ plain_colour) (rank ∙ (ap (λ m. count_among m (take at cs.colours)) is ∙ ranked 11 new_len counts_new cs.colours ps at s.colours_are))

pub item_is : (vs : List Tree) (ps : List Piece) (position i : ℕ) (v : Tree) → OldThere vs ps position i → slice_get vs i ≡ Some v → (slice_get (olds 0 ps) position ≡ Some (lone v)) ⊎ ((j : ℕ) × (slice_get (olds 0 ps) position ≡ Some (changed j v)))
item_is vs ps position i v o e =
    let same : o.value ≡ v = same_Some o.value v (sym o.found ∙ e) in
    let P : Tree → Type 0 = λ w. (slice_get (olds 0 ps) position ≡ Some (lone w)) ⊎ ((j : ℕ) × (slice_get (olds 0 ps) position ≡ Some (changed j w))) in
    subst P same o.item
