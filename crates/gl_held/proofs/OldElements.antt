-- What an element of a delta's old list is, by what the delta tells of it: an element of the new list, or a value.
use Rattle.std.proofs.Common.{◌≡◌, ◌∙◌, ℕ, zero, suc, ◌+◌, ◌<◌, List, [], ◌∷◌, map, refl, ap, sym, arith, inl, inr, Bor}
use Rattle.std.specs.List.{slice_get}
use Rattle.std.specs.Prelude.{Some}
use Rattle.std.proofs.lemmas.Option.{same_Some}
use Rattle.spec_states.specs.Tree.{Tree}
use Rattle.spec_lists.specs.Piece.{Piece, kept, updated, deleted, inserted, inverted, new_len}
use Rattle.spec_lists.specs.Sides.{Item, plain, changed, lone, olds}
use Rattle.spec_lists.specs.Leads.{LeadsFrom, LeadsTo, applied, undone}
use Rattle.gl_delta.specs.Old.{IsOldAt}
use Rattle.gl_delta.specs.declared.cell.Old.TheVariants.{Kept, Value}

-- the element of the old list at a position is that of the new list at another one, among those after the first i
record Stays (ps : List Piece) (ys : List Tree) (i position later : ℕ) : Type 0 where
  pub after : ℕ
  pub is : later ≡ i + after
  pub within : after < new_len ps
  pub same : slice_get (applied (map inverted ps) ys) position ≡ slice_get ys after

abbrev plain_is : Item → ℕ
plain_is (plain j) = j
plain_is (changed j v) = 0
plain_is (lone v) = 0

one_more : (ps : List Piece) (ys : List Tree) (y : Tree) (p : Piece) (i position later : ℕ) → Stays ps ys (suc i) position later
    → new_len (p ∷ ps) ≡ suc (new_len ps)
    → (at : ℕ) → slice_get (applied (map inverted (p ∷ ps)) (y ∷ ys)) at ≡ slice_get (applied (map inverted ps) ys) position
    → Stays (p ∷ ps) (y ∷ ys) i at later
one_more ps ys y p i position later s longer at e =
    record { after = suc s.after; is = omega (arith, s.is); within = omega (arith, s.within, longer); same = e ∙ s.same }

stays : (ps : List Piece) (ys : List Tree) (i position later : ℕ) → LeadsFrom (map inverted ps) ys
    → slice_get (olds i ps) position ≡ Some (plain later) → Stays ps ys i position later
stays [] ys i position later leads e = absurd cc
stays (kept ∷ ps) [] i position later leads e = absurd leads
stays (kept ∷ ps) (y ∷ ys) i zero later leads e =
    let same : i ≡ later = ap plain_is (same_Some (plain i) (plain later) e) in
    record { after = 0; is = omega (arith, same); within = omega arith; same = refl }
stays (kept ∷ ps) (y ∷ ys) i (suc position) later leads e =
    one_more ps ys y kept i position later (stays ps ys (suc i) position later leads e) refl (suc position) refl
stays (updated v w ∷ ps) [] i position later leads e = absurd leads
stays (updated v w ∷ ps) (y ∷ ys) i zero later leads e = absurd cc
stays (updated v w ∷ ps) (y ∷ ys) i (suc position) later leads e =
    one_more ps ys y (updated v w) i position later (stays ps ys (suc i) position later leads.1 e) refl (suc position) refl
stays (deleted v ∷ ps) ys i zero later leads e = absurd cc
stays (deleted v ∷ ps) ys i (suc position) later leads e =
    let s = stays ps ys i position later leads e in
    record { after = s.after; is = s.is; within = s.within; same = s.same }
stays (inserted w ∷ ps) [] i position later leads e = absurd leads
stays (inserted w ∷ ps) (y ∷ ys) i position later leads e =
    one_more ps ys y (inserted w) i position later (stays ps ys (suc i) position later leads.1 e) refl position refl

-- an element that was kept is one of the new list
pub kept_later : (d : List Piece) (ys : List Tree) (position later : ℕ) → LeadsTo d ys
    → IsOldAt (olds 0 d) position (Kept later)
    → slice_get ys later ≡ slice_get (undone d ys) position
kept_later d ys position later leads e =
    let s = stays d ys 0 position later leads e in
    let n : later ≡ s.after = omega (arith, s.is) in ap (slice_get ys) n ∙ sym s.same

within_new : (ps : List Piece) (i position later : ℕ) → slice_get (olds i ps) position ≡ Some (plain later) → later < i + new_len ps
within_new [] i position later e = absurd cc
within_new (kept ∷ ps) i zero later e =
    let same : i ≡ later = ap plain_is (same_Some (plain i) (plain later) e) in omega (arith, same)
within_new (kept ∷ ps) i (suc position) later e = omega (arith, within_new ps (suc i) position later e)
within_new (updated v w ∷ ps) i zero later e = absurd cc
within_new (updated v w ∷ ps) i (suc position) later e = omega (arith, within_new ps (suc i) position later e)
within_new (deleted v ∷ ps) i zero later e = absurd cc
within_new (deleted v ∷ ps) i (suc position) later e = within_new ps i position later e
within_new (inserted w ∷ ps) i position later e = omega (arith, within_new ps (suc i) position later e)

pub kept_within : (d : List Piece) (position later : ℕ) → IsOldAt (olds 0 d) position (Kept later) → later < new_len d
kept_within d position later e = omega (arith, within_new d 0 position later e)

abbrev own_of : Tree → Item → Tree
own_of d (plain j) = d
own_of d (changed j v) = v
own_of d (lone v) = v

-- an item that tells a value
abbrev Tells : Item → Tree → Type 0
Tells (plain j) v = ⊥
Tells (changed j w) v = w ≡ v
Tells (lone w) v = w ≡ v

told : (ps : List Piece) (ys : List Tree) (i position : ℕ) (x : Item) (v : Tree) → LeadsFrom (map inverted ps) ys
    → slice_get (olds i ps) position ≡ Some x → Tells x v
    → slice_get (applied (map inverted ps) ys) position ≡ Some v
told [] ys i position x v leads e t = absurd cc
told (kept ∷ ps) [] i position x v leads e t = absurd leads
told (kept ∷ ps) (y ∷ ys) i zero (plain j) v leads e t = absurd t
told (kept ∷ ps) (y ∷ ys) i zero (changed j w) v leads e t = absurd cc
told (kept ∷ ps) (y ∷ ys) i zero (lone w) v leads e t = absurd cc
told (kept ∷ ps) (y ∷ ys) i (suc position) x v leads e t = told ps ys (suc i) position x v leads e t
told (updated u w ∷ ps) [] i position x v leads e t = absurd leads
told (updated u w ∷ ps) (y ∷ ys) i zero (plain j) v leads e t = absurd t
told (updated u w ∷ ps) (y ∷ ys) i zero (changed j z) v leads e t =
    ap Some (ap (own_of u) (same_Some (changed i u) (changed j z) e) ∙ t)
told (updated u w ∷ ps) (y ∷ ys) i zero (lone z) v leads e t = absurd cc
told (updated u w ∷ ps) (y ∷ ys) i (suc position) x v leads e t = told ps ys (suc i) position x v leads.1 e t
told (deleted u ∷ ps) ys i zero (plain j) v leads e t = absurd t
told (deleted u ∷ ps) ys i zero (changed j z) v leads e t = absurd cc
told (deleted u ∷ ps) ys i zero (lone z) v leads e t = ap Some (ap (own_of u) (same_Some (lone u) (lone z) e) ∙ t)
told (deleted u ∷ ps) ys i (suc position) x v leads e t = told ps ys i position x v leads e t
told (inserted w ∷ ps) [] i position x v leads e t = absurd leads
told (inserted w ∷ ps) (y ∷ ys) i position x v leads e t = told ps ys (suc i) position x v leads.1 e t

-- and of one that wasn't the value is told
pub value_there : (d : List Piece) (ys : List Tree) (position : ℕ) (v : Bor Tree) → LeadsTo d ys
    → IsOldAt (olds 0 d) position (Value v)
    → Some v.now ≡ slice_get (undone d ys) position
value_there d ys position v leads (inl e) = sym (told d ys 0 position (lone v.now) v.now leads e refl)
value_there d ys position v leads (inr e) = sym (told d ys 0 position (changed e.0 v.now) v.now leads e.1 refl)
