-- The first members of the classes of touched keys can be read.
use Rattle.std.proofs.Common.{◌≡◌, ◌∙◌, ℕ, suc, ◌<◌, ◌++◌, Bool, true, false, List, [], ◌∷◌, length, refl, ap, sym, subst, arith}
use Rattle.std.specs.Prelude.{Option, Some, None, slice_get}
use Rattle.std.specs.List.{AllByRecursion as Each}
use Rattle.std.specs.Cmp.{IsTotalOrder}
use Rattle.std.proofs.lemmas.Bool.{eq-eqb}
use Rattle.spec_sorting.specs.Tree.{Tree}
use Rattle.spec_sorting.specs.Delta.{Delta}
use Rattle.spec_sorting.specs.Piece.{old_len}
use Rattle.spec_sorting.specs.Pairs.{pairs}
use Rattle.spec_sorting.specs.Sides.{Item, plain, changed, lone, sides}
use Rattle.spec_sorting.specs.Leads.{LeadsFrom, applied}
use Rattle.spec_sorting.specs.Arrangement.{Comparison, arrangement}
use Rattle.spec_sorting.proofs.Arrangements.{arrangement_is, within_arrangement}
use Rattle.spec_sorting.proofs.DeltaLeads.{length-applied, length_from}
use Rattle.spec_sorting.proofs.SortedPositions.{Every}
use Rattle.spec_classes.specs.Classes.{Class, first_of, classes, keeps_members}
use Rattle.spec_classes.specs.Members.{joined, IsClass}
use Rattle.spec_classes.specs.Meetings.{Meeting, goes, comes, meets, of_key, meetings}
use Rattle.spec_classes.specs.Slots.{read_by, read_after, slots, slots_from}
use Rattle.spec_classes.specs.Told.{is_still}
use Rattle.spec_classes.specs.declared.OldClass.{OldClass}
use Rattle.spec_classes.specs.declared.NewClass.{NewClass}
use Rattle.spec_classes.proofs.Members.{are_classes}
use Rattle.spec_classes.proofs.PlainPairs.{plain_one, still_plain}
use Rattle.spec_classes.proofs.Slots.{old_ones, new_ones, all_old, all_new}
use Rattle.gl_unique.specs.Reading.{IsThere, CanRead}

-- the first members of classes are elements of their list
every_after : (P : ℕ → Type 0) (is js : List ℕ) → Every P (is ++ js) → Every P js
every_after P [] js e = e
every_after P (i ∷ is) js e = every_after P is js e.1

firsts_below : (compare : Comparison) (xs : List Tree) (n : ℕ) (cs : List Class) → Each (IsClass compare xs) cs
    → Every (λ i. i < n) (joined cs) → Each (λ c. first_of c < n) cs
firsts_below compare xs n [] each below = tt
firsts_below compare xs n ([] ∷ cs) each below = absurd (let e = each.0.are in cc)
firsts_below compare xs n ((i ∷ is) ∷ cs) each below =
    (below.0, firsts_below compare xs n cs each.1 (every_after (λ i. i < n) is (joined cs) below.1))

pub first_within : (compare : Comparison) → IsTotalOrder compare → (xs : List Tree) → Each (λ c. first_of c < length xs) (classes compare xs)
first_within compare o xs =
    let a = are_classes compare o xs in
    firsts_below compare xs (length xs) (classes compare xs) a.each
    (subst (Every (λ i. i < length xs)) (sym a.whole) (within_arrangement compare o xs (arrangement compare xs) (arrangement_is compare o xs)))

module _ (d : Delta) (xs : List Tree) (leads : LeadsFrom d xs) where
  abbrev ys : List Tree
  ys = applied d xs

  -- an old element can be read after the change
  read_there : (i : ℕ) → i < old_len d → IsThere d ys (read_after d i)
  read_there i within = by (slice_get (sides d).old i) refl
    where
      by : (t : Option Item) → slice_get (sides d).old i ≡ t → IsThere d ys (read_by i t)
      by None e = record { within = within; changed = λ j at. absurd (let f : None ≡ Some (plain j) = sym e ∙ at in cc) }
      by (Some (changed k v)) e = record { within = within; changed = λ j at. absurd (let f : Some (changed k v) ≡ Some (plain j) = sym e ∙ at in cc) }
      by (Some (lone v)) e = record { within = within; changed = λ j at. absurd (let f : Some (lone v) ≡ Some (plain j) = sym e ∙ at in cc) }
      by (Some (plain j)) e =
          let still : is_still (read_after d i) j ≡ true = ap (λ t. is_still (read_by i t) j) e ∙ eq-eqb j j refl in
          let one = plain_one d xs leads i j (sym (still_plain d i j) ∙ still) in
          omega (arith, one.new_within, length-applied d xs leads)

  old_first : (r : ℕ) (c : Class) (b : OldClass) → first_of c < length xs → Some (record { index = r; first = read_after d (first_of c) }) ≡ Some b → IsThere d ys b.first
  old_first r c b within e =
      let same : read_after d (first_of c) ≡ b.first = cc in
      subst (IsThere d ys) same (read_there (first_of c) (omega (arith, within, length_from d xs leads)))

  new_first : (s : ℕ) (e : Class) (b : NewClass) → first_of e < length ys → Some (record { index = s; first = first_of e }) ≡ Some b → b.first < length ys
  new_first s e b within is = let same : first_of e ≡ b.first = cc in subst (λ j. j < length ys) same within

  none_some : {C : Type 0} (c : C) → None ≡ Some c → ⊥
  none_some c e = absurd cc

  slots_read : (r s : ℕ) (ms : List Meeting) → Each (λ c. first_of c < length xs) (old_ones ms) → Each (λ e. first_of e < length ys) (new_ones ms)
      → Each (CanRead d ys) (slots_from d r s ms)
  slots_read r s [] old new = tt
  slots_read r s (goes c ∷ ms) old new = (
    record { old = λ b e. old_first r c b old.0 e; new = λ b e. absurd (none_some b e) },
    slots_read (suc r) s ms old.1 new,
  )
  slots_read r s (comes e ∷ ms) old new = (
    record { old = λ b is. absurd (none_some b is); new = λ b is. new_first s e b new.0 is },
    slots_read r (suc s) ms old new.1,
  )
  slots_read r s (meets c e ∷ ms) old new = by (keeps_members (pairs d) c e) refl (slots_read (suc r) (suc s) ms old.1 new.1)
    where
      by : (t : Bool) → keeps_members (pairs d) c e ≡ t → Each (CanRead d ys) (slots_from d (suc r) (suc s) ms) → Each (CanRead d ys) (slots_from d r s (meets c e ∷ ms))
      by true is later = rw is later
      by false is later = rw is (record { old = λ b f. old_first r c b old.0 f; new = λ b f. new_first s e b new.0 f }, later)

  pub all_read : (compare : Comparison) → IsTotalOrder compare → Each (CanRead d ys) (slots compare xs d)
  all_read compare o =
      let cs = classes compare xs in
      let es = classes compare ys in
      let key = of_key compare xs ys in
      slots_read 0 0 (meetings compare xs ys)
      (subst (Each (λ c. first_of c < length xs)) (sym (all_old key cs es)) (first_within compare o xs))
      (subst (Each (λ e. first_of e < length ys)) (sym (all_new key cs es)) (first_within compare o ys))
