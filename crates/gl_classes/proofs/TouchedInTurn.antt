-- The touched keys of a change are told in turn.
use Rattle.std.proofs.Common.{◌≡◌, ◌∙◌, ℕ, suc, ◌+◌, ◌≤◌, Bool, true, false, List, [], ◌∷◌, length, refl, ap, subst, arith}
use Rattle.std.specs.Prelude.{Option, Some, None}
use Rattle.spec_sorting.specs.Tree.{Tree}
use Rattle.spec_sorting.specs.Pairs.{pairs}
use Rattle.spec_sorting.specs.Delta.{Delta}
use Rattle.spec_sorting.specs.Leads.{applied}
use Rattle.spec_sorting.specs.Arrangement.{Comparison}
use Rattle.spec_classes.specs.Classes.{classes, keeps_members}
use Rattle.spec_classes.specs.declared.OldClass.{OldClass}
use Rattle.spec_classes.specs.declared.NewClass.{NewClass}
use Rattle.spec_classes.specs.declared.Slot.{Slot}
use Rattle.spec_classes.specs.Meetings.{Meeting, goes, comes, meets, of_key, meetings}
use Rattle.spec_classes.specs.Slots.{old_class, new_class, slots, slots_from, kept_before, after_one}
use Rattle.spec_classes.proofs.Slots.{old_ones, new_ones, all_old, all_new}
use Rattle.gl_classes.specs.InTurn.{AreInTurn}

none_some : {C : Type 0} (c : C) → None ≡ Some c → ⊥
none_some c e = absurd cc

some_none : {C : Type 0} (c : C) → Some c ≡ None → ⊥
some_none c e = absurd cc

old_index : (b c : OldClass) → Some b ≡ Some c → c.index ≡ b.index
old_index b c e = cc

new_index : (b c : NewClass) → Some b ≡ Some c → c.index ≡ b.index
new_index b c e = cc

-- what stands from these places on, which have other names
at_places : (m n a b x y : ℕ) (ts : List Slot) → x ≡ a → y ≡ b → AreInTurn m n x y ts → AreInTurn m n a b ts
at_places m n a b x y ts e f h = subst (λ k. AreInTurn m n k b ts) e (subst (λ k. AreInTurn m n x k ts) f h)

in_turn : (d : Delta) (m n x y r s : ℕ) (ms : List Meeting) → x ≤ r → r + y ≡ s + x → m ≡ r + length (old_ones ms) → n ≡ s + length (new_ones ms)
    → AreInTurn m n x y (slots_from d r s ms)
in_turn d m n x y r s [] low same old new = (omega (arith, low, old), omega (arith, same, old, new))
in_turn d m n x y r s (goes c ∷ ms) low same old new = (
  record {
    some = λ e f. some_none _ e;
    old_at = λ b e. old_index _ b e ∙ omega (arith, low);
    new_at = λ b e. absurd (none_some b e);
  },
  at_places m n _ _ (suc r) s (slots_from d (suc r) s ms) (omega (arith, low)) (omega (arith, low, same))
      (in_turn d m n (suc r) s (suc r) s ms (omega arith) (omega arith) (omega (arith, old)) new),
)
in_turn d m n x y r s (comes e ∷ ms) low same old new = (
  record {
    some = λ a b. some_none _ b;
    old_at = λ b a. absurd (none_some b a);
    new_at = λ b a. new_index _ b a ∙ omega (arith, low, same);
  },
  at_places m n _ _ r (suc s) (slots_from d r (suc s) ms) (omega (arith, low, same)) (omega (arith, low, same))
      (in_turn d m n r (suc s) r (suc s) ms (omega arith) (omega arith) old (omega (arith, new))),
)
in_turn d m n x y r s (meets c e ∷ ms) low same old new =
    by (keeps_members (pairs d) c e) refl
    (in_turn d m n x y (suc r) (suc s) ms (omega (arith, low)) (omega (arith, same)) (omega (arith, old)) (omega (arith, new)))
    (in_turn d m n (suc r) (suc s) (suc r) (suc s) ms (omega arith) (omega arith) (omega (arith, old)) (omega (arith, new)))
  where
    touched : AreInTurn m n (suc r) (suc s) (slots_from d (suc r) (suc s) ms)
        → AreInTurn m n x y (record { old = old_class d r c; new = new_class s e } ∷ slots_from d (suc r) (suc s) ms)
    touched next = (
      record {
        some = λ a b. some_none _ b;
        old_at = λ b a. old_index _ b a ∙ omega (arith, low);
        new_at = λ b a. new_index _ b a ∙ omega (arith, low, same);
      },
      at_places m n _ _ (suc r) (suc s) (slots_from d (suc r) (suc s) ms) (omega (arith, low)) (omega (arith, low, same)) next,
    )

    by : (t : Bool) → keeps_members (pairs d) c e ≡ t → AreInTurn m n x y (slots_from d (suc r) (suc s) ms)
        → AreInTurn m n (suc r) (suc s) (slots_from d (suc r) (suc s) ms) → AreInTurn m n x y (slots_from d r s (meets c e ∷ ms))
    by true is kept_on next = rw is kept_on
    by false is kept_on next = rw is (touched next)

-- they follow one another from the first class of either list on, and after the last one as many are left in both
pub slots_in_turn : (compare : Comparison) (xs : List Tree) (d : Delta)
    → AreInTurn (length (classes compare xs)) (length (classes compare (applied d xs))) 0 0 (slots compare xs d)
slots_in_turn compare xs d =
    let ys = applied d xs in
    let cs = classes compare xs in
    let es = classes compare ys in
    in_turn d (length cs) (length es) 0 0 0 0 (meetings compare xs ys) (omega arith) (omega arith)
    (omega (arith, ap length (all_old (of_key compare xs ys) cs es))) (omega (arith, ap length (all_new (of_key compare xs ys) cs es)))

least : {C : Type 0} (at : ℕ) (class : Option C) → at ≤ after_one at class
least at None = omega arith
least at (Some c) = omega arith

-- no more classes are told than there are
pub in_lists : (m n x y : ℕ) (ts : List Slot) → AreInTurn m n x y ts → (x ≤ m) × (y ≤ n)
in_lists m n x y [] h = let low = h.0 in let same = h.1 in (low, omega (arith, low, same))
in_lists m n x y (t ∷ ts) h =
    let k = kept_before x y t in
    let later = in_lists m n (after_one (x + k) t.old) (after_one (y + k) t.new) ts h.1 in
    let old = later.0 in
    let new = later.1 in
    (omega (arith, least (x + k) t.old, old), omega (arith, least (y + k) t.new, new))

-- nor are more kept before a touched key
pub kept_in_lists : (m n x y : ℕ) (t : Slot) (ts : List Slot) → AreInTurn m n x y (t ∷ ts) → (x + kept_before x y t ≤ m) × (y + kept_before x y t ≤ n)
kept_in_lists m n x y t ts h =
    let k = kept_before x y t in
    let later = in_lists m n (after_one (x + k) t.old) (after_one (y + k) t.new) ts h.1 in
    let old = later.0 in
    let new = later.1 in
    (omega (arith, least (x + k) t.old, old), omega (arith, least (y + k) t.new, new))
