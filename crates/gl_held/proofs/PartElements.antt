-- What became of an element in a first part and then in those after it.
use Rattle.std.proofs.Common.{◌≡◌, ◌∙◌, ◌⊎◌, ℕ, zero, suc, ◌<◌, List, [], ◌∷◌, map, drop, length, ap, sym, subst, inl, inr, Bor}
use Rattle.std.specs.List.{slice_get}
use Rattle.std.specs.Prelude.{Some, option_map, slice_index_or}
use Rattle.std.proofs.lemmas.Option.{same_Some, slice_get-map}
use Rattle.spec_states.specs.Tree.{Tree}
use Rattle.spec_lists.specs.Piece.{old_len, new_len}
use Rattle.spec_lists.specs.Sides.{Item, plain, changed, lone, Sides, sides, olds, carry, through}
use Rattle.spec_lists.specs.Delta.{Delta, composed}
use Rattle.spec_lists.proofs.Composition.{sides_composed}
use Rattle.gl_delta.specs.Old.{IsOldAt}
use Rattle.gl_delta.specs.declared.cell.Old.{Old}
use Rattle.gl_delta.specs.declared.cell.Old.TheVariants.{Kept, Value}
use Rattle.gl_held.specs.Parts.{LeadOn, together}
use Rattle.gl_held.proofs.PartLists.{together_from, lead_from}

index_is : (items : List Item) (j : ℕ) (d x : Item) → slice_get items j ≡ Some x → slice_index_or items j d ≡ x
index_is [] j d x e = absurd cc
index_is (y ∷ ys) zero d x e = same_Some y x e
index_is (y ∷ ys) (suc j) d x e = index_is ys j d x e

olds_composed : (p q : Delta) → new_len p ≡ old_len q → olds 0 (composed p q) ≡ map (through (olds 0 q)) (olds 0 p)
olds_composed p q fits = ap (λ (s : Sides). s.old) (sides_composed p q fits)

item_of : (p q : Delta) (at : ℕ) (x : Item) → new_len p ≡ old_len q → slice_get (olds 0 p) at ≡ Some x
    → slice_get (olds 0 (composed p q)) at ≡ Some (through (olds 0 q) x)
item_of p q at x fits e =
    ap (λ items. slice_get items at) (olds_composed p q fits)
    ∙ (slice_get-map (through (olds 0 q)) (olds 0 p) at ∙ ap (option_map (through (olds 0 q))) e)

kept_item : (p q : Delta) (at later : ℕ) (x : Item) → new_len p ≡ old_len q → slice_get (olds 0 p) at ≡ Some (plain later)
    → slice_get (olds 0 q) later ≡ Some x → slice_get (olds 0 (composed p q)) at ≡ Some x
kept_item p q at later x fits e f = item_of p q at (plain later) fits e ∙ ap Some (index_is (olds 0 q) later (plain later) x f)

-- a kept one is what the others make of it
kept_on : (p q : Delta) (at later : ℕ) (r : Old) → new_len p ≡ old_len q → IsOldAt (olds 0 p) at (Kept later)
    → IsOldAt (olds 0 q) later r → IsOldAt (olds 0 (composed p q)) at r
kept_on p q at later (Kept k) fits e f = kept_item p q at later (plain k) fits e f
kept_on p q at later (Value v) fits e (inl f) = inl (kept_item p q at later (lone v.now) fits e f)
kept_on p q at later (Value v) fits e (inr f) = inr (f.0, kept_item p q at later (changed f.0 v.now) fits e f.1)

carried : (items : List Item) (at : ℕ) (v : Bor Tree) (z : Item) → slice_get items at ≡ Some (carry v.now z) → IsOldAt items at (Value v)
carried items at v (plain k) e = inr (k, e)
carried items at v (changed k x) e = inr (k, e)
carried items at v (lone x) e = inl e

-- and one that is updated or deleted has the value that it had
told_on : (p q : Delta) (at : ℕ) (v : Bor Tree) → new_len p ≡ old_len q → IsOldAt (olds 0 p) at (Value v)
    → IsOldAt (olds 0 (composed p q)) at (Value v)
told_on p q at v fits (inl e) = inl (item_of p q at (lone v.now) fits e)
told_on p q at v fits (inr e) =
    carried (olds 0 (composed p q)) at v (slice_index_or (olds 0 q) e.0 (plain e.0)) (item_of p q at (changed e.0 v.now) fits e.1)

-- the same among the parts from a place on
pub kept_from : (parts : List Delta) (n : ℕ) (p : Delta) (at later : ℕ) (r : Old) → LeadOn parts → slice_get parts n ≡ Some p
    → suc n < length parts → IsOldAt (olds 0 p) at (Kept later)
    → IsOldAt (olds 0 (together (drop (suc n) parts))) later r → IsOldAt (olds 0 (together (drop n parts))) at r
kept_from parts n p at later r h got more e f =
    let P : Delta → Type 0 = λ d. IsOldAt (olds 0 d) at r in
    subst P (sym (together_from parts n p got more)) (kept_on p (together (drop (suc n) parts)) at later r (lead_from parts n p h got more) e f)

pub told_from : (parts : List Delta) (n : ℕ) (p : Delta) (at : ℕ) (v : Bor Tree) → LeadOn parts → slice_get parts n ≡ Some p
    → suc n < length parts → IsOldAt (olds 0 p) at (Value v) → IsOldAt (olds 0 (together (drop n parts))) at (Value v)
told_from parts n p at v h got more e =
    let P : Delta → Type 0 = λ d. IsOldAt (olds 0 d) at (Value v) in
    subst P (sym (together_from parts n p got more)) (told_on p (together (drop (suc n) parts)) at v (lead_from parts n p h got more) e)
