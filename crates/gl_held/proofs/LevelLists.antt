-- Levels as lists: those before a number, their lengths, and what they undo.
use Rattle.std.proofs.Common.{◌≡◌, ◌∙◌, ℕ, zero, suc, ◌+◌, ◌-◌, ◌<◌, ◌≤◌, List, [], ◌∷◌, ◌++◌, length, map, take, refl, ap, sym, subst, arith}
use Rattle.std.specs.List.{slice_get}
use Rattle.std.specs.Prelude.{reverse, Some, None, Option, IfSome}
use Rattle.std.proofs.lemmas.Option.{same_Some}
use Rattle.std.proofs.lemmas.List.{reverse-append}
use Rattle.std.proofs.lemmas.Grind.{reverse_onto}
use Rattle.spec_states.specs.Tree.{Tree}
use Rattle.spec_lists.specs.Piece.{Piece, inverted, old_len, new_len}
use Rattle.spec_lists.specs.Delta.{Delta}
use Rattle.spec_lists.specs.Leads.{LeadsTo, undone}
use Rattle.spec_lists.proofs.Normal.{inverted-inverted}
use Rattle.spec_lists.proofs.DeltaLeads.{length-applied}
use Rattle.spec_states.specs.Shown.{undone_all}
use Rattle.spec_states.specs.Laws.{LedTo}
use Rattle.gl_held.specs.Levels.{AreJoined, BeginsWith, held_len, IsShown}

pub reverse_push : {X : Type 0} (xs : List X) (x : X) → reverse (xs ++ x ∷ []) ≡ x ∷ reverse xs
reverse_push xs x = reverse-append xs (x ∷ [])

-- ---- the level of a number, and those within it

pub undone_more : (levels : List Delta) (n : ℕ) (level : Delta) (ys : List Tree) → slice_get levels n ≡ Some level
    → undone_all (take (suc n) levels) ys ≡ undone level (undone_all (take n levels) ys)
undone_more [] n level ys e = absurd cc
undone_more (l ∷ ls) zero level ys e = ap (λ d. undone d ys) (same_Some l level e)
undone_more (l ∷ ls) (suc n) level ys e = undone_more ls n level (undone l ys) e

pub led_more : (levels : List Delta) (n : ℕ) (level : Delta) (ys : List Tree) → slice_get levels n ≡ Some level
    → LedTo levels ys → LeadsTo level (undone_all (take n levels) ys)
led_more [] n level ys e h = absurd cc
led_more (l ∷ ls) zero level ys e h = let P : Delta → Type 0 = λ d. LeadsTo d ys in subst P (same_Some l level e) h.0
led_more (l ∷ ls) (suc n) level ys e h = led_more ls n level (undone l ys) e h.2

pub held_more : (levels : List Delta) (n : ℕ) (level : Delta) → slice_get levels n ≡ Some level
    → held_len (take (suc n) levels) ≡ Some (old_len level)
held_more [] n level e = absurd cc
held_more (l ∷ ls) zero level e = ap (λ d. Some (old_len d)) (same_Some l level e)
held_more (l ∷ []) (suc n) level e = absurd cc
held_more (l ∷ m ∷ ms) (suc n) level e = held_more (m ∷ ms) n level e

joined_more : (levels : List Delta) (n : ℕ) (level : Delta) (len : ℕ) → AreJoined levels → slice_get levels n ≡ Some level
    → held_len (take n levels) ≡ Some len → len ≡ new_len level
joined_more [] n level len h e f = absurd cc
joined_more (l ∷ ls) zero level len h e f = absurd cc
joined_more (l ∷ []) (suc n) level len h e f = absurd cc
joined_more (l ∷ m ∷ ms) (suc zero) level len h e f = sym (same_Some (old_len l) len f) ∙ (h.0 ∙ ap new_len (same_Some m level e))
joined_more (l ∷ m ∷ ms) (suc (suc n)) level len h e f = joined_more (m ∷ ms) (suc n) level len h.1 e f

pub shown_more : (levels : List Delta) (n : ℕ) (level : Delta) (position : ℕ) → AreJoined levels
    → slice_get levels n ≡ Some level → position < new_len level → IsShown position (take n levels)
shown_more levels n level position h e low len f = omega (arith, joined_more levels n level len h e f, low)

-- ---- how many elements are shown

pub held_last : (levels : List Delta) (level : Delta) → held_len (levels ++ level ∷ []) ≡ Some (old_len level)
held_last [] level = refl
held_last (l ∷ []) level = refl
held_last (l ∷ m ∷ ms) level = held_last (m ∷ ms) level

some_none : {X : Type 0} (x : X) → Some x ≡ None → ⊥
some_none x e = absurd cc

pub held_none : (levels : List Delta) → held_len levels ≡ None → levels ≡ []
held_none [] e = refl
held_none (l ∷ []) e = absurd (some_none (old_len l) e)
held_none (l ∷ m ∷ ms) e = absurd (nil_not m ms (held_none (m ∷ ms) e))
  where
    nil_not : (m : Delta) (ms : List Delta) → m ∷ ms ≡ [] → ⊥
    nil_not m ms e = absurd cc

pub length_undone : (d : Delta) (ys : List Tree) → LeadsTo d ys → length (undone d ys) ≡ old_len d
length_undone d ys h = length-applied (map inverted d) ys h ∙ ap old_len (inverted-inverted d)

pub held_is : (levels : List Delta) (len : ℕ) (ys : List Tree) → LedTo levels ys → held_len levels ≡ Some len
    → len ≡ length (undone_all levels ys)
held_is [] len ys h e = absurd cc
held_is (l ∷ []) len ys h e = sym (same_Some (old_len l) len e) ∙ sym (length_undone l ys h.0)
held_is (l ∷ m ∷ ms) len ys h e = held_is (m ∷ ms) len (undone l ys) h.2 e

pub held_if : (levels : List Delta) (r : Option ℕ) (ys : List Tree) → r ≡ held_len levels → LedTo levels ys
    → IfSome r (λ len. len ≡ length (undone_all levels ys))
held_if levels None ys e h = tt
held_if levels (Some len) ys e h = held_is levels len ys h (sym e)

-- the outermost level stands first where the innermost stands last
pub held_first : (items : List Delta) (level : Delta) → slice_get items 0 ≡ Some level
    → held_len (reverse items) ≡ Some (old_len level)
held_first [] level e = absurd cc
held_first (x ∷ xs) level e =
    ap held_len (reverse_onto xs x []) ∙ (held_last (reverse xs) x ∙ ap (λ d. Some (old_len d)) (same_Some x level e))

-- ---- the two innermost levels

pub first_of : (levels rest : List Delta) (level first : Delta) → slice_get levels 0 ≡ Some level → levels ≡ first ∷ rest
    → level ≡ first
first_of levels rest level first e f = same_Some level first (sym e ∙ ap (λ ls. slice_get ls 0) f)

pub second_of : (levels rest : List Delta) (level first second : Delta) → slice_get levels 1 ≡ Some level
    → levels ≡ first ∷ second ∷ rest → level ≡ second
second_of levels rest level first second e f = same_Some level second (sym e ∙ ap (λ ls. slice_get ls 1) f)

pub joined_first : (levels : List Delta) (level outer : Delta) → AreJoined levels → slice_get levels 0 ≡ Some level
    → slice_get levels 1 ≡ Some outer → old_len level ≡ new_len outer
joined_first [] level outer h e f = absurd cc
joined_first (l ∷ []) level outer h e f = absurd cc
joined_first (l ∷ m ∷ ms) level outer h e f =
    ap old_len (sym (same_Some l level e)) ∙ (h.0 ∙ ap new_len (same_Some m outer f))
