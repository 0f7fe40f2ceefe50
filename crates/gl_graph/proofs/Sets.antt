-- Nodes of which one keeps something else.
use Rattle.std.proofs.Common.{◌≡◌, ◌≢◌, ◌∙◌, ℕ, zero, suc, ◌<◌, Bool, true, false, List, [], ◌∷◌, length, take, refl, ap, sym, subst, eqb}
use Rattle.std.specs.Prelude.{Option, Some, None, slice_get, slice_set, slice_index}
use Rattle.std.specs.List.{Contains}
use Rattle.std.proofs.lemmas.Bool.{eqb-true, eqb-false}
use Rattle.spec_states.specs.State.{inputs}
use Rattle.gl_graph.specs.declared.keeps.Keeps.{Keeps}
use Rattle.gl_graph.specs.declared.node.Node.{Node}
use Rattle.gl_graph.specs.declared.keeps.KeepsUndo.{KeepsUndo}
use Rattle.gl_graph.specs.Nodes.{own_of, numbers, OnInput, AreAmong, IsPlaced, IsInTurn, AreInTurn}
use Rattle.gl_graph.specs.Room.{IsNoMore}
use Rattle.gl_graph.specs.Undos.{contents, room_of}
use Rattle.gl_graph.proofs.NoMore.{no_more_on}
use Rattle.gl_graph.specs.Waves.{before_one, before_all, room_one, undo_at, CanGoBack, CanAllGoBack, HaveRoomBack}
use Rattle.gl_graph.specs.Spread.{IsSetAt}
use Rattle.gl_graph.proofs.Inputs.{each_input, on_inputs}
use Rattle.gl_graph.proofs.Shown.{numbers_prefix}
use Rattle.gl_graph.proofs.Taken.{undo_here, undo_there, undo_none}

-- a list at a place of which another item was put
pub set_here : {X : Type 0} (xs : List X) (q : ℕ) (was now : X) → slice_get xs q ≡ Some was → slice_get (slice_set xs q now) q ≡ Some now
set_here [] q was now e = absurd cc
set_here (x ∷ xs) zero was now e = refl
set_here (x ∷ xs) (suc q) was now e = set_here xs q was now e

pub set_there : {X : Type 0} (xs : List X) (q p : ℕ) (now : X) → p ≢ q → slice_get (slice_set xs q now) p ≡ slice_get xs p
set_there [] q p now h = refl
set_there (x ∷ xs) zero zero now h = absurd (h refl)
set_there (x ∷ xs) zero (suc p) now h = refl
set_there (x ∷ xs) (suc q) zero now h = refl
set_there (x ∷ xs) (suc q) (suc p) now h = set_there xs q p now (λ e. h (ap suc e))

pub set_prefix : {X : Type 0} (xs : List X) (q : ℕ) (now : X) → take q (slice_set xs q now) ≡ take q xs
set_prefix [] q now = refl
set_prefix (x ∷ xs) zero now = refl
set_prefix (x ∷ xs) (suc q) now = ap (λ ys. x ∷ ys) (set_prefix xs q now)

pub set_long : {X : Type 0} (xs : List X) (q : ℕ) (now : X) → length (slice_set xs q now) ≡ length xs
set_long [] q now = refl
set_long (x ∷ xs) zero now = refl
set_long (x ∷ xs) (suc q) now = ap suc (set_long xs q now)

-- what is put there is the same
pub set_again : {X : Type 0} (xs : List X) (q : ℕ) (was : X) → slice_get xs q ≡ Some was → slice_set xs q was ≡ xs
set_again [] q was e = refl
set_again (x ∷ xs) zero was e = let same : x ≡ was = cc in ap (λ y. y ∷ xs) (sym same)
set_again (x ∷ xs) (suc q) was e = ap (λ ys. x ∷ ys) (set_again xs q was e)

pub set_numbers : (nodes : List Node) (q : ℕ) (was now : Node) → slice_get nodes q ≡ Some was → now.list ≡ was.list → numbers (slice_set nodes q now) ≡ numbers nodes
set_numbers [] q was now e same = refl
set_numbers (n ∷ nodes) zero was now e same =
    let is : n ≡ was = cc in
    ap (λ l. l ∷ numbers nodes) (same ∙ ap (λ (m : Node). m.list) (sym is))
set_numbers (n ∷ nodes) (suc q) was now e same = ap (λ ls. n.list ∷ ls) (set_numbers nodes q was now e same)

-- a list has its place by the numbers of nodes alone
pub placed_by : (nodes others : List Node) (positions : List ℕ) (n list : ℕ) → numbers others ≡ numbers nodes → IsPlaced (take n nodes) positions list → IsPlaced (take n others) positions list
placed_by nodes others positions n list same placed = record {
  within = placed.within;
  there = subst (λ xs. slice_get xs (slice_index positions list) ≡ Some list) (numbers_prefix nodes n ∙ (ap (take n) (sym same) ∙ sym (numbers_prefix others n))) placed.there;
}

-- the nodes are still in turn
pub set_order : (nodes others : List Node) (positions : List ℕ) (q : ℕ) (was now : Node) → IsSetAt q nodes others was now → inputs (own_of now.keeps) ≡ inputs (own_of was.keeps)
    → AreAmong now.keeps → AreInTurn nodes positions → AreInTurn others positions
set_order nodes others positions q was now set input among dependency_order p n at = by_position (eqb p q) refl
  where
    same : numbers others ≡ numbers nodes
    same = ap numbers set.is ∙ set_numbers nodes q was now set.there set.list

    found : slice_get (slice_set nodes q now) p ≡ Some n
    found = subst (λ xs. slice_get xs p ≡ Some n) set.is at

    later : (k m : Keeps) → inputs (own_of m) ≡ inputs (own_of k) → OnInput (IsPlaced (take p nodes) positions) k → OnInput (IsPlaced (take p others) positions) m
    later k m e h = on_inputs (IsPlaced (take p others) positions) m
        (λ i c. placed_by nodes others positions p i same (each_input (IsPlaced (take p nodes) positions) k i h (subst (λ is. Contains is i) e c)))

    there : p ≢ q → IsInTurn others positions p n
    there other =
        let turn = dependency_order p n (sym (set_there nodes q p now other) ∙ found) in
        record { within = turn.within; placed = turn.placed; later = later n.keeps n.keeps refl turn.later; among = turn.among }

    here : p ≡ q → IsInTurn others positions p n
    here e =
        let both : Some now ≡ Some n = sym (set_here nodes q was now set.there) ∙ (ap (slice_get (slice_set nodes q now)) (sym e) ∙ found) in
        let one : now ≡ n = cc in
        let turn = dependency_order p was (ap (slice_get nodes) e ∙ set.there) in
        subst (λ m. IsInTurn others positions p m) one (record {
          within = subst (λ l. l < length positions) (sym set.list) turn.within;
          placed = ap (slice_index positions) set.list ∙ turn.placed;
          later = later was.keeps now.keeps input turn.later;
          among = among;
        })

    by_position : (t : Bool) → eqb p q ≡ t → IsInTurn others positions p n
    by_position true e = here (eqb-true p q e)
    by_position false e = there (eqb-false p q e)

-- what undos make of the nodes, once one has another kernel and its undo
pub back_set : (undos : List (Option KeepsUndo)) (nodes : List Node) (q : ℕ) (undo : Option KeepsUndo) (was now : Node) → slice_get undos q ≡ Some None → slice_get nodes q ≡ Some was
    → before_one undo now.keeps ≡ contents was.keeps → before_all (slice_set undos q undo) (slice_set nodes q now) ≡ before_all undos nodes
back_set undos [] q undo was now u e h = absurd cc
back_set [] (n ∷ nodes) q undo was now u e h = absurd cc
back_set (v ∷ undos) (n ∷ nodes) zero undo was now u e h =
    let is : n ≡ was = cc in
    let none : v ≡ None = cc in
    ap (λ k. k ∷ before_all undos nodes) (h ∙ (ap (λ (m : Node). contents m.keeps) (sym is) ∙ ap (λ w. before_one w n.keeps) (sym none)))
back_set (v ∷ undos) (n ∷ nodes) (suc q) undo was now u e h = ap (λ ks. before_one v n.keeps ∷ ks) (back_set undos nodes q undo was now u e h)

pub can_set : (undos : List (Option KeepsUndo)) (nodes : List Node) (q : ℕ) (undo : Option KeepsUndo) (now : Node) → CanGoBack undo now.keeps
    → CanAllGoBack undos nodes → CanAllGoBack (slice_set undos q undo) (slice_set nodes q now)
can_set undos [] q undo now h all = none undos q
  where
    none : (us : List (Option KeepsUndo)) (k : ℕ) → CanAllGoBack (slice_set us k undo) []
    none us k = tt
can_set [] (n ∷ nodes) zero undo now h all = tt
can_set [] (n ∷ nodes) (suc q) undo now h all = tt
can_set (v ∷ undos) (n ∷ nodes) zero undo now h all = (h, all.1)
can_set (v ∷ undos) (n ∷ nodes) (suc q) undo now h all = (all.0, can_set undos nodes q undo now h all.1)

-- no list has less room than its undo leaves, once one keeps something else and has its undo
pub room_set : (old nodes : List Node) (undos : List (Option KeepsUndo)) (q : ℕ) (was now : Node) (undo : Option KeepsUndo)
    → slice_get undos q ≡ Some None → slice_get nodes q ≡ Some was → IsNoMore (room_of was.keeps) (room_one undo now.keeps) → HaveRoomBack [] old undos nodes
    → HaveRoomBack [] old (slice_set undos q undo) (slice_set nodes q now)
room_set old nodes undos q was now undo waits is more room p a b at_old at_new = by_position (eqb p q) refl
  where
    this : p ≡ q → IsNoMore (room_of a.keeps) (room_one (undo_at (slice_set undos q undo) p) b.keeps)
    this e =
        let both : Some now ≡ Some b = sym (set_here nodes q was now is) ∙ (ap (slice_get (slice_set nodes q now)) (sym e) ∙ at_new) in
        let one : now ≡ b = cc in
        let none : undo_at undos p ≡ None = ap (undo_at undos) e ∙ undo_none undos q waits in
        let put : undo_at (slice_set undos q undo) p ≡ undo = ap (undo_at (slice_set undos q undo)) e ∙ undo_here undos q undo waits in
        let before : IsNoMore (room_of a.keeps) (room_of was.keeps) = subst (λ u. IsNoMore (room_of a.keeps) (room_one u was.keeps)) none (room p a was at_old (ap (slice_get nodes) e ∙ is)) in
        let after : IsNoMore (room_of a.keeps) (room_one undo now.keeps) = no_more_on _ _ _ before more in
        subst (λ (m : Node). IsNoMore (room_of a.keeps) (room_one (undo_at (slice_set undos q undo) p) m.keeps)) one
        (subst (λ u. IsNoMore (room_of a.keeps) (room_one u now.keeps)) (sym put) after)

    by_position : (t : Bool) → eqb p q ≡ t → IsNoMore (room_of a.keeps) (room_one (undo_at (slice_set undos q undo) p) b.keeps)
    by_position true e = this (eqb-true p q e)
    by_position false e =
        let h = eqb-false p q e in
        subst (λ u. IsNoMore (room_of a.keeps) (room_one u b.keeps)) (sym (undo_there undos q p undo h)) (room p a b at_old (sym (set_there nodes q p now h) ∙ at_new))
