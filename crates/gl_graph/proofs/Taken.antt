-- Undos taken back one after another, the last one first.
use Rattle.std.proofs.Common.{◌≡◌, ◌≢◌, ◌∙◌, ℕ, zero, suc, ◌<◌, ◌≤◌, Bool, true, false, List, [], ◌∷◌, ◌++◌, length, fold, replicate, refl, ap, sym, subst, arith, eqb}
use Rattle.std.specs.Prelude.{Option, Some, None, slice_get, slice_set, slice_index_or}
use Rattle.std.proofs.lemmas.Bool.{eqb-true, eqb-false}
use Rattle.std.proofs.lemmas.List.{length-set}
use Rattle.std.proofs.lemmas.Option.{slice_get-get_or, slice_get_within}
use Rattle.gl_graph.specs.declared.node.Node.{Node}
use Rattle.gl_graph.specs.declared.keeps.KeepsUndo.{KeepsUndo}
use Rattle.gl_graph.specs.Nodes.{numbers}
use Rattle.gl_graph.specs.Room.{IsNoMore}
use Rattle.gl_graph.specs.Undos as keeps
use Rattle.gl_graph.proofs.NoMore.{no_more}
use Rattle.gl_graph.specs.Waves.{Made, put_undo, by_position, undo_at, AreApartFrom, AreApart, contents_of, before_one, before_all, room_one, CanGoBack, CanAllGoBack, HaveRoomBack}
use Rattle.gl_graph.specs.Backs.{CanGoBackAt, IsOneBack, IsBackAt}

-- the last undo of those that were made
pub placed_last : (undos : List (Option KeepsUndo)) (made : Made) (one : ℕ × KeepsUndo) → fold put_undo undos (made ++ one ∷ []) ≡ put_undo (fold put_undo undos made) one
placed_last undos [] one = refl
placed_last undos (first ∷ made) one = placed_last (put_undo undos first) made one

pub apart_last : (undos : List (Option KeepsUndo)) (made : Made) (one : ℕ × KeepsUndo) → AreApartFrom undos (made ++ one ∷ [])
    → AreApartFrom undos made × (slice_get (fold put_undo undos made) one.0 ≡ Some None)
apart_last undos [] one h = (tt, h.0)
apart_last undos (first ∷ made) one h = let later = apart_last (put_undo undos first) made one h.1 in ((h.0, later.0), later.1)

pub apart_more : (undos : List (Option KeepsUndo)) (made : Made) (one : ℕ × KeepsUndo) → AreApartFrom undos made
    → slice_get (fold put_undo undos made) one.0 ≡ Some None → AreApartFrom undos (made ++ one ∷ [])
apart_more undos [] one h e = (e, tt)
apart_more undos (first ∷ made) one h e = (h.0, apart_more (put_undo undos first) made one h.1 e)

-- one that can be taken back
can_put : (undos : List (Option KeepsUndo)) (undo : KeepsUndo) (position : ℕ) (nodes : List Node) → slice_get undos position ≡ Some None
    → CanAllGoBack (slice_set undos position (Some undo)) nodes → CanGoBackAt (Some undo) position nodes
can_put [] undo position nodes e can node is = absurd cc
can_put (d ∷ undos) undo zero [] e can node is = absurd cc
can_put (d ∷ undos) undo zero (n ∷ nodes) e can node is = (let same : n ≡ node = cc in subst (λ (m : Node). CanGoBack (Some undo) m.keeps) same can.0)
can_put (d ∷ undos) undo (suc position) [] e can node is = absurd cc
can_put (d ∷ undos) undo (suc position) (n ∷ nodes) e can node is = can_put undos undo position nodes e can.1 node is

same_nodes : (a b : List Node) → length a ≡ length b → ((p : ℕ) → slice_get a p ≡ slice_get b p) → a ≡ b
same_nodes [] [] long same = refl
same_nodes [] (n ∷ b) long same = absurd (omega (arith, long))
same_nodes (m ∷ a) [] long same = absurd (omega (arith, long))
same_nodes (m ∷ a) (n ∷ b) long same =
    let first : m ≡ n = (let both : Some m ≡ Some n = same 0 in cc) in
    let rest : a ≡ b = same_nodes a b (omega (arith, long)) (λ p. same (suc p)) in
    ap (λ x. x ∷ a) first ∙ ap (λ xs. n ∷ xs) rest

rest_back : (undo : Option KeepsUndo) (position : ℕ) (m n : Node) (old new : List Node)
    → IsBackAt undo (suc position) (m ∷ old) (n ∷ new) → IsBackAt undo position old new
rest_back undo position m n old new back = record {
  long = (let long = back.long in omega (arith, long));
  others = λ p other. back.others (suc p) (λ e. other (omega (arith, e)));
  this = λ a b is_a is_b. back.this a b is_a is_b;
}

first_same : (undo : Option KeepsUndo) (position : ℕ) (m n : Node) (old new : List Node)
    → IsBackAt undo (suc position) (m ∷ old) (n ∷ new) → n ≡ m
first_same undo position m n old new back = (let both : Some n ≡ Some m = back.others 0 (λ e. absurd (omega (arith, e))) in cc)

others_same : (undo : Option KeepsUndo) (m n : Node) (old new : List Node) → IsBackAt undo 0 (m ∷ old) (n ∷ new)
    → new ≡ old
others_same undo m n old new back = same_nodes new old (let long = back.long in omega (arith, long)) (λ p. back.others (suc p) (λ e. absurd (omega (arith, e))))

-- and then the others
rest_put : (undos : List (Option KeepsUndo)) (undo : KeepsUndo) (position : ℕ) (old new : List Node) → slice_get undos position ≡ Some None
    → IsBackAt (Some undo) position old new → CanAllGoBack (slice_set undos position (Some undo)) old → CanAllGoBack undos new
rest_put [] undo position old new e back can = absurd cc
rest_put (d ∷ undos) undo position old [] e back can = tt
rest_put (d ∷ undos) undo position [] (n ∷ new) e back can = absurd (let long = back.long in omega (arith, long))
rest_put (d ∷ undos) undo zero (m ∷ old) (n ∷ new) e back can =
    let none : None ≡ d = cc in
    (subst (λ o. CanGoBack o n.keeps) none tt, subst (λ ns. CanAllGoBack undos ns) (sym (others_same (Some undo) m n old new back)) can.1)
rest_put (d ∷ undos) undo (suc position) (m ∷ old) (n ∷ new) e back can =
    let same : n ≡ m = first_same (Some undo) position m n old new back in
    (subst (λ (x : Node). CanGoBack d x.keeps) (sym same) can.0, rest_put undos undo position old new e (rest_back (Some undo) position m n old new back) can.1)

-- what is left, of what there is, is the whole
left_put : (undos : List (Option KeepsUndo)) (undo : KeepsUndo) (position : ℕ) (old new : List Node) → slice_get undos position ≡ Some None
    → IsBackAt (Some undo) position old new → before_all undos new ≡ before_all (slice_set undos position (Some undo)) old
left_put [] undo position old new e back = absurd cc
left_put (d ∷ undos) undo zero [] [] e back = refl
left_put (d ∷ undos) undo (suc position) [] [] e back = refl
left_put (d ∷ undos) undo position [] (n ∷ new) e back = absurd (let long = back.long in omega (arith, long))
left_put (d ∷ undos) undo position (m ∷ old) [] e back = absurd (let long = back.long in omega (arith, long))
left_put (d ∷ undos) undo zero (m ∷ old) (n ∷ new) e back =
    let none : d ≡ None = cc in
    let gone : keeps.contents n.keeps ≡ before_one (Some undo) m.keeps = (back.this m n refl refl).keeps_is in
    let rest : new ≡ old = others_same (Some undo) m n old new back in
    ap (λ o. before_one o n.keeps ∷ before_all undos new) none
    ∙ (ap (λ c. c ∷ before_all undos new) gone ∙ ap (λ ns. before_one (Some undo) m.keeps ∷ before_all undos ns) rest)
left_put (d ∷ undos) undo (suc position) (m ∷ old) (n ∷ new) e back =
    let same : n ≡ m = first_same (Some undo) position m n old new back in
    ap (λ (x : Node). before_one d x.keeps ∷ before_all undos new) same
    ∙ ap (λ cs. before_one d m.keeps ∷ cs) (left_put undos undo position old new e (rest_back (Some undo) position m n old new back))

-- what is known of the undos that are left
pub record AreLeft (n : ℕ) (made : Made) (nodes : List Node) (back : List keeps.Contents) : Type 0 where
  pub long : length nodes ≡ n
  pub left : before_all (by_position n made) nodes ≡ back
  pub can : CanAllGoBack (by_position n made) nodes
  pub apart : AreApart n made

-- the last of them can be taken back, and leaves the others
pub last_can : (n : ℕ) (made : Made) (one : ℕ × KeepsUndo) (nodes : List Node) (back : List keeps.Contents) → AreLeft n (made ++ one ∷ []) nodes back → CanGoBackAt (Some one.1) one.0 nodes
last_can n made one nodes back h =
    can_put (by_position n made) one.1 one.0 nodes (apart_last (replicate n None) made one h.apart).1
    (subst (λ us. CanAllGoBack us nodes) (placed_last (replicate n None) made one) h.can)

pub last_left : (n : ℕ) (made : Made) (one : ℕ × KeepsUndo) (old new : List Node) (back : List keeps.Contents) → AreLeft n (made ++ one ∷ []) old back
    → IsBackAt (Some one.1) one.0 old new → AreLeft n made new back
last_left n made one old new back h gone =
    let apart = apart_last (replicate n None) made one h.apart in
    record {
      long = gone.long ∙ h.long;
      left = left_put (by_position n made) one.1 one.0 old new apart.1 gone ∙ (ap (λ us. before_all us old) (sym (placed_last (replicate n None) made one)) ∙ h.left);
      can = rest_put (by_position n made) one.1 one.0 old new apart.1 gone (subst (λ us. CanAllGoBack us old) (placed_last (replicate n None) made one) h.can);
      apart = apart.0;
    }

-- the numbers stay
pub numbers_back : (undo : Option KeepsUndo) (position : ℕ) (old new : List Node) → IsBackAt undo position old new
    → numbers new ≡ numbers old
numbers_back undo position [] [] back = refl
numbers_back undo position [] (n ∷ new) back = absurd (let long = back.long in omega (arith, long))
numbers_back undo position (m ∷ old) [] back = absurd (let long = back.long in omega (arith, long))
numbers_back undo zero (m ∷ old) (n ∷ new) back =
    ap (λ l. l ∷ numbers new) (back.this m n refl refl).list_is ∙ ap (λ ns. m.list ∷ numbers ns) (others_same undo m n old new back)
numbers_back undo (suc position) (m ∷ old) (n ∷ new) back =
    ap (λ (x : Node). x.list ∷ numbers new) (first_same undo position m n old new back)
    ∙ ap (λ ns. m.list ∷ ns) (numbers_back undo position old new (rest_back undo position m n old new back))

-- the undo at a position where one was put, and at another one
pub undo_here : (undos : List (Option KeepsUndo)) (q : ℕ) (undo : Option KeepsUndo) → slice_get undos q ≡ Some None → undo_at (slice_set undos q undo) q ≡ undo
undo_here [] q undo e = absurd cc
undo_here (u ∷ undos) zero undo e = refl
undo_here (u ∷ undos) (suc q) undo e = undo_here undos q undo e

pub undo_there : (undos : List (Option KeepsUndo)) (q p : ℕ) (undo : Option KeepsUndo) → p ≢ q → undo_at (slice_set undos q undo) p ≡ undo_at undos p
undo_there [] q p undo h = refl
undo_there (u ∷ undos) zero zero undo h = absurd (h refl)
undo_there (u ∷ undos) zero (suc p) undo h = refl
undo_there (u ∷ undos) (suc q) zero undo h = refl
undo_there (u ∷ undos) (suc q) (suc p) undo h = undo_there undos q p undo (λ e. h (ap suc e))

-- and where none is
pub undo_none : (undos : List (Option KeepsUndo)) (q : ℕ) → slice_get undos q ≡ Some None → undo_at undos q ≡ None
undo_none [] q e = refl
undo_none (u ∷ undos) zero e = cc
undo_none (u ∷ undos) (suc q) e = undo_none undos q e

-- no list has less room than its undo leaves
pub room_back : (undos : List (Option KeepsUndo)) (undo : KeepsUndo) (q : ℕ) (old new : List Node) → slice_get undos q ≡ Some None
    → IsBackAt (Some undo) q old new → HaveRoomBack (slice_set undos q (Some undo)) old undos new
room_back undos undo q old new waits back p x y is_x is_y = by_position (eqb p q) refl
  where
    this : p ≡ q → IsNoMore (room_one (undo_at (slice_set undos q (Some undo)) p) x.keeps) (room_one (undo_at undos p) y.keeps)
    this e =
        let left : undo_at (slice_set undos q (Some undo)) p ≡ Some undo = ap (undo_at (slice_set undos q (Some undo))) e ∙ undo_here undos q (Some undo) waits in
        let none : undo_at undos p ≡ None = ap (undo_at undos) e ∙ undo_none undos q waits in
        let at_x : slice_get old q ≡ Some x = ap (slice_get old) (sym e) ∙ is_x in
        let at_y : slice_get new q ≡ Some y = ap (slice_get new) (sym e) ∙ is_y in
        subst (λ u. IsNoMore (room_one u x.keeps) (room_one (undo_at undos p) y.keeps)) (sym left)
        (subst (λ u. IsNoMore (room_one (Some undo) x.keeps) (room_one u y.keeps)) (sym none) (back.this x y at_x at_y).room)

    other : p ≢ q → IsNoMore (room_one (undo_at (slice_set undos q (Some undo)) p) x.keeps) (room_one (undo_at undos p) y.keeps)
    other h =
        let both : Some x ≡ Some y = sym is_x ∙ (sym (back.others p h) ∙ is_y) in
        let same : x ≡ y = cc in
        subst (λ u. IsNoMore (room_one u x.keeps) (room_one (undo_at undos p) y.keeps)) (sym (undo_there undos q p (Some undo) h))
        (subst (λ (n : Node). IsNoMore (room_one (undo_at undos p) x.keeps) (room_one (undo_at undos p) n.keeps)) same (no_more (room_one (undo_at undos p) x.keeps)))

    by_position : (t : Bool) → eqb p q ≡ t → IsNoMore (room_one (undo_at (slice_set undos q (Some undo)) p) x.keeps) (room_one (undo_at undos p) y.keeps)
    by_position true e = this (eqb-true p q e)
    by_position false e = other (eqb-false p q e)

-- the last undo was put where there was none
pub last_room : (n : ℕ) (made : Made) (one : ℕ × KeepsUndo) (old new : List Node) (back : List keeps.Contents) → AreLeft n (made ++ one ∷ []) old back
    → IsBackAt (Some one.1) one.0 old new → HaveRoomBack (by_position n (made ++ one ∷ [])) old (by_position n made) new
last_room n made one old new back h gone =
    let apart = apart_last (replicate n None) made one h.apart in
    subst (λ us. HaveRoomBack us old (by_position n made) new) (sym (placed_last (replicate n None) made one))
    (room_back (by_position n made) one.1 one.0 old new apart.1 gone)

pub no_undo : (n p : ℕ) → undo_at (replicate n None) p ≡ None
no_undo zero p = refl
no_undo (suc n) zero = refl
no_undo (suc n) (suc p) = no_undo n p

pub none_room : (n : ℕ) (undos : List (Option KeepsUndo)) (a b : List Node) → HaveRoomBack undos a (replicate n None) b → HaveRoomBack undos a [] b
none_room n undos a b h p x y is_x is_y =
    subst (λ u. IsNoMore (room_one (undo_at undos p) x.keeps) (room_one u y.keeps)) (no_undo n p) (h p x y is_x is_y)

-- without undos nothing changes
pub none_back : (n : ℕ) (nodes : List Node) → before_all (replicate n None) nodes ≡ contents_of nodes
none_back n [] = refl
none_back zero (m ∷ nodes) = ap (λ ks. keeps.contents m.keeps ∷ ks) (none_back zero nodes)
none_back (suc n) (m ∷ nodes) = ap (λ ks. keeps.contents m.keeps ∷ ks) (none_back n nodes)

get_other : (nodes : List Node) (position p : ℕ) (m : Node) → ¬ (p ≡ position)
    → slice_get (slice_set nodes position m) p ≡ slice_get nodes p
get_other [] zero p m other = refl
get_other [] (suc position) p m other = refl
get_other (n ∷ nodes) zero zero m other = absurd (other refl)
get_other (n ∷ nodes) zero (suc p) m other = refl
get_other (n ∷ nodes) (suc position) zero m other = refl
get_other (n ∷ nodes) (suc position) (suc p) m other = get_other nodes position p m (λ e. other (ap suc e))

get_set : (nodes : List Node) (position : ℕ) (m : Node) → position < length nodes
    → slice_get (slice_set nodes position m) position ≡ Some m
get_set [] position m within = absurd (omega (arith, within))
get_set (n ∷ nodes) zero m within = refl
get_set (n ∷ nodes) (suc position) m within = get_set nodes position m (omega (arith, within))

-- the node that is read there can go back
pub can_here : (undo : Option KeepsUndo) (known : KeepsUndo) (position : ℕ) (nodes : List Node) (n : Node)
    → undo ≡ Some known → n ≡ slice_index_or nodes position n → position < length nodes
    → CanGoBackAt undo position nodes → keeps.CanRetreat known n.keeps
can_here undo known position nodes n e value within can =
    let there : slice_get nodes position ≡ Some n = slice_get-get_or nodes position n within ∙ ap Some (sym value) in
    subst (λ o. CanGoBack o n.keeps) e (can n there)

-- and has gone back where another one is written in its place
pub back_here : (undo : Option KeepsUndo) (known : KeepsUndo) (position : ℕ) (nodes : List Node) (n m : Node)
    → undo ≡ Some known → n ≡ slice_index_or nodes position n → position < length nodes
    → m.list ≡ n.list → keeps.contents m.keeps ≡ keeps.before known n.keeps
    → IsNoMore (keeps.room_back known n.keeps) (keeps.room_of m.keeps) → IsBackAt undo position nodes (slice_set nodes position m)
back_here undo known position nodes n m e value within list_is keeps_is room = record {
  long = length-set nodes position m;
  others = λ p other. get_other nodes position p m other;
  this = λ a b is_a is_b.
      (let there : slice_get nodes position ≡ Some n = slice_get-get_or nodes position n within ∙ ap Some (sym value) in
      let old : Some n ≡ Some a = sym there ∙ is_a in
      let new : Some m ≡ Some b = sym (get_set nodes position m within) ∙ is_b in
      let old_is : n ≡ a = cc in
      let new_is : m ≡ b = cc in
      let here : IsOneBack undo n m = record { list_is = list_is; keeps_is = keeps_is ∙ ap (λ o. before_one o n.keeps) (sym e); room = subst (λ o. IsNoMore (room_one o n.keeps) (keeps.room_of m.keeps)) (sym e) room } in
      subst (λ x. IsOneBack undo a x) new_is (subst (λ x. IsOneBack undo x m) old_is here));
}

-- where there is no node nothing changes
pub back_past : (undo : Option KeepsUndo) (position : ℕ) (nodes : List Node) → length nodes ≤ position
    → IsBackAt undo position nodes nodes
back_past undo position nodes past = record {
  long = refl;
  others = λ p other. refl;
  this = λ a b is_a is_b. absurd (let within : position < length nodes = slice_get_within nodes position a is_a in omega (arith, within, past));
}
