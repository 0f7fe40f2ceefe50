-- Composition is associative, the identity is neutral, and the inverse of a composition is that of the inverses in turn.
use Rattle.std.proofs.Common.{◌≡◌, ◌∙◌, ℕ, suc, ◌+◌, ◌<◌, ◌≤◌, List, [], ◌∷◌, map, length, get_or, refl, ap, sym, subst, arith}
use Rattle.std.proofs.lemmas.List.{get_or-map}
use Rattle.spec_value.specs.Tree.{Tree}
use Rattle.spec_lists.specs.Piece.{Piece, kept, updated, deleted, inserted, inverted, old_len, new_len, normal}
use Rattle.spec_lists.specs.Sides.{Item, plain, changed, lone, carry, through, Sides, olds, news, sides, compose, swapped, pieces_of}
use Rattle.spec_lists.specs.Delta.{composed, inverse}
use Rattle.spec_lists.specs.Laws.{CompositionIsAssociative, IdentityIsNeutral, InverseOfComposition}
use Rattle.spec_lists.proofs.Normal.{pieces_of-sides, sides-normal, normal_is, inverted-inverted, sides_from}
use Rattle.spec_lists.proofs.Merge.{Merge, merge_of, Merge-left, Merge-right, compose_merge, composed_merge}

-- each item that has a partner has it below n
abbrev PointsBelow : ℕ → List Item → Type 0
PointsBelow n [] = Unit {0}
PointsBelow n (plain j ∷ xs) = (j < n) × PointsBelow n xs
PointsBelow n (changed j v ∷ xs) = (j < n) × PointsBelow n xs
PointsBelow n (lone v ∷ xs) = PointsBelow n xs

olds_point : (ps : List Piece) (j n : ℕ) → j + new_len ps ≤ n → PointsBelow n (olds j ps)
olds_point [] j n h = tt
olds_point (kept ∷ ps) j n h = (omega arith, olds_point ps (suc j) n (omega arith))
olds_point (updated v w ∷ ps) j n h = (omega arith, olds_point ps (suc j) n (omega arith))
olds_point (deleted v ∷ ps) j n h = olds_point ps j n h
olds_point (inserted w ∷ ps) j n h = olds_point ps (suc j) n (omega arith)

pub length-olds : (ps : List Piece) (j : ℕ) → length (olds j ps) ≡ old_len ps
length-olds [] j = refl
length-olds (kept ∷ ps) j = ap suc (length-olds ps (suc j))
length-olds (updated v w ∷ ps) j = ap suc (length-olds ps (suc j))
length-olds (deleted v ∷ ps) j = ap suc (length-olds ps j)
length-olds (inserted w ∷ ps) j = length-olds ps (suc j)

carry-carry : (v u : Tree) (z : Item) → carry v (carry u z) ≡ carry v z
carry-carry v u (plain k) = refl
carry-carry v u (changed k x) = refl
carry-carry v u (lone x) = refl

through-carry : (r : List Item) (v : Tree) (y : Item) → through r (carry v y) ≡ carry v (through r y)
through-carry r v (plain k) = refl
through-carry r v (changed k u) = sym (carry-carry v u (get_or r k (plain k)))
through-carry r v (lone u) = refl

through_at : (q r : List Item) (j : ℕ) → j < length q → through r (get_or q j (plain j)) ≡ get_or (map (through r) q) j (plain j)
through_at q r j h = sym (get_or-map (through r) q j (plain j) (plain j) h)

-- items seen through q and then through r
through_both : (xs q r : List Item) → PointsBelow (length q) xs → map (through r) (map (through q) xs) ≡ map (through (map (through r) q)) xs
through_both [] q r h = refl
through_both (plain j ∷ xs) q r h = cons _ _ _ _ (through_at q r j h.0) (through_both xs q r h.1)
  where
    cons : (a b : Item) (us vs : List Item) → a ≡ b → us ≡ vs → a ∷ us ≡ b ∷ vs
    cons a b us vs e f = cc
through_both (changed j v ∷ xs) q r h = cons _ _ _ _ (through-carry r v (get_or q j (plain j)) ∙ ap (carry v) (through_at q r j h.0)) (through_both xs q r h.1)
  where
    cons : (a b : Item) (us vs : List Item) → a ≡ b → us ≡ vs → a ∷ us ≡ b ∷ vs
    cons a b us vs e f = cc
through_both (lone v ∷ xs) q r h = ap (λ ys. lone v ∷ ys) (through_both xs q r h)

at_length : (n m : ℕ) (xs : List Item) → n ≡ m → PointsBelow n xs → PointsBelow m xs
at_length n m xs e h = let P : ℕ → Type 0 = λ k. PointsBelow k xs in subst P e h

-- composition of sides is associative
compose_assoc : (p q r : List Piece) → new_len p ≡ old_len q → new_len q ≡ old_len r → compose (compose (sides p) (sides q)) (sides r) ≡ compose (sides p) (compose (sides q) (sides r))
compose_assoc p q r e f =
    let n : PointsBelow (length (olds 0 q)) (olds 0 p) = at_length _ _ (olds 0 p) (e ∙ sym (length-olds q 0)) (olds_point p 0 (new_len p) (omega arith)) in
    let twice : new_len (map inverted r) ≡ old_len r = ap old_len (inverted-inverted r) in
    let m : PointsBelow (length (news 0 q)) (news 0 r) = at_length _ _ (olds 0 (map inverted r)) (twice ∙ (sym f ∙ sym (length-olds (map inverted q) 0))) (olds_point (map inverted r) 0 (new_len (map inverted r)) (omega arith)) in
    sides_from _ _ _ _ (through_both (olds 0 p) (olds 0 q) (olds 0 r) n) (sym (through_both (news 0 r) (news 0 q) (news 0 p) m))

-- deltas that fit together compose to a delta: its sides are the composition of theirs
pub sides_composed : (p q : List Piece) → new_len p ≡ old_len q → sides (composed p q) ≡ compose (sides p) (sides q)
sides_composed p q e =
    let h : (m : List Piece) × Merge p q m = merge_of (length p + length q) p q (omega arith) e in
    ap sides (composed_merge h.1) ∙ (sides-normal h.0 ∙ sym (compose_merge h.1))

pub composition_is_associative : CompositionIsAssociative
composition_is_associative p q r e f =
    ap (λ s. pieces_of (compose s (sides r))) (sides_composed p q e)
    ∙ (ap pieces_of (compose_assoc p q r e f) ∙ ap (λ s. pieces_of (compose (sides p) s)) (sym (sides_composed q r f)))

pub identity_is_neutral : IdentityIsNeutral
identity_is_neutral p h = (composed_merge (Merge-left p) ∙ normal_is p h, composed_merge (Merge-right p) ∙ normal_is p h)

sides-inverted : (p : List Piece) → sides (map inverted p) ≡ swapped (sides p)
sides-inverted p = sides_from _ _ _ _ refl (ap (olds 0) (inverted-inverted p))

-- the inverse is the pieces turned, in normal form
pub inverse_is : (p : List Piece) → inverse p ≡ normal (map inverted p)
inverse_is p = ap pieces_of (sym (sides-inverted p)) ∙ pieces_of-sides (map inverted p)

pub sides_inverse : (p : List Piece) → sides (inverse p) ≡ swapped (sides p)
sides_inverse p = ap sides (inverse_is p) ∙ (sides-normal (map inverted p) ∙ sides-inverted p)

pub inverse_of_composition : InverseOfComposition
inverse_of_composition p q e =
    ap (λ s. pieces_of (swapped s)) (sides_composed p q e)
    ∙ (ap (λ s. pieces_of (compose (swapped (sides q)) s)) (sym (sides_inverse p)) ∙ ap (λ s. pieces_of (compose s (sides (inverse p)))) (sym (sides_inverse q)))
