-- What is told with the values of the new input is what the definition tells.
use Rattle.std.specs.Prelude.{◌≡◌, ℕ, zero, suc, ◌+◌, ◌≤◌, ◌&&◌, nat_le, nat_lt, pos, Bool, true, false, List, [], ◌∷◌, ◌++◌, drop, refl}
use Rattle.std.proofs.Common.{ap, sym, ◌∙◌, arith}
use Rattle.spec_views.specs.Tree.{Tree, num}
use Rattle.spec_views.specs.Piece.{Piece, kept, updated, deleted, inserted, identity, old_len, new_len, normal}
use Rattle.spec_views.specs.Leads.{LeadsFrom, applied}
use Rattle.spec_views.specs.Chosen.{Choice, told_of_pair, told_of_old, told_of_new, told_from, follow_chosen}
use Rattle.spec_lang.specs.declared.Bounds.{Bounds}
use Rattle.spec_views.specs.Range.{start_of, end_of, by_position}
use Rattle.spec_views.proofs.Lengths.{old_len-identity, new_len-identity}
use Rattle.gl_kernel.specs.Plans.{CanTell}
use Rattle.gl_kernel.proofs.Spreads.{can_tell_whole}
use Rattle.gl_kernel.proofs.ReadValues.{drop_first}
use Rattle.gl_kernel.proofs.Pairs.{pair-append, old-append, new-append, pair_olds, pair_news, old_olds, old_news, new_olds, new_news}
use Rattle.gl_range.specs.declared.slice.Slice.{Slice}
use Rattle.gl_range.specs.declared.follow.Slices.{Slices}
use Rattle.gl_range.specs.Told.{shows, value_at, told_in}

same_kept : (a b c d : Bool) (x y : Tree) (r s : List Piece) → a ≡ b → c ≡ d → x ≡ y → r ≡ s → told_of_pair a c kept x x r ≡ told_of_pair b d kept y y s
same_kept a b c d x y r s e f g h = cc

same_updated : (a b c d : Bool) (v w : Tree) (r s : List Piece) → a ≡ b → c ≡ d → r ≡ s → told_of_pair a c (updated v w) v w r ≡ told_of_pair b d (updated v w) v w s
same_updated a b c d v w r s e f h = cc

same_old : (a b : Bool) (v : Tree) (r s : List Piece) → a ≡ b → r ≡ s → told_of_old a v r ≡ told_of_old b v s
same_old a b v r s e h = cc

same_new : (a b : Bool) (w : Tree) (r s : List Piece) → a ≡ b → r ≡ s → told_of_new a w r ≡ told_of_new b w s
same_new a b w r s e h = cc

-- a choice is that of a slice
abbrev pub IsBy : Slice → Choice → Type 0
IsBy slice choice = (i : ℕ) (x : Tree) → choice i x ≡ shows slice i

pub told_is : (before after : Choice) (slices : Slices) → IsBy slices.was before → IsBy slices.is after → (ys xs : List Tree) (ps : List Piece) (i j : ℕ) → LeadsFrom ps xs → drop j ys ≡ applied ps xs
    → told_from before after i j xs ps ≡ told_in ys slices i j ps
told_is before after slices b a ys xs [] i j h e = refl
told_is before after slices b a ys [] (kept ∷ ps) i j h e = absurd h
told_is before after slices b a ys (x ∷ xs) (kept ∷ ps) i j h e =
    let next = drop_first (num (pos 0)) ys j x (applied ps xs) e in
    same_kept _ _ _ _ _ _ _ _ (b i x) (a j x) (sym next.0) (told_is before after slices b a ys xs ps (suc i) (suc j) h next.1)
told_is before after slices b a ys [] (updated v w ∷ ps) i j h e = absurd h
told_is before after slices b a ys (x ∷ xs) (updated v w ∷ ps) i j h e =
    let next = drop_first (num (pos 0)) ys j w (applied ps xs) e in
    same_updated _ _ _ _ v w _ _ (b i v) (a j w) (told_is before after slices b a ys xs ps (suc i) (suc j) h.1 next.1)
told_is before after slices b a ys [] (deleted v ∷ ps) i j h e = absurd h
told_is before after slices b a ys (x ∷ xs) (deleted v ∷ ps) i j h e =
    same_old _ _ v _ _ (b i v) (told_is before after slices b a ys xs ps (suc i) j h.1 e)
told_is before after slices b a ys xs (inserted w ∷ ps) i j h e =
    let next = drop_first (num (pos 0)) ys j w (applied ps xs) e in
    same_new _ _ w _ _ (a j w) (told_is before after slices b a ys xs ps i (suc j) h next.1)

-- told from other places that are the same
pub from_same : (ys : List Tree) (slices : Slices) (i j k l : ℕ) (ps : List Piece) → i ≡ k → j ≡ l → told_in ys slices i j ps ≡ told_in ys slices k l ps
from_same ys slices i j k l ps e f = cc

-- first the one part of the pieces is told, then the other
pub told-append : (ys : List Tree) (slices : Slices) (i j : ℕ) (ps qs : List Piece) → told_in ys slices i j (ps ++ qs) ≡ told_in ys slices i j ps ++ told_in ys slices (i + old_len ps) (j + new_len ps) qs
told-append ys slices i j [] qs = from_same ys slices i j (i + 0) (j + 0) qs (omega arith) (omega arith)
told-append ys slices i j (kept ∷ ps) qs =
    let rest = told-append ys slices (suc i) (suc j) ps qs in
    let shift = from_same ys slices (suc i + old_len ps) (suc j + new_len ps) (i + suc (old_len ps)) (j + suc (new_len ps)) qs (omega arith) (omega arith) in
    ap (told_of_pair (shows slices.was i) (shows slices.is j) kept (value_at ys j) (value_at ys j)) (rest ∙ ap (λ qs. told_in ys slices (suc i) (suc j) ps ++ qs) shift)
    ∙ pair-append (shows slices.was i) (shows slices.is j) kept (value_at ys j) (value_at ys j) _ _
told-append ys slices i j (updated v w ∷ ps) qs =
    let rest = told-append ys slices (suc i) (suc j) ps qs in
    let shift = from_same ys slices (suc i + old_len ps) (suc j + new_len ps) (i + suc (old_len ps)) (j + suc (new_len ps)) qs (omega arith) (omega arith) in
    ap (told_of_pair (shows slices.was i) (shows slices.is j) (updated v w) v w) (rest ∙ ap (λ qs. told_in ys slices (suc i) (suc j) ps ++ qs) shift)
    ∙ pair-append (shows slices.was i) (shows slices.is j) (updated v w) v w _ _
told-append ys slices i j (deleted v ∷ ps) qs =
    let rest = told-append ys slices (suc i) j ps qs in
    let shift = from_same ys slices (suc i + old_len ps) (j + new_len ps) (i + suc (old_len ps)) (j + new_len ps) qs (omega arith) refl in
    ap (told_of_old (shows slices.was i) v) (rest ∙ ap (λ qs. told_in ys slices (suc i) j ps ++ qs) shift) ∙ old-append (shows slices.was i) v _ _
told-append ys slices i j (inserted w ∷ ps) qs =
    let rest = told-append ys slices i (suc j) ps qs in
    let shift = from_same ys slices (i + old_len ps) (suc j + new_len ps) (i + old_len ps) (j + suc (new_len ps)) qs refl (omega arith) in
    ap (told_of_new (shows slices.is j) w) (rest ∙ ap (λ qs. told_in ys slices i (suc j) ps ++ qs) shift) ∙ new-append (shows slices.is j) w _ _

-- no more is told than there is
in_olds : (ys : List Tree) (slices : Slices) (i j : ℕ) (ps : List Piece) → old_len (told_in ys slices i j ps) ≤ old_len ps
in_olds ys slices i j [] = omega arith
in_olds ys slices i j (kept ∷ ps) =
    omega (arith, pair_olds (shows slices.was i) (shows slices.is j) kept (value_at ys j) (value_at ys j) (told_in ys slices (suc i) (suc j) ps), in_olds ys slices (suc i) (suc j) ps)
in_olds ys slices i j (updated v w ∷ ps) =
    omega (arith, pair_olds (shows slices.was i) (shows slices.is j) (updated v w) v w (told_in ys slices (suc i) (suc j) ps), in_olds ys slices (suc i) (suc j) ps)
in_olds ys slices i j (deleted v ∷ ps) = omega (arith, old_olds (shows slices.was i) v (told_in ys slices (suc i) j ps), in_olds ys slices (suc i) j ps)
in_olds ys slices i j (inserted w ∷ ps) = omega (arith, new_olds (shows slices.is j) w (told_in ys slices i (suc j) ps), in_olds ys slices i (suc j) ps)

in_news : (ys : List Tree) (slices : Slices) (i j : ℕ) (ps : List Piece) → new_len (told_in ys slices i j ps) ≤ new_len ps
in_news ys slices i j [] = omega arith
in_news ys slices i j (kept ∷ ps) =
    omega (arith, pair_news (shows slices.was i) (shows slices.is j) kept (value_at ys j) (value_at ys j) (told_in ys slices (suc i) (suc j) ps), in_news ys slices (suc i) (suc j) ps)
in_news ys slices i j (updated v w ∷ ps) =
    omega (arith, pair_news (shows slices.was i) (shows slices.is j) (updated v w) v w (told_in ys slices (suc i) (suc j) ps), in_news ys slices (suc i) (suc j) ps)
in_news ys slices i j (deleted v ∷ ps) = omega (arith, old_news (shows slices.was i) v (told_in ys slices (suc i) j ps), in_news ys slices (suc i) j ps)
in_news ys slices i j (inserted w ∷ ps) = omega (arith, new_news (shows slices.is j) w (told_in ys slices i (suc j) ps), in_news ys slices i (suc j) ps)

-- of what is told from places on, each part can be
pub can_tell : (ys : List Tree) (slices : Slices) (ps out told rest : List Piece) → old_len ps ≤ 2147483647 → new_len ps ≤ 2147483647 → normal (out ++ (told ++ rest)) ≡ normal (told_in ys slices 0 0 ps) → CanTell told out
can_tell ys slices ps out told rest h k e =
    can_tell_whole (told_in ys slices 0 0 ps) out told rest (omega (arith, in_olds ys slices 0 0 ps, h)) (omega (arith, in_news ys slices 0 0 ps, k)) e

-- a slice is what bounds show of so many elements
pub record IsSlice (bounds : Bounds) (n : ℕ) (slice : Slice) : Type 0 where
  pub start : slice.start ≡ start_of bounds n
  pub end : slice.end ≡ end_of bounds n

same_shows : (s e a b i : ℕ) → a ≡ s → b ≡ e → nat_le s i && nat_lt i e ≡ nat_le a i && nat_lt i b
same_shows s e a b i p q = ap (λ k. nat_le k i && nat_lt i e) (sym p) ∙ ap (λ k. nat_le a i && nat_lt i k) (sym q)

by_bounds : (bounds : Bounds) (n : ℕ) (slice : Slice) → IsSlice bounds n slice → IsBy slice (by_position bounds n)
by_bounds bounds n slice h = λ i x. same_shows _ _ _ _ i h.start h.end

pub follow_is : (before after : Bounds) (n m : ℕ) (slices : Slices) → IsSlice before n slices.was → IsSlice after m slices.is
    → (ys xs : List Tree) (ps : List Piece) → LeadsFrom ps xs → ys ≡ applied ps xs
    → normal (told_in ys slices 0 0 ps) ≡ follow_chosen (by_position before n) (by_position after m) xs ps
follow_is before after n m slices b a ys xs ps h e =
    ap normal (sym (told_is (by_position before n) (by_position after m) slices (by_bounds before n slices.was b) (by_bounds after m slices.is a) ys xs ps 0 0 h e))

-- so many kept elements can be told first
pub can_start : (ys : List Tree) (slices : Slices) (n : ℕ) (out : List Piece) → out ≡ [] → n ≤ 2147483647 → CanTell (told_in ys slices 0 0 (identity n)) out
can_start ys slices n out e h = record {
  olds = omega (arith, ap old_len e, in_olds ys slices 0 0 (identity n), old_len-identity n, h);
  news = omega (arith, ap new_len e, in_news ys slices 0 0 (identity n), new_len-identity n, h);
}

-- the same bounds of the same number of elements
pub slice_same : (a b : Bounds) (n m : ℕ) (slice : Slice) → a ≡ b → n ≡ m → IsSlice a n slice → IsSlice b m slice
slice_same a b n m slice e f h = record {
  start = h.start ∙ (ap (λ c. start_of c n) e ∙ ap (start_of b) f);
  end = h.end ∙ (ap (λ c. end_of c n) e ∙ ap (end_of b) f);
}
