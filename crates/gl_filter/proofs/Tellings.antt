-- What is told by the marks of a filter.
use Rattle.std.specs.Prelude.{◌≡◌, ℕ, zero, suc, ◌+◌, ◌≤◌, Bool, true, false, List, [], ◌∷◌, ◌++◌, length, drop, map, replicate, refl}
use Rattle.std.proofs.Common.{ap, sym, ◌∙◌, arith}
use Rattle.spec_views.specs.Tree.{Tree}
use Rattle.spec_views.specs.Piece.{Piece, kept, updated, deleted, inserted, old_len, new_len, normal}
use Rattle.spec_views.specs.Leads.{LeadsFrom}
use Rattle.spec_views.specs.Chosen.{told_of_pair, told_of_old, told_of_new, told_from}
use Rattle.spec_views.specs.Filter.{by_value, filter_follow}
use Rattle.std.proofs.lemmas.List.{length-drop, drop-drop}
use Rattle.gl_kernel.specs.Plans.{CanTell}
use Rattle.gl_kernel.proofs.Spreads.{can_tell_whole}
use Rattle.gl_kernel.proofs.Pairs.{pair-append, old-append, new-append, pair_olds, pair_news, old_olds, old_news, new_olds, new_news}
use Rattle.gl_filter.specs.Told.{told_kept, told_marks, asked}

kept_pair : (b : Bool) (x : Tree) (rest : List Piece) → told_of_pair b b kept x x rest ≡ told_kept b rest
kept_pair true x rest = refl
kept_pair false x rest = refl

-- the marks tell what the values do
told_is : (accepts : Tree → Bool) (i j : ℕ) (xs : List Tree) (ps : List Piece) → LeadsFrom ps xs → told_from (by_value accepts) (by_value accepts) i j xs ps ≡ told_marks accepts (map accepts xs) ps
told_is accepts i j [] [] h = refl
told_is accepts i j (x ∷ xs) [] h = refl
told_is accepts i j [] (kept ∷ ps) h = absurd h
told_is accepts i j (x ∷ xs) (kept ∷ ps) h =
    kept_pair (accepts x) x _ ∙ ap (told_kept (accepts x)) (told_is accepts (suc i) (suc j) xs ps h)
told_is accepts i j [] (updated v w ∷ ps) h = absurd h
told_is accepts i j (x ∷ xs) (updated v w ∷ ps) h =
    ap (told_of_pair (accepts v) (accepts w) (updated v w) v w) (told_is accepts (suc i) (suc j) xs ps h.1)
    ∙ ap (λ y. told_of_pair (accepts y) (accepts w) (updated v w) v w (told_marks accepts (map accepts xs) ps)) (sym h.0)
told_is accepts i j [] (deleted v ∷ ps) h = absurd h
told_is accepts i j (x ∷ xs) (deleted v ∷ ps) h =
    ap (told_of_old (accepts v) v) (told_is accepts (suc i) j xs ps h.1)
    ∙ ap (λ y. told_of_old (accepts y) v (told_marks accepts (map accepts xs) ps)) (sym h.0)
told_is accepts i j [] (inserted w ∷ ps) h = ap (told_of_new (accepts w) w) (told_is accepts i (suc j) [] ps h)
told_is accepts i j (x ∷ xs) (inserted w ∷ ps) h = ap (told_of_new (accepts w) w) (told_is accepts i (suc j) (x ∷ xs) ps h)

pub follow_is : (accepts : Tree → Bool) (xs : List Tree) (ps : List Piece) → LeadsFrom ps xs → normal (told_marks accepts (map accepts xs) ps) ≡ filter_follow accepts xs ps
follow_is accepts xs ps h = ap normal (sym (told_is accepts 0 0 xs ps h))

kept-append : (b : Bool) (r s : List Piece) → told_kept b (r ++ s) ≡ told_kept b r ++ s
kept-append true r s = refl
kept-append false r s = refl

-- first the one part of the pieces is told, then the other
pub told-append : (accepts : Tree → Bool) (bs : List Bool) (ps qs : List Piece) → old_len ps ≤ length bs → told_marks accepts bs (ps ++ qs) ≡ told_marks accepts bs ps ++ told_marks accepts (drop (old_len ps) bs) qs
told-append accepts bs [] qs h = refl
told-append accepts [] (kept ∷ ps) qs h = absurd (omega (arith, h))
told-append accepts (b ∷ bs) (kept ∷ ps) qs h = ap (told_kept b) (told-append accepts bs ps qs (omega (arith, h))) ∙ kept-append b _ _
told-append accepts [] (updated v w ∷ ps) qs h = absurd (omega (arith, h))
told-append accepts (b ∷ bs) (updated v w ∷ ps) qs h =
    ap (told_of_pair b (accepts w) (updated v w) v w) (told-append accepts bs ps qs (omega (arith, h))) ∙ pair-append b (accepts w) (updated v w) v w _ _
told-append accepts [] (deleted v ∷ ps) qs h = absurd (omega (arith, h))
told-append accepts (b ∷ bs) (deleted v ∷ ps) qs h = ap (told_of_old b v) (told-append accepts bs ps qs (omega (arith, h))) ∙ old-append b v _ _
told-append accepts [] (inserted w ∷ ps) qs h = ap (told_of_new (accepts w) w) (told-append accepts [] ps qs h) ∙ new-append (accepts w) w _ _
told-append accepts (b ∷ bs) (inserted w ∷ ps) qs h = ap (told_of_new (accepts w) w) (told-append accepts (b ∷ bs) ps qs h) ∙ new-append (accepts w) w _ _

pub asked-append : (ps qs : List Piece) → asked (ps ++ qs) ≡ asked ps + asked qs
asked-append [] qs = omega arith
asked-append (kept ∷ ps) qs = asked-append ps qs
asked-append (updated v w ∷ ps) qs = omega (arith, asked-append ps qs)
asked-append (deleted v ∷ ps) qs = asked-append ps qs
asked-append (inserted w ∷ ps) qs = omega (arith, asked-append ps qs)

kept_olds : (b : Bool) (r : List Piece) → old_len (told_kept b r) ≤ suc (old_len r)
kept_olds true r = omega arith
kept_olds false r = omega arith

kept_news : (b : Bool) (r : List Piece) → new_len (told_kept b r) ≤ suc (new_len r)
kept_news true r = omega arith
kept_news false r = omega arith

-- no more is told than there is
marks_olds : (accepts : Tree → Bool) (bs : List Bool) (ps : List Piece) → old_len (told_marks accepts bs ps) ≤ old_len ps
marks_olds accepts bs [] = omega arith
marks_olds accepts [] (kept ∷ ps) = omega arith
marks_olds accepts (b ∷ bs) (kept ∷ ps) = omega (arith, kept_olds b (told_marks accepts bs ps), marks_olds accepts bs ps)
marks_olds accepts [] (updated v w ∷ ps) = omega arith
marks_olds accepts (b ∷ bs) (updated v w ∷ ps) = omega (arith, pair_olds b (accepts w) (updated v w) v w (told_marks accepts bs ps), marks_olds accepts bs ps)
marks_olds accepts [] (deleted v ∷ ps) = omega arith
marks_olds accepts (b ∷ bs) (deleted v ∷ ps) = omega (arith, old_olds b v (told_marks accepts bs ps), marks_olds accepts bs ps)
marks_olds accepts [] (inserted w ∷ ps) = omega (arith, new_olds (accepts w) w (told_marks accepts [] ps), marks_olds accepts [] ps)
marks_olds accepts (b ∷ bs) (inserted w ∷ ps) = omega (arith, new_olds (accepts w) w (told_marks accepts (b ∷ bs) ps), marks_olds accepts (b ∷ bs) ps)

marks_news : (accepts : Tree → Bool) (bs : List Bool) (ps : List Piece) → new_len (told_marks accepts bs ps) ≤ new_len ps
marks_news accepts bs [] = omega arith
marks_news accepts [] (kept ∷ ps) = omega arith
marks_news accepts (b ∷ bs) (kept ∷ ps) = omega (arith, kept_news b (told_marks accepts bs ps), marks_news accepts bs ps)
marks_news accepts [] (updated v w ∷ ps) = omega arith
marks_news accepts (b ∷ bs) (updated v w ∷ ps) = omega (arith, pair_news b (accepts w) (updated v w) v w (told_marks accepts bs ps), marks_news accepts bs ps)
marks_news accepts [] (deleted v ∷ ps) = omega arith
marks_news accepts (b ∷ bs) (deleted v ∷ ps) = omega (arith, old_news b v (told_marks accepts bs ps), marks_news accepts bs ps)
marks_news accepts [] (inserted w ∷ ps) = omega (arith, new_news (accepts w) w (told_marks accepts [] ps), marks_news accepts [] ps)
marks_news accepts (b ∷ bs) (inserted w ∷ ps) = omega (arith, new_news (accepts w) w (told_marks accepts (b ∷ bs) ps), marks_news accepts (b ∷ bs) ps)

pub asked-keeps : (n : ℕ) → asked (replicate n kept) ≡ 0
asked-keeps zero = refl
asked-keeps (suc n) = asked-keeps n

-- what is left to tell, split after so many pieces
pub whole_split : (accepts : Tree → Bool) (shown : List Bool) (position : ℕ) (qs rest out whole : List Piece) → position + old_len qs ≤ length shown → normal (out ++ told_marks accepts (drop position shown) (qs ++ rest)) ≡ whole →
    normal (out ++ (told_marks accepts (drop position shown) qs ++ told_marks accepts (drop (position + old_len qs) shown) rest)) ≡ whole
whole_split accepts shown position qs rest out whole h e =
    let inside : old_len qs ≤ length (drop position shown) = omega (arith, h, length-drop position shown) in
    ap (λ bs. normal (out ++ (told_marks accepts (drop position shown) qs ++ told_marks accepts bs rest))) (sym (drop-drop (old_len qs) position shown))
    ∙ (ap (λ ps. normal (out ++ ps)) (sym (told-append accepts (drop position shown) qs rest inside)) ∙ e)

pub can_tell : (accepts : Tree → Bool) (shown : List Bool) (ps out told rest : List Piece) → old_len ps ≤ 2147483647 → new_len ps ≤ 2147483647 → normal (out ++ (told ++ rest)) ≡ normal (told_marks accepts shown ps) → CanTell told out
can_tell accepts shown ps out told rest h k e =
    can_tell_whole (told_marks accepts shown ps) out told rest (omega (arith, marks_olds accepts shown ps, h)) (omega (arith, marks_news accepts shown ps, k)) e
