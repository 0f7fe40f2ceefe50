-- The delta between two lists that has the pairs of a given one is that one, with its deletions in front.
use Rattle.std.specs.Prelude.{◌≡◌, ℕ, zero, suc, ◌+◌, ◌-◌, Bool, true, false, List, [], ◌∷◌, ◌++◌, length, map, take, drop, slice_get, nat_le, Some, refl}
use Rattle.std.proofs.Common.{ap, sym, ◌∙◌, arith, append_assoc}
use Rattle.std.proofs.lemmas.List.{append-nil}
use Rattle.std.proofs.lemmas.Bool.Decides.{nat_tests}
use Rattle.gl_joined.specs.Tree.{Tree}
use Rattle.gl_joined.specs.Piece.{Piece, kept, updated, deleted, inserted, insert_first, normal}
use Rattle.gl_joined.specs.Pairs.{Pair, pairs_from, pairs}
use Rattle.gl_joined.specs.Leads.{LeadsFrom, applied}
use Rattle.gl_joined.specs.Making.{replaced, piece_of, Rest, next_piece, told_to, rest_after, pieces_from, pieces_by}
use Rattle.gl_joined.proofs.Normal.{normal_is}
use Rattle.gl_joined.proofs.Made.{replaced_normal}
use Rattle.gl_joined.proofs.Plains.{same_itself}

abbrev rest_of : ℕ → ℕ → List Tree → List Tree → Rest
rest_of i j xs ys = record { old_position = i; new_position = j; old = xs; new = ys }

abbrev pub pair_of : ℕ → ℕ → Bool → Pair
pair_of i j b = record { old = i; new = j; updated = b }

pub get_seam : (a us : List Tree) (x : Tree) (n : ℕ) → n ≡ length a → slice_get (a ++ x ∷ us) n ≡ Some x
get_seam [] us x n e = ap (slice_get (x ∷ us)) e
get_seam (y ∷ a) us x zero e = absurd (omega (arith, e))
get_seam (y ∷ a) us x (suc n) e = get_seam a us x n (omega (arith, e))

pub take_seam : (a us : List Tree) (n : ℕ) → n ≡ length a → take n (a ++ us) ≡ a
take_seam [] us n e = ap (λ k. take k us) e
take_seam (y ∷ a) us zero e = absurd (omega (arith, e))
take_seam (y ∷ a) us (suc n) e = ap (λ ys. y ∷ ys) (take_seam a us n (omega (arith, e)))

drop_seam : (a us : List Tree) (x : Tree) (n : ℕ) → n ≡ length a → drop (suc n) (a ++ x ∷ us) ≡ us
drop_seam [] us x n e = ap (λ k. drop (suc k) (x ∷ us)) e
drop_seam (y ∷ a) us x zero e = absurd (omega (arith, e))
drop_seam (y ∷ a) us x (suc n) e = drop_seam a us x n (omega (arith, e))

pub longer : (a : List Tree) (x : Tree) → length (a ++ x ∷ []) ≡ suc (length a)
longer [] x = refl
longer (y ∷ a) x = ap suc (longer a x)

-- normal form before a pair
insert_prefix : (x : Piece) (ps : List Piece) → ((w : Tree) (qs : List Piece) → insert_first w (x ∷ qs) ≡ inserted w ∷ x ∷ qs) → (w : Tree) (b : List Tree)
    → insert_first w ((map inserted b ++ x ∷ []) ++ ps) ≡ inserted w ∷ ((map inserted b ++ x ∷ []) ++ ps)
insert_prefix x ps first w [] = first w ps
insert_prefix x ps first w (c ∷ b) = refl

pair_normal : (x : Piece) (ps : List Piece) → ((w : Tree) (qs : List Piece) → insert_first w (x ∷ qs) ≡ inserted w ∷ x ∷ qs) → normal (x ∷ ps) ≡ x ∷ normal ps → (a b : List Tree)
    → normal (replaced a b ++ x ∷ ps) ≡ (replaced a b ++ x ∷ []) ++ normal ps
pair_normal x ps first step [] [] = step
pair_normal x ps first step [] (w ∷ b) = ap (insert_first w) (pair_normal x ps first step [] b) ∙ insert_prefix x (normal ps) first w b
pair_normal x ps first step (v ∷ a) b = ap (λ qs. deleted v ∷ qs) (pair_normal x ps first step a b)

-- and where an element is deleted or inserted
passes : (v : Tree) (ps : List Piece) (b : List Tree) → normal (map inserted b ++ deleted v ∷ ps) ≡ deleted v ∷ normal (map inserted b ++ ps)
passes v ps [] = refl
passes v ps (w ∷ b) = ap (insert_first w) (passes v ps b)

gone_normal : (a b : List Tree) (v : Tree) (ps : List Piece) → normal (replaced (a ++ v ∷ []) b ++ ps) ≡ normal (replaced a b ++ deleted v ∷ ps)
gone_normal [] b v ps = sym (passes v ps b)
gone_normal (u ∷ a) b v ps = ap (λ qs. deleted u ∷ qs) (gone_normal a b v ps)

come_is : (a b : List Tree) (w : Tree) (ps : List Piece) → replaced a (b ++ w ∷ []) ++ ps ≡ replaced a b ++ inserted w ∷ ps
come_is [] [] w ps = refl
come_is [] (c ∷ b) w ps = ap (λ qs. inserted c ∷ qs) (come_is [] b w ps)
come_is (u ∷ a) b w ps = ap (λ qs. deleted u ∷ qs) (come_is a b w ps)

-- a pair after elements that have none
pub record Seam (a b us vs : List Tree) (i j k l : ℕ) : Type 0 where
  pub old_at : k ≡ i + length a
  pub new_at : l ≡ j + length b

next_is : (a b us vs : List Tree) (x y : Tree) (is_updated : Bool) (piece : Piece) (i j k l : ℕ) → Seam a b us vs i j k l → piece_of is_updated (Some x) (Some y) ≡ Some piece
    → next_piece (rest_of i j (a ++ x ∷ us) (b ++ y ∷ vs)) (pair_of k l is_updated) ≡ Some piece
next_is a b us vs x y is_updated piece i j k l s e =
    let old_at = s.old_at in
    let new_at = s.new_at in
    let low : nat_le i k ≡ true = grind (arith, nat_tests) in
    let high : nat_le j l ≡ true = grind (arith, nat_tests) in
    let old = get_seam a us x (k - i) (omega (arith, s.old_at)) in
    let new = get_seam b vs y (l - j) (omega (arith, s.new_at)) in
    rw (low, high, old, new) e

pair_made : (a b us vs : List Tree) (x y : Tree) (is_updated : Bool) (piece : Piece) (i j k l : ℕ) (us_told : List Pair) → Seam a b us vs i j k l → piece_of is_updated (Some x) (Some y) ≡ Some piece
    → pieces_from (rest_of i j (a ++ x ∷ us) (b ++ y ∷ vs)) (pair_of k l is_updated ∷ us_told)
    ≡ (replaced a b ++ piece ∷ []) ++ pieces_from (rest_of (suc k) (suc l) us vs) us_told
pair_made a b us vs x y is_updated piece i j k l more s e =
    let r : Rest = rest_of i j (a ++ x ∷ us) (b ++ y ∷ vs) in
    let p : Pair = pair_of k l is_updated in
    let old_at : k - i ≡ length a = omega (arith, s.old_at) in
    let new_at : l - j ≡ length b = omega (arith, s.new_at) in
    let whole : List Tree → List Tree → List Tree → List Tree → List Piece = λ c d ms ns. (replaced c d ++ piece ∷ []) ++ pieces_from (rest_of (suc k) (suc l) ms ns) more in
    ap (λ o. told_to r p o ++ pieces_from (rest_after r p o) more) (next_is a b us vs x y is_updated piece i j k l s e)
    ∙ four whole (take_seam a (x ∷ us) (k - i) old_at) (take_seam b (y ∷ vs) (l - j) new_at) (drop_seam a us x (k - i) old_at) (drop_seam b vs y (l - j) new_at)
  where
    four : (f : List Tree → List Tree → List Tree → List Tree → List Piece) {a b c d e g h m : List Tree} → a ≡ b → c ≡ d → e ≡ g → h ≡ m → f a c e h ≡ f b d g m
    four f {a = a} {b = b} {c = c} {d = d} {e = e} {g = g} {h = h} {m = m} p q r s = cc

-- The elements a and b were passed without a pair; the delta of what is left, told by its pairs, follows them.
pub made_from : (t : List Piece) (a b us : List Tree) (i j k l : ℕ) → LeadsFrom t us → Seam a b us (applied t us) i j k l
    → pieces_from (rest_of i j (a ++ us) (b ++ applied t us)) (pairs_from k l t) ≡ normal (replaced a b ++ t)
made_from [] a b [] i j k l h s =
    ap (λ xs. replaced xs (b ++ [])) (append-nil a) ∙ (ap (replaced a) (append-nil b) ∙ (sym (normal_is (replaced a b) (replaced_normal a b)) ∙ ap normal (sym (append-nil (replaced a b)))))
made_from [] a b (x ∷ us) i j k l h s = absurd h
made_from (kept ∷ t) a b [] i j k l h s = absurd h
made_from (kept ∷ t) a b (x ∷ us) i j k l h s =
    pair_made a b us (applied t us) x x false kept i j k l (pairs_from (suc k) (suc l) t) (record { old_at = s.old_at; new_at = s.new_at }) (same x)
    ∙ (ap (λ ps. (replaced a b ++ kept ∷ []) ++ ps) (made_from t [] [] us (suc k) (suc l) (suc k) (suc l) h (record { old_at = omega arith; new_at = omega arith }))
    ∙ sym (pair_normal kept t (λ w qs. refl) refl a b))
  where
    same : (z : Tree) → piece_of false (Some z) (Some z) ≡ Some kept
    same z = rw (same_itself z) refl
made_from (updated v w ∷ t) a b [] i j k l h s = absurd h
made_from (updated v w ∷ t) a b (x ∷ us) i j k l h s =
    ap (λ z. pieces_from (rest_of i j (a ++ z ∷ us) (b ++ w ∷ applied t us)) (pairs_from k l (updated v w ∷ t))) h.0
    ∙ (pair_made a b us (applied t us) v w true (updated v w) i j k l (pairs_from (suc k) (suc l) t) (record { old_at = s.old_at; new_at = s.new_at }) refl
    ∙ (ap (λ ps. (replaced a b ++ updated v w ∷ []) ++ ps) (made_from t [] [] us (suc k) (suc l) (suc k) (suc l) h.1 (record { old_at = omega arith; new_at = omega arith }))
    ∙ sym (pair_normal (updated v w) t (λ z qs. refl) refl a b)))
made_from (deleted v ∷ t) a b [] i j k l h s = absurd h
made_from (deleted v ∷ t) a b (x ∷ us) i j k l h s =
    ap (λ xs. pieces_from (rest_of i j xs (b ++ applied t us)) (pairs_from (suc k) l t)) (sym (append_assoc a (x ∷ []) us))
    ∙ (made_from t (a ++ x ∷ []) b us i j (suc k) l h.1 (record { old_at = omega (arith, s.old_at, longer a x); new_at = s.new_at })
    ∙ (ap (λ z. normal (replaced (a ++ z ∷ []) b ++ t)) h.0 ∙ gone_normal a b v t))
made_from (inserted w ∷ t) a b us i j k l h s =
    ap (λ ys. pieces_from (rest_of i j (a ++ us) ys) (pairs_from k (suc l) t)) (sym (append_assoc b (w ∷ []) (applied t us)))
    ∙ (made_from t a (b ++ w ∷ []) us i j k (suc l) h (record { old_at = s.old_at; new_at = omega (arith, s.new_at, longer b w) })
    ∙ ap normal (come_is a b w t))

pub made_by : (t : List Piece) (xs : List Tree) → LeadsFrom t xs → pieces_by xs (applied t xs) (pairs t) ≡ normal t
made_by t xs h = made_from t [] [] xs 0 0 0 0 h (record { old_at = refl; new_at = refl })
