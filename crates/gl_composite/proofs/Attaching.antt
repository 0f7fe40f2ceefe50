-- A member attached at the end, and one detached: what is told, and the way back.
use Rattle.std.specs.Prelude.{◌≡◌, ℕ, zero, suc, ◌+◌, ◌<◌, ◌≤◌, List, [], ◌∷◌, ◌++◌, length, map, sum, take, drop, insert, remove, slice_get, Some, refl}
use Rattle.std.proofs.Common.{ap, sym, ◌∙◌, arith, subst}
use Rattle.std.proofs.lemmas.List.{append-nil, map-append, take-map, drop-map}
use Rattle.std.proofs.lemmas.List.Edits.{length-remove}
use Rattle.std.proofs.lemmas.Option.{slice_get_within}
use Rattle.gl_joined.specs.Tree.{Tree}
use Rattle.gl_joined.specs.Piece.{Piece, inserted, deleted, identity, old_len, new_len, normal, IsNormal}
use Rattle.gl_joined.proofs.Normal.{normal_is}
use Rattle.gl_joined.proofs.DeltaChanges.{old_len-append, new_len-append}
use Rattle.gl_joined.proofs.Lengths.{old_len-identity, new_len-identity, old_len-inserted, new_len-inserted, old_len-deleted, new_len-deleted}
use Rattle.gl_joined.proofs.DeltaEdits.{identity_normal, append_normal}
use Rattle.spec_views.specs.Composite.{composite_view, attach_told, detach_told}
use Rattle.gl_joined.proofs.Entries.{sum-first, sum-append}
use Rattle.gl_joined.proofs.Joined.{sum_split}
use Rattle.gl_kernel.specs.Plans.{CanTell}
use Rattle.gl_kernel.proofs.Spreads.{normal-append}
use Rattle.gl_kernel.proofs.Play.{remove-insert}
use Rattle.gl_composite.specs.Kept.{IsWithin}
use Rattle.gl_composite.specs.Stands.{Contents, list_at}
use Rattle.gl_composite.proofs.Members.{shown_is}

pub contents_same : (limit : ℕ) (a b c d : List ℕ) → a ≡ b → c ≡ d
    → (let P : List ℕ → List ℕ → Contents = λ lists lens. record { limit = limit; lists = lists; lens = lens } in P a c ≡ P b d)
contents_same limit a b c d e f =
    let P : List ℕ → List ℕ → Contents = λ lists lens. record { limit = limit; lists = lists; lens = lens } in
    ap (λ lists. P lists c) e ∙ ap (P b) f

-- what is put in at the end
pub insert_last : (xs : List ℕ) (at x : ℕ) → at ≡ length xs → insert xs at x ≡ xs ++ x ∷ []
insert_last [] zero x e = refl
insert_last [] (suc at) x e = absurd (omega (arith, e))
insert_last (y ∷ xs) zero x e = absurd (omega (arith, e))
insert_last (y ∷ xs) (suc at) x e = ap (λ ys. y ∷ ys) (insert_last xs at x (omega (arith, e)))

pub remove_last : (xs : List ℕ) (at x : ℕ) → at ≡ length xs → remove (xs ++ x ∷ []) at ≡ xs
remove_last xs at x e = ap (λ ys. remove ys at) (sym (insert_last xs at x e)) ∙ remove-insert xs at x (omega (arith, e))

pub sum_last : (ns : List ℕ) (n : ℕ) → sum (ns ++ n ∷ []) ≡ sum ns + n
sum_last ns n = omega (arith, sum-append ns (n ∷ []), sum-first n [])

-- a part that is inserted after so many elements
pub can_attach : (out : List Piece) (n : ℕ) (xs : List Tree) → out ≡ identity n → n + length xs ≤ 2147483647 → CanTell (map inserted xs) out
can_attach out n xs e h = record {
  olds = omega (arith, ap old_len e, old_len-identity n, old_len-inserted xs, h);
  news = omega (arith, ap new_len e, new_len-identity n, new_len-inserted xs, h);
}

pub attached_is : (out more : List Piece) (n : ℕ) (xs : List Tree) → out ≡ identity n → more ≡ normal (out ++ map inserted xs) → more ≡ identity n ++ map inserted xs
attached_is out more n xs e f = f ∙ (ap (λ ps. normal (ps ++ map inserted xs)) e ∙ normal_is (identity n ++ map inserted xs) (append_normal n xs))

pub attach_is : (shows : ℕ → List Tree) (lists lens : List ℕ) (list : ℕ) (xs : List Tree) → lens ≡ map (λ m. length (shows m)) lists → shows list ≡ xs
    → identity (sum lens) ++ map inserted xs ≡ attach_told lists shows list
attach_is shows lists lens list xs e f =
    ap (λ n. identity n ++ map inserted xs) (shown_is shows lists lens e) ∙ ap (λ ys. identity (length (composite_view lists shows)) ++ map inserted ys) (sym f)

pub attached_lens : (shows : ℕ → List Tree) (lists lens : List ℕ) (list : ℕ) (xs : List Tree) → lens ≡ map (λ m. length (shows m)) lists → shows list ≡ xs
    → lens ++ length xs ∷ [] ≡ map (λ m. length (shows m)) (lists ++ list ∷ [])
attached_lens shows lists lens list xs e f =
    ap (λ ns. ns ++ length xs ∷ []) e
    ∙ (ap (λ ys. map (λ m. length (shows m)) lists ++ length ys ∷ []) (sym f) ∙ sym (map-append (λ m. length (shows m)) lists (list ∷ [])))

-- a part that is deleted, with so many elements before it and after it
deleted_normal : (a : ℕ) (xs : List Tree) (c : ℕ) → IsNormal ((identity a ++ map deleted xs) ++ identity c)
deleted_normal zero [] c = identity_normal c
deleted_normal zero (x ∷ xs) c = deleted_normal zero xs c
deleted_normal (suc a) xs c = deleted_normal a xs c

pub can_detach : (out : List Piece) (n : ℕ) (xs : List Tree) → out ≡ identity n → n + length xs ≤ 2147483647 → CanTell (map deleted xs) out
can_detach out n xs e h = record {
  olds = omega (arith, ap old_len e, old_len-identity n, old_len-deleted xs, h);
  news = omega (arith, ap new_len e, new_len-identity n, new_len-deleted xs, h);
}

before_normal : (a : ℕ) (xs : List Tree) → IsNormal (identity a ++ map deleted xs)
before_normal a xs = let P : List Piece → Type 0 = λ ps. IsNormal ps in subst P (append-nil (identity a ++ map deleted xs)) (deleted_normal a xs 0)

pub can_pass : (out more : List Piece) (n : ℕ) (xs : List Tree) (rest : ℕ) → out ≡ identity n → more ≡ normal (out ++ map deleted xs) → n + length xs + rest ≤ 2147483647
    → CanTell (identity rest) more
can_pass out more n xs rest e f h =
    let is : more ≡ identity n ++ map deleted xs = f ∙ (ap (λ ps. normal (ps ++ map deleted xs)) e ∙ normal_is (identity n ++ map deleted xs) (before_normal n xs)) in
    record {
      olds = omega (arith, ap old_len is, old_len-append (identity n) (map deleted xs), old_len-identity n, old_len-deleted xs, old_len-identity rest, h);
      news = omega (arith, ap new_len is, new_len-append (identity n) (map deleted xs), new_len-identity n, new_len-deleted xs, new_len-identity rest, h);
    }

pub detached_is : (out more last : List Piece) (n : ℕ) (xs : List Tree) (rest : ℕ) → out ≡ identity n → more ≡ normal (out ++ map deleted xs) → last ≡ normal (more ++ identity rest)
    → last ≡ (identity n ++ map deleted xs) ++ identity rest
detached_is out more last n xs rest e f g =
    let whole : List Piece = (identity n ++ map deleted xs) ++ identity rest in
    g ∙ (ap (λ ps. normal (ps ++ identity rest)) (f ∙ ap (λ ps. normal (ps ++ map deleted xs)) e)
    ∙ (normal-append (identity n ++ map deleted xs) (identity rest) ∙ normal_is whole (deleted_normal n xs rest)))

-- the one member at an index
member_at : (shows : ℕ → List Tree) (lists : List ℕ) (at : ℕ) → at < length lists → composite_view (take 1 (drop at lists)) shows ≡ shows (list_at lists at)
member_at shows [] at h = absurd (omega (arith, h))
member_at shows (m ∷ lists) zero h = append-nil (shows m)
member_at shows (m ∷ lists) (suc at) h = member_at shows lists at (omega (arith, h))

prefix_length : (shows : ℕ → List Tree) (lists lens : List ℕ) (at : ℕ) → lens ≡ map (λ m. length (shows m)) lists → sum (take at lens) ≡ length (composite_view (take at lists) shows)
prefix_length shows lists lens at e =
    shown_is shows (take at lists) (take at lens) (ap (take at) e ∙ take-map (λ m. length (shows m)) at lists)

back_len : (shows : ℕ → List Tree) (lists lens : List ℕ) (at : ℕ) → lens ≡ map (λ m. length (shows m)) lists → sum (drop at lens) ≡ length (composite_view (drop at lists) shows)
back_len shows lists lens at e =
    shown_is shows (drop at lists) (drop at lens) (ap (drop at) e ∙ drop-map (λ m. length (shows m)) at lists)

pub detach_is : (shows : ℕ → List Tree) (lists lens : List ℕ) (at : ℕ) (xs : List Tree) → lens ≡ map (λ m. length (shows m)) lists → at < length lists → shows (list_at lists at) ≡ xs
    → (identity (sum (take at lens)) ++ map deleted xs) ++ identity (sum (drop (suc at) lens)) ≡ detach_told lists shows at
detach_is shows lists lens at xs e h f =
    let told : ℕ → List Tree → ℕ → List Piece = λ a ys c. (identity a ++ map deleted ys) ++ identity c in
    ap (λ a. told a xs (sum (drop (suc at) lens))) (prefix_length shows lists lens at e)
    ∙ (ap (λ c. told (length (composite_view (take at lists) shows)) xs c) (back_len shows lists lens (suc at) e)
    ∙ ap (λ ys. told (length (composite_view (take at lists) shows)) ys (length (composite_view (drop (suc at) lists) shows))) (sym (member_at shows lists at h ∙ f)))

pub detached_lens : (shows : ℕ → List Tree) (lists lens : List ℕ) (at : ℕ) → lens ≡ map (λ m. length (shows m)) lists
    → remove lens at ≡ map (λ m. length (shows m)) (remove lists at)
detached_lens shows lists lens at e =
    let f : ℕ → ℕ = λ m. length (shows m) in
    ap (λ ns. remove ns at) e
    ∙ (both _ _ _ _ (take-map f at lists) (drop-map f (suc at) lists) ∙ sym (map-append f (take at lists) (drop (suc at) lists)))
  where
    both : (a b c d : List ℕ) → a ≡ b → c ≡ d → a ++ c ≡ b ++ d
    both a b c d g h = cc

-- the lengths that are left
pub left_sum : (lens : List ℕ) (at n : ℕ) → slice_get lens at ≡ Some n → sum (remove lens at) + n ≡ sum lens
left_sum lens at n e = omega (arith, sum_split lens at n e, sum-append (take at lens) (drop (suc at) lens))

pub within_same : (limit : ℕ) (a b c d : List ℕ) → a ≡ b → c ≡ d → IsWithin limit b d → IsWithin limit a c
within_same limit a b c d e f h =
    let P : List ℕ → List ℕ → Type 0 = λ lists lens. IsWithin limit lists lens in
    let Q : List ℕ → Type 0 = λ lists. P lists c in
    subst Q (sym e) (subst (P b) (sym f) h)

pub left_within : (limit : ℕ) (lists lens : List ℕ) (at n : ℕ) → slice_get lens at ≡ Some n → IsWithin limit lists lens → IsWithin limit (remove lists at) (remove lens at)
left_within limit lists lens at n e h =
    let low : at < length lens = slice_get_within lens at n e in
    record {
      paired = omega (arith, length-remove lists at (omega (arith, low, h.paired)), length-remove lens at low, h.paired);
      within = omega (arith, left_sum lens at n e, h.within);
      few = h.few;
    }
