-- The pieces that colours and values stand for.
use Rattle.std.proofs.Common.{◌≡◌, ◌∙◌, ℕ, zero, suc, ◌+◌, ◌-◌, ◌≤◌, List, [], ◌∷◌, ◌++◌, length, map, take, drop, replicate, refl, ap, sym, subst, arith, append_assoc}
use Rattle.std.specs.List.{insert, remove, slice_get}
use Rattle.std.specs.Prelude.{Some}
use Rattle.std.proofs.Math.Numerals.{add-one}
use Rattle.std.proofs.lemmas.List.{map-append, take-map, drop-map, take_at, drop_at, take-append-drop, append-nil}
use Rattle.std.proofs.lemmas.Option.{same_Some}
use Rattle.spec_value.specs.Tree.{Tree}
use Rattle.spec_lists.specs.Piece.{Piece, kept, updated, deleted, inserted, inverted, identity}
use Rattle.spec_lists.specs.Changes.{changed_len}
use Rattle.spec_lists.proofs.ChangeCounts.{changed_len-append}
use Rattle.gl_fourcolour.specs.Colours.{Colours}
use Rattle.gl_fourcolour.specs.Colours as colours
use Rattle.gl_delta.specs.Listed.{Listed}
use Rattle.gl_delta.specs.Model.{DeltaModel}
use Rattle.gl_delta.specs.Store.{colour_of, told_old, told_new, old_values, new_values, spliced, told_by, IsStored}
use Rattle.gl_delta.proofs.Cuts.{cut_at}

told_again : (ps : List Piece) → told_by (map colour_of ps) (old_values ps) (new_values ps) ≡ ps
told_again [] = refl
told_again (kept ∷ ps) = ap (λ qs. kept ∷ qs) (told_again ps)
told_again (updated v w ∷ ps) = ap (λ qs. updated v w ∷ qs) (told_again ps)
told_again (deleted v ∷ ps) = ap (λ qs. deleted v ∷ qs) (told_again ps)
told_again (inserted w ∷ ps) = ap (λ qs. inserted w ∷ qs) (told_again ps)

-- a store of pieces shows them
pub stored_is : (cs : Colours) (vs ws : Listed) (room : ℕ) (ps : List Piece) → IsStored cs vs ws room ps → told_by cs.colours vs.values ws.values ≡ ps
stored_is cs vs ws room ps s =
    ap (λ xs. told_by xs vs.values ws.values) s.colours_are
    ∙ (ap (λ xs. told_by (map colour_of ps) xs ws.values) s.olds_are
    ∙ (ap (λ xs. told_by (map colour_of ps) (old_values ps) xs) s.news_are
    ∙ told_again ps))

pub stored_again : (cs : Colours) (vs ws : Listed) (room : ℕ) (ps : List Piece) → IsStored cs vs ws room ps → IsStored cs vs ws room (told_by cs.colours vs.values ws.values)
stored_again cs vs ws room ps s = let P : List Piece → Type 0 = IsStored cs vs ws room in subst P (sym (stored_is cs vs ws room ps s)) s

-- what is stored is what contracts see
pub record Held (cs : Colours) (vs ws : Listed) (room : ℕ) (value : DeltaModel) : Type 0 where
  pub stored : IsStored cs vs ws room value.pieces
  pub room_is : room ≡ value.room

pub held_is : (cs : Colours) (vs ws : Listed) (room : ℕ) (value : DeltaModel) → IsStored cs vs ws room (told_by cs.colours vs.values ws.values) → record { pieces = told_by cs.colours vs.values ws.values; room = room } ≡ value → Held cs vs ws room value
held_is cs vs ws room value s e =
    let P : List Piece → Type 0 = IsStored cs vs ws room in
    record { stored = subst P (ap (λ (t : DeltaModel). t.pieces) e) s; room_is = ap (λ (t : DeltaModel). t.room) e }

-- the colours of edited pieces
pub colours_put : (ps : List Piece) (at : ℕ) (x : Piece) → colours.inserted (map colour_of ps) at (colour_of x) 1 ≡ map colour_of (insert ps at x)
unfolding colours.inserted
colours_put ps at x =
    ap (λ xs. xs ++ (colour_of x ∷ drop at (map colour_of ps))) (take-map colour_of at ps)
    ∙ (ap (λ xs. map colour_of (take at ps) ++ colour_of x ∷ xs) (drop-map colour_of at ps)
    ∙ sym (map-append colour_of (take at ps) (x ∷ drop at ps)))

pub colours_cut : (ps : List Piece) (at : ℕ) → colours.removed (map colour_of ps) at 1 ≡ map colour_of (remove ps at)
unfolding colours.removed
colours_cut ps at =
    ap (λ xs. xs ++ drop (at + 1) (map colour_of ps)) (take-map colour_of at ps)
    ∙ (ap (λ k. map colour_of (take at ps) ++ drop k (map colour_of ps)) (add-one at)
    ∙ (ap (λ xs. map colour_of (take at ps) ++ xs) (drop-map colour_of (suc at) ps)
    ∙ sym (map-append colour_of (take at ps) (drop (suc at) ps))))

colours_keep : (n : ℕ) → replicate n 0 ≡ map colour_of (identity n)
colours_keep zero = refl
colours_keep (suc n) = ap (λ xs. 0 ∷ xs) (colours_keep n)

pub length-colours : (ps : List Piece) → length (map colour_of ps) ≡ length ps
length-colours [] = refl
length-colours (p ∷ ps) = ap suc (length-colours ps)

at_end : (xs : List ℕ) (at n : ℕ) → at ≡ length xs → colours.inserted xs at 0 n ≡ xs ++ replicate n 0
unfolding colours.inserted
at_end xs at n e =
    let whole : take at xs ≡ xs = ap (λ ys. take at ys) (sym (append-nil xs)) ∙ take_at xs [] at (sym e) in
    let none : drop at xs ≡ [] = ap (λ ys. drop at ys) (sym (append-nil xs)) ∙ drop_at xs [] at (sym e) in
    ap (λ ys. ys ++ (replicate n 0 ++ drop at xs)) whole ∙ (ap (λ ys. xs ++ (replicate n 0 ++ ys)) none ∙ ap (λ ys. xs ++ ys) (append-nil (replicate n 0)))

pub colours_more : (ps : List Piece) (at n : ℕ) → at ≡ length ps → colours.inserted (map colour_of ps) at 0 n ≡ map colour_of (ps ++ identity n)
colours_more ps at n e =
    at_end (map colour_of ps) at n (e ∙ sym (length-colours ps))
    ∙ (ap (λ xs. map colour_of ps ++ xs) (colours_keep n) ∙ sym (map-append colour_of ps (identity n)))

pub colours_len : (cs : List ℕ) (ps : List Piece) → cs ≡ map colour_of ps → length cs ≡ length ps
colours_len cs ps e = ap length e ∙ length-colours ps

-- the values of edited pieces
pub old_values-append : (b a : List Piece) → old_values (b ++ a) ≡ old_values b ++ old_values a
old_values-append [] a = refl
old_values-append (p ∷ b) a = ap (λ vs. told_old p ++ vs) (old_values-append b a) ∙ sym (append_assoc (told_old p) (old_values b) (old_values a))

pub new_values-append : (b a : List Piece) → new_values (b ++ a) ≡ new_values b ++ new_values a
new_values-append b a = ap old_values (map-append inverted b a) ∙ old_values-append (map inverted b) (map inverted a)

splice_parts : (vs ws ys : List Tree) (at : ℕ) → at ≡ length vs → spliced (vs ++ ws) at ys ≡ vs ++ (ys ++ ws)
splice_parts vs ws ys at e =
    ap (λ xs. xs ++ (ys ++ drop at (vs ++ ws))) (take_at vs ws at (sym e)) ∙ ap (λ xs. vs ++ (ys ++ xs)) (drop_at vs ws at (sym e))

-- values in two parts by a function of pieces that goes over ++, with the values of one piece between them
abbrev pub Splits : (List Piece → List Tree) → (Piece → List Tree) → Type 0
Splits values told = (b a : List Piece) (x : Piece) → values (b ++ x ∷ a) ≡ values b ++ (told x ++ values a)

pub old_splits : Splits old_values told_old
old_splits b a x = old_values-append b (x ∷ a)

pub new_splits : Splits new_values told_new
new_splits b a x = new_values-append b (x ∷ a)

pub values_put : (values : List Piece → List Tree) (told : Piece → List Tree) → Splits values told → ((b a : List Piece) → values (b ++ a) ≡ values b ++ values a) → (vs : List Tree) (ps : List Piece) (at i : ℕ) (x : Piece) → vs ≡ values ps → i ≡ length (values (take at ps)) → spliced vs i (told x) ≡ values (insert ps at x)
values_put values told split join vs ps at i x e f =
    let parts : vs ≡ values (take at ps) ++ values (drop at ps) = e ∙ (ap values (sym (take-append-drop at ps)) ∙ join (take at ps) (drop at ps)) in
    ap (λ xs. spliced xs i (told x)) parts
    ∙ (splice_parts (values (take at ps)) (values (drop at ps)) (told x) i f ∙ sym (split (take at ps) (drop at ps) x))

-- values with some put in at a place, in parts
same_parts : (fs bs cs ds : List Tree) → length fs ≡ length bs → fs ++ cs ≡ bs ++ ds → (fs ≡ bs) × (cs ≡ ds)
same_parts [] [] cs ds e f = (refl, f)
same_parts [] (b ∷ bs) cs ds e f = cc
same_parts (a ∷ fs) [] cs ds e f = cc
same_parts (a ∷ fs) (b ∷ bs) cs ds e f =
    let heads : a ≡ b = cc in
    let tails : fs ++ cs ≡ bs ++ ds = cc in
    let r = same_parts fs bs cs ds (omega (arith, e)) tails in
    (same a b fs bs heads r.0, r.1)
  where
    same : (x y : Tree) (xs zs : List Tree) → x ≡ y → xs ≡ zs → x ∷ xs ≡ y ∷ zs
    same x y xs zs p q = cc

pub unspliced : (vs fs ys zs cs : List Tree) (i : ℕ) → spliced vs i ys ≡ fs ++ (zs ++ cs) → i ≡ length fs → i ≤ length vs → length ys ≡ length zs → (vs ≡ fs ++ cs) × (ys ≡ zs)
unspliced vs [] ys zs cs i e f g h =
    let none : spliced vs i ys ≡ ys ++ vs = ap (λ k. spliced vs k ys) f in
    let r = same_parts ys zs vs cs h (sym none ∙ e) in
    (r.1, r.0)
unspliced [] (a ∷ fs) ys zs cs i e f g h = absurd (omega (arith, f, g))
unspliced (v ∷ vs) (a ∷ fs) ys zs cs i e f g h =
    let k : i ≡ suc (i - 1) = omega (arith, f) in
    let more : v ∷ spliced vs (i - 1) ys ≡ a ∷ (fs ++ (zs ++ cs)) = ap (λ j. spliced (v ∷ vs) j ys) (sym k) ∙ e in
    let r = unspliced vs fs ys zs cs (i - 1) (ap (drop 1) more) (omega (arith, f)) (omega (arith, g, f)) h in
    (head_same v a vs (fs ++ cs) (heads v a _ _ more) r.0, r.1)
  where
    heads : (x y : Tree) (xs zs : List Tree) → x ∷ xs ≡ y ∷ zs → x ≡ y
    heads x y xs zs q = cc

    head_same : (x y : Tree) (xs zs : List Tree) → x ≡ y → xs ≡ zs → x ∷ xs ≡ y ∷ zs
    head_same x y xs zs p q = cc

-- the value that a piece tells stands after those of the pieces before it
pub told_at : (values : List Piece → List Tree) (told : Piece → List Tree) → Splits values told → (ps : List Piece) (at : ℕ) (x : Piece) (v : Tree) → slice_get ps at ≡ Some x → told x ≡ v ∷ [] → slice_get (values ps) (length (values (take at ps))) ≡ Some v
told_at values told split ps at x v got e =
    let whole : values ps ≡ values (take at ps) ++ (told x ++ values (drop (suc at) ps)) = ap values (sym (cut_at ps at x got)) ∙ split (take at ps) (drop (suc at) ps) x in
    let parts : values ps ≡ values (take at ps) ++ v ∷ values (drop (suc at) ps) = whole ∙ ap (λ vs. values (take at ps) ++ (vs ++ values (drop (suc at) ps))) e in
    ap (λ vs. slice_get vs (length (values (take at ps)))) parts ∙ seam (values (take at ps)) (values (drop (suc at) ps))
  where
    seam : (fs bs : List Tree) → slice_get (fs ++ v ∷ bs) (length fs) ≡ Some v
    seam [] bs = refl
    seam (a ∷ fs) bs = seam fs bs

-- a value taken out, put in again
pub put_again : (vs ws : List Tree) (i : ℕ) (v : Tree) → slice_get vs i ≡ Some v → ws ≡ remove vs i → vs ≡ spliced ws i (v ∷ [])
put_again vs ws i v e f = there vs i e ∙ ap (λ zs. spliced zs i (v ∷ [])) (sym f)
  where
    there : (xs : List Tree) (k : ℕ) → slice_get xs k ≡ Some v → xs ≡ spliced (remove xs k) k (v ∷ [])
    there [] k g = cc
    there (x ∷ xs) zero g = ap (λ y. y ∷ xs) (same_Some x v g)
    there (x ∷ xs) (suc k) g = ap (λ ys. x ∷ ys) (there xs k g)

pub values_cut : (values : List Piece → List Tree) (told : Piece → List Tree) → Splits values told → ((b a : List Piece) → values (b ++ a) ≡ values b ++ values a) → (vs ws ys : List Tree) (ps : List Piece) (at i : ℕ) (x : Piece) → vs ≡ values ps → slice_get ps at ≡ Some x → i ≡ length (values (take at ps)) → vs ≡ spliced ws i ys → i ≤ length ws → length ys ≡ length (told x) → (ws ≡ values (remove ps at)) × (ys ≡ told x)
values_cut values told split join vs ws ys ps at i x e got f g within h =
    let parts : spliced ws i ys ≡ values (take at ps) ++ (told x ++ values (drop (suc at) ps)) = sym g ∙ (e ∙ (ap values (sym (cut_at ps at x got)) ∙ split (take at ps) (drop (suc at) ps) x)) in
    let r = unspliced ws (values (take at ps)) ys (told x) (values (drop (suc at) ps)) i parts f within h in
    (r.0 ∙ sym (join (take at ps) (drop (suc at) ps)), r.1)

-- how many changed pieces there are
changed_parts : (b a : List Piece) (x : Piece) → changed_len (b ++ x ∷ a) ≡ changed_len (b ++ a) + changed_len (x ∷ [])
changed_parts b a x = omega (arith, changed_len-append b (x ∷ a), changed_len-append b a, changed_len-append (x ∷ []) a)

pub changed_put : (ps : List Piece) (at : ℕ) (x : Piece) → changed_len (insert ps at x) ≡ changed_len ps + changed_len (x ∷ [])
changed_put ps at x = changed_parts (take at ps) (drop at ps) x ∙ ap (λ qs. changed_len qs + changed_len (x ∷ [])) (take-append-drop at ps)

pub changed_cut : (ps : List Piece) (at : ℕ) (x : Piece) → slice_get ps at ≡ Some x → changed_len (remove ps at) + changed_len (x ∷ []) ≡ changed_len ps
changed_cut ps at x got = sym (changed_parts (take at ps) (drop (suc at) ps) x) ∙ ap changed_len (cut_at ps at x got)

-- pieces that tell values are changed
pub old_few : (ps : List Piece) → length (old_values ps) ≤ changed_len ps
old_few [] = omega arith
old_few (kept ∷ ps) = omega (arith, old_few ps)
old_few (updated v w ∷ ps) = omega (arith, old_few ps)
old_few (deleted v ∷ ps) = omega (arith, old_few ps)
old_few (inserted w ∷ ps) = omega (arith, old_few ps)

pub changed_inverse : (ps : List Piece) → changed_len (map inverted ps) ≡ changed_len ps
changed_inverse [] = refl
changed_inverse (kept ∷ ps) = changed_inverse ps
changed_inverse (updated v w ∷ ps) = ap suc (changed_inverse ps)
changed_inverse (deleted v ∷ ps) = ap suc (changed_inverse ps)
changed_inverse (inserted w ∷ ps) = ap suc (changed_inverse ps)

pub new_few : (ps : List Piece) → length (new_values ps) ≤ changed_len ps
new_few ps = omega (arith, old_few (map inverted ps), changed_inverse ps)
