-- What is told of stretches of kept elements.
use Rattle.std.specs.Prelude.{◌≡◌, ℕ, zero, suc, ◌+◌, ◌-◌, ◌<◌, ◌≤◌, Bool, true, false, List, [], ◌∷◌, ◌++◌, replicate, slice_get, Some, refl}
use Rattle.std.proofs.Common.{ap, sym, ◌∙◌, arith}
use Rattle.std.proofs.lemmas.Option.{get_or_from_slice_get}
use Rattle.spec_views.specs.Tree.{Tree}
use Rattle.spec_views.specs.Piece.{Piece, kept, old_len, new_len}
use Rattle.spec_views.proofs.Lengths.{old_len-identity, new_len-identity}
use Rattle.spec_views.specs.Chosen.{told_of_pair}
use Rattle.gl_range.specs.declared.follow.Slices.{Slices}
use Rattle.gl_range.specs.Told.{shows, AreAlike, value_at, told_in, told_alike}
use Rattle.gl_kernel.proofs.Pairs.{pair-append}
use Rattle.gl_range.proofs.Tellings.{told-append, from_same}

-- the same places, counted from the next one
abbrev All : (ℕ → Bool) → Bool → ℕ → ℕ → Type 0
All f b i n = (k : ℕ) → k < n → f (i + k) ≡ b

all_first : (f : ℕ → Bool) (b : Bool) (i n : ℕ) → All f b i (suc n) → f i ≡ b
all_first f b i n h = let e : i ≡ i + 0 = omega arith in ap f e ∙ h 0 (omega arith)

all_rest : (f : ℕ → Bool) (b : Bool) (i n : ℕ) → All f b i (suc n) → All f b (suc i) n
all_rest f b i n h = λ k less. let e : suc i + k ≡ i + suc k = omega arith in ap f e ∙ h (suc k) (omega (arith, less))

same_kept : (a b c d : Bool) (x : Tree) (r s : List Piece) → a ≡ b → c ≡ d → r ≡ s → told_of_pair a c kept x x r ≡ told_of_pair b d kept x x s
same_kept a b c d x r s e f h = cc

keeps_alike : (ys : List Tree) (slices : Slices) (b c : Bool) (n i j : ℕ) → All (shows slices.was) b i n → All (shows slices.is) c j n → told_in ys slices i j (replicate n kept) ≡ told_alike ys b c j n
keeps_alike ys slices b c zero i j h k = refl
keeps_alike ys slices b c (suc n) i j h k =
    same_kept _ _ _ _ (value_at ys j) _ _ (all_first (shows slices.was) b i n h) (all_first (shows slices.is) c j n k)
    (keeps_alike ys slices b c n (suc i) (suc j) (all_rest (shows slices.was) b i n h) (all_rest (shows slices.is) c j n k))

keeps_split : (m n : ℕ) → let x = kept in replicate (m + n) x ≡ replicate m x ++ replicate n x
keeps_split zero n = let e : 0 + n ≡ n = omega arith in ap (λ k. replicate k kept) e
keeps_split (suc m) n = let e : suc m + n ≡ suc (m + n) = omega arith in ap (λ k. replicate k kept) e ∙ ap (λ ps. kept ∷ ps) (keeps_split m n)

-- a stretch of elements that are shown or hidden alike, and then the others
pub stretch_told : (ys : List Tree) (slices : Slices) (b c : Bool) (i j left size : ℕ) → size ≤ left → b ≡ shows slices.was i → c ≡ shows slices.is j
    → AreAlike slices.was i size → AreAlike slices.is j size
    → told_in ys slices i j (replicate left kept) ≡ told_alike ys b c j size ++ told_in ys slices (i + size) (j + size) (replicate (left - size) kept)
stretch_told ys slices b c i j left size h e f was is =
    let all : left ≡ size + (left - size) = omega (arith, h) in
    let first : told_in ys slices i j (replicate size kept) ≡ told_alike ys b c j size =
    keeps_alike ys slices b c size i j (λ k less. was k less ∙ sym e) (λ k less. is k less ∙ sym f) in
    let olds = old_len-identity size in
    let news = new_len-identity size in
    ap (λ n. told_in ys slices i j (replicate n kept)) all
    ∙ (ap (told_in ys slices i j) (keeps_split size (left - size))
    ∙ (told-append ys slices i j (replicate size kept) (replicate (left - size) kept)
    ∙ (ap (λ ps. ps ++ told_in ys slices (i + old_len (replicate size kept)) (j + new_len (replicate size kept)) (replicate (left - size) kept)) first
    ∙ ap (λ ps. told_alike ys b c j size ++ ps) (from_same ys slices _ _ (i + size) (j + size) (replicate (left - size) kept) (ap (λ k. i + k) olds) (ap (λ k. j + k) news)))))

-- fewer places are alike too
pub alike_less : (f : ℕ → Bool) (i m n : ℕ) → n ≤ m → ((k : ℕ) → k < m → f (i + k) ≡ f i) → (k : ℕ) → k < n → f (i + k) ≡ f i
alike_less f i m n h g = λ k less. g k (omega (arith, h, less))

-- elements that stay are told in one, elements that stay hidden aren't told
pub all_kept : (ys : List Tree) (j n : ℕ) → told_alike ys true true j n ≡ replicate n kept
all_kept ys j zero = refl
all_kept ys j (suc n) = ap (λ ps. kept ∷ ps) (all_kept ys (suc j) n)

pub all_hidden : (ys : List Tree) (j n : ℕ) → told_alike ys false false j n ≡ []
all_hidden ys j zero = refl
all_hidden ys j (suc n) = all_hidden ys (suc j) n

-- the first element, and then the others
pub alike_first : (ys : List Tree) (b c : Bool) (at end : ℕ) (x : Tree) → at < end → slice_get ys at ≡ Some x
    → told_alike ys b c at (end - at) ≡ told_of_pair b c kept x x [] ++ told_alike ys b c (at + 1) (end - (at + 1))
alike_first ys b c at end x h e =
    let more : end - at ≡ suc (end - (at + 1)) = omega (arith, h) in
    let next : suc at ≡ at + 1 = omega arith in
    ap (told_alike ys b c at) more
    ∙ (ap (λ v. told_of_pair b c kept v v (told_alike ys b c (suc at) (end - (at + 1)))) (get_or_from_slice_get ys at x _ e)
    ∙ (pair-append b c kept x x [] (told_alike ys b c (suc at) (end - (at + 1)))
    ∙ ap (λ k. told_of_pair b c kept x x [] ++ told_alike ys b c k (end - (at + 1))) next))

pub alike_none : (ys : List Tree) (b c : Bool) (at end : ℕ) → end ≤ at → told_alike ys b c at (end - at) ≡ []
alike_none ys b c at end h = let e : end - at ≡ 0 = omega (arith, h) in ap (told_alike ys b c at) e
