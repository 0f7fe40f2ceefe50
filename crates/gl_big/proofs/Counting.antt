-- What is made of the numbers from 0 on, one number more at a time.
use Rattle.std.proofs.Common.{◌≡◌, ◌∙◌, ◌+◌, ◌<◌, ℕ, zero, suc, List, [], ◌∷◌, ◌++◌, length, map, refl, sym, ap, arith, append_assoc, append-nil}
use Rattle.std.specs.Prelude.{flat_map}
use Rattle.std.specs.List.{range_with_len, AllByRecursion}

last_number : (from n last : ℕ) → from + n ≡ last → range_with_len from (suc n) ≡ range_with_len from n ++ last ∷ []
last_number from zero last e = let same : from ≡ last = omega (arith, e) in ap (λ k. k ∷ []) same
last_number from (suc n) last e = ap (λ ks. from ∷ ks) (last_number (from + 1) n last (omega (arith, e)))

counting_more : (k : ℕ) → range_with_len 0 (k + 1) ≡ range_with_len 0 k ++ k ∷ []
counting_more k = let next : k + 1 ≡ suc k = omega arith in ap (range_with_len 0) next ∙ last_number 0 k k (omega arith)

map_push : {X Y : Type 0} (f : X → Y) (xs : List X) (x : X) → map f (xs ++ x ∷ []) ≡ map f xs ++ f x ∷ []
map_push f [] x = refl
map_push f (y ∷ xs) x = ap (λ ys. f y ∷ ys) (map_push f xs x)

flat_push : {X Y : Type 0} (f : X → List Y) (xs : List X) (x : X) → flat_map f (xs ++ x ∷ []) ≡ flat_map f xs ++ f x
flat_push f [] x = append-nil (f x)
flat_push f (y ∷ xs) x = ap (λ ys. f y ++ ys) (flat_push f xs x) ∙ sym (append_assoc (f y) (flat_map f xs) (f x))

-- one item more
pub one_more : {X : Type 0} (f : ℕ → X) (before now : List X) (k : ℕ) → now ≡ before ++ map f (range_with_len 0 k)
    → now ++ f k ∷ [] ≡ before ++ map f (range_with_len 0 (k + 1))
one_more f before now k e =
    ap (λ ys. ys ++ f k ∷ []) e ∙ append_assoc before (map f (range_with_len 0 k)) (f k ∷ [])
    ∙ ap (λ ys. before ++ ys)
    (sym (ap (map f) (counting_more k) ∙ map_push f (range_with_len 0 k) k))

-- several items more
pub some_more : {X : Type 0} (f : ℕ → List X) (before now : List X) (k : ℕ) → now ≡ before ++ flat_map f (range_with_len 0 k)
    → now ++ f k ≡ before ++ flat_map f (range_with_len 0 (k + 1))
some_more f before now k e =
    ap (λ ys. ys ++ f k) e ∙ append_assoc before (flat_map f (range_with_len 0 k)) (f k)
    ∙ ap (λ ys. before ++ ys)
    (sym (ap (flat_map f) (counting_more k) ∙ flat_push f (range_with_len 0 k) k))

-- what each number has
pub all_counted : {X : Type 0} (P : X → Type 0) (f : ℕ → X) (from count most : ℕ) → from + count ≡ most → ((k : ℕ) → k < most → P (f k))
    → AllByRecursion P (map f (range_with_len from count))
all_counted P f from zero most e h = tt
all_counted P f from (suc count) most e h =
    (h from (omega (arith, e)), all_counted P f (from + 1) count most (omega (arith, e)) h)

-- a map of a map, flat
pub flat_mapped : {X Y Z : Type 0} (f : Y → List Z) (g : X → Y) (xs : List X) → flat_map f (map g xs) ≡ flat_map (λ x. f (g x)) xs
flat_mapped f g [] = refl
flat_mapped f g (x ∷ xs) = ap (λ ys. f (g x) ++ ys) (flat_mapped f g xs)

pub map_mapped : {X Y Z : Type 0} (f : Y → Z) (g : X → Y) (xs : List X) → map f (map g xs) ≡ map (λ x. f (g x)) xs
map_mapped f g [] = refl
map_mapped f g (x ∷ xs) = ap (λ ys. f (g x) ∷ ys) (map_mapped f g xs)
