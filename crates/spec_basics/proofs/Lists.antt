-- Laws of lists.
use Rattle.std.proofs.Common.{◌≡◌, ℕ, suc, zero, List, [], ◌∷◌, ◌++◌, length, map, Option, Some, None, refl}
use Rattle.std.specs.Prelude.{filter_map, flat_map, slice_get, slice_index, replicate}
use Rattle.std.specs.List.{cons_option, slice_index_or, AllByRecursion}

pub all_weaker : {X : Type 0} (P Q : X → Type 0) → ((x : X) → P x → Q x) → (xs : List X) → AllByRecursion P xs
    → AllByRecursion Q xs
all_weaker P Q f [] h = tt
all_weaker P Q f (x ∷ xs) h = (f x h.0, all_weaker P Q f xs h.1)

pub all_both : {X : Type 0} (P Q R : X → Type 0) → ((x : X) → P x → Q x → R x) → (xs : List X) → AllByRecursion P xs
    → AllByRecursion Q xs → AllByRecursion R xs
all_both P Q R f [] h k = tt
all_both P Q R f (x ∷ xs) h k = (f x h.0 k.0, all_both P Q R f xs h.1 k.1)

-- what each item of a list has by its index
pub all_by_index : {X : Type 0} (P : X → Type 0) (xs : List X) → ((k : ℕ) (x : X) → slice_get xs k ≡ Some x → P x)
    → AllByRecursion P xs
all_by_index P [] h = tt
all_by_index P (x ∷ xs) h = (h 0 x refl, all_by_index P xs (λ k y e. h (suc k) y e))

pub all_map : {X Y : Type 0} (P : Y → Type 0) (f : X → Y) (xs : List X) → AllByRecursion (λ x. P (f x)) xs
    → AllByRecursion P (map f xs)
all_map P f [] h = tt
all_map P f (x ∷ xs) h = (h.0, all_map P f xs h.1)

pub all_append : {X : Type 0} (P : X → Type 0) (xs ys : List X) → AllByRecursion P xs → AllByRecursion P ys
    → AllByRecursion P (xs ++ ys)
all_append P [] ys h k = k
all_append P (x ∷ xs) ys h k = (h.0, all_append P xs ys h.1 k)

pub all_left : {X : Type 0} (P : X → Type 0) (xs ys : List X) → AllByRecursion P (xs ++ ys) → AllByRecursion P xs
all_left P [] ys h = tt
all_left P (x ∷ xs) ys h = (h.0, all_left P xs ys h.1)

pub all_right : {X : Type 0} (P : X → Type 0) (xs ys : List X) → AllByRecursion P (xs ++ ys) → AllByRecursion P ys
all_right P [] ys h = h
all_right P (x ∷ xs) ys h = all_right P xs ys h.1

pub all_parts : {X Y : Type 0} (P : Y → Type 0) (f : X → List Y) (xs : List X) → AllByRecursion P (flat_map f xs)
    → AllByRecursion (λ x. AllByRecursion P (f x)) xs
all_parts P f [] h = tt
all_parts P f (x ∷ xs) h = (
  all_left P (f x) (flat_map f xs) h,
  all_parts P f xs (all_right P (f x) (flat_map f xs) h),
)

pub all_given : {A Y : Type 0} (f : A → Option Y) (P : Y → Type 0) (xs : List A)
    → AllByRecursion (λ x. (y : Y) → f x ≡ Some y → P y) xs → AllByRecursion P (filter_map f xs)
all_given f P [] h = tt
all_given {Y = Y} f P (x ∷ xs) h = by (f x) refl (all_given f P xs h.1)
  where
    by : (o : Option Y) → f x ≡ o → AllByRecursion P (filter_map f xs)
        → AllByRecursion P (cons_option o (filter_map f xs))
    by None g rest = rest
    by (Some y) g rest = (h.0 y g, rest)

pub index_at_seam : (ys zs : List ℕ) (k : ℕ) → slice_index (ys ++ k ∷ zs) (length ys) ≡ k
index_at_seam [] zs k = refl
index_at_seam (y ∷ ys) zs k = index_at_seam ys zs k

-- a list of one item throughout, wherever it is read
pub replicate_at : {X : Type 0} (x : X) (n k : ℕ) → slice_index_or (replicate n x) k x ≡ x
replicate_at x zero k = refl
replicate_at x (suc n) zero = refl
replicate_at x (suc n) (suc k) = replicate_at x n k
