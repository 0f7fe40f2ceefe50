-- Lists joined of parts: how long they are, and which element of which part stands at a position.
use Rattle.std.specs.Prelude.{◌≡◌, ℕ, zero, suc, ◌+◌, ◌<◌, ◌≤◌, List, [], ◌∷◌, ◌++◌, length, map, flat_map, sum, take, drop, get_or, slice_get, Some, None, refl}
use Rattle.std.proofs.Common.{ap, sym, ◌∙◌, arith, subst}
use Rattle.std.proofs.lemmas.List.{length-append}
use Rattle.std.proofs.lemmas.Option.{slice_get_past}
use Rattle.spec_value.specs.Tree.{Tree}
use Rattle.gl_joined.specs.Located.{StandsAt}
use Rattle.gl_joined.proofs.Entries.{sum-first}

-- the lengths before an index, the one at it, and those after it
pub sum_split : (ns : List ℕ) (i n : ℕ) → slice_get ns i ≡ Some n → sum ns ≡ sum (take i ns) + (n + sum (drop (suc i) ns))
sum_split [] i n e = absurd cc
sum_split (m ∷ ns) zero n e = omega (arith, sum-first m ns, same m n e)
  where
    same : (a b : ℕ) → Some a ≡ Some b → a ≡ b
    same a b f = cc
sum_split (m ∷ ns) (suc i) n e = omega (arith, sum-first m ns, sum-first m (take i ns), sum_split ns i n e)

-- no length is more than all together
pub part_within : (ns : List ℕ) (i n : ℕ) → slice_get ns i ≡ Some n → n ≤ sum ns
part_within ns i n e = omega (arith, sum_split ns i n e)

get_first : (xs ys : List Tree) (k : ℕ) → k < length xs → slice_get (xs ++ ys) k ≡ slice_get xs k
get_first [] ys k h = absurd (omega (arith, h))
get_first (x ∷ xs) ys zero h = refl
get_first (x ∷ xs) ys (suc k) h = get_first xs ys k (omega (arith, h))

get_rest : (xs ys : List Tree) (position k : ℕ) → position ≡ length xs + k → slice_get (xs ++ ys) position ≡ slice_get ys k
get_rest [] ys position k e = let f : position ≡ k = omega (arith, e) in ap (slice_get ys) f
get_rest (x ∷ xs) ys zero k e = absurd (omega (arith, e))
get_rest (x ∷ xs) ys (suc position) k e = get_rest xs ys position k (omega (arith, e))

module _ {X : Type 0} (f : X → List Tree) where
  pub joined_len : (xs : List X) → sum (map (λ x. length (f x)) xs) ≡ length (flat_map f xs)
  joined_len [] = refl
  joined_len (x ∷ xs) = omega (arith, sum-first (length (f x)) (map (λ y. length (f y)) xs), joined_len xs, length-append (f x) (flat_map f xs))

  stands : (xs : List X) (position i k n : ℕ) (d : X) → slice_get (map (λ x. length (f x)) xs) i ≡ Some n → k < n → position ≡ sum (take i (map (λ x. length (f x)) xs)) + k
      → slice_get (flat_map f xs) position ≡ slice_get (f (get_or xs i d)) k
  stands [] position i k n d e h p = absurd cc
  stands (x ∷ xs) position zero k n d e h p =
      let long : length (f x) ≡ n = same (length (f x)) n e in
      let at : position ≡ k = omega (arith, p) in
      ap (slice_get (f x ++ flat_map f xs)) at ∙ get_first (f x) (flat_map f xs) k (omega (arith, h, long))
    where
      same : (a b : ℕ) → Some a ≡ Some b → a ≡ b
      same a b g = cc
  stands (x ∷ xs) position (suc i) k n d e h p =
      let lens : List ℕ = map (λ y. length (f y)) xs in
      let at : position ≡ length (f x) + (sum (take i lens) + k) = omega (arith, p, sum-first (length (f x)) (take i lens)) in
      get_rest (f x) (flat_map f xs) position (sum (take i lens) + k) at ∙ stands xs (sum (take i lens) + k) i k n d e h refl

  -- the element at a position is that of the part where the position was found
  pub joined_found : (xs : List X) (lens : List ℕ) (position i k : ℕ) (d : X) → lens ≡ map (λ x. length (f x)) xs → StandsAt lens position i k
      → slice_get (f (get_or xs i d)) k ≡ slice_get (flat_map f xs) position
  joined_found xs lens position i k d e s =
      let At : List ℕ → Type 0 = λ ns. StandsAt ns position i k in
      let t : At (map (λ x. length (f x)) xs) = subst At e s in
      sym (stands xs position i k t.len d t.is_len t.inside t.position_is)

  -- and past the whole length there is none
  pub joined_past : (xs : List X) (lens : List ℕ) (position : ℕ) → lens ≡ map (λ x. length (f x)) xs → sum lens ≤ position → None ≡ slice_get (flat_map f xs) position
  joined_past xs lens position e h = sym (slice_get_past (flat_map f xs) position (omega (arith, h, ap sum e, joined_len xs)))
