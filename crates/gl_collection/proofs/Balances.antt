-- How many children come and go.
use Rattle.std.specs.Prelude.{◌≡◌, ℕ, zero, suc, ◌+◌, ◌≤◌, List, [], ◌∷◌, ◌++◌, length, flat_map, map, take, sum, slice_get, Some, refl}
use Rattle.std.proofs.Common.{ap, ◌∙◌, arith}
use Rattle.std.proofs.lemmas.List.{length-append, append-nil, take_more, take_all}
use Rattle.std.proofs.lemmas.List.Folds.{length-flat_map-take}
use Rattle.std.proofs.lemmas.Grind.{flat_map-append}
use Rattle.std.proofs.lemmas.Option.{slice_get_within, get_or_from_slice_get}
use Rattle.gl_joined.specs.Tree.{Tree}
use Rattle.gl_joined.specs.Piece.{Piece, kept, updated, deleted, inserted, identity}
use Rattle.gl_joined.specs.Leads.{LeadsFrom, applied}
use Rattle.gl_joined.proofs.Joined.{joined_len}
use Rattle.gl_collection.specs.Told.{child_len, gained, lost}

module _ (f : Tree → List Tree) where
  pub gained-append : (ps qs : List Piece) → gained f (ps ++ qs) ≡ gained f ps + gained f qs
  gained-append [] qs = omega arith
  gained-append (kept ∷ ps) qs = gained-append ps qs
  gained-append (updated v w ∷ ps) qs = omega (arith, gained-append ps qs)
  gained-append (deleted v ∷ ps) qs = gained-append ps qs
  gained-append (inserted w ∷ ps) qs = omega (arith, gained-append ps qs)

  pub lost-append : (ps qs : List Piece) → lost f (ps ++ qs) ≡ lost f ps + lost f qs
  lost-append [] qs = omega arith
  lost-append (kept ∷ ps) qs = lost-append ps qs
  lost-append (updated v w ∷ ps) qs = omega (arith, lost-append ps qs)
  lost-append (deleted v ∷ ps) qs = omega (arith, lost-append ps qs)
  lost-append (inserted w ∷ ps) qs = lost-append ps qs

  -- what there is then, by what there was
  pub balance : (ps : List Piece) (xs : List Tree) → LeadsFrom ps xs → length (flat_map f (applied ps xs)) + lost f ps ≡ length (flat_map f xs) + gained f ps
  balance [] [] h = refl
  balance [] (x ∷ xs) h = absurd h
  balance (kept ∷ ps) [] h = absurd h
  balance (kept ∷ ps) (x ∷ xs) h = omega (arith, balance ps xs h, length-append (f x) (flat_map f xs), length-append (f x) (flat_map f (applied ps xs)))
  balance (updated v w ∷ ps) [] h = absurd h
  balance (updated v w ∷ ps) (x ∷ xs) h =
      omega (arith, balance ps xs h.1, length-append (f x) (flat_map f xs), length-append (f w) (flat_map f (applied ps xs)), ap (λ z. length (f z)) h.0)
  balance (deleted v ∷ ps) [] h = absurd h
  balance (deleted v ∷ ps) (x ∷ xs) h = omega (arith, balance ps xs h.1, length-append (f x) (flat_map f xs), ap (λ z. length (f z)) h.0)
  balance (inserted w ∷ ps) xs h = omega (arith, balance ps xs h, length-append (f w) (flat_map f (applied ps xs)))

  pub lost_within : (ps : List Piece) (xs : List Tree) → LeadsFrom ps xs → lost f ps ≤ length (flat_map f xs)
  lost_within [] [] h = omega arith
  lost_within [] (x ∷ xs) h = absurd h
  lost_within (kept ∷ ps) [] h = absurd h
  lost_within (kept ∷ ps) (x ∷ xs) h = omega (arith, lost_within ps xs h, length-append (f x) (flat_map f xs))
  lost_within (updated v w ∷ ps) [] h = absurd h
  lost_within (updated v w ∷ ps) (x ∷ xs) h = omega (arith, lost_within ps xs h.1, length-append (f x) (flat_map f xs), ap (λ z. length (f z)) h.0)
  lost_within (deleted v ∷ ps) [] h = absurd h
  lost_within (deleted v ∷ ps) (x ∷ xs) h = omega (arith, lost_within ps xs h.1, length-append (f x) (flat_map f xs), ap (λ z. length (f z)) h.0)
  lost_within (inserted w ∷ ps) xs h = lost_within ps xs h

  pub keeps_gained : (n : ℕ) → gained f (identity n) ≡ 0
  keeps_gained zero = refl
  keeps_gained (suc n) = keeps_gained n

  pub keeps_lost : (n : ℕ) → lost f (identity n) ≡ 0
  keeps_lost zero = refl
  keeps_lost (suc n) = keeps_lost n

  -- one element further
  pub count_more : (xs : List Tree) (i : ℕ) (x : Tree) → slice_get xs i ≡ Some x → length (flat_map f (take (i + 1) xs)) ≡ length (flat_map f (take i xs)) + length (f x)
  count_more xs i x e =
      let at = take_more xs i x (slice_get_within xs i x e) ∙ ap (λ z. take i xs ++ z ∷ []) (get_or_from_slice_get xs i x x e) in
      ap (λ ys. length (flat_map f ys)) at
      ∙ (ap length (flat_map-append f (take i xs) (x ∷ []) ∙ ap (λ ys. flat_map f (take i xs) ++ ys) (append-nil (f x))) ∙ length-append (flat_map f (take i xs)) (f x))

  -- no element has more children than all together
  pub child_within : (xs : List Tree) (i : ℕ) (x : Tree) → slice_get xs i ≡ Some x → length (f x) ≤ length (flat_map f xs)
  child_within xs i x e =
      let one = ap (λ z. length (f z)) (get_or_from_slice_get xs i x x e) in
      omega (arith, length-flat_map-take f xs i x (slice_get_within xs i x e), one)

  pub counted_sum : (xs : List Tree) (lens : List ℕ) (i : ℕ) → lens ≡ map (child_len f) (take i xs) → length xs ≤ i → sum lens ≡ length (flat_map f xs)
  counted_sum xs lens i e h = ap sum (e ∙ ap (map (child_len f)) (take_all i xs h)) ∙ joined_len f xs
