-- The edits that bring about what becomes of each item do so.
use Rattle.std.specs.Prelude.{◌≡◌, ℕ, zero, suc, ◌+◌, ◌≤◌, List, [], ◌∷◌, ◌++◌, length, insert, remove, slice_set, map, refl}
use Rattle.std.proofs.Common.{ap, sym, ◌∙◌, arith, append_assoc, subst}
use Rattle.std.proofs.lemmas.List.{length-append}
use Rattle.spec_value.specs.Tree.{Tree}
use Rattle.spec_lists.specs.Piece.{Piece, kept, updated, deleted, inserted, old_len, new_len}
use Rattle.spec_lists.specs.Leads.{LeadsFrom, applied, IsDelta}
use Rattle.spec_lists.proofs.DeltaLeads.{length_from}
use Rattle.gl_kernel.proofs.Made.{length-made}
use Rattle.gl_kernel.proofs.Spreads.{spoken-fate}
use Rattle.gl_kernel.specs.Edits.{AreWithin, played, insertions, Makes}
use Rattle.gl_kernel.specs.declared.log_step.LogStep.{LogStep}
use Rattle.gl_kernel.specs.Fates.{Fate, stays, becomes, goes, comes, outcome, spoken, edits_of, fate}

module _ {T : Type 0} where
  insert-seam : (xs ys : List T) (i : ℕ) (y : T) → i ≡ length xs → insert (xs ++ ys) i y ≡ xs ++ y ∷ ys
  insert-seam [] ys i y e = ap (λ n. insert ys n y) e
  insert-seam (x ∷ xs) ys zero y e = absurd (omega (arith, e))
  insert-seam (x ∷ xs) ys (suc i) y e = ap (λ zs. x ∷ zs) (insert-seam xs ys i y (omega (arith, e)))

  remove-seam : (xs ys : List T) (i : ℕ) (y : T) → i ≡ length xs → remove (xs ++ y ∷ ys) i ≡ xs ++ ys
  remove-seam [] ys i y e = ap (λ n. remove (y ∷ ys) n) e
  remove-seam (x ∷ xs) ys zero y e = absurd (omega (arith, e))
  remove-seam (x ∷ xs) ys (suc i) y e = ap (λ zs. x ∷ zs) (remove-seam xs ys i y (omega (arith, e)))

  set-seam : (xs ys : List T) (i : ℕ) (x y : T) → i ≡ length xs → slice_set (xs ++ x ∷ ys) i y ≡ xs ++ y ∷ ys
  set-seam [] ys i x y e = ap (λ n. slice_set (x ∷ ys) n y) e
  set-seam (z ∷ xs) ys zero x y e = absurd (omega (arith, e))
  set-seam (z ∷ xs) ys (suc i) x y e = ap (λ zs. z ∷ zs) (set-seam xs ys i x y (omega (arith, e)))

  next_position : (pre : List T) (x : T) (i : ℕ) → i ≡ length pre → suc i ≡ length (pre ++ x ∷ [])
  next_position pre x i e = omega (arith, e, length-append pre (x ∷ []))

  -- one item further on
  rest : (fs : List (Fate T)) (pre xs : List T) (x : T) (i : ℕ) → played (edits_of (suc i) fs) ((pre ++ x ∷ []) ++ xs) ≡ (pre ++ x ∷ []) ++ outcome fs xs → played (edits_of (suc i) fs) (pre ++ x ∷ xs) ≡ pre ++ x ∷ outcome fs xs
  rest fs pre xs x i h = ap (played (edits_of (suc i) fs)) (sym (append_assoc pre (x ∷ []) xs)) ∙ (h ∙ append_assoc pre (x ∷ []) (outcome fs xs))

  pub fates_played : (fs : List (Fate T)) (pre xs : List T) (i : ℕ) → i ≡ length pre → spoken fs ≡ length xs → played (edits_of i fs) (pre ++ xs) ≡ pre ++ outcome fs xs
  fates_played [] pre [] i e s = refl
  fates_played [] pre (x ∷ xs) i e s = absurd (omega (arith, s))
  fates_played (stays ∷ fs) pre [] i e s = absurd (omega (arith, s))
  fates_played (stays ∷ fs) pre (x ∷ xs) i e s = rest fs pre xs x i (fates_played fs (pre ++ x ∷ []) xs (suc i) (next_position pre x i e) (omega (arith, s)))
  fates_played (becomes y ∷ fs) pre [] i e s = absurd (omega (arith, s))
  fates_played (becomes y ∷ fs) pre (x ∷ xs) i e s =
      ap (λ zs. slice_set zs i y) (rest fs pre xs x i (fates_played fs (pre ++ x ∷ []) xs (suc i) (next_position pre x i e) (omega (arith, s))))
      ∙ set-seam pre (outcome fs xs) i x y e
  fates_played (goes ∷ fs) pre [] i e s = absurd (omega (arith, s))
  fates_played (goes ∷ fs) pre (x ∷ xs) i e s =
      ap (λ zs. remove zs i) (rest fs pre xs x i (fates_played fs (pre ++ x ∷ []) xs (suc i) (next_position pre x i e) (omega (arith, s))))
      ∙ remove-seam pre (outcome fs xs) i x e
  fates_played (comes y ∷ fs) pre xs i e s = ap (λ zs. insert zs i y) (fates_played fs pre xs i e s) ∙ insert-seam pre (outcome fs xs) i y e

  fates_after : (fs : List (Fate T)) (pre xs : List T) (x : T) (i : ℕ) → i ≡ length pre → spoken fs ≡ length xs → played (edits_of (suc i) fs) (pre ++ x ∷ xs) ≡ pre ++ x ∷ outcome fs xs
  fates_after fs pre xs x i e s = rest fs pre xs x i (fates_played fs (pre ++ x ∷ []) xs (suc i) (next_position pre x i e) s)

  length_seam : (pre zs : List T) (i : ℕ) (ys : List T) → i ≡ length pre → ys ≡ pre ++ zs → i + length zs ≡ length ys
  length_seam pre zs i ys e f = omega (arith, e, ap length f, length-append pre zs)

  within_after : (fs : List (Fate T)) (pre xs : List T) (x : T) (i : ℕ) → AreWithin (edits_of (suc i) fs) ((pre ++ x ∷ []) ++ xs) → AreWithin (edits_of (suc i) fs) (pre ++ x ∷ xs)
  within_after fs pre xs x i h =
      let P : List T → Type 0 = λ zs. AreWithin (edits_of (suc i) fs) zs in
      subst P (append_assoc pre (x ∷ []) xs) h

  pub fates_within : (fs : List (Fate T)) (pre xs : List T) (i : ℕ) → i ≡ length pre → spoken fs ≡ length xs → AreWithin (edits_of i fs) (pre ++ xs)
  fates_within [] pre xs i e s = tt
  fates_within (stays ∷ fs) pre [] i e s = absurd (omega (arith, s))
  fates_within (stays ∷ fs) pre (x ∷ xs) i e s = within_after fs pre xs x i (fates_within fs (pre ++ x ∷ []) xs (suc i) (next_position pre x i e) (omega (arith, s)))
  fates_within (becomes y ∷ fs) pre [] i e s = absurd (omega (arith, s))
  fates_within (becomes y ∷ fs) pre (x ∷ xs) i e s = (
    within_after fs pre xs x i (fates_within fs (pre ++ x ∷ []) xs (suc i) (next_position pre x i e) (omega (arith, s))),
    omega (arith, length_seam pre (x ∷ outcome fs xs) i _ e (fates_after fs pre xs x i e (omega (arith, s)))),
  )
  fates_within (goes ∷ fs) pre [] i e s = absurd (omega (arith, s))
  fates_within (goes ∷ fs) pre (x ∷ xs) i e s = (
    within_after fs pre xs x i (fates_within fs (pre ++ x ∷ []) xs (suc i) (next_position pre x i e) (omega (arith, s))),
    omega (arith, length_seam pre (x ∷ outcome fs xs) i _ e (fates_after fs pre xs x i e (omega (arith, s)))),
  )
  fates_within (comes y ∷ fs) pre xs i e s =
      (fates_within fs pre xs i e s, omega (arith, length_seam pre (outcome fs xs) i _ e (fates_played fs pre xs i e s)))

  -- what a delta makes of its elements, it makes of what a function gives of them
  outcome-fate : (f : Tree → T) (ps : List Piece) (xs : List Tree) → LeadsFrom ps xs → outcome (map (fate f) ps) (map f xs) ≡ map f (applied ps xs)
  outcome-fate f [] [] h = refl
  outcome-fate f [] (x ∷ xs) h = absurd h
  outcome-fate f (kept ∷ ps) [] h = absurd h
  outcome-fate f (kept ∷ ps) (x ∷ xs) h = ap (λ ys. f x ∷ ys) (outcome-fate f ps xs h)
  outcome-fate f (updated v w ∷ ps) [] h = absurd h
  outcome-fate f (updated v w ∷ ps) (x ∷ xs) h = ap (λ ys. f w ∷ ys) (outcome-fate f ps xs h.1)
  outcome-fate f (deleted v ∷ ps) [] h = absurd h
  outcome-fate f (deleted v ∷ ps) (x ∷ xs) h = outcome-fate f ps xs h.1
  outcome-fate f (inserted w ∷ ps) xs h = ap (λ ys. f w ∷ ys) (outcome-fate f ps xs h)

  spoken-of : (f : Tree → T) (ps : List Piece) (xs : List Tree) → LeadsFrom ps xs → spoken (map (fate f) ps) ≡ length (map f xs)
  spoken-of f ps xs h = spoken-fate f ps ∙ (sym (length_from ps xs h) ∙ sym (length-made f xs))

  -- the edits of a delta lead from what a function gives of the old elements to what it gives of the new ones
  pub delta_played : (f : Tree → T) (ps : List Piece) (xs : List Tree) → LeadsFrom ps xs → played (edits_of 0 (map (fate f) ps)) (map f xs) ≡ map f (applied ps xs)
  delta_played f ps xs h = fates_played (map (fate f) ps) [] (map f xs) 0 refl (spoken-of f ps xs h) ∙ outcome-fate f ps xs h

  pub delta_within : (f : Tree → T) (ps : List Piece) (xs : List Tree) → LeadsFrom ps xs → AreWithin (edits_of 0 (map (fate f) ps)) (map f xs)
  delta_within f ps xs h = fates_within (map (fate f) ps) [] (map f xs) 0 refl (spoken-of f ps xs h)

  pub delta_insertions : (f : Tree → T) (ps : List Piece) (i : ℕ) → insertions (edits_of i (map (fate f) ps)) ≤ new_len ps
  delta_insertions f [] i = omega arith
  delta_insertions f (kept ∷ ps) i = omega (arith, delta_insertions f ps (suc i))
  delta_insertions f (updated v w ∷ ps) i = omega (arith, delta_insertions f ps (suc i))
  delta_insertions f (deleted v ∷ ps) i = omega (arith, delta_insertions f ps (suc i))
  delta_insertions f (inserted w ∷ ps) i = omega (arith, delta_insertions f ps i)

  -- edits that bring about what becomes of each item of a list make what comes out of it
  pub fates_make : (fs : List (Fate T)) (log : List (LogStep T)) (xs ys : List T) → log ≡ edits_of 0 fs → spoken fs ≡ length xs → length xs + insertions (edits_of 0 fs) ≤ 4294967294
      → outcome fs xs ≡ ys → Makes log xs ys
  fates_make fs log xs ys e s few o =
      let ByLog : List (LogStep T) → Type 0 = λ es. Makes es xs ys in
      subst ByLog (sym e) (record { within = fates_within fs [] xs 0 refl s; few = few; made = fates_played fs [] xs 0 refl s ∙ o })

  -- so do those of a delta, where the items are what a function gives of the elements
  pub delta_makes : (f : Tree → T) (ps : List Piece) (xs ys : List Tree) (log : List (LogStep T)) (items : List T) → IsDelta ps xs ys → old_len ps ≤ 2147483647 → new_len ps ≤ 2147483647
      → items ≡ map f xs → log ≡ edits_of 0 (map (fate f) ps) → Makes log items (map f ys)
  delta_makes f ps xs ys log items h olds news e g =
      let few : length (map f xs) + insertions (edits_of 0 (map (fate f) ps)) ≤ 4294967294 = omega (arith, length-made f xs, length_from ps xs h.starts, delta_insertions f ps 0, olds, news) in
      let ByItems : List T → Type 0 = λ is. Makes log is (map f ys) in
      subst ByItems (sym e) (fates_make (map (fate f) ps) log (map f xs) (map f ys) g (spoken-of f ps xs h.starts) few (outcome-fate f ps xs h.starts ∙ ap (map f) (sym h.ends)))
