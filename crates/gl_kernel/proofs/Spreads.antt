-- The pieces of a delta's cells are its own, and what is told of them piece by piece.
use Rattle.std.specs.Prelude.{◌≡◌, ℕ, zero, suc, ◌+◌, ◌≤◌, List, [], ◌∷◌, ◌++◌, map, replicate, refl}
use Rattle.std.proofs.Common.{ap, sym, ◌∙◌, arith, append_assoc}
use Rattle.std.proofs.lemmas.List.{map-append}
use Rattle.spec_value.specs.Tree.{Tree}
use Rattle.spec_lists.specs.Piece.{Piece, kept, updated, deleted, inserted, old_len, new_len, normal, insert_first}
use Rattle.spec_lists.specs.Cells.{Cell, keep, update, delete, insert, keep_first, cells_of}
use Rattle.spec_lists.proofs.Normal.{old_len-normal, new_len-normal}
use Rattle.spec_lists.proofs.DeltaChanges.{old_len-append, new_len-append}
use Rattle.gl_kernel.specs.declared.log_step.LogStep.{LogStep}
use Rattle.gl_kernel.specs.declared.log_step.LogStep.TheVariants.{Insert, Remove, Set}
use Rattle.gl_kernel.specs.Fates.{Fate, stays, becomes, goes, comes, spoken, fate, edits_of}
use Rattle.gl_kernel.specs.Plans.{CanTell}
use Rattle.gl_kernel.specs.Spread.{spread}

spread-keep_first : (cs : List Cell) → spread (keep_first cs) ≡ kept ∷ spread cs
spread-keep_first [] = refl
spread-keep_first (keep n ∷ cs) = refl
spread-keep_first (update v w ∷ cs) = refl
spread-keep_first (delete v ∷ cs) = refl
spread-keep_first (insert w ∷ cs) = refl

pub spread-cells : (ps : List Piece) → spread (cells_of ps) ≡ ps
spread-cells [] = refl
spread-cells (kept ∷ ps) = spread-keep_first (cells_of ps) ∙ ap (λ qs. kept ∷ qs) (spread-cells ps)
spread-cells (updated v w ∷ ps) = ap (λ qs. updated v w ∷ qs) (spread-cells ps)
spread-cells (deleted v ∷ ps) = ap (λ qs. deleted v ∷ qs) (spread-cells ps)
spread-cells (inserted w ∷ ps) = ap (λ qs. inserted w ∷ qs) (spread-cells ps)

normal-first : (w : Tree) (zs ys : List Piece) → normal (insert_first w zs ++ ys) ≡ insert_first w (normal (zs ++ ys))
normal-first w [] ys = refl
normal-first w (kept ∷ zs) ys = refl
normal-first w (updated v x ∷ zs) ys = refl
normal-first w (deleted v ∷ zs) ys = ap (λ qs. deleted v ∷ qs) (normal-first w zs ys)
normal-first w (inserted x ∷ zs) ys = refl

-- normal form can be made step by step
pub normal-append : (xs ys : List Piece) → normal (normal xs ++ ys) ≡ normal (xs ++ ys)
normal-append [] ys = refl
normal-append (kept ∷ xs) ys = ap (λ qs. kept ∷ qs) (normal-append xs ys)
normal-append (updated v w ∷ xs) ys = ap (λ qs. updated v w ∷ qs) (normal-append xs ys)
normal-append (deleted v ∷ xs) ys = ap (λ qs. deleted v ∷ qs) (normal-append xs ys)
normal-append (inserted w ∷ xs) ys = normal-first w (normal xs) ys ∙ ap (insert_first w) (normal-append xs ys)

-- what is told so far and what is left to tell are the whole: after one more step too
pub told_more : (whole out more told rest : List Piece) → normal (out ++ (told ++ rest)) ≡ whole → more ≡ normal (out ++ told) → normal (more ++ rest) ≡ whole
told_more whole out more told rest e f =
    ap (λ qs. normal (qs ++ rest)) f ∙ (normal-append (out ++ told) rest ∙ (ap normal (append_assoc out told rest) ∙ e))

-- so neither side of what is told passes that of the whole
pub told_olds : (whole out told rest : List Piece) → normal (out ++ (told ++ rest)) ≡ whole → old_len out + old_len told ≤ old_len whole
told_olds whole out told rest e =
    omega (arith, old_len-append out (told ++ rest), old_len-append told rest, old_len-normal (out ++ (told ++ rest)), ap old_len e)

pub told_news : (whole out told rest : List Piece) → normal (out ++ (told ++ rest)) ≡ whole → new_len out + new_len told ≤ new_len whole
told_news whole out told rest e =
    omega (arith, new_len-append out (told ++ rest), new_len-append told rest, new_len-normal (out ++ (told ++ rest)), ap new_len e)

-- so each part of what can be told in one can be told
pub can_tell_whole : (whole out told rest : List Piece) → old_len whole ≤ 2147483647 → new_len whole ≤ 2147483647 → normal (out ++ (told ++ rest)) ≡ normal whole → CanTell told out
can_tell_whole whole out told rest h k e = record {
  olds = omega (arith, told_olds (normal whole) out told rest e, old_len-normal whole, h);
  news = omega (arith, told_news (normal whole) out told rest e, new_len-normal whole, k);
}

pub can_tell_part : (out more told part rest : List Piece) → CanTell told out → normal (more ++ (part ++ rest)) ≡ normal (out ++ told) → CanTell part more
can_tell_part out more told part rest can e =
    can_tell_whole (out ++ told) more part rest (omega (arith, old_len-append out told, can.olds)) (omega (arith, new_len-append out told, can.news)) e

module _ {T : Type 0} where
  -- the edits so far and those that are left are the whole: after one more too
  pub logged_more : (whole log more : List (LogStep T)) (e : LogStep T) (rest : List (LogStep T)) → log ++ (e ∷ rest) ≡ whole → more ≡ log ++ e ∷ [] → more ++ rest ≡ whole
  logged_more whole log more e rest p q = ap (λ es. es ++ rest) q ∙ (append_assoc log (e ∷ []) rest ∙ p)

  -- the edits for some items, and then for the others
  edits-parts : (fs gs : List (Fate T)) (i : ℕ) → edits_of i (fs ++ gs) ≡ edits_of i fs ++ edits_of (i + spoken fs) gs
  edits-parts [] gs i = let e : i ≡ i + 0 = omega arith in ap (λ k. edits_of k gs) e
  edits-parts (stays ∷ fs) gs i =
      let e : suc i + spoken fs ≡ i + suc (spoken fs) = omega arith in
      edits-parts fs gs (suc i) ∙ ap (λ k. edits_of (suc i) fs ++ edits_of k gs) e
  edits-parts (becomes y ∷ fs) gs i =
      let e : suc i + spoken fs ≡ i + suc (spoken fs) = omega arith in
      ap (λ es. Set i y ∷ es) (edits-parts fs gs (suc i) ∙ ap (λ k. edits_of (suc i) fs ++ edits_of k gs) e)
  edits-parts (goes ∷ fs) gs i =
      let e : suc i + spoken fs ≡ i + suc (spoken fs) = omega arith in
      ap (λ es. Remove i ∷ es) (edits-parts fs gs (suc i) ∙ ap (λ k. edits_of (suc i) fs ++ edits_of k gs) e)
  edits-parts (comes y ∷ fs) gs i = ap (λ es. Insert i y ∷ es) (edits-parts fs gs i)

  -- the edits so far and those that are left are the whole, after a step too
  pub steps_more : (whole log more : List (LogStep T)) (fs gs : List (Fate T)) (i j : ℕ) → log ++ edits_of i (fs ++ gs) ≡ whole → more ≡ log ++ edits_of i fs → j ≡ i + spoken fs → more ++ edits_of j gs ≡ whole
  steps_more whole log more fs gs i j p q e =
      ap (λ es. es ++ edits_of j gs) q
      ∙ (append_assoc log (edits_of i fs) (edits_of j gs)
      ∙ (ap (λ k. log ++ (edits_of i fs ++ edits_of k gs)) e ∙ (ap (λ es. log ++ es) (sym (edits-parts fs gs i)) ∙ p)))

  pub spoken-fate : (f : Tree → T) (ps : List Piece) → spoken (map (fate f) ps) ≡ old_len ps
  spoken-fate f [] = refl
  spoken-fate f (kept ∷ ps) = ap suc (spoken-fate f ps)
  spoken-fate f (updated v w ∷ ps) = ap suc (spoken-fate f ps)
  spoken-fate f (deleted v ∷ ps) = ap suc (spoken-fate f ps)
  spoken-fate f (inserted w ∷ ps) = spoken-fate f ps

  pub edits_more : (f : Tree → T) (whole log more : List (LogStep T)) (qs rest : List Piece) (i j : ℕ) → log ++ edits_of i (map (fate f) (qs ++ rest)) ≡ whole → more ≡ log ++ edits_of i (map (fate f) qs) → j ≡ i + old_len qs → more ++ edits_of j (map (fate f) rest) ≡ whole
  edits_more f whole log more qs rest i j p q e =
      steps_more whole log more (map (fate f) qs) (map (fate f) rest) i j (ap (λ fs. log ++ edits_of i fs) (sym (map-append (fate f) qs rest)) ∙ p) q
      (e ∙ ap (λ k. i + k) (sym (spoken-fate f qs)))

  pub no_edits : (f : Tree → T) (n i : ℕ) → edits_of i (map (fate f) (replicate n kept)) ≡ []
  no_edits f zero i = refl
  no_edits f (suc n) i = no_edits f n (suc i)
