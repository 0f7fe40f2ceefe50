-- What becomes of the marks of a filter.
use Rattle.std.specs.Prelude.{◌≡◌, ℕ, zero, suc, ◌+◌, ◌≤◌, Bool, true, false, List, [], ◌∷◌, ◌++◌, length, map, drop, replicate, slice_get, Some, refl}
use Rattle.std.proofs.Common.{ap, sym, ◌∙◌, arith, subst}
use Rattle.std.proofs.lemmas.List.{length-drop, drop-drop}
use Rattle.spec_views.specs.Tree.{Tree}
use Rattle.spec_views.specs.Piece.{Piece, kept, updated, deleted, inserted, old_len, new_len}
use Rattle.spec_views.specs.Leads.{LeadsFrom, applied, IsDelta}
use Rattle.spec_views.proofs.DeltaLeads.{length_from}
use Rattle.gl_kernel.specs.declared.log_step.LogStep.{LogStep}
use Rattle.gl_kernel.specs.declared.log_step.LogStep.TheVariants.{Remove}
use Rattle.gl_kernel.specs.Edits.{insertions, Makes}
use Rattle.gl_kernel.specs.Fates.{Fate, stays, goes, comes, outcome, spoken, edits_of}
use Rattle.gl_kernel.proofs.Spreads.{steps_more}
use Rattle.gl_kernel.proofs.Fates.{fates_make}
use Rattle.gl_kernel.proofs.Made.{length-made}
use Rattle.gl_kernel.proofs.ReadValues.{drop_at}
use Rattle.gl_filter.specs.Told.{switch, fates, switches}

-- a mark and the one that it becomes
pub switched : (b c : Bool) (bs : List Bool) (fs : List (Fate Bool)) → outcome (switch b c ∷ fs) (b ∷ bs) ≡ c ∷ outcome fs bs
switched true true bs fs = refl
switched true false bs fs = refl
switched false true bs fs = refl
switched false false bs fs = refl

pub switch_spoken : (b c : Bool) (fs : List (Fate Bool)) → spoken (switch b c ∷ fs) ≡ suc (spoken fs)
switch_spoken true true fs = refl
switch_spoken true false fs = refl
switch_spoken false true fs = refl
switch_spoken false false fs = refl

pub no_insertion : (b c : Bool) (i : ℕ) (fs : List (Fate Bool)) → insertions (edits_of i (switch b c ∷ fs)) ≡ insertions (edits_of (suc i) fs)
no_insertion true true i fs = refl
no_insertion true false i fs = refl
no_insertion false true i fs = refl
no_insertion false false i fs = refl

outcome-fates : (accepts : Tree → Bool) (ps : List Piece) (xs : List Tree) → LeadsFrom ps xs → outcome (fates accepts (map accepts xs) ps) (map accepts xs) ≡ map accepts (applied ps xs)
outcome-fates accepts [] [] h = refl
outcome-fates accepts [] (x ∷ xs) h = absurd h
outcome-fates accepts (kept ∷ ps) [] h = absurd h
outcome-fates accepts (kept ∷ ps) (x ∷ xs) h = ap (λ bs. accepts x ∷ bs) (outcome-fates accepts ps xs h)
outcome-fates accepts (updated v w ∷ ps) [] h = absurd h
outcome-fates accepts (updated v w ∷ ps) (x ∷ xs) h =
    switched (accepts x) (accepts w) (map accepts xs) (fates accepts (map accepts xs) ps) ∙ ap (λ bs. accepts w ∷ bs) (outcome-fates accepts ps xs h.1)
outcome-fates accepts (deleted v ∷ ps) [] h = absurd h
outcome-fates accepts (deleted v ∷ ps) (x ∷ xs) h = outcome-fates accepts ps xs h.1
outcome-fates accepts (inserted w ∷ ps) [] h = ap (λ bs. accepts w ∷ bs) (outcome-fates accepts ps [] h)
outcome-fates accepts (inserted w ∷ ps) (x ∷ xs) h = ap (λ bs. accepts w ∷ bs) (outcome-fates accepts ps (x ∷ xs) h)

spoken-fates : (accepts : Tree → Bool) (bs : List Bool) (ps : List Piece) → old_len ps ≤ length bs → spoken (fates accepts bs ps) ≡ old_len ps
spoken-fates accepts bs [] h = refl
spoken-fates accepts [] (kept ∷ ps) h = absurd (omega (arith, h))
spoken-fates accepts (b ∷ bs) (kept ∷ ps) h = ap suc (spoken-fates accepts bs ps (omega (arith, h)))
spoken-fates accepts [] (updated v w ∷ ps) h = absurd (omega (arith, h))
spoken-fates accepts (b ∷ bs) (updated v w ∷ ps) h = switch_spoken b (accepts w) (fates accepts bs ps) ∙ ap suc (spoken-fates accepts bs ps (omega (arith, h)))
spoken-fates accepts [] (deleted v ∷ ps) h = absurd (omega (arith, h))
spoken-fates accepts (b ∷ bs) (deleted v ∷ ps) h = ap suc (spoken-fates accepts bs ps (omega (arith, h)))
spoken-fates accepts [] (inserted w ∷ ps) h = spoken-fates accepts [] ps h
spoken-fates accepts (b ∷ bs) (inserted w ∷ ps) h = spoken-fates accepts (b ∷ bs) ps h

insertions-fates : (accepts : Tree → Bool) (bs : List Bool) (ps : List Piece) (i : ℕ) → insertions (edits_of i (fates accepts bs ps)) ≤ new_len ps
insertions-fates accepts bs [] i = omega arith
insertions-fates accepts [] (kept ∷ ps) i = omega arith
insertions-fates accepts (b ∷ bs) (kept ∷ ps) i = omega (arith, insertions-fates accepts bs ps (suc i))
insertions-fates accepts [] (updated v w ∷ ps) i = omega arith
insertions-fates accepts (b ∷ bs) (updated v w ∷ ps) i = omega (arith, no_insertion b (accepts w) i (fates accepts bs ps), insertions-fates accepts bs ps (suc i))
insertions-fates accepts [] (deleted v ∷ ps) i = omega arith
insertions-fates accepts (b ∷ bs) (deleted v ∷ ps) i = omega (arith, insertions-fates accepts bs ps (suc i))
insertions-fates accepts [] (inserted w ∷ ps) i = omega (arith, insertions-fates accepts [] ps i)
insertions-fates accepts (b ∷ bs) (inserted w ∷ ps) i = omega (arith, insertions-fates accepts (b ∷ bs) ps i)

-- the edits lead from the marks of the old elements to those of the new ones
pub marks_make : (accepts : Tree → Bool) (ps : List Piece) (xs ys : List Tree) (log : List (LogStep Bool)) (shown : List Bool) → IsDelta ps xs ys → old_len ps ≤ 2147483647 → new_len ps ≤ 2147483647
    → shown ≡ map accepts xs → log ≡ edits_of 0 (fates accepts shown ps) → Makes log shown (map accepts ys)
marks_make accepts ps xs ys log shown h olds news e g =
    let bs = map accepts xs in
    let len : length bs ≡ old_len ps = length-made accepts xs ∙ length_from ps xs h.starts in
    let few : length bs + insertions (edits_of 0 (fates accepts bs ps)) ≤ 4294967294 = omega (arith, len, insertions-fates accepts bs ps 0, olds, news) in
    let ByMarks : List Bool → Type 0 = λ cs. Makes log cs (map accepts ys) in
    subst ByMarks (sym e)
    (fates_make (fates accepts bs ps) log bs (map accepts ys) (g ∙ ap (λ cs. edits_of 0 (fates accepts cs ps)) e) (spoken-fates accepts bs ps (omega (arith, len)) ∙ sym len) few
    (outcome-fates accepts ps xs h.starts ∙ ap (map accepts) (sym h.ends)))

-- first what becomes of the one part, then of the other
fates-append : (accepts : Tree → Bool) (bs : List Bool) (ps qs : List Piece) → old_len ps ≤ length bs → fates accepts bs (ps ++ qs) ≡ fates accepts bs ps ++ fates accepts (drop (old_len ps) bs) qs
fates-append accepts bs [] qs h = refl
fates-append accepts [] (kept ∷ ps) qs h = absurd (omega (arith, h))
fates-append accepts (b ∷ bs) (kept ∷ ps) qs h = ap (λ fs. stays ∷ fs) (fates-append accepts bs ps qs (omega (arith, h)))
fates-append accepts [] (updated v w ∷ ps) qs h = absurd (omega (arith, h))
fates-append accepts (b ∷ bs) (updated v w ∷ ps) qs h = ap (λ fs. switch b (accepts w) ∷ fs) (fates-append accepts bs ps qs (omega (arith, h)))
fates-append accepts [] (deleted v ∷ ps) qs h = absurd (omega (arith, h))
fates-append accepts (b ∷ bs) (deleted v ∷ ps) qs h = ap (λ fs. goes ∷ fs) (fates-append accepts bs ps qs (omega (arith, h)))
fates-append accepts [] (inserted w ∷ ps) qs h = ap (λ fs. comes (accepts w) ∷ fs) (fates-append accepts [] ps qs h)
fates-append accepts (b ∷ bs) (inserted w ∷ ps) qs h = ap (λ fs. comes (accepts w) ∷ fs) (fates-append accepts (b ∷ bs) ps qs h)

-- the edits so far and those that are left are the whole, after a step too
pub fates_more : (accepts : Tree → Bool) (shown : List Bool) (whole log more : List (LogStep Bool)) (qs rest : List Piece) (i j : ℕ) → i + old_len qs ≤ length shown
    → log ++ edits_of i (fates accepts (drop i shown) (qs ++ rest)) ≡ whole → more ≡ log ++ edits_of i (fates accepts (drop i shown) qs) → j ≡ i + old_len qs
    → more ++ edits_of j (fates accepts (drop j shown) rest) ≡ whole
fates_more accepts shown whole log more qs rest i j h p q e =
    let inside : old_len qs ≤ length (drop i shown) = omega (arith, h, length-drop i shown) in
    let here = fates accepts (drop i shown) qs in
    let left = fates accepts (drop (old_len qs) (drop i shown)) rest in
    let same : drop j shown ≡ drop (old_len qs) (drop i shown) = ap (λ k. drop k shown) e ∙ sym (drop-drop (old_len qs) i shown) in
    ap (λ cs. more ++ edits_of j (fates accepts cs rest)) same
    ∙ steps_more whole log more here left i j (ap (λ fs. log ++ edits_of i fs) (sym (fates-append accepts (drop i shown) qs rest inside)) ∙ p) q
    (e ∙ ap (λ k. i + k) (sym (spoken-fates accepts (drop i shown) qs inside)))

-- kept elements need no edit
pub no_edits_kept : (accepts : Tree → Bool) (bs : List Bool) (n i : ℕ) → let none : List (LogStep Bool) = [] in edits_of i (fates accepts bs (replicate n kept)) ≡ none
no_edits_kept accepts bs zero i = refl
no_edits_kept accepts [] (suc n) i = refl
no_edits_kept accepts (b ∷ bs) (suc n) i = no_edits_kept accepts bs n (suc i)

-- the edit of an updated and of a deleted element, by the mark at their place
pub update_edits : (accepts : Tree → Bool) (bs : List Bool) (i : ℕ) (b : Bool) (v w : Tree) → slice_get bs i ≡ Some b → edits_of i (fates accepts (drop i bs) (updated v w ∷ [])) ≡ edits_of i (switch b (accepts w) ∷ [])
update_edits accepts bs i b v w e = ap (λ cs. edits_of i (fates accepts cs (updated v w ∷ []))) (drop_at bs i b e)

pub delete_edits : (accepts : Tree → Bool) (bs : List Bool) (i : ℕ) (b : Bool) (v : Tree) → slice_get bs i ≡ Some b → edits_of i (fates accepts (drop i bs) (deleted v ∷ [])) ≡ Remove i ∷ []
delete_edits accepts bs i b v e = ap (λ cs. edits_of i (fates accepts cs (deleted v ∷ []))) (drop_at bs i b e)

outcome-switches : (before after : Tree → Bool) (xs : List Tree) → outcome (switches before after xs) (map before xs) ≡ map after xs
outcome-switches before after [] = refl
outcome-switches before after (x ∷ xs) =
    switched (before x) (after x) (map before xs) (switches before after xs) ∙ ap (λ bs. after x ∷ bs) (outcome-switches before after xs)

pub spoken-switches : (before after : Tree → Bool) (xs : List Tree) → spoken (switches before after xs) ≡ length xs
spoken-switches before after [] = refl
spoken-switches before after (x ∷ xs) = switch_spoken (before x) (after x) (switches before after xs) ∙ ap suc (spoken-switches before after xs)

no_insertions : (before after : Tree → Bool) (i : ℕ) (xs : List Tree) → insertions (edits_of i (switches before after xs)) ≡ 0
no_insertions before after i [] = refl
no_insertions before after i (x ∷ xs) = no_insertion (before x) (after x) i (switches before after xs) ∙ no_insertions before after (suc i) xs

-- the edits lead from the marks under the old matcher to those under the new one
pub switches_make : (before after : Tree → Bool) (xs : List Tree) (log : List (LogStep Bool)) (shown : List Bool) → length xs ≤ 2147483647 → shown ≡ map before xs → log ≡ edits_of 0 (switches before after xs)
    → Makes log shown (map after xs)
switches_make before after xs log shown h e g =
    let len = length-made before xs in
    let few : length (map before xs) + insertions (edits_of 0 (switches before after xs)) ≤ 4294967294 = omega (arith, len, no_insertions before after 0 xs, h) in
    let ByMarks : List Bool → Type 0 = λ cs. Makes log cs (map after xs) in
    subst ByMarks (sym e) (fates_make (switches before after xs) log (map before xs) (map after xs) g (spoken-switches before after xs ∙ sym len) few (outcome-switches before after xs))
