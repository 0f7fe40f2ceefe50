-- The edits that follow the steps of an arrangement keep the marks of the first members.
use Rattle.std.proofs.Common.{◌≡◌, ◌∙◌, ℕ, zero, suc, ◌+◌, ◌<◌, ◌≤◌, ◌++◌, Bool, true, false, List, [], ◌∷◌, length, map, take, insert, remove, refl, ap, sym, subst, arith}
use Rattle.std.specs.Prelude.{not, Some, slice_get, slice_set, if◌then◌else◌}
use Rattle.std.proofs.lemmas.List.{length-map, length-set}
use Rattle.std.proofs.lemmas.List.Edits.{length-remove}
use Rattle.gl_kernel.specs.declared.log_step.LogStep.{LogStep}
use Rattle.gl_kernel.specs.declared.log_step.LogStep.TheVariants.{Insert, Remove, Set}
use Rattle.gl_kernel.specs.Edits.{edited, IsWithin, played, AreWithin, insertions}
use Rattle.gl_arranged.specs.declared.step.Step.{Step}
use Rattle.gl_arranged.specs.declared.step.Step.TheVariants.{Removed, Inserted}
use Rattle.gl_arranged.specs.Marks.{leads_key, made, CanMake, all_made, CanMakeAll, inserted_len}
use Rattle.gl_classes.specs.Firsts.{step_edits, all_edits}

map_insert : (ms : List Bool) (k : ℕ) (b : Bool) → insert (map not ms) k (not b) ≡ map not (insert ms k b)
map_insert ms zero b = refl
map_insert [] (suc k) b = refl
map_insert (m ∷ ms) (suc k) b = ap (λ ns. not m ∷ ns) (map_insert ms k b)

map_remove : (ms : List Bool) (k : ℕ) → remove (map not ms) k ≡ map not (remove ms k)
map_remove [] zero = refl
map_remove [] (suc k) = refl
map_remove (m ∷ ms) zero = refl
map_remove (m ∷ ms) (suc k) = ap (λ ns. not m ∷ ns) (map_remove ms k)

map_set : (ms : List Bool) (k : ℕ) (b : Bool) → slice_set (map not ms) k (not b) ≡ map not (slice_set ms k b)
map_set [] zero b = refl
map_set [] (suc k) b = refl
map_set (m ∷ ms) zero b = refl
map_set (m ∷ ms) (suc k) b = ap (λ ns. not m ∷ ns) (map_set ms k b)

-- a mark that is written before the one in front of it is taken out
set_remove : (ms : List Bool) (k : ℕ) (b : Bool) → slice_set (remove ms k) k b ≡ remove (slice_set ms (suc k) b) k
set_remove [] zero b = refl
set_remove [] (suc k) b = refl
set_remove (m ∷ []) zero b = refl
set_remove (m ∷ n ∷ ms) zero b = refl
set_remove (m ∷ ms) (suc k) b = ap (λ ns. m ∷ ns) (set_remove ms k b)

-- a log makes marks of the first members of others
pub record Plays (log : List (LogStep Bool)) (ms new : List Bool) : Type 0 where
  pub within : AreWithin log (map not ms)
  pub is : played log (map not ms) ≡ map not new

removed_by : (t : Bool) (p : ℕ) (ms : List Bool) → p < length ms → (t ≡ true → suc p < length ms)
    → Plays ((if t then Set p true ∷ [] else []) ++ Remove p ∷ []) ms (remove (if t then slice_set ms (suc p) false else ms) p)
removed_by true p ms within next = record {
  within = ((tt, omega (arith, within, length-map ms not)), omega (arith, next refl, length-remove (map not ms) p (omega (arith, within, length-map ms not)), length-map ms not));
  is = ap (λ ns. slice_set ns p true) (map_remove ms p) ∙ (map_set (remove ms p) p false ∙ ap (map not) (set_remove ms p false));
}
removed_by false p ms within next = record {
  within = (tt, omega (arith, within, length-map ms not));
  is = map_remove ms p;
}

inserted_by : (t : Bool) (p : ℕ) (b : Bool) (ms : List Bool) → p ≤ length ms → (t ≡ true → p < length ms)
    → Plays (Insert p (not b) ∷ (if t then Set p false ∷ [] else [])) ms (insert (if t then slice_set ms p true else ms) p b)
inserted_by true p b ms within next = record {
  within = ((tt, omega (arith, next refl, length-map ms not)), omega (arith, within, length-map ms not, length-set (map not ms) p false));
  is = ap (λ ns. insert ns p (not b)) (map_set ms p true) ∙ map_insert (slice_set ms p true) p b;
}
inserted_by false p b ms within next = record {
  within = (tt, omega (arith, within, length-map ms not));
  is = map_insert ms p b;
}

step_follows : (s : Step) (ms : List Bool) → CanMake s ms → Plays (step_edits s) ms (made s ms)
step_follows (Removed source spot) ms can = removed_by (leads_key spot) spot.place ms can.0 can.1
step_follows (Inserted source spot) ms can = inserted_by (leads_key spot) spot.place spot.before ms can.0 can.1

played_append : (us bs : List (LogStep Bool)) (xs : List Bool) → played (us ++ bs) xs ≡ played us (played bs xs)
played_append [] bs xs = refl
played_append (a ∷ us) bs xs = ap (edited a) (played_append us bs xs)

within_append : (us bs : List (LogStep Bool)) (xs : List Bool) → AreWithin us (played bs xs) → AreWithin bs xs → AreWithin (us ++ bs) xs
within_append [] bs xs one other = other
within_append (a ∷ us) bs xs one other = (within_append us bs xs one.0 other, subst (IsWithin a) (sym (played_append us bs xs)) one.1)

insertions_append : (us bs : List (LogStep Bool)) → insertions (us ++ bs) ≡ insertions us + insertions bs
insertions_append [] bs = omega arith
insertions_append (Insert at x ∷ us) bs = omega (arith, insertions_append us bs)
insertions_append (Remove at ∷ us) bs = insertions_append us bs
insertions_append (Set at x ∷ us) bs = insertions_append us bs

-- all edits of steps make the marks that the steps make
pub edits_make : (ss : List Step) (ms : List Bool) → CanMakeAll ss ms → Plays (all_edits ss) ms (all_made ss ms)
edits_make [] ms can = record { within = tt; is = refl }
edits_make (s ∷ ss) ms can =
    let one = step_follows s ms can.0 in
    let more = edits_make ss (made s ms) can.1 in
    record {
      within = within_append (all_edits ss) (step_edits s) (map not ms) (subst (AreWithin (all_edits ss)) (sym one.is) more.within) one.within;
      is = played_append (all_edits ss) (step_edits s) (map not ms) ∙ (ap (played (all_edits ss)) one.is ∙ more.is);
    }

step_insertions : (s : Step) → insertions (step_edits s) ≡ inserted_len (s ∷ [])
step_insertions (Removed source spot) = by (leads_key spot)
  where
    by : (t : Bool) → insertions ((if t then Set spot.place true ∷ [] else []) ++ Remove spot.place ∷ []) ≡ 0
    by true = refl
    by false = refl
step_insertions (Inserted source spot) = by (leads_key spot)
  where
    by : (t : Bool) → insertions (Insert spot.place (not spot.before) ∷ (if t then Set spot.place false ∷ [] else [])) ≡ 1
    by true = refl
    by false = refl

inserted_first : (s : Step) (ss : List Step) → inserted_len (s ∷ ss) ≡ inserted_len ss + inserted_len (s ∷ [])
inserted_first (Removed source spot) ss = omega arith
inserted_first (Inserted source spot) ss = omega arith

pub edits_insert : (ss : List Step) → insertions (all_edits ss) ≡ inserted_len ss
edits_insert [] = refl
edits_insert (s ∷ ss) = omega (arith, insertions_append (all_edits ss) (step_edits s), edits_insert ss, step_insertions s, inserted_first s ss)

-- the marks so far, and one more
pub marks_more : (marks : List Bool) (k : ℕ) (m : Bool) → slice_get marks k ≡ Some m → map not (take k marks) ++ not m ∷ [] ≡ map not (take (suc k) marks)
marks_more [] k m at = absurd cc
marks_more (n ∷ ns) zero m at = let same : n ≡ m = cc in ap (λ b. not b ∷ []) (sym same)
marks_more (n ∷ ns) (suc k) m at = ap (λ bs. not n ∷ bs) (marks_more ns k m at)
