-- How much more room a list may take after one edit.
use Rattle.std.specs.Prelude.{ℕ, zero, suc, ◌+◌, ◌≤◌, Bool, true, false, cond, List, [], ◌∷◌, length, insert, remove, slice_set}
use Rattle.std.proofs.Common.{arith}
use Rattle.std.proofs.lemmas.List.Edits.{length-insert, length-remove}
use Rattle.std.proofs.lemmas.List.{length-set}
use Rattle.gl_barcode.specs.Bars.{stretch_count, begins_alike, same}
use Rattle.gl_kernel.specs.declared.log_step.LogStep.{LogStep}
use Rattle.gl_kernel.specs.declared.log_step.LogStep.TheVariants.{Insert, Remove, Set}
use Rattle.gl_kernel.specs.Edits.{edited, IsWithin}

pub length_grows : {T : Type 0} (e : LogStep T) (xs : List T) → IsWithin e xs
    → length (edited e xs) ≤ length xs + 1
length_grows (Insert at x) xs h = omega (arith, length-insert xs at x h)
length_grows (Remove at) xs h = omega (arith, length-remove xs at h)
length_grows (Set at x) xs h = omega (arith, length-set xs at x)

at_most_one : (b : Bool) → cond b 0 1 ≤ 1
at_most_one true = omega arith
at_most_one false = omega arith

first_more : (b : Bool) (bs : List Bool) → stretch_count (b ∷ bs) ≤ stretch_count bs + 1
unfolding stretch_count
first_more b bs = omega (arith, at_most_one (begins_alike b bs))

first_less : (b : Bool) (bs : List Bool) → stretch_count bs ≤ stretch_count (b ∷ bs)
unfolding stretch_count
first_less b bs = omega arith

insert_grows : (bs : List Bool) (at : ℕ) (x : Bool)
    → stretch_count (insert bs at x) ≤ stretch_count bs + 2
unfolding stretch_count
insert_grows bs zero x = omega (arith, first_more x bs)
insert_grows [] (suc at) x = omega (arith, first_more x [])
insert_grows (b ∷ []) (suc at) x = omega (arith, one at, first_more b (x ∷ []), first_more x [])
  where
    one : (k : ℕ) → stretch_count (b ∷ insert [] k x) ≤ stretch_count (b ∷ x ∷ [])
    one zero = omega arith
    one (suc k) = omega arith
insert_grows (b ∷ c ∷ cs) (suc zero) x =
    omega (arith, first_more b (x ∷ c ∷ cs), first_more x (c ∷ cs), first_less b (c ∷ cs))
insert_grows (b ∷ c ∷ cs) (suc (suc at)) x = omega (arith, insert_grows (c ∷ cs) (suc at) x)

swap : (b c d : Bool) (ds : List Bool)
    → cond (begins_alike b (d ∷ ds)) 0 1
    ≤ cond (begins_alike b (c ∷ d ∷ ds)) 0 1 + cond (begins_alike c (d ∷ ds)) 0 1
swap true true d ds = omega arith
swap true false true ds = omega arith
swap true false false ds = omega arith
swap false true true ds = omega arith
swap false true false ds = omega arith
swap false false d ds = omega arith

second_removed : (b c d : Bool) (ds : List Bool)
    → stretch_count (b ∷ d ∷ ds) ≤ stretch_count (b ∷ c ∷ d ∷ ds)
unfolding stretch_count
second_removed b c d ds = omega (arith, swap b c d ds)

remove_grows : (bs : List Bool) (at : ℕ) → stretch_count (remove bs at) ≤ stretch_count bs
unfolding stretch_count
remove_grows [] zero = omega arith
remove_grows [] (suc at) = omega arith
remove_grows (b ∷ bs) zero = first_less b bs
remove_grows (b ∷ []) (suc zero) = omega arith
remove_grows (b ∷ []) (suc (suc at)) = omega arith
remove_grows (b ∷ c ∷ []) (suc zero) = omega (arith, at_most_one (same b c))
remove_grows (b ∷ c ∷ d ∷ ds) (suc zero) = second_removed b c d ds
remove_grows (b ∷ c ∷ cs) (suc (suc at)) = omega (arith, remove_grows (c ∷ cs) (suc at))

set_grows : (bs : List Bool) (at : ℕ) (x : Bool)
    → stretch_count (slice_set bs at x) ≤ stretch_count bs + 2
unfolding stretch_count
set_grows [] at x = omega arith
set_grows (b ∷ bs) zero x = omega (arith, first_more x bs, first_less b bs)
set_grows (b ∷ []) (suc at) x = omega arith
set_grows (b ∷ c ∷ cs) (suc zero) x =
    omega (arith, first_more b (x ∷ cs), first_more x cs, first_less c cs, first_less b (c ∷ cs))
set_grows (b ∷ c ∷ cs) (suc (suc at)) x = omega (arith, set_grows (c ∷ cs) (suc at) x)

pub stretches_grow : (e : LogStep Bool) (xs : List Bool) → IsWithin e xs
    → stretch_count (edited e xs) ≤ stretch_count xs + 2
stretches_grow (Insert at x) xs h = insert_grows xs at x
stretches_grow (Remove at) xs h = omega (arith, remove_grows xs at)
stretches_grow (Set at x) xs h = set_grows xs at x
