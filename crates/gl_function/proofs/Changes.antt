-- What is told of another function.
use Rattle.std.specs.Prelude.{◌≡◌, ℕ, zero, suc, ◌+◌, ◌≤◌, List, [], ◌∷◌, ◌++◌, length, map, drop, slice_get, Some, refl}
use Rattle.std.proofs.Common.{ap, sym, ◌∙◌, arith, subst}
use Rattle.spec_views.specs.Tree.{Tree}
use Rattle.spec_views.specs.Piece.{Piece, updated, old_len, new_len, normal}
use Rattle.spec_views.specs.Function.{function_change}
use Rattle.gl_kernel.specs.declared.log_step.LogStep.{LogStep}
use Rattle.gl_kernel.specs.declared.log_step.LogStep.TheVariants.{Set}
use Rattle.gl_kernel.specs.Edits.{insertions, Makes}
use Rattle.gl_kernel.specs.Fates.{outcome, spoken, edits_of}
use Rattle.gl_kernel.specs.Plans.{CanTell}
use Rattle.gl_kernel.proofs.Spreads.{can_tell_whole}
use Rattle.gl_kernel.proofs.Fates.{fates_make}
use Rattle.gl_kernel.proofs.Made.{length-made}
use Rattle.gl_kernel.proofs.ReadValues.{drop_at}
use Rattle.gl_function.specs.Told.{renewed}

-- one element more: what is left to tell is split, and so are the edits
pub change_split : (before after : Tree → Tree) (xs : List Tree) (i : ℕ) (x : Tree) → slice_get xs i ≡ Some x
    → function_change before after (drop i xs) ≡ (updated (before x) (after x) ∷ []) ++ function_change before after (drop (i + 1) xs)
change_split before after xs i x e = ap (function_change before after) (drop_at xs i x e)

pub edits_split : (after : Tree → Tree) (xs : List Tree) (i : ℕ) (x : Tree) → slice_get xs i ≡ Some x
    → edits_of i (renewed after (drop i xs)) ≡ Set i (after x) ∷ edits_of (i + 1) (renewed after (drop (i + 1) xs))
edits_split after xs i x e =
    let next : suc i ≡ i + 1 = omega arith in
    ap (λ ys. edits_of i (renewed after ys)) (drop_at xs i x e) ∙ ap (λ k. Set i (after x) ∷ edits_of k (renewed after (drop (i + 1) xs))) next

change_old : (before after : Tree → Tree) (xs : List Tree) → old_len (function_change before after xs) ≡ length xs
change_old before after [] = refl
change_old before after (x ∷ xs) = ap suc (change_old before after xs)

change_new : (before after : Tree → Tree) (xs : List Tree) → new_len (function_change before after xs) ≡ length xs
change_new before after [] = refl
change_new before after (x ∷ xs) = ap suc (change_new before after xs)

pub can_tell_change : (before after : Tree → Tree) (xs : List Tree) (out told rest : List Piece) → length xs ≤ 2147483647 → normal (out ++ (told ++ rest)) ≡ normal (function_change before after xs) → CanTell told out
can_tell_change before after xs out told rest h e =
    can_tell_whole (function_change before after xs) out told rest (omega (arith, change_old before after xs, h)) (omega (arith, change_new before after xs, h)) e

spoken-renewed : (before after : Tree → Tree) (xs : List Tree) → spoken (renewed after xs) ≡ length (map before xs)
spoken-renewed before after [] = refl
spoken-renewed before after (x ∷ xs) = ap suc (spoken-renewed before after xs)

outcome-renewed : (before after : Tree → Tree) (xs : List Tree) → outcome (renewed after xs) (map before xs) ≡ map after xs
outcome-renewed before after [] = refl
outcome-renewed before after (x ∷ xs) = ap (λ vs. after x ∷ vs) (outcome-renewed before after xs)

no_insertions : (after : Tree → Tree) (i : ℕ) (xs : List Tree) → insertions (edits_of i (renewed after xs)) ≡ 0
no_insertions after i [] = refl
no_insertions after i (x ∷ xs) = no_insertions after (suc i) xs

-- the edits lead from the old results to the new ones
pub renewed_make : (before after : Tree → Tree) (xs : List Tree) (log : List (LogStep Tree)) (items : List Tree) → length xs ≤ 2147483647 → items ≡ map before xs → log ≡ edits_of 0 (renewed after xs)
    → Makes log items (map after xs)
renewed_make before after xs log items h e g =
    let few : length (map before xs) + insertions (edits_of 0 (renewed after xs)) ≤ 4294967294 = omega (arith, length-made before xs, no_insertions after 0 xs, h) in
    let ByItems : List Tree → Type 0 = λ is. Makes log is (map after xs) in
    subst ByItems (sym e) (fates_make (renewed after xs) log (map before xs) (map after xs) g (spoken-renewed before after xs) few (outcome-renewed before after xs))
