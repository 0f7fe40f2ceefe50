-- Steps of marking numbers.
use Rattle.std.proofs.Common.{◌≡◌, ℕ, zero, suc, ◌+◌, ◌<◌, ◌≤◌, ◌==◌, ◌||◌, Bool, true, false, List, [], ◌∷◌, ◌++◌, length, refl, sym, ap, ◌∙◌, arith, slice_set}
use Rattle.std.proofs.lemmas.Bool.Decides.{nat_tests}
use Rattle.spec_order.specs.DependencyOrder.{has}
use Rattle.gl_plan_faults.specs.Marked.{is_marked}
use Rattle.gl_plan_faults.proofs.Built.{has_pushed}
use Rattle.spec_basics.proofs.Booleans.{or_false}
use Rattle.spec_basics.proofs.Numbers.{zero_suc, suc_zero, suc_suc}

-- one number more, without a mark
pub still_marked : (marks : List Bool) (b : ℕ) → is_marked (marks ++ false ∷ []) b ≡ is_marked marks b
still_marked [] zero = refl
still_marked [] (suc b) = refl
still_marked (m ∷ marks) zero = refl
still_marked (m ∷ marks) (suc b) = still_marked marks b

or_true : (p : Bool) → true ≡ (p || true)
or_true true = refl
or_true false = refl

-- a mark more
pub set_marked : (marks : List Bool) (n b : ℕ) → n < length marks
    → is_marked (slice_set marks n true) b ≡ (is_marked marks b || n == b)
set_marked [] n b l = absurd (omega (arith, l))
set_marked (m ∷ marks) zero zero l = or_true m
set_marked (m ∷ marks) zero (suc b) l =
    or_false (is_marked marks b) ∙ ap (λ t. is_marked marks b || t) (sym (zero_suc b))
set_marked (m ∷ marks) (suc n) zero l = or_false m ∙ ap (λ t. m || t) (sym (suc_zero n))
set_marked (m ∷ marks) (suc n) (suc b) l =
    set_marked marks n b (omega (arith, l)) ∙ ap (λ t. is_marked marks b || t) (sym (suc_suc n b))

pub marked_more : (marks more : List Bool) (n b : ℕ) → n + 1 ≤ length more
    → ((k : ℕ) → is_marked more k ≡ is_marked marks k) → is_marked (slice_set more n true) b ≡ (is_marked marks b || n == b)
marked_more marks more n b long same =
    set_marked more n b (omega (arith, long)) ∙ ap (λ t. t || n == b) (same b)

-- numbers and their marks, with a number more
pub marks_pushed : (numbers : List ℕ) (marks more : List Bool) (n b : ℕ)
    → ((k : ℕ) → is_marked marks k ≡ has numbers k)
    → ((k : ℕ) → is_marked more k ≡ (is_marked marks k || n == k)) → is_marked more b ≡ has (numbers ++ n ∷ []) b
marks_pushed numbers marks more n b are set =
    set b ∙ ap (λ t. t || n == b) (are b) ∙ ap (λ t. has numbers b || t) (or_false (n == b))
    ∙ sym (has_pushed numbers n b)
