-- Steps of the loops that gather the rows of sources.
use Rattle.std.proofs.Common.{◌≡◌, ℕ, zero, suc, ◌+◌, ◌<◌, ◌==◌, false, cond, List, [], ◌∷◌, ◌++◌, length, get_or, slice_set, take, refl, sym, ap, ◌∙◌, arith, append-nil}
use Rattle.std.specs.Prelude.{option_to_list}
use Rattle.std.proofs.lemmas.Bool.Decides.{nat_tests}
use Rattle.spec_plans.specs.Tree.{Tree}
use Rattle.gl_lines.specs.declared.line.NumberedLine.{NumberedLine}
use Rattle.spec_plans.specs.Making.{row_for, rows_for}
use Rattle.gl_plan_faults.proofs.Built.{given_more}
use Rattle.gl_plan.specs.Tables.{rows_at}
use Rattle.spec_plans.proofs.BasicsNumbers.{zero_suc, suc_zero, suc_suc}

-- one empty list more
pub one_empty : (rows : List (List Tree)) → ((source : ℕ) → rows_at rows source ≡ []) → (source : ℕ) → rows_at (rows ++ [] ∷ []) source ≡ []
one_empty [] none zero = refl
one_empty [] none (suc source) = refl
one_empty (r ∷ rows) none zero = none 0
one_empty (r ∷ rows) none (suc source) = one_empty rows (λ s. none (suc s)) source

-- a value more under a number
pub put_at : (rows : List (List Tree)) (k source : ℕ) (old new : List Tree) (v : Tree) → k < length rows → old ≡ get_or rows k old → new ≡ old ++ v ∷ []
    → rows_at (slice_set rows k new) source ≡ rows_at rows source ++ cond (k == source) (v ∷ []) []
put_at [] k source old new v within is more = absurd (omega (arith, within))
put_at (r ∷ rows) zero zero old new v within is more = more ∙ ap (λ o. o ++ v ∷ []) is
put_at (r ∷ rows) zero (suc source) old new v within is more =
    sym (append-nil (rows_at rows source)) ∙ ap (λ t. rows_at rows source ++ cond t (v ∷ []) []) (sym (zero_suc source))
put_at (r ∷ rows) (suc k) zero old new v within is more = sym (append-nil r) ∙ ap (λ t. r ++ cond t (v ∷ []) []) (sym (suc_zero k))
put_at (r ∷ rows) (suc k) (suc source) old new v within is more =
    put_at rows k source old new v (omega (arith, within)) is more
    ∙ ap (λ t. rows_at rows source ++ cond t (v ∷ []) []) (sym (suc_suc k source))

-- the rows of a line more
pub rows_more : (names : List (List ℕ)) (lines : List NumberedLine) (i : ℕ) (l : NumberedLine) (rows more : List (List Tree)) → i < length lines → l ≡ get_or lines i l
    → ((source : ℕ) → rows_at rows source ≡ rows_for names (take i lines) source)
    → ((source : ℕ) → rows_at more source ≡ rows_at rows source ++ option_to_list (row_for names source l.what))
    → (source : ℕ) → rows_at more source ≡ rows_for names (take (i + 1) lines) source
rows_more names lines i l rows more within is so_far one source =
    one source ∙ ap (λ rs. rs ++ option_to_list (row_for names source l.what)) (so_far source)
    ∙ sym (given_more (λ (k : NumberedLine). row_for names source k.what) lines i l within is)
