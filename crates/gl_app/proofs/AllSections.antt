-- All sections of the large plan, taken one after another.
use Rattle.std.proofs.Common.{◌≡◌, ◌∙◌, ◌+◌, ◌-◌, ◌<◌, ◌≤◌, ℕ, zero, suc, List, [], ◌∷◌, ◌++◌, length, map, Option, None, Some, refl, sym, ap, subst, arith}
use Rattle.std.specs.Prelude.{replicate}
use Rattle.std.specs.List.{range_with_len}
use Rattle.std.proofs.lemmas.Option.{none-some}
use Rattle.std.proofs.lemmas.List.{length-map}
use Rattle.std.proofs.lemmas.List.FromFn.{length-range_with_len}
use Rattle.gl_outside.specs.declared.gate.Actor.{Actor}
use Rattle.gl_outside.specs.declared.gate.Actor.TheVariants.{Writer}
use Rattle.spec_reports.specs.Reply.{Reply}
use Rattle.spec_reports.specs.Plan.{Plan, sections_of}
use Rattle.spec_reports.specs.Opening.{opening}
use Rattle.spec_reports.specs.Step.{too_long}
use Rattle.spec_reports.specs.Run.{left_to}
use Rattle.spec_runs.specs.Entry.{taken_by}
use Rattle.spec_reports.specs.Summary.{summary}
use Rattle.spec_reports.specs.Big.{big_section, big_plan, big_summary}
use Rattle.gl_big.proofs.Opening.{never_long}

-- so many sections of the first writer
abbrev pub turns : ℕ → List Actor
turns k = replicate k (Writer 0)

all_taken : (k : ℕ) → taken_by 0 (turns k) ≡ k
all_taken zero = refl
all_taken (suc k) = ap suc (all_taken k)

-- one is left after fewer than there are
pub some_left : (p : Plan) (k : ℕ) → k < left_to p 0 [] → 0 < left_to p 0 (turns k)
some_left p k few = omega (arith, few, all_taken k)

turns_push : (k : ℕ) → turns k ++ Writer 0 ∷ [] ≡ turns (suc k)
turns_push zero = refl
turns_push (suc k) = ap (λ order. Writer 0 ∷ order) (turns_push k)

-- one section more
pub turns_more : (k : ℕ) → turns k ++ Writer 0 ∷ [] ≡ turns (k + 1)
turns_more k = let next : suc k ≡ k + 1 = omega arith in turns_push k ∙ ap turns next

many_sections : (n : ℕ) → length (sections_of (big_plan n) 0) ≡ n
many_sections n = length-map (range_with_len 0 n) (big_section n) ∙ length-range_with_len 0 n

-- the summary of the large plan, once all of its sections were taken
pub summary_of_all : (p : Plan) (n : ℕ) → p ≡ big_plan n
    → summary p (turns (length (sections_of p 0))) ≡ big_summary n
summary_of_all p n e =
    subst (λ q. summary q (turns (length (sections_of q 0))) ≡ big_summary n) (sym e)
    (ap (λ k. summary (big_plan n) (turns k)) (many_sections n))

-- the large plan opens
pub opens : (p : Plan) (n : ℕ) (r : Reply) → p ≡ big_plan n → n ≤ 10000 → too_long p.limit (opening p) ≡ Some r → ⊥
opens p n r e small long =
    let none : too_long p.limit (opening p) ≡ None =
    subst (λ q. too_long q.limit (opening q) ≡ None) (sym e) (never_long n small) in
    none-some r (sym none ∙ long)
