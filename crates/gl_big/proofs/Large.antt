-- The lines of the large plan make it, without a fault.
use Rattle.std.proofs.Common.{◌≡◌, ◌∙◌, ◌*◌, ◌%◌, ◌≤◌, ℕ, suc, inl, inr, List, [], ◌∷◌, ◌++◌, map, refl, sym, ap, subst, append_assoc, append-nil}
use Rattle.std.specs.Prelude.{codes, flat_map, None, Some, All}
use Rattle.std.specs.List.{range_with_len, AllByRecursion}
use Rattle.std.proofs.lemmas.Option.{none-some}
use Rattle.std.proofs.lemmas.List.Elements.{All-from_recursion}
use Rattle.gl_lines.specs.declared.line.Line.{Line}
use Rattle.gl_lines.specs.declared.line.Line.TheVariants as line
use Rattle.gl_lines.specs.declared.line.NumberedLine.{NumberedLine}
use Rattle.spec_lines.specs.Within.{IsWithin}
use Rattle.spec_plans.specs.declared.fault.FaultAt.{FaultAt}
use Rattle.spec_plans.specs.Cycles.{IsCycleOf}
use Rattle.spec_plans.specs.Making.{plan_of}
use Rattle.spec_plans.specs.NameFaults.{first_fault_at}
use Rattle.spec_plans.specs.Numbered.{numbered}
use Rattle.spec_plans.specs.Plan.{Plan}
use Rattle.spec_plans.specs.PlanNames.{unplaced_name, names_of_lists}
use Rattle.spec_plan_texts.specs.Canonical.{lines_of_section, lines_of_plan}
use Rattle.spec_plan_texts.proofs.Makes.{canonical_makes}
use Rattle.spec_plan_texts.proofs.NamesPassed.{canonical_sound}
use Rattle.spec_plan_texts.proofs.WrittenFine.{lines_within as written_within}
use Rattle.spec_reports.specs.Big.{element, big_section, big_plan}
use Rattle.gl_big.specs.Lines.{row_line, section_lines, source_lines, view_lines, listener_lines, large_lines}
use Rattle.gl_big.proofs.Counting.{map_mapped, flat_mapped}
use Rattle.gl_big.proofs.Formed.{big_acyclic, big_formed, big_good}

arranged : (rows views listeners sections : List Line) (w : Line)
    → (((rows ++ views) ++ listeners) ++ w ∷ []) ++ sections ≡ ((rows ++ views) ++ listeners) ++ ((w ∷ sections) ++ [])
arranged rows views listeners sections w = simp (append_assoc, append-nil) refl

-- they are the lines in which the plan is written
pub large_canonical : (n : ℕ) → large_lines n ≡ lines_of_plan (big_plan n)
large_canonical n =
    let names : List (List ℕ) = names_of_lists (big_plan n) in
    let numbers : List ℕ = range_with_len 0 n in
    let rows : map (line.Row (unplaced_name (codes "s"))) (map (λ k. element ((37 * k) % 101) (k % 7)) numbers)
    ≡ map (row_line (codes "s")) numbers =
    map_mapped (line.Row (unplaced_name (codes "s"))) (λ k. element ((37 * k) % 101) (k % 7)) numbers in
    let sections : flat_map (lines_of_section names) (map (big_section n) numbers)
    ≡ flat_map (section_lines (codes "s") n) numbers =
    flat_mapped (lines_of_section names) (big_section n) numbers in
    let rest : List Line → List Line → List Line = λ rs ss.
    line.Limit 16777216 ∷ (line.Source (unplaced_name (codes "s")) ∷ (((rs ++ view_lines) ++ listener_lines) ++ ((line.Writer ∷ ss) ++ []))) in
    ap (λ ls. line.Limit 16777216 ∷ line.Source (unplaced_name (codes "s")) ∷ ls)
    (arranged (map (row_line (codes "s")) numbers) view_lines listener_lines
    (flat_map (section_lines (codes "s") n) numbers) line.Writer)
    ∙ ap (λ rs. rest rs (flat_map (section_lines (codes "s") n) numbers)) (sym rows)
    ∙ ap (λ ss. rest (map (line.Row (unplaced_name (codes "s"))) (map (λ k. element ((37 * k) % 101) (k % 7)) numbers)) ss) (sym sections)

all_numbered : (P : Line → Type 0) (k : ℕ) (ls : List Line) → AllByRecursion P ls
    → AllByRecursion (λ (l : NumberedLine). P l.what) (numbered k ls)
all_numbered P k [] h = tt
all_numbered P k (l ∷ ls) h = (h.0, all_numbered P (suc k) ls h.1)

pub lines_within : (n : ℕ) (lines : List NumberedLine) → n ≤ 4294967295 → lines ≡ numbered 2 (large_lines n)
    → All (λ (l : NumberedLine). IsWithin l.what) lines
lines_within n lines few e =
    let written : AllByRecursion IsWithin (large_lines n) =
    subst (AllByRecursion IsWithin) (sym (large_canonical n)) (written_within (big_plan n) (big_formed n) (big_good n few)) in
    subst (All (λ (l : NumberedLine). IsWithin l.what)) (sym e)
    (All-from_recursion (λ (l : NumberedLine). IsWithin l.what) (numbered 2 (large_lines n))
    (all_numbered IsWithin 2 (large_lines n) written))

pub plan_made : (n : ℕ) (lines : List NumberedLine) → lines ≡ numbered 2 (large_lines n) → plan_of lines ≡ big_plan n
plan_made n lines e =
    ap plan_of e ∙ ap (λ ls. plan_of (numbered 2 ls)) (large_canonical n) ∙ canonical_makes (big_plan n) (big_formed n)

pub no_fault : (n : ℕ) (lines : List NumberedLine) (f : FaultAt) → lines ≡ numbered 2 (large_lines n)
    → first_fault_at lines ≡ Some f → ⊥
no_fault n lines f e fault =
    let none : first_fault_at lines ≡ None =
    ap first_fault_at e ∙ ap (λ ls. first_fault_at (numbered 2 ls)) (large_canonical n)
    ∙ canonical_sound (big_plan n) (big_formed n) in
    none-some f (sym none ∙ fault)

no_first : (n : ℕ) (names : List (List ℕ)) → IsCycleOf (big_plan n) names → ⊥
no_first n names (inl h) = (big_acyclic n).lists (h.0, h.1.closed)
no_first n names (inr h) = (big_acyclic n).listeners (h.1.0, h.1.1.closed)

pub no_cycle : (n : ℕ) (lines : List NumberedLine) (names : List (List ℕ)) → lines ≡ numbered 2 (large_lines n)
    → IsCycleOf (plan_of lines) names → ⊥
no_cycle n lines names e cycle =
    no_first n names (subst (λ (p : Plan). IsCycleOf p names) (plan_made n lines e) cycle)
