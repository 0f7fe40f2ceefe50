-- Lines that differ in the columns of their names alone, and the lines of a plan wherever their names stand.
use Rattle.std.proofs.Common.{◌≡◌, ◌∙◌, ℕ, suc, List, [], ◌∷◌, map, None, refl, sym, ap}
use Rattle.std.specs.Prelude.{option_map}
use Rattle.gl_lines.specs.declared.line.Line.{Line}
use Rattle.gl_lines.specs.declared.line.NumberedLine.{NumberedLine}
use Rattle.spec_plans.specs.NameFaults.{first_fault_at}
use Rattle.spec_plans.specs.Numbered.{numbered}
use Rattle.spec_plans.specs.Plan.{Plan}
use Rattle.spec_plans.specs.Making.{plan_of}
use Rattle.spec_plan_texts.specs.Canonical.{lines_of_plan}
use Rattle.spec_plan_texts.specs.Unplaced.{unplaced, unplaced_lines, in_its_line}
use Rattle.spec_plans.specs.WellFormed.{IsWellFormed}
use Rattle.spec_plan_texts.proofs.Makes.{canonical_makes}
use Rattle.spec_plan_texts.proofs.NamesPassed.{canonical_sound}
use Rattle.spec_plan_texts.proofs.Columns.{plan_unplaced}
use Rattle.spec_plan_texts.proofs.FaultColumns.{fault_unplaced}
use Rattle.spec_basics.proofs.Options.{unmapped}

-- they make one plan
pub one_plan : (ones others : List NumberedLine) → unplaced_lines ones ≡ unplaced_lines others
    → plan_of ones ≡ plan_of others
one_plan ones others e = sym (plan_unplaced ones) ∙ ap plan_of e ∙ plan_unplaced others

-- and where nothing is wrong with the ones, nothing is wrong with the others
pub sound_too : (ones others : List NumberedLine) → unplaced_lines ones ≡ unplaced_lines others
    → first_fault_at ones ≡ None → first_fault_at others ≡ None
sound_too ones others e none =
    unmapped in_its_line (first_fault_at others)
    (sym (fault_unplaced others) ∙ ap (λ ls. option_map in_its_line (first_fault_at ls)) (sym e)
    ∙ fault_unplaced ones ∙ ap (option_map in_its_line) none)

numbered_unplaced : (n : ℕ) (ls : List Line) → unplaced_lines (numbered n ls) ≡ numbered n (map unplaced ls)
numbered_unplaced n [] = refl
numbered_unplaced n (l ∷ ls) = ap (λ ks. record { line = n; what = unplaced l } ∷ ks) (numbered_unplaced (suc n) ls)

-- Lines that are those of a well formed plan, but for the columns of their names, make the plan again and are sound.
pub record Again (p : Plan) (ls : List Line) : Type 0 where
  pub makes : plan_of (numbered 2 ls) ≡ p
  pub sound : first_fault_at (numbered 2 ls) ≡ None

pub read_again : (p : Plan) (ls : List Line) → IsWellFormed p → map unplaced ls ≡ map unplaced (lines_of_plan p)
    → Again p ls
read_again p ls h e =
    let same : unplaced_lines (numbered 2 (lines_of_plan p)) ≡ unplaced_lines (numbered 2 ls) =
    numbered_unplaced 2 (lines_of_plan p) ∙ ap (numbered 2) (sym e) ∙ sym (numbered_unplaced 2 ls) in
    record {
      makes = one_plan (numbered 2 ls) (numbered 2 (lines_of_plan p)) (sym same) ∙ canonical_makes p h;
      sound = sound_too (numbered 2 (lines_of_plan p)) (numbered 2 ls) same (canonical_sound p h);
    }
