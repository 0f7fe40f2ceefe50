-- What is written of a plan that was read reads back as that plan.
use Rattle.std.proofs.Common.{ℕ, List, sym, subst}
use Rattle.std.specs.List.{AllByRecursion}
use Rattle.spec_lines.specs.Within.{IsWithin}
use Rattle.spec_plans.specs.Plan.{Plan}
use Rattle.spec_plan_texts.specs.Canonical.{lines_of_plan, spelled_plan}
use Rattle.spec_plans.specs.WellFormed.{IsWellFormed}
use Rattle.spec_plans.proofs.Sound.{sound_lines_well_formed}
use Rattle.spec_plan_texts.specs.Text.{SpellsPlan}
use Rattle.spec_plan_texts.specs.Short.{HasShortLines}
use Rattle.spec_plan_texts.proofs.Cut.{IsFineLine}
use Rattle.spec_plan_texts.proofs.Good.{IsGood, made_good}
use Rattle.spec_plan_texts.proofs.WrittenFine.{lines_within}
use Rattle.spec_plan_texts.proofs.Read.{read_within}
use Rattle.spec_plan_texts.proofs.LinesFine.{line_fine}
use Rattle.spec_plan_texts.proofs.Back.{spelled_back}
use Rattle.spec_basics.proofs.Lists.{all_weaker}

-- the lines of a plan that a text spells are within the limits of the language
pub written_within : (bytes : List ℕ) (p : Plan) → SpellsPlan bytes p → AllByRecursion IsWithin (lines_of_plan p)
written_within bytes p spells =
    let sound : IsWellFormed p =
    subst IsWellFormed (sym spells.makes) (sound_lines_well_formed spells.lines spells.sound) in
    let good : IsGood p =
    subst IsGood (sym spells.makes) (made_good spells.lines (read_within bytes spells.lines spells.read)) in
    lines_within p sound good

pub rewritten : (bytes : List ℕ) (p : Plan) → SpellsPlan bytes p → HasShortLines p → SpellsPlan (spelled_plan p) p
rewritten bytes p spells short =
    let within = written_within bytes p spells in
    spelled_back bytes p spells within (all_weaker IsWithin IsFineLine line_fine (lines_of_plan p) within) short
